-- What each step of the rules does to a set, identifier by identifier, and what it asks of the arrays that hold packages and lists.
use Rattle.std.specs.Prelude.{ℕ, ◌≤◌, ◌<◌, ◌≡◌, refl, Bool, true, false, not, ◌&&◌, ◌||◌, List, length, eqb, ltb}
use Rattle.meaning.specs.Sets.{Words, in_set}
use Rattle.meaning.specs.Learn.{Listed, lists_in, place_for}
use Rattle.meaning.specs.Wishes.{wanted, ours}
use Rattle.meaning.specs.Rules.{list_of, lists_it}
use Rattle.meaning.specs.Soundness.{SecondsBelow}
use Rattle.meaning.specs.declared.Options.{Options}
use Rattle.meaning.proofs.ListLaws.{or_false, or_assoc, and_true}
use Rattle.learning.specs.Kept.{pairs_in}

-- ---- sets of 65,536 identifiers

-- The set holds those that pass a test.
pub record SetIs (f : ℕ → Bool) (ws : Words) : Type 0 where
  pub all_words : length ws ≡ 1024
  pub member : (q : ℕ) → q < 65536 → in_set ws q ≡ f q

-- From one set to another, as long: what a test says of each identifier decides, in one way or another, whether it is in afterwards.
pub record Changed (way : Bool → Bool → Bool) (f : ℕ → Bool) (ws ws' : Words) : Type 0 where
  pub as_long : length ws' ≡ length ws
  pub member : (q : ℕ) → q < 65536 → in_set ws' q ≡ way (in_set ws q) (f q)

-- Those that pass come in, or go out; the others stay as they were.
abbrev pub comes : Bool → Bool → Bool
comes was passes = was || passes

abbrev pub goes : Bool → Bool → Bool
goes was passes = was && not passes

abbrev pub Inserts : (ℕ → Bool) → Words → Words → Type 0
Inserts f ws ws' = Changed comes f ws ws'

abbrev pub Removes : (ℕ → Bool) → Words → Words → Type 0
Removes f ws ws' = Changed goes f ws ws'

-- What does not pass stays; two tests one after the other are one.
pub record Way (way : Bool → Bool → Bool) : Type 0 where
  pub stays : (a : Bool) → way a false ≡ a
  pub both : (a b c : Bool) → way (way a b) c ≡ way a (b || c)

and_not_or : (a b c : Bool) → ((a && not b) && not c) ≡ (a && not (b || c))
and_not_or true true c = refl
and_not_or true false c = refl
and_not_or false b c = refl

pub inserting : Way comes
inserting = record { stays = or_false; both = or_assoc }

pub removing : Way goes
removing = record { stays = and_true; both = and_not_or }

-- ---- what a package names

-- Of its MPT's identifier and its assets those that are picked, by whether they stay.
abbrev pub picked_by : (Bool → Bool) → Options → List (ℕ × Listed) → ℕ → ℕ × ℕ → Bool
picked_by picks o ls q pkg =
    (picks (ours o.service pkg.0) && eqb pkg.1 q) || lists_it (λ part. picks (ours o.service pkg.0 && wanted o part)) q (list_of pkg.1 ls)

-- ---- the arrays

-- n packages in an array of 255.
pub record Packages (n : ℕ) (packages : List ℕ) : Type 0 where
  pub few : n ≤ 255
  pub slots_all : length packages ≡ 255

-- The heads of n lists in an array of 64.
pub record MapHeads (n : ℕ) (map_heads : List ℕ) : Type 0 where
  pub few : n ≤ 64
  pub slots_all : length map_heads ≡ 64

-- The heads, and the assets in the map room.
pub record MapLists (n : ℕ) (map_heads map_room : List ℕ) : Type 0 where
  pub heads : MapHeads n map_heads
  pub small : SecondsBelow 256 (pairs_in n map_heads)
  pub map_room_all : length map_room ≡ 32768

abbrev pub lists_at : ℕ → List ℕ → List ℕ → List (ℕ × Listed)
lists_at n map_heads map_room = lists_in (pairs_in n map_heads) map_room

-- Whether a package's MPT has its list, among n.
abbrev pub has_list : ℕ → List ℕ → ℕ × ℕ → Bool
has_list n map_heads pkg = ltb (place_for pkg.1 (pairs_in n map_heads)) n
