-- What packages drop and keep: the list of a package's MPT by its place among the heads, and what of a package is picked.
-- Rests on the definitions of lists and rules, on AssetRules and on MemberLaws.
use Prim.Native.Nat.{ℕ, zero, suc, ◌+◌, ◌-◌, ◌*◌, ◌/◌, ◌%◌, ◌≤◌, ◌<◌}
use mathlib.Core.Path.{◌≡◌, refl, sym, ap, ◌∙◌}
use mathlib.Core.Bool.{Bool, true, false, cond, not, ◌&&◌, ◌||◌}
use mathlib.Core.List.{List, [], ◌∷◌, map}
use mathlib.Core.Option.{Option, none, some}
use native.Mathlib.Omega.{arith}
use native.Mathlib.Numerals.{add-one}
use lib.Dec.{eqb}
use lib.ListN.{length, take, drop, get_or}
use lib.Seq.{drop-drop, drop-cons}
use Rattle.std.proofs.lemmas.List.{drop_all}
use Rattle.meaning.specs.Sets.{Words}
use Rattle.meaning.specs.Lists.{any}
use Rattle.meaning.specs.Wishes.{wanted, ours}
use Rattle.meaning.specs.Learn.{Listed, assets_in, lists_in, place_for}
use Rattle.meaning.specs.Rules.{list_of, assets_of, lists_it, kept_by, dropped_by}
use Rattle.meaning.specs.Record.{pair_of}
use Rattle.meaning.proofs.ListLaws.{and_false}
use Rattle.meaning.specs.declared.Part.{Part}
use Rattle.meaning.specs.declared.Options.{Options}
use Rattle.learning.specs.Kept.{pairs_in}
use Rattle.learning.proofs.PairLaws.{count_small}
use Rattle.rules.specs.Changes.{Changed, Way, picked_by, MapLists, lists_at}
use Rattle.rules.proofs.AssetRules.{listed, listed_part}
use Rattle.rules.proofs.MemberLaws.{changed_same, changed_none, changed_then}

-- ---- the list of an MPT

-- where its place is one of the heads', it is held there
pub list_found : (p n : ℕ) (map_heads map_room : List ℕ) → n ≤ length map_heads → place_for p (pairs_in n map_heads) < n
    → list_of p (lists_at n map_heads map_room) ≡ some (assets_in (get_or map_heads (place_for p (pairs_in n map_heads)) 0 % 65536) (drop (512 * place_for p (pairs_in n map_heads)) map_room))
unfolding list_of lists_in place_for pair_of
list_found p zero map_heads map_room l h = absurd (omega arith)
list_found p (suc n) [] map_room l h = absurd (omega arith)
list_found p (suc n) (m ∷ map_heads) map_room l h = go (eqb (m / 65536) p) h (λ g. list_found p n map_heads (drop 512 map_room) (omega arith) g)
  where
    i : ℕ
    i = place_for p (pairs_in n map_heads)

    go : (b : Bool) → cond b 0 (suc i) < suc n
        → (i < n → list_of p (lists_at n map_heads (drop 512 map_room)) ≡ some (assets_in (get_or map_heads i 0 % 65536) (drop (512 * i) (drop 512 map_room))))
        → cond b (some (assets_in (m % 65536) map_room)) (list_of p (lists_at n map_heads (drop 512 map_room)))
        ≡ some (assets_in (get_or (m ∷ map_heads) (cond b 0 (suc i)) 0 % 65536) (drop (512 * cond b 0 (suc i)) map_room))
    go true h ih = refl
    go false h ih =
        let e : 512 * suc i ≡ 512 + 512 * i = omega arith in
        ih (omega arith) ∙ ap (λ (r : List ℕ). some (assets_in (get_or map_heads i 0 % 65536) r)) (drop-drop (512 * i) 512 map_room ∙ ap (λ (n : ℕ). drop n map_room) (sym e))

-- where it is past them, there is none
pub list_none : (p n : ℕ) (map_heads map_room : List ℕ) → n ≤ place_for p (pairs_in n map_heads) → list_of p (lists_at n map_heads map_room) ≡ none
unfolding list_of lists_in place_for pair_of
list_none p zero map_heads map_room h = refl
list_none p (suc n) [] map_room h = refl
list_none p (suc n) (m ∷ map_heads) map_room h = go (eqb (m / 65536) p) h (λ g. list_none p n map_heads (drop 512 map_room) g)
  where
    i : ℕ
    i = place_for p (pairs_in n map_heads)

    go : (b : Bool) → suc n ≤ cond b 0 (suc i) → (n ≤ i → list_of p (lists_at n map_heads (drop 512 map_room)) ≡ none)
        → cond b (some (assets_in (m % 65536) map_room)) (list_of p (lists_at n map_heads (drop 512 map_room))) ≡ none
    go true h ih = absurd (omega arith)
    go false h ih = ih (omega arith)

-- a list that a head tells of is within the room
pub list_within : (n i : ℕ) (map_heads map_room : List ℕ) → MapLists n map_heads map_room → i < n → 512 * i + 2 * (get_or map_heads i 0 % 65536) ≤ length map_room
list_within n i map_heads map_room r h =
    let c : get_or map_heads i 0 % 65536 < 256 = count_small n i map_heads r.small h (omega (arith, r.heads.few, r.heads.slots_all)) in
    omega (arith, r.heads.few, r.map_room_all)

-- ---- what is picked is what is dropped, or what is kept

nothing_named : (q : ℕ) (as' : Listed) → any (λ a. eqb a.0 q && false) as' ≡ false
unfolding any
nothing_named q [] = refl
nothing_named q (a ∷ as') = rw (and_false (eqb a.0 q)) (nothing_named q as')

module _ (o : Options) (ls : List (ℕ × Listed)) (q : ℕ) (pkg : ℕ × ℕ) where
  pub dropped_is : picked_by not o ls q pkg ≡ dropped_by o ls q pkg
  unfolding dropped_by
  dropped_is = go (ours o.service pkg.0)
    where
      go : (mine : Bool) → ((not mine && eqb pkg.1 q) || lists_it (λ part. not (mine && wanted o part)) q (list_of pkg.1 ls))
          ≡ cond mine (lists_it (λ part. not (wanted o part)) q (list_of pkg.1 ls)) (eqb pkg.1 q || lists_it (λ part. true) q (list_of pkg.1 ls))
      go true = refl
      go false = refl

  pub kept_is : picked_by (λ stays. stays) o ls q pkg ≡ kept_by o ls q pkg
  unfolding kept_by
  kept_is = go (ours o.service pkg.0)
    where
      go : (mine : Bool) → ((mine && eqb pkg.1 q) || lists_it (λ part. mine && wanted o part) q (list_of pkg.1 ls))
          ≡ (mine && (eqb pkg.1 q || lists_it (wanted o) q (list_of pkg.1 ls)))
      go true = refl
      go false = nothing_named q (assets_of (list_of pkg.1 ls))

-- ---- one package

module _ (picks : Bool → Bool) (o : Options) (n p : ℕ) (map_heads map_room : List ℕ) (r : MapLists n map_heads map_room) where
  abbrev pub test : Bool → Part → Bool
  test mine part = picks (mine && wanted o part)

  abbrev picked : ℕ → Bool
  picked q = picked_by picks o (lists_at n map_heads map_room) q (pair_of p)

  abbrev list : Option Listed
  list = list_of (p % 65536) (lists_at n map_heads map_room)

  picked_is : (mine : Bool) → mine ≡ ours o.service (p / 65536) → (q : ℕ) → ((picks mine && eqb (p % 65536) q) || lists_it (test mine) q list) ≡ picked q
  unfolding pair_of
  picked_is mine e q = rw e

  module _ {way : Bool → Bool → Bool} (w : Way way) where
    -- its MPT's identifier
    pub own_picked : {mine : Bool} {a b : Words} → picks mine ≡ true → Changed way (eqb (p % 65536)) a b → Changed way (λ q. picks mine && eqb (p % 65536) q) a b
    own_picked e x = changed_same (λ q. rw e) x

    pub own_left : {mine : Bool} (a : Words) → picks mine ≡ false → Changed way (λ q. picks mine && eqb (p % 65536) q) a a
    own_left a e = changed_none w a (λ q. rw e)

    -- then its list, if there is one
    module _ {mine : Bool} (m : mine ≡ ours o.service (p / 65536)) (i : ℕ) (e : i ≡ place_for (p % 65536) (pairs_in n map_heads)) {a b : Words} (x : Changed way (λ q. picks mine && eqb (p % 65536) q) a b) where
      pub list_there : i < n → {c : Words}
          → Changed way (λ q. lists_it (test mine) q (some (listed (take (512 * i + 2 * (get_or map_heads i 0 % 65536) - 512 * i) (drop (512 * i) map_room))))) b c → Changed way picked a c
      list_there h y =
          let m_list : listed (take (512 * i + 2 * (get_or map_heads i 0 % 65536) - 512 * i) (drop (512 * i) map_room)) ≡ assets_in (get_or map_heads i 0 % 65536) (drop (512 * i) map_room) =
          listed_part (512 * i) (get_or map_heads i 0 % 65536) map_room (list_within n i map_heads map_room r h) in
          let found : (q : ℕ) → lists_it (test mine) q (some (assets_in (get_or map_heads i 0 % 65536) (drop (512 * i) map_room))) ≡ lists_it (test mine) q list =
          λ q. rw e (ap (lists_it (test mine) q) (sym (list_found (p % 65536) n map_heads map_room (omega (arith, r.heads.few, r.heads.slots_all)) (omega arith)))) in
          changed_same (picked_is mine m) (changed_then w x (changed_same (λ q. ap (λ (as' : Listed). lists_it (test mine) q (some as')) m_list ∙ found q) y))

      pub list_missing : n ≤ i → Changed way picked a b
      unfolding any
      list_missing h =
          let none_there : (q : ℕ) → lists_it (test mine) q list ≡ false = λ q. ap (lists_it (test mine) q) (list_none (p % 65536) n map_heads map_room (omega arith)) in
          changed_same (picked_is mine m) (changed_then w x (changed_none w b none_there))

    -- not ours, where nothing that goes is picked
    pub package_left : (ws : Words) → ours o.service (p / 65536) ≡ false → picks false ≡ false → Changed way picked ws ws
    unfolding pair_of
    package_left ws e f = changed_none w ws (λ q. rw (e, f) (nothing_named q (assets_of list)))

-- ---- the packages, one after the other

pub pairs_next : (i : ℕ) (xs : List ℕ) → i < length xs → map pair_of (drop i xs) ≡ pair_of (get_or xs i 0) ∷ map pair_of (drop (i + 1) xs)
pairs_next i xs h = ap (map pair_of) (drop-cons xs i 0 h) ∙ ap (λ (j : ℕ). pair_of (get_or xs i 0) ∷ map pair_of (drop j xs)) (sym (add-one i))

pub pairs_end : (i : ℕ) (xs : List ℕ) → length xs ≤ i → map pair_of (drop i xs) ≡ []
pairs_end i xs h = ap (map pair_of) (drop_all i xs h)
