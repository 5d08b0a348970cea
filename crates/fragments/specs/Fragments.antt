-- How the code holds fragments, and what its functions promise: the state that the heads and the room hold afterwards, whatever state they
-- held, and that each byte of the room moved at most once.
use Rattle.std.specs.Prelude.{ℕ, suc, ◌+◌, ◌-◌, ◌%◌, ◌≤◌, ◌≡◌, true, false, cond, List, [], ◌∷◌, ◌++◌, map, length, take, drop, eqb, ltb}
use Rattle.std.proofs.Math.Option.{none, some}
use Rattle.meaning.specs.Bytes.{Bytes}
use Rattle.meaning.specs.Learn.{Fragment, without, fragment_of, grow_in, hold_first, fits, middle}
use Rattle.meaning.specs.Record.{slots, fragment_head, fragment_identifier, room_of, lens}
use Rattle.meaning.specs.Leading.{index_of, leading_after}
use Rattle.meaning.specs.Moves.{MovedOnce}
use Rattle.meaning.specs.Soundness.{distinct, identifiers, HoldsFragments}
use Rattle.meaning.specs.declared.Limits.{Limits}
use Rattle.fragments.specs.declared.Held.{Held}
use Rattle.fragments.specs.declared.Grown.{Grown}
use Rattle.fragments.specs.declared.place.Place.{Place}

-- ---- heads alone

-- The first head of an identifier; the number of heads where none has it.
unfoldable pub index_in : ℕ → List ℕ → ℕ
unfolding fragment_identifier
index_in p [] = 0
index_in p (h ∷ hs) = cond (eqb (fragment_identifier h) p) 0 (suc (index_in p hs))

-- So many heads of these fragments in an array whose unused slots are zero.
pub record Heads (fs : List Fragment) (n : ℕ) (fragment_heads : List ℕ) : Type 0 where
  pub count : n ≡ length fs
  pub are : fragment_heads ≡ slots 256 (map fragment_head fs)

-- How many there are without the one at an index, if there is one.
unfoldable pub others_of : ℕ → ℕ → ℕ
others_of index n = cond (ltb index n) (n - 1) n

-- The length in the head at an index, none where there is no head.
unfoldable pub length_at : ℕ → ℕ → List ℕ → ℕ
unfolding lens
length_at index n fragment_heads = lens (take 1 (drop index (take n fragment_heads)))

-- The head of the identifier taken out, if there is one.
abbrev pub TakesOut : ℕ → ℕ → List ℕ → List ℕ → Type 0
TakesOut index n fragment_heads fragment_heads' =
    (p : ℕ) (fs : List Fragment) → distinct (identifiers fs) ≡ true → index ≡ index_of p fs → Heads fs n fragment_heads
    → Heads (without p fs) (others_of index n) fragment_heads'

-- ---- heads and a room

-- They hold these fragments: heads in an array, bodies of those that lead at the front of the room, of the others at its end.
pub record KeptFragments (T : ℕ) (fs : List Fragment) (n leading : ℕ) (fragment_heads : List ℕ) (bodies : Bytes) : Type 0 where
  pub heads : Heads fs n fragment_heads
  pub free : Bytes
  pub room_is : bodies ≡ room_of leading fs free
  pub total : length bodies ≡ T
  pub total_few : T ≤ 16777216
  pub hold : HoldsFragments T fs

-- They hold some fragments.
abbrev pub KeepsFragments : ℕ → ℕ → List ℕ → Bytes → Type 0
KeepsFragments n leading fragment_heads bodies = (T : ℕ) × (fs : List Fragment) × KeptFragments T fs n leading fragment_heads bodies

-- The numbers of heads and a room that hold fragments.
pub record Numbers (n : ℕ) (fragment_heads : List ℕ) (bodies : Bytes) : Type 0 where
  pub few : n ≤ 256
  pub within : lens (take n fragment_heads) ≤ length bodies
  pub total_few : length bodies ≤ 16777216

-- After a payload of the identifier: what is held, and how many lead.
pub record HeldAfter (T p : ℕ) (fs fs' : List Fragment) (leading : ℕ) (r : Held) (fragment_heads' : List ℕ) (bodies' : Bytes) : Type 0 where
  pub kept : KeptFragments T fs' r.count r.leading fragment_heads' bodies'
  pub leading_is : r.leading ≡ leading_after p fs fs' leading

-- The sense of a number of leading fragments that is handed in: at most all lead.
pub record Nearest (n leading r : ℕ) : Type 0 where
  pub low : r ≤ n
  pub within : leading ≤ n → r ≡ leading
  pub above : n ≤ leading → r ≡ n

-- A place, by the lengths in the heads: of the fragment at its index, or of one that would stand behind all.
pub record Stands (n : ℕ) (fragment_heads : List ℕ) (place : Place) : Type 0 where
  pub index_low : place.index ≤ n
  pub leading_low : place.leading.count ≤ n
  pub start_is : place.start ≡ lens (take place.index fragment_heads)
  pub own_is : place.own ≡ length_at place.index n fragment_heads
  pub free_is : place.leading.bytes ≡ lens (take place.leading.count fragment_heads)
  pub all_is : place.all ≡ lens (take n fragment_heads)

-- ---- a fragment given up

-- At an index, where there may be none.
pub record DropsAt (index n leading : ℕ) (fragment_heads : List ℕ) (bodies : Bytes) (r : Held) (fragment_heads' : List ℕ) (bodies' : Bytes) : Type 0 where
  pub left : (T p : ℕ) (fs : List Fragment) → index ≡ index_of p fs → KeptFragments T fs n leading fragment_heads bodies
      → HeldAfter T p fs (without p fs) leading r fragment_heads' bodies'
  pub once : (b : Bytes) → MovedOnce bodies b bodies'

pub record Drops (p n leading : ℕ) (fragment_heads : List ℕ) (bodies : Bytes) (r : Held) (fragment_heads' : List ℕ) (bodies' : Bytes) : Type 0 where
  pub left : (T : ℕ) (fs : List Fragment) → KeptFragments T fs n leading fragment_heads bodies
      → HeldAfter T p fs (without p fs) leading r fragment_heads' bodies'
  pub once : (b : Bytes) → MovedOnce bodies b bodies'

-- The last that leads given up: the room is not lent, so nothing moves.
abbrev pub GivesBack : ℕ → ℕ → List ℕ → Held → List ℕ → Type 0
GivesBack n leading fragment_heads r fragment_heads' =
    (r.leading ≡ leading - 1)
    × ((T p : ℕ) (fs : List Fragment) (bodies : Bytes) → leading ≡ index_of p fs + 1 → KeptFragments T fs n leading fragment_heads bodies
    → KeptFragments T (without p fs) r.count r.leading fragment_heads' bodies)

-- ---- a first

abbrev pub held_behind : ℕ → ℕ → Bytes → List Fragment → List Fragment
held_behind p flags b fs = without p fs ++ (record { identifier = p; flags = flags % 64; body = b } ∷ [])

-- It is held behind the others; what was held of its identifier stood at the index.
pub record PutsBehind (index p flags : ℕ) (b : Bytes) (n leading : ℕ) (fragment_heads : List ℕ) (bodies : Bytes) (r : Held) (fragment_heads' : List ℕ) (bodies' : Bytes) : Type 0 where
  pub held : (L : Limits) (fs : List Fragment) → index ≡ index_of p fs → KeptFragments L.total fs n leading fragment_heads bodies
      → KeptFragments L.total (hold_first L p flags b fs) r.count r.leading fragment_heads' bodies' × (hold_first L p flags b fs ≡ held_behind p flags b fs)
  pub leading_is : r.leading ≡ others_of index n + 1
  pub once : MovedOnce bodies b bodies'

pub record HoldsFirst (p flags : ℕ) (b : Bytes) (n leading : ℕ) (fragment_heads : List ℕ) (bodies : Bytes) (r : Held) (fragment_heads' : List ℕ) (bodies' : Bytes) : Type 0 where
  pub held : (L : Limits) (fs : List Fragment) → KeptFragments L.total fs n leading fragment_heads bodies
      → HeldAfter L.total p fs (hold_first L p flags b fs) leading r fragment_heads' bodies'
  pub once : MovedOnce bodies b bodies'

-- ---- a middle or last

-- The fragment at an index grows by b, is the last that leads then, and its body stands from `start` on.
pub record Grows (T p : ℕ) (b : Bytes) (fs : List Fragment) (n leading start : ℕ) (fragment_heads' : List ℕ) (bodies' : Bytes) : Type 0 where
  pub fragment : Fragment
  pub found : fragment_of p fs ≡ some fragment
  pub kept : KeptFragments T (grow_in p b fs) n leading fragment_heads' bodies'
  pub body_is : take (length fragment.body + length b) (drop start bodies') ≡ fragment.body ++ b

pub record Lengthens (index : ℕ) (b : Bytes) (n leading : ℕ) (fragment_heads : List ℕ) (bodies : Bytes) (fragment_heads' : List ℕ) (bodies' : Bytes) : Type 0 where
  pub grows : (T p : ℕ) (fs : List Fragment) → index ≡ index_of p fs → KeptFragments T fs n leading fragment_heads bodies → HoldsFragments T (grow_in p b fs)
      → Grows T p b fs n (index + 1) (lens (take index fragment_heads)) fragment_heads' bodies'
  pub once : MovedOnce bodies b bodies'

-- It fits: it has grown, and its body stands from `start` to `end`.
pub record GrewAt (L : Limits) (p : ℕ) (b : Bytes) (fs : List Fragment) (start end flags : ℕ) (h : Held) (fragment_heads' : List ℕ) (bodies' : Bytes) : Type 0 where
  pub fragment : Fragment
  pub found : fragment_of p fs ≡ some fragment
  pub fitting : fits L fragment b fs ≡ true
  pub kept : KeptFragments L.total (grow_in p b fs) h.count h.leading fragment_heads' bodies'
  pub leading_is : h.leading ≡ index_of p fs + 1
  pub leading_low : h.leading ≤ h.count
  pub flags_are : flags ≡ fragment.flags
  pub ordered : start ≤ end
  pub inside : end ≤ length bodies'
  pub body_is : take (end - start) (drop start bodies') ≡ fragment.body ++ b

-- It does not: it is given up.
pub record GaveUp (L : Limits) (p : ℕ) (b : Bytes) (fs : List Fragment) (leading : ℕ) (h : Held) (fragment_heads' : List ℕ) (bodies' : Bytes) : Type 0 where
  pub fragment : Fragment
  pub found : fragment_of p fs ≡ some fragment
  pub fitting : fits L fragment b fs ≡ false
  pub left : HeldAfter L.total p fs (without p fs) leading h fragment_heads' bodies'

abbrev pub GrownIs : Grown → Limits → ℕ → Bytes → List Fragment → ℕ → List ℕ → Bytes → List ℕ → Bytes → Type 0
GrownIs (Grown.At start end flags h) L p b fs leading fragment_heads bodies fragment_heads' bodies' = GrewAt L p b fs start end flags h fragment_heads' bodies'
GrownIs (Grown.Discarded h) L p b fs leading fragment_heads bodies fragment_heads' bodies' = GaveUp L p b fs leading h fragment_heads' bodies'
GrownIs Grown.Absent L p b fs leading fragment_heads bodies fragment_heads' bodies' = (fragment_of p fs ≡ none) × (fragment_heads' ≡ fragment_heads) × (bodies' ≡ bodies)

pub record GrowsWithin (p most : ℕ) (b : Bytes) (n leading : ℕ) (fragment_heads : List ℕ) (bodies : Bytes) (r : Grown) (fragment_heads' : List ℕ) (bodies' : Bytes) : Type 0 where
  pub is : (L : Limits) (fs : List Fragment) → L.most ≡ most → KeptFragments L.total fs n leading fragment_heads bodies
      → GrownIs r L p b fs leading fragment_heads bodies fragment_heads' bodies'
  pub once : MovedOnce bodies b bodies'

-- The same, told by the index of the identifier's fragment.
pub record GrowsAtIndex (index most : ℕ) (b : Bytes) (n leading : ℕ) (fragment_heads : List ℕ) (bodies : Bytes) (r : Grown) (fragment_heads' : List ℕ) (bodies' : Bytes) : Type 0 where
  pub is : (L : Limits) (p : ℕ) (fs : List Fragment) → index ≡ index_of p fs → L.most ≡ most → KeptFragments L.total fs n leading fragment_heads bodies
      → GrownIs r L p b fs leading fragment_heads bodies fragment_heads' bodies'
  pub once : MovedOnce bodies b bodies'

pub record LearnsMiddle (p most : ℕ) (b : Bytes) (n leading : ℕ) (fragment_heads : List ℕ) (bodies : Bytes) (r : Held) (fragment_heads' : List ℕ) (bodies' : Bytes) : Type 0 where
  pub learned : (L : Limits) (fs : List Fragment) → L.most ≡ most → KeptFragments L.total fs n leading fragment_heads bodies
      → HeldAfter L.total p fs (middle L p b fs) leading r fragment_heads' bodies'
  pub once : MovedOnce bodies b bodies'
