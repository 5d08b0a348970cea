-- A list in slots, unused slots zero, and pairs in such an array: one put over another or behind the last, one put between two, the pairs
-- that are in it. Any number of slots, so that packages and map heads share it. Rests on Pairs and on meaning's record laws.
use Prim.Native.Nat.{ℕ, zero, suc, max, ◌+◌, ◌-◌, ◌/◌, ◌%◌, ◌≤◌, ◌<◌}
use mathlib.Core.Path.{◌≡◌, refl, sym, ap, ap₂, ◌∙◌}
use mathlib.Core.Bool.{Bool, true, ◌&&◌}
use mathlib.Core.List.{List, [], ◌∷◌, ◌++◌, map, map-append, append_assoc, append-nil}
use native.Mathlib.Nat.{sub-zero, zero-sub, suc-sub-suc}
use native.Mathlib.Numerals.{add-one}
use native.Mathlib.Omega.{arith}
use lib.ListN.{length, take, drop, get_or, set, replicate, length-append, length-map, length-replicate, length-drop, drop_of_length-le, get_or-map}
use lib.Seq.{length-take-le, take-append-le, take-set-lt, take-suc-set, set_split, set-append_left, append_snoc, get_or-take}
use lib.Dec.{eqb}
use lib.Pointwise.{pointwise}
use borrow.Author.Tests.{eq-eqb, eqb-true}
use Rattle.std.specs.List.{copy_within}
use Rattle.meaning.specs.Record.{slots, pack_pair, pair_of}
use Rattle.meaning.specs.Soundness.{SecondsBelow}
use Rattle.meaning.proofs.SoundnessLaws.{slots_used, used, pair_pack}
use Rattle.meaning.proofs.ListLaws.{clash, and_both}
use Rattle.learning.specs.Kept.{pairs_in, Pairs}
use Rattle.learning.specs.News.{same_numbers, same_pairs}

-- ---- a list in slots

pub slots_length : (N : ℕ) (ms : List ℕ) → length ms ≤ N → length (slots N ms) ≡ N
unfolding slots
slots_length N ms h = omega (arith, length-append ms (replicate (N - length ms) 0), length-replicate {A = ℕ} (N - length ms) 0)

pub slots_take : (i N : ℕ) (ms : List ℕ) → i ≤ length ms → take i (slots N ms) ≡ take i ms
unfolding slots
slots_take i N ms h = take-append-le i ms (replicate (N - length ms) 0) h

zeros_drop : (j N : ℕ) → drop {A = ℕ} j (replicate N 0) ≡ replicate (N - j) 0
zeros_drop zero N = rw (sub-zero N)
zeros_drop (suc j) zero = rw (zero-sub (suc j))
zeros_drop (suc j) (suc N) = rw (suc-sub-suc N j) (zeros_drop j N)

pub slots_drop : (j N : ℕ) (ms : List ℕ) → drop j (slots N ms) ≡ slots (N - j) (drop j ms)
unfolding slots
slots_drop zero N ms = rw (sub-zero N)
slots_drop (suc j) N [] = rw (sub-zero N, sub-zero (N - suc j)) (zeros_drop (suc j) N)
slots_drop (suc j) N (m ∷ ms) =
    let p : N - suc (length ms) ≡ N - 1 - length ms = omega arith in
    let q : N - suc j ≡ N - 1 - j = omega arith in
    rw (p, q) (slots_drop j (N - 1) ms)

pub slots_append : (as' ms : List ℕ) (M N : ℕ) → N ≡ length as' + M → as' ++ slots M ms ≡ slots N (as' ++ ms)
unfolding slots
slots_append as' ms M N e =
    let k : M - length ms ≡ N - length (as' ++ ms) = omega (arith, length-append as' ms) in
    sym (append_assoc as' ms (replicate (M - length ms) 0)) ∙ ap (λ (z : ℕ). (as' ++ ms) ++ replicate z 0) k

module _ (N : ℕ) (ms : List ℕ) (few : length ms ≤ N) (i : ℕ) (in_ms : i ≤ length ms) (v : ℕ) where
  -- what stands before a slot, then v, then a list in the slots behind it
  front : (M : ℕ) (ns : List ℕ) → N ≡ i + suc M → take i ms ++ v ∷ slots M ns ≡ slots N (take i ms ++ v ∷ ns)
  front M ns e =
      let l : length (take i ms) ≡ i = length-take-le i ms in_ms in
      ap (λ (z : List ℕ). take i ms ++ z) (slots_append (v ∷ []) ns M (suc M) (omega arith)) ∙ slots_append (take i ms) (v ∷ ns) (suc M) N (omega arith)

  -- one in the slot of another, or behind the last
  pub slots_put : i < N → set (slots N ms) i v ≡ slots N (take i ms ++ v ∷ drop (suc i) ms)
  slots_put h =
      set_split (slots N ms) i v (omega (arith, slots_length N ms few))
      ∙ ap₂ (λ (a b : List ℕ). a ++ v ∷ b) (slots_take i N ms in_ms) (slots_drop (suc i) N ms)
      ∙ front (N - suc i) (drop (suc i) ms) (omega arith)

  -- one between two, with those from the slot on moved up
  pub slots_insert : length ms < N
      → take i (slots N ms) ++ v ∷ (take (length ms - i) (drop i (slots N ms)) ++ drop (length ms + 1) (slots N ms)) ≡ slots N (take i ms ++ v ∷ drop i ms)
  slots_insert h =
      let L = length ms in
      let middle : take (L - i) (drop i (slots N ms)) ≡ drop i ms =
      ap (take (L - i)) (slots_drop i N ms) ∙ ap (λ (z : ℕ). take z (slots (N - i) (drop i ms))) (sym (length-drop i ms)) ∙ slots_used (N - i) (drop i ms) in
      let past : L ≤ L + 1 = omega arith in
      let rest : drop (L + 1) (slots N ms) ≡ slots (N - (L + 1)) [] = slots_drop (L + 1) N ms ∙ ap (slots (N - (L + 1))) (drop_of_length-le ms past) in
      let join : drop i ms ++ slots (N - (L + 1)) [] ≡ slots (N - suc i) (drop i ms) =
      slots_append (drop i ms) [] (N - (L + 1)) (N - suc i) (omega (arith, length-drop i ms)) ∙ ap (slots (N - suc i)) (append-nil (drop i ms)) in
      ap₂ (λ (a b : List ℕ). a ++ v ∷ b) (slots_take i N ms in_ms) (ap₂ (λ (a b : List ℕ). a ++ b) middle rest ∙ join)
      ∙ front (N - suc i) (drop i ms) (omega arith)

-- a slot opened at i takes what is written there
open_put : (xs r : List ℕ) (i v : ℕ) → i < length xs → set (take (i + 1) xs ++ r) i v ≡ take i xs ++ v ∷ r
open_put xs r i v h =
    let k : i < length (take (suc i) xs) = omega (arith, length-take-le (suc i) xs h) in
    rw (add-one i)
    (set-append_left (take (suc i) xs) r i v k
    ∙ ap (λ (z : List ℕ). z ++ r) (sym (take-set-lt (suc i) xs i v (omega arith)) ∙ take-suc-set xs i v h)
    ∙ append_snoc (take i xs) v r)

-- those from a slot on moved one up
pub opened : (xs : List ℕ) (at n : ℕ) → at ≤ n → copy_within xs at n (at + 1) ≡ take (at + 1) xs ++ (take (n - at) (drop at xs) ++ drop (n + 1) xs)
opened xs at n h = let e : at + 1 + (n - at) ≡ n + 1 = omega arith in rw (append_assoc, e)

-- ---- pairs in an array

module _ {A B : Type 0} (f : A → B) where
  map_take : (i : ℕ) (l : List A) → map f (take i l) ≡ take i (map f l)
  map_take zero l = refl
  map_take (suc i) [] = refl
  map_take (suc i) (x ∷ l) = ap (λ (z : List B). f x ∷ z) (map_take i l)

  map_drop : (i : ℕ) (l : List A) → map f (drop i l) ≡ drop i (map f l)
  map_drop zero l = refl
  map_drop (suc i) [] = refl
  map_drop (suc i) (x ∷ l) = map_drop i l

-- the pairs in the first n slots: how many, and the first number of each
module _ (n : ℕ) (xs : List ℕ) where
  pub in_length : n ≤ length xs → length (pairs_in n xs) ≡ n
  in_length h = length-map (take n xs) pair_of ∙ length-take-le n xs h

  pub first_in : (i : ℕ) → i < n → (get_or (pairs_in n xs) i (0, 0)).0 ≡ get_or xs i 0 / 65536
  unfolding pair_of
  first_in i h = ap (λ (z : ℕ × ℕ). z.0) (get_or-map pair_of (take n xs) i 0) ∙ ap (λ (z : ℕ). z / 65536) (get_or-take n xs i 0 h)

-- the second number of each, where all are below 256
pub count_small : (n i : ℕ) (xs : List ℕ) → SecondsBelow 256 (pairs_in n xs) → i < n → n ≤ length xs → get_or xs i 0 % 65536 < 256
unfolding pair_of
count_small zero i xs b h l = absurd (omega arith)
count_small (suc n) i [] b h l = absurd (omega arith)
count_small (suc n) zero (x ∷ xs) b h l = b.0
count_small (suc n) (suc i) (x ∷ xs) b h l = count_small n i xs b.1 (omega arith) (omega arith)

pub pairs_none : (N : ℕ) → Pairs N [] 0 (replicate N 0)
unfolding slots
pairs_none N = record { count = refl; few = omega arith; are = rw (sub-zero N); back = refl }

-- the same array, told otherwise
pub pairs_as : {N : ℕ} {ps qs : List (ℕ × ℕ)} {n m : ℕ} {xs ys : List ℕ} → Pairs N ps n xs → ps ≡ qs → n ≡ m → xs ≡ ys → Pairs N qs m ys
pairs_as {N} k a b c =
    record { count = sym b ∙ k.count ∙ ap length a; few = rw a at k.few; are = sym c ∙ k.are ∙ ap (λ z. slots N (map pack_pair z)) a; back = rw a at k.back }

module _ {N : ℕ} {ps : List (ℕ × ℕ)} {n : ℕ} {xs : List ℕ} (k : Pairs N ps n xs) where
  packed_few : length (map pack_pair ps) ≤ N
  packed_few = omega (arith, length-map ps pack_pair, k.few)

  pub pairs_length : length xs ≡ N
  pairs_length = ap length k.are ∙ slots_length N (map pack_pair ps) packed_few

  -- the pairs in the array are these
  pub pairs_in_lem : pairs_in n xs ≡ ps
  pairs_in_lem = ap₂ pairs_in k.count k.are ∙ ap (map pair_of) (used N pack_pair ps) ∙ k.back

  pub first_at : (i : ℕ) → i < n → (get_or ps i (0, 0)).0 ≡ get_or xs i 0 / 65536
  first_at i h = ap (λ (z : List (ℕ × ℕ)). (get_or z i (0, 0)).0) (sym pairs_in_lem) ∙ first_in n xs i h

  module _ (x : ℕ × ℕ) (small : x.1 < 65536) (i : ℕ) (in_ps : i ≤ n) where
    packed_at : (j : ℕ) → map pack_pair (take i ps ++ x ∷ drop j ps) ≡ take i (map pack_pair ps) ++ pack_pair x ∷ drop j (map pack_pair ps)
    packed_at j = map-append pack_pair (take i ps) (x ∷ drop j ps) ∙ ap₂ (λ (a b : List ℕ). a ++ pack_pair x ∷ b) (map_take pack_pair i ps) (map_drop pack_pair j ps)

    back_at : (j : ℕ) → map pair_of (map pack_pair (take i ps ++ x ∷ drop j ps)) ≡ take i ps ++ x ∷ drop j ps
    back_at j =
        let qs : List ℕ = map pack_pair ps in
        let same : pair_of (pack_pair x) ≡ x = pair_pack x ∙ ap₂ (λ (a b : ℕ). (a, b)) (omega arith) (omega arith) in
        ap (map pair_of) (packed_at j) ∙ map-append pair_of (take i qs) (pack_pair x ∷ drop j qs)
        ∙ ap₂ (λ (a b : List (ℕ × ℕ)). a ++ pair_of (pack_pair x) ∷ b) (map_take pair_of i qs) (map_drop pair_of j qs)
        ∙ ap₂ (λ (y : ℕ × ℕ) (z : List (ℕ × ℕ)). take i z ++ y ∷ drop j z) same k.back

    length_at : (j : ℕ) → length (take i ps ++ x ∷ drop j ps) ≡ i + suc (length ps - j)
    length_at j =
        let l : length (take i ps) ≡ i = length-take-le i ps (omega (arith, k.count)) in
        omega (arith, length-append (take i ps) (x ∷ drop j ps), length-drop j ps)

    packed_in_lem : i ≤ length (map pack_pair ps)
    packed_in_lem = omega (arith, length-map ps pack_pair, k.count)

    -- in the slot of another, or behind the last
    pub pairs_put : i < N → Pairs N (take i ps ++ x ∷ drop (suc i) ps) (max n (i + 1)) (set xs i (pack_pair x))
    pairs_put h =
        record {
          count = omega (arith, length_at (suc i), k.count);
          few = omega (arith, length_at (suc i), k.few, k.count);
          are = ap (λ (z : List ℕ). set z i (pack_pair x)) k.are ∙ slots_put N (map pack_pair ps) packed_few i packed_in_lem (pack_pair x) h ∙ ap (slots N) (sym (packed_at (suc i)));
          back = back_at (suc i);
        }

    -- between two
    pub pairs_insert : n < N → (ys : List ℕ) → ys ≡ take (i + 1) xs ++ (take (n - i) (drop i xs) ++ drop (n + 1) xs)
        → Pairs N (take i ps ++ x ∷ drop i ps) (n + 1) (set ys i (pack_pair x))
    pairs_insert h ys q =
        let l : n ≡ length (map pack_pair ps) = k.count ∙ sym (length-map ps pack_pair) in
        record {
          count = omega (arith, length_at i, k.count);
          few = omega (arith, length_at i, k.few, k.count);
          are =
              ap (λ (z : List ℕ). set z i (pack_pair x)) q ∙ open_put xs (take (n - i) (drop i xs) ++ drop (n + 1) xs) i (pack_pair x) (omega (arith, pairs_length))
              ∙ ap₂ (λ (z : List ℕ) (m : ℕ). take i z ++ pack_pair x ∷ (take (m - i) (drop i z) ++ drop (m + 1) z)) k.are l
              ∙ slots_insert N (map pack_pair ps) packed_few i packed_in_lem (pack_pair x) (omega arith)
              ∙ ap (slots N) (sym (packed_at i));
          back = back_at i;
        }

-- ---- the same numbers, the same pairs

pub same_refl : (xs : List ℕ) → same_numbers xs xs ≡ true
unfolding same_numbers
same_refl [] = refl
same_refl (x ∷ xs) = rw (eq-eqb x x refl) (same_refl xs)

pub same_true : (xs ys : List ℕ) → same_numbers xs ys ≡ true → xs ≡ ys
unfolding same_numbers
same_true [] [] e = refl
same_true [] (y ∷ ys) e = clash (cc)
same_true (x ∷ xs) [] e = clash (cc)
same_true (x ∷ xs) (y ∷ ys) e =
    let h = and_both (eqb x y) (same_numbers xs ys) e in
    ap₂ (λ (z : ℕ) (l : List ℕ). z ∷ l) (eqb-true x y h.0) (same_true xs ys h.1)

-- as the library compares slices
pub same_is : (xs ys : List ℕ) → pointwise eqb xs ys ≡ same_numbers xs ys
unfolding same_numbers
same_is [] [] = refl
same_is [] (y ∷ ys) = refl
same_is (x ∷ xs) [] = refl
same_is (x ∷ xs) (y ∷ ys) = ap (λ (b : Bool). eqb x y && b) (same_is xs ys)

pub pairs_refl : (ps : List (ℕ × ℕ)) → same_pairs ps ps ≡ true
unfolding same_pairs
pairs_refl [] = refl
pairs_refl (p ∷ ps) = rw (eq-eqb p.0 p.0 refl, eq-eqb p.1 p.1 refl) (pairs_refl ps)

pub pairs_true : (ps qs : List (ℕ × ℕ)) → same_pairs ps qs ≡ true → ps ≡ qs
unfolding same_pairs
pairs_true [] [] e = refl
pairs_true [] (q ∷ qs) e = clash (cc)
pairs_true (p ∷ ps) [] e = clash (cc)
pairs_true (p ∷ ps) (q ∷ qs) e =
    let h = and_both (eqb p.0 q.0 && eqb p.1 q.1) (same_pairs ps qs) e in
    let g = and_both (eqb p.0 q.0) (eqb p.1 q.1) h.0 in
    ap₂ (λ (z : ℕ × ℕ) (l : List (ℕ × ℕ)). z ∷ l) (ap₂ (λ (a b : ℕ). (a, b)) (eqb-true p.0 q.0 g.0) (eqb-true p.1 q.1 g.1)) (pairs_true ps qs h.1)
