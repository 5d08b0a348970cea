-- Walks over the heads of a slice: what the library's tests and sums of a list are among the definitions, that numbers rise, and that none
-- stands twice, by pairs or by a set of those passed. Rests on Lists, Soundness and SetLaws of `meaning` and MemberLaws of `rules`.
use Prim.Native.Nat.{ℕ, zero, suc, ◌+◌, ◌/◌, ◌≤◌, ◌<◌}
use mathlib.Core.Path.{◌≡◌, refl, sym, ap, ap₂, ◌∙◌, subst}
use mathlib.Core.Bool.{Bool, true, false, not, ◌&&◌, ◌||◌}
use mathlib.Core.List.{List, [], ◌∷◌, map}
use native.Mathlib.Omega.{arith}
use native.Mathlib.Numerals.{add-one}
use lib.ListN.{length, drop, get_or, replicate, length-set}
use lib.Seq.{drop-cons}
use lib.Dec.{eqb, ltb}
use borrow.Author.Tests.{eqb-true, eqb-false}
use Rattle.std.proofs.lemmas.List.{drop_all}
use Rattle.std.proofs.lemmas.List.Sums.{sum_by-cons}
use Rattle.std.specs.List.{sum_by, list_all, AllAdjacentBelow, IsAllAdjacentAnswer}
use Rattle.meaning.specs.Sets.{Words, in_set, with_id}
use Rattle.meaning.specs.Lists.{all, any, sum}
use Rattle.meaning.specs.Start.{no_words}
use Rattle.meaning.specs.Soundness.{rising, distinct}
use Rattle.meaning.proofs.ListLaws.{and_true, and_false}
use Rattle.meaning.proofs.SetLaws.{insert_same, insert_other}
use Rattle.rules.proofs.MemberLaws.{empty}

-- ---- the library's words and the definitions'

pub all_in : {X : Type 0} (test : X → Bool) (xs : List X) → list_all test xs ≡ all test xs
unfolding all
all_in test [] = refl
all_in test (x ∷ xs) = ap (λ (b : Bool). test x && b) (all_in test xs)

pub sum_in : {X : Type 0} (f : X → ℕ) (xs : List X) → sum_by f xs ≡ sum (map f xs)
unfolding sum
sum_in f [] = refl
sum_in f (x ∷ xs) = sum_by-cons f x xs ∙ ap (λ (n : ℕ). f x + n) (sum_in f xs)

-- ---- numbers rise, as f reads them

module _ (f : ℕ → ℕ) where
  rises_true : (xs : List ℕ) → AllAdjacentBelow (λ x y. true ≡ ltb (f x) (f y)) xs (length xs) → true ≡ rising (map f xs)
  unfolding rising
  rises_true [] h = refl
  rises_true (x ∷ []) h = refl
  rises_true (x ∷ y ∷ ys) h =
      let first : true ≡ ltb (f x) (f y) = h 0 x (omega arith) in
      rw (sym first) (rises_true (y ∷ ys) (λ k d l. let e : suc k + 1 ≡ suc (k + 1) = omega arith in
      subst (λ (n : ℕ). true ≡ ltb (f (get_or (y ∷ ys) k d)) (f (get_or (x ∷ y ∷ ys) n d))) e (h (suc k) d (omega arith))))

  rises_false : (xs : List ℕ) (k : ℕ) → k + 1 < length xs → ((d : ℕ) → false ≡ ltb (f (get_or xs k d)) (f (get_or xs (k + 1) d))) → false ≡ rising (map f xs)
  unfolding rising
  rises_false [] k l h = absurd (omega arith)
  rises_false (x ∷ []) k l h = absurd (omega arith)
  rises_false (x ∷ y ∷ ys) zero l h = rw (sym (h x))
  rises_false (x ∷ y ∷ ys) (suc k) l h =
      let e : suc k + 1 ≡ suc (k + 1) = omega arith in
      rw (sym (rises_false (y ∷ ys) k (omega arith) (λ d. subst (λ (n : ℕ). false ≡ ltb (f (get_or (y ∷ ys) k d)) (f (get_or (x ∷ y ∷ ys) n d))) e (h d))))
      (sym (and_false (ltb (f x) (f y))))

  pub rises : (xs : List ℕ) (r : Bool) → IsAllAdjacentAnswer (λ x y b. b ≡ ltb (f x) (f y)) xs r → r ≡ rising (map f xs)
  rises xs true h = rises_true xs h
  rises xs false h = rises_false xs h.0 h.1 h.2

-- ---- none twice, by pairs

-- x is the first head and p its identifier; t tells whether one behind it has that
module _ {X : Type 0} (f : X → ℕ) {xs rest : List X} {x : X} (e : xs ≡ x ∷ rest) {p : ℕ} (i : p ≡ f x) {t : Bool} (a : t ≡ any (eqb p) (map f rest)) where
  behind : any (eqb (f x)) (map f rest) ≡ t
  behind = ap (λ (q : ℕ). any (eqb q) (map f rest)) (sym i) ∙ sym a

  pub among_here : t ≡ true → distinct (map f xs) ≡ false
  unfolding distinct
  among_here h = rw (e, behind ∙ h)

  pub among_none : t ≡ false → distinct (map f xs) ≡ distinct (map f rest)
  unfolding distinct
  among_none h = rw (e, behind ∙ h)

pub distinct_end : {X : Type 0} (f : X → ℕ) (xs : List X) → length xs ≡ 0 → distinct (map f xs) ≡ true
unfolding distinct
distinct_end f [] h = refl
distinct_end f (x ∷ xs) h = absurd (omega arith)

-- ---- none twice, by a set

-- None of these is in the set.
abbrev pub avoids : Words → List ℕ → Bool
avoids ws xs = all (λ q. not (in_set ws q)) xs

and_assoc : (a b c : Bool) → ((a && b) && c) ≡ (a && (b && c))
and_assoc true b c = refl
and_assoc false b c = refl

module _ (ws : Words) (p : ℕ) (l : p / 64 < length ws) where
  insert_test : (q : ℕ) → not (in_set (with_id ws p) q) ≡ (not (in_set ws q) && not (eqb p q))
  insert_test q = go (eqb p q) refl
    where
      go : (t : Bool) → eqb p q ≡ t → not (in_set (with_id ws p) q) ≡ (not (in_set ws q) && not t)
      go true e = ap (λ (b : Bool). not b) (ap (in_set (with_id ws p)) (sym (eqb-true p q e)) ∙ insert_same ws p l) ∙ sym (and_false (not (in_set ws q)))
      go false e = ap (λ (b : Bool). not b) (insert_other ws p q l (eqb-false p q e)) ∙ sym (and_true (not (in_set ws q)))

  -- with p in the set too, none of these may be p
  avoids_insert : (xs : List ℕ) → avoids (with_id ws p) xs ≡ (avoids ws xs && not (any (eqb p) xs))
  unfolding all any
  avoids_insert [] = refl
  avoids_insert (x ∷ xs) = ap₂ (λ (a b : Bool). a && b) (insert_test x) (avoids_insert xs) ∙ four (in_set ws x) (eqb p x) (avoids ws xs) (any (eqb p) xs)
    where
      four : (a b c d : Bool) → ((not a && not b) && (c && not d)) ≡ ((not a && c) && not (b || d))
      four true b c d = refl
      four false true true d = refl
      four false true false d = refl
      four false false c d = refl

  once_cons : (xs : List ℕ) → in_set ws p ≡ false → (avoids ws (p ∷ xs) && distinct (p ∷ xs)) ≡ (avoids (with_id ws p) xs && distinct xs)
  unfolding all distinct
  once_cons xs e =
      rw e (sym (ap (λ (b : Bool). b && distinct xs) (avoids_insert xs) ∙ and_assoc (avoids ws xs) (not (any (eqb p) xs)) (distinct xs)))

twice_cons : (ws : Words) (p : ℕ) (xs : List ℕ) → in_set ws p ≡ true → (avoids ws (p ∷ xs) && distinct (p ∷ xs)) ≡ false
unfolding all distinct
twice_cons ws p xs e = rw e

avoids_empty : (n : ℕ) (xs : List ℕ) → avoids (replicate n 0) xs ≡ true
unfolding all
avoids_empty n [] = refl
avoids_empty n (x ∷ xs) = rw (empty n x) (avoids_empty n xs)

-- The identifiers, as f reads them, stand once each exactly if those from i on do and none of them is in the set of those before.
pub record Once {X : Type 0} (f : X → ℕ) (xs : List X) (ws : Words) (i : ℕ) : Type 0 where
  pub all_words : length ws ≡ 1024
  pub are : distinct (map f xs) ≡ (avoids ws (map f (drop i xs)) && distinct (map f (drop i xs)))

pub once_begin : {X : Type 0} {f : X → ℕ} {xs : List X} {ws : Words} → ws ≡ no_words → Once f xs ws 0
unfolding no_words
once_begin {X} {f} {xs} e =
    record { all_words = ap length e; are = rw e (sym (ap (λ (b : Bool). b && distinct (map f xs)) (avoids_empty 1024 (map f xs)))) }

module _ {X : Type 0} {f : X → ℕ} {xs : List X} {ws : Words} {i : ℕ} (k : Once f xs ws i) where
  -- x is the head at index i, p its identifier, and t tells whether that is in the set
  module _ (h : i < length xs) {x : X} (s : x ≡ get_or xs i x) {p : ℕ} (e : p ≡ f x) {t : Bool} (a : t ≡ in_set ws p) where
    abbrev rest : List ℕ
    rest = map f (drop (i + 1) xs)

    here : distinct (map f xs) ≡ (avoids ws (p ∷ rest) && distinct (p ∷ rest))
    here =
        k.are
        ∙ ap (λ (ys : List ℕ). avoids ws ys && distinct ys) (ap (map f) (drop-cons xs i x h) ∙ ap₂ (λ (q : ℕ) (j : ℕ). q ∷ map f (drop j xs)) (sym (e ∙ ap f s)) (sym (add-one i)))

    pub once_next : p < 65536 → t ≡ false → {ws' : Words} → ws' ≡ with_id ws p → Once f xs ws' (i + 1)
    unfolding with_id
    once_next b s w =
        let v : p / 64 < length ws = omega (arith, k.all_words) in
        let g : length (with_id ws p) ≡ 1024 = simp length-set k.all_words in
        record {
          all_words = ap length w ∙ g;
          are = here ∙ once_cons ws p v rest (sym a ∙ s) ∙ ap (λ (v : Words). avoids v rest && distinct rest) (sym w);
        }

    pub once_twice : t ≡ true → false ≡ distinct (map f xs)
    once_twice s = sym (here ∙ twice_cons ws p rest (sym a ∙ s))

  pub once_done : length xs ≤ i → true ≡ distinct (map f xs)
  unfolding all distinct
  once_done h = sym (k.are ∙ ap (λ (ys : List X). avoids ws (map f ys) && distinct (map f ys)) (drop_all i xs h))
