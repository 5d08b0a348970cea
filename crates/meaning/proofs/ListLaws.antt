-- Laws of lists by a test: kept once and again, all kept, how many, and what a stronger test implies. Rests on specs/Lists alone.
use Prim.Native.Nat.{ℕ, suc, ◌+◌, ◌≤◌}
use mathlib.Core.Path.{◌≡◌, refl, ap}
use mathlib.Core.Logic.{◌⊎◌, inl, inr}
use mathlib.Core.Bool.{Bool, true, false, cond, not, ◌&&◌, ◌||◌}
use mathlib.Core.List.{List, [], ◌∷◌, map, Sublistᴰ}
use native.Mathlib.Omega.{arith}
use lib.ListN.{length}
use Rattle.meaning.specs.Lists.{keep, all, any, count}

-- Two constructors are never equal.
pub clash : {X : Type 0} → ◌≡◌ {A = ℕ} 0 1 → X
clash z = absurd (omega arith)

-- ---- Bool

pub and_both : (a b : Bool) → (a && b) ≡ true → (a ≡ true) × (b ≡ true)
and_both true b e = (refl, e)
and_both false b e = clash (cc)

pub both_true : (a b : Bool) → a ≡ true → b ≡ true → (a && b) ≡ true
both_true true b ea eb = eb
both_true false b ea eb = ea

pub or_true : (a : Bool) → (a || true) ≡ true
or_true true = refl
or_true false = refl

pub or_false : (a : Bool) → (a || false) ≡ a
or_false true = refl
or_false false = refl

pub and_true : (a : Bool) → (a && true) ≡ a
and_true true = refl
and_true false = refl

pub and_false : (a : Bool) → (a && false) ≡ false
and_false true = refl
and_false false = refl

pub or_assoc : (a b c : Bool) → ((a || b) || c) ≡ (a || (b || c))
or_assoc true b c = refl
or_assoc false b c = refl

pub or_either : (a b : Bool) → (a || b) ≡ true → (a ≡ true) ⊎ (b ≡ true)
or_either true b e = inl refl
or_either false b e = inr e

pub or_left : (a b : Bool) → a ≡ true → (a || b) ≡ true
or_left true b e = refl
or_left false b e = clash (cc)

pub or_right : (a b : Bool) → b ≡ true → (a || b) ≡ true
or_right true b e = refl
or_right false b e = e

pub or_neither : (a b : Bool) → (a || b) ≡ false → (a ≡ false) × (b ≡ false)
or_neither true b e = clash (cc)
or_neither false b e = (refl, e)

-- a implies b, so not b implies not a
pub contra : (a b : Bool) → (a ≡ true → b ≡ true) → not b ≡ true → not a ≡ true
contra true true h e = e
contra true false h e = clash (cc (h refl))
contra false b h e = refl

-- ---- tests on lists

module _ {A : Type 0} where
  -- the test p implies the test q
  abbrev pub Under : (A → Bool) → (A → Bool) → Type 0
  Under p q = (x : A) → p x ≡ true → q x ≡ true

  pub keep_keep : (p q : A → Bool) → Under p q → (xs : List A) → keep p (keep q xs) ≡ keep p xs
  unfolding keep
  keep_keep p q h [] = refl
  keep_keep p q h (x ∷ xs) = go (p x) refl (q x) refl (keep_keep p q h xs)
    where
      go : (a : Bool) → p x ≡ a → (b : Bool) → q x ≡ b → keep p (keep q xs) ≡ keep p xs
          → keep p (cond b (x ∷ keep q xs) (keep q xs)) ≡ cond a (x ∷ keep p xs) (keep p xs)
      go true ea true eb ih = rw ea (ap (λ (l : List A). x ∷ l) ih)
      go false ea true eb ih = rw ea ih
      go false ea false eb ih = ih
      go true ea false eb ih = clash (cc (h x ea))

  pub keep_all : (p : A → Bool) (xs : List A) → all p xs ≡ true → keep p xs ≡ xs
  unfolding keep all
  keep_all p [] e = refl
  keep_all p (x ∷ xs) e =
      let h = and_both (p x) (all p xs) e in
      rw h.0 (ap (λ (l : List A). x ∷ l) (keep_all p xs h.1))

  pub all_keep : (p : A → Bool) (xs : List A) → all p (keep p xs) ≡ true
  unfolding keep all
  all_keep p [] = refl
  all_keep p (x ∷ xs) = go (p x) refl (all_keep p xs)
    where
      go : (a : Bool) → p x ≡ a → all p (keep p xs) ≡ true → all p (cond a (x ∷ keep p xs) (keep p xs)) ≡ true
      go true e ih = rw e ih
      go false e ih = ih

  pub all_under : (p q : A → Bool) → Under p q → (xs : List A) → all p xs ≡ true → all q xs ≡ true
  unfolding all
  all_under p q h [] e = refl
  all_under p q h (x ∷ xs) e =
      let b = and_both (p x) (all p xs) e in
      both_true (q x) (all q xs) (h x b.0) (all_under p q h xs b.1)

  pub any_under : (p q : A → Bool) → Under p q → (xs : List A) → any p xs ≡ true → any q xs ≡ true
  unfolding any
  any_under p q h [] e = e
  any_under p q h (x ∷ xs) e =
      elim (or_either (p x) (any p xs) e) [
        | inl a ↦ or_left (q x) (any q xs) (h x a)
        | inr b ↦ or_right (q x) (any q xs) (any_under p q h xs b)
      ]

  pub any_none : (p : A → Bool) (xs : List A) → any p xs ≡ false → all (λ x. not (p x)) xs ≡ true
  unfolding any all
  any_none p [] e = refl
  any_none p (x ∷ xs) e =
      let h = or_neither (p x) (any p xs) e in
      rw h.0 (any_none p xs h.1)

  -- tests that agree
  pub any_same : (p q : A → Bool) → ((x : A) → p x ≡ q x) → (xs : List A) → any p xs ≡ any q xs
  unfolding any
  any_same p q h [] = refl
  any_same p q h (x ∷ xs) = rw (h x, any_same p q h xs)

  pub keep_length : (p : A → Bool) (xs : List A) → length (keep p xs) ≤ length xs
  unfolding keep
  keep_length p [] = omega arith
  keep_length p (x ∷ xs) = go (p x) (keep_length p xs)
    where
      go : (a : Bool) → length (keep p xs) ≤ length xs → length (cond a (x ∷ keep p xs) (keep p xs)) ≤ suc (length xs)
      go true ih = omega arith
      go false ih = omega arith

  -- those kept are some of the list, in order
  pub keep_sublist : (p : A → Bool) (xs : List A) → Sublistᴰ (keep p xs) xs
  unfolding keep
  keep_sublist p [] = Sublistᴰ.slnil
  keep_sublist p (x ∷ xs) = go (p x) (keep_sublist p xs)
    where
      go : (a : Bool) → Sublistᴰ (keep p xs) xs → Sublistᴰ (cond a (x ∷ keep p xs) (keep p xs)) (x ∷ xs)
      go true ih = Sublistᴰ.cons-cons refl ih
      go false ih = Sublistᴰ.cons ih

  -- those that stay and those that go are all, by any test f
  pub stay_go : (p f : A → Bool) (xs : List A) → count f (keep p xs) + count f (keep (λ x. not (p x)) xs) ≡ count f xs
  unfolding keep count
  stay_go p f [] = refl
  stay_go p f (x ∷ xs) = go (p x) (stay_go p f xs)
    where
      go : (a : Bool) → count f (keep p xs) + count f (keep (λ x. not (p x)) xs) ≡ count f xs
          → count f (cond a (x ∷ keep p xs) (keep p xs)) + count f (cond (not a) (x ∷ keep (λ x. not (p x)) xs) (keep (λ x. not (p x)) xs)) ≡ cond (f x) 1 0 + count f xs
      go true ih = omega arith
      go false ih = omega arith

  pub keep_none : (p : A → Bool) (xs : List A) → all (λ x. not (p x)) xs ≡ true → keep p xs ≡ []
  unfolding keep all
  keep_none p [] e = refl
  keep_none p (x ∷ xs) e =
      let h = and_both (not (p x)) (all (λ x. not (p x)) xs) e in
      go (p x) h.0 (keep_none p xs h.1)
    where
      go : (a : Bool) → not a ≡ true → keep p xs ≡ [] → cond a (x ∷ keep p xs) (keep p xs) ≡ []
      go true h ih = clash (cc)
      go false h ih = ih

module _ {A B : Type 0} (f : A → B) where
  pub keep_map : (p : B → Bool) (xs : List A) → keep p (map f xs) ≡ map f (keep (λ x. p (f x)) xs)
  unfolding keep
  keep_map p [] = refl
  keep_map p (x ∷ xs) = go (p (f x)) (keep_map p xs)
    where
      go : (a : Bool) → keep p (map f xs) ≡ map f (keep (λ x. p (f x)) xs)
          → cond a (f x ∷ keep p (map f xs)) (keep p (map f xs)) ≡ map f (cond a (x ∷ keep (λ x. p (f x)) xs) (keep (λ x. p (f x)) xs))
      go true ih = ap (λ (l : List B). f x ∷ l) ih
      go false ih = ih
