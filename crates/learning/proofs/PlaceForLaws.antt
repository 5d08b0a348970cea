-- The place of an identifier among pairs, and whether one is of a service, as a search of the array finds them. Rests on specs/Kept and on
-- the definitions of both.
use Prim.Native.Nat.{ℕ, suc, ◌+◌, ◌/◌, ◌≤◌}
use mathlib.Core.Path.{◌≡◌, refl, ap, ◌∙◌}
use mathlib.Core.Bool.{Bool, true, false, cond, not, ◌||◌}
use mathlib.Core.List.{List, [], ◌∷◌, map}
use native.Mathlib.Omega.{arith}
use lib.Dec.{eqb, ltb}
use lib.ListN.{length}
use borrow.Author.Tests.{ltb-false}
use Rattle.std.specs.Prelude.{Option, Some, None}
use Rattle.std.specs.Option.{unwrap_or}
use Rattle.std.specs.List.{position_or_len, list_any}
use Rattle.meaning.specs.Learn.{place_for}
use Rattle.meaning.specs.Record.{pair_of}
use Rattle.learning.specs.News.{lists_service}

module _ (test : ℕ → Bool) where
  within : (xs : List ℕ) → position_or_len test xs ≤ length xs
  within [] = omega arith
  within (x ∷ xs) = go (test x) (within xs)
    where
      go : (b : Bool) → position_or_len test xs ≤ length xs → cond (not b) (1 + position_or_len test xs) 0 ≤ suc (length xs)
      go true h = omega arith
      go false h = omega arith

  -- where it stands, or their number
  pub found_or : (r : Option ℕ) (xs : List ℕ) (n : ℕ) → length xs ≡ n
      → r ≡ cond (ltb (position_or_len test xs) (length xs)) (Some (position_or_len test xs)) None → (unwrap_or r n ≡ position_or_len test xs) × (unwrap_or r n ≤ n)
  found_or r xs n e q = go (ltb (position_or_len test xs) (length xs)) refl
    where
      i : ℕ
      i = position_or_len test xs

      go : (b : Bool) → ltb i (length xs) ≡ b → (unwrap_or r n ≡ i) × (unwrap_or r n ≤ n)
      go true t = let h : r ≡ Some i = q ∙ rw t in let l : i ≤ n = omega (arith, within xs) in rw h (refl, l)
      go false t = let h : r ≡ None = q ∙ rw t in let l : n ≡ i = omega (arith, within xs, ltb-false i (length xs) t) in rw h (l, omega arith)

module _ (p : ℕ) where
  pub place_is : (xs : List ℕ) → place_for p (map pair_of xs) ≡ position_or_len (λ x. eqb (x / 65536) p) xs
  unfolding place_for pair_of
  place_is [] = refl
  place_is (x ∷ xs) = go (eqb (x / 65536) p) (place_is xs)
    where
      test : ℕ → Bool
      test z = eqb (z / 65536) p

      go : (b : Bool) → place_for p (map pair_of xs) ≡ position_or_len test xs → cond b 0 (suc (place_for p (map pair_of xs))) ≡ cond (not b) (1 + position_or_len test xs) 0
      go true h = refl
      go false h = omega arith

  pub lists_is : (xs : List ℕ) → lists_service p (map pair_of xs) ≡ list_any (λ x. eqb (x / 65536) p) xs
  unfolding lists_service pair_of
  lists_is [] = refl
  lists_is (x ∷ xs) = ap (λ b. eqb (x / 65536) p || b) (lists_is xs)
