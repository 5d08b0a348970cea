-- The loop that sets an array's unused slots to zero, one at a time: how it begins, its turn, its end, of whatever type.
use Prim.Native.Nat.{ℕ, suc, ◌+◌, ◌-◌, ◌≤◌, ◌<◌}
use mathlib.Core.Path.{◌≡◌, refl, sym, ap, ◌∙◌, subst}
use mathlib.Core.List.{List, ◌++◌, append-nil}
use native.Mathlib.Numerals.{add-one}
use native.Mathlib.Omega.{arith}
use lib.ListN.{length, take, set, replicate, length-set}
use lib.Seq.{take_all, take-suc-set, append_snoc}

-- All from n on are zero.
abbrev pub cleared_to : {T : Type 0} → T → ℕ → List T → List T
cleared_to zero n xs = take n xs ++ replicate (length xs - n) zero

-- Cleared from i on the array now is what the first is, cleared from n on.
pub record Clearing {T : Type 0} (zero : T) (n : ℕ) (xs₀ xs : List T) (i : ℕ) : Type 0 where
  pub same_length : length xs ≡ length xs₀
  pub are : cleared_to zero n xs₀ ≡ cleared_to zero i xs

pub clearing_begin : {T : Type 0} (zero : T) (n : ℕ) (xs : List T) {i : ℕ} → i ≡ n → Clearing zero n xs xs i
clearing_begin zero n xs e = subst (λ (m : ℕ). Clearing zero n xs xs m) (sym e) (record { same_length = refl; are = refl })

module _ {T : Type 0} {zero : T} {n : ℕ} {xs₀ xs : List T} {i : ℕ} (k : Clearing zero n xs₀ xs i) where
  turn : i < length xs → Clearing zero n xs₀ (set xs i zero) (i + 1)
  turn h =
      let e : length xs - i ≡ suc (length (set xs i zero) - (i + 1)) = omega (arith, length-set xs i zero) in
      record {
        same_length = length-set xs i zero ∙ k.same_length;
        are =
            k.are ∙ ap (λ (m : ℕ). take i xs ++ replicate m zero) e
            ∙ sym (append_snoc (take i xs) zero (replicate (length (set xs i zero) - (i + 1)) zero))
            ∙ ap (λ (ys : List T). ys ++ replicate (length (set xs i zero) - (i + 1)) zero) (sym (take-suc-set xs i zero h) ∙ ap (λ (m : ℕ). take m (set xs i zero)) (sym (add-one i)));
      }

  -- at the place that the loop has come to
  pub clearing_next : {at : ℕ} → at ≡ i → i < length xs → Clearing zero n xs₀ (set xs at zero) (i + 1)
  clearing_next e h = subst (λ (m : ℕ). Clearing zero n xs₀ (set xs m zero) (i + 1)) (sym e) (turn h)

  pub clearing_done : length xs ≤ i → xs ≡ cleared_to zero n xs₀
  clearing_done h =
      let z : length xs - i ≡ 0 = omega arith in
      sym (k.are ∙ ap (λ (m : ℕ). take i xs ++ replicate m zero) z ∙ append-nil (take i xs) ∙ take_all i xs h)
