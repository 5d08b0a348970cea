-- A series of calls writes what the definition's series writes, answers its numbers, and leaves its state. So of two series that are given
-- the same, the one with fewer wishes writes less: demand 3. Rests on Between, and on LessIsLess of `meaning`.
use Prim.Native.Nat.{ℕ}
use mathlib.Core.Path.{◌≡◌, refl, sym, ap, ap₂, ◌∙◌, subst}
use mathlib.Core.Bool.{Bool, true, false, cond}
use mathlib.Core.List.{List, [], ◌∷◌, ◌++◌, map, flatten, append_assoc}
use mathlib.Core.Option.{Option, none, some}
use lib.ListN.{length}
use lib.Dec.{eqb}
use Rattle.meaning.specs.Bytes.{Bytes}
use Rattle.meaning.specs.Wishes.{copies_all}
use Rattle.meaning.specs.Record.{State}
use Rattle.meaning.specs.Push.{push}
use Rattle.meaning.specs.Series.{Lent, call_refusal, series, series_on}
use Rattle.meaning.specs.Less.{Fewer}
use Rattle.meaning.specs.declared.Limits.{Limits}
use Rattle.meaning.specs.declared.Options.{Options}
use Rattle.meaning.specs.declared.Modes.{Modes}
use Rattle.meaning.proofs.LessIsLess.{push_state}
use Rattle.demands.specs.Demands.{Recorder, Call, Push, Ask, Result, Pushed, Asked, Series, given, told}
use Rattle.demands.proofs.Between.{Between, state_after, packets_after, pushes, asks}

-- The pushes among what calls are given.
abbrev pub pushes_in : List (Option Lent) → List Lent
pushes_in [] = []
pushes_in (none ∷ gs) = pushes_in gs
pushes_in (some c ∷ gs) = c ∷ pushes_in gs

-- The number of each call.
abbrev pub numbers : Limits → Modes → Options → State → List (Option Lent) → List ℕ
numbers L M o st [] = []
numbers L M o st (none ∷ gs) = 0 ∷ numbers L M o st gs
numbers L M o st (some c ∷ gs) = call_refusal L st c ∷ numbers L M o (state_after L M o st c) gs

pub flatten_append : (a b : List Bytes) → flatten (a ++ b) ≡ flatten a ++ flatten b
unfolding flatten
flatten_append [] b = refl
flatten_append (x ∷ a) b = ap (λ (z : Bytes). x ++ z) (flatten_append a b) ∙ sym (append_assoc x (flatten a) (flatten b))

-- A series with one push more in front.
module _ (L : Limits) (M : Modes) (o : Options) (st : State) (c : Lent) (cs : List Lent) where
  pub series_out : (series L M o st (c ∷ cs)).out ≡ packets_after L M o st c ++ (series L M o (state_after L M o st c) cs).out
  unfolding series
  series_out = go (eqb (call_refusal L st c) 0)
    where
      go : (b : Bool) → (cond b (series_on (push L M o st c.0) (series L M o (push L M o st c.0).state cs)) (series L M o st cs)).out
          ≡ cond b (push L M o st c.0).out [] ++ (series L M o (cond b (push L M o st c.0).state st) cs).out
      go true = refl
      go false = refl

  pub series_state : (series L M o st (c ∷ cs)).state ≡ (series L M o (state_after L M o st c) cs).state
  unfolding series
  series_state = go (eqb (call_refusal L st c) 0)
    where
      go : (b : Bool) → (cond b (series_on (push L M o st c.0) (series L M o (push L M o st c.0).state cs)) (series L M o st cs)).state
          ≡ (series L M o (cond b (push L M o st c.0).state st) cs).state
      go true = refl
      go false = refl

-- ---- the definition's series

pub record As (L : Limits) (M : Modes) (o : Options) (st : State) (gs : List (Option Lent)) (xs : List Result) (t : Recorder) : Type 0 where
  pub wrote : flatten (map (λ x. (told x).1) xs) ≡ flatten (series L M o st (pushes_in gs)).out
  pub answers : map (λ x. (told x).0) xs ≡ numbers L M o st gs
  pub leaves : Between L M o (series L M o st (pushes_in gs)).state t

module _ (L : Limits) (M : Modes) (o : Options) where
  pub series_is : (st : State) (s : Recorder) (cs : List Call) (xs : List Result) (t : Recorder) → Between L M o st s → Series s cs xs t → As L M o st (map given cs) xs t
  unfolding series flatten
  series_is st s [] [] t h e = record { wrote = refl; answers = refl; leaves = subst (λ (u : Recorder). Between L M o st u) e h }
  series_is st s [] (x ∷ xs) t h e = absurd e
  series_is st s (c ∷ cs) [] t h e = absurd e
  series_is st s (Push chunk out ∷ cs) (Pushed x out' ∷ xs) t h (u, a, r) =
      let g = pushes L M o st s h chunk out x out' u a in
      let c : Lent = (chunk, length out) in
      let ih = series_is (state_after L M o st c) u cs xs t g.0 r in
      record {
        wrote =
            ap₂ (λ (a b : Bytes). a ++ b) g.2.front ih.wrote
            ∙ sym (flatten_append (packets_after L M o st c) (series L M o (state_after L M o st c) (pushes_in (map given cs))).out)
            ∙ ap flatten (sym (series_out L M o st c (pushes_in (map given cs))));
        answers = ap₂ (λ (n : ℕ) (ns : List ℕ). n ∷ ns) g.1 ih.answers;
        leaves = subst (λ (z : State). Between L M o z t) (sym (series_state L M o st c (pushes_in (map given cs)))) ih.leaves;
      }
  series_is st s (Ask ∷ cs) (Asked x ∷ xs) t h (u, a, r) =
      let g = asks L M o st s h x u a in
      let ih = series_is st u cs xs t g.0 r in
      record { wrote = ih.wrote; answers = ap₂ (λ (n : ℕ) (ns : List ℕ). n ∷ ns) g.1 ih.answers; leaves = ih.leaves }
  series_is st s (Push chunk out ∷ cs) (Asked x ∷ xs) t h (u, a, r) = absurd a
  series_is st s (Ask ∷ cs) (Pushed x out' ∷ xs) t h (u, a, r) = absurd a

-- ---- two series

module _ (L : Limits) (M : Modes) {o₁ o₂ : Options} (fewer : Fewer o₁ o₂) (some₁ : copies_all o₁ ≡ false) (some₂ : copies_all o₂ ≡ false) where
  state_same : (st : State) (c : Lent) → state_after L M o₁ st c ≡ state_after L M o₂ st c
  state_same st c = ap (λ (z : State). cond (eqb (call_refusal L st c) 0) z st) (push_state L M fewer some₁ some₂ st c.0)

  pub numbers_same : (st : State) (gs : List (Option Lent)) → numbers L M o₁ st gs ≡ numbers L M o₂ st gs
  numbers_same st [] = refl
  numbers_same st (none ∷ gs) = ap (λ (ns : List ℕ). 0 ∷ ns) (numbers_same st gs)
  numbers_same st (some c ∷ gs) =
      ap (λ (ns : List ℕ). call_refusal L st c ∷ ns)
      (numbers_same (state_after L M o₁ st c) gs ∙ ap (λ (z : State). numbers L M o₂ z gs) (state_same st c))
