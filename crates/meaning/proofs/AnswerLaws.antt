-- Answers by 01's numbers: a refusal has its own, and it is not 0; an answer is told by its number, a narrowing's by number, change and
-- length. What a narrowing makes by the refusal's number. Rests on specs/Refusals and on changeMade.
use Prim.Native.Nat.{ℕ}
use mathlib.Core.Path.{◌≡◌, refl, sym, ap, ◌∙◌}
use mathlib.Core.Bool.{false, cond}
use mathlib.Core.Option.{Option, none}
use lib.Dec.{eqb}
use borrow.Author.Tests.{eqb-false, eq-eqb}
use Rattle.std.specs.Prelude.{Ok, Err, Some, None}
use Rattle.meaning.specs.Refusals.{Answer, Narrowing, number_of, answer_number, narrowing_number, narrowing_changed, narrowing_length}
use Rattle.meaning.specs.Narrow.{Change, change_made}
use Rattle.meaning.specs.declared.Refusal.{Refusal}
use Rattle.meaning.specs.declared.Refusal.TheVariants.{WorkRoom, FragmentRoom, MapRoom, Unsound, Long, Short, Tally, Input, Wishes}
use Rattle.meaning.proofs.ListLaws.{clash}

-- The refusal with this number.
abbrev refusal : ℕ → Refusal
refusal n =
    cond (eqb n 1) WorkRoom
    (cond (eqb n 2) FragmentRoom
    (cond (eqb n 3) MapRoom
    (cond (eqb n 4) Unsound
    (cond (eqb n 5) Long
    (cond (eqb n 6) Short
    (cond (eqb n 7) Tally
    (cond (eqb n 8) Input Wishes)))))))

again : (r : Refusal) → (refusal (number_of r) ≡ r) × (eqb (number_of r) 0 ≡ false)
unfolding number_of
again WorkRoom = (refl, refl)
again FragmentRoom = (refl, refl)
again MapRoom = (refl, refl)
again Unsound = (refl, refl)
again Long = (refl, refl)
again Short = (refl, refl)
again Tally = (refl, refl)
again Input = (refl, refl)
again Wishes = (refl, refl)

pub number_told : (a b : Refusal) → number_of a ≡ number_of b → a ≡ b
number_told a b e = sym (again a).0 ∙ ap refusal e ∙ (again b).0

-- A refusal's number is not 0.
pub refused_told : (r : Refusal) → eqb (number_of r) 0 ≡ false
refused_told r = (again r).1

pub not_zero : {X : Type 0} → (r : Refusal) → number_of r ≡ 0 → X
not_zero r e = absurd (eqb-false (number_of r) 0 (refused_told r) e)

pub refused_answer : (r : Refusal) → eqb (answer_number (Err r)) 0 ≡ false
unfolding answer_number
refused_answer r = refused_told r

pub answer_told : (a b : Answer) → answer_number a ≡ answer_number b → a ≡ b
unfolding answer_number
answer_told (Ok x) (Ok y) e = refl
answer_told (Ok x) (Err b) e = not_zero b (sym e)
answer_told (Err a) (Ok y) e = not_zero a e
answer_told (Err a) (Err b) e = ap Err (number_told a b e)

pub narrowing_told : (a b : Narrowing) → narrowing_number a ≡ narrowing_number b → narrowing_changed a ≡ narrowing_changed b
    → narrowing_length a ≡ narrowing_length b → a ≡ b
unfolding narrowing_number narrowing_changed narrowing_length
narrowing_told (Err a) (Err b) n c l = ap Err (number_told a b n)
narrowing_told (Err a) (Ok None) n c l = not_zero a n
narrowing_told (Err a) (Ok (Some k)) n c l = clash (cc)
narrowing_told (Ok None) (Err b) n c l = not_zero b (sym n)
narrowing_told (Ok None) (Ok None) n c l = refl
narrowing_told (Ok None) (Ok (Some k)) n c l = clash (cc)
narrowing_told (Ok (Some j)) (Err b) n c l = clash (cc)
narrowing_told (Ok (Some j)) (Ok None) n c l = clash (cc)
narrowing_told (Ok (Some j)) (Ok (Some k)) n c l = ap (λ n. Ok (Some n)) l

-- Refused, no change is made; accepted, the one that the definition has.
pub none_made : (r : Refusal) (c : Option Change) → change_made (number_of r) c ≡ none
unfolding change_made
none_made r c = rw (refused_told r)

pub all_made : (x : ℕ) (c : Option Change) → x ≡ 0 → change_made x c ≡ c
unfolding change_made
all_made x c z = rw (eq-eqb x 0 z)
