-- Narrowing by demand 1: the lowest number that applies, and nothing changed where it is refused; and what a result tells of a change is what
-- the definition changes. Rests on the promise of the three narrowings.
use Rattle.std.specs.Prelude.{Ok, Err, Some, None}
use Prim.Native.Nat.{ℕ, ◌≤◌}
use mathlib.Core.Path.{◌≡◌, refl, sym, ap, ap₂, ◌∙◌, subst}
use mathlib.Core.Bool.{Bool, true, false, cond, not}
use mathlib.Core.List.{[], ◌∷◌, ◌++◌}
use mathlib.Core.Option.{Option, none, some, none-ne-some}
use lib.ListN.{length, take, drop}
use lib.Dec.{eqb, leb, ltb}
use borrow.Author.Tests.{leb-true, le-leb}
use Rattle.meaning.specs.Bytes.{Bytes}
use Rattle.meaning.specs.Lists.{is_some}
use Rattle.meaning.specs.Writing.{Wrote}
use Rattle.meaning.specs.Narrow.{Change, narrow_refusal, change_made, changed_bytes, none_of_each, stays_of, goes_of}
use Rattle.meaning.specs.Refusals.{number_of, narrowing_number, narrowing_changed, narrowing_length}
use Rattle.meaning.specs.declared.Refusal.TheVariants.{Long, Short}
use Rattle.meaning.proofs.Writes.{wrote_none}
use Rattle.narrowing.specs.Answers.{NarrowedAs}
use Rattle.narrowing.specs.declared.narrow.Narrowed as narrow
use Rattle.narrowing.proofs.AnswerLaws.{narrowed_one}
use Rattle.demands.specs.Demands.{Narrows, change_told, lowest}
use Rattle.demands.proofs.Tests.{below_is, unwritten, overwritten}

-- ---- refused

lowest_of_two : (a b : Bool) → cond a (cond b 0 6) 5 ≡ lowest ((5, not a) ∷ (6, not b) ∷ [])
unfolding lowest
lowest_of_two true true = refl
lowest_of_two true false = refl
lowest_of_two false b = refl

narrow_number : (n k : ℕ) → narrow_refusal n k ≡ lowest ((5, ltb 65539 n) ∷ (6, ltb k n) ∷ [])
unfolding narrow_refusal
narrow_number n k =
    lowest_of_two (leb n 65539) (leb n k) ∙ ap₂ (λ (a b : Bool). lowest ((5, a) ∷ (6, b) ∷ [])) (sym (below_is 65539 n)) (sym (below_is k n))

none_changed : (x : ℕ) (c : Option Change) → eqb x 0 ≡ false → change_made x c ≡ none
unfolding change_made
none_changed x c e = rw e

module _ (n : Bytes) (c : Option Change) (d : Bytes) where
  abbrev number : ℕ
  number = narrow_refusal (length n) (length d)

  abbrev made : Option Change
  made = change_made number c

  module _ (x : narrow.Narrowed) (d' : Bytes) (p : Narrows n c d x d') where
    pub narrow_refused : (narrowing_number x.narrowing ≡ lowest ((5, ltb 65539 (length n)) ∷ (6, ltb (length d) (length n)) ∷ []))
        × (eqb (narrowing_number x.narrowing) 0 ≡ false → (d' ≡ d) × (x.stayed ≡ none_of_each) × (x.went ≡ none_of_each))
    narrow_refused = (p.number_is ∙ narrow_number (length n) (length d), λ e. stays (none_changed number c (ap (λ (k : ℕ). eqb k 0) (sym p.number_is) ∙ e)))
      where
        stays : made ≡ none → (d' ≡ d) × (x.stayed ≡ none_of_each) × (x.went ≡ none_of_each)
        stays e = (
          unwritten d d' (narrowing_length x.narrowing) (subst (λ (z : Option Change). Wrote (changed_bytes z) d 0 d' (narrowing_length x.narrowing)) e p.written),
          p.stays_are ∙ ap stays_of e,
          p.goes_are ∙ ap goes_of e,
        )

    -- what result and output tell is the change that was made
    pub told_made : change_told x d' ≡ made
    told_made = go made p.changed_is p.written p.stays_are p.goes_are
      where
        go : (z : Option Change) → narrowing_changed x.narrowing ≡ is_some z → Wrote (changed_bytes z) d 0 d' (narrowing_length x.narrowing) → x.stayed ≡ stays_of z → x.went ≡ goes_of z
            → change_told x d' ≡ z
        go none e w s g = ap (λ (b : Bool). cond b (some (record { out = take (narrowing_length x.narrowing) d'; stays = x.stayed; goes = x.went })) none) e
        go (some z) e w s g =
            ap (λ (b : Bool). cond b (some (record { out = take (narrowing_length x.narrowing) d'; stays = x.stayed; goes = x.went })) none) e
            ∙ (λ i. some (record { out = w.front i; stays = s i; goes = g i }))

    pub told_some : (z : Change) → change_told x d' ≡ some z → c ≡ some z
    unfolding change_made
    told_some z e = go (eqb number 0) (sym told_made ∙ e)
      where
        go : (b : Bool) → cond b c none ≡ some z → c ≡ some z
        go true q = q
        go false q = absurd (none-ne-some z q)

    pub told_short : (z : Change) → change_told x d' ≡ some z → length n ≤ 65539
    unfolding change_made narrow_refusal
    told_short z e = go (leb (length n) 65539) refl (sym told_made ∙ e)
      where
        go : (b : Bool) → leb (length n) 65539 ≡ b → cond (eqb (cond b (cond (leb (length n) (length d)) 0 6) 5) 0) c none ≡ some z → length n ≤ 65539
        go true h q = leb-true (length n) 65539 h
        go false h q = absurd (none-ne-some z q)

  pub narrow_unique : (x y : narrow.Narrowed) (e f : Bytes) → Narrows n c d x e → Narrows n c d y f → (x ≡ y) × (e ≡ f)
  narrow_unique x y e f a b =
      let z = narrowed_one number c d e f x.narrowing y.narrowing x.stayed y.stayed x.went y.went a b in
      (λ i. record { narrowing = z.0 i; stayed = z.2 i; went = z.3 i }, z.1)

-- ---- some result is allowed

result_with : (a b : Bool) (c : Option Change) (d : Bytes) → (r : narrow.Narrowed) × (d' : Bytes) × NarrowedAs (cond a (cond b 0 6) 5) c d d' r.narrowing r.stayed r.went
unfolding change_made number_of narrowing_number narrowing_changed narrowing_length
result_with true true none d = (
  record { narrowing = Ok None; stayed = none_of_each; went = none_of_each },
  d,
  record { number_is = refl; changed_is = refl; written = wrote_none d 0; stays_are = refl; goes_are = refl },
)
result_with true true (some c) d = (
  record { narrowing = Ok (Some (length c.out)); stayed = c.stays; went = c.goes },
  c.out ++ drop (length c.out) d,
  record { number_is = refl; changed_is = refl; written = overwritten c.out d (length c.out) refl; stays_are = refl; goes_are = refl },
)
result_with true false c d = (
  record { narrowing = Err Short; stayed = none_of_each; went = none_of_each },
  d,
  record { number_is = refl; changed_is = refl; written = wrote_none d 0; stays_are = refl; goes_are = refl },
)
result_with false b c d = (
  record { narrowing = Err Long; stayed = none_of_each; went = none_of_each },
  d,
  record { number_is = refl; changed_is = refl; written = wrote_none d 0; stays_are = refl; goes_are = refl },
)

pub narrow_total : (n : Bytes) (c : Option Change) (d : Bytes) → (x : narrow.Narrowed) × (d' : Bytes) × Narrows n c d x d'
unfolding narrow_refusal
narrow_total n c d = result_with (leb (length n) 65539) (leb (length n) (length d)) c d

-- ---- not refused

pub gives : (n : Bytes) (c : Option Change) (d : Bytes) (x : narrow.Narrowed) (d' : Bytes) → length n ≤ 65539 → length n ≤ length d → Narrows n c d x d' → change_told x d' ≡ c
unfolding narrow_refusal change_made
gives n c d x d' h k p = told_made n c d x d' p ∙ rw (le-leb (length n) 65539 h, le-leb (length n) (length d) k)
