-- A table as narrowing leaves it, as `table` meets it: what a change is in each of its cases, how long the new body is, and the table
-- written anew. Rests on ExactLaws, and on Writes of `meaning`.
use Prim.Native.Nat.{ℕ, ◌+◌, ◌-◌, ◌≤◌}
use mathlib.Core.Path.{◌≡◌, refl, ◌∙◌}
use mathlib.Core.Bool.{true, false}
use mathlib.Core.List.{[], ◌∷◌, ◌++◌}
use mathlib.Core.Option
use mathlib.Core.Option.{Option, none, some}
use native.Mathlib.Omega.{arith}
use lib.ListN.{length, take, drop, get_or, length-append, length-drop}
use lib.Seq.{length-take-le}
use borrow.Author.Tests.{eq-eqb, ne_eqb}
use Rattle.meaning.specs.Bytes.{Bytes, put16}
use Rattle.meaning.specs.Writing.{Wrote}
use Rattle.meaning.specs.Tables.{is_mpt, is_plt}
use Rattle.meaning.specs.Narrow.{mpt_body, mpt_without, plt_for, new_body, table_bytes, new_table}
use Rattle.meaning.specs.declared.Options.{Options}
use Rattle.meaning.proofs.ListLaws.{clash}
use Rattle.meaning.proofs.Writes.{wrote_then}
use Rattle.narrowing.specs.Bodies.{MptLess, one_entry, PltBounds}
use Rattle.narrowing.specs.Tables.{body_of, ChangeIs, TableChangeIs, is_change, Exact, after_table}
use Rattle.narrowing.specs.declared.table.BodyChange.{BodyChange}
use Rattle.narrowing.specs.declared.mpt.MptChange.{MptChange}
use Rattle.narrowing.specs.declared.plt.PltChange.{PltChange}
use Rattle.narrowing.proofs.ExactLaws.{exact_table}

-- ---- the body of a table with this number, on this identifier

module _ (o : Options) (p number : ℕ) (b : Bytes) where
  pub body_mpt : is_mpt number ≡ true → new_body o p number b ≡ mpt_without o b
  unfolding new_body
  body_mpt m = rw m

  module _ (m : is_mpt number ≡ false) where
    pub body_other : (number ≡ 0x80 → ⊥) → new_body o p number b ≡ none
    unfolding new_body is_plt
    body_other h = rw (m, ne_eqb number 0x80 h)

    module _ (is : number ≡ 0x80) where
      pub body_elsewhere : (p ≡ 0 → ⊥) → new_body o p number b ≡ none
      unfolding new_body is_plt
      body_elsewhere h = rw (m, eq-eqb number 0x80 is, ne_eqb p 0 h)

      pub body_plt : p ≡ 0 → new_body o p number b ≡ plt_for o.service b
      unfolding new_body is_plt
      body_plt h = rw (m, eq-eqb number 0x80 is, eq-eqb p 0 h)

-- ---- a change, by its cases

module _ (n : Option Bytes) (o : Options) (b : Bytes) (change : BodyChange) (h : ChangeIs n o b change) where
  module _ (less : MptChange) (q : change ≡ BodyChange.Mpt less) where
    pub as_mpt : (n ≡ mpt_without o b) × MptLess o b less
    as_mpt = rw q at h

    pub mpt_length : less.front + 1 + less.size + (length b - less.end) ≡ length (Option.get_or n b)
    unfolding mpt_body
    mpt_length =
        let m = as_mpt.1 in
        let l = length-take-le less.front b (omega (arith, m.fits, m.within)) in
        rw (as_mpt.0, m.narrowed) (simp length-append (omega (arith, l, m.size_is, length-drop less.end b)))

  module _ (one : PltChange) (q : change ≡ BodyChange.Plt one) where
    pub as_plt : PltBounds b one × (n ≡ some (one_entry b one))
    as_plt = rw q at h

    pub plt_length : 1 + (one.end - one.start) + (length b - one.past) ≡ length (Option.get_or n b)
    plt_length =
        let p = as_plt.0 in
        let l = length-take-le (one.end - one.start) (drop one.start b) (omega (arith, length-drop one.start b, p.ends, p.before, p.within)) in
        rw as_plt.1 (simp length-append (omega (arith, l, length-drop one.past b)))

  pub as_same : change ≡ BodyChange.Same → n ≡ none
  as_same q = rw q at h

-- no change, and a change
pub stays : (n : Option Bytes) (o : Options) (b : Bytes) (change : BodyChange) → ChangeIs n o b change → is_change change ≡ false → n ≡ none
stays n o b (BodyChange.Mpt less) h q = clash (cc)
stays n o b (BodyChange.Plt one) h q = clash (cc)
stays n o b BodyChange.Same h q = h

pub changed : (n : Option Bytes) (o : Options) (b : Bytes) (change : BodyChange) → ChangeIs n o b change → is_change change ≡ true → n ≡ some (Option.get_or n b)
changed n o b (BodyChange.Mpt less) h q = let e = h.0 ∙ h.1.narrowed in rw e
changed n o b (BodyChange.Plt one) h q = rw h.1
changed n o b BodyChange.Same h q = clash (cc)

-- ---- the whole table

two : (t : Bytes) → 4 ≤ length t → take 2 t ≡ get_or t 0 0 ∷ get_or t 1 0 ∷ []
two [] h = absurd (omega arith)
two (a ∷ []) h = absurd (omega arith)
two (a ∷ c ∷ t) h = refl

-- its new body
abbrev pub anew : Options → ℕ → Bytes → Option Bytes
anew o p t = new_body o p (get_or t 0 0) (body_of t)

module _ (o : Options) (p : ℕ) (t : Bytes) (x : Exact t) where
  pub after_none : anew o p t ≡ none → after_table o p t ≡ t
  unfolding after_table new_table
  after_none e = rw (exact_table t x, e)

  -- the two bytes that stay, the new length and the new body
  pub after_some : (y : Bytes) → anew o p t ≡ some y → after_table o p t ≡ take 2 t ++ (put16 (length y) ++ y)
  unfolding after_table new_table table_bytes
  after_some y e = rw (exact_table t x, e, two t x.four)

  module _ (change : BodyChange) (h : TableChangeIs o p t change) where
    pub after_same : is_change change ≡ false → after_table o p t ≡ t
    after_same q = after_none (stays (anew o p t) o (body_of t) change h q)

    pub wrote_anew : {d d₁ d₂ d₃ : Bytes} {to a c e n : ℕ} → is_change change ≡ true → n ≡ length (Option.get_or (anew o p t) (body_of t))
        → Wrote (take 2 t) d to d₁ a → Wrote (put16 n) d₁ a d₂ c → Wrote (Option.get_or (anew o p t) (body_of t)) d₂ c d₃ e → Wrote (after_table o p t) d to d₃ e
    wrote_anew q l u v w = rw (after_some _ (changed (anew o p t) o (body_of t) change h q)) (wrote_then u (wrote_then (rw l at v) w))
