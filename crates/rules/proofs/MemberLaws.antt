-- Sets identifier by identifier: one put in or taken out; and of either way, nothing changed, and one change after another.
-- Rests on SetLaws of `meaning` and on specs/Changes.
use Prim.Native.Nat.{ℕ, zero, suc, ◌/◌, ◌<◌}
use mathlib.Core.Path.{◌≡◌, refl, sym, ap, ◌∙◌}
use mathlib.Core.Bool.{Bool, true, false, not, ◌&&◌, ◌||◌}
use native.Mathlib.Nat.{zero-div}
use native.Mathlib.Omega.{arith}
use lib.Dec.{eqb}
use lib.ListN.{length, get_or, replicate, length-set}
use borrow.Author.Tests.{eqb-true, eqb-false}
use Rattle.meaning.specs.Sets.{Words, in_set, with_id, without_id}
use Rattle.meaning.proofs.ListLaws.{or_true, or_false, and_true, and_false}
use Rattle.meaning.proofs.SetLaws.{insert_same, insert_other, remove_same, remove_other}
use Rattle.rules.specs.Changes.{Changed, Way, Inserts, Removes}

-- ---- either way of changing a set

-- tests that agree
pub changed_same : {way : Bool → Bool → Bool} {f g : ℕ → Bool} {ws ws' : Words} → ((q : ℕ) → f q ≡ g q) → Changed way f ws ws' → Changed way g ws ws'
changed_same {way} {f} {g} {ws} h x = record { as_long = x.as_long; member = λ q b. x.member q b ∙ ap (way (in_set ws q)) (h q) }

module _ {way : Bool → Bool → Bool} (w : Way way) where
  -- nothing
  pub changed_none : {f : ℕ → Bool} (ws : Words) → ((q : ℕ) → f q ≡ false) → Changed way f ws ws
  changed_none ws h = record { as_long = refl; member = λ q b. sym (ap (way (in_set ws q)) (h q) ∙ w.stays (in_set ws q)) }

  -- one change after another
  pub changed_then : {f g : ℕ → Bool} {a b c : Words} → Changed way f a b → Changed way g b c → Changed way (λ q. f q || g q) a c
  changed_then {f} {g} {a} x y =
      record {
        as_long = y.as_long ∙ x.as_long;
        member = λ q l. y.member q l ∙ ap (λ (t : Bool). way t (g q)) (x.member q l) ∙ w.both (in_set a q) (f q) (g q);
      }

-- ---- one identifier

module _ (ws : Words) (p : ℕ) (l : length ws ≡ 1024) (s : p < 65536) where
  within : p / 64 < length ws
  within = omega arith

  pub inserts_one : Inserts (eqb p) ws (with_id ws p)
  unfolding with_id
  inserts_one = record { as_long = simp length-set refl; member = λ q b. go q (eqb p q) refl }
    where
      go : (q : ℕ) (t : Bool) → eqb p q ≡ t → in_set (with_id ws p) q ≡ (in_set ws q || t)
      go q true e = ap (in_set (with_id ws p)) (sym (eqb-true p q e)) ∙ insert_same ws p within ∙ sym (or_true (in_set ws q))
      go q false e = insert_other ws p q within (eqb-false p q e) ∙ sym (or_false (in_set ws q))

  pub removes_one : Removes (eqb p) ws (without_id ws p)
  unfolding without_id
  removes_one = record { as_long = simp length-set refl; member = λ q b. go q (eqb p q) refl }
    where
      go : (q : ℕ) (t : Bool) → eqb p q ≡ t → in_set (without_id ws p) q ≡ (in_set ws q && not t)
      go q true e = ap (in_set (without_id ws p)) (sym (eqb-true p q e)) ∙ remove_same ws p within ∙ sym (and_false (in_set ws q))
      go q false e = remove_other ws p q within (eqb-false p q e) ∙ sym (and_true (in_set ws q))

  -- in already, or not in
  pub inserts_again : in_set ws p ≡ true → Inserts (eqb p) ws ws
  inserts_again t = record { as_long = refl; member = λ q b. go q (eqb p q) refl }
    where
      go : (q : ℕ) (u : Bool) → eqb p q ≡ u → in_set ws q ≡ (in_set ws q || u)
      go q true e = ap (in_set ws) (sym (eqb-true p q e)) ∙ t ∙ sym (or_true (in_set ws q))
      go q false e = sym (or_false (in_set ws q))

  pub removes_again : in_set ws p ≡ false → Removes (eqb p) ws ws
  removes_again f = record { as_long = refl; member = λ q b. go q (eqb p q) refl }
    where
      go : (q : ℕ) (u : Bool) → eqb p q ≡ u → in_set ws q ≡ (in_set ws q && not u)
      go q true e = ap (in_set ws) (sym (eqb-true p q e)) ∙ f ∙ sym (and_false (in_set ws q))
      go q false e = sym (and_true (in_set ws q))

-- ---- no identifier

-- no identifier in words of zeros
zeros_at : (n i : ℕ) → ◌≡◌ {A = ℕ} (get_or (replicate n 0) i 0) 0
zeros_at zero i = refl
zeros_at (suc n) zero = refl
zeros_at (suc n) (suc i) = zeros_at n i

pub empty : (n q : ℕ) → in_set (replicate n 0) q ≡ false
unfolding in_set
empty n q = rw (zeros_at n (q / 64), zero-div)
