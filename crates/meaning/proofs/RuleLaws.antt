-- Fewer wishes drop more, keep less and are ready alike. Rests on specs/Rules.
use Prim.Native.Nat.{ℕ}
use mathlib.Core.Path.{◌≡◌, sym, ap, ◌∙◌, subst}
use mathlib.Core.Logic.{inl, inr}
use mathlib.Core.Bool.{Bool, true, false, cond, not, ◌&&◌, ◌||◌}
use mathlib.Core.List.{List}
use mathlib.Core.Option.{Option, none, some}
use lib.Dec.{eqb}
use Rattle.meaning.specs.Sets.{in_set}
use Rattle.meaning.specs.Lists.{any}
use Rattle.meaning.specs.Mmtp.{Mmtp, is_signalling}
use Rattle.meaning.specs.Wishes.{wanted, ours}
use Rattle.meaning.specs.Learn.{Known, Listed, lists}
use Rattle.meaning.specs.Rules.{list_of, lists_it, assets_of, kept_by, dropped_by, in_drop_set, drops, ready}
use Rattle.meaning.specs.Push.{withheld}
use Rattle.meaning.specs.Less.{Fewer}
use Rattle.meaning.specs.declared.Part.{Part}
use Rattle.meaning.specs.declared.Service.{Service}
use Rattle.meaning.specs.declared.Options.{Options}
use Rattle.meaning.proofs.ListLaws.{and_both, both_true, or_either, or_left, or_right, contra, any_under}
use Rattle.meaning.proofs.TableLaws.{wanted_under}

-- ---- parts of a conjunction and a disjunction, one by one

and_under : (a b c d : Bool) → (a ≡ true → c ≡ true) → (b ≡ true → d ≡ true) → (a && b) ≡ true → (c && d) ≡ true
and_under a b c d f g e = let h = and_both a b e in both_true c d (f h.0) (g h.1)

or_under : (a b c d : Bool) → (a ≡ true → c ≡ true) → (b ≡ true → d ≡ true) → (a || b) ≡ true → (c || d) ≡ true
or_under a b c d f g e = elim (or_either a b e) [ inl h ↦ or_left c d (f h) | inr h ↦ or_right c d (g h) ]

module _ {o₁ o₂ : Options} (fewer : Fewer o₁ o₂) where
  same_ours : (s : ℕ) → ours o₁.service s ≡ ours o₂.service s
  same_ours s = ap (λ (v : Service). ours v s) fewer.service_same

  -- a list names what passes a weaker test
  lists_under : (f g : Part → Bool) (q : ℕ) (o : Option Listed) → ((p : Part) → f p ≡ true → g p ≡ true) → lists_it f q o ≡ true → lists_it g q o ≡ true
  lists_under f g q o h =
      any_under (λ a. eqb a.0 q && f a.1) (λ a. eqb a.0 q && g a.1) (λ a. and_under (eqb a.0 q) (f a.1) (eqb a.0 q) (g a.1) (λ e. e) (h a.1)) (assets_of o)

  kept_under : (ls : List (ℕ × Listed)) (q : ℕ) (x : ℕ × ℕ) → kept_by o₁ ls q x ≡ true → kept_by o₂ ls q x ≡ true
  unfolding kept_by
  kept_under ls q x =
      and_under (ours o₁.service x.0) _ (ours o₂.service x.0) _ (λ e. sym (same_ours x.0) ∙ e)
      (or_under (eqb x.1 q) (lists_it (wanted o₁) q (list_of x.1 ls)) (eqb x.1 q) (lists_it (wanted o₂) q (list_of x.1 ls)) (λ e. e)
      (lists_under (wanted o₁) (wanted o₂) q (list_of x.1 ls) (wanted_under fewer)))

  dropped_under : (ls : List (ℕ × Listed)) (q : ℕ) (x : ℕ × ℕ) → dropped_by o₂ ls q x ≡ true → dropped_by o₁ ls q x ≡ true
  unfolding dropped_by
  dropped_under ls q x e = go (ours o₁.service x.0) (subst (λ (b : Bool). by o₂ b ≡ true) (sym (same_ours x.0)) e)
    where
      by : Options → Bool → Bool
      by o b =
          cond b (lists_it (λ part. not (wanted o part)) q (list_of x.1 ls))
          (eqb x.1 q || lists_it (λ part. true) q (list_of x.1 ls))

      go : (b : Bool) → by o₂ b ≡ true → by o₁ b ≡ true
      go true h =
          lists_under (λ part. not (wanted o₂ part)) (λ part. not (wanted o₁ part)) q (list_of x.1 ls)
          (λ p. contra (wanted o₁ p) (wanted o₂ p) (wanted_under fewer p)) h
      go false h = h

  pub set_under : (k : Known) (q : ℕ) → in_drop_set o₂ k q ≡ true → in_drop_set o₁ k q ≡ true
  unfolding in_drop_set
  set_under k q =
      and_under (not (eqb q 0) && droppers o₂) (not (keepers o₂)) (not (eqb q 0) && droppers o₁) (not (keepers o₁))
      (and_under (not (eqb q 0)) (droppers o₂) (not (eqb q 0)) (droppers o₁) (λ e. e)
      (or_under (any (dropped_by o₂ (lists k) q) k.packages) (not o₂.carousel && in_set k.data_set q)
      (any (dropped_by o₁ (lists k) q) k.packages) (not o₁.carousel && in_set k.data_set q)
      (any_under (dropped_by o₂ (lists k) q) (dropped_by o₁ (lists k) q) (dropped_under (lists k) q) k.packages)
      (and_under (not o₂.carousel) (in_set k.data_set q) (not o₁.carousel) (in_set k.data_set q)
      (contra o₁.carousel o₂.carousel fewer.carousel_too) (λ e. e))))
      (contra (keepers o₁) (keepers o₂) (any_under (kept_by o₁ (lists k) q) (kept_by o₂ (lists k) q) (kept_under (lists k) q) k.packages))
    where
      droppers : Options → Bool
      droppers o = any (dropped_by o (lists k) q) k.packages || (not o.carousel && in_set k.data_set q)

      keepers : Options → Bool
      keepers o = any (kept_by o (lists k) q) k.packages

  -- What more wishes drop, fewer drop.
  pub drops_under : (k : Known) (q : ℕ) → drops o₂ k q ≡ true → drops o₁ k q ≡ true
  unfolding drops
  drops_under k q =
      or_under (not o₂.eit && eqb q 0x8000) (in_drop_set o₂ k q) (not o₁.eit && eqb q 0x8000) (in_drop_set o₁ k q)
      (and_under (not o₂.eit) (eqb q 0x8000) (not o₁.eit) (eqb q 0x8000) (contra o₁.eit o₂.eit fewer.eit_too) (λ e. e))
      (set_under k q)

  -- Readiness depends on the service alone.
  pub ready_same : (k : Known) → ready o₁.service k ≡ ready o₂.service k
  ready_same k = ap (λ (v : Service). ready v k) fewer.service_same

  -- What is withheld by more wishes is withheld by fewer.
  pub withheld_under : (k : Known) (m : Option Mmtp) → withheld o₂ k m ≡ true → withheld o₁ k m ≡ true
  withheld_under k none e = e
  withheld_under k (some m) e =
      or_under (drops o₂ k m.identifier) (not (is_signalling m) && not (ready o₂.service k)) (drops o₁ k m.identifier) (not (is_signalling m) && not (ready o₁.service k))
      (drops_under k m.identifier)
      (λ h. subst (λ (b : Bool). (not (is_signalling m) && not b) ≡ true) (sym (ready_same k)) h) e
