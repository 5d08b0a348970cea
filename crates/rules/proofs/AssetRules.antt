-- The assets of a list in the map room, read from its front on, and what one of them does to a set by its kind.
-- Rests on the definition of a list, `assets_in`, and on MemberLaws.
use Prim.Native.Nat.{ℕ, zero, suc, ◌+◌, ◌-◌, ◌*◌, ◌/◌, ◌≤◌, ◌<◌}
use mathlib.Core.Path.{◌≡◌, refl, sym, ap, ◌∙◌}
use mathlib.Core.Bool.{Bool, true, false, ◌&&◌}
use mathlib.Core.List.{List, [], ◌∷◌}
use native.Mathlib.Omega.{arith}
use lib.Dec.{eqb}
use lib.ListN.{length, take, drop, get_or, length-drop}
use lib.Seq.{take-length}
use Rattle.std.proofs.lemmas.List.{length-take-le}
use Rattle.meaning.specs.Sets.{Words}
use Rattle.meaning.specs.Tables.{kind_of}
use Rattle.meaning.specs.Learn.{Listed, assets_in}
use Rattle.meaning.specs.declared.Part.{Part}
use Rattle.meaning.specs.declared.Part.TheVariants.{Other}
use Rattle.meaning.proofs.ListLaws.{and_true, and_false}
use Rattle.rules.specs.Changes.{Changed}
use Rattle.rules.proofs.MemberLaws.{changed_same}

-- a kind's number past the two
pub kind_other : (n : ℕ) → (n ≡ 0 → ⊥) → (n ≡ 1 → ⊥) → kind_of n ≡ Other
unfolding kind_of
kind_other zero a b = absurd (a refl)
kind_other (suc zero) a b = absurd (b refl)
kind_other (suc (suc n)) a b = refl

-- ---- the list in these numbers

abbrev pub listed : List ℕ → Listed
listed ns = assets_in (length ns / 2) ns

pub listed_next : (ns : List ℕ) → 2 ≤ length ns → listed ns ≡ (get_or ns 0 0, kind_of (get_or ns 1 0)) ∷ listed (take (length ns - 2) (drop 2 ns))
unfolding assets_in
listed_next [] l = absurd (omega arith)
listed_next (p ∷ []) l = absurd (omega arith)
listed_next (p ∷ k ∷ ns) l =
    let h : length (p ∷ k ∷ ns) / 2 ≡ suc (length ns / 2) = omega arith in
    let e : length (p ∷ k ∷ ns) - 2 ≡ length ns = omega arith in
    ap (λ (n : ℕ). assets_in n (p ∷ k ∷ ns)) h ∙ ap (λ (left : List ℕ). (p, kind_of k) ∷ listed left) (sym (ap (λ (n : ℕ). take n ns) e ∙ take-length ns))

pub listed_end : (ns : List ℕ) → length ns < 2 → listed ns ≡ []
unfolding assets_in
listed_end ns l = let h : length ns / 2 ≡ 0 = omega arith in ap (λ (n : ℕ). assets_in n ns) h

-- n assets at the front of a place
assets_front : (n : ℕ) (ns : List ℕ) → 2 * n ≤ length ns → assets_in n (take (2 * n) ns) ≡ assets_in n ns
unfolding assets_in
assets_front zero ns l = refl
assets_front (suc n) [] l = absurd (omega arith)
assets_front (suc n) (p ∷ []) l = absurd (omega arith)
assets_front (suc n) (p ∷ k ∷ ns) l =
    let e : 2 * suc n ≡ suc (suc (2 * n)) = omega arith in
    rw e (ap (λ (as' : Listed). (p, kind_of k) ∷ as') (assets_front n ns (omega arith)))

listed_front : (n : ℕ) (ns : List ℕ) → 2 * n ≤ length ns → listed (take (2 * n) ns) ≡ assets_in n ns
listed_front n ns l =
    let h : length (take (2 * n) ns) / 2 ≡ n = omega (arith, length-take-le (2 * n) ns l) in
    ap (λ (m : ℕ). assets_in m (take (2 * n) ns)) h ∙ assets_front n ns l

pub listed_part : (base n : ℕ) (ns : List ℕ) → base + 2 * n ≤ length ns → listed (take (base + 2 * n - base) (drop base ns)) ≡ assets_in n (drop base ns)
listed_part base n ns l =
    let e : base + 2 * n - base ≡ 2 * n = omega arith in
    ap (λ (m : ℕ). listed (take m (drop base ns))) e ∙ listed_front n (drop base ns) (omega (arith, length-drop base ns))

-- ---- one asset

module _ (test : Part → Bool) (p : ℕ) {part : Part} {t : Bool} (e : t ≡ test part) where
  pub asset_picked : t ≡ true → {way : Bool → Bool → Bool} {a b : Words} → Changed way (eqb p) a b → Changed way (λ q. eqb p q && test part) a b
  asset_picked h x = changed_same (λ q. sym (ap (λ (b : Bool). eqb p q && b) (sym e ∙ h) ∙ and_true (eqb p q))) x

  pub asset_left : t ≡ false → (q : ℕ) → (eqb p q && test part) ≡ false
  asset_left h q = ap (λ (b : Bool). eqb p q && b) (sym e ∙ h) ∙ and_false (eqb p q)
