-- Bytes skipped one after the other are a gap, and so are blocks in which no packet may start. Rests on Laws and on meaning's CutLaws.
use Prim.Native.Nat.{ℕ, zero, suc, ◌+◌, ◌-◌, ◌≤◌, ◌<◌}
use mathlib.Core.Path.{◌≡◌, refl, sym, ap, ◌∙◌}
use mathlib.Core.List.{[], ◌∷◌}
use mathlib.Core.Bool.{Bool, true, false, not, ◌&&◌, ◌||◌}
use mathlib.Core.Logic.{inl, inr}
use denote.Enum.Declared.{tag_of}
use types.Run.{OneOf}
use native.Mathlib.Omega.{arith}
use native.Mathlib.Decide.{dec_lt}
use lib.ListN.{length, drop, get_or, length-drop}
use lib.Seq.{drop-drop, drop-length}
use lib.Dec.{leb, ltb}
use borrow.Author.Tests.{ltb-false, leb-false, ne_eqb}
use Rattle.meaning.specs.Bytes.{Bytes}
use Rattle.meaning.specs.Packets.{is_type, size_of, followed, step_of, Cut, cut, skip}
use Rattle.meaning.specs.declared.Step.{Step}
use Rattle.meaning.specs.declared.Step.TheVariants.{Packet, Skip, Keep}
use Rattle.meaning.specs.contracts.Step.{the_type}
use Rattle.meaning.proofs.ListLaws.{clash, or_neither}
use Rattle.meaning.proofs.CutLaws.{cut_skip}
use Rattle.tlv.specs.Gaps.{skip_many, Gap, GapTo, is_mark, near_type, may_start, LookedAt, NoStart}
use Rattle.tlv.proofs.Laws.{skip_here, candidate_is}

-- What is neither a packet's number nor that of bytes to keep is a skip.
pub not_skip : (x : Step) → OneOf (0 ∷ 2 ∷ []) (tag_of the_type x) → x ≡ Skip → ⊥
not_skip (Packet n) k e = clash (cc e)
not_skip Keep k e = clash (cc e)
not_skip Skip (inl k) e = absurd (omega arith)
not_skip Skip (inr k) e = absurd (omega arith)

module _ (P : ℕ) (run : Bytes) (at : ℕ) where
  pub gap_begin : at ≤ length run → Gap P run at at
  gap_begin h =
      let c : Cut = cut P (drop at run) in
      let n : c.skipped ≡ (at - at) + c.skipped = omega arith in
      record { forth = omega arith; inside = h; skips = λ i. record { packets = c.packets; skipped = n i; held = c.held } }

  one_more : (to : ℕ) (c : Cut) → at ≤ to → skip_many (to - at) (skip c) ≡ skip_many (to + 1 - at) c
  one_more to c h =
      let n : (to - at) + suc c.skipped ≡ (to + 1 - at) + c.skipped = omega arith in
      λ i. record { packets = c.packets; skipped = n i; held = c.held }

  pub gap_next : (to : ℕ) → to < length run → step_of P (drop to run) ≡ Skip → Gap P run at to → Gap P run at (to + 1)
  gap_next to h e g =
      record {
        forth = omega (arith, g.forth);
        inside = omega arith;
        skips =
            g.skips ∙ ap (skip_many (to - at)) (cut_skip P (drop to run) e ∙ ap (λ (s : Bytes). skip (cut P s)) (drop-drop 1 to run))
            ∙ one_more to (cut P (drop (to + 1) run)) g.forth;
      }

  pub gap_ends : (to : ℕ) (x : Step) → step_of P (drop to run) ≡ x → (x ≡ Skip → ⊥) → Gap P run at to → GapTo P run at to
  gap_ends to x e n g = record { forth = g.forth; inside = g.inside; skips = g.skips; ends = λ s. n (sym e ∙ s) }

  pub run_ends : (to : ℕ) → length run ≤ to → Gap P run at to → GapTo P run at to
  unfolding step_of
  run_ends to h g =
      let e : drop to run ≡ [] = ap (λ (n : ℕ). drop n run) (let z : to ≡ length run = omega (arith, g.inside) in z) ∙ drop-length run in
      gap_ends to Keep (ap (step_of P) e) (λ q. clash (cc q)) g

-- ---- offsets of a block, looked at one after the other

module _ (f : ℕ → Bool) (at : ℕ) where
  pub looked_begin : LookedAt f at 0 true
  looked_begin k h l = absurd (omega arith)

  -- b: whether one of the first i passes the test; t: whether the next one does
  pub looked_next : (i : ℕ) (b t : Bool) → f (at + i) ≡ t → LookedAt f at i (not b) → LookedAt f at (i + 1) (not (b || t))
  looked_next i true t e u = (u.0, u.1, omega (arith, u.2), u.3)
  looked_next i false true e u = (at + i, omega arith, omega arith, e)
  looked_next i false false e u = λ k h l. elim (dec_lt k (at + i)) [
    | yes b ↦ u k h b
    | no b ↦ (let z : k ≡ at + i = omega arith in ap f z ∙ e)
  ]

-- A block without a mark has no start.
pub quiet_idle : (run : Bytes) (at i : ℕ) → LookedAt (is_mark run) at i true → LookedAt (may_start run) at i true
quiet_idle run at i u k h l = ap (λ (b : Bool). b && near_type (get_or run (k + 1) 0)) (u k h l)

-- ---- past such blocks

near_is : (t : ℕ) → near_type t ≡ false → is_type t ≡ false
unfolding is_type
near_is t e =
    let o = or_neither (ltb t 4) (leb 0xFE t) e in
    let a : 4 ≤ t = ltb-false t 4 o.0 in
    let b : t < 0xFE = leb-false 0xFE t o.1 in
    rw (ne_eqb t 0x01 (λ q. omega arith), ne_eqb t 0x02 (λ q. omega arith), ne_eqb t 0x03 (λ q. omega arith), ne_eqb t 0xFE (λ q. omega arith), ne_eqb t 0xFF (λ q. omega arith))

module _ (run : Bytes) (at : ℕ) where
  pub none_begin : at ≤ length run → NoStart run at at
  none_begin h = record { forth = omega arith; inside = h; room = λ l. absurd (omega arith); none = λ k a b. absurd (omega arith) }

  pub none_short : (r : ℕ) → at < length run → NoStart run at r → r < length run
  none_short r h g = elim (dec_lt at r) [
    | yes b ↦ (let w = g.room b in omega arith)
    | no b ↦ omega (arith, g.forth)
  ]

  pub none_next : (to : ℕ) → to + 67 ≤ length run → LookedAt (may_start run) to 64 true → NoStart run at to → NoStart run at (to + 64)
  none_next to l u g =
      record {
        forth = omega (arith, g.forth);
        inside = omega arith;
        room = λ _. omega arith;
        none = λ k a b. elim (dec_lt k to) [
          | yes c ↦ g.none k a c
          | no c ↦ u k (omega arith) b
        ];
      }

module _ (P : ℕ) (run : Bytes) (at : ℕ) where
  no_start_skips : (k : ℕ) → k + 4 ≤ length run → may_start run k ≡ false → step_of P (drop k run) ≡ Skip
  no_start_skips k h n = skip_here P (drop k run) (omega (arith, length-drop k run)) (ap (λ (t : Bool). t && followed (drop k run)) (candidate_is run k P ∙ go (is_mark run k) refl n))
    where
      go : (t : Bool) → is_mark run k ≡ t → (t && near_type (get_or run (k + 1) 0)) ≡ false
          → (is_mark run k && is_type (get_or run (k + 1) 0) && leb (size_of (drop k run)) P) ≡ false
      go true e q = rw (e, near_is (get_or run (k + 1) 0) q)
      go false e q = rw e

  pub gap_past : (to r : ℕ) → NoStart run to r → Gap P run at to → Gap P run at r
  gap_past to r s g = go (r - to) to (omega (arith, s.forth)) (λ k a b. ((let w = s.room (omega arith) in omega arith), s.none k a b)) g
    where
      go : (d to : ℕ) → r ≡ to + d → ((k : ℕ) → to ≤ k → k < r → (k + 4 ≤ length run) × (may_start run k ≡ false)) → Gap P run at to → Gap P run at r
      go zero to e h g = let z : to ≡ r = omega arith in rw z at g
      go (suc d) to e h g =
          let a = h to (omega arith) (omega arith) in
          go d (to + 1) (omega arith) (λ k b c. h k (omega arith) c) (gap_next P run at to (omega (arith, a.0)) (no_start_skips to a.0 a.1) g)

  one_gap : (to r : ℕ) (c : Cut) → at ≤ to → to ≤ r → skip_many (to - at) (skip_many (r - to) c) ≡ skip_many (r - at) c
  one_gap to r c h l =
      let n : (to - at) + ((r - to) + c.skipped) ≡ (r - at) + c.skipped = omega arith in
      λ i. record { packets = c.packets; skipped = n i; held = c.held }

  -- one gap behind another
  pub gap_then : (to r : ℕ) → Gap P run at to → Gap P run to r → Gap P run at r
  gap_then to r g h =
      record {
        forth = omega (arith, g.forth, h.forth);
        inside = h.inside;
        skips = g.skips ∙ ap (skip_many (to - at)) h.skips ∙ one_gap to r (cut P (drop r run)) g.forth h.forth;
      }

  pub gap_stops : (r : ℕ) → (step_of P (drop r run) ≡ Skip → ⊥) → Gap P run at r → GapTo P run at r
  gap_stops r n g = record { forth = g.forth; inside = g.inside; skips = g.skips; ends = n }
