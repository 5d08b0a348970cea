-- A step by the header, the length and the byte behind the packet, and where these stand in bytes that lie in two parts. Rests on Laws.
use Prim.Native.Nat.{ℕ, ◌+◌, ◌-◌, ◌≤◌, ◌<◌}
use mathlib.Core.Path.{◌≡◌, sym, ap, ◌∙◌}
use mathlib.Core.Bool.{Bool, true, false, not, ◌&&◌}
use mathlib.Core.List.{◌++◌}
use native.Mathlib.Decide.{dec_le}
use native.Mathlib.Omega.{arith}
use lib.ListN.{length, drop, get_or, length-append}
use lib.Seq.{get_or-append-add}
use lib.Dec.{leb, eqb}
use borrow.Author.Tests.{leb-true, leb-false, le-leb, lt-leb, eq-eqb, ne_eqb, not-true, not-false}
use Rattle.meaning.specs.Bytes.{Bytes, be16_at}
use Rattle.meaning.specs.Packets.{size_of, candidate, followed, step_of}
use Rattle.meaning.specs.declared.Step.TheVariants.{Packet, Skip, Keep}
use Rattle.tlv.specs.Across.{head_of}
use Rattle.tlv.proofs.Laws.{skip_here, keep_long, packet_here}

-- ---- a question that was answered

pub told : {r t : Bool} → r ≡ t → not r ≡ false → t ≡ true
told {r} e h = sym e ∙ not-false r h

pub denied : {r t : Bool} → r ≡ t → not r ≡ true → t ≡ false
denied {r} e h = sym e ∙ not-true r h

-- ---- bytes in two parts

module _ (s t : Bytes) where
  pub length_second : (n : ℕ) → length s < n → leb (n - length s) (length t) ≡ leb n (length (s ++ t))
  length_second n h =
      let l = length-append s t in
      elim (dec_le (n - length s) (length t)) [
        | yes k ↦ le-leb _ _ k ∙ sym (le-leb n (length (s ++ t)) (omega arith))
        | no k ↦ lt-leb (n - length s) (length t) (omega arith) ∙ sym (lt-leb n (length (s ++ t)) (omega arith))
      ]

  pub byte_second : (n : ℕ) → length s ≤ n → get_or t (n - length s) 0 ≡ get_or (s ++ t) n 0
  byte_second n h =
      let e : length s + (n - length s) ≡ n = omega arith in
      sym (get_or-append-add s t (n - length s) 0) ∙ ap (λ (k : ℕ). get_or (s ++ t) k 0) e

-- ---- a step, by the header h that stands at the front of s, and by how far s reaches

module _ (P : ℕ) (s h : Bytes) (four : leb 4 (length s) ≡ true) (is : h ≡ head_of s) where
  there : 4 ≤ length s
  there = leb-true 4 _ four

  head_candidate : candidate P (drop 0 h) ≡ candidate P s
  unfolding candidate size_of be16_at
  head_candidate = ap (candidate P) is

  pub skip_other : {r : Bool} → r ≡ candidate P (drop 0 h) → not r ≡ true → Skip ≡ step_of P s
  skip_other q y = sym (skip_here P s there (ap (λ (t : Bool). t && followed s) (denied (q ∙ head_candidate) y)))

  module _ {r : Bool} (q : r ≡ candidate P (drop 0 h)) (y : not r ≡ false) (n : ℕ) (size : n ≡ size_of (drop 0 h)) where
    size_is_n : size_of s ≡ n
    unfolding size_of be16_at
    size_is_n = sym (size ∙ ap size_of is)

    at_end : length s ≤ n → (candidate P s && followed s) ≡ true
    unfolding followed
    at_end k = rw (told (q ∙ head_candidate) y, size_is_n, le-leb _ _ k)

    before_end : n < length s → (candidate P s && followed s) ≡ eqb (get_or s n 0) 0x7F
    unfolding followed
    before_end k = rw (told (q ∙ head_candidate) y, size_is_n, lt-leb _ _ k)

    packet_n : (candidate P s && followed s) ≡ true → n ≤ length s → Packet n ≡ step_of P s
    packet_n f k = ap Packet (sym size_is_n) ∙ sym (packet_here P s there f (rw size_is_n k))

    pub keep_begun : leb n (length s) ≡ false → Keep ≡ step_of P s
    keep_begun e =
        let k : length s < n = leb-false n _ e in
        sym (keep_long P s there (at_end (omega arith)) (rw size_is_n k))

    pub packet_last : leb n (length s) ≡ true → leb (n + 1) (length s) ≡ false → Packet n ≡ step_of P s
    packet_last d e =
        let k : length s < n + 1 = leb-false (n + 1) _ e in
        packet_n (at_end (omega arith)) (leb-true n _ d)

    module _ (e : leb (n + 1) (length s) ≡ true) where
      more : n < length s
      more = let k : n + 1 ≤ length s = leb-true (n + 1) _ e in omega arith

      pub packet_marked : get_or s n 0 ≡ 0x7F → Packet n ≡ step_of P s
      packet_marked b = packet_n (before_end more ∙ eq-eqb _ _ b) (omega (arith, more))

      pub skip_unmarked : (get_or s n 0 ≡ 0x7F → ⊥) → Skip ≡ step_of P s
      skip_unmarked b = sym (skip_here P s there (before_end more ∙ ne_eqb _ _ b))
