-- What stands before the payload of a packet that was read and may be rewritten. Rests on PacketLaws and IpLaws of `meaning`.
use Prim.Native.Nat.{ℕ, ◌+◌, ◌≤◌}
use mathlib.Core.Path.{◌≡◌, refl, sym, ap, ◌∙◌}
use mathlib.Core.Bool.{Bool, true, false, ◌&&◌, ◌||◌}
use mathlib.Core.List.{[], ◌∷◌}
use mathlib.Core.Option.{some, none-ne-some}
use native.Mathlib.Omega.{arith}
use lib.ListN.{length, drop, length-append, length-drop}
use borrow.Author.Tests.{eqb-true}
use Rattle.meaning.specs.Bytes.{Bytes}
use Rattle.meaning.specs.Mmtp.{Mmtp, mmtp_header, mmtp_of}
use Rattle.meaning.specs.Ip.{header_length, plain_ip}
use Rattle.meaning.specs.Narrow.{may_rewrite}
use Rattle.meaning.specs.declared.Modes.{Modes}
use Rattle.meaning.proofs.ListLaws.{and_both}
use Rattle.meaning.proofs.Local.{Split, mmtp_header_local}
use Rattle.meaning.proofs.IpLaws.{is4, is6, read_le, headers, qualifies}
use Rattle.meaning.proofs.PacketLaws.{Opened, opened, rewritable_type}
use Rattle.narrowing.specs.Answers.{Framed}

-- plain IP: both headers stand before the MMTP
plain_frame : (a t l k : ℕ) (s : Bytes) (m : Mmtp) → plain_ip t s ≡ true → (x : Opened t s m) → length s ≡ x.at + length (drop x.at s)
    → length m.payload ≤ length (drop x.at s) → Framed (a ∷ t ∷ l ∷ k ∷ s) m.payload
unfolding plain_ip
plain_frame a t l k s m e x n less = record {
  short = omega arith;
  four = λ q.
      let p = is4 s (ap (λ (j : ℕ). plain_ip j s) (sym q) ∙ e) in
      let at_is : x.at ≡ header_length s + 8 = stands ∙ ap (λ (j : ℕ). headers j s) q in
      (p.headed, omega (arith, at_is), omega (arith, p.long, read_le s 2));
  six = λ q.
      let p = is6 s (ap (λ (j : ℕ). plain_ip j s) (sym q) ∙ e) in
      let at_is : x.at ≡ 48 = stands ∙ ap (λ (j : ℕ). headers j s) q in
      (omega (arith, at_is), omega (arith, p.long, read_le s 4));
}
  where
    stands : x.at ≡ headers t s
    stands = (qualifies t s e).stands x.at m.rewritable x.offset_is

pub frame_of : (M : Modes) (p : Bytes) (m : Mmtp) → mmtp_of p ≡ some m → may_rewrite M p m ≡ true → Framed p m.payload
unfolding mmtp_of may_rewrite
frame_of M [] m e w = absurd (none-ne-some _ e)
frame_of M (a ∷ []) m e w = absurd (none-ne-some _ e)
frame_of M (a ∷ t ∷ []) m e w = absurd (none-ne-some _ e)
frame_of M (a ∷ t ∷ l ∷ []) m e w = absurd (none-ne-some _ e)
frame_of M (a ∷ t ∷ l ∷ k ∷ s) m e w = go m.rewritable refl
  where
    x : Opened t s m
    x = opened a t l k s m e

    u : Split mmtp_header (drop x.at s) x.header m.payload
    u = mmtp_header_local (drop x.at s) x.header m.payload x.header_is

    less : length m.payload ≤ length (drop x.at s)
    less = omega (arith, ap length u.whole, length-append u.part m.payload)

    long : length s ≡ x.at + length (drop x.at s)
    long = omega (arith, x.inside, length-drop x.at s)

    go : (b : Bool) → m.rewritable ≡ b → Framed (a ∷ t ∷ l ∷ k ∷ s) m.payload
    go true eb =
        let three : t ≡ 0x03 = eqb-true t 0x03 (rewritable_type (a ∷ t ∷ l ∷ k ∷ s) m e eb) in
        record { short = omega (arith, long, less); four = λ q. absurd (omega (arith, three)); six = λ q. absurd (omega (arith, three)) }
    go false eb =
        let v = and_both M.plain_ip (plain_ip t s) (ap (λ (b : Bool). b || (M.plain_ip && plain_ip t s)) (sym eb) ∙ w) in
        plain_frame a t l k s m v.1 x long less

pub four_read : (p : Bytes) (m : Mmtp) → mmtp_of p ≡ some m → 4 ≤ length p
unfolding mmtp_of
four_read [] m e = absurd (none-ne-some _ e)
four_read (a ∷ []) m e = absurd (none-ne-some _ e)
four_read (a ∷ t ∷ []) m e = absurd (none-ne-some _ e)
four_read (a ∷ t ∷ l ∷ []) m e = absurd (none-ne-some _ e)
four_read (a ∷ t ∷ l ∷ k ∷ s) m e = omega arith
