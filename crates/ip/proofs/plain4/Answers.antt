use Rattle.meaning.specs.Ip.{is_udp}
use mathlib.Core.Path.{sym, ap, ◌∙◌}
use Prim.Native.Nat.{ℕ, ◌%◌}
use native.Mathlib.Omega.{arith}
use Rattle.meaning.proofs.IpTests.{short4, other_version4, small_header, other_length4, fragment, other_protocol, is_plain4}
use Rattle.ip.proofs.plain4.Goals as goal

pub returns-then-s-lt20 : goal.returns-then-s-lt20
returns-then-s-lt20 c = sym (short4 _ c.if-s-lt20.true)

pub returns-then-s-ne4 : goal.returns-then-s-ne4
returns-then-s-ne4 c = sym (other_version4 _ c.if-s-ne4.true)

pub returns-then-h-lt20 : goal.returns-then-h-lt20
returns-then-h-lt20 c = sym (small_header _ (omega (arith, c.header_length-h.ensures.0)))

pub returns-then-be16-s : goal.returns-then-be16-s
returns-then-be16-s c = sym (other_length4 _ (λ e. c.if-be16-s.true (c.be16.ensures.0 ∙ e)))

pub returns-then-be16-ne0 : goal.returns-then-be16-ne0
returns-then-be16-ne0 c = sym (fragment _ (λ e. c.if-be16-ne0.true (ap (λ (z : ℕ). z % 0x4000) c.be16-2.ensures.0 ∙ e)))

pub returns-then-s-ne17 : goal.returns-then-s-ne17
returns-then-s-ne17 c = sym (other_protocol _ c.if-s-ne17.true)

pub returns : goal.returns
returns c =
    let h = c.header_length-h in
    let e = ap (λ (z : ℕ). is_udp z c.args.s.now) h.ensures.0 in
    c.is_udp.ensures ∙ e
    ∙ sym
    (is_plain4 _ c.if-s-ne4.false (omega (arith, h.ensures.0, c.if-h-lt20.false)) (sym c.be16.ensures.0 ∙ c.if-be16-s.false)
    (ap (λ (z : ℕ). z % 0x4000) (sym c.be16-2.ensures.0) ∙ c.if-be16-ne0.false) c.if-s-ne17.false)
