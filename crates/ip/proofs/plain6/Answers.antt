use mathlib.Core.Path.{sym, ◌∙◌}
use Rattle.meaning.proofs.IpTests.{short6, other_version6, other_length6, other_next, is_plain6}
use Rattle.ip.proofs.plain6.Goals as goal

pub returns-then-s-lt40 : goal.returns-then-s-lt40
returns-then-s-lt40 c = sym (short6 _ c.if-s-lt40.true)

pub returns-then-s-ne6 : goal.returns-then-s-ne6
returns-then-s-ne6 c = sym (other_version6 _ c.if-s-ne6.true)

pub returns-then-be16-s : goal.returns-then-be16-s
returns-then-be16-s c = sym (other_length6 _ (λ e. c.if-be16-s.true (c.be16.ensures.0 ∙ e)))

pub returns-then-s-ne17 : goal.returns-then-s-ne17
returns-then-s-ne17 c = sym (other_next _ c.if-s-ne17.true)

pub returns : goal.returns
returns c =
    c.is_udp.ensures
    ∙ sym (is_plain6 _ c.if-s-ne6.false (sym c.be16.ensures.0 ∙ c.if-be16-s.false) c.if-s-ne17.false)
