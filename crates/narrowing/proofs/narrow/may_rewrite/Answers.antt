use mathlib.Core.Path.{◌∙◌}
use lib.ListN.{drop, get_or}
use Rattle.meaning.specs.Ip.{plain_ip}
use Rattle.narrowing.proofs.FoundLaws.{may_off, may_plain}
use Rattle.narrowing.proofs.narrow.may_rewrite.Goals as goal

pub returns-then-modes : goal.returns-then-modes
returns-then-modes c =
    let a = c.args in
    may_plain a.rewritable a.modes.plain_ip _ _ c.if-rewritable.false c.if-modes.true a.p.now c.plain_ip.ensures

pub returns-else-modes : goal.returns-else-modes
returns-else-modes c =
    let a = c.args in
    c.if-modes.false ∙ may_off a.rewritable a.modes.plain_ip (plain_ip (get_or a.p.now 1 0) (drop 4 a.p.now)) c.if-rewritable.false c.if-modes.false
