use borrow.Author.Rules.{rules}
use Rattle.tlv.proofs.GapLaws.{not_skip, gap_begin, gap_next}
use native.Mathlib.Omega.{arith}
use mathlib.Core.Path.{◌≡◌, sym, ◌∙◌}
use Rattle.tlv.proofs.bytes_end.Goals as goal

pub loop-to-init : goal.loop-to-init
loop-to-init c = let a = c.args in gap_begin a.most a.run.now a.at (omega arith)

pub returns-in_default : goal.returns-in_default
returns-in_default c = (omega arith, c.loop-to.invariant, λ h e. not_skip _ (search rules) (c.next.ensures ∙ e))

pub loop-to-preserved : goal.loop-to-preserved
loop-to-preserved c =
    let a = c.args in
    let l = c.loop-to in
    gap_next a.most a.run.now a.at l.to (omega arith) (sym c.next.ensures ∙ c.in-Skip.is) l.invariant

pub returns : goal.returns
returns c =
    let at_end : c.loop-to.to ≡ c.args.end = omega arith in
    (omega arith, rw at_end at c.loop-to.invariant, λ h. absurd (omega arith))
