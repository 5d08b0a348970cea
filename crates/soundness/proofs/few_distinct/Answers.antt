use mathlib.Core.Path.{sym, ◌∙◌}
use Rattle.soundness.proofs.SoundnessLaws.{among_here, among_none, distinct_end}
use Rattle.soundness.proofs.few_distinct.Goals as goal

pub returns-then-among : goal.returns-then-among
returns-then-among g c = rw (c.loop-head.invariant, among_here g.H.Head.id_in c.in-Some.ensures.cases.0 c.identifier.ensures.0 c.among.ensures c.if-among.true)

pub loop-head-preserved : goal.loop-head-preserved
loop-head-preserved g c = c.loop-head.invariant ∙ among_none g.H.Head.id_in c.in-Some.ensures.cases.0 c.identifier.ensures.0 c.among.ensures c.if-among.false

pub returns : goal.returns
returns g c = sym (c.loop-head.invariant ∙ distinct_end _ _ c.in_default.ensures.cases)
