use Rattle.tlv.specs.Gaps.{may_start, LookedAt}
use mathlib.Core.Bool.{not}
use Rattle.tlv.proofs.barren.Given as goal

abbrev pub invariant-loop-i : goal.invariant-loop-i
invariant-loop-i l = LookedAt (may_start l.run) l.at l.i (not l.starts)
