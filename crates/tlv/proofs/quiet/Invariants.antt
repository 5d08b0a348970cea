use Rattle.tlv.specs.Gaps.{is_mark, LookedAt}
use mathlib.Core.Bool.{not}
use Rattle.tlv.proofs.quiet.Given as goal

abbrev pub invariant-loop-i : goal.invariant-loop-i
invariant-loop-i l = LookedAt (is_mark l.run) l.at l.i (not l.marked)
