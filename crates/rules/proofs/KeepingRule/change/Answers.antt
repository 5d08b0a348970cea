use native.Mathlib.Omega.{arith}
use mathlib.Core.Path.{sym, ◌∙◌}
use Rattle.rules.proofs.MemberLaws.{removes_one, removes_again}
use Rattle.rules.proofs.KeepingRule.change.Goals as goal

pub returns-then-is_in : goal.returns-then-is_in
returns-then-is_in c = rw c.remove.ensures (removes_one _ _ c.is_in.ensures.1 (omega arith))

pub returns-else-is_in : goal.returns-else-is_in
returns-else-is_in c = removes_again c.args.set.now.words c.args.id c.is_in.ensures.1 (omega arith) (sym c.is_in.ensures.0 ∙ c.if-is_in.false)
