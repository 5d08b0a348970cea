use native.Mathlib.Omega.{arith}
use mathlib.Core.Path.{sym, ◌∙◌}
use Rattle.rules.proofs.MemberLaws.{inserts_one, inserts_again}
use Rattle.rules.proofs.DroppingRule.change.Goals as goal

pub returns-then-not-is_in : goal.returns-then-not-is_in
returns-then-not-is_in c = rw c.insert.ensures (inserts_one _ _ c.is_in.ensures.1 (omega arith))

pub returns-else-not-is_in : goal.returns-else-not-is_in
returns-else-not-is_in c = inserts_again c.args.set.now.words c.args.id c.is_in.ensures.1 (omega arith) (sym c.is_in.ensures.0 ∙ c.if-not-is_in.false)
