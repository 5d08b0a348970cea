use native.Mathlib.Omega.{arith}
use Rattle.tables.specs.Answers.{is_plain}
use Rattle.tables.proofs.AssetLaws.{plain_so}
use Rattle.tables.proofs.assets.is_plain.Goals as goal

pub returns-then-s-at-eq1 : goal.returns-then-s-at-eq1
returns-then-s-at-eq1 c = plain_so c.args.s.now c.args.at c.args.flags (grind arith) (grind arith) (grind arith)

pub returns-else-s-at-eq1 : goal.returns-else-s-at-eq1
unfolding is_plain
returns-else-s-at-eq1 c = grind arith
