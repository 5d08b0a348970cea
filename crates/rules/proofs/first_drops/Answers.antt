use Rattle.meaning.specs.Start.{no_words}
use Rattle.rules.proofs.MemberLaws.{empty}
use native.Mathlib.Omega.{arith}
use mathlib.Core.Path.{ap}
use lib.ListN.{length}
use Rattle.rules.proofs.first_drops.Goals as goal

pub returns-then-o : goal.returns-then-o
unfolding no_words
returns-then-o c = record { all_words = ap length c.empty.ensures; member = λ q b. rw (c.if-o.true, c.empty.ensures) (empty 1024 q) }

pub returns : goal.returns
returns c = record { all_words = omega arith; member = λ q b. rw c.if-o.false }
