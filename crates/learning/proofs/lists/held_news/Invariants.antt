use Prim.Native.Nat.{◌-◌, ◌/◌}
use lib.ListN.{length}
use mathlib.Core.Option.{some}
use Rattle.learning.specs.Learnt.{mpt_held}
use Rattle.meaning.specs.Tables.{mpt}
use Rattle.learning.proofs.HeldLaws.{Holding}
use Rattle.learning.proofs.KindLaws.{Met}
use Rattle.learning.proofs.lists.held_news.Given as goal

abbrev pub invariant-loop : goal.invariant-loop
invariant-loop l =
    Holding (mpt_held (mpt l.b) (some (length l.list / 2)) l.list) l.b l.from (l.all - l.counter) l.rest
    × Met l.b l.initial.from l.all l.initial.news l.from (l.all - l.counter) l.news
