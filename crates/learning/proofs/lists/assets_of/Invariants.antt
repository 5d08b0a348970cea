use Prim.Native.Nat.{◌-◌}
use lib.ListN.{length}
use mathlib.Core.Path.{◌≡◌}
use Rattle.learning.proofs.MapLaws.{Listing}
use Rattle.learning.proofs.KindLaws.{Met}
use Rattle.learning.proofs.lists.assets_of.Given as goal

abbrev pub invariant-loop : goal.invariant-loop
invariant-loop l =
    Listing l.b l.initial.from l.all l.assets.numbers l.from (l.all - l.counter) l.assets.count
    × Met l.b l.initial.from l.all l.initial.news l.from (l.all - l.counter) l.news
    × (length l.assets.numbers ≡ 510)
