use Rattle.learning.specs.Kept.{pairs_in}
use Rattle.meaning.specs.Record.{pair_of}
use Rattle.rules.specs.Changes.{picked_by, lists_at}
use Rattle.rules.proofs.WalkLaws.{Walks}
use lib.ListN.{take, drop}
use mathlib.Core.List.{map}
use Rattle.rules.proofs.by_packages.Given as goal

abbrev pub invariant-loop-p : goal.invariant-loop-p
invariant-loop-p g l =
    Walks g.R.Rule.way (λ x q. picked_by g.R.Rule.picks l.o (lists_at l.e.map_count l.kept.map_heads l.map_room) q x) (pairs_in l.e.package_count l.kept.packages)
    (map pair_of (drop l.p-index (take l.e.package_count l.kept.packages))) l.initial.set.words l.set.words
