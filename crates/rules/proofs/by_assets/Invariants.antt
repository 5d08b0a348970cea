use Rattle.rules.proofs.AssetRules.{listed}
use Rattle.rules.proofs.WalkLaws.{Walks}
use Rattle.meaning.specs.Wishes.{wanted}
use lib.Dec.{eqb}
use lib.ListN.{length}
use mathlib.Core.Bool.{◌&&◌}
use Rattle.rules.proofs.by_assets.Given as goal

abbrev pub invariant-loop-assets : goal.invariant-loop-assets
invariant-loop-assets g l = Walks g.R.Rule.way (λ a q. eqb a.0 q && g.R.Rule.picks (l.ours && wanted l.o a.1)) (listed l.list) (listed l.assets) l.initial.set.words l.set.words

abbrev pub decreases-loop-assets : goal.decreases-loop-assets
decreases-loop-assets g l = length l.assets
