use native.Mathlib.Omega.{arith}
use mathlib.Core.Path.{refl}
use Rattle.rules.proofs.PackageRules.{pairs_next, pairs_end}
use Rattle.rules.proofs.WalkLaws.{walks_begin, walks_next, walks_end}
use Rattle.rules.proofs.by_packages.Goals as goal

pub loop-p-init : goal.loop-p-init
loop-p-init g c = walks_begin refl

pub loop-p-preserved : goal.loop-p-preserved
loop-p-preserved g c = walks_next g.met.R.Rule.laws c.loop-p.invariant (pairs_next c.loop-p.p-index _ c.loop-p-test.true) c.by_package.ensures

pub returns : goal.returns
returns g c = walks_end g.met.R.Rule.laws c.loop-p.invariant (pairs_end c.loop-p.p-index _ (omega (arith, c.loop-p-test.false)))
