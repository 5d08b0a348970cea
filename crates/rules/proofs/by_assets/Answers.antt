use mathlib.Core.Bool.{◌&&◌}
use mathlib.Core.Path.{refl, ap, ◌∙◌}
use Rattle.meaning.specs.Wishes.{wanted}
use Rattle.rules.proofs.AssetRules.{listed_next, listed_end, asset_picked, asset_left}
use Rattle.rules.proofs.WalkLaws.{walks_begin, walks_next, walks_pass, walks_end}
use Rattle.rules.proofs.by_assets.Goals as goal

pub loop-assets-init : goal.loop-assets-init
loop-assets-init g c = walks_begin refl

pub loop-assets-preserved-then-picks : goal.loop-assets-preserved-then-picks
loop-assets-preserved-then-picks g c =
    walks_next g.met.R.Rule.laws c.loop-assets.invariant (listed_next c.loop-assets.assets.now c.in-len2-up.len_at_least)
    (asset_picked (λ part. g.R.Rule.picks (c.args.ours && wanted c.args.o part)) _ (c.picks.ensures ∙ ap g.R.Rule.picks c.stays.ensures) c.if-picks.true c.change.ensures)

pub loop-assets-preserved : goal.loop-assets-preserved
loop-assets-preserved g c =
    walks_pass g.met.R.Rule.laws c.loop-assets.invariant (listed_next c.loop-assets.assets.now c.in-len2-up.len_at_least)
    (asset_left (λ part. g.R.Rule.picks (c.args.ours && wanted c.args.o part)) _ (c.picks.ensures ∙ ap g.R.Rule.picks c.stays.ensures) c.if-picks.false)

pub returns : goal.returns
returns g c = walks_end g.met.R.Rule.laws c.loop-assets.invariant (listed_end _ c.in_default.len_below)
