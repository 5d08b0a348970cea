use Prim.Native.Nat.{◌%◌}
use lib.Dec.{eqb}
use mathlib.Core.Bool.{◌&&◌}
use mathlib.Core.Path.{sym, ◌∙◌}
use native.Mathlib.Omega.{arith}
use Rattle.rules.specs.Changes.{Changed}
use Rattle.rules.proofs.PackageRules.{list_within, own_picked, own_left, list_there, list_missing, package_left}
use Rattle.rules.proofs.by_package.Goals.{then-picks, else-picks}
use Rattle.rules.proofs.by_package.Goals as goal

pub returns-then-not-picks : goal.returns-then-not-picks
returns-then-not-picks g c =
    let a = c.args in
    package_left g.R.Rule.picks a.o a.map_count a.p a.kept.now.map_heads a.map_room.now c.requires g.met.R.Rule.laws a.set.now.words
    (sym c.is_ours-ours.ensures ∙ c.if-not-ours.true) (sym c.picks.ensures ∙ c.if-not-picks.true)

pub slice_bounds-by_assets-end : goal.slice_bounds-by_assets-end
slice_bounds-by_assets-end g c =
    let a = c.args in
    omega (arith, list_within a.map_count c.place_for-i.result a.kept.now.map_heads a.map_room.now c.requires c.if-i-map_count.true)

pub returns-then-i-map_count : goal.returns-then-i-map_count
returns-then-i-map_count g c =
    let a = c.args in
    let own : Changed g.R.Rule.way (λ q. g.R.Rule.picks c.is_ours-ours.result && eqb (a.p % 65536) q) a.set.now.words c.if-picks.set.words =
    elim c.if-picks.branch [
      | then-picks w ↦ rw w.set-is (own_picked g.R.Rule.picks a.o a.map_count a.p a.kept.now.map_heads a.map_room.now c.requires g.met.R.Rule.laws (sym c.picks-2.ensures ∙ w.if-picks.true) w.change.ensures)
      | else-picks w ↦ rw w.set-is (own_left g.R.Rule.picks a.o a.map_count a.p a.kept.now.map_heads a.map_room.now c.requires g.met.R.Rule.laws a.set.now.words (sym c.picks-2.ensures ∙ w.if-picks.false))
    ] in
    list_there g.R.Rule.picks a.o a.map_count a.p a.kept.now.map_heads a.map_room.now c.requires g.met.R.Rule.laws c.is_ours-ours.ensures c.place_for-i.result c.place_for-i.ensures.0 own
    c.if-i-map_count.true c.by_assets.ensures

pub returns-else-i-map_count : goal.returns-else-i-map_count
returns-else-i-map_count g c =
    let a = c.args in
    let own : Changed g.R.Rule.way (λ q. g.R.Rule.picks c.is_ours-ours.result && eqb (a.p % 65536) q) a.set.now.words c.if-picks.set.words =
    elim c.if-picks.branch [
      | then-picks w ↦ rw w.set-is (own_picked g.R.Rule.picks a.o a.map_count a.p a.kept.now.map_heads a.map_room.now c.requires g.met.R.Rule.laws (sym c.picks-2.ensures ∙ w.if-picks.true) w.change.ensures)
      | else-picks w ↦ rw w.set-is (own_left g.R.Rule.picks a.o a.map_count a.p a.kept.now.map_heads a.map_room.now c.requires g.met.R.Rule.laws a.set.now.words (sym c.picks-2.ensures ∙ w.if-picks.false))
    ] in
    list_missing g.R.Rule.picks a.o a.map_count a.p a.kept.now.map_heads a.map_room.now c.requires g.met.R.Rule.laws c.is_ours-ours.ensures c.place_for-i.result c.place_for-i.ensures.0 own
    (omega (arith, c.if-i-map_count.false))
