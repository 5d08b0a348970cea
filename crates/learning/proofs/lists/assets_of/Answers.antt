use Rattle.learning.proofs.MapLaws.{list_start, list_next, front_none, count_none, entries_none, assets_are}
use Rattle.learning.proofs.KindLaws.{met_next}
use Prim.Native.Nat.{◌+◌, ◌-◌}
use mathlib.Core.Path.{◌≡◌, refl, ◌∙◌}
use native.Mathlib.Omega.{arith}
use Rattle.learning.proofs.lists.assets_of.Goals as goal

pub returns-in_err-front : goal.returns-in_err-front
returns-in_err-front c = rw c.from_residual.ensures (front_none _ c.in_err-front.ensures)

pub returns-in_err-get : goal.returns-in_err-get
returns-in_err-get c =
    rw c.from_residual-in_err-get.ensures (count_none _ c.in_ok-front.front c.in_ok-front.ensures c.in_err-get.ensures.lookup.3)

pub loop-init : goal.loop-init
loop-init c =
    let all : c.wide-all.result - 0 ≡ c.wide-all.result = omega arith in
    rw all (list_start _ _ _ _ _ c.requires c.wide-all.ensures.1, record { met = refl }, omega arith)

pub returns-in_err-asset : goal.returns-in_err-asset
returns-in_err-asset c =
    let w = c.wide-all in
    let l = c.loop in
    let there = c.in_ok-get.ensures.lookup.3 in
    rw c.from_residual-in_err-asset.ensures
    (entries_none c.args.b.now c.in_ok-front.front c.in_ok-front.ensures there.0 w.result (w.ensures.0 ∙ there.1 0) w.ensures.1 l.assets.numbers l.from (w.result - l.counter)
    l.assets.count l.invariant.0 (omega arith) c.in_err-asset.ensures)

pub take-requires : goal.take-requires
take-requires c = omega (arith, c.loop.invariant.0.few)

pub loop-preserved : goal.loop-preserved
loop-preserved c =
    let l = c.loop in
    let q = c.take in
    let one_less : c.wide-all.result - (l.counter + 1) ≡ c.wide-all.result - l.counter - 1 = omega arith in
    let asset = c.in_ok-asset.ensures in
    rw one_less (
      list_next _ _ _ l.assets.numbers l.from _ l.assets.count l.invariant.0 c.in_ok-asset.asset q.new.self.numbers q.new.self.count (omega arith) asset q.ensures.listed q.ensures.few,
      rw c.with_kind-news.ensures (met_next _ _ _ _ l.from _ l.news l.invariant.1 c.in_ok-asset.asset (omega arith) asset),
      q.ensures.all,
    )

pub returns : goal.returns
returns c =
    let w = c.wide-all in
    let l = c.loop in
    let there = c.in_ok-get.ensures.lookup.3 in
    assets_are _ c.in_ok-front.front c.in_ok-front.ensures there.0 w.result (w.ensures.0 ∙ there.1 0) w.ensures.1 l.assets.numbers l.invariant.2 l.from _ l.assets.count l.invariant.0
    (omega arith) _ l.news l.invariant.1
