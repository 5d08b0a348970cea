use Prim.Native.Nat.{◌+◌, ◌-◌}
use mathlib.Core.Path.{◌≡◌, ◌∙◌}
use native.Mathlib.Omega.{arith}
use Rattle.learning.proofs.PackageLaws.{plt_none, start, broken, turn, all_read}
use Rattle.learning.proofs.packages.packages_of.Goals as goal

pub returns-in_err-first : goal.returns-in_err-first
returns-in_err-first c = rw c.from_residual.ensures (plt_none c.args.b.now (omega (arith, c.in_err-first.ensures.item.3)))

pub loop-init : goal.loop-init
loop-init c =
    let all : c.wide-all.result - 0 ≡ c.wide-all.result = omega arith in
    let there = c.in_ok-first.ensures.item.3 in
    let w = c.wide-all.ensures in
    rw all (start c.args.b.now c.wide-all.result _ _ there.0 (w.0 ∙ there.1 0) w.1 c.requires)

pub returns-in_err-package : goal.returns-in_err-package
returns-in_err-package c =
    let l = c.loop in
    rw c.from_residual-in_err-package.ensures
    (broken c.args.b.now _ _ l.from l.services.count l.services.packages l.invariant (omega arith) c.in_err-package.ensures)

pub take-requires : goal.take-requires
take-requires c =
    let k = c.loop.invariant in
    (omega (arith, k.few), (_, k.kept))

pub loop-preserved : goal.loop-preserved
loop-preserved c =
    let l = c.loop in
    let q = c.take in
    let one_less : c.wide-all.result - (l.counter + 1) ≡ c.wide-all.result - l.counter - 1 = omega arith in
    rw one_less
    (turn c.args.b.now _ _ l.from l.services.count l.services.packages l.invariant c.in_ok-package.package (omega arith) c.in_ok-package.ensures q.new.self.count q.new.self.packages
    q.ensures.0 q.ensures.1)

pub returns : goal.returns
returns c =
    let l = c.loop in
    all_read c.args.b.now _ _ l.from l.services.count l.services.packages l.invariant (omega arith)
