use Prim.Native.Nat.{◌<◌}
use mathlib.Core.Path.{◌∙◌}
use native.Mathlib.Omega.{arith}
use Rattle.learning.proofs.PairLaws.{pairs_in_lem, opened}
use Rattle.learning.proofs.PackageLaws.{added_over, added_new}
use Rattle.learning.proofs.packages.Services.add.Goals as goal

pub slot_for-requires : goal.slot_for-requires
slot_for-requires c = let k = c.requires.1.1 in (omega arith, rw (pairs_in_lem k.pairs) k.rise)

pub returns-in-Ok : goal.returns-in-Ok
returns-in-Ok c =
    let a = c.args in
    let s = c.in-Ok.ensures in
    let small : a.p.second < 65536 = omega arith in
    (added_over a.p.first a.p.second _ a.self.now.count c.in-Ok.at a.self.now.packages small c.into.ensures s.0 s.1 s.2, omega arith)

pub returns-in-Err : goal.returns-in-Err
returns-in-Err c =
    let a = c.args in
    let s = c.in-Err.ensures in
    let n = a.self.now.count in
    let xs = a.self.now.packages in
    let at = c.in-Err.at in
    let small : a.p.second < 65536 = omega arith in
    let moved = c.copy_within.ensures.after ∙ opened xs at n (omega arith) in
    (added_new a.p.first a.p.second _ n at xs small c.into-in-Err.ensures s.0 s.1 (omega arith) s.2 c.copy_within.new.self moved, omega arith)
