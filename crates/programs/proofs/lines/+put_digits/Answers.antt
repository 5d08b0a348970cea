-- A number that needs no digit, one that is a digit, and one whose last digit stands behind those of a tenth.
use native.Mathlib.Omega.{arith}
use Prim.Native.Nat.{◌-◌, ◌/◌}
use Rattle.programs.proofs.LineLaws.{put_none, put_alone, put_behind, digits_long}
use Rattle.programs.proofs.lines.+put_digits.Goals as goal

pub returns-then-most-eq0 : goal.returns-then-most-eq0
returns-then-most-eq0 t c = put_none c.args.most c.args.n c.if-most-eq0.true

pub returns-then-n-lt10 : goal.returns-then-n-lt10
returns-then-n-lt10 t c =
    let a = c.args in
    put_alone a.most a.n c.if-most-eq0.false c.if-n-lt10.true c.digit.ensures c.put8.ensures

pub put8-requires-2 : goal.put8-requires-2
put8-requires-2 t c =
    let a = c.args in
    let k = c.put_digits-last in
    omega (arith, c.if-most-eq0.false, c.requires, k.ensures.end, k.auto.out, digits_long (a.most - 1) (a.n / 10))

pub returns : goal.returns
returns t c =
    let a = c.args in
    put_behind a.most a.n c.if-most-eq0.false c.if-n-lt10.false c.put_digits-last.ensures c.digit-2.ensures c.put8-2.ensures
