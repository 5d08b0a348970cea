use Rattle.meaning.proofs.Reading.{counted8_at, counted8_none}
use native.Mathlib.Omega.{arith}
use native.Mathlib.Nat.{mod-eq_of_lt}
use lib.ListN.{get_or}
use Prim.Native.Nat.{◌<◌}
use Rattle.tables.proofs.fields.counted_end.Goals as goal

pub returns-then-s-at : goal.returns-then-s-at
returns-then-s-at c = let a = c.args in counted8_none a.s.now a.at c.if-s-at.true

pub returns : goal.returns
returns c =
    let a = c.args in
    let w = c.wide.ensures in
    let small : get_or a.s.now a.at 0 < 256 = omega arith in
    rw (counted8_at a.s.now a.at (omega arith), mod-eq_of_lt small, ← w.0) c.bytes_end.ensures
