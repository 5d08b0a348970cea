use Rattle.tables.proofs.LocationLaws.{here_none, here_at}
use native.Mathlib.Omega.{arith}
use Rattle.tables.proofs.locations.here.Goals as goal

pub returns-then-s-at-lt2 : goal.returns-then-s-at-lt2
returns-then-s-at-lt2 c = let a = c.args in here_none a.s.now a.at (omega arith)

pub returns : goal.returns
returns c =
    let a = c.args in
    here_at a.s.now a.at c.id16.result c.id16.ensures (omega arith)
