use Rattle.meaning.proofs.Reading.{counted16_at, counted16_none}
use native.Mathlib.Omega.{arith}
use Rattle.tables.proofs.fields.descriptors_end.Goals as goal

pub returns-then-len-lt2 : goal.returns-then-len-lt2
returns-then-len-lt2 c = let a = c.args in counted16_none a.s.now a.at (omega arith)

pub returns-then-len-at : goal.returns-then-len-at
returns-then-len-at c = let a = c.args in counted16_none a.s.now a.at (omega arith)

pub returns : goal.returns
returns c =
    let a = c.args in
    rw (counted16_at a.s.now a.at (omega arith), ← c.be16.ensures.0) c.bytes_end.ensures
