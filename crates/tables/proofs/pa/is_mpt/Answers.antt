use native.Mathlib.Omega.{arith}
use Rattle.meaning.specs.Tables.{is_mpt}
use Rattle.tables.proofs.pa.is_mpt.Goals as goal

pub returns-in-17-to-32 : goal.returns-in-17-to-32
unfolding is_mpt
returns-in-17-to-32 c = grind arith

pub returns-in_default : goal.returns-in_default
unfolding is_mpt
returns-in_default c = grind arith

pub returns-in_default-2 : goal.returns-in_default-2
unfolding is_mpt
returns-in_default-2 c = grind arith
