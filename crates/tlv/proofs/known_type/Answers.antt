use native.Mathlib.Omega.{arith}
use Rattle.meaning.specs.Packets.{is_type}
use Rattle.tlv.proofs.known_type.Goals as goal

pub returns-in-1-to-3 : goal.returns-in-1-to-3
unfolding is_type
returns-in-1-to-3 c = grind arith

pub returns-in-1-to-3-2 : goal.returns-in-1-to-3-2
unfolding is_type
returns-in-1-to-3-2 c = grind arith

pub returns-in_default : goal.returns-in_default
unfolding is_type
returns-in_default c = grind arith

pub returns-in_default-2 : goal.returns-in_default-2
unfolding is_type
returns-in_default-2 c = grind arith
