use borrow.Author.Tests.{le-leb, lt-leb, ne_eqb}
use native.Mathlib.Omega.{arith}
use Rattle.meaning.specs.Messages.{is_long}
use Rattle.tables.proofs.messages.is_long.Goals as goal

pub returns-in_default : goal.returns-in_default
unfolding is_long
returns-in_default c =
    let n = c.args.number in
    rw (ne_eqb n 0 (grind arith), ne_eqb n 0x8003 (grind arith), lt-leb 0xF000 n (omega arith), lt-leb 0x7000 n (omega arith))

pub returns-in_default-2 : goal.returns-in_default-2
unfolding is_long
returns-in_default-2 c =
    let n = c.args.number in
    rw (ne_eqb n 0 (grind arith), ne_eqb n 0x8003 (grind arith), lt-leb 0xF000 n (omega arith), le-leb 0x7000 n (omega arith), lt-leb n 0x7FFF (omega arith))

pub returns-in-0 : goal.returns-in-0
unfolding is_long
returns-in-0 c = grind arith

pub returns-in-0-2 : goal.returns-in-0-2
unfolding is_long
returns-in-0-2 c = grind arith

pub returns-in-0-3 : goal.returns-in-0-3
unfolding is_long
returns-in-0-3 c = grind arith
