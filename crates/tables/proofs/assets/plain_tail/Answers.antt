use native.Mathlib.Omega.{arith}
use Rattle.tables.proofs.AssetLaws.{plain_parts, plain_broken, plain_whole}
use Rattle.tables.proofs.assets.plain_tail.Goals as goal

pub overflow_add-at : goal.overflow_add-at
overflow_add-at c =
    omega (arith, (plain_parts c.args.s.now c.args.at c.args.flags c.requires).room)

pub returns-in_err-end : goal.returns-in_err-end
returns-in_err-end c =
    rw c.from_residual.ensures (plain_broken c.args.s.now c.args.at c.args.flags c.requires c.in_err-end.ensures)

pub overflow_add-at-2 : goal.overflow_add-at-2
overflow_add-at-2 c =
    omega (arith, (plain_parts c.args.s.now c.args.at c.args.flags c.requires).room)

pub id16-requires : goal.id16-requires
id16-requires c =
    omega (arith, (plain_parts c.args.s.now c.args.at c.args.flags c.requires).room)

pub returns : goal.returns
returns c =
    plain_whole c.args.s.now c.args.at c.args.flags c.requires _ _ c.in_ok-end.ensures c.id16.ensures
