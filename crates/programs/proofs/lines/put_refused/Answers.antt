use native.Mathlib.Omega.{arith}
use Rattle.meaning.specs.Programs.{refused_line}
use Rattle.meaning.proofs.Writes.{wrote_then}
use Rattle.programs.proofs.LineLaws.{item_ends}
use Rattle.programs.proofs.lines.put_refused.Goals as goal

pub put8-requires : goal.put8-requires
put8-requires c =
    let k = c.put_item-a in
    omega (arith, c.requires, k.auto.out, item_ends _ _ k.ensures)

pub returns : goal.returns
unfolding refused_line
returns c = wrote_then c.put_item-a.ensures c.put8.ensures
