use Rattle.tables.proofs.AssetLaws.{front_none, front_at}
use Rattle.tables.proofs.assets.mpt_front.Goals as goal

pub returns-in_err-name_end : goal.returns-in_err-name_end
returns-in_err-name_end c = rw c.from_residual.ensures (front_none c.args.s.now c.in_err-name_end.ensures)

pub returns : goal.returns
returns c = rw (front_at c.args.s.now _ c.in_ok-name_end.ensures) c.descriptors_end.ensures
