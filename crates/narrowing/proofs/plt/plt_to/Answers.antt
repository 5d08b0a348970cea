use Rattle.narrowing.proofs.PltLaws.{wrote_one_entry}
use Rattle.narrowing.proofs.plt.plt_to.Goals as goal

pub returns : goal.returns
returns c = wrote_one_entry c.args.b.now c.args.change c.put8-c.ensures c.copy-d.ensures c.copy.ensures
