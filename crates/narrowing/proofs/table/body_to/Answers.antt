use Rattle.narrowing.proofs.TableLaws.{as_mpt, as_plt, as_same}
use Rattle.narrowing.proofs.table.body_to.Goals as goal

pub mpt_to-requires : goal.mpt_to-requires
mpt_to-requires c =
    ((_, (as_mpt c.requires.0.0 c.args.o c.args.b.now c.args.change c.requires.0.1 _ c.in-Mpt.is).1), c.requires.1)

pub plt_to-requires : goal.plt_to-requires
plt_to-requires c =
    ((as_plt c.requires.0.0 c.args.o c.args.b.now c.args.change c.requires.0.1 _ c.in-Plt.is).0, c.requires.1)

pub returns-in-Mpt : goal.returns-in-Mpt
returns-in-Mpt c =
    let a = c.args in
    λ n h. rw (as_mpt n a.o a.b.now a.change h _ c.in-Mpt.is).0 c.mpt_to.ensures

pub returns-in-Plt : goal.returns-in-Plt
returns-in-Plt c =
    let a = c.args in
    λ n h. rw (as_plt n a.o a.b.now a.change h _ c.in-Plt.is).1 c.plt_to.ensures

pub returns-in-Same : goal.returns-in-Same
returns-in-Same c =
    let a = c.args in
    λ n h. rw (as_same n a.o a.b.now a.change h c.in-Same.is) c.copy.ensures
