use native.Mathlib.Omega.{arith}
use Rattle.narrowing.proofs.TableLaws.{as_mpt, mpt_length, as_plt, plt_length, as_same}
use Rattle.narrowing.proofs.table.length_after.Goals as goal

pub overflow_add-result : goal.overflow_add-result
overflow_add-result c = omega (arith, ((as_mpt c.requires.0 c.requires.1 c.args.b.now c.args.change c.requires.2 _ c.in-Mpt.is).1).fits, ((as_mpt c.requires.0 c.requires.1 c.args.b.now c.args.change c.requires.2 _ c.in-Mpt.is).1).within)

pub overflow_add-result-in-Mpt : goal.overflow_add-result-in-Mpt
overflow_add-result-in-Mpt c = omega (arith, ((as_mpt c.requires.0 c.requires.1 c.args.b.now c.args.change c.requires.2 _ c.in-Mpt.is).1).fits, ((as_mpt c.requires.0 c.requires.1 c.args.b.now c.args.change c.requires.2 _ c.in-Mpt.is).1).within)

pub overflow_sub-result : goal.overflow_sub-result
overflow_sub-result c = ((as_mpt c.requires.0 c.requires.1 c.args.b.now c.args.change c.requires.2 _ c.in-Mpt.is).1).within

pub overflow_add-result-in-Mpt-2 : goal.overflow_add-result-in-Mpt-2
overflow_add-result-in-Mpt-2 c = omega (arith, ((as_mpt c.requires.0 c.requires.1 c.args.b.now c.args.change c.requires.2 _ c.in-Mpt.is).1).fits, ((as_mpt c.requires.0 c.requires.1 c.args.b.now c.args.change c.requires.2 _ c.in-Mpt.is).1).within)

pub overflow_sub-result-in-Plt : goal.overflow_sub-result-in-Plt
overflow_sub-result-in-Plt c = ((as_plt c.requires.0 c.requires.1 c.args.b.now c.args.change c.requires.2 _ c.in-Plt.is).0).ends

pub overflow_add-result-in-Plt : goal.overflow_add-result-in-Plt
overflow_add-result-in-Plt c = omega (arith, ((as_plt c.requires.0 c.requires.1 c.args.b.now c.args.change c.requires.2 _ c.in-Plt.is).0).first, ((as_plt c.requires.0 c.requires.1 c.args.b.now c.args.change c.requires.2 _ c.in-Plt.is).0).ends, ((as_plt c.requires.0 c.requires.1 c.args.b.now c.args.change c.requires.2 _ c.in-Plt.is).0).before, ((as_plt c.requires.0 c.requires.1 c.args.b.now c.args.change c.requires.2 _ c.in-Plt.is).0).within)

pub overflow_sub-result-in-Plt-2 : goal.overflow_sub-result-in-Plt-2
overflow_sub-result-in-Plt-2 c = ((as_plt c.requires.0 c.requires.1 c.args.b.now c.args.change c.requires.2 _ c.in-Plt.is).0).within

pub overflow_add-result-in-Plt-2 : goal.overflow_add-result-in-Plt-2
overflow_add-result-in-Plt-2 c = omega (arith, ((as_plt c.requires.0 c.requires.1 c.args.b.now c.args.change c.requires.2 _ c.in-Plt.is).0).first, ((as_plt c.requires.0 c.requires.1 c.args.b.now c.args.change c.requires.2 _ c.in-Plt.is).0).ends, ((as_plt c.requires.0 c.requires.1 c.args.b.now c.args.change c.requires.2 _ c.in-Plt.is).0).before, ((as_plt c.requires.0 c.requires.1 c.args.b.now c.args.change c.requires.2 _ c.in-Plt.is).0).within)

pub returns-in-Mpt : goal.returns-in-Mpt
returns-in-Mpt c =
    let a = c.args in
    λ n o h. mpt_length n o a.b.now a.change h _ c.in-Mpt.is

pub returns-in-Plt : goal.returns-in-Plt
returns-in-Plt c =
    let a = c.args in
    λ n o h. plt_length n o a.b.now a.change h _ c.in-Plt.is

pub returns-in-Same : goal.returns-in-Same
returns-in-Same c =
    let a = c.args in
    λ n o h. rw (as_same n o a.b.now a.change h c.in-Same.is)
