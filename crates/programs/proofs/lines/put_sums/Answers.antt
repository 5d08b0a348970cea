use mathlib.Core.Path.{◌∙◌}
use native.Mathlib.Omega.{arith}
use Rattle.programs.proofs.LineLaws.{item_ends, next_ends, sums_put}
use Rattle.programs.proofs.lines.put_sums.Goals as goal

pub put_next-b-requires : goal.put_next-b-requires
put_next-b-requires c =
    let i = c.put_item-a in
    omega (arith, c.requires, i.auto.out, item_ends _ _ i.ensures)

pub put_next-d-requires : goal.put_next-d-requires
put_next-d-requires c =
    let n1 = c.put_next-b in
    let i = c.put_item-a in
    omega (arith, c.requires, n1.auto.out, next_ends _ _ n1.ensures, i.auto.out, item_ends _ _ i.ensures)

pub put_next-e-requires : goal.put_next-e-requires
put_next-e-requires c =
    let n2 = c.put_next-d in
    let n1 = c.put_next-b in
    let i = c.put_item-a in
    omega (arith, c.requires, n2.auto.out, next_ends _ _ n2.ensures, n1.auto.out, next_ends _ _ n1.ensures, i.auto.out, item_ends _ _ i.ensures)

pub put_next-f-requires : goal.put_next-f-requires
put_next-f-requires c =
    let n3 = c.put_next-e in
    let n2 = c.put_next-d in
    let n1 = c.put_next-b in
    let i = c.put_item-a in
    omega (arith, c.requires, n3.auto.out, next_ends _ _ n3.ensures, n2.auto.out, next_ends _ _ n2.ensures, n1.auto.out, next_ends _ _ n1.ensures, i.auto.out, item_ends _ _ i.ensures)

pub put_next-g-requires : goal.put_next-g-requires
put_next-g-requires c =
    let n4 = c.put_next-f in
    let n3 = c.put_next-e in
    let n2 = c.put_next-d in
    let n1 = c.put_next-b in
    let i = c.put_item-a in
    omega (arith, c.requires, n4.auto.out, next_ends _ _ n4.ensures, n3.auto.out, next_ends _ _ n3.ensures, n2.auto.out, next_ends _ _ n2.ensures, n1.auto.out, next_ends _ _ n1.ensures, i.auto.out, item_ends _ _ i.ensures)

pub put8-requires : goal.put8-requires
put8-requires c =
    let n5 = c.put_next-g in
    let n4 = c.put_next-f in
    let n3 = c.put_next-e in
    let n2 = c.put_next-d in
    let n1 = c.put_next-b in
    let i = c.put_item-a in
    omega (arith, c.requires, n5.auto.out, next_ends _ _ n5.ensures, n4.auto.out, next_ends _ _ n4.ensures, n3.auto.out, next_ends _ _ n3.ensures, n2.auto.out, next_ends _ _ n2.ensures, n1.auto.out, next_ends _ _ n1.ensures, i.auto.out, item_ends _ _ i.ensures)

pub shape_of-out : goal.shape_of-out
shape_of-out c = c.put8.auto.out ∙ c.put_next-g.auto.out ∙ c.put_next-f.auto.out ∙ c.put_next-e.auto.out ∙ c.put_next-d.auto.out ∙ c.put_next-b.auto.out ∙ c.put_item-a.auto.out

pub returns : goal.returns
returns c =
    let a = c.args in
    sums_put a.c a.held_count
    c.put_item-a.ensures
    c.put_next-b.ensures
    c.put_next-d.ensures
    c.put_next-e.ensures
    c.put_next-f.ensures
    c.put_next-g.ensures
    c.put8.ensures
