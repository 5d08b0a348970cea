use native.Mathlib.Omega.{arith}
use Rattle.narrowing.proofs.MptLaws.{less_some, less_room, rest_room, less_written}
use Rattle.narrowing.proofs.mpt.mpt_to.Goals as goal

pub entries_to-e-requires : goal.entries_to-e-requires
entries_to-e-requires c =
    let a = c.args in
    let less = record a.change { size = c.requires.0.0 } in
    let m = c.requires.0.1 in (
      omega (arith, m.fits, m.within),
      less_some a.o a.b.now less m _ c.wide.ensures.0,
      less_room a.o a.b.now less m _ c.wide.ensures.0 _ _ _ _ _ _ c.copy-c.ensures c.put8-d.ensures c.requires.1
          c.copy-c.auto.out c.put8-d.auto.out,
    )

pub copy-requires : goal.copy-requires
copy-requires c =
    let a = c.args in
    rest_room a.o a.b.now (record a.change { size = c.requires.0.0 }) c.requires.0.1 _ c.wide.ensures.0 _ _ _ _ _ _ c.copy-c.ensures c.put8-d.ensures c.requires.1
    c.copy-c.auto.out c.put8-d.auto.out _ _ c.entries_to-e.ensures c.entries_to-e.auto.out

pub returns : goal.returns
returns c =
    let a = c.args in
    less_written a.o a.b.now (record a.change { size = c.requires.0.0 }) c.requires.0.1 _ c.wide.ensures.0 _ _ _ _ _ _ c.copy-c.ensures c.put8-d.ensures c.requires.1
    c.copy-c.auto.out c.put8-d.auto.out _ _ c.entries_to-e.ensures _ _ c.copy.ensures
