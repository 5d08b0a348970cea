use mathlib.Core.List.{[]}
use native.Mathlib.Omega.{arith}
use Rattle.programs.proofs.StreamLaws.{come_start, start_taken}
use Rattle.programs.proofs.stream.started.Goals as goal

pub pass-requires : goal.pass-requires
pass-requires c =
    let z = c.requires in
    let a = c.args in
    let r = a.rooms.now in
    rw c.begun.ensures (start_taken a.modes a.o z.0 r.map_room z.1 (come_start a.modes a.o z.0 r.map_room z.1 r.work r.bodies c.start-s.result (omega arith) (omega arith) c.start-s.ensures))

pub returns : goal.returns
returns c =
    let z = c.requires in
    let a = c.args in
    let r = a.rooms.now in
    c.pass.ensures a.modes a.o [] (rw c.begun.ensures (come_start a.modes a.o z.0 r.map_room z.1 r.work r.bodies c.start-s.result (omega arith) (omega arith) c.start-s.ensures))
