use mathlib.Core.Path.{◌≡◌}
use Rattle.std.specs.Prelude.{Some}
use Rattle.meaning.specs.Refusals.{answer_number}
use Rattle.programs.specs.Stream.{RoomsLong, Goes}
use Rattle.programs.proofs.stream.pass.Given as goal

abbrev pub invariant-loop : goal.invariant-loop
invariant-loop l = record { not_refused : answer_number l.x.answer ≡ 0; long : RoomsLong l.rooms; goes : Goes l.initial.x l.initial.rooms (Some l.x) l.rooms }
