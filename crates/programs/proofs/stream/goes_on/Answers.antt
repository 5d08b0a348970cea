use Rattle.std.specs.Prelude.{◌≡◌, false, eqb}
use mathlib.Core.Path.{◌∙◌}
use borrow.Author.Tests.{ne_eqb}
use Rattle.programs.specs.Pipe.{came_of}
use Rattle.programs.proofs.StreamLaws.{came_is, ok_done}
use Rattle.programs.proofs.stream.goes_on.Goals as goal

pub returns-then-unwrap_or-ne0 : goal.returns-then-unwrap_or-ne0
returns-then-unwrap_or-ne0 c =
    let came : eqb (came_of c.args.came) 0 ≡ false = rw (came_is c.args.came) (ne_eqb _ _ (rw c.unwrap_or.ensures at c.if-unwrap_or-ne0.true)) in
    rw came (c.is_ok.ensures.value ∙ ok_done c.args.x.answer)
