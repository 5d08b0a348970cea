use Rattle.programs.proofs.AskedLaws.{options_with}
use Rattle.programs.proofs.asked.options_of.Goals as goal

pub returns : goal.returns
returns c = let a = c.args in options_with a.flags a.service _ c.service_of.ensures
