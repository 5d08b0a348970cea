use mathlib.Core.Path.{sym}
use Rattle.meaning.specs.Refusals.{number_of, answer_number}
use Rattle.tally.proofs.TallyLaws.{done_number, refused_number}
use Rattle.tally.proofs.tally_answer.Goals as goal

pub returns-in-Some : goal.returns-in-Some
unfolding answer_number
returns-in-Some c = sym (done_number _ _ (c.in-Some.ensures).0)

pub returns-in-None : goal.returns-in-None
unfolding answer_number number_of
returns-in-None c = sym (refused_number _ _ (c.in-None.ensures))
