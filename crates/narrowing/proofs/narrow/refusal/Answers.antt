use mathlib.Core.Path.{sym}
use Rattle.meaning.specs.Refusals.{number_of}
use Rattle.narrowing.proofs.AnswerLaws.{too_long, too_short, accepted}
use Rattle.narrowing.proofs.narrow.refusal.Goals as goal

pub returns-then-n-gt65539 : goal.returns-then-n-gt65539
unfolding number_of
returns-then-n-gt65539 c = sym (too_long c.args.n c.args.out_length c.if-n-gt65539.true)

pub returns-then-out_length-n : goal.returns-then-out_length-n
unfolding number_of
returns-then-out_length-n c = sym (too_short c.args.n c.args.out_length c.if-n-gt65539.false c.if-out_length-n.true)

pub returns : goal.returns
returns c = sym (accepted c.args.n c.args.out_length c.if-n-gt65539.false c.if-out_length-n.false)
