use Rattle.meaning.specs.Wishes.{captions_only}
use borrow.Author.Rules.{rules}
use Rattle.recorder.proofs.profiles.captions_only.Goals as goal

pub returns : goal.returns
unfolding captions_only
returns c = search rules
