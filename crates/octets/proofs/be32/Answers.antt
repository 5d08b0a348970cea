use Rattle.meaning.specs.Bytes.{be32_at}
use borrow.Author.Rules.{rules}
use Rattle.octets.proofs.be32.Goals as goal

pub returns : goal.returns
unfolding be32_at
returns c = search rules
