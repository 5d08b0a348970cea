use Rattle.meaning.specs.Ip.{udp_length_afresh}
use borrow.Author.Rules.{rules}
use Rattle.ip.proofs.udp_length_afresh.Goals as goal

pub returns : goal.returns
unfolding udp_length_afresh
returns c = search rules
