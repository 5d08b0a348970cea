use lib.Bits.{and_mask}
use Prim.Native.Nat.{◌/◌}
use Rattle.meaning.specs.Messages.{long_lengths}
use Rattle.observing.proofs.messages.long_lengths.Goals as goal

pub returns : goal.returns
unfolding long_lengths
returns c = rw (and_mask (c.args.flags / 2) 1)
