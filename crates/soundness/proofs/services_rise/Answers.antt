use Rattle.std.proofs.Common.{rules}
use Rattle.std.proofs.lemmas.Fn.{always_returns_same}
use borrow.Author.Tests.{tests}
use Prim.Native.Nat.{◌/◌}
use lib.Dec.{ltb}
use Rattle.meaning.specs.Record.{pair_of}
use Rattle.soundness.specs.Parts.{upper}
use Rattle.soundness.proofs.SoundnessLaws.{rises}
use Rattle.soundness.proofs.services_rise.Goals as goal

pub returns : goal.returns
unfolding pair_of
returns c = rises upper c.args.packages.now c.is_sorted_by.result (c.is_sorted_by.ensures.cases (λ x y. ltb (x / 65536) (y / 65536)) (always_returns_same _ _ _ (λ a r f q. search (rules, tests))))
