use Rattle.std.proofs.Common.{rules}
use Rattle.std.proofs.lemmas.Iterator.{YieldsList-from_slice, YieldsList-from_map}
use Rattle.std.proofs.lemmas.Iterator.Consumers.{sum_by_from_yields_List}
use borrow.Author.Tests.{tests}
use mathlib.Core.Path.{◌∙◌}
use Rattle.meaning.specs.Record.{fragment_length}
use Rattle.soundness.proofs.SoundnessLaws.{sum_in}
use Rattle.soundness.proofs.lengths.Goals as goal

pub returns : goal.returns
unfolding fragment_length
returns c =
    sum_by_from_yields_List fragment_length c.args.fragment_heads.now c.map.result _ c.sum.ensures.ran (YieldsList-from_map _ fragment_length (YieldsList-from_slice c.args.fragment_heads.now (rw c.map.ensures.source c.iter.ensures.rest)) c.map.ensures.closure (λ x r q k. search (rules, tests)))
    ∙ sum_in fragment_length c.args.fragment_heads.now
