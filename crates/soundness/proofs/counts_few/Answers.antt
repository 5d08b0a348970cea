use Rattle.std.proofs.Common.{rules}
use Rattle.std.proofs.lemmas.Iterator.{YieldsList-from_slice}
use Rattle.std.proofs.lemmas.Iterator.Search.{all_from_yields_List}
use borrow.Author.Tests.{tests}
use lib.Dec.{leb}
use mathlib.Core.Path.{◌∙◌}
use Rattle.meaning.specs.Record.{pair_of}
use Rattle.soundness.proofs.SoundnessLaws.{all_in}
use Rattle.soundness.proofs.counts_few.Goals as goal

pub returns : goal.returns
unfolding pair_of
returns c =
    all_from_yields_List (λ x. leb (pair_of x).1 255) _ _ _ c.all.ensures.ran (YieldsList-from_slice c.args.map_heads.now c.iter.ensures.rest) (λ x b q k. search (rules, tests))
    ∙ all_in (λ x. leb (pair_of x).1 255) c.args.map_heads.now
