use Rattle.meaning.specs.Soundness.{distinct}
use mathlib.Core.Path.{◌≡◌}
use mathlib.Core.List.{map}
use lib.ListN.{length}
use Rattle.soundness.proofs.few_distinct.Given as goal

abbrev pub invariant-loop-head : goal.invariant-loop-head
invariant-loop-head g l = distinct (map g.H.Head.id_in l.heads) ≡ distinct (map g.H.Head.id_in l.rest)

abbrev pub decreases-loop-head : goal.decreases-loop-head
decreases-loop-head g l = length l.rest
