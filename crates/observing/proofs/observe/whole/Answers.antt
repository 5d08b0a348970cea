use Rattle.observing.proofs.ObserveSteps.{keeps_with, messages_observed}
use Rattle.meaning.specs.Learn.{with_fragments, without}
use Rattle.observing.proofs.observe.whole.Goals as goal

pub returns : goal.returns
returns c =
    let a = c.args in
    let y = rw c.with_held-known.ensures at c.learn.ensures in
    let d = rw c.held_of.ensures at c.drop_fragment-held.ensures in (
      (λ L k most h.
          messages_observed L.total a.p.id k (without a.p.id k.fragments) a.e _ _ _ _ (d.left L.total k.fragments h.fragments_kept) _ _ _
          (y.0 (with_fragments (without a.p.id k.fragments) k) (keeps_with k _ a.e _ a.kept.now _ h.tables_kept))),
      y.1,
      d.once a.body.now,
    )
