use lib.ListN.{length}
use Rattle.meaning.specs.Push.{pass}
use Rattle.passing.proofs.SignalLaws.{part_is, holding_anew, emitter_fits, signalled, fits_after}
use Rattle.passing.proofs.SparingLaws.{spares}
use native.Mathlib.Omega.{arith}
use Rattle.learning.proofs.PairLaws.{pairs_in_lem}
use Rattle.passing.proofs.signalling.Goals as goal

pub refreshed-requires : goal.refreshed-requires
refreshed-requires c =
    let a = c.args in
    let x = c.requires.2 in
    let y = rw (c.with_news-before.ensures, c.no_news.ensures) at c.observe-extent.ensures.0 in
    (_, (y x.0 (pass x.0 a.t.modes a.t.options x.1 x.4).known x.6 (holding_anew x.7.holding)).holding.tables_kept)

pub emit-requires : goal.emit-requires
emit-requires c =
    let a = c.args in
    let h = c.requires.0.1 in
    let f = c.requires.2 in
    let x = emitter_fits a.s _ h c.requires.1 in
    let payload = part_is _ h c.packet_payload-payload.ensures in
    let here = (pass f.0 a.t.modes a.t.options f.1 f.4).known in
    let y = rw (c.with_news-before.ensures, c.no_news.ensures) at c.observe-extent.ensures.0 in
    let seen = y f.0 here f.6 (holding_anew f.7.holding) in
    let packages = seen.holding.tables_kept.packages_kept.pairs in (
      rw payload h,
      spares a.t.options f.0 a.signal.id here _ _ _ seen.news_are (pairs_in_lem packages),
      omega (arith, packages.count, packages.few),
      x,
    )

pub returns : goal.returns
returns c =
    let a = c.args in
    let h = c.requires.2.7.holding.fragments_kept in
    let y = rw (c.with_news-before.ensures, c.no_news.ensures, part_is _ c.requires.0.1 c.packet_payload-payload.ensures) at c.observe-extent.ensures in (
      (λ L k leading d ps n most f.
          signalled L a.t.modes a.t.options k leading d ps n a.s _ c.requires.0.1 f
          (y.0 L (pass L a.t.modes a.t.options k ps).known most (holding_anew f.holding)) c.refreshed.ensures c.emit.ensures),
      (λ m f. fits_after a.t.modes a.t.options c.requires.0.1 a.s _ _ a.out.now _ (length a.bodies.now) c.emit.ensures y.1 (rw h.total h.total_few) c.emit.auto.out m f),
    )
