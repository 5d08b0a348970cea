use Rattle.narrowing.proofs.TableLaws.{after_same, wrote_anew}
use borrow.Author.Tests.{not-true, not-false}
use Rattle.meaning.specs.Bytes.{put16}
use borrow.Author.Rules.{rules}
use Rattle.narrowing.proofs.table.table_to.Goals as goal

pub returns-then-not-changes : goal.returns-then-not-changes
returns-then-not-changes c =
    let a = c.args in
    let s = c.changes in
    λ pid h. rw (after_same a.o pid a.t.now c.requires.0 a.change h (rw s.ensures at (not-true s.result c.if-not-changes.true-raw))) c.copy.ensures

pub body_to-requires : goal.body_to-requires
unfolding put16
body_to-requires c = ((_, c.requires.1.1), search rules)

pub returns : goal.returns
returns c =
    let a = c.args in
    let s = c.changes in
    λ pid h.
    wrote_anew a.o pid a.t.now c.requires.0 a.change h (rw s.ensures at (not-false s.result c.if-not-changes.false-raw))
    (c.length_after.ensures _ a.o h) c.copy-c.ensures c.put16-d.ensures (c.body_to.ensures _ h)
