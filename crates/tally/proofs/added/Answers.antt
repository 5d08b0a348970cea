-- At each way out the sum that does not fit says that not all do.
use Rattle.tally.proofs.TallyLaws.{fitting, not_fitting}
use Rattle.tally.proofs.added.Goals as goal

pub returns-in_err-checked_add : goal.returns-in_err-checked_add
returns-in_err-checked_add c = rw c.from_residual.ensures (not_fitting _ (λ f. c.in_err-checked_add.ensures f.bytes))

pub returns-in_err-checked_add-2 : goal.returns-in_err-checked_add-2
returns-in_err-checked_add-2 c = rw c.from_residual-in_err-checked_add-2.ensures (not_fitting _ (λ f. c.in_err-checked_add-2.ensures f.accepted))

pub returns-in_err-checked_add-3 : goal.returns-in_err-checked_add-3
returns-in_err-checked_add-3 c = rw c.from_residual-in_err-checked_add-3.ensures (not_fitting _ (λ f. c.in_err-checked_add-3.ensures f.written))

pub returns-in_err-checked_add-4 : goal.returns-in_err-checked_add-4
returns-in_err-checked_add-4 c = rw c.from_residual-in_err-checked_add-4.ensures (not_fitting _ (λ f. c.in_err-checked_add-4.ensures f.rewritten))

pub returns-in_err-checked_add-5 : goal.returns-in_err-checked_add-5
returns-in_err-checked_add-5 c = rw c.from_residual-in_err-checked_add-5.ensures (not_fitting _ (λ f. c.in_err-checked_add-5.ensures f.skipped))

pub returns-in_err-checked_add-6 : goal.returns-in_err-checked_add-6
returns-in_err-checked_add-6 c = rw c.from_residual-in_err-checked_add-6.ensures (not_fitting _ (λ f. c.in_err-checked_add-6.ensures f.lost))

pub returns : goal.returns
returns c =
    let one = c.in_ok-checked_add.ensures in
    let two = c.in_ok-checked_add-2.ensures in
    let three = c.in_ok-checked_add-3.ensures in
    let four = c.in_ok-checked_add-4.ensures in
    let five = c.in_ok-checked_add-5.ensures in
    let six = c.in_ok-checked_add-6.ensures in (
      fitting _ (record { bytes = one.0; accepted = two.0; written = three.0; rewritten = four.0; skipped = five.0; lost = six.0 }),
      rw (one.1, two.1, three.1, four.1, five.1, six.1),
    )
