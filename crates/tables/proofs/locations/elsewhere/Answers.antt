use Rattle.tables.proofs.locations.elsewhere.Goals as goal

pub returns-in_err-end : goal.returns-in_err-end
returns-in_err-end c = rw (c.from_residual.ensures, c.in_err-end.was)

pub returns : goal.returns
returns c = rw c.in_ok-end.was
