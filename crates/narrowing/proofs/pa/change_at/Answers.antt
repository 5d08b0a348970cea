use Rattle.narrowing.proofs.pa.change_at.Goals as goal

pub returns-then-from-known : goal.returns-then-from-known
returns-then-from-known c = rw c.if-from-known.true (c.requires.1 c.args.end (rw c.if-from-known.true at c.requires.0))
