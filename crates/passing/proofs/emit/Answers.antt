use mathlib.Core.Path.{sym, ◌∙◌}
use Rattle.passing.proofs.SignalLaws.{narrows_as}
use Rattle.passing.proofs.emit.Goals as goal

pub returns : goal.returns
returns c =
    let a = c.args in
    rw (sym c.has.ensures ∙ c.if-has.false, narrows_as a.t.modes a.t.options c.requires.0) c.narrowed.ensures
