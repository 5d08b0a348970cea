use Rattle.cases.proofs.StreamLaws.{fits_rooms}
use mathlib.Core.Path.{sym, ◌∙◌}
use Rattle.cases.proofs.calls.calls.Goals as goal

pub started-requires : goal.started-requires
started-requires c = fits_rooms (sym c.head_fits.ensures ∙ c.if-not-head_fits.false)
