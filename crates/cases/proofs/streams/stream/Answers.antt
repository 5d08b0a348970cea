use Rattle.cases.proofs.StreamLaws.{fits_rooms}
use mathlib.Core.Path.{sym, ◌∙◌}
use Rattle.cases.proofs.streams.stream.Goals as goal

pub in_lent-requires : goal.in_lent-requires
in_lent-requires c = fits_rooms (sym c.head_fits.ensures ∙ c.if-not-head_fits.false)
