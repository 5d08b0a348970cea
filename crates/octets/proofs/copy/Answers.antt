use Rattle.std.proofs.lemmas.Slice.{overwrites}
use borrow.Author.Rules.{rules}
use mathlib.Core.Path.{refl}
use Rattle.octets.proofs.copy.Goals as goal

pub returns : goal.returns
returns c = record { end = refl; front = search (rules, overwrites); back = search (rules, overwrites) }
