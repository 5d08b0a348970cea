-- What a call of the day tally promises: the definition's answer, and the tally as the definition leaves it.
use Rattle.std.specs.Prelude.{◌≡◌}
use Rattle.meaning.specs.Refusals.{Answer, answer_number}
use Rattle.meaning.specs.Tally.{tally_refusal, tallied}
use Rattle.meaning.specs.declared.Counts.{Counts}

-- The tally t with the counts c is t' afterwards, and the call answered a.
abbrev pub TalliedAs : Counts → Counts → Counts → Answer → Type 0
TalliedAs t c t' a = (t' ≡ tallied t c) × (answer_number a ≡ tally_refusal t c)
