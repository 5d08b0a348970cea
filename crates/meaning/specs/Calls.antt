-- What a call of a recorder answers: its refusal's number, the packets written, the counts, and the record handed back.
use Rattle.std.specs.Prelude.{ℕ, List}
use Rattle.meaning.specs.Bytes.{Bytes}
use Rattle.meaning.specs.Record.{Record}
use Rattle.meaning.specs.declared.Counts.{Counts}

-- Counts of so many bytes written and nothing else.
abbrev pub counts_of : ℕ → Counts
counts_of n = record { bytes = n; accepted = 0; written = 0; rewritten = 0; skipped = 0; lost = 0 }

pub record Called : Type 0 where
  pub number : ℕ
  pub out : List Bytes
  pub counts : Counts
  pub handed : Record
