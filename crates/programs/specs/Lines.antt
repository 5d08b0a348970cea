-- The last line of a program: that of a refusal; else none where the stream was written, or that of the sums.
use Rattle.std.specs.Prelude.{ℕ, cond, Option, Some, None, [], eqb}
use Rattle.meaning.specs.Bytes.{Bytes}
use Rattle.meaning.specs.Refusals.{answer_number}
use Rattle.meaning.specs.Programs.{refused_line, sums_line}
use Rattle.meaning.specs.declared.Counts.{Counts}
use Rattle.programs.specs.declared.lines.Ending.{Ending}
use Rattle.programs.specs.declared.lines.Writes.{Writes}

-- Of a program that goes well; the sums, and how many bytes are held.
abbrev pub well_line : Writes → Counts → ℕ → Bytes
well_line Writes.Stream c held_count = []
well_line Writes.Sums c held_count = sums_line c held_count

-- By a refusal's number, 0 for none.
abbrev pub line_by : ℕ → Writes → Counts → ℕ → Bytes
line_by number writes c held_count = cond (eqb number 0) (well_line writes c held_count) (refused_line number)

-- Where a read or a write failed there is no ending, and nothing is told.
unfoldable pub last_line : Option Ending → Writes → Bytes
unfolding answer_number refused_line sums_line
last_line None writes = []
last_line (Some e) writes = line_by (answer_number e.answer) writes e.sums e.held_count
