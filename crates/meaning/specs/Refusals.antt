-- Refusal numbers: 01, "Refusal numbers"; 9: 02 [1]. The lowest that applies is given, 0 for none.
use Rattle.std.specs.Prelude.{ℕ, Bool, true, false, Option, Some, None, Result, Ok, Err}
use Rattle.meaning.specs.declared.Refusal.{Refusal}
use Rattle.meaning.specs.declared.Refusal.TheVariants.{WorkRoom, FragmentRoom, MapRoom, Unsound, Long, Short, Tally, Input, Wishes}

-- What a call answers, and what narrowing does: where something changed, the length of what was written.
abbrev pub Answer : Type 0
Answer = Result (Unit {0}) Refusal

abbrev pub Narrowing : Type 0
Narrowing = Result (Option ℕ) Refusal

-- 01's number of each.
unfoldable pub number_of : Refusal → ℕ
number_of WorkRoom = 1
number_of FragmentRoom = 2
number_of MapRoom = 3
number_of Unsound = 4
number_of Long = 5
number_of Short = 6
number_of Tally = 7
number_of Input = 8
number_of Wishes = 9

unfoldable pub answer_number : Answer → ℕ
unfolding number_of
answer_number (Ok done) = 0
answer_number (Err r) = number_of r

-- What narrowing answers: the refusal's number, whether anything is changed, and the length of what was written, 0 where nothing was.
unfoldable pub narrowing_number : Narrowing → ℕ
unfolding number_of
narrowing_number (Err r) = number_of r
narrowing_number (Ok None) = 0
narrowing_number (Ok (Some n)) = 0

unfoldable pub narrowing_changed : Narrowing → Bool
narrowing_changed (Err r) = false
narrowing_changed (Ok None) = false
narrowing_changed (Ok (Some n)) = true

unfoldable pub narrowing_length : Narrowing → ℕ
narrowing_length (Err r) = 0
narrowing_length (Ok None) = 0
narrowing_length (Ok (Some n)) = n
