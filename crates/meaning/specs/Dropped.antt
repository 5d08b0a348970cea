-- How many packet identifiers the present rules drop, asked of a record: 01, "Keep, drop, ready".
use Rattle.std.specs.Prelude.{ℕ, cond, List, length, eqb}
use Rattle.meaning.specs.Bytes.{Bytes}
use Rattle.meaning.specs.Rules.{dropped}
use Rattle.meaning.specs.Record.{Record, state_of}
use Rattle.meaning.specs.Soundness.{sound_refusal}

-- How many identifiers are dropped; 0 where the record is refused.
unfoldable pub dropped_now : Record → Bytes → Bytes → List ℕ → ℕ
unfolding sound_refusal state_of dropped
dropped_now r work bodies map_room =
    cond (eqb (sound_refusal r (length work) (length bodies) (length map_room)) 0)
    (dropped r.options (state_of r work bodies map_room).known) 0
