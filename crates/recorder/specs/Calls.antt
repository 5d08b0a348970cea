-- What the calls of a recorder promise: the definition's answer, counts, record and output, and rooms that hold the definition's state.
use Rattle.std.specs.Prelude.{ℕ, ◌+◌, ◌≤◌, ◌≡◌, Bool, true, false, length, take, eqb}
use mathlib.Core.List.{List, flatten}
use Rattle.meaning.specs.Bytes.{Bytes}
use Rattle.meaning.specs.Writing.{Wrote}
use Rattle.meaning.specs.Learn.{Known}
use Rattle.meaning.specs.Refusals.{answer_number}
use Rattle.meaning.specs.Record.{State, Record, state_of}
use Rattle.meaning.specs.Soundness.{sound_refusal}
use Rattle.meaning.specs.Start.{started}
use Rattle.meaning.specs.Push.{Outcome, push, called}
use Rattle.meaning.specs.Dropped.{dropped_now}
use Rattle.meaning.specs.declared.Limits.{Limits}
use Rattle.meaning.specs.declared.Options.{Options}
use Rattle.meaning.specs.declared.Modes.{Modes}
use Rattle.observing.specs.Observed.{Holding}
use Rattle.learning.specs.declared.Extent.{Extent}
use Rattle.learning.specs.declared.Kept.{Kept}
use Rattle.recorder.specs.declared.call.CarriedOut.{CarriedOut}
use Rattle.recorder.specs.declared.Pushed as code
use Rattle.recorder.specs.declared.Started as code'
use Rattle.recorder.specs.declared.Dropped as code''
use Rattle.recorder.specs.Filter.{record_in}

-- ---- a call that is not refused

-- There is room for the held bytes and the chunk, in the work room and in the output, and no map is lost yet.
pub record RoomFor (e : Extent) (held_count : ℕ) (chunk work out : Bytes) : Type 0 where
  pub none_lost : e.lost ≡ 0
  pub work_room : held_count + length chunk ≤ length work
  pub out_room : held_count + length chunk ≤ length out
  pub work_few : length work ≤ 131078

-- The arrays and rooms hold the state after a push, with so many fragments leading, and the output has what it wrote.
pub record CarriedOutAs (L : Limits) (x : Outcome) (leading : ℕ) (out : Bytes) (r : CarriedOut) (kept : Kept) (map_room : List ℕ) (bodies work out' : Bytes) : Type 0 where
  pub holding : Holding L.total x.state.known r.extent kept map_room bodies
  pub leading_is : r.extent.leading ≡ leading
  pub held_is : r.held_count ≡ length x.state.held
  pub held_bytes : take r.held_count work ≡ x.state.held
  pub counts_are : r.counts ≡ x.counts
  pub written : Wrote (flatten x.out) out 0 out' x.counts.bytes

-- Whatever state the arrays hold: a call on it with the bytes at the front of the work room.
abbrev pub CarriesOut : (Limits → State → Outcome) → (Limits → State → ℕ → ℕ) → ℕ → ℕ → Extent → Kept → List ℕ → Bytes → Bytes → Bytes
    → CarriedOut → Kept → List ℕ → Bytes → Bytes → Bytes → Type 0
CarriesOut call lead most held_count e kept map_room bodies work out r kept' map_room' bodies' work' out' =
    (L : Limits) (k : Known) → L.most ≡ most → L.work ≡ length work → Holding L.total k e kept map_room bodies
    → let st : State = record { held = take held_count work; known = k } in
    CarriedOutAs L (call L st) (lead L st e.leading) out r kept' map_room' bodies' work' out'

-- ---- a push

-- Refused, the rooms are as they were; else they and the record hold the state after the push.
abbrev pub RoomsAfter : Bool → State → Record → Bytes → Bytes → List ℕ → Bytes → Bytes → List ℕ → Type 0
RoomsAfter true st r work bodies map_room work' bodies' map_room' = state_of r work' bodies' map_room' ≡ st
RoomsAfter false st r work bodies map_room work' bodies' map_room' = (work' ≡ work) × (bodies' ≡ bodies) × (map_room' ≡ map_room)

pub record PushedAs (r : Record) (work bodies : Bytes) (map_room : List ℕ) (chunk out : Bytes) (x : code.Pushed) (work' bodies' : Bytes) (map_room' : List ℕ) (out' : Bytes) : Type 0 where
  pub answer_is : answer_number x.answer ≡ (called r work bodies map_room chunk (length out)).number
  pub counts_are : x.counts ≡ (called r work bodies map_room chunk (length out)).counts
  pub handed_is : record_in x.filter ≡ (called r work bodies map_room chunk (length out)).handed
  pub written : Wrote (flatten (called r work bodies map_room chunk (length out)).out) out 0 out' x.counts.bytes
  pub rooms : RoomsAfter (eqb (called r work bodies map_room chunk (length out)).number 0) (push r.limits r.modes r.options (state_of r work bodies map_room) chunk).state
      (record_in x.filter) work bodies map_room work' bodies' map_room'
  -- refused or not, so that the next call finds rooms of the start's lengths; the map room's is told by the state in it
  pub work_length : length work' ≡ length work
  pub bodies_length : length bodies' ≡ length bodies

-- ---- a start, and the number of dropped identifiers

-- A start reads the lengths of the rooms, and touches none.
pub record StartedAs (L : Limits) (M : Modes) (o : Options) (map_room : List ℕ) (x : code'.Started) : Type 0 where
  pub answer_is : answer_number x.answer ≡ (started L M o map_room).number
  pub handed_is : record_in x.filter ≡ (started L M o map_room).handed

-- It hands back the record that it was given, refused or not.
pub record DroppedAs (r : Record) (work bodies : Bytes) (map_room : List ℕ) (x : code''.Dropped) : Type 0 where
  pub answer_is : answer_number x.answer ≡ sound_refusal r (length work) (length bodies) (length map_room)
  pub count_is : x.count ≡ dropped_now r work bodies map_room
  pub handed_is : record_in x.filter ≡ r
