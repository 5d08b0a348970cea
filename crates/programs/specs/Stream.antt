-- What becomes of a chunk, how far a stream has come, and what an input leaves to be told: the definition's calls for chunks that were
-- read. Which bytes they have no contract can say, so they are said to be there.
use Rattle.std.specs.Prelude.{ℕ, ◌≤◌, ◌≡◌, Bool, cond, true, false, List, ◌++◌, length, take, eqb, Option, Some, None, IsSome, Err}
use Rattle.meaning.specs.Bytes.{Bytes}
use Rattle.meaning.specs.Writing.{Wrote}
use Rattle.meaning.specs.Wishes.{wants_assets, all_off}
use Rattle.meaning.specs.Refusals.{answer_number}
use Rattle.meaning.specs.Record.{Record, record_of, state_of}
use Rattle.meaning.specs.Calls.{counts_of}
use Rattle.meaning.specs.Tally.{fits64, tally_refusal, tallied}
use Rattle.meaning.specs.Programs.{input_refusal, input_options, program_limits, program_calls, Chunks, refused_line, sums_line}
use Rattle.meaning.specs.declared.Options.{Options}
use Rattle.meaning.specs.declared.Modes.{Modes}
use Rattle.meaning.specs.declared.Counts.{Counts}
use Rattle.meaning.specs.declared.Refusal.{Refusal}
use Rattle.recorder.specs.declared.Pushed.{Pushed}
use Rattle.recorder.specs.declared.Started.{Started}
use Rattle.recorder.specs.Filter.{record_in}
use Rattle.recorder.specs.Calls.{PushedAs, RoomsAfter}
use Rattle.programs.specs.declared.lines.Ending.{Ending}
use Rattle.programs.specs.declared.lines.Writes.{Writes}
use Rattle.programs.specs.declared.stream.Rooms.{Rooms}
use Rattle.programs.specs.declared.stream.Standing.{Standing}
use Rattle.programs.specs.Pipe.{came_of}
use Rattle.programs.specs.Lines.{line_by}

-- ---- one chunk

-- Of two refusals' numbers the first; 0 is none.
abbrev pub first_of : ℕ → ℕ → ℕ
first_of a b = cond (eqb a 0) b a

-- Of so many bytes of a call all are to be written, or none.
abbrev pub to_write : Writes → ℕ → ℕ
to_write Writes.Stream n = n
to_write Writes.Sums n = 0

-- How long the rooms of a program are.
pub record RoomsLong (rooms : Rooms) : Type 0 where
  pub work_long : length rooms.work ≡ 65536
  pub bodies_long : length rooms.bodies ≡ 65536
  pub map_room_long : length rooms.map_room ≡ 32768
  pub out_long : length rooms.out ≡ 65536

-- What a push promises, with its record, and its counts in the sums.
pub record TakenAs (r : Record) (sums : Counts) (chunk : Bytes) (rooms : Rooms) (x : Standing) (rooms' : Rooms) : Type 0 where
  pub call : Pushed
  pub pushed : PushedAs r rooms.work rooms.bodies rooms.map_room chunk rooms.out call rooms'.work rooms'.bodies rooms'.map_room rooms'.out
  pub answer_is : answer_number x.answer ≡ first_of (answer_number call.answer) (tally_refusal sums call.counts)
  pub bytes_are : x.bytes ≡ call.counts.bytes
  pub sums_are : x.sums ≡ tallied sums call.counts
  pub filter_is : x.filter ≡ call.filter

-- Of what is answered unless a read or a write failed: P holds of it, and of something where nothing is answered.
abbrev pub Left : {A : Type 0} → (A → Type 0) → Option A → Type 0
Left P (Some x) = P x
Left {A} P None = (x : A) × P x

-- What stands after a step, where the step did not fail.
abbrev pub standing_if : Option (Unit {0}) → Standing → Option Standing
standing_if (Some done) x = Some x
standing_if None x = None

-- Then the bytes are written, where that is asked for. Where nothing is to be written no write fails.
pub record WrittenAs (writes : Writes) (r : Record) (sums : Counts) (chunk : Bytes) (rooms : Rooms) (y : Option Standing) (rooms' : Rooms) : Type 0 where
  pub standing : Standing
  pub taken : TakenAs r sums chunk rooms standing rooms'
  pub is : Left (λ x. x ≡ standing) y
  pub well : to_write writes standing.bytes ≡ 0 → y ≡ Some standing

-- ---- all chunks

-- At the end of an input a stream stands as it stood; a read that failed is told.
abbrev pub ended_as : Standing → Option ℕ → Option Standing
ended_as x (Some n) = Some x
ended_as x None = None

-- By what was read to the room for a chunk: the bytes that came go through a call; where none came, no room changes.
pub record NextAs (writes : Writes) (x : Standing) (came : Option ℕ) (chunk : Bytes) (rooms : Rooms) (y : Option Standing) (rooms' : Rooms) : Type 0 where
  pub some_came : 1 ≤ came_of came → WrittenAs writes (record_in x.filter) x.sums (take (came_of came) chunk) rooms y rooms'
  pub none_came : came_of came ≡ 0 → (y ≡ ended_as x came) × (rooms' ≡ rooms)

abbrev pub goes_on : Standing → Option ℕ → Bool
goes_on x came = cond (eqb (came_of came) 0) false (eqb (answer_number x.answer) 0)

-- The refusal of sums: 7 where one passes 2^64 - 1.
unfoldable pub sums_refusal : Counts → ℕ
unfolding fits64
sums_refusal c = cond (fits64 c) 0 7

-- After the calls of these chunks: the answer, the sums where they fit, the record, and rooms that hold its state.
pub record Come (M : Modes) (o : Options) (cs : List Bytes) (x : Standing) (work bodies : Bytes) (map_room : List ℕ) : Type 0 where
  pub assets_wanted : wants_assets o ≡ true
  pub chunks_are : Chunks cs
  pub answer_is : answer_number x.answer ≡ sums_refusal (program_calls M o cs).counts
  pub sums_are : answer_number x.answer ≡ 0 → x.sums ≡ (program_calls M o cs).counts
  pub record_is : record_in x.filter ≡ record_of program_limits M o (record_in x.filter).leading (program_calls M o cs).state
  pub state_is : state_of (record_in x.filter) work bodies map_room ≡ (program_calls M o cs).state
  pub work_long : length work ≡ 65536
  pub bodies_long : length bodies ≡ 65536
  pub map_room_long : length map_room ≡ 32768

-- With the rooms of a program, where it did not fail; and where it did, of some standing.
abbrev pub ComeIn : Modes → Options → List Bytes → Option Standing → Rooms → Type 0
ComeIn M o cs x rooms = Left (λ z. Come M o cs z rooms.work rooms.bodies rooms.map_room) x

-- From wherever a stream has come to, it comes further, by more chunks or none.
abbrev pub Goes : Standing → Rooms → Option Standing → Rooms → Type 0
Goes x rooms y rooms' = (M : Modes) (o : Options) (cs : List Bytes) → ComeIn M o cs (Some x) rooms → (more : List Bytes) × ComeIn M o (cs ++ more) y rooms'

abbrev pub begun_as : Started → Standing
begun_as s = record { answer = s.answer; bytes = 0; sums = counts_of 0; filter = s.filter }

-- ---- an input

abbrev pub ending_of : Standing → Ending
ending_of x = record { answer = x.answer; sums = x.sums; held_count = x.filter.held_count }

abbrev pub unasked_as : Refusal → Ending
unasked_as r = record { answer = Err r; sums = counts_of 0; held_count = 0 }

-- The refusal of an input with this head and these chunks: that of the head, or that of its sums.
unfoldable pub run_refusal : Bytes → List Bytes → ℕ
unfolding input_refusal input_options program_calls sums_refusal
run_refusal head cs = first_of (input_refusal head) (sums_refusal (program_calls all_off (input_options head) cs).counts)

-- The rooms after such an input: refused, they are as they were; else they and the state's record, with some number of fragments leading,
-- hold the state that its calls came to.
abbrev pub RoomsLeft : Bytes → List Bytes → Rooms → Rooms → Type 0
RoomsLeft head cs =
    let o = input_options head in
    let st = (program_calls all_off o cs).state in
    λ rooms rooms'.
    (leading : ℕ) × RoomsAfter (eqb (input_refusal head) 0) st (record_of program_limits all_off o leading st) rooms.work rooms.bodies rooms.map_room rooms'.work rooms'.bodies rooms'.map_room

pub record Ran (head : Bytes) (cs : List Bytes) (rooms : Rooms) (e : Ending) (rooms' : Rooms) : Type 0 where
  pub head_short : length head ≤ 3
  pub chunks_are : Chunks cs
  pub answer_is : answer_number e.answer ≡ run_refusal head cs
  pub sums_are : answer_number e.answer ≡ 0 → e.sums ≡ (program_calls all_off (input_options head) cs).counts
  pub held_is : answer_number e.answer ≡ 0 → e.held_count ≡ length (program_calls all_off (input_options head) cs).state.held
  pub rooms_left : RoomsLeft head cs rooms rooms'

-- By its head: one that is refused did not fail.
abbrev pub HeadedAs : Bytes → Rooms → Option Ending → Rooms → Type 0
HeadedAs head rooms e rooms' = ((cs : List Bytes) × Left (λ x. Ran head cs rooms x rooms') e) × (eqb (input_refusal head) 0 ≡ false → IsSome e)

-- The room for a head, with what came to it.
pub record HeadIn (came : Option ℕ) (head : Bytes) : Type 0 where
  pub within : came_of came ≤ length head
  pub short : length head ≤ 3

-- By what was read to it: the head is the bytes that came; where a read failed, that is told, and no room changes.
abbrev pub RanBy : Option ℕ → Bytes → Rooms → Option Ending → Rooms → Type 0
RanBy (Some n) s rooms e rooms' = HeadedAs (take n s) rooms e rooms'
RanBy None s rooms e rooms' = (e ≡ None) × (rooms' ≡ rooms)

-- The last line of a program that writes the stream, or of one that does not, for an input with this head and these chunks.
unfoldable pub line_for : Writes → Bytes → List Bytes → Bytes
unfolding run_refusal input_options program_calls refused_line sums_line
line_for writes head cs =
    let r = program_calls all_off (input_options head) cs in
    line_by (run_refusal head cs) writes r.counts (length r.state.held)

-- The line that is written, and its length; where a read or a write failed there is none.
abbrev pub WroteLine : Bytes → Bytes → Option ℕ → Bytes → Type 0
WroteLine text line (Some n) line' = Wrote text line 0 line' n
WroteLine text line None line' = line' ≡ line

-- There are a head and chunks for which this is the last line, and these are the rooms.
pub record Told (writes : Writes) (rooms : Rooms) (line : Bytes) (n : Option ℕ) (rooms' : Rooms) (line' : Bytes) : Type 0 where
  pub head : Bytes
  pub chunks : List Bytes
  pub head_short : length head ≤ 3
  pub chunks_are : Chunks chunks
  pub written : WroteLine (line_for writes head chunks) line n line'
  pub rooms_left : RoomsLeft head chunks rooms rooms'
