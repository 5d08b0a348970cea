-- What the user asks for, over what the functions of the face promise: 00, "The three demands", 01, "What the proofs owe". A promise says
-- which results of a call it allows; each statement speaks of all of them. Every name is from `meaning`, a promise, or this file.
use Rattle.std.specs.Prelude.{ℕ, ◌+◌, ◌-◌, ◌≤◌, ◌≡◌, Bool, true, false, cond, not, length, take, drop, eqb, ltb}
use mathlib.Core.List.{List, [], ◌∷◌, ◌++◌, map, flatten, Memᴰ}
use Rattle.std.proofs.Math.Option.{Option, none, some}
use Rattle.meaning.specs.Bytes.{Bytes}
use Rattle.meaning.specs.Packets.{cut}
use Rattle.meaning.specs.Wishes.{wants_assets, copies_all, captions_only}
use Rattle.meaning.specs.Narrow.{Change, narrowed_packet, change_table, change_payload, change_packet, narrow_refusal, none_of_each}
use Rattle.meaning.specs.Rooms.{packet_limit, good_work_room, good_fragment_room, good_map_room}
use Rattle.meaning.specs.Refusals.{Answer, answer_number, narrowing_number, narrowing_changed, narrowing_length}
use Rattle.meaning.specs.Record.{Record, lens, state_of}
use Rattle.meaning.specs.Soundness.{sound, firsts}
use Rattle.meaning.specs.Calls.{counts_of}
use Rattle.meaning.specs.Start.{blank}
use Rattle.meaning.specs.Tally.{add_counts, fits64}
use Rattle.meaning.specs.Recount.{packets_of, Sized, TableAlone, PayloadRecounted, PacketRecounted, Written, observed_mpts, lost_of}
use Rattle.meaning.specs.Less.{Fewer, Thinned}
use Rattle.meaning.specs.declared.Limits.{Limits}
use Rattle.meaning.specs.declared.Options.{Options}
use Rattle.meaning.specs.declared.Modes.{Modes}
use Rattle.meaning.specs.declared.Counts.{Counts}
use Rattle.meaning.proofs.Examples.{Example, starred_tables, no_captions, packet12}
use Rattle.tally.specs.Answers.{TalliedAs}
use Rattle.narrowing.specs.Answers.{NarrowedAs}
use Rattle.narrowing.specs.declared.narrow.Narrowed as narrow
use Rattle.recorder.specs.Filter.{record_in}
use Rattle.recorder.specs.Calls.{StartedAs, PushedAs, DroppedAs}
use Rattle.recorder.specs.declared.Started as started
use Rattle.recorder.specs.declared.Pushed as pushed
use Rattle.recorder.specs.declared.Dropped as dropped

-- ---- series of calls: what stands between two calls is the record that the last one handed back, and the rooms, in which nobody else writes
pub record Recorder : Type 0 where
  pub handed : Record
  pub work : Bytes
  pub bodies : Bytes
  pub map_room : List ℕ

-- A call, with what else it is lent; and a result, with the output as it is then.
pub data Call : Type 0 where
  Push : (chunk out : Bytes) → Call
  Ask : Call

pub data Result : Type 0 where
  Pushed : pushed.Pushed → Bytes → Result
  Asked : dropped.Dropped → Result

-- The promise allows this result of this call, which leaves the recorder so.
abbrev pub Allows : Recorder → Call → Result → Recorder → Type 0
Allows s (Push chunk out) (Pushed x out') t =
    PushedAs s.handed s.work s.bodies s.map_room chunk out x t.work t.bodies t.map_room out' × (t.handed ≡ record_in x.filter)
Allows s Ask (Asked x) t =
    DroppedAs s.handed s.work s.bodies s.map_room x × (t ≡ record { handed = record_in x.filter; work = s.work; bodies = s.bodies; map_room = s.map_room })
Allows s (Push chunk out) (Asked x) t = ⊥
Allows s Ask (Pushed x out') t = ⊥

-- Each call takes the recorder that the one before left.
abbrev pub Series : Recorder → List Call → List Result → Recorder → Type 0
Series s [] [] t = s ≡ t
Series s (c ∷ cs) (x ∷ xs) t = (u : Recorder) × Allows s c x u × Series u cs xs t
Series s [] (x ∷ xs) t = ⊥
Series s (c ∷ cs) [] t = ⊥

-- What a call is given, of its output the length alone; and what it tells: its number, 0 where it is no refusal, and the bytes that it wrote.
abbrev pub given : Call → Option (Bytes × ℕ)
given (Push chunk out) = some (chunk, length out)
given Ask = none

abbrev pub told : Result → ℕ × Bytes
told (Pushed x out') = (answer_number x.answer, take x.counts.bytes out')
told (Asked x) = (answer_number x.answer, [])

-- The packets of what a series wrote.
abbrev pub recording : List Result → List Bytes
recording xs = packets_of (flatten (map (λ x. (told x).1) xs))

-- Freshly started: by a start that was not refused, with rooms of the limits' lengths.
abbrev pub Begun : Limits → Modes → Options → Recorder → Type 0
Begun L M o s =
    (x : started.Started) × StartedAs L M o s.map_room x × (answer_number x.answer ≡ 0) × (s.handed ≡ record_in x.filter) × (L.work ≡ length s.work) × (L.total ≡ length s.bodies)

-- ---- narrowing: n is a table, a payload or a packet, c what the definition changes, d the output, which is d' then
abbrev pub Narrows : Bytes → Option Change → Bytes → narrow.Narrowed → Bytes → Type 0
Narrows n c d x d' = NarrowedAs (narrow_refusal (length n) (length d)) c d d' x.narrowing x.stayed x.went

-- What result and output tell of a change.
abbrev pub change_told : narrow.Narrowed → Bytes → Option Change
change_told x d' = cond (narrowing_changed x.narrowing) (some (record { out = take (narrowing_length x.narrowing) d'; stays = x.stayed; goes = x.went })) none

-- ---- demand 1: of the numbers that may come, each with whether it applies, the lowest that does is given, 0 where none does
unfoldable pub lowest : List (ℕ × Bool) → ℕ
lowest [] = 0
lowest (x ∷ xs) = cond x.1 x.0 (lowest xs)

abbrev pub unsound : Recorder → Bool
unsound s = not (sound s.handed (length s.work) (length s.bodies) (length s.map_room))

-- A call that is refused changes nothing.
pub record Refusing : Type 0 where
  pub start : (L : Limits) (M : Modes) (o : Options) (map_room : List ℕ) (x : started.Started) → StartedAs L M o map_room x
      → (answer_number x.answer ≡ lowest ((1, not (good_work_room L.work)) ∷ (2, not (good_fragment_room L.total L.most)) ∷ (3, not (good_map_room (length map_room))) ∷ (9, not (wants_assets o)) ∷ []))
      × (eqb (answer_number x.answer) 0 ≡ false → record_in x.filter ≡ blank)
  -- which is no record: every call refuses it
  pub no_record : (W T n : ℕ) → sound blank W T n ≡ false
  pub push : (s : Recorder) (chunk out : Bytes) (x : pushed.Pushed) (out' : Bytes) (t : Recorder) → Allows s (Push chunk out) (Pushed x out') t
      → (answer_number x.answer
      ≡ lowest ((4, unsound s) ∷ (5, ltb (length s.work - packet_limit (length s.work)) (length chunk)) ∷ (6, ltb (length out) (s.handed.held_count + length chunk)) ∷ []))
      × (eqb (answer_number x.answer) 0 ≡ false → (t ≡ s) × (out' ≡ out) × (x.counts ≡ counts_of 0))
  pub ask : (s : Recorder) (x : dropped.Dropped) (t : Recorder) → Allows s Ask (Asked x) t
      → (answer_number x.answer ≡ lowest ((4, unsound s) ∷ [])) × (t ≡ s) × (eqb (answer_number x.answer) 0 ≡ false → x.count ≡ 0)
  pub tally : (t c u : Counts) (a : Answer) → TalliedAs t c u a → (answer_number a ≡ lowest ((7, not (fits64 (add_counts t c))) ∷ [])) × (eqb (answer_number a) 0 ≡ false → u ≡ t)
  pub narrow : (n : Bytes) (c : Option Change) (d : Bytes) (x : narrow.Narrowed) (d' : Bytes) → Narrows n c d x d'
      → (narrowing_number x.narrowing ≡ lowest ((5, ltb 65539 (length n)) ∷ (6, ltb (length d) (length n)) ∷ []))
      × (eqb (narrowing_number x.narrowing) 0 ≡ false → (d' ≡ d) × (x.stayed ≡ none_of_each) × (x.went ≡ none_of_each))

-- Every input has an answer: some result is allowed, so no promise asks for what cannot be.
pub record Total : Type 0 where
  pub start : (L : Limits) (M : Modes) (o : Options) (map_room : List ℕ) → (x : started.Started) × StartedAs L M o map_room x
  pub call : (s : Recorder) (c : Call) → (x : Result) × (t : Recorder) × Allows s c x t
  pub tally : (t c : Counts) → (u : Counts) × (a : Answer) × TalliedAs t c u a
  pub narrow : (n : Bytes) (c : Option Change) (d : Bytes) → (x : narrow.Narrowed) × (d' : Bytes) × Narrows n c d x d'

-- ---- any two results that a promise allows are equal; work room and fragment room as far as they are used (docs/DECISIONS.md)
abbrev pub held_in : Recorder → Bytes
held_in s = take s.handed.held_count s.work

-- The heads of the fragments that are held; of those that lead, and of the others.
abbrev pub heads_in : Record → List ℕ
heads_in r = take r.fragment_count r.fragment_heads

abbrev pub leading_in : Record → List ℕ
leading_in r = take r.leading (heads_in r)

abbrev pub others_in : Record → List ℕ
others_in r = drop r.leading (heads_in r)

-- The bodies of those that lead stand at the front of the fragment room, the others' at its end.
abbrev pub bodies_in : Recorder → Bytes × Bytes
bodies_in s = (take (lens (leading_in s.handed)) s.bodies, drop (length s.bodies - lens (others_in s.handed)) s.bodies)

pub record Same (s t : Recorder) : Type 0 where
  pub handed_same : s.handed ≡ t.handed
  pub map_room_same : s.map_room ≡ t.map_room
  pub used_same : (held_in s ≡ held_in t) × (bodies_in s ≡ bodies_in t)
  pub lengths_same : (length s.work ≡ length t.work) × (length s.bodies ≡ length t.bodies)

pub record Unique : Type 0 where
  pub start : (L : Limits) (M : Modes) (o : Options) (map_room : List ℕ) (x y : started.Started) → StartedAs L M o map_room x → StartedAs L M o map_room y → x ≡ y
  pub series : (s t : Recorder) → Same s t → (cs : List Call) (xs ys : List Result) (u v : Recorder) → Series s cs xs u → Series t cs ys v → (xs ≡ ys) × Same u v
  pub tally : (t c u v : Counts) (a b : Answer) → TalliedAs t c u a → TalliedAs t c v b → (u ≡ v) × (a ≡ b)
  pub narrow : (n : Bytes) (c : Option Change) (d : Bytes) (x y : narrow.Narrowed) (e f : Bytes) → Narrows n c d x e → Narrows n c d y f → (x ≡ y) × (e ≡ f)

-- ---- demand 2: a push writes some of the packets that it accepts, in order, narrowed; each is as long as its head says, so that bytes split into
-- packets in one way only; and all that narrowing changes can be recounted: entries, counts, lengths, what stayed and what went
abbrev pub accepted : Recorder → Bytes → List Bytes
accepted s chunk = (cut (packet_limit (length s.work)) (held_in s ++ chunk)).packets

pub record Recount : Type 0 where
  pub packets : (s : Recorder) (chunk out : Bytes) (x : pushed.Pushed) (out' : Bytes) (t : Recorder) → Allows s (Push chunk out) (Pushed x out') t
      → copies_all s.handed.options ≡ false → let y = take x.counts.bytes out' in
      (flatten (packets_of y) ≡ y) × Sized (packets_of y) × (x.counts.written ≡ length (packets_of y)) × Written s.handed.modes s.handed.options (accepted s chunk) (packets_of y) x.counts.rewritten
  pub one_way : (ps qs : List Bytes) → Sized ps → Sized qs → flatten ps ≡ flatten qs → ps ≡ qs
  pub table : (o : Options) (t d : Bytes) (x : narrow.Narrowed) (d' : Bytes) (c : Change) → Narrows t (change_table o t) d x d' → change_told x d' ≡ some c → TableAlone o t c
  pub payload : (o : Options) (p : ℕ) (s d : Bytes) (x : narrow.Narrowed) (d' : Bytes) (c : Change) → Narrows s (change_payload o p s) d x d' → change_told x d' ≡ some c
      → PayloadRecounted o p s c.out c.stays c.goes
  pub packet : (M : Modes) (o : Options) (p d : Bytes) (x : narrow.Narrowed) (d' : Bytes) (c : Change) → Narrows p (change_packet M o p) d x d' → change_told x d' ≡ some c → PacketRecounted o p c

-- ---- demand 3: of two series, freshly started with the same limits, the same modes and equal rooms, given the same chunks and outputs of equal length,
pub record Beside (L : Limits) (M : Modes) (o₁ o₂ : Options) (xs₁ xs₂ : List Result) : Type 0 where
  pub begin : (s₁ : Recorder) × (s₂ : Recorder) × Begun L M o₁ s₁ × Begun L M o₂ s₂ × (s₁.work ≡ s₂.work) × (s₁.bodies ≡ s₂.bodies) × (s₁.map_room ≡ s₂.map_room)
  pub calls : (cs₁ : List Call) × (cs₂ : List Call) × (map given cs₁ ≡ map given cs₂)
  pub series₁ : (t : Recorder) × Series begin.0 calls.0 xs₁ t
  pub series₂ : (t : Recorder) × Series begin.1 calls.1 xs₂ t

-- the first's packets come, in order, from the second's, each narrowed by the first's wishes; and the same calls are refused by the same numbers.
abbrev pub LessIsLess : Type 0
LessIsLess =
    (L : Limits) (M : Modes) (o₁ o₂ : Options) (xs₁ xs₂ : List Result) → Beside L M o₁ o₂ xs₁ xs₂ → Fewer o₁ o₂ → copies_all o₁ ≡ false → copies_all o₂ ≡ false
    → Thinned (narrowed_packet M o₁) (recording xs₁) (recording xs₂) × (map (λ x. (told x).0) xs₁ ≡ map (λ x. (told x).0) xs₂)

-- ---- in the user's words
abbrev pub without_captions : Options → Options
without_captions o = record { service = o.service; caption = false; carousel = o.carousel; eit = o.eit; other = o.other }

pub record InWords : Type 0 where
  -- the clean recording is the captioned one less its captions
  pub clean : (L : Limits) (M : Modes) (o : Options) (xs₁ xs₂ : List Result) → Beside L M (without_captions o) o xs₁ xs₂ → copies_all o ≡ false
      → Thinned (narrowed_packet M (without_captions o)) (recording xs₁) (recording xs₂)
  -- a recording of captions and tables is any that has captions, of the same service, less all else: 02 [1]
  pub captions_and_tables : (L : Limits) (M : Modes) (o : Options) (xs₁ xs₂ : List Result) → Beside L M (captions_only o.service) o xs₁ xs₂ → o.caption ≡ true → copies_all o ≡ false
      → Thinned (narrowed_packet M (captions_only o.service)) (recording xs₁) (recording xs₂)
  -- nothing is lost silently: held before + chunk = accepted packets' bytes + skipped + held after, and `lost` counts each MPT that finds no place
  pub nothing_lost : (s : Recorder) (chunk out : Bytes) (x : pushed.Pushed) (out' : Bytes) (t : Recorder) → Allows s (Push chunk out) (Pushed x out') t
      → answer_number x.answer ≡ 0 → copies_all s.handed.options ≡ false → let k = (state_of s.handed s.work s.bodies s.map_room).known in
      (x.counts.accepted ≡ length (accepted s chunk))
      × (s.handed.held_count + length chunk ≡ length (flatten (accepted s chunk)) + x.counts.skipped + t.handed.held_count)
      × (x.counts.lost ≡ lost_of (firsts k.map_heads) (observed_mpts s.handed.limits k (accepted s chunk)))

-- ---- 01's starred examples: the tables of 1 to 10, each into every output that is long enough; 11, one chunk; and 12, two
pub record Starred : Type 0 where
  pub tables : (e : Example) → Memᴰ e starred_tables → (d : Bytes) (x : narrow.Narrowed) (d' : Bytes) → length e.table ≤ length d
      → Narrows e.table (change_table e.options e.table) d x d' → change_told x d' ≡ e.change
  pub one : (L : Limits) (M : Modes) (s t : Recorder) (c d : Bytes) (x : pushed.Pushed) → Begun L M no_captions s → Allows s (Push (packet12 ++ (0x00 ∷ [])) c) (Pushed x d) t → 6 ≤ length c
      → (x.counts.skipped ≡ 3) × (held_in t ≡ 0x01 ∷ 0xAA ∷ 0x00 ∷ [])
  pub two : (L : Limits) (M : Modes) (s t u : Recorder) (c d e f : Bytes) (x y : pushed.Pushed) → Begun L M no_captions s → Allows s (Push packet12 c) (Pushed x d) t → 5 ≤ length c
      → Allows t (Push (0x00 ∷ []) e) (Pushed y f) u → 1 ≤ length e → (x.counts.accepted ≡ 1) × (take x.counts.bytes d ≡ packet12) × (held_in u ≡ 0x00 ∷ [])
