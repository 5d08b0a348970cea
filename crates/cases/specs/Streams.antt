-- What the head of a stream asks for, whether lengths fit, and the bytes before those of a call: docs/ARCHITECTURE.md, "Format of cases
-- and answers".
use Rattle.std.specs.Prelude.{ℕ, ◌+◌, ◌*◌, ◌≤◌, ◌<◌, ◌≡◌, Bool, true, false, ◌&&◌, List, [], ◌∷◌, ◌++◌, leb, get_or, Option, IfSome}
use Rattle.meaning.specs.Bytes.{Bytes, be16_at, be32_at, put32}
use Rattle.meaning.specs.Record.{Record}
use Rattle.meaning.specs.Programs.{options_of}
use Rattle.meaning.specs.declared.Counts.{Counts}
use Rattle.recorder.specs.declared.Filter.{Filter}
use Rattle.recorder.specs.declared.Pushed.{Pushed}
use Rattle.recorder.specs.Calls.{PushedAs}
use Rattle.cases.specs.declared.streams.Asked.{Asked}
use Rattle.cases.specs.Answers.{three_bytes, modes_of}

-- Flags or wishes first; from an offset on service, W, T, M and the length of the map room. Output and number of calls stand elsewhere.
unfoldable pub asked_at : Bytes → ℕ → ℕ → ℕ → ℕ → Asked
unfolding modes_of
asked_at s at modes out calls = record {
  options = options_of (get_or s 0 0) (be16_at s at);
  modes = modes_of modes;
  work = be32_at s (at + 2);
  total = be32_at s (at + 6);
  most = be32_at s (at + 10);
  map_room = be32_at s (at + 14);
  out = out;
  calls = calls;
}

-- Whether it fits the program's rooms, by their lengths: work room, fragment room, map room, output.
unfoldable pub head_fits : Asked → ℕ → ℕ → ℕ → ℕ → Bool
head_fits h work total map_room out =
    leb h.work work && leb h.total total && leb h.map_room map_room && leb h.out out && leb h.calls 1024

-- Then each part that is asked for lies in its room, and there are no more calls than the program has lengths for.
pub record Fits (h : Asked) : Type 0 where
  pub work_fits : h.work ≤ 131200
  pub total_fits : h.total ≤ 1048576
  pub map_room_fits : h.map_room ≤ 33000
  pub out_fits : h.out ≤ 262400
  pub calls_fit : h.calls ≤ 1024

-- Each of the first n lengths is at most `most`.
pub record LengthsFit (s : Bytes) (n most : ℕ) : Type 0 where
  pub each : (i : ℕ) → i < n → be32_at s (4 * i) ≤ most

-- What is told of them: that they fit, or that they do not.
abbrev pub FitTold : Bool → Bytes → ℕ → ℕ → Type 0
FitTold true s n most = LengthsFit s n most
FitTold false s n most = LengthsFit s n most → ⊥

-- Of a call: the refusal's number, the counts, and what is held after it.
unfoldable pub call_bytes : ℕ → Counts → ℕ → Bytes
call_bytes number c held_count =
    (number ∷ [])
    ++ (three_bytes c.bytes c.accepted c.written
    ++ (three_bytes c.rewritten c.skipped held_count
    ++ put32 c.lost))

-- What a push promises, with the record that it hands back.
abbrev pub CallAs : Record → Bytes → Bytes → List ℕ → Bytes → Bytes → Option Filter → Bytes → Bytes → List ℕ → Bytes → Type 0
CallAs r work bodies map_room chunk out f work' bodies' map_room' out' =
    (x : Pushed) × PushedAs r work bodies map_room chunk out x work' bodies' map_room' out' × IfSome f (λ g. g ≡ x.filter)
