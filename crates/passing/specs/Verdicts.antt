-- What becomes of a packet by its head, the drop set and readiness; rows of packets that go out as they are.
use Rattle.std.specs.Prelude.{ℕ, ◌+◌, ◌-◌, ◌≤◌, ◌<◌, ◌≡◌, Bool, true, false, not, ◌||◌, length, take, drop}
use mathlib.Core.List.{List, [], ◌∷◌, ◌++◌, flatten}
use Rattle.std.proofs.Math.Option.{Option, none, some}
use Rattle.meaning.specs.Bytes.{Bytes}
use Rattle.meaning.specs.Sets.{Words, in_set}
use Rattle.meaning.specs.Packets.{step_of, Cut, cut}
use Rattle.meaning.specs.Mmtp.{Mmtp, mmtp_of, is_signalling}
use Rattle.meaning.specs.declared.Step.TheVariants.{Packet, Skip, Keep}
use Rattle.passing.specs.declared.Verdict.{Verdict}
use Rattle.passing.specs.declared.Stop.{Stop}
use Rattle.passing.specs.declared.Row.{Row}

-- ---- one packet

abbrev pub signals : Option Mmtp → Bool
signals none = false
signals (some m) = is_signalling m

-- Withheld, if it is no signalling. What was not read passes.
abbrev pub stopped : Option Mmtp → Words → Bool → Bool
stopped none ws ready = false
stopped (some m) ws ready = in_set ws m.identifier || not ready

-- No signalling; withheld or not.
pub record Plain (p : Bytes) (ws : Words) (ready stop : Bool) : Type 0 where
  pub other : signals (mmtp_of p) ≡ false
  pub fate : stopped (mmtp_of p) ws ready ≡ stop

-- Signalling, with its payload behind the header.
pub record Signals (p payload : Bytes) (id : ℕ) (w : Bool) : Type 0 where
  pub behind_header : 16 + length payload ≤ length p
  pub identifier_fits : id < 65536
  pub read : mmtp_of p ≡ some (record { identifier = id; payload_type = 2; rewritable = w; payload = payload })

abbrev pub SignalsSome : Bytes → ℕ → Bool → Type 0
SignalsSome p id w = (payload : Bytes) × Signals p payload id w

abbrev pub VerdictIs : Bytes → Words → Bool → Verdict → Type 0
VerdictIs p ws ready Verdict.Pass = Plain p ws ready false
VerdictIs p ws ready Verdict.Withhold = Plain p ws ready true
VerdictIs p ws ready (Verdict.Signalling s) = SignalsSome p s.id s.rewritable

-- ---- a row

abbrev pub AllPass : Words → Bool → List Bytes → Type 0
AllPass ws ready [] = Unit {0}
AllPass ws ready (p ∷ ps) = Plain p ws ready false × AllPass ws ready ps

-- Packets and skipped bytes before a cut.
abbrev pub ahead : List Bytes → ℕ → Cut → Cut
ahead ps n c = record { packets = ps ++ c.packets; skipped = n + c.skipped; held = c.held }

-- A packet from `at` to `end`.
pub record PacketTo (limit : ℕ) (run : Bytes) (at end : ℕ) : Type 0 where
  pub forth : at < end
  pub inside : end ≤ length run
  pub step : step_of limit (drop at run) ≡ Packet (end - at)

abbrev pub packet_at : Bytes → ℕ → ℕ → Bytes
packet_at run at end = take (end - at) (drop at run)

abbrev pub StopIs : ℕ → Words → Bool → Bytes → ℕ → ℕ → Stop → Type 0
StopIs limit ws ready run from at Stop.Keep = step_of limit (drop at run) ≡ Keep
StopIs limit ws ready run from at Stop.More = from < at
StopIs limit ws ready run from at Stop.Skip = step_of limit (drop at run) ≡ Skip
StopIs limit ws ready run from at (Stop.Withhold end) = PacketTo limit run at end × Plain (packet_at run at end) ws ready true
StopIs limit ws ready run from at (Stop.Signalling a) =
    PacketTo limit run at a.end × SignalsSome (packet_at run at a.end) a.signal.id a.signal.rewritable

-- `count` packets that go out as they are, from one offset to another.
pub record Rowing (limit : ℕ) (ws : Words) (ready : Bool) (run : Bytes) (from at count : ℕ) : Type 0 where
  pub packets : List Bytes
  pub forth : from ≤ at
  pub inside : at ≤ length run
  pub many : count ≡ length packets
  pub few : from + count ≤ at
  pub all_pass : AllPass ws ready packets
  pub bytes_are : flatten packets ≡ packet_at run from at
  pub cut_is : cut limit (drop from run) ≡ ahead packets 0 (cut limit (drop at run))

pub record RowIs (limit : ℕ) (ws : Words) (ready : Bool) (run : Bytes) (from : ℕ) (r : Row) : Type 0 where
  pub row : Rowing limit ws ready run from r.end r.count
  pub stop_is : StopIs limit ws ready run from r.end r.stop
