-- How far a run has come: arrays, rooms, set, counts and output are those of the definition's `pass` over the packets so far.
use Rattle.std.specs.Prelude.{ℕ, ◌+◌, ◌-◌, ◌*◌, ◌≤◌, ◌≡◌, Bool, true, false, cond, not, ◌&&◌, ◌||◌, length, drop, eqb, Some, None}
use Rattle.std.specs.Prelude as code
use mathlib.Core.List.{List, ◌++◌, flatten}
use Rattle.std.proofs.Math.Option.{Option, none, get_or}
use Rattle.meaning.specs.Bytes.{Bytes}
use Rattle.meaning.specs.Writing.{Wrote}
use Rattle.meaning.specs.Sets.{Words}
use Rattle.meaning.specs.Lists.{is_some}
use Rattle.meaning.specs.Packets.{step_of, cut}
use Rattle.meaning.specs.Narrow.{narrow_payload}
use Rattle.meaning.specs.Learn.{Known}
use Rattle.meaning.specs.Leading.{leading_over}
use Rattle.meaning.specs.Rules.{drops, ready}
use Rattle.meaning.specs.Push.{Passed, pass}
use Rattle.meaning.specs.declared.Limits.{Limits}
use Rattle.meaning.specs.declared.Service.{Service}
use Rattle.meaning.specs.declared.Options.{Options}
use Rattle.meaning.specs.declared.Modes.{Modes}
use Rattle.meaning.specs.declared.Step.TheVariants.{Keep}
use Rattle.meaning.specs.declared.Counts.{Counts}
use Rattle.learning.specs.News.{lists_service}
use Rattle.learning.specs.declared.Extent.{Extent}
use Rattle.learning.specs.declared.Kept.{Kept}
use Rattle.learning.specs.declared.News.{News}
use Rattle.observing.specs.Steps.{KeepsIn}
use Rattle.observing.specs.Observed.{Holding}
use Rattle.rules.specs.Changes.{SetIs}
use Rattle.passing.specs.declared.Terms.{Terms}
use Rattle.passing.specs.declared.Progress.{Progress}
use Rattle.passing.specs.declared.Scanned.{Scanned}
use Rattle.passing.specs.declared.Ahead.{Ahead}
use Rattle.passing.specs.Verdicts.{SignalsSome, ahead, PacketTo, packet_at}

-- ---- one signalling packet

-- Whether the wanted service may stand in a PLT of the payload: where nothing changed its packages are those that are known, if all are
-- listed.
abbrev pub cuts_plt : Service → ℕ → News → List (ℕ × ℕ) → Bool
cuts_plt Service.Every id n ps = false
cuts_plt (Service.Only s) id n ps = eqb id 0 && (n.changed || (n.unlisted || lists_service s ps))

-- Whether a wish is against anything that stands in a payload's tables.
unfoldable pub cuts : Options → ℕ → News → List (ℕ × ℕ) → Bool
unfolding lists_service
cuts o id n ps = (n.other && not o.other) || ((n.caption && not o.caption) || ((n.carousel && not o.carousel) || cuts_plt o.service id n ps))

-- Else narrowing leaves the payload.
abbrev pub Spares : Options → ℕ → News → List (ℕ × ℕ) → Bytes → Type 0
Spares o id n ps payload = cuts o id n ps ≡ false → narrow_payload o id payload ≡ none

-- Withheld, it is taken in; else it is written, narrowed where narrowing changes it.
abbrev pub Emitted : Bool → Option Bytes → Bytes → Counts → Bytes → Counts → Bytes → Type 0
Emitted true y p c d r d' =
    (r ≡ record c { accepted = c.accepted + 1 }) × (d' ≡ d)
Emitted false y p c d r d' =
    (r ≡ record c { bytes = r.bytes; accepted = c.accepted + 1; written = c.written + 1; rewritten = c.rewritten + cond (is_some y) 1 0 })
    × Wrote (get_or y p) d c.bytes d' r.bytes

-- There is room for one packet more, of n bytes.
abbrev pub FitsOne : Counts → ℕ → ℕ → Type 0
FitsOne c n out_length =
    (c.bytes + n ≤ out_length) × (c.accepted + 1 ≤ 18446744073709551615) × (c.written + 1 ≤ 18446744073709551615) × (c.rewritten + 1 ≤ 18446744073709551615)

-- The set and readiness are worked out anew, or stay.
abbrev pub Refreshed : Bool → Options → Extent → Bool → Kept → List ℕ → Words → Bool → Words → Type 0
Refreshed true o e was kept map_room set r set' =
    (k : Known) → KeepsIn k e kept map_room → SetIs (drops o k) set' × (r ≡ ready o.service k)
Refreshed false o e was kept map_room set r set' = (r ≡ was) × (set' ≡ set)

-- ---- how far a run has come

-- There is room for what n more bytes may bring: each packet has a byte at least, and loses no more maps than it and the fragment room
-- have bytes.
pub record Fits (s : Progress) (n out_length : ℕ) : Type 0 where
  pub bytes_fit : s.counts.bytes + n ≤ out_length
  pub accepted_fit : s.counts.accepted + n ≤ 18446744073709551615
  pub written_fit : s.counts.written + n ≤ 18446744073709551615
  pub rewritten_fit : s.counts.rewritten + n ≤ 18446744073709551615
  pub skipped_fit : s.counts.skipped + n ≤ 18446744073709551615
  pub lost_fit : s.extent.lost + n * 16777217 ≤ 18446744073709551615

-- Where there was room for m bytes more, behind these, there still is.
abbrev pub FitsMore : Progress → ℕ → ℕ → Progress → ℕ → ℕ → Type 0
FitsMore s n out_length r n' out_length' = (m : ℕ) → Fits s (n + m) out_length → Fits r (n' + m) out_length'

-- The counts of packets that were passed; lost maps stand in the extent until the end of the call.
abbrev pub counts_for : Passed → ℕ → ℕ → Counts
counts_for x accepted skipped =
    record { bytes = length (flatten x.out); accepted = accepted; written = length x.out; rewritten = x.rewritten; skipped = skipped; lost = 0 }

-- From k, with so many fragments leading, over the packets ps and so many skipped bytes, with d as the output before.
pub record Sofar (L : Limits) (M : Modes) (o : Options) (k : Known) (leading : ℕ) (d : Bytes) (ps : List Bytes) (skipped : ℕ) (s : Progress) (kept : Kept) (map_room : List ℕ) (bodies : Bytes) (set : Words) (out : Bytes) : Type 0 where
  pub holding : Holding L.total (pass L M o k ps).known s.extent kept map_room bodies
  pub set_is : SetIs (drops o (pass L M o k ps).known) set
  pub ready_is : s.ready ≡ ready o.service (pass L M o k ps).known
  pub lost_is : s.extent.lost ≡ (pass L M o k ps).lost
  pub leading_is : s.extent.leading ≡ leading_over L k ps leading
  pub counts_are : s.counts ≡ counts_for (pass L M o k ps) (length ps) skipped
  pub written : Wrote (flatten (pass L M o k ps).out) d 0 out s.counts.bytes

abbrev pub SofarSome : Terms → Progress → Kept → List ℕ → Bytes → Words → Bytes → Type 0
SofarSome t s kept map_room bodies set out =
    (L : Limits) × (k : Known) × (leading : ℕ) × (d : Bytes) × (ps : List Bytes) × (n : ℕ) × (L.most ≡ t.most)
    × Sofar L t.modes t.options k leading d ps n s kept map_room bodies set out

-- Whatever run it was, it has come further by these packets and skipped bytes.
abbrev pub SofarAfter : List Bytes → ℕ → Terms → Progress → Kept → List ℕ → Bytes → Words → Bytes
    → Progress → Kept → List ℕ → Bytes → Words → Bytes → Type 0
SofarAfter qs m t s kept map_room bodies set out r kept' map_room' bodies' set' out' =
    (L : Limits) (k : Known) (leading : ℕ) (d : Bytes) (ps : List Bytes) (n : ℕ) → L.most ≡ t.most
    → Sofar L t.modes t.options k leading d ps n s kept map_room bodies set out
    → Sofar L t.modes t.options k leading d (ps ++ qs) (n + m) r kept' map_room' bodies' set' out'

-- ---- the steps by number

abbrev pub with_skipped : Progress → ℕ → Progress
with_skipped s n = record s { counts = record s.counts { skipped = s.counts.skipped + n } }

abbrev pub with_withheld : Progress → Progress
with_withheld s = record s { counts = record s.counts { accepted = s.counts.accepted + 1 } }

-- A row of so many packets, written up to `bytes`.
abbrev pub with_row : Progress → ℕ → ℕ → Progress
with_row s count bytes =
    record s { counts = record s.counts { bytes = bytes; accepted = s.counts.accepted + count; written = s.counts.written + count } }

-- ---- packets that teach nothing

-- What stands behind them: a signalling packet, or bytes to keep.
abbrev pub AheadIs : ℕ → Bytes → ℕ → code.Option Ahead → Type 0
AheadIs limit run at None = step_of limit (drop at run) ≡ Keep
AheadIs limit run at (Some a) = PacketTo limit run at a.end × SignalsSome (packet_at run at a.end) a.signal.id a.signal.rewritable

-- From one offset of a run to another: whatever was learned before stays, and whatever run it was has come further.
pub record Along (run : Bytes) (from : ℕ) (t : Terms) (s : Progress) (set : Words) (out : Bytes) (r : Progress) (at : ℕ) (out' : Bytes) : Type 0 where
  pub packets : List Bytes
  pub skipped : ℕ
  pub forth : from ≤ at
  pub inside : at ≤ length run
  pub cut_is : cut t.limit (drop from run) ≡ ahead packets skipped (cut t.limit (drop at run))
  pub moved : (kept : Kept) (map_room : List ℕ) (bodies : Bytes)
      → SofarAfter packets skipped t s kept map_room bodies set out r kept map_room bodies set out'
  pub fits : Fits r (length run - at) (length out')
  pub fits_more : FitsMore s (length run - from) (length out) r (length run - at) (length out')

-- ---- a run

-- All its packets, and where the bytes to keep begin.
abbrev pub ScannedAs : Bytes → Terms → Progress → Kept → List ℕ → Bytes → Words → Bytes
    → Scanned → Kept → List ℕ → Bytes → Words → Bytes → Type 0
ScannedAs run t s kept map_room bodies set out r kept' map_room' bodies' set' out' =
    SofarAfter (cut t.limit run).packets (cut t.limit run).skipped t s kept map_room bodies set out
    r.progress kept' map_room' bodies' set' out'
    × (drop r.at run ≡ (cut t.limit run).held) × (r.at ≤ length run)
    × FitsMore s (length run) (length out) r.progress (length run - r.at) (length out')
