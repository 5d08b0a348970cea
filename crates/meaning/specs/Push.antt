-- A push: what becomes of each packet, of a chunk, and what the call answers. 01, "Finding packets", "Keep, drop, ready".
use Rattle.std.specs.Prelude.{ℕ, ◌+◌, ◌-◌, Bool, cond, true, false, ◌&&◌, ◌||◌, not, length, eqb, leb}
use mathlib.Core.List.{List, [], ◌∷◌, ◌++◌, flatten}
use Rattle.std.proofs.Math.Option.{Option, none, some, get_or}
use Rattle.meaning.specs.Bytes.{Bytes}
use Rattle.meaning.specs.Lists.{is_some}
use Rattle.meaning.specs.Packets.{Cut, cut}
use Rattle.meaning.specs.Mmtp.{Mmtp, mmtp_of, is_signalling}
use Rattle.meaning.specs.Wishes.{copies_all}
use Rattle.meaning.specs.Narrow.{narrow_packet}
use Rattle.meaning.specs.Rooms.{packet_limit}
use Rattle.meaning.specs.Learn.{Known, learn}
use Rattle.meaning.specs.Rules.{drops, ready}
use Rattle.meaning.specs.Record.{State, Record, record_of, state_of}
use Rattle.meaning.specs.Leading.{leading_pushed}
use Rattle.meaning.specs.Soundness.{sound}
use Rattle.meaning.specs.Calls.{counts_of, Called}
use Rattle.meaning.specs.declared.Options.{Options}
use Rattle.meaning.specs.declared.Modes.{Modes}
use Rattle.meaning.specs.declared.Limits.{Limits}
use Rattle.meaning.specs.declared.Counts.{Counts}

-- ---- one packet, after it was learned from

-- It is dropped, or it is MMTP that is no signalling before the filter is ready. What was not read passes.
abbrev pub withheld : Options → Known → Option Mmtp → Bool
withheld o k none = false
withheld o k (some m) = drops o k m.identifier || (not (is_signalling m) && not (ready o.service k))

-- ---- packets in order

pub record Passed : Type 0 where
  pub out : List Bytes
  pub rewritten : ℕ
  pub lost : ℕ
  pub known : Known

abbrev pub none_passed : Known → Passed
none_passed k = record { out = []; rewritten = 0; lost = 0; known = k }

-- A packet that is written goes out narrowed.
abbrev pub pass_one : Bool → Option Bytes → Bytes → ℕ → Passed → Passed
pass_one true y p lost r = record { out = r.out; rewritten = r.rewritten; lost = lost + r.lost; known = r.known }
pass_one false y p lost r = record {
  out = get_or y p ∷ r.out;
  rewritten = cond (is_some y) 1 0 + r.rewritten;
  lost = lost + r.lost;
  known = r.known;
}

unfoldable pub pass : Limits → Modes → Options → Known → List Bytes → Passed
unfolding learn drops ready mmtp_of narrow_packet
pass L M o k [] = none_passed k
pass L M o k (p ∷ ps) =
    let l = learn L k p in
    pass_one (withheld o l.known (mmtp_of p)) (narrow_packet M o p) p l.lost (pass L M o l.known ps)

-- ---- a push

pub record Outcome : Type 0 where
  pub out : List Bytes
  pub counts : Counts
  pub state : State

-- Copy-all writes the chunk, holds and learns nothing.
abbrev pub copied : State → Bytes → Outcome
copied st chunk = record { out = chunk ∷ []; counts = counts_of (length chunk); state = st }

abbrev pub outcome : Cut → Passed → Outcome
outcome c r = record {
  out = r.out;
  counts = record {
    bytes = length (flatten r.out);
    accepted = length c.packets;
    written = length r.out;
    rewritten = r.rewritten;
    skipped = c.skipped;
    lost = r.lost;
  };
  state = record { held = c.held; known = r.known };
}

-- Held bytes and chunk are read as one run.
unfoldable pub filtered : Limits → Modes → Options → State → Bytes → Outcome
unfolding cut packet_limit pass flatten
filtered L M o st chunk =
    let c = cut (packet_limit L.work) (st.held ++ chunk) in
    outcome c (pass L M o st.known c.packets)

unfoldable pub push : Limits → Modes → Options → State → Bytes → Outcome
unfolding copies_all filtered
push L M o st chunk = cond (copies_all o) (copied st chunk) (filtered L M o st chunk)

-- ---- refusals of a push: the record with the lengths of the rooms, the chunk's length and the output's

unfoldable pub length_refusal : ℕ → ℕ → ℕ → ℕ → ℕ
unfolding packet_limit
length_refusal W held_count n out_length = cond (leb n (W - packet_limit W)) (cond (leb (held_count + n) out_length) 0 6) 5

unfoldable pub push_refusal : Record → ℕ → ℕ → ℕ → ℕ → ℕ → ℕ
unfolding sound length_refusal
push_refusal r W T map_length n out_length = cond (sound r W T map_length) (length_refusal W r.held_count n out_length) 4

-- ---- the call

-- A push takes the record and the rooms; refused, it hands the record back as it was.
unfoldable pub called : Record → Bytes → Bytes → List ℕ → Bytes → ℕ → Called
unfolding push_refusal state_of record_of push leading_pushed
called r work bodies map_room chunk out_length =
    let x = push_refusal r (length work) (length bodies) (length map_room) (length chunk) out_length in
    let st = state_of r work bodies map_room in
    let p = push r.limits r.modes r.options st chunk in
    let leading = leading_pushed r.limits r.options st chunk r.leading in
    cond (eqb x 0)
    (record { number = 0; out = p.out; counts = p.counts; handed = record_of r.limits r.modes r.options leading p.state })
    (record { number = x; out = []; counts = counts_of 0; handed = r })
