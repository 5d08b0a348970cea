-- What a call does with held bytes and chunk, by what stands at their front, and how far its parts come.
use Rattle.std.specs.Prelude.{ℕ, ◌+◌, ◌-◌, ◌≤◌, ◌≡◌, cond, Option, Some, None, List, ◌++◌, length, take, drop, eqb, ltb}
use Rattle.meaning.specs.Bytes.{Bytes}
use Rattle.meaning.specs.Sets.{Words}
use Rattle.meaning.specs.Packets.{Cut, cut}
use Rattle.meaning.specs.Learn.{Known}
use Rattle.meaning.specs.Rules.{drops, ready}
use Rattle.meaning.specs.Calls.{counts_of}
use Rattle.meaning.specs.declared.Limits.{Limits}
use Rattle.meaning.specs.declared.Options.{Options}
use Rattle.meaning.specs.declared.Step.{Step}
use Rattle.meaning.specs.declared.Step.TheVariants.{Packet, Skip, Keep}
use Rattle.learning.specs.Kept.{Keeps}
use Rattle.learning.specs.declared.Extent.{Extent}
use Rattle.learning.specs.declared.Kept.{Kept}
use Rattle.observing.specs.Observed.{Holding}
use Rattle.rules.specs.Changes.{SetIs}
use Rattle.passing.specs.Passing.{Sofar}
use Rattle.passing.specs.declared.Terms.{Terms}
use Rattle.passing.specs.declared.Progress.{Progress}
use Rattle.recorder.specs.declared.call.InParts.{InParts}
use Rattle.recorder.specs.declared.call.CarriedOut.{CarriedOut}

-- By the step at the front of the run, with n bytes held and m in the chunk: how many bytes of the chunk are put behind the held ones, none where
-- no packet is whole. Where none are held the chunk is the run.
abbrev pub front_by : Step → ℕ → ℕ → Option ℕ
front_by Keep n m = None
front_by Skip n m = cond (eqb n 0) (Some 0) (Some m)
front_by (Packet size) n m = cond (eqb n 0) (Some 0) (cond (ltb size n) (Some m) (Some (size - n)))

-- Two runs cut one behind the other.
abbrev pub joined : Cut → Cut → Cut
joined c d = record { packets = c.packets ++ d.packets; skipped = c.skipped + d.skipped; held = c.held ++ d.held }

-- A run in two parts that can be read apart.
abbrev pub Parted : ℕ → Bytes → Bytes → Type 0
Parted P a b = cut P (a ++ b) ≡ joined (cut P a) (cut P b)

-- Before the first packet: set and readiness are those of what is known, and nothing is counted.
pub record DecidedAs (o : Options) (e : Extent) (data_set packages map_heads map_room : List ℕ) (set : Words) (r : Progress) : Type 0 where
  pub extent_is : r.extent ≡ e
  pub counts_are : r.counts ≡ counts_of 0
  pub set_is : (k : Known) → Keeps k e data_set packages map_heads map_room → SetIs (drops o k) set
  pub ready_is : (k : Known) → Keeps k e data_set packages map_heads map_room → r.ready ≡ ready o.service k

-- Whatever was known, the packets of two parts are passed one after the other, and so much of each part is left.
pub record PartsPassed (first second : Bytes) (t : Terms) (e : Extent) (kept : Kept) (map_room : List ℕ) (bodies out : Bytes)
    (r : InParts) (kept' : Kept) (map_room' : List ℕ) (bodies' out' : Bytes) : Type 0 where
  pub passed : (L : Limits) (k : Known) → L.most ≡ t.most → Holding L.total k e kept map_room bodies
      → (set : Words) × Sofar L t.modes t.options k e.leading out (joined (cut t.limit first) (cut t.limit second)).packets (joined (cut t.limit first) (cut t.limit second)).skipped
      r.progress kept' map_room' bodies' set out'
  pub first_left : drop r.first_at first ≡ (cut t.limit first).held
  pub first_inside : r.first_at ≤ length first
  pub second_left : drop r.second_at second ≡ (cut t.limit second).held
  pub second_inside : r.second_at ≤ length second

-- What a run leaves: the lost maps of the call go to its counts.
abbrev pub ended_of : Progress → ℕ → CarriedOut
ended_of p held_count = record {
  extent = p.extent;
  counts = record {
    bytes = p.counts.bytes;
    accepted = p.counts.accepted;
    written = p.counts.written;
    rewritten = p.counts.rewritten;
    skipped = p.counts.skipped;
    lost = p.extent.lost;
  };
  held_count = held_count;
}

-- What is left of both parts stands at the front of the work room.
pub record HeldOn (x : InParts) (n : ℕ) (rest work : Bytes) (r : CarriedOut) (work' : Bytes) : Type 0 where
  pub ended_is : r ≡ ended_of x.progress (length (drop x.first_at (take n work) ++ drop x.second_at rest))
  pub held_bytes : take r.held_count work' ≡ drop x.first_at (take n work) ++ drop x.second_at rest
