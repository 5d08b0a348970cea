-- A whole call: it begins with nothing passed, and over held bytes and chunk it comes to what the definition's `filtered` says. Rests on
-- specs/Passing.
use Prim.Native.Nat.{ℕ, ◌+◌, ◌≤◌}
use mathlib.Core.Path.{◌≡◌, refl, sym, ap, ap₂, ◌∙◌, subst}
use mathlib.Core.Bool.{Bool}
use mathlib.Core.List.{List, [], ◌++◌, flatten}
use native.Mathlib.Omega.{arith}
use lib.ListN.{length, drop}
use Rattle.meaning.specs.Bytes.{Bytes}
use Rattle.meaning.specs.Writing.{Wrote}
use Rattle.meaning.specs.Sets.{Words}
use Rattle.meaning.specs.Packets.{Cut, cut}
use Rattle.meaning.specs.Rooms.{packet_limit}
use Rattle.meaning.specs.Learn.{Known}
use Rattle.meaning.specs.Rules.{drops, ready}
use Rattle.meaning.specs.Record.{State}
use Rattle.meaning.specs.Calls.{counts_of}
use Rattle.meaning.specs.Leading.{leading_over}
use Rattle.meaning.specs.Push.{Passed, pass, Outcome, outcome, filtered}
use Rattle.meaning.specs.declared.Limits.{Limits}
use Rattle.meaning.specs.declared.Options.{Options}
use Rattle.meaning.specs.declared.Modes.{Modes}
use Rattle.meaning.specs.declared.Counts.{Counts}
use Rattle.meaning.proofs.Writes.{wrote_none}
use Rattle.learning.specs.declared.Extent.{Extent}
use Rattle.learning.specs.declared.Kept.{Kept}
use Rattle.observing.specs.Observed.{Holding}
use Rattle.rules.specs.Changes.{SetIs}
use Rattle.passing.specs.declared.Progress.{Progress}
use Rattle.passing.specs.Passing.{Fits, Sofar}

-- The progress of a call that begins.
abbrev pub begun : Extent → Bool → Progress
begun e is = record { extent = e; counts = counts_of 0; ready = is }

module _ (L : Limits) (M : Modes) (o : Options) (k : Known) (d : Bytes) where
  pub begins : (e : Extent) (is : Bool) (kept : Kept) (map_room : List ℕ) (bodies : Bytes) (set : Words)
      → Holding L.total k e kept map_room bodies → SetIs (drops o k) set → is ≡ ready o.service k → e.lost ≡ 0
      → Sofar L M o k e.leading d [] 0 (begun e is) kept map_room bodies set d
  unfolding pass flatten leading_over
  begins e is kept map_room bodies set h t y l =
      record { holding = h; set_is = t; ready_is = y; lost_is = l; leading_is = refl; counts_are = refl; written = wrote_none d 0 }

  -- With its lost maps, the counts of a call that ends.
  abbrev pub ended : Progress → Counts
  ended p = record {
    bytes = p.counts.bytes;
    accepted = p.counts.accepted;
    written = p.counts.written;
    rewritten = p.counts.rewritten;
    skipped = p.counts.skipped;
    lost = p.extent.lost;
  }

  -- What a call over held bytes and chunk comes to.
  pub record Ended (x : Outcome) (leading : ℕ) (p : Progress) (kept : Kept) (map_room : List ℕ) (bodies out : Bytes) : Type 0 where
    pub holding : Holding L.total x.state.known p.extent kept map_room bodies
    pub leading_is : p.extent.leading ≡ leading
    pub counts_are : ended p ≡ x.counts
    pub written : Wrote (flatten x.out) d 0 out x.counts.bytes

  module _ (held chunk run : Bytes) (limit : ℕ) (e : run ≡ held ++ chunk) (q : limit ≡ packet_limit L.work) where
    abbrev st : State
    st = record { held = held; known = k }

    cut_same : cut (packet_limit L.work) (held ++ chunk) ≡ cut limit (drop 0 run)
    cut_same = ap₂ cut (sym q) (sym e)

    pub held_same : (cut limit (drop 0 run)).held ≡ (filtered L M o st chunk).state.held
    unfolding filtered
    held_same = ap (λ (c : Cut). c.held) (sym cut_same)

    pub ends : (leading : ℕ) (p : Progress) (kept : Kept) (map_room : List ℕ) (bodies : Bytes) (set : Words) (out : Bytes)
        → Sofar L M o k leading d ([] ++ (cut limit (drop 0 run)).packets) (0 + (cut limit (drop 0 run)).skipped) p kept map_room bodies set out
        → Ended (filtered L M o st chunk) (leading_over L k (cut (packet_limit L.work) (held ++ chunk)).packets leading) p kept map_room bodies out
    unfolding filtered
    ends leading p kept map_room bodies set out f =
        let c : Cut = cut limit (drop 0 run) in
        let x : Passed = pass L M o k c.packets in
        let z : 0 + c.skipped ≡ c.skipped = omega arith in
        let counts : ended p ≡ (outcome c x).counts =
        λ i. record {
          bytes = (f.counts_are i).bytes;
          accepted = (f.counts_are i).accepted;
          written = (f.counts_are i).written;
          rewritten = (f.counts_are i).rewritten;
          skipped = (ap (λ (w : Counts). w.skipped) f.counts_are ∙ z) i;
          lost = f.lost_is i;
        } in
        let b : p.counts.bytes ≡ length (flatten x.out) = ap (λ (w : Counts). w.bytes) f.counts_are in
        rw cut_same (record { holding = f.holding; leading_is = f.leading_is; counts_are = counts; written = subst (λ (n : ℕ). Wrote (flatten x.out) d 0 out n) b f.written })

-- Room for a whole call: it begins with zero counts.
pub begins_fit : (e : Extent) (is : Bool) (n out_length : ℕ) → e.lost ≡ 0 → n ≤ out_length → n ≤ 131078 → Fits (begun e is) n out_length
begins_fit e is n out_length l h w = record {
  bytes_fit = omega arith;
  accepted_fit = omega arith;
  written_fit = omega arith;
  rewritten_fit = omega arith;
  skipped_fit = omega arith;
  lost_fit = omega arith;
}
