-- The definition's `pass` over packets and further packets; and how far a run has come when further packets were passed. Rests on
-- meaning's Writes.
use Prim.Native.Nat.{ℕ, ◌+◌}
use mathlib.Core.Path.{◌≡◌, refl, sym, ap, ◌∙◌}
use mathlib.Core.Bool.{Bool, true, false}
use mathlib.Core.List.{List, [], ◌∷◌, ◌++◌, flatten, append_assoc}
use mathlib.Core.Option.{Option}
use native.Mathlib.Omega.{arith}
use lib.ListN.{length, length-append}
use Rattle.meaning.specs.Bytes.{Bytes}
use Rattle.meaning.specs.Writing.{Wrote}
use Rattle.meaning.specs.Sets.{Words}
use Rattle.meaning.specs.Mmtp.{mmtp_of}
use Rattle.meaning.specs.Narrow.{narrow_packet}
use Rattle.meaning.specs.Learn.{Known, learn}
use Rattle.meaning.specs.Rules.{drops, ready}
use Rattle.meaning.specs.Leading.{leading_from, leading_over}
use Rattle.meaning.specs.Push.{Passed, pass_one, pass, withheld}
use Rattle.meaning.specs.declared.Limits.{Limits}
use Rattle.meaning.specs.declared.Options.{Options}
use Rattle.meaning.specs.declared.Modes.{Modes}
use Rattle.meaning.specs.declared.Counts.{Counts}
use Rattle.meaning.proofs.Writes.{wrote_then}
use Rattle.learning.specs.declared.Kept.{Kept}
use Rattle.observing.specs.Observed.{Holding}
use Rattle.rules.specs.Changes.{SetIs}
use Rattle.passing.specs.declared.Progress.{Progress}
use Rattle.passing.specs.Passing.{Sofar, counts_for}

-- ---- packets and further packets

abbrev pub chained : Passed → Passed → Passed
chained a b = record { out = a.out ++ b.out; rewritten = a.rewritten + b.rewritten; lost = a.lost + b.lost; known = b.known }

chained_none : (k : Known) (x : Passed) → x ≡ chained (record { out = []; rewritten = 0; lost = 0; known = k }) x
chained_none k x =
    let r : x.rewritten ≡ 0 + x.rewritten = omega arith in
    let l : x.lost ≡ 0 + x.lost = omega arith in
    λ i. record { out = x.out; rewritten = r i; lost = l i; known = x.known }

one_chained : (w : Bool) (y : Option Bytes) (p : Bytes) (n : ℕ) (a b : Passed) → pass_one w y p n (chained a b) ≡ chained (pass_one w y p n a) b
one_chained true y p n a b =
    let l : n + (a.lost + b.lost) ≡ n + a.lost + b.lost = omega arith in
    λ i. record { out = a.out ++ b.out; rewritten = a.rewritten + b.rewritten; lost = l i; known = b.known }
one_chained false y p n a b =
    let x = pass_one false y p n a in
    let z = pass_one false y p n (chained a b) in
    let r : z.rewritten ≡ x.rewritten + b.rewritten = omega arith in
    let l : n + (a.lost + b.lost) ≡ n + a.lost + b.lost = omega arith in
    λ i. record { out = x.out ++ b.out; rewritten = r i; lost = l i; known = b.known }

module _ (L : Limits) (M : Modes) (o : Options) where
  pub pass_append : (k : Known) (ps qs : List Bytes) → pass L M o k (ps ++ qs) ≡ chained (pass L M o k ps) (pass L M o (pass L M o k ps).known qs)
  unfolding pass
  pass_append k [] qs = chained_none k (pass L M o k qs)
  pass_append k (p ∷ ps) qs =
      let l = learn L k p in
      let w = withheld o l.known (mmtp_of p) in
      let rest = pass L M o l.known ps in
      ap (pass_one w (narrow_packet M o p) p l.lost) (pass_append l.known ps qs)
      ∙ one_chained w (narrow_packet M o p) p l.lost rest (pass L M o rest.known qs)
      ∙ ap (λ (x : Known). chained (pass_one w (narrow_packet M o p) p l.lost rest) (pass L M o x qs)) (same w rest)
    where
      same : (w : Bool) (x : Passed) → x.known ≡ (pass_one w (narrow_packet M o p) p (learn L k p).lost x).known
      same true x = refl
      same false x = refl

-- How many fragments lead, over packets and further packets.
pub leading_append : (L : Limits) (M : Modes) (o : Options) (k : Known) (ps qs : List Bytes) (leading : ℕ)
    → leading_over L k (ps ++ qs) leading ≡ leading_over L (pass L M o k ps).known qs (leading_over L k ps leading)
unfolding leading_over pass
leading_append L M o k [] qs leading = refl
leading_append L M o k (p ∷ ps) qs leading =
    let l = learn L k p in
    let now = leading_from L (mmtp_of p) k leading in
    leading_append L M o l.known ps qs now
    ∙ ap (λ (x : Known). leading_over L x qs (leading_over L l.known ps now)) (same (withheld o l.known (mmtp_of p)) (pass L M o l.known ps))
  where
    same : (w : Bool) (x : Passed) → x.known ≡ (pass_one w (narrow_packet M o p) p (learn L k p).lost x).known
    same true x = refl
    same false x = refl

pub flatten_append : (a b : List Bytes) → flatten (a ++ b) ≡ flatten a ++ flatten b
unfolding flatten
flatten_append [] b = refl
flatten_append (x ∷ a) b = ap (λ (z : Bytes). x ++ z) (flatten_append a b) ∙ sym (append_assoc x (flatten a) (flatten b))

-- ---- further

-- The counts after packets that passed as x, and m skipped bytes, written up to `bytes`.
abbrev pub counts_after : Counts → ℕ → Passed → ℕ → ℕ → Counts
counts_after c bytes x accepted skipped = record {
  bytes = bytes;
  accepted = c.accepted + accepted;
  written = c.written + length x.out;
  rewritten = c.rewritten + x.rewritten;
  skipped = c.skipped + skipped;
  lost = c.lost;
}

module _ (L : Limits) (M : Modes) (o : Options) (k : Known) (leading : ℕ) (d : Bytes) (ps qs : List Bytes) (n m : ℕ) (s r : Progress) where
  abbrev before : Passed
  before = pass L M o k ps

  abbrev next : Passed
  next = pass L M o before.known qs

  pub further : (kept : Kept) (map_room : List ℕ) (bodies : Bytes) (set : Words) (out : Bytes)
      (kept' : Kept) (map_room' : List ℕ) (bodies' : Bytes) (set' : Words) (out' : Bytes)
      → Sofar L M o k leading d ps n s kept map_room bodies set out
      → Holding L.total next.known r.extent kept' map_room' bodies'
      → SetIs (drops o next.known) set'
      → r.ready ≡ ready o.service next.known
      → r.extent.lost ≡ s.extent.lost + next.lost
      → r.extent.leading ≡ leading_over L before.known qs s.extent.leading
      → r.counts ≡ counts_after s.counts r.counts.bytes next (length qs) m
      → Wrote (flatten next.out) out s.counts.bytes out' r.counts.bytes
      → Sofar L M o k leading d (ps ++ qs) (n + m) r kept' map_room' bodies' set' out'
  further kept map_room bodies set out kept' map_room' bodies' set' out' f h t y l a' c w =
      let e : pass L M o k (ps ++ qs) ≡ chained before next = pass_append L M o k ps qs in
      let old = f.counts_are in
      let b : r.counts.bytes ≡ length (flatten (before.out ++ next.out)) =
      w.end ∙ ap (λ (z : Counts). z.bytes + length (flatten next.out)) old
      ∙ sym (ap length (flatten_append before.out next.out) ∙ length-append (flatten before.out) (flatten next.out)) in
      let a : s.counts.accepted + length qs ≡ length (ps ++ qs) = ap (λ (z : Counts). z.accepted + length qs) old ∙ sym (length-append ps qs) in
      let v : s.counts.written + length next.out ≡ length (before.out ++ next.out) =
      ap (λ (z : Counts). z.written + length next.out) old ∙ sym (length-append before.out next.out) in
      let q : s.counts.rewritten + next.rewritten ≡ before.rewritten + next.rewritten = ap (λ (z : Counts). z.rewritten + next.rewritten) old in
      let k' : s.counts.skipped + m ≡ n + m = ap (λ (z : Counts). z.skipped + m) old in
      let z : s.counts.lost ≡ 0 = ap (λ (z : Counts). z.lost) old in
      let counts : counts_after s.counts r.counts.bytes next (length qs) m ≡ counts_for (chained before next) (length (ps ++ qs)) (n + m) =
      λ i. record { bytes = b i; accepted = a i; written = v i; rewritten = q i; skipped = k' i; lost = z i } in
      record {
        holding = rw e h;
        set_is = rw e t;
        ready_is = rw e y;
        lost_is = rw e (l ∙ ap (λ (z : ℕ). z + next.lost) f.lost_is);
        leading_is = a' ∙ ap (leading_over L before.known qs) f.leading_is ∙ sym (leading_append L M o k ps qs leading);
        counts_are = rw e (c ∙ counts);
        written = rw (e, flatten_append before.out next.out) (wrote_then f.written w);
      }
