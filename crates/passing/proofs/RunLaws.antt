-- A run taken in step by step: a row, a gap, a packet withheld, a signalling packet. What the loop of `packets` carries along, and what it
-- has in the end. Rests on PassLaws and PlainLaws.
use Prim.Native.Nat.{ℕ, ◌+◌, ◌-◌, ◌≤◌}
use mathlib.Core.Path.{◌≡◌, refl, sym, ap, ◌∙◌, subst}
use mathlib.Core.List.{List, [], ◌++◌, append_assoc, append-nil}
use native.Mathlib.Omega.{arith}
use native.Mathlib.Nat.{sub-zero}
use lib.ListN.{length, drop}
use Rattle.meaning.specs.Bytes.{Bytes}
use Rattle.meaning.specs.Sets.{Words}
use Rattle.meaning.specs.Packets.{step_of, Cut, cut, hold}
use Rattle.meaning.specs.Learn.{Known}
use Rattle.meaning.specs.declared.Limits.{Limits}
use Rattle.meaning.specs.declared.Options.{Options}
use Rattle.meaning.specs.declared.Modes.{Modes}
use Rattle.meaning.specs.declared.Step.TheVariants.{Keep}
use Rattle.meaning.proofs.CutLaws.{cut_keep}
use Rattle.learning.specs.declared.Kept.{Kept}
use Rattle.passing.specs.declared.Terms.{Terms}
use Rattle.passing.specs.declared.Progress.{Progress}
use Rattle.passing.specs.Verdicts.{ahead}
use Rattle.passing.specs.Passing.{Fits, FitsMore, Sofar, SofarSome, SofarAfter, ScannedAs}

-- ---- all that a run changes

pub record Machine : Type 0 where
  pub progress : Progress
  pub kept : Kept
  pub map_room : List ℕ
  pub bodies : Bytes
  pub set : Words
  pub out : Bytes

abbrev pub Stands : Limits → Modes → Options → Known → ℕ → Bytes → List Bytes → ℕ → Machine → Type 0
Stands L M o k leading d ps n x = Sofar L M o k leading d ps n x.progress x.kept x.map_room x.bodies x.set x.out

abbrev pub StandsSome : Terms → Machine → Type 0
StandsSome t x = SofarSome t x.progress x.kept x.map_room x.bodies x.set x.out

abbrev pub Moves : List Bytes → ℕ → Terms → Machine → Machine → Type 0
Moves qs m t x y =
    SofarAfter qs m t x.progress x.kept x.map_room x.bodies x.set x.out
    y.progress y.kept y.map_room y.bodies y.set y.out

abbrev pub machine : Progress → Kept → List ℕ → Bytes → Words → Bytes → Machine
machine s kept map_room bodies set out =
    record { progress = s; kept = kept; map_room = map_room; bodies = bodies; set = set; out = out }

-- ---- moves, one after the other

module _ (t : Terms) (x y z : Machine) (ps qs : List Bytes) (n m : ℕ) where
  pub moves_then : Moves ps n t x y → Moves qs m t y z → Moves (ps ++ qs) (n + m) t x z
  moves_then u v L k leading d rs i e f =
      let a : i + n + m ≡ i + (n + m) = omega arith in
      subst (λ (l : List Bytes). Stands L t.modes t.options k leading d l (i + (n + m)) z) (append_assoc rs ps qs)
      (subst (λ (j : ℕ). Stands L t.modes t.options k leading d ((rs ++ ps) ++ qs) j z) a (v L k leading d (rs ++ ps) (i + n) e (u L k leading d rs i e f)))

pub moves_none : (t : Terms) (x : Machine) → Moves [] 0 t x x
moves_none t x L k leading d ps n e s =
    let z : n ≡ n + 0 = omega arith in
    subst (λ (l : List Bytes). Stands L t.modes t.options k leading d l (n + 0) x) (sym (append-nil ps)) (subst (λ (m : ℕ). Stands L t.modes t.options k leading d ps m x) z s)

-- Lent slices keep their length.
pub record SameRooms (x y : Machine) : Type 0 where
  pub map_room_same : length y.map_room ≡ length x.map_room
  pub bodies_same : length y.bodies ≡ length x.bodies
  pub out_same : length y.out ≡ length x.out

-- ---- the loop

pub record Going (run : Bytes) (t : Terms) (first now' : Machine) (at : ℕ) : Type 0 where
  pub packets : List Bytes
  pub skipped : ℕ
  pub inside : at ≤ length run
  pub cut_is : cut t.limit run ≡ ahead packets skipped (cut t.limit (drop at run))
  pub moved : Moves packets skipped t first now'
  pub fits : Fits now'.progress (length run - at) (length now'.out)
  pub fits_more : FitsMore first.progress (length run) (length first.out) now'.progress (length run - at) (length now'.out)
  pub begun : StandsSome t first
  pub same : SameRooms first now'

pub fits_on : {s r : Progress} {n n' l l' : ℕ} → FitsMore s n l r n' l' → Fits s n l → Fits r n' l'
fits_on {s} {r} {n} {n'} {l} {l'} f h =
    let a : n ≡ n + 0 = omega arith in
    let b : n' + 0 ≡ n' = omega arith in
    subst (λ (i : ℕ). Fits r i l') b (f 0 (subst (λ (i : ℕ). Fits s i l) a h))

pub ahead_none : (c : Cut) → c ≡ ahead [] 0 c
ahead_none c = let z : c.skipped ≡ 0 + c.skipped = omega arith in λ i. record { packets = c.packets; skipped = z i; held = c.held }

pub ahead_ahead : (ps qs : List Bytes) (n m : ℕ) (c : Cut) → ahead ps n (ahead qs m c) ≡ ahead (ps ++ qs) (n + m) c
ahead_ahead ps qs n m c =
    let p : ps ++ (qs ++ c.packets) ≡ (ps ++ qs) ++ c.packets = sym (append_assoc ps qs c.packets) in
    let z : n + (m + c.skipped) ≡ n + m + c.skipped = omega arith in
    λ i. record { packets = p i; skipped = z i; held = c.held }

module _ (run : Bytes) (t : Terms) (x : Machine) where
  pub going_begin : Fits x.progress (length run) (length x.out) → StandsSome t x → Going run t x x 0
  going_begin f b = record {
    packets = [];
    skipped = 0;
    inside = omega arith;
    cut_is = ahead_none (cut t.limit run);
    moved = moves_none t x;
    fits = subst (λ (n : ℕ). Fits x.progress n (length x.out)) (sym (sub-zero (length run))) f;
    fits_more = λ m h. subst (λ (n : ℕ). Fits x.progress (n + m) (length x.out)) (sym (sub-zero (length run))) h;
    begun = b;
    same = record { map_room_same = refl; bodies_same = refl; out_same = refl };
  }

  module _ (y z : Machine) (at to : ℕ) (qs : List Bytes) (m : ℕ) where
    pub going_on : Going run t x y at → to ≤ length run → cut t.limit (drop at run) ≡ ahead qs m (cut t.limit (drop to run)) → Moves qs m t y z
        → FitsMore y.progress (length run - at) (length y.out) z.progress (length run - to) (length z.out) → SameRooms y z → Going run t x z to
    going_on g h c v f s = record {
      packets = g.packets ++ qs;
      skipped = g.skipped + m;
      inside = h;
      cut_is = g.cut_is ∙ ap (ahead g.packets g.skipped) c ∙ ahead_ahead g.packets qs g.skipped m (cut t.limit (drop to run));
      moved = moves_then t x y z g.packets qs g.skipped m g.moved v;
      fits = fits_on f g.fits;
      fits_more = λ m h. f m (g.fits_more m h);
      begun = g.begun;
      same = record {
        map_room_same = s.map_room_same ∙ g.same.map_room_same;
        bodies_same = s.bodies_same ∙ g.same.bodies_same;
        out_same = s.out_same ∙ g.same.out_same;
      };
    }

  -- what the arrays hold in between
  pub going_some : (y : Machine) (at : ℕ) → Going run t x y at → StandsSome t y
  going_some y at g =
      let b = g.begun in
      (b.0, b.1, b.2, b.3, b.4 ++ g.packets, b.5 + g.skipped, b.6, g.moved b.0 b.1 b.2 b.3 b.4 b.5 b.6 b.7)

  -- the end: the rest is kept
  pub going_done : (y : Machine) (at : ℕ) → Going run t x y at → step_of t.limit (drop at run) ≡ Keep
      → ScannedAs run t x.progress x.kept x.map_room x.bodies x.set x.out
      (record { progress = y.progress; at = at }) y.kept y.map_room y.bodies y.set y.out
  going_done y at g e =
      let c : cut t.limit run ≡ ahead g.packets g.skipped (hold (drop at run)) = g.cut_is ∙ ap (ahead g.packets g.skipped) (cut_keep t.limit (drop at run) e) in
      let p : g.packets ≡ (cut t.limit run).packets = sym (append-nil g.packets) ∙ sym (ap (λ (z : Cut). z.packets) c) in
      let s : g.skipped ≡ (cut t.limit run).skipped = (let w : g.skipped ≡ g.skipped + 0 = omega arith in w) ∙ sym (ap (λ (z : Cut). z.skipped) c) in (
        λ L k leading d ps n q u.
            subst (λ (l : List Bytes). Stands L t.modes t.options k leading d (ps ++ l) (n + (cut t.limit run).skipped) y) p
            (subst (λ (i : ℕ). Stands L t.modes t.options k leading d (ps ++ g.packets) (n + i) y) s (g.moved L k leading d ps n q u)),
        sym (ap (λ (z : Cut). z.held) c),
        g.inside,
        g.fits_more,
      )
