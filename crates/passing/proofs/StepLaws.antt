-- Each step of a run: a row written at once, a gap, a packet withheld, a signalling packet. Rests on RunLaws.
use Prim.Native.Nat.{ℕ, ◌+◌, ◌-◌, ◌≤◌}
use mathlib.Core.Path.{◌≡◌, refl, sym, ap, ◌∙◌, subst}
use mathlib.Core.Bool.{Bool, true}
use mathlib.Core.List.{List, [], ◌∷◌, ◌++◌, flatten}
use native.Mathlib.Omega.{arith}
use lib.ListN.{length, drop, length-drop}
use lib.Seq.{drop-drop, length-take-le}
use Rattle.meaning.specs.Bytes.{Bytes}
use Rattle.meaning.specs.Writing.{Wrote}
use Rattle.meaning.specs.Sets.{Words}
use Rattle.meaning.specs.Packets.{Cut, cut, accept}
use Rattle.meaning.specs.Leading.{leading_over}
use Rattle.meaning.specs.Push.{pass}
use Rattle.meaning.proofs.Writes.{wrote_none}
use Rattle.meaning.proofs.CutLaws.{cut_packet}
use Rattle.tlv.specs.Gaps.{GapTo}
use Rattle.learning.specs.declared.Kept.{Kept}
use Rattle.passing.specs.declared.Terms.{Terms}
use Rattle.passing.specs.declared.Progress.{Progress}
use Rattle.passing.specs.declared.Row.{Row}
use Rattle.passing.specs.Verdicts.{Plain, AllPass, ahead, PacketTo, packet_at, RowIs}
use Rattle.passing.specs.Passing.{Fits, FitsMore, Along, with_skipped, with_withheld, with_row}
use Rattle.passing.proofs.PassLaws.{further}
use Rattle.passing.proofs.PlainLaws.{plain_leads, row_leads, pass_withheld, pass_row}
use Rattle.passing.proofs.RunLaws.{Machine, machine, Moves, moves_then, moves_none, ahead_none, ahead_ahead, SameRooms, fits_on, Going, going_on}

-- Another progress, another output.
abbrev pub with_out : Machine → Progress → Bytes → Machine
with_out y r out = record y { progress = r; out = out }

-- ---- what each step moves

module _ (t : Terms) (y : Machine) where
  abbrev s : Progress
  s = y.progress

  row_moves : (qs : List Bytes) (bytes out' : Bytes) (b : ℕ) → AllPass y.set s.ready qs → flatten qs ≡ bytes → Wrote bytes y.out s.counts.bytes out' b
      → Moves qs 0 t y (with_out y (with_row s (length qs) b) out')
  row_moves qs bytes out' b a e w L k leading d ps n m f =
      let M = t.modes in
      let o = t.options in
      let q : pass L M o (pass L M o k ps).known qs ≡ record { out = qs; rewritten = 0; lost = 0; known = (pass L M o k ps).known } =
      pass_row L M o (pass L M o k ps).known y.set s.ready f.set_is f.ready_is qs a in
      let l : s.extent.lost ≡ s.extent.lost + 0 = omega arith in
      let u : s.counts.rewritten ≡ s.counts.rewritten + 0 = omega arith in
      let v : s.counts.skipped ≡ s.counts.skipped + 0 = omega arith in
      further L M o k leading d ps qs n 0 s (with_row s (length qs) b) y.kept y.map_room y.bodies y.set y.out
      y.kept y.map_room y.bodies y.set out' f (rw q f.holding) (rw q f.set_is) (rw q f.ready_is) (rw q l)
      (sym (row_leads L (pass L M o k ps).known y.set s.ready qs s.extent.leading a))
      (rw q (λ i. record { bytes = b; accepted = s.counts.accepted + length qs; written = s.counts.written + length qs; rewritten = u i; skipped = v i; lost = s.counts.lost }))
      (rw (q, e) w)

  gap_moves : (m : ℕ) → Moves [] m t y (with_out y (with_skipped s m) y.out)
  unfolding pass flatten leading_over
  gap_moves m L k leading d ps n q f =
      let l : s.extent.lost ≡ s.extent.lost + 0 = omega arith in
      let a : s.counts.accepted ≡ s.counts.accepted + 0 = omega arith in
      let w : s.counts.written ≡ s.counts.written + 0 = omega arith in
      let u : s.counts.rewritten ≡ s.counts.rewritten + 0 = omega arith in
      further L t.modes t.options k leading d ps [] n m s (with_skipped s m) y.kept y.map_room y.bodies y.set y.out
      y.kept y.map_room y.bodies y.set y.out f f.holding f.set_is f.ready_is l refl
      (λ i. record { bytes = s.counts.bytes; accepted = a i; written = w i; rewritten = u i; skipped = s.counts.skipped + m; lost = s.counts.lost })
      (wrote_none y.out s.counts.bytes)

  withheld_moves : (p : Bytes) → Plain p y.set s.ready true → Moves (p ∷ []) 0 t y (with_out y (with_withheld s) y.out)
  unfolding flatten leading_over
  withheld_moves p h L k leading d ps n m f =
      let M = t.modes in
      let o = t.options in
      let q : pass L M o (pass L M o k ps).known (p ∷ []) ≡ record { out = []; rewritten = 0; lost = 0; known = (pass L M o k ps).known } =
      pass_withheld L M o (pass L M o k ps).known p y.set s.ready f.set_is f.ready_is h in
      let l : s.extent.lost ≡ s.extent.lost + 0 = omega arith in
      let w : s.counts.written ≡ s.counts.written + 0 = omega arith in
      let u : s.counts.rewritten ≡ s.counts.rewritten + 0 = omega arith in
      let v : s.counts.skipped ≡ s.counts.skipped + 0 = omega arith in
      further L M o k leading d ps (p ∷ []) n 0 s (with_withheld s) y.kept y.map_room y.bodies y.set y.out
      y.kept y.map_room y.bodies y.set y.out f (rw q f.holding) (rw q f.set_is) (rw q f.ready_is) (rw q l)
      (sym (plain_leads L (pass L M o k ps).known p [] y.set s.ready true s.extent.leading h))
      (rw q (λ i. record { bytes = s.counts.bytes; accepted = s.counts.accepted + 1; written = w i; rewritten = u i; skipped = v i; lost = s.counts.lost }))
      (rw q (wrote_none y.out s.counts.bytes))

-- ---- offsets in a run

pub packet_length : (run : Bytes) (at end : ℕ) → at ≤ end → end ≤ length run → length (packet_at run at end) ≡ end - at
packet_length run at end a b = length-take-le (end - at) (drop at run) (omega (arith, length-drop at run))

packet_cut : (limit : ℕ) (run : Bytes) (at end : ℕ) → PacketTo limit run at end → cut limit (drop at run) ≡ ahead (packet_at run at end ∷ []) 0 (cut limit (drop end run))
packet_cut limit run at end p =
    let n : at + (end - at) ≡ end = omega (arith, p.forth) in
    let c : Cut = cut limit (drop end run) in
    let z : c.skipped ≡ 0 + c.skipped = omega arith in
    cut_packet limit (drop at run) (end - at) p.step
    ∙ ap (λ (l : Bytes). accept (packet_at run at end) (cut limit l)) (drop-drop (end - at) at run ∙ ap (λ (m : ℕ). drop m run) n)
    ∙ (λ i. record { packets = packet_at run at end ∷ c.packets; skipped = z i; held = c.held })

-- ---- packets that teach nothing

module _ (run : Bytes) (from : ℕ) (t : Terms) (set : Words) where
  pub along_begin : (s : Progress) (out : Bytes) → from ≤ length run → Fits s (length run - from) (length out) → Along run from t s set out s from out
  along_begin s out h f = record {
    packets = [];
    skipped = 0;
    forth = omega arith;
    inside = h;
    cut_is = ahead_none (cut t.limit (drop from run));
    moved = λ kept map_room bodies. moves_none t (machine s kept map_room bodies set out);
    fits = f;
    fits_more = λ m h. h;
  }

  module _ {s₀ s : Progress} {out₀ out : Bytes} {at : ℕ} (g : Along run from t s₀ set out₀ s at out) where
    along_on : (r : Progress) (to : ℕ) (out' : Bytes) (qs : List Bytes) (m : ℕ) → at ≤ to → to ≤ length run → cut t.limit (drop at run) ≡ ahead qs m (cut t.limit (drop to run))
        → ((kept : Kept) (map_room : List ℕ) (bodies : Bytes)
        → Moves qs m t (machine s kept map_room bodies set out) (machine r kept map_room bodies set out'))
        → FitsMore s (length run - at) (length out) r (length run - to) (length out') → Along run from t s₀ set out₀ r to out'
    along_on r to out' qs m b h c v f = record {
      packets = g.packets ++ qs;
      skipped = g.skipped + m;
      forth = omega (arith, g.forth, b);
      inside = h;
      cut_is = g.cut_is ∙ ap (ahead g.packets g.skipped) c ∙ ahead_ahead g.packets qs g.skipped m (cut t.limit (drop to run));
      moved = λ kept map_room bodies.
          moves_then t (machine s₀ kept map_room bodies set out₀) (machine s kept map_room bodies set out)
          (machine r kept map_room bodies set out') g.packets qs g.skipped m (g.moved kept map_room bodies) (v kept map_room bodies);
      fits = fits_on f g.fits;
      fits_more = λ m h. f m (g.fits_more m h);
    }

    row_done : (row : Row) (b : ℕ) (out' : Bytes) → RowIs t.limit set s.ready run at row → Wrote (packet_at run at row.end) out s.counts.bytes out' b → length out' ≡ length out
        → Along run from t s₀ set out₀ (with_row s row.count b) row.end out'
    row_done row b out' i w l =
        let h = i.row in
        let len = packet_length run at row.end h.forth h.inside in
        along_on (with_row s row.count b) row.end out' h.packets 0 h.forth h.inside h.cut_is
        (λ kept map_room bodies.
        let y : Machine = machine s kept map_room bodies set out in
        subst (λ (n : ℕ). Moves h.packets 0 t y (with_out y (with_row s n b) out')) (sym h.many)
        (row_moves t y h.packets (packet_at run at row.end) out' b h.all_pass h.bytes_are w))
        (λ m f. record {
          bytes_fit = omega (arith, f.bytes_fit, w.end, len, h.forth, h.inside, l);
          accepted_fit = omega (arith, f.accepted_fit, h.few, h.inside);
          written_fit = omega (arith, f.written_fit, h.few, h.inside);
          rewritten_fit = omega (arith, f.rewritten_fit, h.forth);
          skipped_fit = omega (arith, f.skipped_fit, h.forth);
          lost_fit = omega (arith, f.lost_fit, h.forth);
        })

    pub along_row : (row : Row) (b to : ℕ) (out' : Bytes) (r : Progress) → RowIs t.limit set s.ready run at row → to ≡ s.counts.bytes
        → Wrote (packet_at run at row.end) out to out' b → length out' ≡ length out → r ≡ with_row s row.count b → Along run from t s₀ set out₀ r row.end out'
    along_row row b to out' r h e w l q =
        subst (λ (z : Progress). Along run from t s₀ set out₀ z row.end out') (sym q)
        (row_done row b out' h (subst (λ (i : ℕ). Wrote (packet_at run at row.end) out i out' b) e w) l)

    gap_done : (to : ℕ) → GapTo t.limit run at to → Along run from t s₀ set out₀ (with_skipped s (to - at)) to out
    gap_done to h =
        along_on (with_skipped s (to - at)) to out [] (to - at) h.forth h.inside h.skips
        (λ kept map_room bodies. gap_moves t (machine s kept map_room bodies set out) (to - at))
        (λ m f. record {
          bytes_fit = omega (arith, f.bytes_fit, h.forth);
          accepted_fit = omega (arith, f.accepted_fit, h.forth);
          written_fit = omega (arith, f.written_fit, h.forth);
          rewritten_fit = omega (arith, f.rewritten_fit, h.forth);
          skipped_fit = omega (arith, f.skipped_fit, h.forth, h.inside);
          lost_fit = omega (arith, f.lost_fit, h.forth);
        })

    pub along_gap : (to : ℕ) (r : Progress) → GapTo t.limit run at to → r ≡ with_skipped s (to - at) → Along run from t s₀ set out₀ r to out
    along_gap to r h q = subst (λ (z : Progress). Along run from t s₀ set out₀ z to out) (sym q) (gap_done to h)

    withheld_done : (end : ℕ) → PacketTo t.limit run at end → Plain (packet_at run at end) set s.ready true → Along run from t s₀ set out₀ (with_withheld s) end out
    withheld_done end p h =
        along_on (with_withheld s) end out (packet_at run at end ∷ []) 0 (omega (arith, p.forth)) p.inside (packet_cut t.limit run at end p)
        (λ kept map_room bodies. withheld_moves t (machine s kept map_room bodies set out) (packet_at run at end) h)
        (λ m f. record {
          bytes_fit = omega (arith, f.bytes_fit, p.forth);
          accepted_fit = omega (arith, f.accepted_fit, p.forth, p.inside);
          written_fit = omega (arith, f.written_fit, p.forth);
          rewritten_fit = omega (arith, f.rewritten_fit, p.forth);
          skipped_fit = omega (arith, f.skipped_fit, p.forth);
          lost_fit = omega (arith, f.lost_fit, p.forth);
        })

    pub along_withheld : (end : ℕ) (is : Bool) (r : Progress) → s.ready ≡ is → PacketTo t.limit run at end × Plain (packet_at run at end) set is true → r ≡ with_withheld s
        → Along run from t s₀ set out₀ r end out
    along_withheld end is r e h q =
        subst (λ (z : Progress). Along run from t s₀ set out₀ z end out) (sym q)
        (withheld_done end h.0 (subst (λ (b : Bool). Plain (packet_at run at end) set b true) (sym e) h.1))

-- ---- the run goes on

module _ (run : Bytes) (t : Terms) (x y : Machine) (at : ℕ) (g : Going run t x y at) where
  pub going_along : (r : Progress) (to : ℕ) (out' : Bytes) → Along run at t y.progress y.set y.out r to out' → length out' ≡ length y.out
      → Going run t x (with_out y r out') to
  going_along r to out' h l =
      going_on run t x y (with_out y r out') at to h.packets h.skipped g h.inside h.cut_is
      (h.moved y.kept y.map_room y.bodies) h.fits_more (record { map_room_same = refl; bodies_same = refl; out_same = l })

  -- the bytes still to come are the packet's and those behind it
  signal_fits : (end : ℕ) → PacketTo t.limit run at end → (m : ℕ) → Fits y.progress (length run - at + m) (length y.out)
      → Fits y.progress (length (packet_at run at end) + (length run - end + m)) (length y.out)
  signal_fits end p m f =
      let len = packet_length run at end (omega (arith, p.forth)) p.inside in
      subst (λ (n : ℕ). Fits y.progress n (length y.out)) (let z : length run - at + m ≡ length (packet_at run at end) + (length run - end + m) = omega (arith, p.forth, p.inside) in z) f

  pub signal_room : (end : ℕ) → PacketTo t.limit run at end → Fits y.progress (length (packet_at run at end)) (length y.out)
  signal_room end p =
      let e : length run - at ≡ length run - at + 0 = omega arith in
      let f = signal_fits end p 0 (subst (λ (n : ℕ). Fits y.progress n (length y.out)) e g.fits) in
      record {
        bytes_fit = omega (arith, f.bytes_fit);
        accepted_fit = omega (arith, f.accepted_fit);
        written_fit = omega (arith, f.written_fit);
        rewritten_fit = omega (arith, f.rewritten_fit);
        skipped_fit = omega (arith, f.skipped_fit);
        lost_fit = omega (arith, f.lost_fit);
      }

  pub going_signal : (z : Machine) (end : ℕ) → PacketTo t.limit run at end → Moves (packet_at run at end ∷ []) 0 t y z
      → ((m : ℕ) → Fits y.progress (length (packet_at run at end) + m) (length y.out) → Fits z.progress m (length z.out)) → SameRooms y z
      → Going run t x z end
  going_signal z end p v f s =
      going_on run t x y z at end (packet_at run at end ∷ []) 0 g p.inside (packet_cut t.limit run at end p) v (λ m h. f (length run - end + m) (signal_fits end p m h)) s
