-- A row, packet after packet, that goes out as it is. Rests on meaning's CutLaws.
use Prim.Native.Nat.{ℕ, ◌+◌, ◌-◌, ◌≤◌, ◌<◌}
use mathlib.Core.Path.{◌≡◌, refl, sym, ap, ◌∙◌}
use mathlib.Core.Bool.{Bool, false}
use mathlib.Core.List.{List, [], ◌∷◌, ◌++◌, flatten, append-nil}
use native.Mathlib.Omega.{arith}
use lib.ListN.{length, take, drop, length-append, length-drop}
use lib.Seq.{drop-drop, take-add, append_snoc}
use Rattle.meaning.specs.Bytes.{Bytes}
use Rattle.meaning.specs.Sets.{Words}
use Rattle.meaning.specs.Packets.{size_of, step_of, Cut, cut, accept}
use Rattle.meaning.specs.declared.Step.{Step}
use Rattle.meaning.specs.declared.Step.TheVariants.{Packet}
use Rattle.meaning.proofs.ListLaws.{clash}
use Rattle.meaning.proofs.CutLaws.{View, view, size_four, cut_packet}
use Rattle.passing.specs.Verdicts.{Plain, AllPass, ahead, PacketTo, packet_at, StopIs, Rowing, RowIs}
use Rattle.passing.specs.declared.Stop.{Stop}
use Rattle.passing.proofs.PassLaws.{flatten_append}

-- ---- a packet of a run

found : (P : ℕ) (s : Bytes) (n : ℕ) (t : Step) → View P s t → t ≡ Packet n → (0 < n) × (n ≤ length s)
found P s n t (View.short h) e = clash (cc e)
found P s n t (View.no_start h c) e = clash (cc e)
found P s n t (View.long h c l) e = clash (cc e)
found P s n t (View.whole h c l) e = let z : n ≡ size_of s = cc e in (omega (arith, size_four s), omega arith)

pub packet_to : (P : ℕ) (run : Bytes) (at n : ℕ) → step_of P (drop at run) ≡ Packet n → PacketTo P run at (at + n)
packet_to P run at n e =
    let f = found P (drop at run) n (step_of P (drop at run)) (view P (drop at run)) e in
    let z : n ≡ at + n - at = omega arith in
    record { forth = omega (arith, f.0); inside = omega (arith, f.0, f.1, length-drop at run); step = e ∙ ap Packet z }

-- ---- a row

all_and_one : (ws : Words) (ready : Bool) (ps : List Bytes) (p : Bytes) → AllPass ws ready ps → Plain p ws ready false
    → AllPass ws ready (ps ++ (p ∷ []))
all_and_one ws ready [] p a b = (b, tt)
all_and_one ws ready (q ∷ ps) p a b = (a.0, all_and_one ws ready ps p a.1 b)

ahead_one : (ps : List Bytes) (n : ℕ) (p : Bytes) (c : Cut) → ahead ps n (accept p c) ≡ ahead (ps ++ (p ∷ [])) n c
ahead_one ps n p c =
    ap (λ (qs : List Bytes). record { packets = qs; skipped = n + c.skipped; held = c.held }) (sym (append_snoc ps p c.packets))

flatten_one : (p : Bytes) → flatten (p ∷ []) ≡ p
unfolding flatten
flatten_one p = append-nil p

-- two parts of a run, one behind the other
parts : (run : Bytes) (from at end : ℕ) → from ≤ at → at ≤ end → packet_at run from at ++ packet_at run at end ≡ packet_at run from end
parts run from at end h k =
    let a : from + (at - from) ≡ at = omega arith in
    let b : (at - from) + (end - at) ≡ end - from = omega arith in
    sym (ap (λ (n : ℕ). take n (drop from run)) (sym b) ∙ take-add (at - from) (end - at) (drop from run)
    ∙ ap (λ (s : Bytes). packet_at run from at ++ take (end - at) s) (drop-drop (at - from) from run ∙ ap (λ (n : ℕ). drop n run) a))

module _ (limit : ℕ) (ws : Words) (ready : Bool) (run : Bytes) (from : ℕ) where
  pub row_begin : from ≤ length run → Rowing limit ws ready run from from 0
  unfolding flatten
  row_begin h =
      let c : Cut = cut limit (drop from run) in
      let n : c.skipped ≡ 0 + c.skipped = omega arith in
      let z : 0 ≡ from - from = omega arith in
      record {
        packets = [];
        forth = omega arith;
        inside = h;
        many = refl;
        few = omega arith;
        all_pass = tt;
        bytes_are = ap (λ (k : ℕ). take k (drop from run)) z;
        cut_is = λ i. record { packets = c.packets; skipped = n i; held = c.held };
      }

  pub row_next : (at end count : ℕ) → PacketTo limit run at end → Plain (packet_at run at end) ws ready false
      → Rowing limit ws ready run from at count → Rowing limit ws ready run from end (count + 1)
  row_next at end count t p r =
      let q : Bytes = packet_at run at end in
      let ps = r.packets in
      let e : at + (end - at) ≡ end = omega (arith, t.forth) in
      record {
        packets = ps ++ (q ∷ []);
        forth = omega (arith, r.forth, t.forth);
        inside = t.inside;
        many = ap (λ (n : ℕ). n + 1) r.many ∙ sym (length-append ps (q ∷ []));
        few = omega (arith, r.few, t.forth);
        all_pass = all_and_one ws ready ps q r.all_pass p;
        bytes_are =
            flatten_append ps (q ∷ []) ∙ ap (λ (s : Bytes). flatten ps ++ s) (flatten_one q) ∙ ap (λ (s : Bytes). s ++ q) r.bytes_are
            ∙ parts run from at end r.forth (omega (arith, t.forth));
        cut_is =
            r.cut_is
            ∙ ap (ahead ps 0)
            (cut_packet limit (drop at run) (end - at) t.step
            ∙ ap (λ (s : Bytes). accept q (cut limit s)) (drop-drop (end - at) at run ∙ ap (λ (n : ℕ). drop n run) e))
            ∙ ahead_one ps 0 q (cut limit (drop end run));
      }

  pub row_stops : (at count : ℕ) (s : Stop) → StopIs limit ws ready run from at s → Rowing limit ws ready run from at count
      → RowIs limit ws ready run from (record { end = at; count = count; stop = s })
  row_stops at count s h r = record { row = r; stop_is = h }
