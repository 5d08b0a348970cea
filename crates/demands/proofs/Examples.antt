-- 01's starred examples, 1 to 12, over the promises. Rests on Between and Narrowings, and on Examples of `meaning`.
use Prim.Native.Nat.{ℕ, ◌+◌, ◌-◌, ◌≤◌}
use mathlib.Core.Path.{◌≡◌, refl, ap, ◌∙◌, subst}
use mathlib.Core.Bool.{true, cond}
use mathlib.Core.List.{List, [], ◌∷◌, ◌++◌, flatten, Memᴰ}
use native.Mathlib.Omega.{arith}
use lib.ListN.{length, take}
use lib.Dec.{eqb, leb}
use borrow.Author.Tests.{le-leb, leb-true}
use Rattle.meaning.specs.Bytes.{Bytes}
use Rattle.meaning.specs.Packets.{Cut, cut}
use Rattle.meaning.specs.Narrow.{change_table}
use Rattle.meaning.specs.Rooms.{packet_limit, good_work_room}
use Rattle.meaning.specs.Record.{State, state_of}
use Rattle.meaning.specs.Start.{fresh}
use Rattle.meaning.specs.Push.{Outcome, outcome, pass, push, filtered, length_refusal}
use Rattle.meaning.specs.Series.{call_refusal}
use Rattle.meaning.specs.declared.Limits.{Limits}
use Rattle.meaning.specs.declared.Options.{Options}
use Rattle.meaning.specs.declared.Modes.{Modes}
use Rattle.meaning.specs.declared.Counts.{Counts}
use Rattle.meaning.proofs.ListLaws.{and_both}
use Rattle.meaning.proofs.Examples.{Example, starred_tables, starred_each, no_captions, packet12}
use Rattle.narrowing.specs.declared.narrow.Narrowed as narrow
use Rattle.recorder.specs.declared.Pushed as pushed
use Rattle.demands.specs.Demands.{Recorder, Push, Pushed, Allows, Begun, Narrows, change_told, held_in, Starred}
use Rattle.demands.proofs.Between.{Good, Between, begins, pushes, counted}
use Rattle.demands.proofs.Narrowings.{gives}

-- ---- 1 to 10

tables_give : (e : Example) → Memᴰ e starred_tables → (d : Bytes) (x : narrow.Narrowed) (d' : Bytes) → length e.table ≤ length d
    → Narrows e.table (change_table e.options e.table) d x d' → change_told x d' ≡ e.change
tables_give e m d x d' k p = let h = starred_each e m in gives e.table (change_table e.options e.table) d x d' h.1 k p ∙ h.0

-- ---- 11 and 12: a start, and one chunk or two

-- A call that is not refused.
module _ (L : Limits) (M : Modes) (o : Options) (st : State) (s : Recorder) (h : Between L M o st s) (chunk out : Bytes) (x : pushed.Pushed) (d : Bytes) (t : Recorder)
    (a : Allows s (Push chunk out) (Pushed x d) t) (e : call_refusal L st (chunk, length out) ≡ 0) where
  pub goes_on : Between L M o (push L M o st chunk).state t
  goes_on = subst (λ (n : ℕ). Between L M o (cond (eqb n 0) (push L M o st chunk).state st) t) e (pushes L M o st s h chunk out x d t a).0

  pub counts_are : x.counts ≡ (push L M o st chunk).counts
  counts_are = counted L M o st s h chunk out x d t a e

  pub wrote_is : take x.counts.bytes d ≡ flatten (push L M o st chunk).out
  wrote_is = subst (λ (n : ℕ). take x.counts.bytes d ≡ flatten (cond (eqb n 0) (push L M o st chunk).out [])) e (pushes L M o st s h chunk out x d t a).2.front

held_is : (L : Limits) (M : Modes) (o : Options) (st : State) (s : Recorder) → Between L M o st s → take s.handed.held_count s.work ≡ st.held
unfolding state_of
held_is L M o st s h = ap (λ (z : State). z.held) h.state_is

-- Limits that a start takes leave room for a short chunk.
record Roomy (L : Limits) : Type 0 where
  limit : 2048 ≤ packet_limit L.work
  chunk_room : 2048 ≤ L.work - packet_limit L.work

roomy_work : (W : ℕ) → good_work_room W ≡ true → (2048 ≤ packet_limit W) × (2048 ≤ W - packet_limit W)
unfolding good_work_room packet_limit
roomy_work W e = let h = leb-true 4096 W (and_both (leb 4096 W) (leb W 131078) e).0 in (omega (arith, h), omega (arith, h))

roomy : (L : Limits) → Good L → Roomy L
roomy L g = let h = roomy_work L.work g.work_good in record { limit = h.0; chunk_room = h.1 }

fits : (L : Limits) (st : State) (chunk : Bytes) (n : ℕ) → Roomy L → length chunk ≤ 2048 → length st.held + length chunk ≤ n → call_refusal L st (chunk, n) ≡ 0
unfolding call_refusal length_refusal
fits L st chunk n w b c = rw (le-leb (length chunk) (L.work - packet_limit L.work) (omega (arith, b, w.chunk_room)), le-leb (length st.held + length chunk) n c)

-- What is found in the bytes of the examples, with any limit that takes a packet of five bytes.
abbrev chunk11 : Bytes
chunk11 = packet12 ++ (0x00 ∷ [])

found11 : (P : ℕ) → 5 ≤ P → cut P chunk11 ≡ record { packets = []; skipped = 3; held = 0x01 ∷ 0xAA ∷ 0x00 ∷ [] }
unfolding cut
found11 P h = rw (le-leb 5 P h) refl

found12 : (P : ℕ) → 5 ≤ P → cut P packet12 ≡ record { packets = packet12 ∷ []; skipped = 0; held = [] }
unfolding cut
found12 P h = rw (le-leb 5 P h) refl

found_next : (P : ℕ) → cut P (0x00 ∷ []) ≡ record { packets = []; skipped = 0; held = 0x00 ∷ [] }
unfolding cut
found_next P = refl

abbrev holding : List ℕ → Bytes → State
holding map_room s = record { held = s; known = (fresh map_room).known }

-- A push that holds nothing before, by what is found.
pushed_by : (L : Limits) (M : Modes) (map_room : List ℕ) (chunk : Bytes) (c : Cut) → cut (packet_limit L.work) chunk ≡ c
    → push L M no_captions (holding map_room []) chunk ≡ outcome c (pass L M no_captions (fresh map_room).known c.packets)
unfolding push filtered
pushed_by L M map_room chunk c e = ap (λ (z : Cut). outcome z (pass L M no_captions (fresh map_room).known z.packets)) e

module _ (L : Limits) (M : Modes) (s : Recorder) (b : Begun L M no_captions s) where
  abbrev begun : Between L M no_captions (fresh s.map_room) s
  begun = begins L M no_captions s b

  abbrev room : Roomy L
  room = roomy L begun.good

  five : 5 ≤ packet_limit L.work
  five = omega (arith, room.limit)

  ex11 : (t : Recorder) (c d : Bytes) (x : pushed.Pushed) → Allows s (Push chunk11 c) (Pushed x d) t → 6 ≤ length c → (x.counts.skipped ≡ 3) × (held_in t ≡ 0x01 ∷ 0xAA ∷ 0x00 ∷ [])
  unfolding pass fresh
  ex11 t c d x a h =
      let e = fits L (fresh s.map_room) chunk11 (length c) room (omega arith) (omega (arith, h)) in
      let p = pushed_by L M s.map_room chunk11 _ (found11 (packet_limit L.work) five) in (
        ap (λ (z : Counts). z.skipped) (counts_are L M no_captions (fresh s.map_room) s begun chunk11 c x d t a e) ∙ ap (λ (z : Outcome). z.counts.skipped) p,
        held_is L M no_captions (push L M no_captions (fresh s.map_room) chunk11).state t (goes_on L M no_captions (fresh s.map_room) s begun chunk11 c x d t a e) ∙ ap (λ (z : Outcome). z.state.held) p,
      )

  ex12 : (t u : Recorder) (c d e f : Bytes) (x y : pushed.Pushed) → Allows s (Push packet12 c) (Pushed x d) t → 5 ≤ length c → Allows t (Push (0x00 ∷ []) e) (Pushed y f) u → 1 ≤ length e
      → (x.counts.accepted ≡ 1) × (take x.counts.bytes d ≡ packet12) × (held_in u ≡ 0x00 ∷ [])
  unfolding pass fresh flatten
  ex12 t u c d e f x y a h b k =
      let st : State = fresh s.map_room in
      let q = fits L st packet12 (length c) room (omega arith) (omega (arith, h)) in
      let p = pushed_by L M s.map_room packet12 _ (found12 (packet_limit L.work) five) in
      let now : Between L M no_captions (holding s.map_room []) t = subst (λ (z : Outcome). Between L M no_captions z.state t) p (goes_on L M no_captions st s begun packet12 c x d t a q) in
      let q' = fits L (holding s.map_room []) (0x00 ∷ []) (length e) room (omega arith) (omega (arith, k)) in
      let p' = pushed_by L M s.map_room (0x00 ∷ []) _ (found_next (packet_limit L.work)) in (
        ap (λ (z : Counts). z.accepted) (counts_are L M no_captions st s begun packet12 c x d t a q) ∙ ap (λ (z : Outcome). z.counts.accepted) p,
        wrote_is L M no_captions st s begun packet12 c x d t a q ∙ ap (λ (z : Outcome). flatten z.out) p,
        held_is L M no_captions (push L M no_captions (holding s.map_room []) (0x00 ∷ [])).state u (goes_on L M no_captions (holding s.map_room []) t now (0x00 ∷ []) e y f u b q') ∙ ap (λ (z : Outcome). z.state.held) p',
      )

pub starred : Starred
starred = record {
  tables = tables_give;
  one = λ L M s t c d x b a h. ex11 L M s b t c d x a h;
  two = λ L M s t u c d e f x y b a h a' k. ex12 L M s b t u c d e f x y a h a' k;
}
