-- Some result is allowed of every input: the definition's answer, counts and record, with rooms that begin with the bytes of its state.
-- Rests on SoundnessLaws of `meaning`, and on Once for the struct of a record.
use Rattle.std.specs.Prelude.{Ok, Err}
use Prim.Native.Nat.{ℕ, zero, suc, ◌+◌, ◌-◌, ◌≤◌}
use mathlib.Core.Path.{◌≡◌, refl, sym, ap, ◌∙◌, subst}
use mathlib.Core.Bool.{Bool, true, false, cond}
use mathlib.Core.List.{List, [], ◌++◌, flatten, append-nil}
use native.Mathlib.Omega.{arith}
use lib.ListN.{length, drop, length-append, length-drop}
use lib.Dec.{eqb, leb}
use borrow.Author.Tests.{eqb-true}
use Rattle.meaning.specs.Bytes.{Bytes}
use Rattle.meaning.specs.Writing.{Wrote}
use Rattle.meaning.specs.Wishes.{wants_assets, copies_all}
use Rattle.meaning.specs.Rooms.{packet_limit, good_work_room, good_fragment_room, good_map_room}
use Rattle.meaning.specs.Learn.{fragment_bytes}
use Rattle.meaning.specs.Refusals.{Answer, number_of, answer_number}
use Rattle.meaning.specs.Record.{State, Record, record_of, room_of, state_of}
use Rattle.meaning.specs.Leading.{leading_pushed}
use Rattle.meaning.specs.Soundness.{sound, sound_refusal}
use Rattle.meaning.specs.Calls.{counts_of, Called}
use Rattle.meaning.specs.Start.{start_refusal, started}
use Rattle.meaning.specs.Push.{push, filtered, length_refusal, push_refusal, called}
use Rattle.meaning.specs.Dropped.{dropped_now}
use Rattle.meaning.specs.Tally.{add_counts, fits64, tally_refusal, tallied}
use Rattle.meaning.specs.declared.Limits.{Limits}
use Rattle.meaning.specs.declared.Options.{Options}
use Rattle.meaning.specs.declared.Modes.{Modes}
use Rattle.meaning.specs.declared.Counts.{Counts}
use Rattle.meaning.specs.declared.Refusal.TheVariants.{WorkRoom, FragmentRoom, MapRoom, Unsound, Long, Short, Tally, Input, Wishes}
use Rattle.meaning.proofs.Writes.{wrote_none}
use Rattle.meaning.proofs.LayoutLaws.{room_size}
use Rattle.meaning.proofs.SoundnessLaws.{state_holds, push_holds, state_back, good_limit}
use Rattle.recorder.specs.Filter.{record_in}
use Rattle.recorder.specs.Calls.{RoomsAfter}
use Rattle.soundness.proofs.PartLaws.{limit_fits}
use Rattle.recorder.proofs.StateLaws.{record_parts}
use Rattle.demands.specs.Demands.{Recorder, Call, Push, Ask, Result, Pushed, Asked, Allows, Total}
use Rattle.demands.proofs.Tests.{overwritten}
use Rattle.demands.proofs.Between.{form, called_by}
use Rattle.demands.proofs.Refusing.{called_number, called_refused}
use Rattle.demands.proofs.Narrowings.{narrow_total}
use Rattle.demands.proofs.Once.{filter_of}

-- ---- an answer with a number

answer_with : (n : ℕ) → n ≤ 9 → (a : Answer) × (answer_number a ≡ n)
unfolding answer_number number_of
answer_with zero h = (Ok tt, refl)
answer_with (suc zero) h = (Err WorkRoom, refl)
answer_with (suc (suc zero)) h = (Err FragmentRoom, refl)
answer_with (suc (suc (suc zero))) h = (Err MapRoom, refl)
answer_with (suc (suc (suc (suc zero)))) h = (Err Unsound, refl)
answer_with (suc (suc (suc (suc (suc zero))))) h = (Err Long, refl)
answer_with (suc (suc (suc (suc (suc (suc zero)))))) h = (Err Short, refl)
answer_with (suc (suc (suc (suc (suc (suc (suc zero))))))) h = (Err Tally, refl)
answer_with (suc (suc (suc (suc (suc (suc (suc (suc zero)))))))) h = (Err Input, refl)
answer_with (suc (suc (suc (suc (suc (suc (suc (suc (suc zero))))))))) h = (Err Wishes, refl)
answer_with (suc (suc (suc (suc (suc (suc (suc (suc (suc (suc n)))))))))) h = absurd (omega (arith, h))

at_most : (a : Bool) (x y : ℕ) → x ≤ 9 → y ≤ 9 → cond a x y ≤ 9
at_most true x y h k = h
at_most false x y h k = k

start_few : (L : Limits) (M : Modes) (o : Options) (map_room : List ℕ) → (started L M o map_room).number ≤ 9
unfolding started start_refusal
start_few L M o map_room =
    let d = wants_assets o in
    let c = good_map_room (length map_room) in
    let b = good_fragment_room L.total L.most in
    at_most (good_work_room L.work) (cond b (cond c (cond d 0 9) 3) 2) 1
    (at_most b (cond c (cond d 0 9) 3) 2 (at_most c (cond d 0 9) 3 (at_most d 0 9 (omega arith) (omega arith)) (omega arith)) (omega arith)) (omega arith)

push_few : (r : Record) (W T map_length n out_length : ℕ) → push_refusal r W T map_length n out_length ≤ 9
unfolding push_refusal length_refusal
push_few r W T map_length n out_length =
    at_most (sound r W T map_length) (cond (leb n (W - packet_limit W)) (cond (leb (r.held_count + n) out_length) 0 6) 5) 4
    (at_most (leb n (W - packet_limit W)) (cond (leb (r.held_count + n) out_length) 0 6) 5 (at_most (leb (r.held_count + n) out_length) 0 6 (omega arith) (omega arith)) (omega arith)) (omega arith)

ask_few : (r : Record) (W T n : ℕ) → sound_refusal r W T n ≤ 9
unfolding sound_refusal
ask_few r W T n = at_most (sound r W T n) 0 4 (omega arith) (omega arith)

tally_few : (t c : Counts) → tally_refusal t c ≤ 9
unfolding tally_refusal
tally_few t c = at_most (fits64 (add_counts t c)) 0 7 (omega arith) (omega arith)

accepted_sound : (r : Record) (W T map_length n out_length : ℕ) → eqb (push_refusal r W T map_length n out_length) 0 ≡ true → sound r W T map_length ≡ true
unfolding push_refusal
accepted_sound r W T map_length n out_length e = go (sound r W T map_length) refl e
  where
    go : (b : Bool) → sound r W T map_length ≡ b → eqb (cond b (length_refusal W r.held_count n out_length) 4) 0 ≡ true → sound r W T map_length ≡ true
    go true p e = p
    go false p e = absurd (omega (arith, eqb-true 4 0 e))

-- ---- a struct with a record

pub record_of_lem : (r : Record) → record_in (filter_of r) ≡ r
unfolding record_in
record_of_lem r = refl

-- ---- a push

bytes_are : (L : Limits) (M : Modes) (o : Options) (st : State) (chunk : Bytes) → (push L M o st chunk).counts.bytes ≡ length (flatten (push L M o st chunk).out)
unfolding push filtered flatten
bytes_are L M o st chunk = go (copies_all o) refl
  where
    go : (b : Bool) → copies_all o ≡ b → (push L M o st chunk).counts.bytes ≡ length (flatten (push L M o st chunk).out)
    go true e = rw e (ap length (sym (append-nil chunk)))
    go false e = rw e refl

-- A room that begins with these bytes, as long as it was.
over_front : (y d : Bytes) → length y ≤ length d → length (y ++ drop (length y) d) ≡ length d
over_front y d h = omega (arith, h, length-append y (drop (length y) d), length-drop (length y) d)

module _ (s : Recorder) (chunk out : Bytes) where
  abbrev r : Record
  r = s.handed

  abbrev c : Called
  c = called r s.work s.bodies s.map_room chunk (length out)

  abbrev a : (b : Answer) × (answer_number b ≡ c.number)
  a = subst (λ (n : ℕ). (b : Answer) × (answer_number b ≡ n)) (sym (called_number r s.work s.bodies s.map_room chunk (length out)))
      (answer_with (push_refusal r (length s.work) (length s.bodies) (length s.map_room) (length chunk) (length out)) (push_few r (length s.work) (length s.bodies) (length s.map_room) (length chunk) (length out)))

  pub refused : eqb c.number 0 ≡ false → (x : Result) × (t : Recorder) × Allows s (Push chunk out) x t
  unfolding flatten
  refused e =
      let q = called_refused r s.work s.bodies s.map_room chunk (length out) e in (
        Pushed (record { answer = a.0; counts = c.counts; filter = filter_of c.handed }) out,
        s,
        (
          record {
            answer_is = a.1;
            counts_are = refl;
            handed_is = record_of_lem c.handed;
            written = subst (λ (z : Called). Wrote (flatten z.out) out 0 out z.counts.bytes) (sym q) (wrote_none out 0);
            rooms = subst (λ (b : Bool). RoomsAfter b (push r.limits r.modes r.options (state_of r s.work s.bodies s.map_room) chunk).state (record_in (filter_of c.handed)) s.work s.bodies s.map_room s.work s.bodies s.map_room) (sym e) (refl, refl, refl);
            work_length = refl;
            bodies_length = refl;
          },
          sym (record_of_lem c.handed ∙ ap (λ (z : Called). z.handed) q),
        ),
      )

  -- ---- not refused: the rooms begin with the bytes of the state

  abbrev st : State
  st = (push r.limits r.modes r.options (state_of r s.work s.bodies s.map_room) chunk).state

  abbrev led : ℕ
  led = leading_pushed r.limits r.options (state_of r s.work s.bodies s.map_room) chunk r.leading

  -- the fragment room: what the bodies leave free is what stood behind as many bytes
  abbrev kept : Bytes
  kept = room_of led st.known.fragments (drop (fragment_bytes st.known.fragments) s.bodies)

  -- what is long enough
  record Fits : Type 0 where
    work_fits : length st.held ≤ length s.work
    bodies_fit : length kept ≡ length s.bodies
    back : state_of (record_of r.limits r.modes r.options led st) (st.held ++ drop (length st.held) s.work) kept st.known.map_room ≡ st

  fits : sound r (length s.work) (length s.bodies) (length s.map_room) ≡ true → Fits
  fits e =
      let p = record_parts r (length s.work) (length s.bodies) (length s.map_room) e in
      let four : 4 ≤ packet_limit r.limits.work = subst (λ (n : ℕ). 4 ≤ packet_limit n) (sym p.work_is) (good_limit (length s.work) p.work_good) in
      let h = push_holds r.limits r.modes r.options (state_of r s.work s.bodies s.map_room) chunk four (state_holds r s.work s.bodies s.map_room e) in
      let fs = st.known.fragments in
      record {
        work_fits = omega (arith, h.held_few, limit_fits r.limits.work, p.work_is);
        bodies_fit = omega (arith, room_size led fs (drop (fragment_bytes fs) s.bodies), length-drop (fragment_bytes fs) s.bodies, h.known_holds.fragments_hold.within, p.total_is);
        back = state_back r.limits r.modes r.options led st (omega (arith, p.total_is, p.total_few)) h (drop (length st.held) s.work) (drop (fragment_bytes fs) s.bodies);
      }

  pub called_accepted : eqb c.number 0 ≡ true
      → (sound r (length s.work) (length s.bodies) (length s.map_room) ≡ true)
      × (c ≡ record { number = 0; out = (push r.limits r.modes r.options (state_of r s.work s.bodies s.map_room) chunk).out; counts = (push r.limits r.modes r.options (state_of r s.work s.bodies s.map_room) chunk).counts; handed = record_of r.limits r.modes r.options led st })
  called_accepted e =
      let z : eqb (push_refusal r (length s.work) (length s.bodies) (length s.map_room) (length chunk) (length out)) 0 ≡ true =
      ap (λ (n : ℕ). eqb n 0) (sym (called_number r s.work s.bodies s.map_room chunk (length out))) ∙ e in
      (sound_of z, called_by r s.work s.bodies s.map_room chunk (length out) ∙ done z)
    where
      x : ℕ
      x = push_refusal r (length s.work) (length s.bodies) (length s.map_room) (length chunk) (length out)

      done : eqb x 0 ≡ true → form x r.limits r.modes r.options r.leading (state_of r s.work s.bodies s.map_room) r chunk
          ≡ record { number = 0; out = (push r.limits r.modes r.options (state_of r s.work s.bodies s.map_room) chunk).out; counts = (push r.limits r.modes r.options (state_of r s.work s.bodies s.map_room) chunk).counts; handed = record_of r.limits r.modes r.options led st }
      done z = ap (λ (b : Bool). cond b
          (record { number = 0; out = (push r.limits r.modes r.options (state_of r s.work s.bodies s.map_room) chunk).out; counts = (push r.limits r.modes r.options (state_of r s.work s.bodies s.map_room) chunk).counts; handed = record_of r.limits r.modes r.options led st })
          (record { number = x; out = []; counts = counts_of 0; handed = r })) z

      sound_of : eqb x 0 ≡ true → sound r (length s.work) (length s.bodies) (length s.map_room) ≡ true
      sound_of z = accepted_sound r (length s.work) (length s.bodies) (length s.map_room) (length chunk) (length out) z

  pub accepted : eqb c.number 0 ≡ true → (x : Result) × (t : Recorder) × Allows s (Push chunk out) x t
  accepted e =
      let q = called_accepted e in
      let f = fits q.0 in
      let work : Bytes = st.held ++ drop (length st.held) s.work in
      let bodies : Bytes = kept in
      let y : Bytes = flatten c.out in
      let n : c.counts.bytes ≡ length y = ap (λ (z : Called). z.counts.bytes) q.1 ∙ bytes_are r.limits r.modes r.options (state_of r s.work s.bodies s.map_room) chunk ∙ ap (λ (z : Called). length (flatten z.out)) (sym q.1) in (
        Pushed (record { answer = a.0; counts = c.counts; filter = filter_of c.handed }) (y ++ drop c.counts.bytes out),
        record { handed = c.handed; work = work; bodies = bodies; map_room = st.known.map_room },
        (
          record {
            answer_is = a.1;
            counts_are = refl;
            handed_is = record_of_lem c.handed;
            written = overwritten y out c.counts.bytes n;
            rooms = subst (λ (b : Bool). RoomsAfter b st (record_in (filter_of c.handed)) s.work s.bodies s.map_room work bodies st.known.map_room) (sym e)
                (ap (λ (z : Record). state_of z work bodies st.known.map_room) (record_of_lem c.handed ∙ ap (λ (z : Called). z.handed) q.1) ∙ f.back);
            work_length = over_front st.held s.work f.work_fits;
            bodies_length = f.bodies_fit;
          },
          sym (record_of_lem c.handed),
        ),
      )

push_total : (s : Recorder) (chunk out : Bytes) → (x : Result) × (t : Recorder) × Allows s (Push chunk out) x t
push_total s chunk out = go (eqb (called s.handed s.work s.bodies s.map_room chunk (length out)).number 0) refl
  where
    go : (b : Bool) → eqb (called s.handed s.work s.bodies s.map_room chunk (length out)).number 0 ≡ b → (x : Result) × (t : Recorder) × Allows s (Push chunk out) x t
    go true e = accepted s chunk out e
    go false e = refused s chunk out e

-- ---- the others

ask_total : (s : Recorder) → (x : Result) × (t : Recorder) × Allows s Ask x t
ask_total s =
    let n = sound_refusal s.handed (length s.work) (length s.bodies) (length s.map_room) in
    let a = answer_with n (ask_few s.handed (length s.work) (length s.bodies) (length s.map_room)) in (
      Asked (record { answer = a.0; count = dropped_now s.handed s.work s.bodies s.map_room; filter = filter_of s.handed }),
      record { handed = record_in (filter_of s.handed); work = s.work; bodies = s.bodies; map_room = s.map_room },
      (record { answer_is = a.1; count_is = refl; handed_is = record_of_lem s.handed }, refl),
    )

pub total : Total
total = record {
  start = λ L M o map_room.
      let a = answer_with (started L M o map_room).number (start_few L M o map_room) in
      (record { answer = a.0; filter = filter_of (started L M o map_room).handed }, record { answer_is = a.1; handed_is = record_of_lem (started L M o map_room).handed });
  call = λ s c. calls s c;
  tally = λ t c. let a = answer_with (tally_refusal t c) (tally_few t c) in (tallied t c, a.0, (refl, a.1));
  narrow = narrow_total;
}
  where
    calls : (s : Recorder) (c : Call) → (x : Result) × (t : Recorder) × Allows s c x t
    calls s (Push chunk out) = push_total s chunk out
    calls s Ask = ask_total s
