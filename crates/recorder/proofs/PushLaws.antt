-- A push on a record, by its answer: what is asked before it runs, and what the record, the rooms and the output are afterwards. Rests on
-- StateLaws, and on PartLaws of `soundness`.
use Prim.Native.Nat.{ℕ, ◌+◌, ◌-◌, ◌≤◌, ◌<◌}
use mathlib.Core.Path.{◌≡◌, refl, sym, ap, ◌∙◌, subst}
use mathlib.Core.Bool.{Bool, true, false, cond}
use mathlib.Core.List.{List, [], flatten}
use native.Mathlib.Omega.{arith}
use lib.ListN.{length, take}
use lib.Dec.{leb, eqb}
use borrow.Author.Tests.{clash, leb-true, eqb-true}
use Rattle.meaning.specs.Bytes.{Bytes}
use Rattle.meaning.specs.Wishes.{copies_all}
use Rattle.meaning.specs.Rooms.{packet_limit}
use Rattle.meaning.specs.Rules.{dropped}
use Rattle.std.specs.Prelude.{Ok, Err, is_err}
use Rattle.meaning.specs.Refusals.{Answer, number_of, answer_number}
use Rattle.meaning.specs.Record.{Record, record_of, state_of}
use Rattle.meaning.specs.Soundness.{sound, sound_refusal}
use Rattle.meaning.specs.Calls.{counts_of}
use Rattle.meaning.specs.Leading.{leading_pushed}
use Rattle.meaning.specs.Push.{Outcome, push, push_refusal, length_refusal, called}
use Rattle.meaning.specs.Dropped.{dropped_now}
use Rattle.meaning.proofs.AnswerLaws.{refused_told}
use Rattle.meaning.specs.declared.Limits.{Limits}
use Rattle.meaning.specs.declared.Refusal.TheVariants.{Unsound}
use Rattle.meaning.proofs.Writes.{wrote_none}
use Rattle.meaning.proofs.SoundnessLaws.{HoldsState, state_holds, push_holds, good_limit}
use Rattle.observing.specs.Observed.{Holding, HoldingSome}
use Rattle.recorder.specs.declared.Filter.{Filter}
use Rattle.recorder.specs.declared.call.CarriedOut.{CarriedOut}
use Rattle.soundness.specs.Parts.{parts_sound}
use Rattle.recorder.specs.Filter.{record_in, extent_of, begun_of, handed_of}
use Rattle.learning.specs.declared.Kept.{Kept}
use Rattle.recorder.specs.Slots.{cleared_in}
use Rattle.recorder.specs.Calls.{RoomFor, CarriedOutAs, CarriesOut, PushedAs, DroppedAs}
use Rattle.recorder.proofs.StateLaws.{Whole, record_parts, state_held, record_back, state_again}
use Rattle.soundness.proofs.PartLaws.{limit_fits}

-- ---- not refused

record Accepted (r : Record) (W T M n x : ℕ) : Type 0 where
  is_sound : sound r W T M ≡ true
  chunk_fits : n ≤ W - packet_limit W
  out_fits : r.held_count + n ≤ x

accepted : (r : Record) (W T M n x : ℕ) → push_refusal r W T M n x ≡ 0 → Accepted r W T M n x
unfolding push_refusal length_refusal
accepted r W T M n x e = go (sound r W T M) refl (leb n (W - packet_limit W)) refl (leb (r.held_count + n) x) refl e
  where
    go : (a : Bool) → sound r W T M ≡ a → (b : Bool) → leb n (W - packet_limit W) ≡ b → (c : Bool) → leb (r.held_count + n) x ≡ c → ◌≡◌ {A = ℕ} (cond a (cond b (cond c 0 6) 5) 4) 0 → Accepted r W T M n x
    go true p true q true s e = record { is_sound = p; chunk_fits = leb-true _ _ q; out_fits = leb-true _ _ s }
    go true p true q false s e = absurd (omega (arith, e))
    go true p false q c s e = absurd (omega (arith, e))
    go false p b q c s e = absurd (omega (arith, e))

-- ---- an answer, by whether it is a refusal

pub told_refused : (a : Answer) → is_err a ≡ true → eqb (answer_number a) 0 ≡ false
unfolding answer_number
told_refused (Ok x) e = sym e
told_refused (Err r) e = refused_told r

pub told_done : (a : Answer) → is_err a ≡ false → eqb (answer_number a) 0 ≡ true
unfolding answer_number
told_done (Ok x) e = refl
told_done (Err r) e = absurd (clash (sym e))

-- ---- a push on a record

-- All slots of the struct's arrays are there, by their types.
pub whole_record : (f : Filter) → length f.kept.data_set.words ≡ 1024 → length f.kept.packages ≡ 255 → length f.kept.map_heads ≡ 64 → length f.kept.fragment_heads ≡ 256
    → Whole (record_in f)
unfolding record_in
whole_record f c p m h = record { data_set_all = c; packages_all = p; map_heads_all = m; fragments_all = h }

module _ (f : Filter) (work bodies : Bytes) (map_room : List ℕ) (chunk out : Bytes) (a : Answer)
    (told : answer_number a ≡ cond (parts_sound f.limits f.options f.held_count (extent_of f) f.kept.packages f.kept.map_heads f.kept.fragment_heads (length work) (length bodies) (length map_room)) (length_refusal (length work) f.held_count (length chunk) (length out)) 4) where
  abbrev r : Record
  r = record_in f

  number_is : answer_number a ≡ push_refusal r (length work) (length bodies) (length map_room) (length chunk) (length out)
  unfolding record_in push_refusal sound
  number_is = told

  -- ---- refused: all is as it was

  called_refused : eqb (answer_number a) 0 ≡ false
      → called r work bodies map_room chunk (length out) ≡ record { number = answer_number a; out = []; counts = counts_of 0; handed = r }
  unfolding called
  called_refused e = rw (sym (ap (λ (n : ℕ). eqb n 0) number_is) ∙ e, number_is)

  pub refused_as : eqb (answer_number a) 0 ≡ false → PushedAs r work bodies map_room chunk out (record { answer = a; counts = counts_of 0; filter = f }) work bodies map_room out
  unfolding flatten
  refused_as e =
      let c = called_refused e in
      record { answer_is = rw c refl; counts_are = rw c refl; handed_is = rw c refl; written = rw c (wrote_none out 0); rooms = rw (c, e) (refl, refl, refl); work_length = refl; bodies_length = refl }

  -- ---- not refused

  module _ (all : Whole (record_in f)) (e : eqb (answer_number a) 0 ≡ true) where
    when_done : Accepted r (length work) (length bodies) (length map_room) (length chunk) (length out)
    when_done = accepted r (length work) (length bodies) (length map_room) (length chunk) (length out) (sym number_is ∙ eqb-true (answer_number a) 0 e)

    -- the arrays, cleared, hold the record's state
    held_count : Holding f.limits.total (state_of r work bodies map_room).known (extent_of f) (cleared_in (extent_of f) f.kept) map_room bodies
    unfolding record_in
    held_count = state_held r work bodies map_room (extent_of f) when_done.is_sound all (record { seen_is = refl; packages_are = refl; map_heads_are = refl; fragments_are = refl; leading_is = refl })

    pub may_carry_out : RoomFor (extent_of f) f.held_count chunk work out × (copies_all f.options ≡ true → f.held_count ≡ 0)
        × HoldingSome (extent_of f) (cleared_in (extent_of f) f.kept) map_room bodies
    unfolding record_in
    may_carry_out =
        let h = when_done in
        let few = record_parts r (length work) (length bodies) (length map_room) h.is_sound in
        let held_few : f.held_count < packet_limit (length work) = few.held_few in
        let limit = limit_fits (length work) in (
          record {
            none_lost = refl;
            work_room = omega (arith, held_few, h.chunk_fits);
            out_room = h.out_fits;
            work_few = few.work_few;
          },
          few.none_held,
          (f.limits.total, (state_of r work bodies map_room).known, held_count),
        )

    abbrev L : Limits
    L = f.limits

    abbrev after : Outcome
    after = push L f.modes f.options (state_of r work bodies map_room) chunk

    abbrev led : ℕ
    led = leading_pushed L f.options (state_of r work bodies map_room) chunk f.leading

    called_done : called r work bodies map_room chunk (length out) ≡ record { number = 0; out = after.out; counts = after.counts; handed = record_of L f.modes f.options led after.state }
    unfolding called record_in
    called_done = rw (sym (ap (λ (n : ℕ). eqb n 0) number_is) ∙ e)

    module _ (x : CarriedOut) (kept : Kept) (map_room' : List ℕ) (bodies' work' out' : Bytes) where
      ran_then : CarriedOutAs L after led out x kept map_room' bodies' work' out' → length work' ≡ length work
          → PushedAs r work bodies map_room chunk out (record { answer = a; counts = x.counts; filter = handed_of (begun_of f) x kept }) work' bodies' map_room' out'
      unfolding record_in
      ran_then h long =
          let c = called_done in
          let s = when_done.is_sound in
          let p = record_parts r (length work) (length bodies) (length map_room) s in
          let M = f.modes in
          let o = f.options in
          let same : record_in (handed_of (begun_of f) x kept) ≡ record_of L M o led after.state = record_back L M o led after.state h.holding x.held_count h.held_is h.leading_is in
          let four : 4 ≤ packet_limit L.work = subst (λ (n : ℕ). 4 ≤ packet_limit n) (sym p.work_is) (good_limit (length work) p.work_good) in
          let holds : HoldsState L o after.state = push_holds L M o (state_of r work bodies map_room) chunk four (state_holds r work bodies map_room s) in
          let front : take (length after.state.held) work' ≡ after.state.held = ap (λ (n : ℕ). take n work') (sym h.held_is) ∙ h.held_bytes in
          record {
            answer_is = rw c (eqb-true (answer_number a) 0 e);
            counts_are = rw c h.counts_are;
            handed_is = rw c same;
            written = rw (c, h.counts_are) h.written;
            rooms = rw (c, same) (state_again L M o led after.state h.holding work' holds h.leading_is front);
            work_length = long;
            bodies_length = h.holding.fragments_kept.total ∙ p.total_is;
          }

      pub done_as : CarriesOut (λ L st. push L f.modes f.options st chunk) (λ L st. leading_pushed L f.options st chunk) f.limits.most f.held_count (extent_of f) (cleared_in (extent_of f) f.kept) map_room
          bodies work out x kept map_room' bodies' work' out' → length work' ≡ length work
          → PushedAs r work bodies map_room chunk out (record { answer = a; counts = x.counts; filter = handed_of (begun_of f) x kept }) work' bodies' map_room' out'
      unfolding record_in state_of
      done_as h long =
          let p = record_parts r (length work) (length bodies) (length map_room) when_done.is_sound in
          ran_then (h L (state_of r work bodies map_room).known refl p.work_is held_count) long

-- ---- the number of dropped identifiers

module _ (f : Filter) (work bodies : Bytes) (map_room : List ℕ) where
  abbrev asked : Record
  asked = record_in f

  counted : (b : Bool) → sound asked (length work) (length bodies) (length map_room) ≡ b
      → (sound_refusal asked (length work) (length bodies) (length map_room) ≡ cond b 0 4) × (dropped_now asked work bodies map_room ≡ cond b (dropped asked.options (state_of asked work bodies map_room).known) 0)
  unfolding sound_refusal dropped_now
  counted true e = (ap (λ (b : Bool). cond b 0 4) e, ap (λ (b : Bool). cond (eqb (cond b 0 4) 0) (dropped asked.options (state_of asked work bodies map_room).known) 0) e)
  counted false e = (ap (λ (b : Bool). cond b 0 4) e, ap (λ (b : Bool). cond (eqb (cond b 0 4) 0) (dropped asked.options (state_of asked work bodies map_room).known) 0) e)

  pub not_counted : sound asked (length work) (length bodies) (length map_room) ≡ false → DroppedAs asked work bodies map_room (record { answer = Err Unsound; count = 0; filter = f })
  unfolding answer_number number_of
  not_counted e = let h = counted false e in record { answer_is = sym h.0; count_is = sym h.1; handed_is = refl }

  pub counted_as : (n : ℕ) → sound asked (length work) (length bodies) (length map_room) ≡ true → n ≡ dropped asked.options (state_of asked work bodies map_room).known
      → DroppedAs asked work bodies map_room (record { answer = Ok tt; count = n; filter = f })
  unfolding answer_number
  counted_as n e q = let h = counted true e in record { answer_is = sym h.0; count_is = q ∙ sym h.1; handed_is = refl }
