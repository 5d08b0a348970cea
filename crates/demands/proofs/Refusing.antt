-- Demand 1: the number that is answered is the lowest that applies, and a call that is refused changes nothing. Rests on the promises alone.
use Prim.Native.Nat.{ℕ, ◌+◌, ◌-◌}
use mathlib.Core.Path.{◌≡◌, refl, sym, ap, ap₂, ◌∙◌, subst}
use mathlib.Core.Bool.{Bool, true, false, cond, not}
use mathlib.Core.List.{List, [], ◌∷◌, flatten}
use lib.ListN.{length}
use lib.Dec.{eqb, leb, ltb}
use borrow.Author.Tests.{eqb-true}
use Rattle.meaning.specs.Bytes.{Bytes}
use Rattle.meaning.specs.Writing.{Wrote}
use Rattle.meaning.specs.Wishes.{wants_assets}
use Rattle.meaning.specs.Rooms.{packet_limit, good_work_room, good_fragment_room, good_map_room}
use Rattle.meaning.specs.Rules.{dropped}
use Rattle.meaning.specs.Refusals.{answer_number}
use Rattle.meaning.specs.Record.{Record, state_of}
use Rattle.meaning.specs.Soundness.{sound, sound_refusal}
use Rattle.meaning.specs.Calls.{counts_of, Called}
use Rattle.meaning.specs.Start.{blank, start_refusal, started}
use Rattle.meaning.specs.Push.{push, length_refusal, push_refusal, called}
use Rattle.meaning.specs.Dropped.{dropped_now}
use Rattle.meaning.specs.Tally.{add_counts, fits64, tally_refusal, tallied}
use Rattle.meaning.specs.declared.Limits.{Limits}
use Rattle.meaning.specs.declared.Options.{Options}
use Rattle.meaning.specs.declared.Modes.{Modes}
use Rattle.meaning.specs.declared.Counts.{Counts}
use Rattle.meaning.proofs.SoundnessLaws.{blank_unsound}
use Rattle.recorder.specs.Filter.{record_in}
use Rattle.recorder.specs.Calls.{PushedAs, RoomsAfter}
use Rattle.recorder.specs.declared.Pushed as pushed
use Rattle.demands.specs.Demands.{Recorder, Push, Pushed, Allows, lowest, Refusing}
use Rattle.demands.proofs.Tests.{below_is, unwritten}
use Rattle.demands.proofs.Between.{asked_stays}
use Rattle.demands.proofs.Narrowings.{narrow_refused}

-- The first of three numbers, and of one.
lowest_of : (x y z : ℕ) (a b c : Bool) → cond a (cond b (cond c 0 z) y) x ≡ lowest ((x, not a) ∷ (y, not b) ∷ (z, not c) ∷ [])
unfolding lowest
lowest_of x y z true true true = refl
lowest_of x y z true true false = refl
lowest_of x y z true false c = refl
lowest_of x y z false b c = refl

lowest_one : (x : ℕ) (a : Bool) → cond a 0 x ≡ lowest ((x, not a) ∷ [])
unfolding lowest
lowest_one x true = refl
lowest_one x false = refl

-- ---- a start

-- The first of four.
lowest_start : (a b c d : Bool) → cond a (cond b (cond c (cond d 0 9) 3) 2) 1 ≡ lowest ((1, not a) ∷ (2, not b) ∷ (3, not c) ∷ (9, not d) ∷ [])
unfolding lowest
lowest_start true true true true = refl
lowest_start true true true false = refl
lowest_start true true false d = refl
lowest_start true false c d = refl
lowest_start false b c d = refl

start_number : (L : Limits) (M : Modes) (o : Options) (map_room : List ℕ) → (started L M o map_room).number
    ≡ lowest ((1, not (good_work_room L.work)) ∷ (2, not (good_fragment_room L.total L.most)) ∷ (3, not (good_map_room (length map_room))) ∷ (9, not (wants_assets o)) ∷ [])
unfolding started start_refusal
start_number L M o map_room = lowest_start (good_work_room L.work) (good_fragment_room L.total L.most) (good_map_room (length map_room)) (wants_assets o)

start_blank : (L : Limits) (M : Modes) (o : Options) (map_room : List ℕ) → eqb (started L M o map_room).number 0 ≡ false → (started L M o map_room).handed ≡ blank
unfolding started
start_blank L M o map_room e = rw e

-- ---- a push

module _ (r : Record) (work bodies : Bytes) (map_room : List ℕ) (chunk : Bytes) (n : ℕ) where
  abbrev x : ℕ
  x = push_refusal r (length work) (length bodies) (length map_room) (length chunk) n

  pub called_number : (called r work bodies map_room chunk n).number ≡ x
  unfolding called
  called_number = go (eqb x 0) refl
    where
      go : (b : Bool) → eqb x 0 ≡ b → (called r work bodies map_room chunk n).number ≡ x
      go true e = rw e (sym (eqb-true x 0 e))
      go false e = rw e

  pub called_refused : eqb (called r work bodies map_room chunk n).number 0 ≡ false
      → called r work bodies map_room chunk n ≡ record { number = x; out = []; counts = counts_of 0; handed = r }
  unfolding called
  called_refused e = let z : eqb x 0 ≡ false = ap (λ (k : ℕ). eqb k 0) (sym called_number) ∙ e in rw z

  push_number : x ≡ lowest ((4, not (sound r (length work) (length bodies) (length map_room))) ∷ (5, ltb (length work - packet_limit (length work)) (length chunk)) ∷ (6, ltb n (r.held_count + length chunk)) ∷ [])
  unfolding push_refusal length_refusal
  push_number =
      lowest_of 4 5 6 (sound r (length work) (length bodies) (length map_room)) (leb (length chunk) (length work - packet_limit (length work))) (leb (r.held_count + length chunk) n)
      ∙ ap₂ (λ (b c : Bool). lowest ((4, not (sound r (length work) (length bodies) (length map_room))) ∷ (5, b) ∷ (6, c) ∷ []))
      (sym (below_is (length work - packet_limit (length work)) (length chunk))) (sym (below_is n (r.held_count + length chunk)))

module _ (s : Recorder) (chunk out : Bytes) (x : pushed.Pushed) (out' : Bytes) (t : Recorder) (a : Allows s (Push chunk out) (Pushed x out') t) where
  abbrev p : PushedAs s.handed s.work s.bodies s.map_room chunk out x t.work t.bodies t.map_room out'
  p = a.0

  pub pushed_refused : eqb (answer_number x.answer) 0 ≡ false → (t ≡ s) × (out' ≡ out) × (x.counts ≡ counts_of 0)
  unfolding flatten
  pushed_refused e =
      let f : eqb (called s.handed s.work s.bodies s.map_room chunk (length out)).number 0 ≡ false = ap (λ (k : ℕ). eqb k 0) (sym p.answer_is) ∙ e in
      let q = called_refused s.handed s.work s.bodies s.map_room chunk (length out) f in
      let rooms : (t.work ≡ s.work) × (t.bodies ≡ s.bodies) × (t.map_room ≡ s.map_room) =
      subst (λ (b : Bool). RoomsAfter b (push s.handed.limits s.handed.modes s.handed.options (state_of s.handed s.work s.bodies s.map_room) chunk).state (record_in x.filter) s.work s.bodies s.map_room t.work t.bodies t.map_room) f p.rooms in
      let r : t.handed ≡ s.handed = a.1 ∙ p.handed_is ∙ ap (λ (z : Called). z.handed) q in (
        λ i. record { handed = r i; work = rooms.0 i; bodies = rooms.1 i; map_room = rooms.2 i },
        unwritten out out' x.counts.bytes (subst (λ (z : Called). Wrote (flatten z.out) out 0 out' x.counts.bytes) q p.written),
        p.counts_are ∙ ap (λ (z : Called). z.counts) q,
      )

-- ---- the number of dropped identifiers, and the day tally

ask_number : (r : Record) (W T n : ℕ) → sound_refusal r W T n ≡ lowest ((4, not (sound r W T n)) ∷ [])
unfolding sound_refusal
ask_number r W T n = lowest_one 4 (sound r W T n)

none_counted : (r : Record) (work bodies : Bytes) (map_room : List ℕ) → eqb (sound_refusal r (length work) (length bodies) (length map_room)) 0 ≡ false → dropped_now r work bodies map_room ≡ 0
unfolding dropped_now
none_counted r work bodies map_room e = ap (λ (b : Bool). cond b (dropped r.options (state_of r work bodies map_room).known) 0) e

tally_number : (t c : Counts) → tally_refusal t c ≡ lowest ((7, not (fits64 (add_counts t c))) ∷ [])
unfolding tally_refusal
tally_number t c = lowest_one 7 (fits64 (add_counts t c))

tally_stays : (t c : Counts) → eqb (tally_refusal t c) 0 ≡ false → tallied t c ≡ t
unfolding tallied
tally_stays t c e = rw e

-- ---- together

pub refusing : Refusing
refusing = record {
  no_record = blank_unsound;
  start = λ L M o map_room x p. (
    p.answer_is ∙ start_number L M o map_room,
    λ e. p.handed_is ∙ start_blank L M o map_room (ap (λ (k : ℕ). eqb k 0) (sym p.answer_is) ∙ e),
  );
  push = λ s chunk out x out' t a. (
    a.0.answer_is ∙ called_number s.handed s.work s.bodies s.map_room chunk (length out) ∙ push_number s.handed s.work s.bodies s.map_room chunk (length out),
    pushed_refused s chunk out x out' t a,
  );
  ask = λ s x t a. (
    a.0.answer_is ∙ ask_number s.handed (length s.work) (length s.bodies) (length s.map_room),
    asked_stays s x t a,
    λ e. a.0.count_is ∙ none_counted s.handed s.work s.bodies s.map_room (ap (λ (k : ℕ). eqb k 0) (sym a.0.answer_is) ∙ e),
  );
  tally = λ t c u a p. (p.1 ∙ tally_number t c, λ e. p.0 ∙ tally_stays t c (ap (λ (k : ℕ). eqb k 0) (sym p.1) ∙ e));
  narrow = narrow_refused;
}
