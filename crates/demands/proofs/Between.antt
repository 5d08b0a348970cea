-- What holds between two calls of a series: the record is that of a state, the rooms hold it, and their lengths are the limits'. A start
-- that is not refused begins it, and each call that a promise allows goes on with it. Rests on SoundnessLaws of `meaning`.
use Prim.Native.Nat.{ℕ, ◌≤◌}
use mathlib.Core.Path.{◌≡◌, refl, sym, ap, ◌∙◌, subst}
use mathlib.Core.Bool.{Bool, true, false, cond, ◌&&◌}
use mathlib.Core.List.{List, [], flatten}
use native.Mathlib.Omega.{arith}
use lib.ListN.{length}
use lib.Dec.{eqb, leb}
use borrow.Author.Tests.{eqb-true, leb-true, eq-eqb}
use Rattle.meaning.specs.Bytes.{Bytes}
use Rattle.meaning.specs.Writing.{Wrote}
use Rattle.meaning.specs.Wishes.{wants_assets}
use Rattle.meaning.specs.Rooms.{good_work_room, good_fragment_room, good_map_room}
use Rattle.meaning.specs.Refusals.{answer_number}
use Rattle.meaning.specs.Record.{State, Record, record_of, state_of}
use Rattle.meaning.specs.Leading.{leading_pushed}
use Rattle.meaning.specs.Soundness.{sound, sound_refusal}
use Rattle.meaning.specs.Calls.{counts_of, Called}
use Rattle.meaning.specs.Start.{fresh, start_refusal, started}
use Rattle.meaning.specs.Push.{push, push_refusal, called}
use Rattle.meaning.specs.Series.{Lent, call_refusal}
use Rattle.meaning.specs.declared.Limits.{Limits}
use Rattle.meaning.specs.declared.Options.{Options}
use Rattle.meaning.specs.declared.Modes.{Modes}
use Rattle.meaning.proofs.ListLaws.{and_both}
use Rattle.meaning.proofs.SoundnessLaws.{HoldsState, fresh_holds, push_holds, good_limit, record_sound, refusal_same}
use Rattle.meaning.proofs.SeriesLaws.{own_leading, fresh_back}
use Rattle.recorder.specs.Filter.{record_in}
use Rattle.recorder.specs.Calls.{PushedAs, RoomsAfter}
use Rattle.recorder.specs.declared.Pushed as pushed
use Rattle.recorder.specs.declared.Dropped as dropped
use Rattle.demands.specs.Demands.{Recorder, Push, Ask, Pushed, Asked, Allows, Begun}

-- Limits that a start takes.
pub record Good (L : Limits) : Type 0 where
  pub work_good : good_work_room L.work ≡ true
  pub fragments_good : good_fragment_room L.total L.most ≡ true

pub record Between (L : Limits) (M : Modes) (o : Options) (st : State) (s : Recorder) : Type 0 where
  pub good : Good L
  pub record_is : s.handed ≡ record_of L M o s.handed.leading st
  pub state_is : state_of s.handed s.work s.bodies s.map_room ≡ st
  pub holds : HoldsState L o st
  pub work_long : length s.work ≡ L.work
  pub bodies_long : length s.bodies ≡ L.total

-- ---- a start

good_start : (L : Limits) (n : ℕ) (o : Options) → start_refusal L.work L.total L.most n o ≡ 0 → Good L × (n ≡ 32768) × (wants_assets o ≡ true)
unfolding start_refusal good_map_room
good_start L n o e = go (good_work_room L.work) refl (good_fragment_room L.total L.most) refl (good_map_room n) refl (wants_assets o) e
  where
    go : (a : Bool) → good_work_room L.work ≡ a → (b : Bool) → good_fragment_room L.total L.most ≡ b → (c : Bool) → good_map_room n ≡ c
        → (d : Bool) → ◌≡◌ {A = ℕ} (cond a (cond b (cond c (cond d 0 9) 3) 2) 1) 0 → Good L × (n ≡ 32768) × (d ≡ true)
    go true p true q true s true e = (record { work_good = p; fragments_good = q }, eqb-true n 32768 s, refl)
    go true p true q true s false e = absurd (omega (arith, e))
    go true p true q false s d e = absurd (omega (arith, e))
    go true p false q c s d e = absurd (omega (arith, e))
    go false p b q c s d e = absurd (omega (arith, e))

started_handed : (L : Limits) (M : Modes) (o : Options) (map_room : List ℕ) → (started L M o map_room).number ≡ 0
    → (start_refusal L.work L.total L.most (length map_room) o ≡ 0) × ((started L M o map_room).handed ≡ record_of L M o 0 (fresh map_room))
unfolding started
started_handed L M o map_room e = (e, rw e)

few_fragments : (T M : ℕ) → good_fragment_room T M ≡ true → T ≤ 16777216
unfolding good_fragment_room
few_fragments T M e =
    let a = and_both (leb 1 T && leb T 16777216 && leb 1 M) (leb M T) e in
    let b = and_both (leb 1 T && leb T 16777216) (leb 1 M) a.0 in
    leb-true T 16777216 (and_both (leb 1 T) (leb T 16777216) b.0).1

pub few_total : (L : Limits) → Good L → L.total ≤ 16777216
few_total L g = few_fragments L.total L.most g.fragments_good

pub begins : (L : Limits) (M : Modes) (o : Options) (s : Recorder) → Begun L M o s → Between L M o (fresh s.map_room) s
begins L M o s b =
    let h = started_handed L M o s.map_room (sym b.1.answer_is ∙ b.2) in
    let g = good_start L (length s.map_room) o h.0 in
    let k = fresh_holds L o s.map_room (omega (arith, good_limit L.work g.0.work_good)) g.1 g.2 in
    let r : s.handed ≡ record_of L M o 0 (fresh s.map_room) = b.3 ∙ b.1.handed_is ∙ h.1 in
    record {
      good = g.0;
      record_is = own_leading L M o 0 (fresh s.map_room) s.handed r;
      state_is = ap (λ (z : Record). state_of z s.work s.bodies s.map_room) r ∙ fresh_back L M o s.work s.bodies s.map_room (few_total L g.0) k;
      holds = k;
      work_long = sym b.4;
      bodies_long = sym b.5;
    }

-- ---- a push

-- What the definition says of a push on a state.
abbrev after : Bool → Limits → Modes → Options → ℕ → State → Record → Lent → Called
after true L M o leading st r c =
    record { number = 0; out = (push L M o st c.0).out; counts = (push L M o st c.0).counts; handed = record_of L M o (leading_pushed L o st c.0 leading) (push L M o st c.0).state }
after false L M o leading st r c = record { number = call_refusal L st c; out = []; counts = counts_of 0; handed = r }

abbrev pub form : ℕ → Limits → Modes → Options → ℕ → State → Record → Bytes → Called
form x L M o leading st r chunk =
    cond (eqb x 0)
    (record { number = 0; out = (push L M o st chunk).out; counts = (push L M o st chunk).counts; handed = record_of L M o (leading_pushed L o st chunk leading) (push L M o st chunk).state })
    (record { number = x; out = []; counts = counts_of 0; handed = r })

pub called_by : (r : Record) (work bodies : Bytes) (map_room : List ℕ) (chunk : Bytes) (n : ℕ)
    → called r work bodies map_room chunk n
    ≡ form (push_refusal r (length work) (length bodies) (length map_room) (length chunk) n) r.limits r.modes r.options r.leading (state_of r work bodies map_room) r chunk
unfolding called
called_by r work bodies map_room chunk n = refl

limits_are : (L : Limits) (M : Modes) (o : Options) (leading : ℕ) (st : State) (r : Record) → r ≡ record_of L M o leading st → (r.limits ≡ L) × (r.modes ≡ M) × (r.options ≡ o)
unfolding record_of
limits_are L M o leading st r e = (ap (λ (z : Record). z.limits) e, ap (λ (z : Record). z.modes) e, ap (λ (z : Record). z.options) e)

-- The state after a push, and the packets that it wrote.
abbrev pub state_after : Limits → Modes → Options → State → Lent → State
state_after L M o st c = cond (eqb (call_refusal L st c) 0) (push L M o st c.0).state st

abbrev pub packets_after : Limits → Modes → Options → State → Lent → List Bytes
packets_after L M o st c = cond (eqb (call_refusal L st c) 0) (push L M o st c.0).out []

-- A question leaves the recorder as it was.
pub asked_stays : (s : Recorder) (x : dropped.Dropped) (t : Recorder) → Allows s Ask (Asked x) t → t ≡ s
asked_stays s x t a = a.1 ∙ ap (λ (r : Record). record { handed = r; work = s.work; bodies = s.bodies; map_room = s.map_room }) a.0.handed_is

module _ (L : Limits) (M : Modes) (o : Options) (st : State) (s : Recorder) (h : Between L M o st s) where
  map_room_long : length s.map_room ≡ 32768
  unfolding state_of
  map_room_long = ap (λ (z : State). length z.known.map_room) h.state_is ∙ h.holds.known_holds.map_room_all

  refusal_is : (c : Lent) → push_refusal s.handed (length s.work) (length s.bodies) (length s.map_room) (length c.0) c.1 ≡ call_refusal L st c
  refusal_is c =
      (λ i. push_refusal (h.record_is i) (h.work_long i) (h.bodies_long i) (map_room_long i) (length c.0) c.1)
      ∙ refusal_same L M o s.handed.leading st c h.good.work_good h.good.fragments_good h.holds

  called_is : (c : Lent) (b : Bool) → eqb (call_refusal L st c) 0 ≡ b → called s.handed s.work s.bodies s.map_room c.0 c.1 ≡ after b L M o s.handed.leading st s.handed c
  called_is c b e =
      let l = limits_are L M o s.handed.leading st s.handed h.record_is in
      called_by s.handed s.work s.bodies s.map_room c.0 c.1
      ∙ (λ i. form (refusal_is c i) (l.0 i) (l.1 i) (l.2 i) s.handed.leading (h.state_is i) s.handed c.0)
      ∙ go (eqb (call_refusal L st c) 0)
      ∙ ap (λ (z : Bool). after z L M o s.handed.leading st s.handed c) e
    where
      go : (b : Bool) → cond b (after true L M o s.handed.leading st s.handed c) (after false L M o s.handed.leading st s.handed c) ≡ after b L M o s.handed.leading st s.handed c
      go true = refl
      go false = refl

  module _ (chunk out : Bytes) (x : pushed.Pushed) (out' : Bytes) (t : Recorder) (a : Allows s (Push chunk out) (Pushed x out') t) where
    abbrev c : Lent
    c = (chunk, length out)

    abbrev p : PushedAs s.handed s.work s.bodies s.map_room chunk out x t.work t.bodies t.map_room out'
    p = a.0

    state_then : eqb (call_refusal L st c) 0 ≡ true → state_of t.handed t.work t.bodies t.map_room ≡ (push L M o st chunk).state
    state_then e =
        let l = limits_are L M o s.handed.leading st s.handed h.record_is in
        ap (λ (z : Record). state_of z t.work t.bodies t.map_room) a.1
        ∙ subst (λ (z : Called). RoomsAfter (eqb z.number 0) (push s.handed.limits s.handed.modes s.handed.options (state_of s.handed s.work s.bodies s.map_room) chunk).state (record_in x.filter) s.work s.bodies s.map_room t.work t.bodies t.map_room)
        (called_is c true e) p.rooms
        ∙ (λ i. (push (l.0 i) (l.1 i) (l.2 i) (h.state_is i) chunk).state)

    rooms_same : eqb (call_refusal L st c) 0 ≡ false → (t.work ≡ s.work) × (t.bodies ≡ s.bodies) × (t.map_room ≡ s.map_room)
    rooms_same e =
        subst (λ (b : Bool). RoomsAfter b (push s.handed.limits s.handed.modes s.handed.options (state_of s.handed s.work s.bodies s.map_room) chunk).state (record_in x.filter) s.work s.bodies s.map_room t.work t.bodies t.map_room)
        (ap (λ (z : Called). eqb z.number 0) (called_is c false e) ∙ e) p.rooms

    pub counted : call_refusal L st c ≡ 0 → x.counts ≡ (push L M o st chunk).counts
    counted e = p.counts_are ∙ ap (λ (z : Called). z.counts) (called_is c true (eq-eqb (call_refusal L st c) 0 e))

    pub pushes : Between L M o (state_after L M o st c) t × (answer_number x.answer ≡ call_refusal L st c) × Wrote (flatten (packets_after L M o st c)) out 0 out' x.counts.bytes
    pushes = go (eqb (call_refusal L st c) 0) refl
      where
        go : (b : Bool) → eqb (call_refusal L st c) 0 ≡ b
            → Between L M o (state_after L M o st c) t × (answer_number x.answer ≡ call_refusal L st c) × Wrote (flatten (packets_after L M o st c)) out 0 out' x.counts.bytes
        go true e =
            let q = called_is c true e in (
              subst (λ (b : Bool). Between L M o (cond b (push L M o st chunk).state st) t) (sym e)
                  (record {
                    good = h.good;
                    record_is = own_leading L M o (leading_pushed L o st chunk s.handed.leading) (push L M o st chunk).state t.handed (a.1 ∙ p.handed_is ∙ ap (λ (z : Called). z.handed) q);
                    state_is = state_then e;
                    holds = push_holds L M o st chunk (good_limit L.work h.good.work_good) h.holds;
                    work_long = p.work_length ∙ h.work_long;
                    bodies_long = p.bodies_length ∙ h.bodies_long;
                  }),
              p.answer_is ∙ ap (λ (z : Called). z.number) q ∙ sym (eqb-true (call_refusal L st c) 0 e),
              subst (λ (b : Bool). Wrote (flatten (cond b (push L M o st chunk).out [])) out 0 out' x.counts.bytes) (sym e)
                  (subst (λ (z : Called). Wrote (flatten z.out) out 0 out' x.counts.bytes) q p.written),
            )
        go false e =
            let q = called_is c false e in
            let same = rooms_same e in
            let r : t.handed ≡ s.handed = a.1 ∙ p.handed_is ∙ ap (λ (z : Called). z.handed) q in (
              subst (λ (b : Bool). Between L M o (cond b (push L M o st chunk).state st) t) (sym e)
                  (record {
                    good = h.good;
                    record_is = own_leading L M o s.handed.leading st t.handed (r ∙ h.record_is);
                    state_is = (λ i. state_of (r i) (same.0 i) (same.1 i) (same.2 i)) ∙ h.state_is;
                    holds = h.holds;
                    work_long = p.work_length ∙ h.work_long;
                    bodies_long = p.bodies_length ∙ h.bodies_long;
                  }),
              p.answer_is ∙ ap (λ (z : Called). z.number) q,
              subst (λ (b : Bool). Wrote (flatten (cond b (push L M o st chunk).out [])) out 0 out' x.counts.bytes) (sym e)
                  (subst (λ (z : Called). Wrote (flatten z.out) out 0 out' x.counts.bytes) q p.written),
            )

  -- ---- a question: the record is sound

  sound_now : sound_refusal s.handed (length s.work) (length s.bodies) (length s.map_room) ≡ 0
  unfolding sound_refusal
  sound_now =
      let e : sound s.handed (length s.work) (length s.bodies) (length s.map_room) ≡ true =
      (λ i. sound (h.record_is i) (h.work_long i) (h.bodies_long i) (map_room_long i)) ∙ record_sound L M o s.handed.leading st h.good.work_good h.good.fragments_good h.holds in
      rw e

  pub asks : (x : dropped.Dropped) (t : Recorder) → Allows s Ask (Asked x) t → Between L M o st t × (answer_number x.answer ≡ 0)
  asks x t a = (subst (λ (u : Recorder). Between L M o st u) (sym (asked_stays s x t a)) h, a.0.answer_is ∙ sound_now)
