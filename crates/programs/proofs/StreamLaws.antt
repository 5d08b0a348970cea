-- A stream from its start over chunk after chunk to its end, and what is left to be told of an input. Rests on ProgramLaws and SeriesLaws
-- of `meaning`: no call of a program is refused, and one chunk more is one call more.
use Rattle.std.specs.Prelude.{Option, Some, None, Ok, Err, is_ok, unwrap_or}
use Prim.Native.Nat.{ℕ, zero, suc, ◌-◌, ◌≤◌}
use mathlib.Core.Path.{◌≡◌, refl, sym, ap, ◌∙◌, subst}
use mathlib.Core.Bool.{Bool, cond, true, false, false≢true}
use mathlib.Core.List.{List, [], ◌∷◌, ◌++◌, flatten, append_assoc, append-nil}
use native.Mathlib.Omega.{arith}
use lib.ListN.{length, take, drop, replicate, length-replicate, length-take}
use lib.Dec.{eqb}
use borrow.Author.Tests.{eqb-true}
use Rattle.meaning.specs.Bytes.{Bytes}
use Rattle.meaning.specs.Writing.{Wrote}
use Rattle.meaning.specs.Refusals.{Answer, number_of, answer_number}
use Rattle.meaning.specs.Wishes.{wants_assets, all_off}
use Rattle.meaning.specs.Rooms.{good_work_room, good_fragment_room, good_map_room}
use Rattle.meaning.specs.Record.{State, Record, record_of, state_of}
use Rattle.meaning.specs.Calls.{Called}
use Rattle.meaning.specs.Start.{start_refusal, fresh, started}
use Rattle.meaning.specs.Leading.{leading_pushed}
use Rattle.meaning.specs.Push.{push, called}
use Rattle.meaning.specs.Tally.{add_counts, fits64, tally_refusal, tallied}
use Rattle.meaning.specs.Series.{Series}
use Rattle.meaning.specs.Readers.{walk}
use Rattle.meaning.specs.Programs.{input_refused, input_refusal, input_options, chunk, program_limits, program_calls, sums_of, refused_line, filter_writes, sums_writes}
use Rattle.meaning.specs.declared.Limits.{Limits}
use Rattle.meaning.specs.declared.Options.{Options}
use Rattle.meaning.specs.declared.Modes.{Modes}
use Rattle.meaning.specs.declared.Counts.{Counts}
use Rattle.meaning.specs.declared.Refusal.{Refusal}
use Rattle.meaning.specs.declared.Refusal.TheVariants.{Input}
use Rattle.meaning.proofs.AnswerLaws.{refused_told, not_zero}
use Rattle.meaning.proofs.SoundnessLaws.{HoldsState}
use Rattle.meaning.proofs.SeriesLaws.{own_leading, joined, alone, fresh_back, called_taken}
use Rattle.meaning.proofs.ProgramLaws.{refusal_by_three, options_by_three, chunks_append, limits_good, calls_hold, call_taken, calls_none, calls_one}
use Rattle.recorder.specs.declared.Started.{Started}
use Rattle.recorder.specs.Filter.{record_in}
use Rattle.recorder.specs.Calls.{StartedAs, RoomsAfter}
use Rattle.programs.specs.declared.lines.Ending.{Ending}
use Rattle.programs.specs.declared.lines.Writes.{Writes}
use Rattle.programs.specs.declared.stream.Rooms.{Rooms}
use Rattle.programs.specs.declared.stream.Standing.{Standing}
use Rattle.programs.specs.Pipe.{came_of}
use Rattle.programs.specs.Asked.{asked_of}
use Rattle.programs.specs.Lines.{well_line, line_by, last_line}
use Rattle.programs.specs.Stream.{first_of, to_write, RoomsLong, TakenAs, Left, WrittenAs, ended_as, NextAs, goes_on, sums_refusal, Come, ComeIn, Goes, begun_as, ending_of, unasked_as, run_refusal, Ran, HeadedAs, RanBy, line_for, WroteLine, Told}
use Rattle.programs.proofs.AskedLaws.{refusal_asked, options_asked}

-- ---- what came, and an answer by whether it is done

pub came_is : (came : Option ℕ) → came_of came ≡ unwrap_or came 0
came_is (Some n) = refl
came_is None = refl

pub ok_done : (a : Answer) → is_ok a ≡ eqb (answer_number a) 0
unfolding answer_number
ok_done (Ok x) = refl
ok_done (Err r) = sym (refused_told r)

-- ---- a start

program_start : (n : ℕ) (o : Options) → n ≡ 32768 → wants_assets o ≡ true → start_refusal program_limits.work program_limits.total program_limits.most n o ≡ 0
unfolding start_refusal good_work_room good_fragment_room good_map_room program_limits
program_start n o e w = rw (e, w)

module _ (M : Modes) (o : Options) (w : wants_assets o ≡ true) (map_room : List ℕ) (zeros : map_room ≡ replicate 32768 0) where
  map_room_long : length map_room ≡ 32768
  map_room_long = ap length zeros ∙ length-replicate {A = ℕ} 32768 0

  start_done : (started program_limits M o map_room).number ≡ 0
  unfolding started
  start_done = program_start (length map_room) o map_room_long w

  start_handed : (started program_limits M o map_room).handed ≡ record_of program_limits M o 0 (fresh map_room)
  unfolding started
  start_handed = rw start_done

  fresh_is : (program_calls M o []).state ≡ fresh map_room
  fresh_is = ap (λ (s : Series). s.state) (calls_none M o) ∙ ap fresh (sym zeros)

  total_few : program_limits.total ≤ 16777216
  unfolding program_limits
  total_few = omega arith

  none_summed : sums_refusal (program_calls M o []).counts ≡ 0
  unfolding sums_refusal fits64
  none_summed = ap (λ (s : Series). sums_refusal s.counts) (calls_none M o)

  limits_are : (work bodies : ℕ) → work ≡ 65536 → bodies ≡ 65536 → ◌≡◌ {A = Limits} (record { work = work; total = bodies; most = 65536 }) program_limits
  unfolding program_limits
  limits_are work bodies e f = λ i. record { work = e i; total = f i; most = 65536 }

  pub come_start : (work bodies : Bytes) (s : Started) → length work ≡ 65536 → length bodies ≡ 65536
      → StartedAs (record { work = length work; total = length bodies; most = 65536 }) M o map_room s → Come M o [] (begun_as s) work bodies map_room
  come_start work bodies s l b p =
      let q = subst (λ (L : Limits). StartedAs L M o map_room s) (limits_are (length work) (length bodies) l b) p in
      let r : record_in s.filter ≡ record_of program_limits M o 0 (fresh map_room) = q.handed_is ∙ start_handed in
      record {
        assets_wanted = w;
        chunks_are = tt;
        answer_is = q.answer_is ∙ start_done ∙ sym none_summed;
        sums_are = λ done. ap (λ (z : Series). z.counts) (sym (calls_none M o));
        record_is = own_leading program_limits M o 0 (program_calls M o []).state (record_in s.filter) (r ∙ ap (record_of program_limits M o 0) (sym fresh_is));
        state_is =
            ap (λ (z : Record). state_of z work bodies map_room) r
            ∙ fresh_back program_limits M o work bodies map_room total_few (subst (HoldsState program_limits o) fresh_is (calls_hold M o w []))
            ∙ sym fresh_is;
        work_long = l;
        bodies_long = b;
        map_room_long = map_room_long;
      }

  -- A start is not refused.
  pub start_taken : {x : Standing} {work bodies : Bytes} → Come M o [] x work bodies map_room → answer_number x.answer ≡ 0
  start_taken h = h.answer_is ∙ none_summed

-- ---- one chunk more

-- Of nothing to be written no part is.
pub none_to_write : (writes : Writes) (n : ℕ) (s : Bytes) → to_write writes n ≡ 0 → to_write writes (length (take (n - 0) s)) ≡ 0
none_to_write Writes.Stream n s e = simp length-take (omega arith)
none_to_write Writes.Sums n s e = refl

tally_sums : (a b : Counts) → tally_refusal a b ≡ sums_refusal (add_counts a b)
unfolding tally_refusal sums_refusal
tally_sums a b = refl

tally_fits : (a b : Counts) → tally_refusal a b ≡ 0 → tallied a b ≡ add_counts a b
unfolding tallied
tally_fits a b e = rw e

-- The push of a record's limits and options on the state that the rooms hold.
push_same : (L : Limits) (M : Modes) (o : Options) (leading : ℕ) (st : State) (r : Record) (now : State) (chunk : Bytes) → r ≡ record_of L M o leading st → now ≡ st
    → (push r.limits r.modes r.options now chunk).state ≡ (push L M o st chunk).state
unfolding record_of
push_same L M o leading st r now chunk e s = λ i. (push (e i).limits (e i).modes (e i).options (s i) chunk).state

room_long : (program_limits.work ≡ 65536) × (program_limits.total ≡ 65536)
unfolding program_limits
room_long = (refl, refl)

module _ (M : Modes) (o : Options) (cs : List Bytes) (x y : Standing) (chunk : Bytes) (rooms rooms' : Rooms)
    (h : Come M o cs x rooms.work rooms.bodies rooms.map_room) (done : answer_number x.answer ≡ 0) (some_bytes : 1 ≤ length chunk) (few : length chunk ≤ 32768) (long : RoomsLong rooms)
    (t : TakenAs (record_in x.filter) x.sums chunk rooms y rooms') where
  abbrev st : State
  st = (program_calls M o cs).state

  abbrev led : ℕ
  led = leading_pushed program_limits o st chunk (record_in x.filter).leading

  one : program_calls M o (cs ++ (chunk ∷ [])) ≡ joined (program_calls M o cs) (alone (push program_limits M o st chunk))
  one = calls_one M o h.assets_wanted cs chunk few

  call_is : called (record_in x.filter) rooms.work rooms.bodies rooms.map_room chunk (length rooms.out)
      ≡ record { number = 0; out = (push program_limits M o st chunk).out; counts = (push program_limits M o st chunk).counts; handed = record_of program_limits M o led (push program_limits M o st chunk).state }
  call_is =
      ap (λ (n : ℕ). called (record_in x.filter) rooms.work rooms.bodies rooms.map_room chunk n) long.out_long
      ∙ called_taken program_limits M o (record_in x.filter).leading st limits_good.0 limits_good.1 (calls_hold M o h.assets_wanted cs) (record_in x.filter) rooms.work rooms.bodies rooms.map_room (chunk, 65536)
      h.record_is h.state_is (h.work_long ∙ sym room_long.0) (h.bodies_long ∙ sym room_long.1) h.map_room_long (call_taken M o h.assets_wanted cs chunk few)

  answered : answer_number t.call.answer ≡ 0
  answered = t.pushed.answer_is ∙ ap (λ (z : Called). z.number) call_is

  counted : t.call.counts ≡ (push program_limits M o st chunk).counts
  counted = t.pushed.counts_are ∙ ap (λ (z : Called). z.counts) call_is

  -- the answer is that of the sums with this call's counts
  told : answer_number y.answer ≡ tally_refusal (program_calls M o cs).counts (push program_limits M o st chunk).counts
  told = t.answer_is ∙ (λ i. first_of (answered i) (tally_refusal (h.sums_are done i) (counted i)))

  state_then : state_of (record_in t.call.filter) rooms'.work rooms'.bodies rooms'.map_room ≡ (push program_limits M o st chunk).state
  state_then =
      subst (λ (z : Called). RoomsAfter (eqb z.number 0) (push (record_in x.filter).limits (record_in x.filter).modes (record_in x.filter).options (state_of (record_in x.filter) rooms.work rooms.bodies rooms.map_room) chunk).state (record_in t.call.filter) rooms.work rooms.bodies rooms.map_room rooms'.work rooms'.bodies rooms'.map_room)
      call_is t.pushed.rooms
      ∙ push_same program_limits M o (record_in x.filter).leading st (record_in x.filter) (state_of (record_in x.filter) rooms.work rooms.bodies rooms.map_room) chunk h.record_is h.state_is

  pub come_next : RoomsLong rooms' → Come M o (cs ++ (chunk ∷ [])) y rooms'.work rooms'.bodies rooms'.map_room
  come_next long' = record {
    assets_wanted = h.assets_wanted;
    chunks_are = chunks_append cs (chunk ∷ []) h.chunks_are (some_bytes, few, tt);
    answer_is = told ∙ tally_sums _ _ ∙ ap (λ (z : Series). sums_refusal z.counts) (sym one);
    sums_are = λ e.
        t.sums_are
        ∙ (λ i. tallied (h.sums_are done i) (counted i))
        ∙ tally_fits _ _ (sym told ∙ e)
        ∙ ap (λ (z : Series). z.counts) (sym one);
    record_is = own_leading program_limits M o led (program_calls M o (cs ++ (chunk ∷ []))).state (record_in y.filter) (ap record_in t.filter_is ∙ t.pushed.handed_is ∙ ap (λ (z : Called). z.handed) call_is ∙ ap (λ (z : Series). record_of program_limits M o led z.state) (sym one));
    state_is = ap (λ f. state_of (record_in f) rooms'.work rooms'.bodies rooms'.map_room) t.filter_is ∙ state_then ∙ ap (λ (z : Series). z.state) (sym one);
    work_long = long'.work_long;
    bodies_long = long'.bodies_long;
    map_room_long = long'.map_room_long;
  }

-- ---- on and on

pub goes_none : (x : Standing) (rooms : Rooms) → Goes x rooms (Some x) rooms
goes_none x rooms = λ M o cs h. ([], subst (λ (l : List Bytes). Come M o l x rooms.work rooms.bodies rooms.map_room) (sym (append-nil cs)) h)

-- What holds of a value holds of what is answered of it.
left_of : {A : Type 0} (P : A → Type 0) {a : A} (y : Option A) → Left (λ (x : A). x ≡ a) y → P a → Left P y
left_of P (Some x) e p = subst P (sym e) p
left_of P {a = a} None e p = (a, p)

module _ {x₀ x : Standing} (rooms₀ rooms rooms' : Rooms) (g : Goes x₀ rooms₀ (Some x) rooms) where
  goes_ended : (came : Option ℕ) → Goes x₀ rooms₀ (ended_as x came) rooms
  goes_ended (Some n) = g
  goes_ended None = λ M o cs h. let k = g M o cs h in (k.0, (x, k.1))

  module _ {writes : Writes} {y : Option Standing} (done : answer_number x.answer ≡ 0) (long : RoomsLong rooms) (long' : RoomsLong rooms') where
    goes_next : {chunk : Bytes} → 1 ≤ length chunk → length chunk ≤ 32768 → WrittenAs writes (record_in x.filter) x.sums chunk rooms y rooms' → Goes x₀ rooms₀ y rooms'
    goes_next {chunk} some_bytes few t = λ M o cs h.
        let k = g M o cs h in (
          k.0 ++ (chunk ∷ []),
          left_of (λ z. Come M o (cs ++ (k.0 ++ (chunk ∷ []))) z rooms'.work rooms'.bodies rooms'.map_room) y t.is
              (subst (λ (l : List Bytes). Come M o l t.standing rooms'.work rooms'.bodies rooms'.map_room) (append_assoc cs k.0 (chunk ∷ []))
              (come_next M o (cs ++ k.0) x t.standing chunk rooms rooms' k.1 done some_bytes few long t.taken long')),
        )

    pub goes_read : {came : Option ℕ} {chunk : Bytes} → came_of came ≤ length chunk → length chunk ≡ 32768 → NextAs writes x came chunk rooms y rooms' → {z : Option Standing} → y ≡ z → Goes x₀ rooms₀ z rooms'
    goes_read {came} within full t is = subst (λ v. Goes x₀ rooms₀ v rooms') is (go (came_of came) refl)
      where
        go : (n : ℕ) → came_of came ≡ n → Goes x₀ rooms₀ y rooms'
        go zero e = let k = t.none_came e in rw (k.0, k.1) (goes_ended came)
        go (suc n) e = goes_next (simp length-take (omega arith)) (simp length-take (omega arith)) (t.some_came (omega arith))

pub going : (x : Standing) (came : Option ℕ) → goes_on x came ≡ true → answer_number x.answer ≡ 0
going x came e = go (eqb (came_of came) 0) e
  where
    go : (none : Bool) → cond none false (eqb (answer_number x.answer) 0) ≡ true → answer_number x.answer ≡ 0
    go true q = absurd (false≢true q)
    go false q = eqb-true (answer_number x.answer) 0 q

-- ---- an input

refused_empty : input_refusal [] ≡ number_of Input
unfolding input_refusal input_refused number_of
refused_empty = refl

held_by : (M : Modes) (o : Options) (leading : ℕ) (s : State) (x : Standing) → record_in x.filter ≡ record_of program_limits M o leading s → x.filter.held_count ≡ length s.held
unfolding record_in record_of
held_by M o leading s x e = ap (λ (r : Record). r.held_count) e

module _ (head : Bytes) {rooms : Rooms} where
  ran_unasked : (r : Refusal) → input_refusal head ≡ number_of r → length head ≤ 3 → Ran head [] rooms (unasked_as r) rooms
  unfolding run_refusal answer_number
  ran_unasked r e short = record {
    head_short = short;
    chunks_are = tt;
    answer_is = rw (e, refused_told r);
    sums_are = λ z. not_zero r z;
    held_is = λ z. not_zero r z;
    rooms_left = (0, rw (e, refused_told r) (refl, refl, refl));
  }

  ran_stream : {cs : List Bytes} {rooms' : Rooms} (x : Standing) → input_refusal head ≡ 0 → length head ≤ 3
      → Come all_off (input_options head) cs x rooms'.work rooms'.bodies rooms'.map_room → Ran head cs rooms (ending_of x) rooms'
  unfolding run_refusal
  ran_stream {cs} {rooms'} x e short h = record {
    head_short = short;
    chunks_are = h.chunks_are;
    answer_is = rw e h.answer_is;
    sums_are = h.sums_are;
    held_is = λ z. held_by all_off (input_options head) (record_in x.filter).leading (program_calls all_off (input_options head) cs).state x h.record_is;
    rooms_left = ((record_in x.filter).leading, rw e (ap (λ (r : Record). state_of r rooms'.work rooms'.bodies rooms'.map_room) (sym h.record_is) ∙ h.state_is));
  }

-- By what it asks for.
module _ (head : Bytes) (short : length head ≤ 3) (rooms : Rooms) where
  pub by_refusal : {r : Refusal} → asked_of head ≡ Err r → HeadedAs head rooms (Some (unasked_as r)) rooms
  by_refusal {r} e = (([], ran_unasked head r (refusal_asked head e) short), λ z. refl)

  pub asked_assets : {o : Options} → asked_of head ≡ Ok o → wants_assets o ≡ true
  asked_assets e = (options_asked head e).2

  -- Of a stream that did not fail, and of one that did.
  pub by_stream : {o : Options} {x : Standing} (rooms' : Rooms) → asked_of head ≡ Ok o → ((cs : List Bytes) × ComeIn all_off o cs (Some x) rooms') → HeadedAs head rooms (Some (ending_of x)) rooms'
  by_stream {o} {x} rooms' e h =
      let k = options_asked head e in
      ((h.0, ran_stream head x k.0 short (rw k.1 at h.1)), λ z. refl)

  pub by_failure : {o : Options} (rooms' : Rooms) → asked_of head ≡ Ok o → ((cs : List Bytes) × ComeIn all_off o cs None rooms') → HeadedAs head rooms None rooms'
  by_failure {o} rooms' e h =
      let k = options_asked head e in
      ((h.0, (ending_of h.1.0, ran_stream head h.1.0 k.0 short (rw k.1 at h.1.1))), λ z. absurd (false≢true (sym z ∙ ap (λ (m : ℕ). eqb m 0) k.0)))

-- There is a head.
pub ran_some : (came : Option ℕ) (s : Bytes) (rooms rooms' : Rooms) (e : Option Ending) → RanBy came s rooms e rooms'
    → (head : Bytes) × (cs : List Bytes) × Left (λ x. Ran head cs rooms x rooms') e
ran_some (Some n) s rooms rooms' e r = (take n s, r.0.0, r.0.1)
ran_some None s rooms rooms' e r = rw (r.0, r.1) ([], [], (unasked_as Input, ran_unasked [] Input refused_empty (omega arith)))

-- ---- the last line

line_same : (n m : ℕ) (writes : Writes) (c d : Counts) (h k : ℕ) → n ≡ m → (n ≡ 0 → c ≡ d) → (n ≡ 0 → h ≡ k) → line_by n writes c h ≡ line_by m writes d k
line_same n m writes c d h k e p q = go (eqb n 0) refl
  where
    go : (b : Bool) → eqb n 0 ≡ b → line_by n writes c h ≡ line_by m writes d k
    go true z = let n-is = eqb-true n 0 z in λ i. line_by (e i) writes (p n-is i) (q n-is i)
    go false z =
        ap (λ (b : Bool). cond b (well_line writes c h) (refused_line n)) z
        ∙ ap (λ (b : Bool). cond b (well_line writes d k) (refused_line n)) (sym z)
        ∙ ap (λ (l : ℕ). line_by l writes d k) e

module _ {rooms rooms' : Rooms} where
  -- An ending's is that of its input.
  line_is : (e : Ending) (head : Bytes) (cs : List Bytes) → Ran head cs rooms e rooms' → (writes : Writes) → last_line (Some e) writes ≡ line_for writes head cs
  unfolding last_line line_for
  line_is e head cs r writes =
      let x = program_calls all_off (input_options head) cs in
      line_same (answer_number e.answer) (run_refusal head cs) writes e.sums x.counts e.held_count (length x.state.held) r.answer_is r.sums_are r.held_is

  told_with : {writes : Writes} {line line' : Bytes} {n : Option ℕ} {e : Ending} {head : Bytes} {cs : List Bytes} → Ran head cs rooms e rooms' → WroteLine (line_for writes head cs) line n line'
      → Told writes rooms line n rooms' line'
  told_with {head = head} {cs = cs} r w = record {
    head = head;
    chunks = cs;
    head_short = r.head_short;
    chunks_are = r.chunks_are;
    written = w;
    rooms_left = r.rooms_left;
  }

  pub told_as : {e : Ending} {writes : Writes} {line line' : Bytes} {n : ℕ} → ((head : Bytes) × (cs : List Bytes) × Ran head cs rooms e rooms') → Wrote (last_line (Some e) writes) line 0 line' n
      → Told writes rooms line (Some n) rooms' line'
  told_as {e} {writes} {line} {line'} {n} r w = told_with r.2 (subst (λ (l : Bytes). Wrote l line 0 line' n) (line_is e r.0 r.1 r.2 writes) w)

  pub told_none : {writes : Writes} {line : Bytes} → ((head : Bytes) × (cs : List Bytes) × ((e : Ending) × Ran head cs rooms e rooms')) → Told writes rooms line None rooms' line
  told_none r = told_with r.2.1 refl

-- Where head and chunks are those of an input whose sums fit, it is what the definitions of the programs say: `sums` writes no more, and
-- `filter` writes what its calls wrote before it.
module _ (s : Bytes) (fits : fits64 (sums_of s).counts ≡ true) where
  calls_are : program_calls all_off (input_options (take 3 s)) (walk chunk (drop 3 s)).found ≡ sums_of s
  unfolding sums_of
  calls_are = ap (λ (o : Options). program_calls all_off o (walk chunk (drop 3 s)).found) (options_by_three s)

  refusal_is : run_refusal (take 3 s) (walk chunk (drop 3 s)).found ≡ input_refusal s
  unfolding run_refusal sums_refusal
  refusal_is = rw (refusal_by_three s, calls_are, fits) (go (eqb (input_refusal s) 0) refl)
    where
      go : (b : Bool) → eqb (input_refusal s) 0 ≡ b → cond b 0 (input_refusal s) ≡ input_refusal s
      go true e = sym (eqb-true (input_refusal s) 0 e)
      go false e = refl

  line_by_lem : (writes : Writes) → line_for writes (take 3 s) (walk chunk (drop 3 s)).found ≡ line_by (input_refusal s) writes (sums_of s).counts (length (sums_of s).state.held)
  unfolding line_for
  line_by_lem writes = rw (refusal_is, calls_are)

  pub sums_last : line_for Writes.Sums (take 3 s) (walk chunk (drop 3 s)).found ≡ sums_writes s
  unfolding sums_writes
  sums_last = line_by_lem Writes.Sums

  pub filter_last : cond (eqb (input_refusal s) 0) (flatten (sums_of s).out) [] ++ line_for Writes.Stream (take 3 s) (walk chunk (drop 3 s)).found ≡ filter_writes s
  unfolding filter_writes
  filter_last = ap (λ (l : Bytes). cond (eqb (input_refusal s) 0) (flatten (sums_of s).out) [] ++ l) (line_by_lem Writes.Stream) ∙ go (eqb (input_refusal s) 0)
    where
      go : (b : Bool) → cond b (flatten (sums_of s).out) [] ++ cond b [] (refused_line (input_refusal s)) ≡ cond b (flatten (sums_of s).out) (refused_line (input_refusal s))
      go true = append-nil (flatten (sums_of s).out)
      go false = refl
