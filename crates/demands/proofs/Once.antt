-- Any two results that a promise allows are equal, and so are those of any two series of the same calls: bytes of work and fragment room
-- that hold nothing are never seen. Rests on Between, Refusing and the promises.
use Prim.Native.Nat.{ℕ, zero, suc, ◌+◌, ◌-◌}
use mathlib.Core.Path.{◌≡◌, refl, sym, ap, ap₂, ◌∙◌, subst}
use mathlib.Core.Bool.{Bool, true, false, cond}
use mathlib.Core.List.{List, [], ◌∷◌, ◌++◌, map, flatten}
use native.Mathlib.Nat.{zero-add, suc-add}
use native.Mathlib.Omega.{arith}
use lib.ListN.{length, take, drop, length-drop}
use lib.Seq.{take-take, take_all, take-nil}
use lib.Dec.{eqb}
use Rattle.meaning.specs.Bytes.{Bytes}
use Rattle.meaning.specs.Writing.{Wrote}
use Rattle.meaning.specs.Lists.{sum}
use Rattle.meaning.specs.Learn.{Fragment}
use Rattle.meaning.specs.Refusals.{answer_number}
use Rattle.meaning.specs.Record.{State, Record, pair_of, fragment_identifier, fragment_flags, fragment_length, bodies_of, lens, packed_in, fragments_in, state_of}
use Rattle.meaning.specs.Soundness.{sound_refusal}
use Rattle.meaning.specs.Calls.{Called}
use Rattle.meaning.specs.Rules.{dropped}
use Rattle.meaning.specs.Push.{push, push_refusal, called}
use Rattle.meaning.specs.Dropped.{dropped_now}
use Rattle.meaning.specs.declared.Options.{Options}
use Rattle.meaning.proofs.Writes.{wrote_one}
use Rattle.meaning.proofs.AnswerLaws.{answer_told}
use Rattle.meaning.proofs.LayoutLaws.{packed_bodies, apart}
use Rattle.recorder.specs.Filter.{record_in}
use Rattle.recorder.specs.Calls.{RoomsAfter}
use Rattle.recorder.specs.declared.Filter.{Filter}
use Rattle.recorder.specs.declared.Pushed as pushed
use Rattle.recorder.specs.declared.Dropped as asked
use Rattle.demands.specs.Demands.{Recorder, Call, Push, Ask, Result, Pushed, Asked, Allows, Series, heads_in, leading_in, others_in, bodies_in, Same, Unique}
use Rattle.demands.proofs.Between.{form, called_by, asked_stays}
use Rattle.demands.proofs.Refusing.{pushed_refused}
use Rattle.demands.proofs.Narrowings.{narrow_unique}

-- ---- a struct is told by its record

abbrev pub filter_of : Record → Filter
filter_of r = record {
  limits = r.limits;
  modes = r.modes;
  options = r.options;
  held_count = r.held_count;
  seen = r.plt_seen;
  package_count = r.package_count;
  map_count = r.map_count;
  fragment_count = r.fragment_count;
  leading = r.leading;
  kept = record {
    data_set = record { words = r.data_set };
    packages = r.packages;
    map_heads = r.map_heads;
    fragment_heads = r.fragment_heads;
  };
}

filter_back : (f : Filter) → filter_of (record_in f) ≡ f
unfolding record_in
filter_back f = refl

pub filter_told : (f g : Filter) → record_in f ≡ record_in g → f ≡ g
filter_told f g e = sym (filter_back f) ∙ ap filter_of e ∙ filter_back g

-- ---- the state in record and rooms: it is told by the used bytes, and tells them

drop_front : (n m : ℕ) (b : Bytes) → drop n (take (n + m) b) ≡ take m (drop n b)
drop_front zero m b = ap (λ (k : ℕ). take k b) (zero-add m)
drop_front (suc n) m [] = ap (drop (suc n)) (take-nil (suc n + m)) ∙ sym (take-nil m)
drop_front (suc n) m (x ∷ b) = ap (λ (k : ℕ). drop (suc n) (take k (x ∷ b))) (suc-add n m) ∙ drop_front n m b

by_front : (hs : List ℕ) (b : Bytes) → packed_in hs (take (lens hs) b) ≡ packed_in hs b
unfolding packed_in lens sum
by_front [] b = refl
by_front (h ∷ hs) b =
    let n = fragment_length h in
    let m = lens hs in
    ap₂ (λ (x : Bytes) (fs : List Fragment). record { identifier = fragment_identifier h; flags = fragment_flags h; body = x } ∷ fs)
    (take-take n (n + m) b (omega arith)) (ap (packed_in hs) (drop_front n m b) ∙ by_front hs (drop n b))

abbrev pub state_in : Recorder → State
state_in s = state_of s.handed s.work s.bodies s.map_room

-- Equal rooms, as far as they are used, and equal records mean equal state.
pub state_same : (s t : Recorder) → Same s t → state_in s ≡ state_in t
unfolding state_of fragments_in
state_same s t e =
    let h = e.handed_same in
    let front : (bodies_in s).0 ≡ (bodies_in t).0 = ap (λ (x : Bytes × Bytes). x.0) e.used_same.1 in
    let back : (bodies_in s).1 ≡ (bodies_in t).1 = ap (λ (x : Bytes × Bytes). x.1) e.used_same.1 in
    let f : packed_in (leading_in s.handed) s.bodies ≡ packed_in (leading_in t.handed) t.bodies =
    sym (by_front (leading_in s.handed) s.bodies) ∙ ap₂ packed_in (ap leading_in h) front ∙ by_front (leading_in t.handed) t.bodies in
    let g : packed_in (others_in s.handed) (drop (length s.bodies - lens (others_in s.handed)) s.bodies)
    ≡ packed_in (others_in t.handed) (drop (length t.bodies - lens (others_in t.handed)) t.bodies) = ap₂ packed_in (ap others_in h) back in
    λ i. record {
      held = e.used_same.0 i;
      known = record {
        plt_seen = (h i).plt_seen;
        packages = map pair_of (take (h i).package_count (h i).packages);
        map_heads = map pair_of (take (h i).map_count (h i).map_heads);
        map_room = e.map_room_same i;
        data_set = (h i).data_set;
        fragments = f i ++ g i;
      };
    }

-- And the other way: the bodies at the front, and those at the end.
front_told : (s : Recorder) → bodies_of (take s.handed.leading (state_in s).known.fragments) ≡ (bodies_in s).0
unfolding state_of fragments_in
front_told s = ap bodies_of (apart s.handed.leading (heads_in s.handed) s.bodies).0 ∙ packed_bodies (leading_in s.handed) s.bodies

back_told : (s : Recorder) → bodies_of (drop s.handed.leading (state_in s).known.fragments) ≡ (bodies_in s).1
unfolding state_of fragments_in
back_told s =
    let n = length s.bodies - lens (others_in s.handed) in
    ap bodies_of (apart s.handed.leading (heads_in s.handed) s.bodies).1 ∙ packed_bodies (others_in s.handed) (drop n s.bodies)
    ∙ take_all (lens (others_in s.handed)) (drop n s.bodies) (omega (arith, length-drop n s.bodies))

pub state_tells : (s t : Recorder) → s.handed ≡ t.handed → state_in s ≡ state_in t → length s.work ≡ length t.work → length s.bodies ≡ length t.bodies → Same s t
unfolding state_of
state_tells s t r e w b =
    let front = sym (front_told s) ∙ (λ i. bodies_of (take (r i).leading (e i).known.fragments)) ∙ front_told t in
    let back = sym (back_told s) ∙ (λ i. bodies_of (drop (r i).leading (e i).known.fragments)) ∙ back_told t in
    record {
      handed_same = r;
      map_room_same = ap (λ (x : State). x.known.map_room) e;
      used_same = (ap (λ (x : State). x.held) e, λ i. (front i, back i));
      lengths_same = (w, b);
    }

-- ---- a push

module _ (s t : Recorder) (e : Same s t) (chunk : Bytes) (n : ℕ) where
  pub called_same : called s.handed s.work s.bodies s.map_room chunk n ≡ called t.handed t.work t.bodies t.map_room chunk n
  called_same =
      called_by s.handed s.work s.bodies s.map_room chunk n
      ∙ (λ i. form
      (push_refusal (e.handed_same i) (e.lengths_same.0 i) (e.lengths_same.1 i) (length (e.map_room_same i)) (length chunk) n)
      (e.handed_same i).limits (e.handed_same i).modes (e.handed_same i).options (e.handed_same i).leading (state_same s t e i) (e.handed_same i) chunk)
      ∙ sym (called_by t.handed t.work t.bodies t.map_room chunk n)

module _ (s t : Recorder) (e : Same s t) (chunk out : Bytes) (x y : pushed.Pushed) (d₁ d₂ : Bytes) (u v : Recorder)
    (a : Allows s (Push chunk out) (Pushed x d₁) u) (b : Allows t (Push chunk out) (Pushed y d₂) v) where
  abbrev c : Called
  c = called s.handed s.work s.bodies s.map_room chunk (length out)

  abbrev q : c ≡ called t.handed t.work t.bodies t.map_room chunk (length out)
  q = called_same s t e chunk (length out)

  answers_same : answer_number x.answer ≡ answer_number y.answer
  answers_same = a.0.answer_is ∙ ap (λ (z : Called). z.number) q ∙ sym b.0.answer_is

  records_same : record_in x.filter ≡ record_in y.filter
  records_same = a.0.handed_is ∙ ap (λ (z : Called). z.handed) q ∙ sym b.0.handed_is

  counts_same : x.counts ≡ y.counts
  counts_same = a.0.counts_are ∙ ap (λ (z : Called). z.counts) q ∙ sym b.0.counts_are

  results_same : Pushed x d₁ ≡ Pushed y d₂
  results_same =
      let f = filter_told x.filter y.filter records_same in
      let g = answer_told x.answer y.answer answers_same in
      let w : Wrote (flatten c.out) out 0 d₂ y.counts.bytes = subst (λ (z : Called). Wrote (flatten z.out) out 0 d₂ y.counts.bytes) (sym q) b.0.written in
      let d = (wrote_one (flatten c.out) out 0 d₁ d₂ x.counts.bytes y.counts.bytes a.0.written w).0 in
      λ i. Pushed (record { answer = g i; counts = counts_same i; filter = f i }) (d i)

  leaves_same : Same u v
  leaves_same = go (eqb (answer_number x.answer) 0) refl
    where
      go : (m : Bool) → eqb (answer_number x.answer) 0 ≡ m → Same u v
      go false n =
          let us = (pushed_refused s chunk out x d₁ u a n).0 in
          let vs = (pushed_refused t chunk out y d₂ v b (ap (λ (k : ℕ). eqb k 0) (sym answers_same) ∙ n)).0 in
          subst (λ (z : Recorder). Same z v) (sym us) (subst (λ (z : Recorder). Same s z) (sym vs) e)
      go true n =
          let P : State = (push s.handed.limits s.handed.modes s.handed.options (state_in s) chunk).state in
          let P' : State = (push t.handed.limits t.handed.modes t.handed.options (state_in t) chunk).state in
          let m₁ : eqb c.number 0 ≡ true = ap (λ (k : ℕ). eqb k 0) (sym a.0.answer_is) ∙ n in
          let m₂ : eqb (called t.handed t.work t.bodies t.map_room chunk (length out)).number 0 ≡ true = ap (λ (z : Called). eqb z.number 0) (sym q) ∙ m₁ in
          let su : state_of (record_in x.filter) u.work u.bodies u.map_room ≡ P =
          subst (λ (k : Bool). RoomsAfter k P (record_in x.filter) s.work s.bodies s.map_room u.work u.bodies u.map_room) m₁ a.0.rooms in
          let sv : state_of (record_in y.filter) v.work v.bodies v.map_room ≡ P' =
          subst (λ (k : Bool). RoomsAfter k P' (record_in y.filter) t.work t.bodies t.map_room v.work v.bodies v.map_room) m₂ b.0.rooms in
          let PP : P ≡ P' = λ i. (push (e.handed_same i).limits (e.handed_same i).modes (e.handed_same i).options (state_same s t e i) chunk).state in
          state_tells u v (a.1 ∙ records_same ∙ sym b.1)
          (ap (λ (r : Record). state_of r u.work u.bodies u.map_room) a.1 ∙ su ∙ PP ∙ sym sv ∙ ap (λ (r : Record). state_of r v.work v.bodies v.map_room) (sym b.1))
          (a.0.work_length ∙ e.lengths_same.0 ∙ sym b.0.work_length) (a.0.bodies_length ∙ e.lengths_same.1 ∙ sym b.0.bodies_length)

-- ---- a question

abbrev asked_form : ℕ → Options → State → ℕ
asked_form n o st = cond (eqb n 0) (dropped o st.known) 0

dropped_by_lem : (r : Record) (work bodies : Bytes) (map_room : List ℕ)
    → dropped_now r work bodies map_room ≡ asked_form (sound_refusal r (length work) (length bodies) (length map_room)) r.options (state_of r work bodies map_room)
unfolding dropped_now
dropped_by_lem r work bodies map_room = refl

module _ (s t : Recorder) (e : Same s t) (x y : asked.Dropped) (u v : Recorder) (a : Allows s Ask (Asked x) u) (b : Allows t Ask (Asked y) v) where
  refusal_same : sound_refusal s.handed (length s.work) (length s.bodies) (length s.map_room) ≡ sound_refusal t.handed (length t.work) (length t.bodies) (length t.map_room)
  refusal_same i = sound_refusal (e.handed_same i) (e.lengths_same.0 i) (e.lengths_same.1 i) (length (e.map_room_same i))

  asked_same : Asked x ≡ Asked y
  asked_same =
      let g = answer_told x.answer y.answer (a.0.answer_is ∙ refusal_same ∙ sym b.0.answer_is) in
      let n : x.count ≡ y.count =
      a.0.count_is ∙ dropped_by_lem s.handed s.work s.bodies s.map_room
      ∙ (λ i. asked_form (refusal_same i) (e.handed_same i).options (state_same s t e i))
      ∙ sym (b.0.count_is ∙ dropped_by_lem t.handed t.work t.bodies t.map_room) in
      let f = filter_told x.filter y.filter (a.0.handed_is ∙ e.handed_same ∙ sym b.0.handed_is) in
      λ i. Asked (record { answer = g i; count = n i; filter = f i })

  asked_leaves : Same u v
  asked_leaves = subst (λ (z : Recorder). Same z v) (sym (asked_stays s x u a)) (subst (λ (z : Recorder). Same s z) (sym (asked_stays t y v b)) e)

-- ---- a series

series_one : (s t : Recorder) → Same s t → (cs : List Call) (xs ys : List Result) (u v : Recorder) → Series s cs xs u → Series t cs ys v → (xs ≡ ys) × Same u v
series_one s t e [] [] [] u v a b = (refl, subst (λ (z : Recorder). Same z v) a (subst (λ (z : Recorder). Same s z) b e))
series_one s t e [] [] (y ∷ ys) u v a b = absurd b
series_one s t e [] (x ∷ xs) ys u v a b = absurd a
series_one s t e (c ∷ cs) [] ys u v a b = absurd a
series_one s t e (c ∷ cs) (x ∷ xs) [] u v a b = absurd b
series_one s t e (Push chunk out ∷ cs) (Pushed x d₁ ∷ xs) (Pushed y d₂ ∷ ys) u v (m, a, as') (n, b, bs) =
    let ih = series_one m n (leaves_same s t e chunk out x y d₁ d₂ m n a b) cs xs ys u v as' bs in
    (ap₂ (λ (z : Result) (zs : List Result). z ∷ zs) (results_same s t e chunk out x y d₁ d₂ m n a b) ih.0, ih.1)
series_one s t e (Push chunk out ∷ cs) (Asked x ∷ xs) (y ∷ ys) u v (m, a, as') b = absurd a
series_one s t e (Push chunk out ∷ cs) (Pushed x d₁ ∷ xs) (Asked y ∷ ys) u v a (n, b, bs) = absurd b
series_one s t e (Ask ∷ cs) (Asked x ∷ xs) (Asked y ∷ ys) u v (m, a, as') (n, b, bs) =
    let ih = series_one m n (asked_leaves s t e x y m n a b) cs xs ys u v as' bs in
    (ap₂ (λ (z : Result) (zs : List Result). z ∷ zs) (asked_same s t e x y m n a b) ih.0, ih.1)
series_one s t e (Ask ∷ cs) (Pushed x d₁ ∷ xs) (y ∷ ys) u v (m, a, as') b = absurd a
series_one s t e (Ask ∷ cs) (Asked x ∷ xs) (Pushed y d₂ ∷ ys) u v a (n, b, bs) = absurd b

pub unique : Unique
unique = record {
  start = λ L M o map_room x y p q.
      let f = filter_told x.filter y.filter (p.handed_is ∙ sym q.handed_is) in
      let g = answer_told x.answer y.answer (p.answer_is ∙ sym q.answer_is) in
      λ i. record { answer = g i; filter = f i };
  series = series_one;
  tally = λ t c u v a b p q. (p.0 ∙ sym q.0, answer_told a b (p.1 ∙ sym q.1));
  narrow = narrow_unique;
}
