-- A call that is not refused: how it begins, and what it has come to when the packets of held bytes and chunk are passed, read as one run or
-- in two parts, and the rest is at the front of the work room. Rests on WholeLaws of `passing`.
use Prim.Native.Nat.{ℕ, zero, suc, ◌+◌, ◌-◌, ◌≤◌}
use mathlib.Core.Path.{◌≡◌, refl, sym, ap, ◌∙◌, subst}
use mathlib.Core.Bool.{true, false}
use mathlib.Core.List.{List, [], ◌∷◌, ◌++◌, flatten, append_assoc, append-nil}
use native.Mathlib.Omega.{arith}
use lib.ListN.{length, take, drop, length-drop, length-append, take-append-drop}
use lib.Seq.{length-take-le, take-nil}
use native.Mathlib.Nat.{sub-zero, zero-sub, suc-sub-suc}
use Rattle.meaning.specs.Bytes.{Bytes}
use Rattle.meaning.specs.Writing.{Wrote}
use Rattle.meaning.specs.Sets.{Words}
use Rattle.meaning.specs.Packets.{Cut, cut, hold}
use Rattle.meaning.specs.Wishes.{copies_all}
use Rattle.meaning.specs.Rooms.{packet_limit}
use Rattle.meaning.specs.Learn.{Known}
use Rattle.meaning.specs.Record.{State}
use Rattle.meaning.specs.Calls.{counts_of}
use Rattle.meaning.specs.Leading.{leading_over, leading_pushed}
use Rattle.meaning.specs.Push.{Outcome, pass, filtered, push}
use Rattle.meaning.specs.declared.Limits.{Limits}
use Rattle.meaning.specs.declared.Options.{Options}
use Rattle.meaning.specs.declared.Modes.{Modes}
use Rattle.observing.specs.Observed.{Holding, HoldingSome}
use Rattle.learning.specs.declared.Extent.{Extent}
use Rattle.learning.specs.declared.Kept.{Kept}
use Rattle.passing.specs.declared.Terms.{Terms}
use Rattle.passing.specs.declared.Progress.{Progress}
use Rattle.passing.specs.Passing.{Fits, FitsMore, Sofar, SofarSome}
use Rattle.meaning.proofs.Writes.{wrote_none}
use Rattle.passing.proofs.WholeLaws.{begun, begins, ended, ends, held_same, begins_fit}
use Rattle.recorder.specs.declared.call.InParts.{InParts}
use Rattle.recorder.specs.declared.call.CarriedOut.{CarriedOut}
use Rattle.recorder.specs.Front.{joined, Parted, DecidedAs, PartsPassed, ended_of, HeldOn}
use Rattle.recorder.specs.Calls.{CarriedOutAs}

-- ---- the work room

drop_take : (a n : ℕ) (l : Bytes) → drop a (take n l) ≡ take (n - a) (drop a l)
drop_take zero n l = ap (λ (m : ℕ). take m l) (sym (sub-zero n))
drop_take (suc a) zero l = ap (λ (m : ℕ). take m (drop (suc a) l)) (sym (zero-sub (suc a)))
drop_take (suc a) (suc n) [] = sym (take-nil (suc n - suc a))
drop_take (suc a) (suc n) (x ∷ l) = drop_take a n l ∙ ap (λ (m : ℕ). take m (drop a l)) (sym (suc-sub-suc n a))

-- What is left of both parts, one behind the other: of the first n bytes of the work room from `at` on, then `rest`.
module _ (n at r m : ℕ) (rest work work₁ work₂ : Bytes) (inside : at ≤ n) (fit : n ≤ length work) (v : Wrote (take (n - at) (drop at work)) work 0 work₁ r) (w : Wrote rest work₁ (n - at) work₂ m) where
  left_length : length (drop at (take n work)) ≡ n - at
  left_length = let z : length (drop at (take n work)) ≡ length (take n work) - at = length-drop at (take n work) in omega (arith, z, length-take-le n work fit)

  moved_is : take (n - at) work₁ ≡ drop at (take n work)
  moved_is =
      let end : r ≡ n - at = omega (arith, v.end, length-take-le (n - at) (drop at work) (omega (arith, length-drop at work))) in
      ap (λ (i : ℕ). take i work₁) (sym end) ∙ v.front ∙ sym (drop_take at n work)

  pub left_is : take m work₂ ≡ drop at (take n work) ++ rest
  left_is = w.front ∙ ap (λ (l : Bytes). l ++ rest) moved_is

  pub left_count : m ≡ length (drop at (take n work) ++ rest)
  left_count = let z : m ≡ length (drop at (take n work)) + length rest = omega (arith, w.end, left_length) in z ∙ sym (length-append (drop at (take n work)) rest)

-- ---- a call begins

module _ (t : Terms) (e : Extent) (first : Progress) (kept : Kept) (map_room : List ℕ) (bodies : Bytes) (set : Words) (out : Bytes)
    (decided : DecidedAs t.options e kept.data_set.words kept.packages kept.map_heads map_room set first) (lost : e.lost ≡ 0) where
  begun_is : first ≡ begun e first.ready
  begun_is = λ i. record { extent = decided.extent_is i; counts = decided.counts_are i; ready = first.ready }

  pub call_begins : (L : Limits) (k : Known) → Holding L.total k e kept map_room bodies → Sofar L t.modes t.options k e.leading out [] 0 first kept map_room bodies set out
  call_begins L k h =
      subst (λ (x : Progress). Sofar L t.modes t.options k e.leading out [] 0 x kept map_room bodies set out) (sym begun_is)
      (begins L t.modes t.options k out e first.ready kept map_room bodies set h (decided.set_is k h.tables_kept) (decided.ready_is k h.tables_kept) lost)

  pub some_begins : HoldingSome e kept map_room bodies → SofarSome t first kept map_room bodies set out
  some_begins h =
      let L : Limits = record { work = 0; total = h.0; most = t.most } in
      (L, h.1, e.leading, out, [], 0, refl, call_begins L h.1 h.2)

  pub call_fits : (n : ℕ) → n ≤ 131078 → n ≤ length out → Fits first n (length out)
  call_fits n few h = subst (λ (x : Progress). Fits x n (length out)) (sym begun_is) (begins_fit e first.ready n (length out) lost h few)

fits_less : {s : Progress} {l : ℕ} (n m : ℕ) → Fits s (n + m) l → Fits s m l
fits_less n m f = record {
  bytes_fit = omega (arith, f.bytes_fit);
  accepted_fit = omega (arith, f.accepted_fit);
  written_fit = omega (arith, f.written_fit);
  rewritten_fit = omega (arith, f.rewritten_fit);
  skipped_fit = omega (arith, f.skipped_fit);
  lost_fit = omega (arith, f.lost_fit);
}

-- Behind a first part there is room for the second, whatever is left of the first.
pub rest_fits : {s r : Progress} {l l' : ℕ} (n n' m : ℕ) → FitsMore s n l r n' l' → Fits s (n + m) l → Fits r m l'
rest_fits n n' m f h = fits_less n' m (f m h)

pub sofar_skipped : {L : Limits} {M : Modes} {o : Options} {k : Known} {leading : ℕ} {d : Bytes} {ps : List Bytes} {n m : ℕ} {s : Progress} {kept : Kept} {map_room : List ℕ} {bodies : Bytes} {set : Words} {out : Bytes}
    → n ≡ m → Sofar L M o k leading d ps n s kept map_room bodies set out → Sofar L M o k leading d ps m s kept map_room bodies set out
sofar_skipped {L} {M} {o} {k} {leading} {d} {ps} {n} {m} {s} {kept} {map_room} {bodies} {set} {out} e f =
    subst (λ (i : ℕ). Sofar L M o k leading d ps i s kept map_room bodies set out) e f

pub run_parts : (held chunk : Bytes) (k : ℕ) → held ++ chunk ≡ (held ++ take k chunk) ++ drop k chunk
run_parts held chunk k = ap (λ (l : Bytes). held ++ l) (sym (take-append-drop k chunk)) ∙ sym (append_assoc held (take k chunk) (drop k chunk))

-- ---- a call ends

module _ (L : Limits) (t : Terms) (k : Known) (held chunk out out' : Bytes) (W : ℕ) (limit : t.limit ≡ packet_limit W) (same : L.work ≡ W)
    (leading : ℕ) (p : Progress) (kept : Kept) (map_room : List ℕ) (bodies : Bytes) (set : Words) (x : CarriedOut) (work : Bytes) where
  abbrev M : Modes
  M = t.modes

  abbrev o : Options
  o = t.options

  abbrev all : Cut
  all = cut t.limit (held ++ chunk)

  pub call_ends : Sofar L M o k leading out ([] ++ all.packets) (0 + all.skipped) p kept map_room bodies set out'
      → x ≡ record { extent = p.extent; counts = ended L M o k out p; held_count = length all.held }
      → take (length all.held) work ≡ all.held
      → CarriedOutAs L (filtered L M o (record { held = held; known = k }) chunk) (leading_over L k (cut (packet_limit L.work) (held ++ chunk)).packets leading) out x kept map_room bodies work out'
  call_ends f e d =
      let q : t.limit ≡ packet_limit L.work = limit ∙ ap packet_limit (sym same) in
      let y = ends L M o k out held chunk (held ++ chunk) t.limit refl q leading p kept map_room bodies set out' f in
      let h : all.held ≡ (filtered L M o (record { held = held; known = k }) chunk).state.held = held_same L M o k out held chunk (held ++ chunk) t.limit refl q in
      subst (λ (z : CarriedOut). CarriedOutAs L (filtered L M o (record { held = held; known = k }) chunk) (leading_over L k (cut (packet_limit L.work) (held ++ chunk)).packets leading) out z kept map_room bodies work out') (sym e)
      (record { holding = y.holding; leading_is = y.leading_is; held_is = ap length h; held_bytes = d ∙ h; counts_are = y.counts_are; written = y.written })

  -- in two parts
  pub parts_end : (a b : Bytes) → held ++ chunk ≡ a ++ b → Parted t.limit a b
      → Sofar L M o k leading out (joined (cut t.limit a) (cut t.limit b)).packets (joined (cut t.limit a) (cut t.limit b)).skipped p kept map_room bodies set out'
      → x ≡ ended_of p (length (joined (cut t.limit a) (cut t.limit b)).held)
      → take x.held_count work ≡ (joined (cut t.limit a) (cut t.limit b)).held
      → CarriedOutAs L (filtered L M o (record { held = held; known = k }) chunk) (leading_over L k (cut (packet_limit L.work) (held ++ chunk)).packets leading) out x kept map_room bodies work out'
  parts_end a b s h f e d =
      let c : all ≡ joined (cut t.limit a) (cut t.limit b) = ap (cut t.limit) s ∙ h in
      call_ends
      (subst (λ (z : Cut). Sofar L M o k leading out z.packets (0 + z.skipped) p kept map_room bodies set out') (sym c)
      (let u : (joined (cut t.limit a) (cut t.limit b)).skipped ≡ 0 + (joined (cut t.limit a) (cut t.limit b)).skipped = omega arith in sofar_skipped u f))
      (e ∙ ap (λ (z : Cut). ended_of p (length z.held)) (sym c))
      (subst (λ (z : Bytes). take (length z) work ≡ z) (ap (λ (z : Cut). z.held) (sym c)) (ap (λ (n : ℕ). take n work) (sym (ap (λ (z : CarriedOut). z.held_count) e)) ∙ d))

-- the first of them at the front of the work room, and what is left of both held
module _ (L : Limits) (t : Terms) (k : Known) (held chunk first second out out' work₁ work' : Bytes) (W n : ℕ) (e : Extent)
    (kept : Kept) (map_room : List ℕ) (bodies : Bytes) (kept' : Kept) (map_room' : List ℕ) (bodies' : Bytes) (x : InParts) (r : CarriedOut) where
  pub parts_carried : t.limit ≡ packet_limit W → L.work ≡ W → L.most ≡ t.most → held ++ chunk ≡ first ++ second → Parted t.limit first second → take n work₁ ≡ first
      → Holding L.total k e kept map_room bodies
      → PartsPassed first second t e kept map_room bodies out x kept' map_room' bodies' out'
      → HeldOn x n second work₁ r work'
      → CarriedOutAs L (filtered L t.modes t.options (record { held = held; known = k }) chunk) (leading_over L k (cut (packet_limit L.work) (held ++ chunk)).packets e.leading) out r kept' map_room' bodies' work' out'
  parts_carried limit same most run apart front h passed on =
      let s = passed.passed L k most h in
      let left : drop x.first_at (take n work₁) ++ drop x.second_at second ≡ (cut t.limit first).held ++ (cut t.limit second).held =
      ap (λ (l : Bytes). drop x.first_at l ++ drop x.second_at second) front ∙ ap (λ (l : Bytes). l ++ drop x.second_at second) passed.first_left
      ∙ ap (λ (l : Bytes). (cut t.limit first).held ++ l) passed.second_left in
      parts_end L t k held chunk out out' W limit same e.leading x.progress kept' map_room' bodies' s.0 r work' first second run apart s.1
      (on.ended_is ∙ ap (λ (l : Bytes). ended_of x.progress (length l)) left) (on.held_bytes ∙ left)

-- no packet is whole: nothing is written, counted or learned
pub held_ends : (L : Limits) (M : Modes) (o : Options) (k : Known) (held chunk out work : Bytes) (W P : ℕ) (e : Extent) (x : CarriedOut) (kept : Kept) (map_room : List ℕ) (bodies : Bytes)
    → P ≡ packet_limit W → L.work ≡ W → cut P (held ++ chunk) ≡ hold (held ++ chunk) → x ≡ record { extent = e; counts = counts_of 0; held_count = length (held ++ chunk) }
    → take (length (held ++ chunk)) work ≡ held ++ chunk → Holding L.total k e kept map_room bodies
    → CarriedOutAs L (filtered L M o (record { held = held; known = k }) chunk) (leading_over L k (cut (packet_limit L.work) (held ++ chunk)).packets e.leading) out x kept map_room bodies work out
unfolding filtered pass flatten leading_over
held_ends L M o k held chunk out work W P e x kept map_room bodies limit same c q d h =
    let z : cut (packet_limit L.work) (held ++ chunk) ≡ hold (held ++ chunk) = ap (λ (n : ℕ). cut (packet_limit n) (held ++ chunk)) same ∙ ap (λ (n : ℕ). cut n (held ++ chunk)) (sym limit) ∙ c in
    rw (z, q) (record { holding = h; leading_is = refl; held_is = refl; held_bytes = d; counts_are = refl; written = wrote_none out 0 })

-- ---- copy-all, or not

-- Copy-all writes the chunk and leaves the rest; it holds nothing.
pub all_copied : (L : Limits) (M : Modes) (o : Options) (k : Known) (held_count : ℕ) (chunk work out out' : Bytes) (e : Extent) (x : CarriedOut) (kept : Kept) (map_room : List ℕ) (bodies : Bytes)
    → copies_all o ≡ true → held_count ≡ 0 → x ≡ record { extent = e; counts = counts_of (length chunk); held_count = 0 } → Wrote chunk out 0 out' (length chunk)
    → Holding L.total k e kept map_room bodies
    → CarriedOutAs L (push L M o (record { held = take held_count work; known = k }) chunk) (leading_pushed L o (record { held = take held_count work; known = k }) chunk e.leading) out x kept map_room bodies work out'
unfolding push leading_pushed flatten
all_copied L M o k held_count chunk work out out' e x kept map_room bodies all none q w h =
    let z : take held_count work ≡ [] = ap (λ (n : ℕ). take n work) none in
    rw (all, q)
    (record {
      holding = h;
      leading_is = refl;
      held_is = ap length (sym z);
      held_bytes = sym z;
      counts_are = refl;
      written = subst (λ (y : Bytes). Wrote y out 0 out' (length chunk)) (sym (append-nil chunk)) w;
    })

pub not_all : (L : Limits) (M : Modes) (o : Options) (st : State) (chunk : Bytes) → copies_all o ≡ false → filtered L M o st chunk ≡ push L M o st chunk
unfolding push
not_all L M o st chunk e = rw e

pub not_all_leads : (L : Limits) (o : Options) (st : State) (chunk : Bytes) (leading : ℕ) → copies_all o ≡ false
    → leading_over L st.known (cut (packet_limit L.work) (st.held ++ chunk)).packets leading ≡ leading_pushed L o st chunk leading
unfolding leading_pushed
not_all_leads L o st chunk leading e = rw e

module _ {L : Limits} {x y : Outcome} {m n : ℕ} {out : Bytes} {r : CarriedOut} {kept : Kept} {map_room : List ℕ} {bodies work out' : Bytes} where
  pub ran_as : x ≡ y → m ≡ n → CarriedOutAs L x m out r kept map_room bodies work out'
      → CarriedOutAs L y n out r kept map_room bodies work out'
  ran_as e l h = subst (λ (z : Outcome). CarriedOutAs L z n out r kept map_room bodies work out') e
      (subst (λ (i : ℕ). CarriedOutAs L x i out r kept map_room bodies work out') l h)

pub wrote_to : {y d d' : Bytes} {at n m : ℕ} → n ≡ m → Wrote y d at d' n → Wrote y d at d' m
wrote_to {y} {d} {d'} {at} e w = subst (λ (k : ℕ). Wrote y d at d' k) e w
