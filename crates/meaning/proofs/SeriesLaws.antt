-- A series of calls in parts: the calls of one list, then those of another; and a call that is not refused, on the record of a state.
-- Rests on SoundnessLaws.
use Prim.Native.Nat.{ℕ, ◌≤◌}
use mathlib.Core.Path.{◌≡◌, refl, sym, ap, ◌∙◌}
use mathlib.Core.Bool.{Bool, true, false, cond}
use mathlib.Core.List.{List, [], ◌∷◌, ◌++◌, append_assoc, append-nil}
use native.Mathlib.Omega.{arith}
use lib.ListN.{length}
use lib.Dec.{eqb}
use Rattle.meaning.specs.Bytes.{Bytes}
use Rattle.meaning.specs.Rooms.{good_work_room, good_fragment_room}
use Rattle.meaning.specs.Record.{State, Record, record_of, state_of}
use Rattle.meaning.specs.Leading.{leading_pushed}
use Rattle.meaning.specs.Calls.{counts_of, Called}
use Rattle.meaning.specs.Start.{fresh}
use Rattle.meaning.specs.Push.{Outcome, push, push_refusal, called}
use Rattle.meaning.specs.Tally.{add_counts}
use Rattle.meaning.specs.Series.{Lent, call_refusal, Series, series_on, series}
use Rattle.meaning.specs.declared.Limits.{Limits}
use Rattle.meaning.specs.declared.Options.{Options}
use Rattle.meaning.specs.declared.Modes.{Modes}
use Rattle.meaning.specs.declared.Counts.{Counts}
use Rattle.meaning.proofs.LayoutLaws.{room_none}
use Rattle.meaning.proofs.SoundnessLaws.{HoldsState, state_back, refusal_same}

-- ---- counts

counts_same : {a b : Counts} → a.bytes ≡ b.bytes → a.accepted ≡ b.accepted → a.written ≡ b.written → a.rewritten ≡ b.rewritten → a.skipped ≡ b.skipped
    → a.lost ≡ b.lost → a ≡ b
counts_same p q r s t u = λ i. record { bytes = p i; accepted = q i; written = r i; rewritten = s i; skipped = t i; lost = u i }

counts_assoc : (a b c : Counts) → add_counts (add_counts a b) c ≡ add_counts a (add_counts b c)
counts_assoc a b c = counts_same (omega arith) (omega arith) (omega arith) (omega arith) (omega arith) (omega arith)

counts_first : (a : Counts) → add_counts (counts_of 0) a ≡ a
counts_first a = counts_same (omega arith) (omega arith) (omega arith) (omega arith) (omega arith) (omega arith)

counts_last : (a : Counts) → add_counts a (counts_of 0) ≡ a
counts_last a = counts_same (omega arith) (omega arith) (omega arith) (omega arith) (omega arith) (omega arith)

-- ---- a series and one behind it

abbrev pub joined : Series → Series → Series
joined a b = record { out = a.out ++ b.out; counts = add_counts a.counts b.counts; state = b.state }

-- A call as a series.
abbrev pub alone : Outcome → Series
alone p = record { out = p.out; counts = p.counts; state = p.state }

joined_on : (p : Outcome) (a b : Series) → joined (series_on p a) b ≡ series_on p (joined a b)
joined_on p a b = λ i. record { out = append_assoc p.out a.out b.out i; counts = counts_assoc p.counts a.counts b.counts i; state = b.state }

module _ (L : Limits) (M : Modes) (o : Options) where
  pub series_append : (st : State) (cs ds : List Lent) → series L M o st (cs ++ ds) ≡ joined (series L M o st cs) (series L M o (series L M o st cs).state ds)
  unfolding series
  series_append st [] ds = let r = series L M o st ds in λ i. record { out = r.out; counts = sym (counts_first r.counts) i; state = r.state }
  series_append st (c ∷ cs) ds = go (eqb (call_refusal L st c) 0) (series_append p.state cs ds) (series_append st cs ds)
    where
      p : Outcome
      p = push L M o st c.0

      go : (a : Bool) → series L M o p.state (cs ++ ds) ≡ joined (series L M o p.state cs) (series L M o (series L M o p.state cs).state ds)
          → series L M o st (cs ++ ds) ≡ joined (series L M o st cs) (series L M o (series L M o st cs).state ds)
          → cond a (series_on p (series L M o p.state (cs ++ ds))) (series L M o st (cs ++ ds))
          ≡ joined (cond a (series_on p (series L M o p.state cs)) (series L M o st cs)) (series L M o (cond a (series_on p (series L M o p.state cs)) (series L M o st cs)).state ds)
      go true taken refused = ap (series_on p) taken ∙ sym (joined_on p (series L M o p.state cs) (series L M o (series L M o p.state cs).state ds))
      go false taken refused = refused

  one_taken : (st : State) (c : Lent) → call_refusal L st c ≡ 0 → series L M o st (c ∷ []) ≡ alone (push L M o st c.0)
  unfolding series
  one_taken st c e = rw e (let p = push L M o st c.0 in λ i. record { out = append-nil p.out i; counts = counts_last p.counts i; state = p.state })

  -- One call more, that is not refused.
  pub series_one : (st : State) (cs : List Lent) (c : Lent) → call_refusal L (series L M o st cs).state c ≡ 0
      → series L M o st (cs ++ (c ∷ [])) ≡ joined (series L M o st cs) (alone (push L M o (series L M o st cs).state c.0))
  series_one st cs c e = series_append st cs (c ∷ []) ∙ ap (joined (series L M o st cs)) (one_taken (series L M o st cs).state c e)

-- ---- the record of a state, with rooms that hold it

-- It tells how many fragments lead.
pub own_leading : (L : Limits) (M : Modes) (o : Options) (leading : ℕ) (st : State) (r : Record) → r ≡ record_of L M o leading st → r ≡ record_of L M o r.leading st
unfolding record_of
own_leading L M o leading st r e = e ∙ ap (λ (n : ℕ). record_of L M o n st) (sym (ap (λ (z : Record). z.leading) e))

-- A start: whatever stands in work and fragment room.
pub fresh_back : (L : Limits) (M : Modes) (o : Options) (work bodies : Bytes) (map_room : List ℕ) → L.total ≤ 16777216 → HoldsState L o (fresh map_room)
    → state_of (record_of L M o 0 (fresh map_room)) work bodies map_room ≡ fresh map_room
unfolding fresh
fresh_back L M o work bodies map_room few h =
    ap (λ (b : Bytes). state_of (record_of L M o 0 (fresh map_room)) work b map_room) (sym (room_none bodies)) ∙ state_back L M o 0 (fresh map_room) few h work bodies

module _ (L : Limits) (M : Modes) (o : Options) (leading : ℕ) (st : State) (work_good : good_work_room L.work ≡ true) (fragments_good : good_fragment_room L.total L.most ≡ true) (h : HoldsState L o st) where
  -- its limits, modes and options, and how many lead
  record_says : (r : Record) → r ≡ record_of L M o leading st → (r.limits ≡ L) × (r.modes ≡ M) × (r.options ≡ o) × (r.leading ≡ leading)
  unfolding record_of
  record_says r e = (ap (λ (z : Record). z.limits) e, ap (λ (z : Record). z.modes) e, ap (λ (z : Record). z.options) e, ap (λ (z : Record). z.leading) e)

  abbrev answered : ℕ → Limits → Modes → Options → ℕ → State → Record → Bytes → Called
  answered x L M o leading st r c =
      cond (eqb x 0)
      (record { number = 0; out = (push L M o st c).out; counts = (push L M o st c).counts; handed = record_of L M o (leading_pushed L o st c leading) (push L M o st c).state })
      (record { number = x; out = []; counts = counts_of 0; handed = r })

  called_by : (r : Record) (work bodies : Bytes) (map_room : List ℕ) (c : Lent)
      → called r work bodies map_room c.0 c.1
      ≡ answered (push_refusal r (length work) (length bodies) (length map_room) (length c.0) c.1) r.limits r.modes r.options r.leading (state_of r work bodies map_room) r c.0
  unfolding called
  called_by r work bodies map_room c = refl

  -- A call on the record that is not refused is the call on the state.
  pub called_taken : (r : Record) (work bodies : Bytes) (map_room : List ℕ) (c : Lent) → r ≡ record_of L M o leading st → state_of r work bodies map_room ≡ st
      → length work ≡ L.work → length bodies ≡ L.total → length map_room ≡ 32768 → call_refusal L st c ≡ 0
      → called r work bodies map_room c.0 c.1
      ≡ record { number = 0; out = (push L M o st c.0).out; counts = (push L M o st c.0).counts; handed = record_of L M o (leading_pushed L o st c.0 leading) (push L M o st c.0).state }
  called_taken r work bodies map_room c e s w b m q =
      let l = record_says r e in
      let x = (λ i. push_refusal (e i) (w i) (b i) (m i) (length c.0) c.1) ∙ refusal_same L M o leading st c work_good fragments_good h ∙ q in
      called_by r work bodies map_room c ∙ (λ i. answered (x i) (l.0 i) (l.1 i) (l.2 i) (l.3 i) (s i) r c.0)
