-- The front of a run: a packet that is whole is read by itself and what is behind it apart, so held bytes that it begins with need no more
-- of the chunk than completes it. Rests on CutLaws of `meaning` and RunLaws of `passing`.
use Prim.Native.Nat.{ℕ, ◌+◌, ◌-◌, ◌≤◌, ◌<◌}
use mathlib.Core.Path.{◌≡◌, refl, sym, ap, ◌∙◌, subst}
use mathlib.Core.Bool.{Bool, true, false, cond, ◌&&◌}
use mathlib.Core.List.{[], ◌∷◌, ◌++◌, append-nil}
use native.Mathlib.Omega.{arith}
use lib.ListN.{length, take, drop, length-append, take-append-drop, drop_of_length-le}
use lib.Seq.{length-take-le, take_all, get_or-take, take-append-add, drop-append-add}
use lib.Dec.{eqb, ltb, leb}
use borrow.Author.Tests.{eqb-true, le-leb, ltb-false}
use Rattle.meaning.specs.Bytes.{Bytes, be16_at}
use Rattle.meaning.specs.Writing.{Wrote}
use Rattle.meaning.specs.Packets.{size_of, candidate, followed, step_of, Cut, cut, hold, accept}
use Rattle.meaning.specs.declared.Step.{Step}
use Rattle.meaning.specs.declared.Step.TheVariants.{Packet, Skip, Keep}
use Rattle.meaning.proofs.ListLaws.{clash, and_both, both_true, or_left}
use Rattle.meaning.proofs.CutLaws.{View, view, size_four, step_nil, cut_keep, cut_packet}
use Rattle.tlv.proofs.Laws.{packet_here}
use Rattle.passing.proofs.RunLaws.{ahead_none}
use Rattle.std.specs.Prelude.{Option, Some, None}
use Rattle.recorder.specs.Front.{front_by, joined, Parted}

-- ---- held bytes and the first k of a chunk, written behind them in the work room

module _ (held_count k : ℕ) (chunk work work₁ : Bytes) (n : ℕ) (few : k ≤ length chunk) (fit : held_count + k ≤ length work) (w : Wrote (take (k - 0) (drop 0 chunk)) work held_count work₁ n) where
  part_is : take (k - 0) (drop 0 chunk) ≡ take k chunk
  part_is = ap (λ (m : ℕ). take m chunk) (let z : k - 0 ≡ k = omega arith in z)

  pub run_end : n ≡ held_count + k
  run_end = omega (arith, w.end, ap length part_is, length-take-le k chunk few)

  run_wrote : Wrote (take k chunk) work held_count work₁ (held_count + k)
  run_wrote = subst (λ (m : ℕ). Wrote (take k chunk) work held_count work₁ m) run_end (subst (λ (y : Bytes). Wrote y work held_count work₁ n) part_is w)

  pub run_front : take n work₁ ≡ take held_count work ++ take k chunk
  run_front = ap (λ (m : ℕ). take m work₁) run_end ∙ run_wrote.front

  pub run_is : take (n - 0) (drop 0 work₁) ≡ take held_count work ++ take k chunk
  run_is = ap (λ (m : ℕ). take m work₁) (let z : n - 0 ≡ n = omega arith in z) ∙ run_front

  pub run_length : length (take (n - 0) (drop 0 work₁)) ≡ held_count + k
  run_length = ap length run_is ∙ length-append (take held_count work) (take k chunk) ∙ (let z : length (take held_count work) + length (take k chunk) ≡ held_count + k = omega (arith, length-take-le held_count work (omega arith), length-take-le k chunk few) in z)

-- ---- a packet by itself

taken_size : (s : Bytes) (n : ℕ) → 4 ≤ n → size_of (take n s) ≡ size_of s
unfolding size_of be16_at
taken_size s n h =
    let two : 2 < n = omega arith in
    let three : 3 < n = omega arith in
    rw (get_or-take n s 2 0 two, get_or-take n s 3 0 three)

taken_start : (P : ℕ) (s : Bytes) (n : ℕ) → 4 ≤ n → candidate P (take n s) ≡ candidate P s
unfolding candidate
taken_start P s n h =
    let first : 0 < n = omega arith in
    let one : 1 < n = omega arith in
    rw (get_or-take n s 0 0 first, get_or-take n s 1 0 one, taken_size s n h)

ends_followed : (s : Bytes) → size_of s ≡ length s → followed s ≡ true
unfolding followed
ends_followed s e =
    let h : length s ≤ size_of s = omega arith in
    or_left (leb (length s) (size_of s)) _ (le-leb _ _ h)

module _ (P : ℕ) (s : Bytes) (four : 4 ≤ length s) (starts : (candidate P s && followed s) ≡ true) (fits : size_of s ≤ length s) where
  abbrev n : ℕ
  n = size_of s

  abbrev p : Bytes
  p = take n s

  own_length : length p ≡ n
  own_length = length-take-le n s fits

  own_size : size_of p ≡ n
  own_size = taken_size s n (size_four s)

  own_step : step_of P p ≡ Packet n
  own_step =
      let c : candidate P p ≡ true = taken_start P s n (size_four s) ∙ (and_both (candidate P s) (followed s) starts).0 in
      let f : followed p ≡ true = ends_followed p (own_size ∙ sym own_length) in
      packet_here P p (omega (arith, own_length, size_four s)) (both_true _ _ c f) (omega (arith, own_length, own_size)) ∙ ap Packet own_size

  own_cut : cut P p ≡ accept p (hold [])
  own_cut =
      cut_packet P p n own_step
      ∙ ap (λ (l : Bytes). accept l (cut P (drop n p))) (take_all n p (omega (arith, own_length)))
      ∙ ap (λ (l : Bytes). accept p (cut P l)) (drop_of_length-le p {i = n} (omega (arith, own_length)))
      ∙ ap (accept p) (cut_keep P [] (step_nil P))

  whole_parted : Parted P p (drop n s)
  whole_parted =
      let c : Cut = cut P (drop n s) in
      let z : c.skipped ≡ 0 + c.skipped = omega arith in
      ap (cut P) (take-append-drop n s) ∙ cut_packet P s n (packet_here P s four starts fits) ∙ (λ i. record { packets = p ∷ c.packets; skipped = z i; held = c.held })
      ∙ ap (λ (x : Cut). joined x c) (sym own_cut)

packet_parted : (P n : ℕ) (s : Bytes) → step_of P s ≡ Packet n → (n ≤ length s) × Parted P (take n s) (drop n s)
packet_parted P n s e = go (step_of P s) (view P s) e
  where
    go : (t : Step) → View P s t → t ≡ Packet n → (n ≤ length s) × Parted P (take n s) (drop n s)
    go t (View.short h) q = clash (cc q)
    go t (View.no_start h c) q = clash (cc q)
    go t (View.long h c l) q = clash (cc q)
    go t (View.whole h c l) q =
        let m : size_of s ≡ n = cc q in
        subst (λ (i : ℕ). (i ≤ length s) × Parted P (take i s) (drop i s)) m (l, whole_parted P s h c l)

nothing_cut : (P : ℕ) → cut P [] ≡ hold []
nothing_cut P = cut_keep P [] (step_nil P)

none_parted : (P : ℕ) (b : Bytes) → Parted P [] b
none_parted P b = ahead_none (cut P b) ∙ ap (λ (x : Cut). joined x (cut P b)) (sym (nothing_cut P))

all_parted : (P : ℕ) (a : Bytes) → Parted P a []
all_parted P a =
    let c : Cut = cut P a in
    let p = sym (append-nil c.packets) in
    let z : c.skipped ≡ c.skipped + 0 = omega arith in
    let h = sym (append-nil c.held) in
    ap (cut P) (append-nil a) ∙ (λ i. record { packets = p i; skipped = z i; held = h i })
    ∙ ap (joined c) (sym (nothing_cut P))

-- ---- what is done by the front

-- only a step that keeps holds all
holds : (P : ℕ) (s : Bytes) (n m : ℕ) → front_by (step_of P s) n m ≡ None → cut P s ≡ hold s
holds P s n m e = go (step_of P s) refl e
  where
    go : (t : Step) → step_of P s ≡ t → front_by t n m ≡ None → cut P s ≡ hold s
    go Keep q h = cut_keep P s q
    go Skip q h = clash (by (eqb n 0) h)
      where
        by : (b : Bool) → cond b (Some 0) (Some m) ≡ None → ◌≡◌ {A = ℕ} 0 1
        by true h = cc h
        by false h = cc h
    go (Packet l) q h = clash (by (eqb n 0) (ltb l n) h)
      where
        by : (b d : Bool) → cond b (Some 0) (cond d (Some m) (Some (l - n))) ≡ None → ◌≡◌ {A = ℕ} 0 1
        by true d h = cc h
        by false true h = cc h
        by false false h = cc h

module _ (P : ℕ) (held chunk : Bytes) (k : ℕ) where
  abbrev Done : Type 0
  Done = (k ≤ length chunk) × Parted P (held ++ take k chunk) (drop k chunk)

  -- none are held: the chunk is the run
  from_chunk : length held ≡ 0 → 0 ≡ k → Done
  from_chunk l e = subst (λ (i : ℕ). (i ≤ length chunk) × Parted P (held ++ take i chunk) (drop i chunk)) e (omega arith, go held l)
    where
      go : (h : Bytes) → length h ≡ 0 → Parted P (h ++ []) chunk
      go [] q = none_parted P chunk
      go (x ∷ h) q = absurd (omega (arith, q))

  -- all of the chunk is put behind the held bytes
  with_chunk : length chunk ≡ k → Done
  with_chunk e =
      subst (λ (i : ℕ). (i ≤ length chunk) × Parted P (held ++ take i chunk) (drop i chunk)) e
      (omega arith, subst (Parted P (held ++ take (length chunk) chunk)) (sym (drop_of_length-le chunk {i = length chunk} (omega arith))) (all_parted P (held ++ take (length chunk) chunk)))

  -- the packet goes from the held bytes into the chunk
  into_chunk : (m : ℕ) → step_of P (held ++ chunk) ≡ Packet m → length held ≤ m → m - length held ≡ k → Done
  into_chunk m q l e =
      let w = packet_parted P m (held ++ chunk) q in
      let i : m ≡ length held + k = omega arith in
      let t : take m (held ++ chunk) ≡ held ++ take k chunk = ap (λ (j : ℕ). take j (held ++ chunk)) i ∙ take-append-add held chunk k in
      let d : drop m (held ++ chunk) ≡ drop k chunk = ap (λ (j : ℕ). drop j (held ++ chunk)) i ∙ drop-append-add held chunk k in
      (omega (arith, w.0, length-append held chunk), subst (λ (b : Bytes). Parted P (held ++ take k chunk) b) d (subst (λ (a : Bytes). Parted P a (drop m (held ++ chunk))) t w.1))

  reads : front_by (step_of P (held ++ chunk)) (length held) (length chunk) ≡ Some k → Done
  reads e = go (step_of P (held ++ chunk)) refl e
    where
      by_skip : (b : Bool) → eqb (length held) 0 ≡ b → cond b (Some 0) (Some (length chunk)) ≡ Some k → Done
      by_skip true z h = from_chunk (eqb-true _ _ z) (cc h)
      by_skip false z h = with_chunk (cc h)

      by_packet : (m : ℕ) → step_of P (held ++ chunk) ≡ Packet m → (b : Bool) → eqb (length held) 0 ≡ b → (d : Bool) → ltb m (length held) ≡ d
          → cond b (Some 0) (cond d (Some (length chunk)) (Some (m - length held))) ≡ Some k → Done
      by_packet m q true z d y h = from_chunk (eqb-true _ _ z) (cc h)
      by_packet m q false z true y h = with_chunk (cc h)
      by_packet m q false z false y h = into_chunk m q (ltb-false _ _ y) (cc h)

      go : (t : Step) → step_of P (held ++ chunk) ≡ t → front_by t (length held) (length chunk) ≡ Some k → Done
      go Keep q h = clash (cc h)
      go Skip q h = by_skip (eqb (length held) 0) refl h
      go (Packet m) q h = by_packet m q (eqb (length held) 0) refl (ltb m (length held)) refl h

-- as the code asks: of the bytes at the front of the work room
module _ (P held_count : ℕ) (chunk work : Bytes) (fit : held_count ≤ length work) (front : Option ℕ) (f : front ≡ front_by (step_of P (take held_count work ++ chunk)) held_count (length chunk)) where
  asked : front ≡ front_by (step_of P (take held_count work ++ chunk)) (length (take held_count work)) (length chunk)
  asked = f ∙ ap (λ (n : ℕ). front_by (step_of P (take held_count work ++ chunk)) n (length chunk)) (sym (length-take-le held_count work fit))

  pub front_holds : front ≡ None → cut P (take held_count work ++ chunk) ≡ hold (take held_count work ++ chunk)
  front_holds h = holds P (take held_count work ++ chunk) (length (take held_count work)) (length chunk) (sym asked ∙ h)

  pub front_reads : (k : ℕ) → front ≡ Some k → (k ≤ length chunk) × Parted P (take held_count work ++ take k chunk) (drop k chunk)
  front_reads k h = reads P (take held_count work) chunk k (sym asked ∙ h)
