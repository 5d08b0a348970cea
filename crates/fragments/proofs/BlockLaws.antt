-- A room as parts one after the other, and what it is after one write: a block moved down or up across the free bytes, a part of them filled, a
-- slot of the heads closed; and what the moves of the code make of a room. Rests on Wrote alone.
use Prim.Native.Nat.{ℕ, suc, ◌+◌, ◌-◌, ◌≤◌, ◌<◌}
use mathlib.Core.Path.{◌≡◌, sym, ap, ap₂, ◌∙◌, subst}
use mathlib.Core.List.{List, [], ◌∷◌, ◌++◌, append_assoc}
use native.Mathlib.Omega.{arith}
use lib.ListN.{length, take, drop, set, replicate, length-append, length-drop}
use Rattle.std.specs.List.{copy_within}
use lib.Seq.{take_at, drop_at, take_all, take-append-add, drop-append-add, drop-append-le, drop-drop, length-take-le}
use Rattle.meaning.specs.Bytes.{Bytes}
use Rattle.meaning.specs.Writing.{Wrote}
use Rattle.fragments.specs.Room.{Packed}
use Rattle.meaning.proofs.Writes.{wrote_is, is_wrote, wrote_byte, wrote_then}

-- ---- a block and the free bytes

-- The block x, behind the free bytes g, moves down to before them.
pub moved_down : (a g x c s s' : Bytes) (to r : ℕ) → s ≡ a ++ (g ++ (x ++ c)) → to ≡ length a → Wrote x s to s' r
    → s' ≡ a ++ (x ++ (drop (length x) (g ++ x) ++ c))
moved_down a g x c s s' to r e et w =
    let er : r ≡ length a + length x = w.end ∙ ap (λ (k : ℕ). k + length x) et in
    let low : take to s ≡ a = ap (take to) e ∙ take_at a (g ++ (x ++ c)) to (sym et) in
    let high : drop r s ≡ drop (length x) (g ++ x) ++ c =
    ap₂ (λ (k : ℕ) (z : Bytes). drop k z) er (e ∙ ap (λ (z : Bytes). a ++ z) (sym (append_assoc g x c))) ∙ drop-append-add a ((g ++ x) ++ c) (length x)
    ∙ drop-append-le (length x) (g ++ x) c (omega (arith, length-append g x)) in
    wrote_is x s s' to r w ∙ ap₂ (λ (y z : Bytes). (y ++ x) ++ z) low high ∙ append_assoc a x _

-- The block x, before the free bytes g, moves up to behind them.
pub moved_up : (a x g c s s' : Bytes) (to r : ℕ) → s ≡ a ++ (x ++ (g ++ c)) → to ≡ length a + length g → Wrote x s to s' r
    → s' ≡ a ++ (take (length g) (x ++ (g ++ c)) ++ (x ++ c))
moved_up a x g c s s' to r e et w =
    let p : Bytes = x ++ (g ++ c) in
    let low : take to s ≡ a ++ take (length g) p = ap₂ (λ (k : ℕ) (z : Bytes). take k z) et e ∙ take-append-add a p (length g) in
    let lr : length (a ++ (x ++ g)) ≡ r = omega (arith, w.end, length-append a (x ++ g), length-append x g) in
    let high : drop r s ≡ c = ap (drop r) (e ∙ regroup) ∙ drop_at (a ++ (x ++ g)) c r lr in
    wrote_is x s s' to r w ∙ ap₂ (λ (y z : Bytes). (y ++ x) ++ z) low high ∙ again (take (length g) p)
  where
    regroup : a ++ (x ++ (g ++ c)) ≡ (a ++ (x ++ g)) ++ c
    regroup = simp append_assoc

    again : (h : Bytes) → ((a ++ h) ++ x) ++ c ≡ a ++ (h ++ (x ++ c))
    again h = simp append_assoc

-- b goes into the free bytes g, at their front.
pub filled : (a g c b s s' : Bytes) (to r : ℕ) → s ≡ a ++ (g ++ c) → to ≡ length a → length b ≤ length g → Wrote b s to s' r
    → s' ≡ (a ++ b) ++ (drop (length b) g ++ c)
filled a g c b s s' to r e et fit w =
    let er : r ≡ length a + length b = w.end ∙ ap (λ (k : ℕ). k + length b) et in
    let low : take to s ≡ a = ap (take to) e ∙ take_at a (g ++ c) to (sym et) in
    let high : drop r s ≡ drop (length b) g ++ c =
    ap₂ (λ (k : ℕ) (z : Bytes). drop k z) er e ∙ drop-append-add a (g ++ c) (length b) ∙ drop-append-le (length b) g c fit in
    wrote_is b s s' to r w ∙ ap₂ (λ (y z : Bytes). (y ++ b) ++ z) low high

-- The third of four parts, by its offset.
pub third : (a b c d s : Bytes) (at n : ℕ) → s ≡ a ++ (b ++ (c ++ d)) → at ≡ length a + length b → n ≡ length c → take n (drop at s) ≡ c
third a b c d s at n e ea en =
    ap (λ (z : Bytes). take n (drop at z)) (e ∙ sym (append_assoc a b (c ++ d))) ∙ ap (take n) (drop_at (a ++ b) (c ++ d) at (length-append a b ∙ sym ea))
    ∙ take_at c d n (sym en)

-- The second of three.
pub second : (a b c s : Bytes) (at n : ℕ) → s ≡ a ++ (b ++ c) → at ≡ length a → n ≡ length b → take n (drop at s) ≡ b
second a b c s at n e ea en =
    ap (λ (z : Bytes). take n (drop at z)) e ∙ ap (take n) (drop_at a (b ++ c) at (sym ea)) ∙ take_at b c n (sym en)

-- The last of two.
pub tail : (a b s : Bytes) (n : ℕ) → s ≡ a ++ b → n ≡ length b → take n (drop (length s - n) s) ≡ b
tail a b s n e en =
    let l : length a ≡ length s - n = omega (arith, ap length e, length-append a b) in
    ap (λ (z : Bytes). take n (drop (length s - n) z)) e ∙ ap (take n) (drop_at a b (length s - n) l) ∙ take_all n b (omega arith)

-- ---- where writes end, by numbers

-- A block of n bytes ends n bytes behind its start.
pub block_end : (s d d' : Bytes) (from n to r e : ℕ) → from + n ≤ length s → e ≡ to + n → Wrote (take n (drop from s)) d to d' r → Wrote (take n (drop from s)) d to d' e
block_end s d d' from n to r e h q w =
    let z : r ≡ e = omega (arith, w.end, length-take-le n (drop from s) (omega (arith, length-drop from s))) in
    subst (λ (i : ℕ). Wrote (take n (drop from s)) d to d' i) z w

-- What stands behind a write is as it was.
later : (y d d' : Bytes) (to r k : ℕ) → Wrote y d to d' r → r ≤ k → drop k d' ≡ drop k d
later y d d' to r k w h =
    let z : k ≡ r + (k - r) = omega arith in
    ap (λ (i : ℕ). drop i d') z ∙ sym (drop-drop (k - r) r d') ∙ ap (drop (k - r)) w.back ∙ drop-drop (k - r) r d ∙ ap (λ (i : ℕ). drop i d) (sym z)

far : (start end old all : ℕ) → start ≤ end → end ≤ old → old ≤ all → all - (end - start) ≡ old - (end - start) + (all - old)
far start end old all a b c = omega arith

module _ (index leading start end old all : ℕ) (bodies mid bodies' : Bytes) (r q : ℕ) (es : start ≤ end) (ee : end ≤ all) (eo : old ≤ all) (within : all ≤ length bodies)
    (same : length mid ≡ length bodies) (same' : length bodies' ≡ length mid) where
  pub packed_led : (down : ℕ) → down ≡ old - (end - start) → index < leading → end ≤ old → Wrote (take (old - end) (drop end bodies)) bodies start mid r
      → Wrote (take (all - old) (drop (length bodies - (all - old)) mid)) mid down bodies' q → Packed index leading start end old all bodies bodies'
  packed_led down ed h l u v =
      let first = block_end bodies bodies mid end (old - end) start r (old - (end - start)) (omega arith) (omega arith) u in
      let s : drop (length bodies - (all - old)) mid ≡ drop (length bodies - (all - old)) bodies = later _ bodies mid start (old - (end - start)) (length bodies - (all - old)) first (omega arith) in
      let w : Wrote (take (all - old) (drop (length bodies - (all - old)) bodies)) mid (old - (end - start)) bodies' q =
      subst (λ (z : Bytes). Wrote (take (all - old) z) mid (old - (end - start)) bodies' q) s (subst (λ (z : ℕ). Wrote (take (all - old) (drop (length bodies - (all - old)) mid)) mid z bodies' q) ed v) in
      record {
        between = mid;
        same = same' ∙ same;
        before = λ g.
            (first, block_end bodies mid bodies' (length bodies - (all - old)) (all - old) (old - (end - start)) q (all - (end - start)) (omega arith) (far start end old all es l eo) w);
        behind = λ g. absurd (omega (arith, g));
      }

  pub packed_not_led : leading ≤ index → old ≤ start → Wrote (take (start - old) (drop (length bodies - (all - old)) bodies)) bodies old mid r
      → Wrote (take (all - end) (drop (length bodies - (all - end)) mid)) mid start bodies' q → Packed index leading start end old all bodies bodies'
  packed_not_led h l u v =
      let first = block_end bodies bodies mid (length bodies - (all - old)) (start - old) old r start (omega arith) (omega arith) u in
      let s : drop (length bodies - (all - end)) mid ≡ drop (length bodies - (all - end)) bodies = later _ bodies mid old start (length bodies - (all - end)) first (omega arith) in
      let w : Wrote (take (all - end) (drop (length bodies - (all - end)) bodies)) mid start bodies' q = subst (λ (z : Bytes). Wrote (take (all - end) z) mid start bodies' q) s v in
      record {
        between = mid;
        same = same' ∙ same;
        before = λ g. absurd (omega (arith, g));
        behind = λ g. (first, block_end bodies mid bodies' (length bodies - (all - end)) (all - end) start q (all - (end - start)) (omega arith) (omega arith) w);
      }

-- ---- heads: a slot closed

pub closed_heads : (a : List ℕ) (h : ℕ) (c d s s' : List ℕ) (at n : ℕ) → s ≡ a ++ (h ∷ (c ++ d)) → at ≡ length a → n ≡ length a + 1 + length c
    → Wrote (take (n - 1 - at) (drop (at + 1) s) ++ (0 ∷ [])) s at s' n → s' ≡ (a ++ c) ++ (0 ∷ d)
closed_heads a h c d s s' at n e ea en w =
    let l : n - 1 - at ≡ length c = omega arith in
    let ln : length (a ++ ((h ∷ []) ++ c)) ≡ n = omega (arith, length-append a ((h ∷ []) ++ c)) in
    let q : drop n s ≡ d = ap (drop n) (e ∙ sym (append_assoc a (h ∷ c) d)) ∙ drop_at (a ++ (h ∷ c)) d n ln in
    wrote_is _ s s' at n w
    ∙ ap₂ (λ (x y : List ℕ). (x ++ (y ++ (0 ∷ []))) ++ drop n s) (ap (take at) e ∙ take_at a (h ∷ (c ++ d)) at (sym ea))
    (third a (h ∷ []) c d s (at + 1) (n - 1 - at) e (ap (λ (z : ℕ). z + 1) ea) l)
    ∙ ap (λ (z : List ℕ). (a ++ (c ++ (0 ∷ []))) ++ z) q ∙ regroup a c d
  where
    regroup : (a c d : List ℕ) → (a ++ (c ++ (0 ∷ []))) ++ d ≡ (a ++ c) ++ (0 ∷ d)
    regroup a c d = simp append_assoc

-- what is behind goes down, and the last slot is free
pub close_done : (d p : List ℕ) (at n : ℕ) → at < n → n ≤ length d → length p ≡ length d → p ≡ copy_within d (at + 1) n at
    → Wrote (take (n - 1 - at) (drop (at + 1) d) ++ (0 ∷ [])) d at (set p (n - 1) 0) n
close_done d p at n h l lp ep =
    let y : List ℕ = take (n - 1 - at) (drop (at + 1) d) in
    let ly : length y ≡ n - 1 - at = length-take-le (n - 1 - at) (drop (at + 1) d) (omega (arith, length-drop (at + 1) d)) in
    let e : p ≡ (take at d ++ y) ++ drop (n - 1) d =
    ep ∙ ap₂ (λ (i j : ℕ). (take at d ++ take i (drop (at + 1) d)) ++ drop j d) (let z : n - (at + 1) ≡ n - 1 - at = omega arith in z) (let z : at + (n - (at + 1)) ≡ n - 1 = omega arith in z) in
    let w : Wrote y d at p (n - 1) = is_wrote y d p at (n - 1) (omega arith) (omega (arith, ly)) e in
    let r : n - 1 + 1 ≡ n = omega arith in
    subst (λ (z : ℕ). Wrote (y ++ (0 ∷ [])) d at (set p (n - 1) 0) z) r (wrote_then w (wrote_byte 0 p (n - 1) (omega (arith, lp))))

pub one_zero : (n : ℕ) → 0 < n → n ≤ 256 → ◌≡◌ {A = List ℕ} (0 ∷ replicate (256 - n) 0) (replicate (256 - (n - 1)) 0)
one_zero n h l = ap (λ (m : ℕ). replicate m 0) (let z : suc (256 - n) ≡ 256 - (n - 1) = omega arith in z)
