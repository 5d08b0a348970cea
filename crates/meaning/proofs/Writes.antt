-- Writing one thing after another into a lent slice: nothing, a byte, one write and then a next, and the turns of the loops that
-- copy and move. Rests on Wrote alone.
use Prim.Native.Nat.{ℕ, suc, ◌+◌, ◌-◌, ◌≤◌, ◌<◌}
use mathlib.Core.Path.{◌≡◌, refl, sym, ap, ap₂, ◌∙◌}
use mathlib.Core.List.{[], ◌∷◌, ◌++◌, append_assoc, append-nil}
use native.Mathlib.Nat.{add-zero, add_assoc}
use native.Mathlib.Numerals.{add-one}
use native.Mathlib.Omega.{arith}
use lib.ListN.{length, take, drop, get_or, set, length-append, length-take, length-drop, take-append-drop, drop_of_length-le, get_or-append}
use lib.Seq.{take-suc, take-suc-set, take-set-lt, drop-set-lt, set-append_left, drop-drop, drop-cons, get_or-drop, get_or-take, length-take-le, take-length, take_at, drop_at, take-add}
use Rattle.meaning.specs.Bytes.{Bytes}
use Rattle.meaning.specs.Writing.{Wrote}

pub wrote_none : (d : Bytes) (to : ℕ) → Wrote [] d to d to
wrote_none d to = record { end = sym (add-zero to); front = sym (append-nil (take to d)); back = refl }

pub wrote_byte : (b : ℕ) (d : Bytes) (to : ℕ) → to < length d → Wrote (b ∷ []) d to (set d to b) (to + 1)
wrote_byte b d to h =
    record {
      end = refl;
      front = rw add-one (take-suc-set d to b h);
      back = let k : to < to + 1 = omega arith in drop-set-lt (to + 1) d to b k;
    }

module _ {y z d d' d'' : Bytes} {to r q : ℕ} where
  pub wrote_then : Wrote y d to d' r → Wrote z d' r d'' q → Wrote (y ++ z) d to d'' q
  wrote_then u v =
      let p : q ≡ r + length z = v.end in
      record {
        end = omega (arith, u.end, v.end, length-append y z);
        front = v.front ∙ ap (λ (l : Bytes). l ++ z) u.front ∙ append_assoc (take to d) y z;
        back =
            v.back ∙ ap (λ (n : ℕ). drop n d') p ∙ sym (drop-drop (length z) r d') ∙ ap (drop (length z)) u.back ∙ drop-drop (length z) r d
            ∙ ap (λ (n : ℕ). drop n d) (sym p);
      }

-- Any two results of one write are equal.
pub wrote_one : (y d : Bytes) (to : ℕ) (d' d'' : Bytes) (r q : ℕ) → Wrote y d to d' r → Wrote y d to d'' q → (d' ≡ d'') × (r ≡ q)
wrote_one y d to d' d'' r q u v =
    let e : r ≡ q = u.end ∙ sym v.end in (
      sym (take-append-drop r d') ∙ ap (λ (l : Bytes). l ++ drop r d') u.front ∙ ap (λ (l : Bytes). (take to d ++ y) ++ l) (u.back ∙ ap (λ (n : ℕ). drop n d) e ∙ sym v.back)
          ∙ ap (λ (l : Bytes). l ++ drop q d'') (sym v.front) ∙ take-append-drop q d'',
      e,
    )

-- What was written from the front on lies within.
pub wrote_within : {y d d' : Bytes} {k : ℕ} → Wrote y d 0 d' k → k ≤ length d'
wrote_within {y} {d} {d'} {k} u = omega (arith, u.end, length-take k d', length-append (take 0 d) y, ap length u.front)

-- One more byte of a copy from the front of s.
pub copy_turn : (s d₀ d : Bytes) (to i : ℕ) → i < length s → to + i < length d → Wrote (take i s) d₀ to d (to + i)
    → Wrote (take (i + 1) s) d₀ to (set d (to + i) (get_or s i 0)) (to + (i + 1))
copy_turn s d₀ d to i hs hd u =
    let y : take (i + 1) s ≡ take i s ++ (get_or s i 0 ∷ []) = ap (λ (n : ℕ). take n s) (add-one i) ∙ take-suc s i 0 hs in
    rw (y, ← add_assoc to i 1) (wrote_then u (wrote_byte (get_or s i 0) d (to + i) hd))

-- A byte past what was written is still the old one.
pub wrote_past : (y d d' : Bytes) (to r j : ℕ) → Wrote y d to d' r → r ≤ j → get_or d' j 0 ≡ get_or d j 0
wrote_past y d d' to r j u h =
    let z : r + (j - r) ≡ j = omega arith in
    ap (λ (m : ℕ). get_or d' m 0) (sym z) ∙ sym (get_or-drop r d' (j - r) 0) ∙ ap (λ (l : Bytes). get_or l (j - r) 0) u.back ∙ get_or-drop r d (j - r) 0
    ∙ ap (λ (m : ℕ). get_or d m 0) z

-- One more byte of a move down: what is read was not written yet.
pub move_turn : (d₀ d : Bytes) (from to i : ℕ) → to ≤ from → from + i < length d₀ → length d ≡ length d₀ → Wrote (take i (drop from d₀)) d₀ to d (to + i)
    → Wrote (take (i + 1) (drop from d₀)) d₀ to (set d (to + i) (get_or d (from + i) 0)) (to + (i + 1))
move_turn d₀ d from to i h k l u =
    let g : get_or d (from + i) 0 ≡ get_or (drop from d₀) i 0 = wrote_past _ d₀ d to (to + i) (from + i) u (omega arith) ∙ sym (get_or-drop from d₀ i 0) in
    rw g (copy_turn (drop from d₀) d₀ d to i (omega (arith, length-drop from d₀)) (omega arith) u)

-- A move that goes on behind what was moved: what is read was not written yet.
pub move_on : (d₀ d d' : Bytes) (from to k m r : ℕ) → to ≤ from → Wrote (take k (drop from d₀)) d₀ to d (to + k) → Wrote (take m (drop (from + k) d)) d (to + k) d' r
    → Wrote (take (k + m) (drop from d₀)) d₀ to d' r
move_on d₀ d d' from to k m r h u v =
    let z : to + k + (from - to) ≡ from + k = omega arith in
    let s : drop (from + k) d ≡ drop (from + k) d₀ =
    rw (← z) (sym (drop-drop (from - to) (to + k) d) ∙ ap (drop (from - to)) u.back ∙ drop-drop (from - to) (to + k) d₀) in
    rw (take-add k m (drop from d₀), drop-drop k from d₀) (wrote_then u (rw s at v))

-- The same, where it is known how much there is to go on with.
pub move_block : (d₀ d d' y : Bytes) (from to k m r : ℕ) → to ≤ from → from + (k + m) ≤ length d → y ≡ take m (drop (from + k) d)
    → Wrote (take k (drop from d₀)) d₀ to d (to + k) → Wrote y d (to + k) d' r → Wrote (take (k + m) (drop from d₀)) d₀ to d' (to + (k + m))
move_block d₀ d d' y from to k m r h l e u v =
    let q : r ≡ to + (k + m) = omega (arith, v.end, ap length e, length-take m (drop (from + k) d), length-drop (from + k) d) in
    rw q at (move_on d₀ d d' from to k m r h u (rw e at v))

-- A move that goes nowhere.
pub move_none : (d : Bytes) (from n to : ℕ) → from ≡ to → from + n ≤ length d → Wrote (take n (drop from d)) d to d (to + n)
move_none d from n to e h =
    let l : n ≤ length (drop from d) = omega (arith, length-drop from d) in
    record {
      end = ap (λ (k : ℕ). to + k) (sym (length-take-le n (drop from d) l));
      front = take-add to n d ∙ ap (λ (k : ℕ). take to d ++ take n (drop k d)) (sym e);
      back = refl;
    }

-- The end of such a loop: as much as was asked for, and all of s.
pub wrote_upto : (s d d' : Bytes) (to i n : ℕ) → i ≡ n → Wrote (take i s) d to d' (to + i) → Wrote (take n s) d to d' (to + i)
wrote_upto s d d' to i n e u = record { end = rw (← e) u.end; front = rw (← e) u.front; back = u.back }

pub wrote_all : (s d d' : Bytes) (to i : ℕ) → i ≡ length s → Wrote (take i s) d to d' (to + i) → Wrote s d to d' (to + i)
wrote_all s d d' to i e u = rw (take-length s) at (wrote_upto s d d' to i (length s) e u)

-- ---- a write as an equation, and a write inside what was written

pub wrote_is : (y d d' : Bytes) (to r : ℕ) → Wrote y d to d' r → d' ≡ (take to d ++ y) ++ drop r d
wrote_is y d d' to r u = sym (take-append-drop r d') ∙ ap₂ (λ (a b : Bytes). a ++ b) u.front u.back

pub is_wrote : (y d d' : Bytes) (to r : ℕ) → to ≤ length d → r ≡ to + length y → d' ≡ (take to d ++ y) ++ drop r d → Wrote y d to d' r
is_wrote y d d' to r h e q =
    let l : length (take to d ++ y) ≡ r = omega (arith, length-append (take to d) y, length-take-le to d h) in
    record {
      end = e;
      front = ap (take r) q ∙ take_at (take to d ++ y) (drop r d) r l;
      back = ap (drop r) q ∙ drop_at (take to d ++ y) (drop r d) r l;
    }

-- What fills a slice is all of it.
pub wrote_whole : (y d d' : Bytes) (r : ℕ) → length d ≤ r → Wrote y d 0 d' r → d' ≡ y
wrote_whole y d d' r h u = wrote_is y d d' 0 r u ∙ ap (λ (l : Bytes). y ++ l) (drop_of_length-le d h) ∙ append-nil y

-- A byte before what was written is still the old one.
pub wrote_short : (y d d' : Bytes) (to r j : ℕ) → to ≤ length d → j < to → Wrote y d to d' r → get_or d' j 0 ≡ get_or d j 0
wrote_short y d d' to r j h k u =
    let l : j < length (take to d) = omega (arith, length-take-le to d h) in
    ap (λ (s : Bytes). get_or s j 0) (wrote_is y d d' to r u ∙ append_assoc (take to d) y (drop r d)) ∙ get_or-append (take to d) (y ++ drop r d) 0 j l ∙ get_or-take to d j 0 k

-- A byte written just before what was written.
pub wrote_before : (b : ℕ) (y d d' : Bytes) (to r : ℕ) → to < length d → Wrote y d (to + 1) d' r → Wrote (b ∷ y) d to (set d' to b) r
wrote_before b y d d' to r h u =
    let l : to < length (take (to + 1) d) = omega (arith, length-take-le (to + 1) d (omega arith)) in
    let p : set (take (to + 1) d) to b ≡ take to d ++ (b ∷ []) =
    sym (take-set-lt (to + 1) d to b (omega arith)) ∙ ap (λ (n : ℕ). take n (set d to b)) (add-one to) ∙ take-suc-set d to b h in
    is_wrote (b ∷ y) d (set d' to b) to r (omega arith) (omega (arith, u.end))
    (ap (λ (s : Bytes). set s to b) (wrote_is y d d' (to + 1) r u ∙ append_assoc (take (to + 1) d) y (drop r d))
    ∙ set-append_left (take (to + 1) d) (y ++ drop r d) to b l ∙ ap (λ (s : Bytes). s ++ (y ++ drop r d)) p ∙ regroup (take to d) y (drop r d))
  where
    regroup : (s y t : Bytes) → (s ++ (b ∷ [])) ++ (y ++ t) ≡ (s ++ (b ∷ y)) ++ t
    regroup s y t = simp append_assoc

-- One more byte of a move up, which counts down: what is read was not written yet.
pub move_up_turn : (d₀ d : Bytes) (from to n i : ℕ) → from ≤ to → i < n → to + n ≤ length d₀ → Wrote (take (n - (i + 1)) (drop (from + (i + 1)) d₀)) d₀ (to + (i + 1)) d (to + n)
    → Wrote (take (n - i) (drop (from + i) d₀)) d₀ (to + i) (set d (to + i) (get_or d (from + i) 0)) (to + n)
move_up_turn d₀ d from to n i h k l u =
    let g : get_or d (from + i) 0 ≡ get_or d₀ (from + i) 0 = wrote_short _ d₀ d (to + (i + 1)) (to + n) (from + i) (omega arith) (omega arith) u in
    let m : n - i ≡ suc (n - (i + 1)) = omega arith in
    let y : take (n - i) (drop (from + i) d₀) ≡ get_or d₀ (from + i) 0 ∷ take (n - (i + 1)) (drop (from + (i + 1)) d₀) =
    ap₂ (λ (j : ℕ) (s : Bytes). take j s) m (drop-cons d₀ (from + i) 0 (omega arith))
    ∙ ap (λ (j : ℕ). get_or d₀ (from + i) 0 ∷ take (n - (i + 1)) (drop j d₀)) (let z : suc (from + i) ≡ from + (i + 1) = omega arith in z) in
    rw (y, g) (wrote_before (get_or d₀ (from + i) 0) _ d₀ d (to + i) (to + n) (omega arith) (rw (← add_assoc to i 1) at u))

-- x in the middle of what was written becomes z, as long as x
pub wrote_patch : (a x z b d d' d'' : Bytes) (to at r q : ℕ) → to ≤ length d → at ≡ to + length a → length z ≡ length x
    → Wrote (a ++ (x ++ b)) d to d' r → Wrote z d' at d'' q → Wrote (a ++ (z ++ b)) d to d'' r
wrote_patch a x z b d d' d'' to at r q h e l u v =
    let p : Bytes = take to d ++ a in
    let lp : length p ≡ at = omega (arith, length-append (take to d) a, length-take-le to d h) in
    let d'_is : d' ≡ p ++ (x ++ (b ++ drop r d)) = wrote_is (a ++ (x ++ b)) d d' to r u ∙ regroup (take to d) a x b (drop r d) in
    let lpx : length (p ++ x) ≡ q = omega (arith, length-append p x, v.end) in
    let before : take at d' ≡ p = ap (take at) d'_is ∙ take_at p (x ++ (b ++ drop r d)) at lp in
    let after : drop q d' ≡ b ++ drop r d = ap (drop q) (d'_is ∙ sym (append_assoc p x (b ++ drop r d))) ∙ drop_at (p ++ x) (b ++ drop r d) q lpx in
    let d''_is : d'' ≡ (p ++ z) ++ (b ++ drop r d) = wrote_is z d' d'' at q v ∙ ap₂ (λ (s t : Bytes). (s ++ z) ++ t) before after in
    is_wrote (a ++ (z ++ b)) d d'' to r h
    (omega (arith, u.end, length-append a (x ++ b), length-append x b, length-append a (z ++ b), length-append z b))
    (d''_is ∙ append_assoc p z (b ++ drop r d) ∙ sym (regroup (take to d) a z b (drop r d)))
  where
    regroup : (s a x b t : Bytes) → (s ++ (a ++ (x ++ b))) ++ t ≡ (s ++ a) ++ (x ++ (b ++ t))
    regroup s a x b t = simp append_assoc
