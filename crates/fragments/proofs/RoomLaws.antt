-- Heads and a room that hold fragments: their numbers, and what they hold when the free bytes move, when a fragment goes, when one is put behind
-- the others and when one grows. Rests on FragmentLaws and BlockLaws, and on LayoutLaws of `meaning`.
use Prim.Native.Nat.{ℕ, suc, ◌+◌, ◌-◌, ◌*◌, ◌%◌, ◌≤◌, ◌<◌}
use mathlib.Core.Path.{◌≡◌, refl, sym, ap, ap₂, ◌∙◌, subst}
use mathlib.Core.Bool.{Bool, true, false, cond, ◌&&◌}
use mathlib.Core.List.{List, [], ◌∷◌, ◌++◌, map, map-append, append_assoc, append-nil}
use mathlib.Core.Option.{some}
use native.Mathlib.Omega.{arith}
use lib.ListN.{length, take, drop, get_or, set, replicate, length-append, length-map, length-replicate, take-append-drop, drop_of_length-le}
use lib.Seq.{take_at, drop_at, set_at, get_or_at, take_all, take-take, take-add, drop-drop, take-append-add, drop-append-add}
use lib.Dec.{leb, ltb}
use borrow.Author.Tests.{ltb-true, ltb-false, leb-true, leb-false, lt-ltb, le-ltb, le-leb, lt-leb}
use Rattle.meaning.specs.Bytes.{Bytes}
use Rattle.meaning.specs.Writing.{Wrote}
use Rattle.meaning.specs.Learn.{Fragment, without, fragment_bytes, fragment_of, grown, grow_in, hold_first}
use Rattle.meaning.specs.Record.{slots, fragment_head, bodies_of, room_of, lens}
use Rattle.meaning.specs.Leading.{index_of}
use Rattle.meaning.specs.Soundness.{distinct, identifiers, HoldsFragments}
use Rattle.meaning.specs.declared.Limits.{Limits}
use Rattle.meaning.proofs.SoundnessKept.{without_holds}
use Rattle.meaning.proofs.LayoutLaws.{bodies_append, bodies_next, bodies_one, bodies_none, bytes_of_lem, longer_take, shorter_drop, take_map, drop_map}
use Rattle.meaning.proofs.SoundnessLaws.{Tells, TellAll, heads_tell, used, tell_take, tell_drop, lens_heads}
use Rattle.fragments.specs.Room.{FreeMoved, Packed}
use Rattle.fragments.specs.Fragments.{index_in, Heads, others_of, length_at, TakesOut, KeptFragments, KeepsFragments, Numbers, Nearest, held_behind, Grows}
use Rattle.fragments.proofs.FragmentLaws.{index_fragment_heads, Spot, spot, missing, without_is}
use Rattle.fragments.proofs.BlockLaws.{moved_down, moved_up, filled, second, third, tail, closed_heads, one_zero}

abbrev size : List Fragment → ℕ
size fs = length (bodies_of fs)

size_append : (xs ys : List Fragment) → size (xs ++ ys) ≡ size xs + size ys
size_append xs ys = ap length (bodies_append xs ys) ∙ length-append (bodies_of xs) (bodies_of ys)

room_is_parts : (leading : ℕ) (fs : List Fragment) (free : Bytes) → room_of leading fs free ≡ bodies_of (take leading fs) ++ (free ++ bodies_of (drop leading fs))
unfolding room_of
room_is_parts leading fs free = refl

-- ---- heads in their slots

module _ {fs : List Fragment} {n : ℕ} {fragment_heads : List ℕ} (k : Heads fs n fragment_heads) where
  pub first_heads : take n fragment_heads ≡ map fragment_head fs
  first_heads = ap₂ (λ (m : ℕ) (l : List ℕ). take m l) k.count k.are ∙ used 256 fragment_head fs

  pub heads_are : fragment_heads ≡ map fragment_head fs ++ replicate (256 - n) 0
  unfolding slots
  heads_are = k.are ∙ ap (λ (m : ℕ). map fragment_head fs ++ replicate (256 - m) 0) (length-map fs fragment_head ∙ sym k.count)

heads_from : (fs : List Fragment) (n : ℕ) (fragment_heads : List ℕ) → n ≡ length fs → fragment_heads ≡ map fragment_head fs ++ replicate (256 - n) 0 → Heads fs n fragment_heads
unfolding slots
heads_from fs n fragment_heads c h = record {
  count = c;
  are = h ∙ ap (λ (m : ℕ). map fragment_head fs ++ replicate (256 - m) 0) (c ∙ sym (length-map fs fragment_head));
}

-- ---- what is held, whole

module _ {T : ℕ} {fs : List Fragment} {n leading : ℕ} {fragment_heads : List ℕ} {bodies : Bytes} (k : KeptFragments T fs n leading fragment_heads bodies) where
  pub tell : TellAll fs
  tell = heads_tell T fs k.hold k.total_few

  -- the bytes of the first i
  pub sum_at : (i : ℕ) → i ≤ n → lens (take i fragment_heads) ≡ size (take i fs)
  sum_at i h =
      ap lens (sym (take-take i n fragment_heads h) ∙ ap (take i) (first_heads k.heads) ∙ take_map fragment_head i fs) ∙ lens_heads (take i fs) (tell_take i fs tell)

  pub sum_all : lens (take n fragment_heads) ≡ size fs
  sum_all = ap lens (first_heads k.heads) ∙ lens_heads fs tell

  pub sum_is : lens (take n fragment_heads) ≡ fragment_bytes fs
  sum_is = sum_all ∙ sym (bytes_of_lem fs)

  pub parts : (i : ℕ) → size fs ≡ size (take i fs) + size (drop i fs)
  parts i = ap size (sym (take-append-drop i fs)) ∙ size_append (take i fs) (drop i fs)

  pub room_length : length bodies ≡ size (take leading fs) + (length k.free + size (drop leading fs))
  room_length =
      ap length (k.room_is ∙ room_is_parts leading fs k.free) ∙ length-append (bodies_of (take leading fs)) (k.free ++ bodies_of (drop leading fs))
      ∙ ap (λ (m : ℕ). size (take leading fs) + m) (length-append k.free (bodies_of (drop leading fs)))

  pub length_own : (index : ℕ) → length_at index n fragment_heads ≡ size (take 1 (drop index fs))
  unfolding length_at
  length_own index =
      ap (λ (l : List ℕ). lens (take 1 (drop index l))) (first_heads k.heads) ∙ ap (λ (l : List ℕ). lens (take 1 l)) (drop_map fragment_head index fs)
      ∙ ap lens (take_map fragment_head 1 (drop index fs)) ∙ lens_heads (take 1 (drop index fs)) (tell_take 1 (drop index fs) (tell_drop index fs tell))

  pub index_is : (p : ℕ) → index_in p (take n fragment_heads) ≡ index_of p fs
  index_is p = ap (index_in p) (first_heads k.heads) ∙ index_fragment_heads p fs tell

  pub slots_all : length fragment_heads ≡ 256
  slots_all =
      ap length (heads_are k.heads) ∙ length-append (map fragment_head fs) (replicate (256 - n) 0)
      ∙ ap₂ (λ (a b : ℕ). a + b) (length-map fs fragment_head) (length-replicate (256 - n) 0)
      ∙ (let z : length fs + (256 - n) ≡ 256 = omega (arith, k.heads.count, k.hold.few) in z)

  pub numbers : Numbers n fragment_heads bodies
  numbers = record {
    few = omega (arith, k.heads.count, k.hold.few);
    within = omega (arith, sum_is, k.hold.within, k.total);
    total_few = omega (arith, k.total, k.total_few);
  }

  pub spot_is : (p : ℕ) → index_of p fs < n → Spot p fs
  spot_is p h = spot p fs k.hold.once (omega (arith, k.heads.count))

  -- the same fragments, another number that lead
  led_by : (to : ℕ) (bodies' free : Bytes) → length bodies' ≡ length bodies → bodies' ≡ room_of to fs free → KeptFragments T fs n to fragment_heads bodies'
  led_by to bodies' free same e = record {
    heads = k.heads;
    free = free;
    room_is = e;
    total = same ∙ k.total;
    total_few = k.total_few;
    hold = k.hold;
  }

  pub nearest_kept : (r : ℕ) → Nearest n leading r → KeptFragments T fs n r fragment_heads bodies
  nearest_kept r m = go (leb leading n) refl
    where
      with_number : take leading fs ≡ take r fs → drop leading fs ≡ drop r fs → KeptFragments T fs n r fragment_heads bodies
      with_number e d =
          led_by r bodies k.free refl
          (k.room_is ∙ room_is_parts leading fs k.free ∙ ap₂ (λ (x y : List Fragment). bodies_of x ++ (k.free ++ bodies_of y)) e d ∙ sym (room_is_parts r fs k.free))

      go : (a : Bool) → leb leading n ≡ a → KeptFragments T fs n r fragment_heads bodies
      go true e =
          let z : leading ≡ r = sym (m.within (leb-true leading n e)) in
          with_number (ap (λ (i : ℕ). take i fs) z) (ap (λ (i : ℕ). drop i fs) z)
      go false e =
          let l : n < leading = leb-false leading n e in
          let z : r ≡ n = m.above (omega arith) in
          let a : length fs ≤ leading = omega (arith, k.heads.count) in
          let b : length fs ≤ r = omega (arith, k.heads.count) in
          with_number (take_all leading fs a ∙ sym (take_all r fs b)) (drop_of_length-le fs a ∙ sym (drop_of_length-le fs b))

  -- ---- the free bytes moved

  module _ (to old new all : ℕ) (bodies' : Bytes) (low : leading ≤ n) (high : to ≤ n) (eo : old ≡ lens (take leading fragment_heads))
      (en : new ≡ lens (take to fragment_heads)) (ea : all ≡ lens (take n fragment_heads)) (m : FreeMoved leading to old new all bodies bodies') where
    abbrev old_is : old ≡ size (take leading fs)
    old_is = eo ∙ sum_at leading low

    abbrev new_is : new ≡ size (take to fs)
    new_is = en ∙ sum_at to high

    abbrev all_is : all ≡ size fs
    all_is = ea ∙ sum_all

    downwards : leading < to → KeptFragments T fs n to fragment_heads bodies'
    downwards h =
        let mid : List Fragment = take (to - leading) (drop leading fs) in
        let a : Bytes = bodies_of (take leading fs) in
        let x : Bytes = bodies_of mid in
        let c : Bytes = bodies_of (drop to fs) in
        let g : Bytes = k.free in
        let le : leading ≤ to = omega arith in
        let tx : bodies_of (take to fs) ≡ a ++ x = ap bodies_of (longer_take leading to fs le) ∙ bodies_append (take leading fs) mid in
        let dx : bodies_of (drop leading fs) ≡ x ++ c = ap bodies_of (shorter_drop leading to fs le) ∙ bodies_append mid (drop to fs) in
        let e : bodies ≡ a ++ (g ++ (x ++ c)) = k.room_is ∙ room_is_parts leading fs g ∙ ap (λ (z : Bytes). a ++ (g ++ z)) dx in
        let lx : size (take to fs) ≡ length a + length x = ap length tx ∙ length-append a x in
        let lb : length bodies - (all - old) ≡ length a + length g = omega (arith, old_is, all_is, parts leading, room_length) in
        let block = third a g x c bodies (length bodies - (all - old)) (new - old) e lb (omega (arith, old_is, new_is, lx)) in
        let rest : Bytes = drop (length x) (g ++ x) in
        led_by to bodies' rest m.same
        (moved_down a g x c bodies bodies' old new e old_is (subst (λ (z : Bytes). Wrote z bodies old bodies' new) block (m.down h))
        ∙ sym (append_assoc a x (rest ++ c)) ∙ ap (λ (z : Bytes). z ++ (rest ++ c)) (sym tx) ∙ sym (room_is_parts to fs rest))

    upwards : to ≤ leading → KeptFragments T fs n to fragment_heads bodies'
    upwards h =
        let mid : List Fragment = take (leading - to) (drop to fs) in
        let a : Bytes = bodies_of (take to fs) in
        let x : Bytes = bodies_of mid in
        let c : Bytes = bodies_of (drop leading fs) in
        let g : Bytes = k.free in
        let tx : bodies_of (take leading fs) ≡ a ++ x = ap bodies_of (longer_take to leading fs h) ∙ bodies_append (take to fs) mid in
        let dx : bodies_of (drop to fs) ≡ x ++ c = ap bodies_of (shorter_drop to leading fs h) ∙ bodies_append mid (drop leading fs) in
        let e : bodies ≡ a ++ (x ++ (g ++ c)) = k.room_is ∙ room_is_parts leading fs g ∙ ap (λ (z : Bytes). z ++ (g ++ c)) tx ∙ append_assoc a x (g ++ c) in
        let lx : size (take leading fs) ≡ length a + length x = ap length tx ∙ length-append a x in
        let lb : length bodies - (all - new) ≡ length a + length g = omega (arith, old_is, new_is, all_is, parts leading, room_length, lx) in
        let block = second a x (g ++ c) bodies new (old - new) e new_is (omega (arith, old_is, new_is, lx)) in
        let rest : Bytes = take (length g) (x ++ (g ++ c)) in
        led_by to bodies' rest m.same
        (moved_up a x g c bodies bodies' (length bodies - (all - new)) (length bodies - (all - old)) e lb
        (subst (λ (z : Bytes). Wrote z bodies (length bodies - (all - new)) bodies' (length bodies - (all - old))) block (m.up h))
        ∙ ap (λ (z : Bytes). a ++ (rest ++ z)) (sym dx) ∙ sym (room_is_parts to fs rest))

    pub free_moved : KeptFragments T fs n to fragment_heads bodies'
    free_moved = go (ltb leading to) refl
      where
        go : (x : Bool) → ltb leading to ≡ x → KeptFragments T fs n to fragment_heads bodies'
        go true e = downwards (ltb-true leading to e)
        go false e = upwards (ltb-false leading to e)

-- ---- by what is held, whatever it is

pub some_numbers : {n leading : ℕ} {fragment_heads : List ℕ} {bodies : Bytes} → KeepsFragments n leading fragment_heads bodies → Numbers n fragment_heads bodies
some_numbers k = numbers k.2

-- ---- a head taken out

module _ (index n : ℕ) (fragment_heads fragment_heads' : List ℕ) where
  closed : (p : ℕ) (fs : List Fragment) → index < n → n ≤ 256 → distinct (identifiers fs) ≡ true → index ≡ index_of p fs
      → Wrote (take (n - 1 - index) (drop (index + 1) fragment_heads) ++ (0 ∷ [])) fragment_heads index fragment_heads' n → Heads fs n fragment_heads → Heads (without p fs) (n - 1) fragment_heads'
  closed p fs lt few d at w k =
      let s = spot p fs d (omega (arith, k.count)) in
      let xs = s.before in
      let f = s.fragment in
      let ys = s.behind in
      let zeros : List ℕ = replicate (256 - n) 0 in
      let c : n ≡ length xs + 1 + length ys = omega (arith, k.count, ap length s.whole, length-append xs (f ∷ ys)) in
      let hs : fragment_heads ≡ map fragment_head xs ++ (fragment_head f ∷ (map fragment_head ys ++ zeros)) =
      heads_are k ∙ ap (λ (l : List ℕ). l ++ zeros) (ap (map fragment_head) s.whole ∙ map-append fragment_head xs (f ∷ ys))
      ∙ append_assoc (map fragment_head xs) (fragment_head f ∷ map fragment_head ys) zeros in
      let hx : index ≡ length (map fragment_head xs) = at ∙ sym s.index ∙ sym (length-map xs fragment_head) in
      let hn : n ≡ length (map fragment_head xs) + 1 + length (map fragment_head ys) = omega (arith, c, length-map xs fragment_head, length-map ys fragment_head) in
      subst (λ (l : List Fragment). Heads l (n - 1) fragment_heads') (sym s.rest)
      (heads_from (xs ++ ys) (n - 1) fragment_heads' (omega (arith, c, length-append xs ys))
      (closed_heads (map fragment_head xs) (fragment_head f) (map fragment_head ys) zeros fragment_heads fragment_heads' index n hs hx hn w
      ∙ ap₂ (λ (y z : List ℕ). y ++ z) (sym (map-append fragment_head xs ys)) (one_zero n (omega arith) few)))

  pub taken_out : index < n → n ≤ 256 → Wrote (take (n - 1 - index) (drop (index + 1) fragment_heads) ++ (0 ∷ [])) fragment_heads index fragment_heads' n
      → TakesOut index n fragment_heads fragment_heads'
  unfolding others_of
  taken_out lt few w p fs d at k = rw (lt-ltb index n lt) (closed p fs lt few d at w k)

pub none_out : (index n : ℕ) (fragment_heads : List ℕ) → n ≤ index → TakesOut index n fragment_heads fragment_heads
unfolding others_of
none_out index n fragment_heads h p fs d at k =
    rw (le-ltb index n h) (subst (λ (l : List Fragment). Heads l n fragment_heads) (sym (missing p fs (omega (arith, k.count))).0) k)

-- ---- around one fragment

module _ {A : Type 0} (xs : List A) (f : A) (ys : List A) where
  take_past : (m i : ℕ) → m ≡ length xs + suc i → take m (xs ++ (f ∷ ys)) ≡ xs ++ (f ∷ take i ys)
  take_past m i e = ap (λ (k : ℕ). take k (xs ++ (f ∷ ys))) e ∙ take-append-add xs (f ∷ ys) (suc i)

  drop_past : (m i : ℕ) → m ≡ length xs + suc i → drop m (xs ++ (f ∷ ys)) ≡ drop i ys
  drop_past m i e = ap (λ (k : ℕ). drop k (xs ++ (f ∷ ys))) e ∙ drop-append-add xs (f ∷ ys) (suc i)

tell_apart : (xs : List Fragment) (f : Fragment) (ys : List Fragment) → TellAll (xs ++ (f ∷ ys)) → Tells f
tell_apart [] f ys h = h.0
tell_apart (x ∷ xs) f ys h = tell_apart xs f ys h.1

grown_head : (f : Fragment) (b : Bytes) → fragment_head f + length b ≡ fragment_head (grown f b)
unfolding fragment_head
grown_head f b = omega (arith, length-append f.body b)

-- the head of the fragment at an index
pub record There (p : ℕ) (fs : List Fragment) (index : ℕ) (fragment_heads : List ℕ) : Type 0 where
  pub fragment : Fragment
  pub found : fragment_of p fs ≡ some fragment
  pub head_is : get_or fragment_heads index 0 ≡ fragment_head fragment
  pub tells : Tells fragment

module _ (T p : ℕ) (fs : List Fragment) (index n leading : ℕ) (fragment_heads : List ℕ) (bodies : Bytes) (at : index ≡ index_of p fs) (lt : index < n)
    (k : KeptFragments T fs n leading fragment_heads bodies) where
  abbrev here : Spot p fs
  here = spot_is k p (omega arith)

  abbrev xs : List Fragment
  xs = here.before

  abbrev f : Fragment
  f = here.fragment

  abbrev ys : List Fragment
  ys = here.behind

  abbrev index_xs : index ≡ length xs
  index_xs = at ∙ sym here.index

  heads_split : fragment_heads ≡ map fragment_head xs ++ (fragment_head f ∷ (map fragment_head ys ++ replicate (256 - n) 0))
  heads_split =
      heads_are k.heads ∙ ap (λ (l : List ℕ). l ++ replicate (256 - n) 0) (ap (map fragment_head) here.whole ∙ map-append fragment_head xs (f ∷ ys))
      ∙ append_assoc (map fragment_head xs) (fragment_head f ∷ map fragment_head ys) (replicate (256 - n) 0)

  head_at : get_or fragment_heads index 0 ≡ fragment_head f
  head_at =
      ap (λ (l : List ℕ). get_or l index 0) heads_split
      ∙ get_or_at (map fragment_head xs) (fragment_head f) (map fragment_head ys ++ replicate (256 - n) 0) 0 index (length-map xs fragment_head ∙ sym index_xs)

  pub there : There p fs index fragment_heads
  there = record {
    fragment = f;
    found = here.found;
    head_is = head_at;
    tells = tell_apart xs f ys (subst TellAll here.whole (tell k));
  }

  take_xs : take index fs ≡ xs
  take_xs = ap (take index) here.whole ∙ take_at xs (f ∷ ys) index (sym index_xs)

  drop_xs : drop index fs ≡ f ∷ ys
  drop_xs = ap (drop index) here.whole ∙ drop_at xs (f ∷ ys) index (sym index_xs)

  take_f : (m i : ℕ) → m ≡ index + suc i → take m fs ≡ xs ++ (f ∷ take i ys)
  take_f m i e = ap (take m) here.whole ∙ take_past xs f ys m i (e ∙ ap (λ (z : ℕ). z + suc i) index_xs)

  drop_f : (m i : ℕ) → m ≡ index + suc i → drop m fs ≡ drop i ys
  drop_f m i e = ap (drop m) here.whole ∙ drop_past xs f ys m i (e ∙ ap (λ (z : ℕ). z + suc i) index_xs)

  -- ---- it goes, where the free bytes are beside it

  module _ (fragment_heads' : List ℕ) (w : Wrote (take (n - 1 - index) (drop (index + 1) fragment_heads) ++ (0 ∷ [])) fragment_heads index fragment_heads' n) where
    left_with : (free : Bytes) → bodies ≡ bodies_of xs ++ (free ++ bodies_of ys) → KeptFragments T (without p fs) (n - 1) index fragment_heads' bodies
    left_with free e =
        let rs : bodies ≡ room_of index (xs ++ ys) free =
        e ∙ ap₂ (λ (s t : List Fragment). bodies_of s ++ (free ++ bodies_of t)) (sym (take_at xs ys index (sym index_xs))) (sym (drop_at xs ys index (sym index_xs)))
        ∙ sym (room_is_parts index (xs ++ ys) free) in
        record {
          heads = closed index n fragment_heads fragment_heads' p fs lt (omega (arith, k.heads.count, k.hold.few)) k.hold.once at w k.heads;
          free = free;
          room_is = rs ∙ ap (λ (l : List Fragment). room_of index l free) (sym here.rest);
          total = k.total;
          total_few = k.total_few;
          hold = without_holds T p fs k.hold;
        }

    -- they are behind it
    pub left_last : leading ≡ index + 1 → KeptFragments T (without p fs) (n - 1) index fragment_heads' bodies
    left_last e =
        left_with (f.body ++ k.free)
        (k.room_is ∙ room_is_parts leading fs k.free
        ∙ ap₂ (λ (s t : Bytes). s ++ (k.free ++ t)) (ap bodies_of (take_f leading 0 e) ∙ bodies_append xs (f ∷ []) ∙ ap (λ (z : Bytes). bodies_of xs ++ z) (bodies_one f)) (ap bodies_of (drop_f leading 0 e))
        ∙ regroup (bodies_of xs) f.body k.free (bodies_of ys))
      where
        regroup : (a b g c : Bytes) → (a ++ b) ++ (g ++ c) ≡ a ++ ((b ++ g) ++ c)
        regroup a b g c = simp append_assoc

    -- they are before it
    pub left_next : leading ≡ index → KeptFragments T (without p fs) (n - 1) index fragment_heads' bodies
    left_next e =
        left_with (k.free ++ f.body)
        (k.room_is ∙ room_is_parts leading fs k.free
        ∙ ap₂ (λ (s t : List Fragment). bodies_of s ++ (k.free ++ bodies_of t)) (ap (λ (i : ℕ). take i fs) e ∙ take_xs) (ap (λ (i : ℕ). drop i fs) e ∙ drop_xs)
        ∙ ap (λ (t : Bytes). bodies_of xs ++ (k.free ++ t)) (bodies_next f ys) ∙ ap (λ (t : Bytes). bodies_of xs ++ t) (sym (append_assoc k.free f.body (bodies_of ys))))

  -- ---- it grows, where the free bytes are behind it

  pub grown_in : (b : Bytes) (fragment_heads' : List ℕ) (bodies' : Bytes) (q : ℕ) → leading ≡ index + 1 → lens (take n fragment_heads) + length b ≤ length bodies → length bodies' ≡ length bodies
      → Wrote b bodies (lens (take (index + 1) fragment_heads)) bodies' q → fragment_heads' ≡ set fragment_heads index (get_or fragment_heads index 0 + length b) → HoldsFragments T (grow_in p b fs)
      → Grows T p b fs n (index + 1) (lens (take index fragment_heads)) fragment_heads' bodies'
  grown_in b fragment_heads' bodies' q el fit same w eh hold =
      let g : Fragment = grown f b in
      let ba : bodies_of (take (index + 1) fs) ≡ bodies_of xs ++ f.body =
      ap bodies_of (take_f (index + 1) 0 refl) ∙ bodies_append xs (f ∷ []) ∙ ap (λ (z : Bytes). bodies_of xs ++ z) (bodies_one f) in
      let rs₀ : bodies ≡ (bodies_of xs ++ f.body) ++ (k.free ++ bodies_of ys) =
      k.room_is ∙ room_is_parts leading fs k.free
      ∙ ap₂ (λ (s t : Bytes). s ++ (k.free ++ t)) (ap (λ (i : ℕ). bodies_of (take i fs)) el ∙ ba) (ap bodies_of (drop_f leading 0 el)) in
      let end_is : lens (take (index + 1) fragment_heads) ≡ length (bodies_of xs ++ f.body) = sum_at k (index + 1) (omega arith) ∙ ap length ba in
      let gl : length b ≤ length k.free =
      omega (arith, room_length k, sum_all k, parts k leading) in
      let rest : Bytes = drop (length b) k.free in
      let rs : bodies' ≡ ((bodies_of xs ++ f.body) ++ b) ++ (rest ++ bodies_of ys) =
      filled (bodies_of xs ++ f.body) k.free (bodies_of ys) b bodies bodies' (lens (take (index + 1) fragment_heads)) q rs₀ end_is gl w in
      let zeros : List ℕ = replicate (256 - n) 0 in
      let hv : get_or fragment_heads index 0 + length b ≡ fragment_head g = ap (λ (z : ℕ). z + length b) head_at ∙ grown_head f b in
      let hs : fragment_heads' ≡ map fragment_head xs ++ (fragment_head g ∷ (map fragment_head ys ++ zeros)) =
      eh ∙ ap₂ (λ (l : List ℕ) (z : ℕ). set l index z) heads_split hv
      ∙ set_at (map fragment_head xs) (fragment_head f) (map fragment_head ys ++ zeros) (fragment_head g) index (length-map xs fragment_head ∙ sym index_xs) in
      let c : n ≡ length (xs ++ (g ∷ ys)) = omega (arith, k.heads.count, ap length here.whole, length-append xs (f ∷ ys), length-append xs (g ∷ ys)) in
      let one : index + 1 ≡ length xs + 1 = ap (λ (z : ℕ). z + 1) index_xs in
      let tg : bodies_of (take (index + 1) (xs ++ (g ∷ ys))) ≡ bodies_of xs ++ (f.body ++ b) =
      ap bodies_of (take_past xs g ys (index + 1) 0 one) ∙ bodies_append xs (g ∷ []) ∙ ap (λ (z : Bytes). bodies_of xs ++ z) (bodies_one g) in
      let dg : bodies_of (drop (index + 1) (xs ++ (g ∷ ys))) ≡ bodies_of ys = ap bodies_of (drop_past xs g ys (index + 1) 0 one) in
      let start_is : lens (take index fragment_heads) ≡ length (bodies_of xs) = sum_at k index (omega arith) ∙ ap size take_xs in
      let lb : length f.body + length b ≡ length (f.body ++ b) = sym (length-append f.body b) in
      record {
        fragment = f;
        found = here.found;
        kept = subst (λ (l : List Fragment). KeptFragments T l n (index + 1) fragment_heads' bodies') (sym (here.grows b))
            (record {
              heads = heads_from (xs ++ (g ∷ ys)) n fragment_heads' c
                  (hs ∙ sym (append_assoc (map fragment_head xs) (fragment_head g ∷ map fragment_head ys) zeros) ∙ ap (λ (l : List ℕ). l ++ zeros) (sym (map-append fragment_head xs (g ∷ ys))));
              free = rest;
              room_is = rs ∙ ap (λ (z : Bytes). z ++ (rest ++ bodies_of ys)) (append_assoc (bodies_of xs) f.body b)
                  ∙ ap₂ (λ (s t : Bytes). s ++ (rest ++ t)) (sym tg) (sym dg) ∙ sym (room_is_parts (index + 1) (xs ++ (g ∷ ys)) rest);
              total = same ∙ k.total;
              total_few = k.total_few;
              hold = subst (HoldsFragments T) (here.grows b) hold;
            });
        body_is = second (bodies_of xs) (f.body ++ b) (rest ++ bodies_of ys) bodies' (lens (take index fragment_heads)) (length f.body + length b)
            (rs ∙ regroup (bodies_of xs) f.body b (rest ++ bodies_of ys)) start_is lb;
      }
    where
      regroup : (a b c d : Bytes) → ((a ++ b) ++ c) ++ d ≡ a ++ ((b ++ c) ++ d)
      regroup a b c d = simp append_assoc

-- ---- one behind the others, all packed

module _ (T p : ℕ) (fs : List Fragment) (index n leading : ℕ) (fragment_heads : List ℕ) (bodies : Bytes) (at : index ≡ index_of p fs) (le : index ≤ n)
    (k : KeptFragments T fs n leading fragment_heads bodies) where
  abbrev before : List Fragment
  before = take index fs

  abbrev own : List Fragment
  own = take 1 (drop index fs)

  abbrev behind : List Fragment
  behind = drop (index + 1) fs

  whole : fs ≡ before ++ (own ++ behind)
  whole =
      sym (take-append-drop index fs)
      ∙ ap (λ (l : List Fragment). before ++ l) (sym (take-append-drop 1 (drop index fs)) ∙ ap (λ (l : List Fragment). own ++ l) (drop-drop 1 index fs))

  size_whole : size fs ≡ size before + (size own + size behind)
  size_whole = ap size whole ∙ size_append before (own ++ behind) ∙ ap (λ (m : ℕ). size before + m) (size_append own behind)

  others_whole : without p fs ≡ before ++ behind
  others_whole = without_is p fs k.hold.once ∙ ap (λ (i : ℕ). take i fs ++ drop (i + 1) fs) (sym at)

  pub others_bytes : lens (take n fragment_heads) ≡ fragment_bytes (without p fs) + length_at index n fragment_heads
  others_bytes =
      omega (
        arith,
        length_own k index,
        sum_all k,
        size_whole,
        bytes_of_lem (without p fs),
        ap size others_whole,
        size_append before behind,
      )

  module _ (low : leading ≤ n) (start end old all : ℕ) (bodies' : Bytes) (es : start ≡ lens (take index fragment_heads)) (ee : end ≡ start + length_at index n fragment_heads)
      (eo : old ≡ lens (take leading fragment_heads)) (ea : all ≡ lens (take n fragment_heads)) (m : Packed index leading start end old all bodies bodies') where
    abbrev start_is : start ≡ size before
    start_is = es ∙ sum_at k index le

    abbrev own_is : end ≡ start + size own
    own_is = ee ∙ ap (λ (z : ℕ). start + z) (length_own k index)

    abbrev before_free : old ≡ size (take leading fs)
    before_free = eo ∙ sum_at k leading low

    abbrev all_sum : all ≡ size before + (size own + size behind)
    all_sum = ea ∙ sum_all k ∙ size_whole

    -- it led: what stands between it and the free bytes goes down
    front_led : index < leading → take (all - (end - start)) bodies' ≡ bodies_of before ++ bodies_of behind
    front_led h =
        let i : ℕ = leading - (index + 1) in
        let l : leading ≡ index + 1 + i = omega arith in
        let x : Bytes = bodies_of (take i behind) in
        let y : Bytes = bodies_of (drop leading fs) in
        let tl : bodies_of (take leading fs) ≡ bodies_of before ++ (bodies_of own ++ x) =
        ap bodies_of (longer_take index leading fs (omega arith) ∙ ap (λ (z : List Fragment). before ++ z) (ap (λ (j : ℕ). take j (drop index fs)) (let z : leading - index ≡ 1 + i = omega arith in z) ∙ take_add_one i))
        ∙ bodies_append before (own ++ take i behind) ∙ ap (λ (z : Bytes). bodies_of before ++ z) (bodies_append own (take i behind)) in
        let dl : bodies_of behind ≡ x ++ y =
        ap bodies_of (sym (take-append-drop i behind)) ∙ bodies_append (take i behind) (drop i behind)
        ∙ ap (λ (z : List Fragment). x ++ bodies_of z) (drop-drop i (index + 1) fs ∙ ap (λ (j : ℕ). drop j fs) (sym l)) in
        let e : bodies ≡ bodies_of before ++ (bodies_of own ++ (x ++ (k.free ++ y))) =
        k.room_is ∙ room_is_parts leading fs k.free ∙ ap (λ (z : Bytes). z ++ (k.free ++ y)) tl ∙ regroup (bodies_of before) (bodies_of own) x (k.free ++ y) in
        let lo : old ≡ size before + (size own + length x) = before_free ∙ ap length tl ∙ length-append (bodies_of before) (bodies_of own ++ x) ∙ ap (λ (z : ℕ). size before + z) (length-append (bodies_of own) x) in
        let ly : size behind ≡ length x + length y = ap length dl ∙ length-append x y in
        let w = m.before h in
        let bx = third (bodies_of before) (bodies_of own) x (k.free ++ y) bodies end (old - end) e (omega (arith, start_is, own_is)) (omega (arith, start_is, own_is)) in
        let by : take (all - old) (drop (length bodies - (all - old)) bodies) ≡ y =
        tail (bodies_of before ++ (bodies_of own ++ (x ++ k.free))) y bodies (all - old) (e ∙ regroup₅ (bodies_of before) (bodies_of own) x k.free y) (omega (arith, all_sum)) in
        let low_part : take start bodies ≡ bodies_of before = ap (take start) e ∙ take_at (bodies_of before) (bodies_of own ++ (x ++ (k.free ++ y))) start (sym start_is) in
        w.1.front ∙ ap₂ (λ (s t : Bytes). s ++ t) (w.0.front ∙ ap₂ (λ (s t : Bytes). s ++ t) low_part bx) by
        ∙ append_assoc (bodies_of before) x y ∙ ap (λ (z : Bytes). bodies_of before ++ z) (sym dl)
      where
        take_add_one : (i : ℕ) → take (1 + i) (drop index fs) ≡ own ++ take i behind
        take_add_one i = take-add 1 i (drop index fs) ∙ ap (λ (z : List Fragment). own ++ take i z) (drop-drop 1 index fs)

        regroup : (a b c d : Bytes) → (a ++ (b ++ c)) ++ d ≡ a ++ (b ++ (c ++ d))
        regroup a b c d = simp append_assoc

        regroup₅ : (a b c d e : Bytes) → a ++ (b ++ (c ++ (d ++ e))) ≡ (a ++ (b ++ (c ++ d))) ++ e
        regroup₅ a b c d e = simp append_assoc

    -- it did not: what stands between the free bytes and it goes down
    front_led_not : leading ≤ index → take (all - (end - start)) bodies' ≡ bodies_of before ++ bodies_of behind
    front_led_not h =
        let a : Bytes = bodies_of (take leading fs) in
        let x : Bytes = bodies_of (take (index - leading) (drop leading fs)) in
        let bl : bodies_of before ≡ a ++ x = ap bodies_of (longer_take leading index fs h) ∙ bodies_append (take leading fs) (take (index - leading) (drop leading fs)) in
        let dl : bodies_of (drop leading fs) ≡ x ++ (bodies_of own ++ bodies_of behind) =
        ap bodies_of (shorter_drop leading index fs h ∙ ap (λ (z : List Fragment). take (index - leading) (drop leading fs) ++ z) (sym (take-append-drop 1 (drop index fs)) ∙ ap (λ (l : List Fragment). own ++ l) (drop-drop 1 index fs)))
        ∙ bodies_append (take (index - leading) (drop leading fs)) (own ++ behind) ∙ ap (λ (z : Bytes). x ++ z) (bodies_append own behind) in
        let e : bodies ≡ a ++ (k.free ++ (x ++ (bodies_of own ++ bodies_of behind))) = k.room_is ∙ room_is_parts leading fs k.free ∙ ap (λ (z : Bytes). a ++ (k.free ++ z)) dl in
        let lx : size before ≡ length a + length x = ap length bl ∙ length-append a x in
        let long : length bodies ≡ length a + (length k.free + (length x + (size own + size behind))) =
        room_length k ∙ ap (λ (z : ℕ). length a + (length k.free + z)) (ap length dl ∙ length-append x (bodies_of own ++ bodies_of behind) ∙ ap (λ (z : ℕ). length x + z) (length-append (bodies_of own) (bodies_of behind))) in
        let w = m.behind h in
        let bx = third a k.free x (bodies_of own ++ bodies_of behind) bodies (length bodies - (all - old)) (start - old) e (omega (arith, before_free, all_sum, lx, long)) (omega (arith, start_is, before_free, lx)) in
        let by : take (all - end) (drop (length bodies - (all - end)) bodies) ≡ bodies_of behind =
        tail (a ++ (k.free ++ (x ++ bodies_of own))) (bodies_of behind) bodies (all - end) (e ∙ regroup a k.free x (bodies_of own) (bodies_of behind)) (omega (arith, all_sum, start_is, own_is)) in
        let low_part : take old bodies ≡ a = ap (take old) e ∙ take_at a (k.free ++ (x ++ (bodies_of own ++ bodies_of behind))) old (sym before_free) in
        w.1.front ∙ ap₂ (λ (s t : Bytes). s ++ t) (w.0.front ∙ ap₂ (λ (s t : Bytes). s ++ t) low_part bx) by ∙ ap (λ (z : Bytes). z ++ bodies_of behind) (sym bl)
      where
        regroup : (a b c d e : Bytes) → a ++ (b ++ (c ++ (d ++ e))) ≡ (a ++ (b ++ (c ++ d))) ++ e
        regroup a b c d e = simp append_assoc

    packed_front : take (all - (end - start)) bodies' ≡ bodies_of (without p fs)
    packed_front =
        go (ltb index leading) refl ∙ sym (bodies_append before behind) ∙ ap bodies_of (sym others_whole)
      where
        go : (x : Bool) → ltb index leading ≡ x → take (all - (end - start)) bodies' ≡ bodies_of before ++ bodies_of behind
        go true e = front_led (ltb-true index leading e)
        go false e = front_led_not (ltb-false index leading e)

    -- a first behind them
    pub put_kept : (flags : ℕ) (b : Bytes) (rest count q : ℕ) (fragment_heads₁ fragment_heads' : List ℕ) (bodies'' : Bytes) → rest ≡ all - length_at index n fragment_heads → count ≡ others_of index n → count < 256
        → length bodies'' ≡ length bodies' → Wrote b bodies' rest bodies'' q → TakesOut index n fragment_heads fragment_heads₁
        → fragment_heads' ≡ set fragment_heads₁ count (p * 281474976710656 + flags % 64 * 1099511627776 + length b) → HoldsFragments T (held_behind p flags b fs)
        → KeptFragments T (held_behind p flags b fs) (count + 1) (count + 1) fragment_heads' bodies''
    unfolding fragment_head
    put_kept flags b rest count q fragment_heads₁ fragment_heads' bodies'' er ec few same w out eh hold =
        let os : List Fragment = without p fs in
        let f : Fragment = record { identifier = p; flags = flags % 64; body = b } in
        let hs₁ : Heads os count fragment_heads₁ = subst (λ (i : ℕ). Heads os i fragment_heads₁) (sym ec) (out p fs k.hold.once at k.heads) in
        let z : 256 - count ≡ suc (256 - (count + 1)) = omega arith in
        let hs : fragment_heads₁ ≡ map fragment_head os ++ (0 ∷ replicate (256 - (count + 1)) 0) = heads_are hs₁ ∙ ap (λ (i : ℕ). map fragment_head os ++ replicate i 0) z in
        let hs' : fragment_heads' ≡ map fragment_head os ++ (fragment_head f ∷ replicate (256 - (count + 1)) 0) =
        eh ∙ ap (λ (l : List ℕ). set l count (fragment_head f)) hs
        ∙ set_at (map fragment_head os) 0 (replicate (256 - (count + 1)) 0) (fragment_head f) count (length-map os fragment_head ∙ sym hs₁.count) in
        let c : count + 1 ≡ length (os ++ (f ∷ [])) = omega (arith, hs₁.count, length-append os (f ∷ [])) in
        let ln : length (os ++ (f ∷ [])) ≤ count + 1 = omega arith in
        let hole : rest ≡ all - (end - start) = omega (arith, er, ee) in
        let front : take q bodies'' ≡ bodies_of (os ++ (f ∷ [])) =
        w.front ∙ ap (λ (s : Bytes). s ++ b) (ap (λ (i : ℕ). take i bodies') hole ∙ packed_front)
        ∙ ap (λ (s : Bytes). bodies_of os ++ s) (sym (bodies_one f)) ∙ sym (bodies_append os (f ∷ [])) in
        let free : Bytes = drop q bodies'' in
        record {
          heads = heads_from (os ++ (f ∷ [])) (count + 1) fragment_heads' c
              (hs' ∙ sym (append_assoc (map fragment_head os) (fragment_head f ∷ []) (replicate (256 - (count + 1)) 0))
              ∙ ap (λ (l : List ℕ). l ++ replicate (256 - (count + 1)) 0) (sym (map-append fragment_head os (f ∷ []))));
          free = free;
          room_is = sym (take-append-drop q bodies'')
              ∙ ap₂ (λ (s t : Bytes). s ++ t) (front ∙ ap bodies_of (sym (take_all (count + 1) (os ++ (f ∷ [])) ln)))
              (sym (append-nil free) ∙ ap (λ (t : Bytes). free ++ t) (sym bodies_none ∙ ap bodies_of (sym (drop_of_length-le (os ++ (f ∷ [])) ln))))
              ∙ sym (room_is_parts (count + 1) (os ++ (f ∷ [])) free);
          total = same ∙ m.same ∙ k.total;
          total_few = k.total_few;
          hold = hold;
        }

-- ---- whether a first is held

module _ (L : Limits) (p flags : ℕ) (b : Bytes) (fs : List Fragment) where
  pub held_so : length (without p fs) < 256 → fragment_bytes (without p fs) + length b ≤ L.total → hold_first L p flags b fs ≡ held_behind p flags b fs
  unfolding hold_first
  held_so h l = rw (lt-ltb (length (without p fs)) 256 h, le-leb (fragment_bytes (without p fs) + length b) L.total l) refl

  pub full_so : 256 ≤ length (without p fs) → hold_first L p flags b fs ≡ without p fs
  unfolding hold_first
  full_so h = rw (le-ltb (length (without p fs)) 256 h) refl

  pub short_so : L.total < fragment_bytes (without p fs) + length b → hold_first L p flags b fs ≡ without p fs
  unfolding hold_first
  short_so l = go (ltb (length (without p fs)) 256)
    where
      go : (a : Bool) → cond (a && leb (fragment_bytes (without p fs) + length b) L.total) (held_behind p flags b fs) (without p fs) ≡ without p fs
      go true = rw (lt-leb (fragment_bytes (without p fs) + length b) L.total l) refl
      go false = refl
