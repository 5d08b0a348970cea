-- The functions on fragments, each from what its callees promise: a fragment given up or dropped, a first held, a further body joined within
-- the limits. Rests on RoomLaws and OnceLaws, and on SoundnessKept of `meaning` for what a sound state keeps to.
use Prim.Native.Nat.{ℕ, ◌+◌, ◌-◌, ◌*◌, ◌%◌, ◌≤◌, ◌<◌}
use mathlib.Core.Path.{◌≡◌, refl, sym, ap, ap₂, ◌∙◌, subst}
use mathlib.Core.Bool.{Bool, true, false, cond, ◌&&◌}
use mathlib.Core.List.{List, [], ◌∷◌, ◌++◌}
use mathlib.Core.Option.{Option, some, some-injective}
use native.Mathlib.Omega.{arith}
use lib.ListN.{length, take, drop, get_or, set}
use lib.Dec.{leb, ltb}
use borrow.Author.Tests.{ltb-true, ltb-false, leb-true, leb-false}
use Rattle.meaning.specs.Bytes.{Bytes}
use Rattle.meaning.specs.Writing.{Wrote}
use Rattle.meaning.specs.Learn.{Fragment, without, fragment_of, grow_in, hold_first, fits, middle_of, middle}
use Rattle.meaning.specs.Record.{fragment_flags, fragment_length, lens}
use Rattle.meaning.specs.Leading.{index_of, leading_after}
use Rattle.meaning.specs.Soundness.{HoldsFragments}
use Rattle.meaning.specs.declared.Limits.{Limits}
use Rattle.meaning.proofs.ListLaws.{and_both}
use Rattle.meaning.proofs.MoveLaws.{once_none}
use Rattle.meaning.proofs.SoundnessKept.{first_holds, middle_holds}
use Rattle.fragments.specs.Room.{FreeMoved, Packed}
use Rattle.fragments.specs.Fragments.{index_in, others_of, length_at, TakesOut, KeptFragments, Numbers, HeldAfter, Nearest, Stands, DropsAt, Drops, GivesBack, held_behind, PutsBehind, HoldsFirst, Lengthens, GrewAt, GrowsWithin, GrowsAtIndex, LearnsMiddle}
use Rattle.fragments.specs.declared.Held.{Held}
use Rattle.fragments.specs.declared.Grown.{Grown}
use Rattle.fragments.specs.declared.place.Place.{Place}
use Rattle.fragments.proofs.FragmentLaws.{lens_turn, lens_less, missing, own_turn, own_ends, others_count, index_grown, grown_length, without_grown, not_found, leading_gone, leading_none, leading_grown, leading_behind}
use Rattle.fragments.proofs.RoomLaws.{slots_all, numbers, sum_is, index_is, nearest_kept, free_moved, There, there, left_last, left_next, grown_in, others_bytes, put_kept, held_so, full_so, short_so}
use Rattle.fragments.proofs.OnceLaws.{once_moved, once_grown, once_put}

-- The numbers by which the free bytes move, from the sums that the code has taken.
pub free_numbers : (fragment_heads : List ℕ) (n leading to old new all total : ℕ) → leading ≤ n → to ≤ n → lens (take n fragment_heads) ≤ total → old ≡ lens (take leading fragment_heads)
    → new ≡ lens (take to fragment_heads) → all ≡ lens (take n fragment_heads)
    → (leading < to → old ≤ new) × (to ≤ leading → new ≤ old) × (old ≤ all) × (new ≤ all) × (all ≤ total)
free_numbers fragment_heads n leading to old new all total low high within eo en ea = (
  λ h. omega (arith, eo, en, lens_less fragment_heads leading to (omega arith)),
  λ h. omega (arith, eo, en, lens_less fragment_heads to leading h),
  omega (arith, eo, ea, lens_less fragment_heads leading n low),
  omega (arith, en, ea, lens_less fragment_heads to n high),
  omega (arith, ea, within),
)

-- ---- places

-- The numbers of a place are ordered as the fragments are.
pub place_numbers : (fragment_heads : List ℕ) (n index leading start own free all : ℕ) → index ≤ n → leading ≤ n → start ≡ lens (take index fragment_heads)
    → own ≡ length_at index n fragment_heads → free ≡ lens (take leading fragment_heads) → all ≡ lens (take n fragment_heads)
    → (start + own ≤ all) × (free ≤ all) × (index < leading → start + own ≤ free) × (leading ≤ index → free ≤ start)
place_numbers fragment_heads n index leading start own free all low few es ew eo ea = (
  omega (arith, own_ends fragment_heads index n low),
  omega (arith, lens_less fragment_heads leading n few),
  λ h. omega (arith, own_turn fragment_heads index n (omega arith), lens_less fragment_heads (index + 1) leading (omega arith)),
  λ h. omega (arith, lens_less fragment_heads leading index h),
)

-- Where it ends, if it is there.
pub ends_so : (n : ℕ) (fragment_heads : List ℕ) (place : Place) → Stands n fragment_heads place → place.index < n → place.start + place.own ≡ lens (take (place.index + 1) fragment_heads)
ends_so n fragment_heads place s h = ap₂ (λ (x y : ℕ). x + y) s.start_is s.own_is ∙ own_turn fragment_heads place.index n (omega arith)

-- ---- given up, and dropped

-- beside it they are among the fragments
pub to_low : (index n leading to : ℕ) → index < n → leading ≤ n → (index < leading → to ≡ index + 1) → (leading ≤ index → to ≡ index) → to ≤ n
to_low index n leading to lt low led not_led = grind (arith, led, not_led)

module _ (index n leading : ℕ) (fragment_heads bodies : List ℕ) where
  -- the free bytes were brought beside it
  pub dropped_at : (near to old new all : ℕ) (fragment_heads' bodies' : List ℕ) → index < n → Nearest n leading near → Numbers n fragment_heads bodies
      → (index < near → to ≡ index + 1) → (near ≤ index → to ≡ index) → old ≡ lens (take near fragment_heads) → new ≡ lens (take to fragment_heads)
      → all ≡ lens (take n fragment_heads) → FreeMoved near to old new all bodies bodies'
      → Wrote (take (n - 1 - index) (drop (index + 1) fragment_heads) ++ (0 ∷ [])) fragment_heads index fragment_heads' n
      → DropsAt index n leading fragment_heads bodies (record { count = n - 1; leading = index }) fragment_heads' bodies'
  dropped_at near to old new all fragment_heads' bodies' lt m ns led not_led eo en ea u w = record {
    left = λ T p fs at k.
        let k' = nearest_kept k near m in
        record {
          kept = go (ltb index near) refl T p fs at (free_moved k' to old new all bodies' m.low high eo en ea u);
          leading_is = at ∙ sym (leading_gone p fs leading (omega (arith, k.heads.count)));
        };
    once = let f = free_numbers fragment_heads n near to old new all (length bodies) m.low high ns.within eo en ea in once_moved near to old new all bodies bodies' f.0 f.1 f.2 f.3 f.4 u;
  }
    where
      high : to ≤ n
      high = to_low index n near to lt m.low led not_led

      go : (x : Bool) → ltb index near ≡ x → (T p : ℕ) (fs : List Fragment) → index ≡ index_of p fs → KeptFragments T fs n to fragment_heads bodies'
          → KeptFragments T (without p fs) (n - 1) index fragment_heads' bodies'
      go true e T p fs at k = left_last T p fs index n to fragment_heads bodies' at lt k fragment_heads' w (led (ltb-true index near e))
      go false e T p fs at k = left_next T p fs index n to fragment_heads bodies' at lt k fragment_heads' w (not_led (ltb-false index near e))

  pub none_at : n ≤ index → DropsAt index n leading fragment_heads bodies (record { count = n; leading = leading }) fragment_heads bodies
  none_at h = record {
    left = λ T p fs at k.
        let l : length fs ≤ index_of p fs = omega (arith, k.heads.count) in
        let e : fs ≡ without p fs = sym (missing p fs l).0 in
        record {
          kept = subst (λ (z : List Fragment). KeptFragments T z n leading fragment_heads bodies) e k;
          leading_is = sym (leading_none p fs leading l) ∙ ap (λ (z : List Fragment). leading_after p fs z leading) e;
        };
    once = λ b. once_none bodies b;
  }

module _ {p n leading : ℕ} {fragment_heads bodies : List ℕ} where
  pub dropped : {i : ℕ} {r : Held} {fragment_heads' bodies' : List ℕ} → i ≡ index_in p (take n fragment_heads) → DropsAt i n leading fragment_heads bodies r fragment_heads' bodies'
      → Drops p n leading fragment_heads bodies r fragment_heads' bodies'
  dropped e g = record {
    left = λ T fs k. g.left T p fs (e ∙ index_is k p) k;
    once = g.once;
  }

-- ---- given back

pub given_back : (n leading : ℕ) (fragment_heads fragment_heads' : List ℕ) → 0 < leading → leading ≤ n
    → Wrote (take (n - 1 - (leading - 1)) (drop (leading - 1 + 1) fragment_heads) ++ (0 ∷ [])) fragment_heads (leading - 1) fragment_heads' n
    → GivesBack n leading fragment_heads (record { count = n - 1; leading = leading - 1 }) fragment_heads'
given_back n leading fragment_heads fragment_heads' h low w =
    (refl, λ T p fs bodies e k. left_last T p fs (leading - 1) n leading fragment_heads bodies (omega (arith, e)) (omega arith) k fragment_heads' w (omega arith))

-- ---- a first

module _ (index n : ℕ) where
  others_low : index ≤ n → index < 256 → n ≤ 256 → others_of index n < 256
  unfolding others_of
  others_low le few l = go (ltb index n) refl
    where
      go : (x : Bool) → ltb index n ≡ x → cond x (n - 1) n < 256
      go true e = omega (arith, ltb-true index n e)
      go false e = omega (arith, ltb-false index n e)

pub others_small : (index n count : ℕ) → index ≤ n → index < 256 → n ≤ 256 → count ≡ others_of index n → count < 256
others_small index n count le few l e = omega (arith, e, others_low index n le few l)

pub put : (place : Place) (p flags : ℕ) (b : Bytes) (n : ℕ) (fragment_heads bodies : List ℕ) → place.index < 256 → Stands n fragment_heads place → Numbers n fragment_heads bodies
    → place.all - place.own + length b ≤ length bodies → (mid : Bytes) (count q head : ℕ) (fragment_heads₁ bodies' : List ℕ) → count ≡ others_of place.index n → length bodies' ≡ length mid
    → Packed place.index place.leading.count place.start (place.start + place.own) place.leading.bytes place.all bodies mid → Wrote b mid (place.all - place.own) bodies' q
    → TakesOut place.index n fragment_heads fragment_heads₁ → head ≡ p * 281474976710656 + flags % 64 * 1099511627776 + length b
    → PutsBehind place.index p flags b n place.leading.count fragment_heads bodies (record { count = count + 1; leading = count + 1 }) (set fragment_heads₁ count head) bodies'
put place p flags b n fragment_heads bodies few s ns fit mid count q head fragment_heads₁ bodies' ec same m w out eh = record {
  held = λ L fs at k.
      let T : ℕ = L.total in
      let small : count < 256 = others_small place.index n count s.index_low few ns.few ec in
      let c : others_of place.index n ≡ length (without p fs) = (out p fs k.hold.once at k.heads).count in
      let bytes = others_bytes T p fs place.index n place.leading.count fragment_heads bodies at s.index_low k in
      let e : hold_first L p flags b fs ≡ held_behind p flags b fs = held_so L p flags b fs (omega arith) (omega (arith, s.own_is, s.all_is, k.total)) in
      let hold : HoldsFragments T (held_behind p flags b fs) = subst (HoldsFragments T) e (first_holds L p flags b fs k.hold) in (
        subst (λ (l : List Fragment). KeptFragments T l (count + 1) (count + 1) (set fragment_heads₁ count head) bodies') (sym e)
            (put_kept T p fs place.index n place.leading.count fragment_heads bodies at s.index_low k s.leading_low place.start (place.start + place.own) place.leading.bytes place.all mid s.start_is
            (ap (λ (z : ℕ). place.start + z) s.own_is) s.free_is s.all_is m flags b (place.all - place.own) count q fragment_heads₁ (set fragment_heads₁ count head) bodies'
            (ap (λ (z : ℕ). place.all - z) s.own_is) ec small same w out (ap (set fragment_heads₁ count) eh) hold),
        e,
      );
  leading_is = ap (λ (z : ℕ). z + 1) ec;
  once = once_put place.index place.leading.count place.start (place.start + place.own) place.leading.bytes place.all bodies mid b bodies' q (omega arith) place.own_within place.leading_within
      (omega (arith, s.all_is, ns.within)) place.led place.behind (omega arith) m
      (subst (λ (z : ℕ). Wrote b mid z bodies' q) (let z : place.all - place.own ≡ place.all - (place.start + place.own - place.start) = omega arith in z) w);
}

pub first_room : (index : ℕ) (b : Bytes) (rest : ℕ) (bodies : Bytes) → (ltb index 256 && leb (rest + length b) (length bodies)) ≡ true → (index < 256) × (rest + length b ≤ length bodies)
first_room index b rest bodies e =
    let h = and_both (ltb index 256) (leb (rest + length b) (length bodies)) e in
    (ltb-true index 256 h.0, leb-true (rest + length b) (length bodies) h.1)

-- by the place of what it takes the place of
module _ {p flags : ℕ} {b : Bytes} {n leading : ℕ} {fragment_heads bodies : List ℕ} {place : Place} (e : place.index ≡ index_in p (take n fragment_heads)) (s : Stands n fragment_heads place) where
  pub first_held : {r : Held} {fragment_heads' bodies' : List ℕ} → Nearest n leading place.leading.count → PutsBehind place.index p flags b n place.leading.count fragment_heads bodies r fragment_heads' bodies'
      → HoldsFirst p flags b n leading fragment_heads bodies r fragment_heads' bodies'
  first_held {r} {fragment_heads'} {bodies'} m g = record {
    held = λ L fs k.
        let at : place.index ≡ index_of p fs = e ∙ index_is k p in
        let h = g.held L fs at (nearest_kept k place.leading.count m) in
        record {
          kept = h.0;
          leading_is = g.leading_is ∙ ap (λ (z : ℕ). z + 1) (others_count place.index n p fs k.heads.count at k.hold.once)
              ∙ sym (leading_behind p fs leading (record { identifier = p; flags = flags % 64; body = b }) refl) ∙ ap (λ (l : List Fragment). leading_after p fs l leading) (sym h.1);
        };
    once = g.once;
  }

  pub first_not_held : {r : Held} {fragment_heads' bodies' : List ℕ} → n ≤ 256 → (ltb place.index 256 && leb (place.all - place.own + length b) (length bodies)) ≡ false
      → {i : ℕ} → place.index ≡ i → DropsAt i n leading fragment_heads bodies r fragment_heads' bodies' → HoldsFirst p flags b n leading fragment_heads bodies r fragment_heads' bodies'
  first_not_held {r} {fragment_heads'} {bodies'} few wrong ei g = record {
    held = λ L fs k.
        let at : place.index ≡ index_of p fs = e ∙ index_is k p in
        subst (λ (l : List Fragment). HeldAfter L.total p fs l leading r fragment_heads' bodies') (sym (gone (ltb place.index 256) refl L fs at k)) (g.left L.total p fs (sym ei ∙ at) k);
    once = g.once b;
  }
    where
      gone : (x : Bool) → ltb place.index 256 ≡ x → (L : Limits) (fs : List Fragment) → place.index ≡ index_of p fs → KeptFragments L.total fs n leading fragment_heads bodies
          → hold_first L p flags b fs ≡ without p fs
      gone true q L fs at k =
          let z : leb (place.all - place.own + length b) (length bodies) ≡ false = subst (λ (x : Bool). (x && leb (place.all - place.own + length b) (length bodies)) ≡ false) q wrong in
          let bytes = others_bytes L.total p fs place.index n leading fragment_heads bodies at s.index_low k in
          short_so L p flags b fs (omega (arith, s.own_is, s.all_is, leb-false (place.all - place.own + length b) (length bodies) z, k.total))
      gone false q L fs at k =
          let h : 256 ≤ place.index = ltb-false place.index 256 q in
          let l : length fs ≤ index_of p fs = omega (arith, k.heads.count) in
          full_so L p flags b fs (omega (arith, ap length (missing p fs l).0, k.heads.count))

-- ---- a further body

pub lengthened : (place : Place) (b : Bytes) (n : ℕ) (fragment_heads bodies : List ℕ) (mid fragment_heads' bodies' : List ℕ) (q : ℕ) → place.index < n → Stands n fragment_heads place
    → Numbers n fragment_heads bodies → place.all + length b ≤ length bodies
    → FreeMoved place.leading.count (place.index + 1) place.leading.bytes (place.start + place.own) place.all bodies mid → length bodies' ≡ length mid
    → Wrote b mid (place.start + place.own) bodies' q → fragment_heads' ≡ set fragment_heads place.index (get_or fragment_heads place.index 0 + length b)
    → Lengthens place.index b n place.leading.count fragment_heads bodies fragment_heads' bodies'
lengthened place b n fragment_heads bodies mid fragment_heads' bodies' q lt s ns fit m same w eh = record {
  grows = λ T p fs at k hold.
      let k' = free_moved k (place.index + 1) place.leading.bytes (place.start + place.own) place.all mid s.leading_low (omega arith) s.free_is ee s.all_is m in
      grown_in T p fs place.index n (place.index + 1) fragment_heads mid at lt k' b fragment_heads' bodies' q refl (omega (arith, s.all_is, m.same)) same
      (subst (λ (z : ℕ). Wrote b mid z bodies' q) ee w) eh hold;
  once = let f = free_numbers fragment_heads n place.leading.count (place.index + 1) place.leading.bytes (place.start + place.own) place.all (length bodies) s.leading_low (omega arith) ns.within s.free_is ee s.all_is in
      once_grown place.leading.count (place.index + 1) place.leading.bytes (place.start + place.own) place.all bodies mid f.0 f.1 f.2 f.3 f.4 m b bodies' q fit w;
}
  where
    ee : place.start + place.own ≡ lens (take (place.index + 1) fragment_heads)
    ee = ends_so n fragment_heads place s lt

-- by its place
module _ (most : ℕ) (b : Bytes) (n leading : ℕ) (fragment_heads bodies : List ℕ) (place : Place) (s : Stands n fragment_heads place) (lt : place.index < n) where
  abbrev test : Bool
  test = leb (place.own + length b) most && leb (place.all + length b) (length bodies)

  pub fits_room : test ≡ true → place.all + length b ≤ length bodies
  fits_room ok = leb-true (place.all + length b) (length bodies) (and_both (leb (place.own + length b) most) (leb (place.all + length b) (length bodies)) ok).1

  own_length : (T p : ℕ) (fs : List Fragment) → place.index ≡ index_of p fs → KeptFragments T fs n leading fragment_heads bodies → (t : There p fs place.index fragment_heads) → place.own ≡ length t.fragment.body
  own_length T p fs at k t =
      let ns = numbers k in
      let len : fragment_length (get_or fragment_heads place.index 0) ≡ length t.fragment.body = ap fragment_length t.head_is ∙ t.tells.length_is in
      let turn = lens_turn fragment_heads place.index (omega (arith, ns.few, slots_all k)) in
      omega (arith, s.own_is, own_turn fragment_heads place.index n (omega arith))

  fits_is : (L : Limits) (p : ℕ) (fs : List Fragment) → place.index ≡ index_of p fs → L.most ≡ most → KeptFragments L.total fs n leading fragment_heads bodies → (t : There p fs place.index fragment_heads)
      → fits L t.fragment b fs ≡ test
  unfolding fits
  fits_is L p fs at em k t =
      ap₂ (λ (x y : Bool). x && y) (ap₂ (λ (x y : ℕ). leb (x + length b) y) (sym (own_length L.total p fs at k t)) em)
      (ap₂ (λ (x y : ℕ). leb (x + length b) y) (sym (s.all_is ∙ sum_is k)) (sym k.total))

  pub grew : (end flags : ℕ) (fragment_heads' bodies' : List ℕ) → Nearest n leading place.leading.count
      → end ≡ place.start + place.own + length b → flags ≡ fragment_flags (get_or fragment_heads place.index 0) → test ≡ true
      → Lengthens place.index b n place.leading.count fragment_heads bodies fragment_heads' bodies'
      → GrowsAtIndex place.index most b n leading fragment_heads bodies (Grown.At place.start end flags (record { count = n; leading = place.index + 1 })) fragment_heads' bodies'
  grew end flags fragment_heads' bodies' m ee ef ok u = record {
    is = λ L p fs at em k.
        let t = there L.total p fs place.index n leading fragment_heads bodies at lt k in
        let f = t.fragment in
        let fit : fits L f b fs ≡ true = fits_is L p fs at em k t ∙ ok in
        let hold : HoldsFragments L.total (grow_in p b fs) =
        subst (λ (a : Bool). HoldsFragments L.total (cond a (grow_in p b fs) (without p fs))) fit (middle_holds L p b fs (some f) k.hold) in
        let g = u.grows L.total p fs at (nearest_kept k place.leading.count m) hold in
        let one : g.fragment ≡ f = some-injective _ _ (sym g.found ∙ t.found) in
        let len : place.own ≡ length f.body = own_length L.total p fs at k t in
        let less : place.start + place.own ≤ place.all = place.own_within in
        let room_fits : place.all + length b ≤ length bodies = fits_room ok in
        let size : end - place.start ≡ length f.body + length b = omega arith in
        record {
          fragment = f;
          found = t.found;
          fitting = fit;
          kept = g.kept;
          leading_is = ap (λ (z : ℕ). z + 1) at;
          leading_low = omega arith;
          flags_are = ef ∙ ap fragment_flags t.head_is ∙ t.tells.flags_are;
          ordered = omega arith;
          inside = omega (arith, g.kept.total, k.total);
          body_is = ap₂ (λ (j i : ℕ). take j (drop i bodies')) size s.start_is
              ∙ subst (λ (h : Fragment). take (length h.body + length b) (drop (lens (take place.index fragment_heads)) bodies') ≡ h.body ++ b) one g.body_is;
        };
    once = u.once;
  }

  pub discarded : (r : Held) (fragment_heads' bodies' : List ℕ) → test ≡ false → DropsAt place.index n leading fragment_heads bodies r fragment_heads' bodies'
      → GrowsAtIndex place.index most b n leading fragment_heads bodies (Grown.Discarded r) fragment_heads' bodies'
  discarded r fragment_heads' bodies' wrong u = record {
    is = λ L p fs at em k.
        let t = there L.total p fs place.index n leading fragment_heads bodies at lt k in
        record {
          fragment = t.fragment;
          found = t.found;
          fitting = fits_is L p fs at em k t ∙ wrong;
          left = u.left L.total p fs at k;
        };
    once = u.once b;
  }

middle_is : (p : ℕ) (b : Bytes) (L : Limits) (fs : List Fragment) (f : Fragment) (a : Bool) → fragment_of p fs ≡ some f → fits L f b fs ≡ a → middle L p b fs ≡ cond a (grow_in p b fs) (without p fs)
unfolding middle
middle_is p b L fs f a found fitting = ap (λ (o : Option Fragment). middle_of o L p b fs) found ∙ ap (λ (x : Bool). cond x (grow_in p b fs) (without p fs)) fitting

module _ {p most : ℕ} {b : Bytes} {n leading : ℕ} {fragment_heads bodies : List ℕ} where
  pub grows_there : {i : ℕ} {r : Grown} {fragment_heads' bodies' : List ℕ} → i ≡ index_in p (take n fragment_heads) → GrowsAtIndex i most b n leading fragment_heads bodies r fragment_heads' bodies'
      → GrowsWithin p most b n leading fragment_heads bodies r fragment_heads' bodies'
  grows_there e g = record {
    is = λ L fs em k. g.is L p fs (e ∙ index_is k p) em k;
    once = g.once;
  }

  pub absent : {i : ℕ} → i ≡ index_in p (take n fragment_heads) → n ≤ i → GrowsWithin p most b n leading fragment_heads bodies Grown.Absent fragment_heads bodies
  absent e h = record {
    is = λ L fs em k. ((missing p fs (omega (arith, e, index_is k p, k.heads.count))).1, refl, refl);
    once = once_none bodies b;
  }

  -- a middle

  pub middle_joined : {start end flags : ℕ} {h : Held} {fragment_heads' bodies' : List ℕ} → GrowsWithin p most b n leading fragment_heads bodies (Grown.At start end flags h) fragment_heads' bodies'
      → LearnsMiddle p most b n leading fragment_heads bodies h fragment_heads' bodies'
  middle_joined {h = h} {fragment_heads'} {bodies'} u = record {
    learned = λ L fs em k.
        let g = u.is L fs em k in
        let e : grow_in p b fs ≡ middle L p b fs = sym (middle_is p b L fs g.fragment true g.found g.fitting) in
        let i : index_of p fs < length fs = omega (arith, g.leading_is, g.leading_low, g.kept.heads.count, grown_length p b fs) in
        subst (λ (l : List Fragment). HeldAfter L.total p fs l leading h fragment_heads' bodies') e
        (record { kept = g.kept; leading_is = g.leading_is ∙ sym (leading_grown p fs leading b i) });
    once = u.once;
  }

  pub middle_discarded : {h : Held} {fragment_heads' bodies' : List ℕ} → GrowsWithin p most b n leading fragment_heads bodies (Grown.Discarded h) fragment_heads' bodies'
      → LearnsMiddle p most b n leading fragment_heads bodies h fragment_heads' bodies'
  middle_discarded {h} {fragment_heads'} {bodies'} u = record {
    learned = λ L fs em k.
        let g = u.is L fs em k in
        subst (λ (l : List Fragment). HeldAfter L.total p fs l leading h fragment_heads' bodies') (sym (middle_is p b L fs g.fragment false g.found g.fitting)) g.left;
    once = u.once;
  }

  pub middle_absent : {fragment_heads' bodies' : List ℕ} → GrowsWithin p most b n leading fragment_heads bodies Grown.Absent fragment_heads' bodies'
      → LearnsMiddle p most b n leading fragment_heads bodies (record { count = n; leading = leading }) fragment_heads' bodies'
  unfolding middle
  middle_absent {fragment_heads'} {bodies'} u = record {
    learned = λ L fs em k.
        let g = u.is L fs em k in
        let e : fs ≡ middle L p b fs = sym (ap (λ (o : Option Fragment). middle_of o L p b fs) g.0) in
        subst (λ (l : List Fragment). HeldAfter L.total p fs l leading (record { count = n; leading = leading }) fragment_heads' bodies') e
        (record {
          kept = subst (λ (l : List ℕ). KeptFragments L.total fs n leading l bodies') (sym g.1) (subst (λ (l : Bytes). KeptFragments L.total fs n leading fragment_heads l) (sym g.2) k);
          leading_is = sym (leading_none p fs leading (not_found p fs g.0));
        });
    once = u.once;
  }

-- ---- a last that was joined: it grew, and is given back

module _ (L : Limits) (p : ℕ) (b : Bytes) (fs : List Fragment) (start end flags : ℕ) (h : Held) (fragment_heads : List ℕ) (bodies : Bytes) (g : GrewAt L p b fs start end flags h fragment_heads bodies) where
  pub grew_numbers : (0 < h.leading) × (h.leading ≤ h.count) × (h.count ≤ 256)
  grew_numbers =
      let ns = numbers g.kept in
      (omega (arith, g.leading_is), g.leading_low, ns.few)

  pub joined_gone : (r : Held) (fragment_heads' : List ℕ) (leading : ℕ) → GivesBack h.count h.leading fragment_heads r fragment_heads'
      → HeldAfter L.total p fs (without p fs) leading r fragment_heads' bodies
  joined_gone r fragment_heads' leading w =
      let same : index_of p (grow_in p b fs) ≡ index_of p fs = (index_grown p b fs).0 in
      record {
        kept = subst (λ (l : List Fragment). KeptFragments L.total l r.count r.leading fragment_heads' bodies) (without_grown p b fs)
            (w.1 L.total p (grow_in p b fs) bodies (g.leading_is ∙ ap (λ (z : ℕ). z + 1) (sym same)) g.kept);
        leading_is = (let z : r.leading ≡ index_of p fs = omega (arith, w.0, g.leading_is) in z)
            ∙ sym (leading_gone p fs leading (omega (arith, g.leading_is, g.leading_low, g.kept.heads.count, grown_length p b fs)));
      }
