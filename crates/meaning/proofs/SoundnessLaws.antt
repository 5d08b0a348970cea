-- Soundness is kept by every call: from a start or from any sound record, through any series of calls. And the record of a state says
-- what the state is. Rests on SoundnessKept and CutLaws.
use Prim.Native.Nat.{ℕ, zero, suc, ◌+◌, ◌-◌, ◌/◌, ◌%◌, ◌≤◌, ◌<◌}
use mathlib.Core.Path.{◌≡◌, refl, sym, ap, ap₂, ◌∙◌, subst}
use mathlib.Core.Bool.{Bool, true, false, cond, not, ◌&&◌, ◌||◌}
use mathlib.Core.List.{List, [], ◌∷◌, ◌++◌, map, append_assoc, append-nil}
use native.Mathlib.Omega.{arith}
use lib.ListN.{length, take, drop, length-take, length-map, length-append, take-append-drop, replicate}
use lib.Seq.{take_at, drop_at}
use lib.Dec.{leb, ltb, eqb}
use borrow.Author.Tests.{ltb-true, leb-true, eqb-true, lt-ltb, le-leb, eq-eqb}
use Rattle.meaning.specs.Bytes.{Bytes}
use Rattle.meaning.specs.Lists.{all, sum}
use Rattle.meaning.specs.Packets.{cut}
use Rattle.meaning.specs.Mmtp.{mmtp_of}
use Rattle.meaning.specs.Wishes.{wants_assets, copies_all}
use Rattle.meaning.specs.Narrow.{narrow_packet}
use Rattle.meaning.specs.Rooms.{packet_limit, good_work_room, good_fragment_room, good_map_room}
use Rattle.meaning.specs.Learn.{Fragment, Known, learn, fragment_bytes}
use Rattle.meaning.specs.Record.{State, slots, Record, pack_pair, pair_of, fragment_head, fragment_identifier, fragment_flags, fragment_length, record_of, bodies_of, room_of, lens, packed_in, fragments_in, state_of}
use Rattle.meaning.specs.Soundness.{rising, distinct, sound_rooms, sound_held, sound_packages, sound_maps, sound_fragments, sound, firsts, identifiers, SecondsBelow, SmallFlags, HoldsPackages, HoldsMaps, HoldsFragments, Holds}
use Rattle.meaning.specs.Start.{fresh, blank}
use Rattle.meaning.specs.Push.{withheld, pass_one, pass, filtered, push, push_refusal}
use Rattle.meaning.specs.Series.{Lent, call_refusal, series, series_on}
use Rattle.meaning.specs.declared.Limits.{Limits}
use Rattle.meaning.specs.declared.Options.{Options}
use Rattle.meaning.specs.declared.Modes.{Modes}
use Rattle.meaning.proofs.ListLaws.{clash, and_both}
use Rattle.meaning.proofs.CutLaws.{held_below}
use Rattle.meaning.proofs.SoundnessKept.{held_next, learn_holds}
use Rattle.meaning.proofs.LayoutLaws.{take_map, drop_map, bytes_of_lem, identifiers_in, flags_in, length_in, bytes_in}

-- What a sound state holds to.
pub record HoldsState (L : Limits) (o : Options) (st : State) : Type 0 where
  pub held_few : length st.held < packet_limit L.work
  pub held_none : copies_all o ≡ true → length st.held ≡ 0
  pub assets_wanted : wants_assets o ≡ true
  pub known_holds : Holds L.total st.known

-- ---- a start

pub fresh_holds : (L : Limits) (o : Options) (map_room : List ℕ) → 0 < packet_limit L.work → length map_room ≡ 32768 → wants_assets o ≡ true → HoldsState L o (fresh map_room)
unfolding fresh rising distinct fragment_bytes sum
fresh_holds L o map_room h m w = record {
  held_few = h;
  held_none = λ e. refl;
  assets_wanted = w;
  known_holds = record {
    packages_hold = record { few = omega arith; rise = refl; small = tt };
    maps_hold = record { few = omega arith; once = refl; small = tt };
    fragments_hold = record { few = omega arith; once = refl; flags = tt; within = omega arith };
    map_room_all = m;
  };
}

-- What a refused start hands back is unsound, whatever the rooms.
pub blank_unsound : (W T n : ℕ) → sound blank W T n ≡ false
unfolding sound blank wants_assets sound_held packet_limit
blank_unsound W T n = go (sound_rooms blank.limits W T n)
  where
    go : (a : Bool) → (a && false && false && sound_packages 0 blank.packages && sound_maps 0 blank.map_heads && sound_fragments T 0 blank.fragment_heads) ≡ false
    go true = refl
    go false = refl

-- ---- a call, and a series of calls

pass_holds : (L : Limits) (M : Modes) (o : Options) (k : Known) (ps : List Bytes) → Holds L.total k → Holds L.total (pass L M o k ps).known
unfolding pass
pass_holds L M o k [] h = h
pass_holds L M o k (p ∷ ps) h =
    go (withheld o (learn L k p).known (mmtp_of p)) (pass_holds L M o (learn L k p).known ps (learn_holds L k p h))
  where
    go : (a : Bool) → Holds L.total (pass L M o (learn L k p).known ps).known
        → Holds L.total (pass_one a (narrow_packet M o p) p (learn L k p).lost (pass L M o (learn L k p).known ps)).known
    go true r = r
    go false r = r

pub push_holds : (L : Limits) (M : Modes) (o : Options) (st : State) (chunk : Bytes) → 4 ≤ packet_limit L.work → HoldsState L o st → HoldsState L o (push L M o st chunk).state
unfolding push filtered
push_holds L M o st chunk four h = go (copies_all o) refl
  where
    go : (a : Bool) → copies_all o ≡ a → HoldsState L o (push L M o st chunk).state
    go true e = rw e h
    go false e = rw e
        (record {
          held_few = held_below (packet_limit L.work) four (st.held ++ chunk);
          held_none = λ c. clash (let z : false ≡ true = sym e ∙ c in cc);
          assets_wanted = h.assets_wanted;
          known_holds = pass_holds L M o st.known (cut (packet_limit L.work) (st.held ++ chunk)).packets h.known_holds;
        })

pub series_holds : (L : Limits) (M : Modes) (o : Options) (st : State) (cs : List Lent) → 4 ≤ packet_limit L.work → HoldsState L o st → HoldsState L o (series L M o st cs).state
unfolding series
series_holds L M o st [] four h = h
series_holds L M o st (c ∷ cs) four h =
    go (eqb (call_refusal L st c) 0) (series_holds L M o (push L M o st c.0).state cs four (push_holds L M o st c.0 four h)) (series_holds L M o st cs four h)
  where
    go : (a : Bool) → HoldsState L o (series L M o (push L M o st c.0).state cs).state → HoldsState L o (series L M o st cs).state
        → HoldsState L o (cond a (series_on (push L M o st c.0) (series L M o (push L M o st c.0).state cs)) (series L M o st cs)).state
    go true x y = x
    go false x y = y

-- ---- numbers that hold two or three

-- What the two say: a second number over 16 bits goes on in the first.
pub pair_pack : (x : ℕ × ℕ) → pair_of (pack_pair x) ≡ (x.0 + x.1 / 65536, x.1 % 65536)
unfolding pair_of pack_pair
pair_pack x = ap₂ (λ (a b : ℕ). (a, b)) (omega arith) (omega arith)

pair_back : (x : ℕ × ℕ) → x.1 < 65536 → pair_of (pack_pair x) ≡ x
pair_back x h = pair_pack x ∙ ap₂ (λ (a b : ℕ). (a, b)) (omega arith) (omega arith)

-- A head tells of its fragment what the fragment has.
pub record Tells (f : Fragment) : Type 0 where
  pub identifier_is : fragment_identifier (fragment_head f) ≡ f.identifier
  pub flags_are : fragment_flags (fragment_head f) ≡ f.flags
  pub length_is : fragment_length (fragment_head f) ≡ length f.body

abbrev pub TellAll : List Fragment → Type 0
TellAll [] = Unit {0}
TellAll (f ∷ fs) = Tells f × TellAll fs

head_tells : (f : Fragment) → f.flags < 256 → length f.body < 1099511627776 → Tells f
unfolding fragment_identifier fragment_flags fragment_length fragment_head
head_tells f a b = record { identifier_is = omega (arith, a, b); flags_are = omega (arith, a, b); length_is = omega (arith, a, b) }

-- ---- the record of a state is sound

-- the used slots
pub slots_used : (n : ℕ) (xs : List ℕ) → take (length xs) (slots n xs) ≡ xs
unfolding slots
slots_used n xs = take_at xs (replicate (n - length xs) 0) (length xs) refl

pub used : (n : ℕ) {A : Type 0} (f : A → ℕ) (xs : List A) → take (length xs) (slots n (map f xs)) ≡ map f xs
used n f xs = ap (λ (k : ℕ). take k (slots n (map f xs))) (sym (length-map xs f)) ∙ slots_used n (map f xs)

firsts_of : (ps : List (ℕ × ℕ)) → SecondsBelow 65536 ps → map (λ x. (pair_of x).0) (map pack_pair ps) ≡ firsts ps
firsts_of [] b = refl
firsts_of (x ∷ ps) b = ap₂ (λ (a : ℕ) (l : List ℕ). a ∷ l) (ap (λ z. z.0) (pair_back x b.0)) (firsts_of ps b.1)

below_wider : {m n : ℕ} (ps : List (ℕ × ℕ)) → m ≤ n → SecondsBelow m ps → SecondsBelow n ps
below_wider [] l b = tt
below_wider (x ∷ ps) l b = (omega (arith, b.0), below_wider ps l b.1)

counts_of_lem : (ps : List (ℕ × ℕ)) → SecondsBelow 256 ps → all (λ x. leb (pair_of x).1 255) (map pack_pair ps) ≡ true
unfolding all
counts_of_lem [] b = refl
counts_of_lem (x ∷ ps) b =
    let e : (pair_of (pack_pair x)).1 ≡ x.1 = ap (λ z. z.1) (pair_back x (omega (arith, b.0))) in
    rw (e, le-leb x.1 255 (omega (arith, b.0))) (counts_of_lem ps b.1)

-- Each fragment is within the sum, which is within T: so every head of a sound state tells.
tell_all : (T : ℕ) (fs : List Fragment) → SmallFlags fs → fragment_bytes fs ≤ T → T ≤ 16777216 → TellAll fs
tell_all T [] s h t = tt
tell_all T (f ∷ fs) s h t =
    (head_tells f s.0 (omega (arith, held_next f fs)), tell_all T fs s.1 (omega (arith, held_next f fs)) t)

pub heads_tell : (T : ℕ) (fs : List Fragment) → HoldsFragments T fs → T ≤ 16777216 → TellAll fs
heads_tell T fs h t = tell_all T fs h.flags h.within t

identifiers_of : (fs : List Fragment) → TellAll fs → map fragment_identifier (map fragment_head fs) ≡ identifiers fs
identifiers_of [] h = refl
identifiers_of (f ∷ fs) h = ap₂ (λ (a : ℕ) (l : List ℕ). a ∷ l) h.0.identifier_is (identifiers_of fs h.1)

lengths_of_lem : (fs : List Fragment) → TellAll fs → sum (map fragment_length (map fragment_head fs)) ≡ fragment_bytes fs
unfolding sum fragment_bytes
lengths_of_lem [] h = refl
lengths_of_lem (f ∷ fs) h = ap₂ (λ (a b : ℕ). a + b) h.0.length_is (lengths_of_lem fs h.1)

module _ (L : Limits) (M : Modes) (o : Options) (leading : ℕ) (st : State) (work_good : good_work_room L.work ≡ true) (fragments_good : good_fragment_room L.total L.most ≡ true) (h : HoldsState L o st) where
  rooms_sound : sound_rooms L L.work L.total 32768 ≡ true
  unfolding sound_rooms good_map_room
  rooms_sound = rw (eq-eqb L.work L.work refl, eq-eqb L.total L.total refl, work_good) fragments_good

  held_sound : sound_held L o (length st.held) ≡ true
  unfolding sound_held
  held_sound = rw (lt-ltb (length st.held) (packet_limit L.work) h.held_few) (go (copies_all o) refl)
    where
      go : (a : Bool) → copies_all o ≡ a → (not a || eqb (length st.held) 0) ≡ true
      go false e = refl
      go true e = eq-eqb (length st.held) 0 (h.held_none e)

  total_small : L.total ≤ 16777216
  unfolding good_fragment_room
  total_small =
      let a = and_both (leb 1 L.total && leb L.total 16777216 && leb 1 L.most) (leb L.most L.total) fragments_good in
      let b = and_both (leb 1 L.total && leb L.total 16777216) (leb 1 L.most) a.0 in
      leb-true L.total 16777216 (and_both (leb 1 L.total) (leb L.total 16777216) b.0).1

  packages_sound : sound_packages (length st.known.packages) (slots 255 (map pack_pair st.known.packages)) ≡ true
  unfolding sound_packages
  packages_sound =
      let s = h.known_holds.packages_hold in
      let ps = st.known.packages in
      rw (le-leb (length ps) 255 s.few, used 255 pack_pair ps, firsts_of ps s.small) s.rise

  maps_sound : sound_maps (length st.known.map_heads) (slots 64 (map pack_pair st.known.map_heads)) ≡ true
  unfolding sound_maps
  maps_sound =
      let s = h.known_holds.maps_hold in
      let ms = st.known.map_heads in
      rw (le-leb (length ms) 64 s.few, used 64 pack_pair ms, counts_of_lem ms s.small, firsts_of ms (below_wider ms (omega arith) s.small)) s.once

  fragments_sound : sound_fragments L.total (length st.known.fragments) (slots 256 (map fragment_head st.known.fragments)) ≡ true
  unfolding sound_fragments
  fragments_sound =
      let s = h.known_holds.fragments_hold in
      let fs = st.known.fragments in
      let tell = heads_tell L.total fs s total_small in
      rw (le-leb (length fs) 256 s.few, used 256 fragment_head fs, identifiers_of fs tell, lengths_of_lem fs tell, s.once, le-leb (fragment_bytes fs) L.total s.within)

  pub record_sound : sound (record_of L M o leading st) L.work L.total 32768 ≡ true
  unfolding sound record_of
  record_sound = rw (rooms_sound, h.assets_wanted, held_sound, packages_sound, maps_sound) fragments_sound

-- ---- a sound record with its rooms has a sound state

pub good_limit : (W : ℕ) → good_work_room W ≡ true → 4 ≤ packet_limit W
unfolding good_work_room packet_limit
good_limit W e =
    let h = and_both (leb 4096 W) (leb W 131078) e in
    omega (arith, leb-true 4096 W h.0)

firsts_in : (ns : List ℕ) → firsts (map pair_of ns) ≡ map (λ x. (pair_of x).0) ns
firsts_in [] = refl
firsts_in (n ∷ ns) = ap (λ (l : List ℕ). (pair_of n).0 ∷ l) (firsts_in ns)

pairs_small : (ns : List ℕ) → SecondsBelow 65536 (map pair_of ns)
unfolding pair_of
pairs_small [] = tt
pairs_small (n ∷ ns) = (omega arith, pairs_small ns)

counts_in : (ns : List ℕ) → all (λ x. leb (pair_of x).1 255) ns ≡ true → SecondsBelow 256 (map pair_of ns)
unfolding all
counts_in [] e = tt
counts_in (n ∷ ns) e =
    let h = and_both (leb (pair_of n).1 255) (all (λ x. leb (pair_of x).1 255) ns) e in
    (omega (arith, leb-true (pair_of n).1 255 h.0), counts_in ns h.1)

taken_few : {A : Type 0} (n m : ℕ) (xs : List A) → n ≤ m → length (take n xs) ≤ m
taken_few n m xs h = simp length-take (omega arith)

module _ (n : ℕ) (xs : List ℕ) where
  packages_from : sound_packages n xs ≡ true → HoldsPackages (map pair_of (take n xs))
  unfolding sound_packages
  packages_from e =
      let h = and_both (leb n 255) (rising (map (λ x. (pair_of x).0) (take n xs))) e in
      record {
        few = omega (arith, length-map (take n xs) pair_of, taken_few n 255 xs (leb-true n 255 h.0));
        rise = ap rising (firsts_in (take n xs)) ∙ h.1;
        small = pairs_small (take n xs);
      }

  maps_from : sound_maps n xs ≡ true → HoldsMaps (map pair_of (take n xs))
  unfolding sound_maps
  maps_from e =
      let h = and_both (leb n 64 && all (λ x. leb (pair_of x).1 255) (take n xs)) (distinct (map (λ x. (pair_of x).0) (take n xs))) e in
      let g = and_both (leb n 64) (all (λ x. leb (pair_of x).1 255) (take n xs)) h.0 in
      record {
        few = omega (arith, length-map (take n xs) pair_of, taken_few n 64 xs (leb-true n 64 g.0));
        once = ap distinct (firsts_in (take n xs)) ∙ h.1;
        small = counts_in (take n xs) g.1;
      }

  fragments_from : (T leading : ℕ) (bodies : Bytes) → length bodies ≡ T → sound_fragments T n xs ≡ true → HoldsFragments T (fragments_in leading (take n xs) bodies)
  unfolding sound_fragments lens
  fragments_from T leading bodies t e =
      let h = and_both (leb n 256 && distinct (map fragment_identifier (take n xs))) (leb (sum (map fragment_length (take n xs))) T) e in
      let g = and_both (leb n 256) (distinct (map fragment_identifier (take n xs))) h.0 in
      let w : lens (take n xs) ≤ T = leb-true (sum (map fragment_length (take n xs))) T h.1 in
      record {
        few = omega (arith, length_in leading (take n xs) bodies, taken_few n 256 xs (leb-true n 256 g.0));
        once = ap distinct (identifiers_in leading (take n xs) bodies) ∙ g.1;
        flags = flags_in leading (take n xs) bodies;
        within = omega (arith, bytes_in leading (take n xs) bodies (omega (arith, w)), w);
      }

held_from : (L : Limits) (o : Options) (n : ℕ) (work : Bytes) → sound_held L o n ≡ true
    → (length (take n work) < packet_limit L.work) × (copies_all o ≡ true → length (take n work) ≡ 0)
unfolding sound_held
held_from L o n work e =
    let h = and_both (ltb n (packet_limit L.work)) (not (copies_all o) || eqb n 0) e in
    (omega (arith, ltb-true n (packet_limit L.work) h.0, taken_few n n work (omega arith)), λ c. none_left (subst (λ (b : Bool). (not b || eqb n 0) ≡ true) c h.1))
  where
    none_left : eqb n 0 ≡ true → length (take n work) ≡ 0
    none_left q = omega (arith, eqb-true n 0 q, taken_few n n work (omega arith))

pub state_holds : (r : Record) (work bodies : Bytes) (map_room : List ℕ) → sound r (length work) (length bodies) (length map_room) ≡ true
    → HoldsState r.limits r.options (state_of r work bodies map_room)
unfolding sound state_of sound_rooms good_map_room
state_holds r work bodies map_room e =
    let W = length work in
    let T = length bodies in
    let h₄ = and_both (sound_rooms r.limits W T (length map_room) && wants_assets r.options && sound_held r.limits r.options r.held_count && sound_packages r.package_count r.packages && sound_maps r.map_count r.map_heads) (sound_fragments T r.fragment_count r.fragment_heads) e in
    let h₃ = and_both (sound_rooms r.limits W T (length map_room) && wants_assets r.options && sound_held r.limits r.options r.held_count && sound_packages r.package_count r.packages) (sound_maps r.map_count r.map_heads) h₄.0 in
    let h₂ = and_both (sound_rooms r.limits W T (length map_room) && wants_assets r.options && sound_held r.limits r.options r.held_count) (sound_packages r.package_count r.packages) h₃.0 in
    let h₁ = and_both (sound_rooms r.limits W T (length map_room) && wants_assets r.options) (sound_held r.limits r.options r.held_count) h₂.0 in
    let h₀ = and_both (sound_rooms r.limits W T (length map_room)) (wants_assets r.options) h₁.0 in
    let held = held_from r.limits r.options r.held_count work h₁.1 in
    record {
      held_few = held.0;
      held_none = held.1;
      assets_wanted = h₀.1;
      known_holds = record {
        packages_hold = packages_from r.package_count r.packages h₂.1;
        maps_hold = maps_from r.map_count r.map_heads h₃.1;
        fragments_hold = subst (λ (t : ℕ). HoldsFragments t (fragments_in r.leading (take r.fragment_count r.fragment_heads) bodies)) (sym (rooms_are h₀.0).0)
            (fragments_from r.fragment_count r.fragment_heads T r.leading bodies refl h₄.1);
        map_room_all = (rooms_are h₀.0).1;
      };
    }
  where
    rooms_are : sound_rooms r.limits (length work) (length bodies) (length map_room) ≡ true → (r.limits.total ≡ length bodies) × (length map_room ≡ 32768)
    rooms_are q =
        let a = and_both (eqb r.limits.work (length work) && eqb r.limits.total (length bodies) && good_map_room (length map_room) && good_work_room (length work)) (good_fragment_room (length bodies) r.limits.most) q in
        let b = and_both (eqb r.limits.work (length work) && eqb r.limits.total (length bodies) && good_map_room (length map_room)) (good_work_room (length work)) a.0 in
        let c = and_both (eqb r.limits.work (length work) && eqb r.limits.total (length bodies)) (good_map_room (length map_room)) b.0 in
        (eqb-true r.limits.total (length bodies) (and_both (eqb r.limits.work (length work)) (eqb r.limits.total (length bodies)) c.0).1, eqb-true (length map_room) 32768 c.1)

-- ---- the record of a state, with rooms that hold its bytes, holds that state

pairs_back : (ps : List (ℕ × ℕ)) → SecondsBelow 65536 ps → map pair_of (map pack_pair ps) ≡ ps
pairs_back [] b = refl
pairs_back (x ∷ ps) b = ap₂ (λ (y : ℕ × ℕ) (l : List (ℕ × ℕ)). y ∷ l) (pair_back x b.0) (pairs_back ps b.1)

pub packages_back : (ps : List (ℕ × ℕ)) → HoldsPackages ps → map pair_of (map pack_pair ps) ≡ ps
packages_back ps h = pairs_back ps h.small

pub maps_back : (ms : List (ℕ × ℕ)) → HoldsMaps ms → map pair_of (map pack_pair ms) ≡ ms
maps_back ms h = pairs_back ms (below_wider ms (omega arith) h.small)

packed_back : (fs : List Fragment) (spare : Bytes) → TellAll fs → packed_in (map fragment_head fs) (bodies_of fs ++ spare) ≡ fs
unfolding packed_in bodies_of
packed_back [] spare h = refl
packed_back (f ∷ fs) spare h =
    let n : fragment_length (fragment_head f) ≡ length f.body = h.0.length_is in
    let bodies : Bytes = (f.body ++ bodies_of fs) ++ spare in
    let body : take (fragment_length (fragment_head f)) bodies ≡ f.body =
    ap₂ (λ (k : ℕ) (z : Bytes). take k z) n (append_assoc f.body (bodies_of fs) spare) ∙ take_at f.body (bodies_of fs ++ spare) (length f.body) refl in
    let rest : drop (fragment_length (fragment_head f)) bodies ≡ bodies_of fs ++ spare =
    ap₂ (λ (k : ℕ) (z : Bytes). drop k z) n (append_assoc f.body (bodies_of fs) spare) ∙ drop_at f.body (bodies_of fs ++ spare) (length f.body) refl in
    ap₂ (λ (g : Fragment) (l : List Fragment). g ∷ l)
    (λ i. record { identifier = h.0.identifier_is i; flags = h.0.flags_are i; body = body i })
    (ap (packed_in (map fragment_head fs)) rest ∙ packed_back fs spare h.1)

pub tell_take : (i : ℕ) (fs : List Fragment) → TellAll fs → TellAll (take i fs)
tell_take zero fs h = tt
tell_take (suc i) [] h = tt
tell_take (suc i) (f ∷ fs) h = (h.0, tell_take i fs h.1)

pub tell_drop : (i : ℕ) (fs : List Fragment) → TellAll fs → TellAll (drop i fs)
tell_drop zero fs h = h
tell_drop (suc i) [] h = tt
tell_drop (suc i) (f ∷ fs) h = tell_drop i fs h.1

pub lens_heads : (fs : List Fragment) → TellAll fs → lens (map fragment_head fs) ≡ length (bodies_of fs)
unfolding lens
lens_heads fs h = lengths_of_lem fs h ∙ bytes_of_lem fs

-- A room that holds fragments holds these alone.
pub fragments_back : (leading : ℕ) (fs : List Fragment) (free : Bytes) → TellAll fs → fragments_in leading (map fragment_head fs) (room_of leading fs free) ≡ fs
unfolding fragments_in room_of
fragments_back leading fs free h =
    let xs : List Fragment = take leading fs in
    let ys : List Fragment = drop leading fs in
    let room : Bytes = bodies_of xs ++ (free ++ bodies_of ys) in
    let l : lens (map fragment_head ys) ≡ length (bodies_of ys) = lens_heads ys (tell_drop leading fs h) in
    let m : length (bodies_of xs ++ free) ≡ length room - lens (map fragment_head ys) =
    omega (arith, length-append (bodies_of xs) free, length-append (bodies_of xs) (free ++ bodies_of ys), length-append free (bodies_of ys)) in
    let back : drop (length room - lens (map fragment_head ys)) room ≡ bodies_of ys ++ [] =
    ap (drop (length room - lens (map fragment_head ys))) (sym (append_assoc (bodies_of xs) free (bodies_of ys)))
    ∙ drop_at (bodies_of xs ++ free) (bodies_of ys) (length room - lens (map fragment_head ys)) m ∙ sym (append-nil (bodies_of ys)) in
    ap₂ (λ (a b : List ℕ). packed_in a room ++ packed_in b (drop (length room - lens b) room)) (take_map fragment_head leading fs) (drop_map fragment_head leading fs)
    ∙ ap₂ (λ (a b : List Fragment). a ++ b) (packed_back xs (free ++ bodies_of ys) (tell_take leading fs h))
    (ap (packed_in (map fragment_head ys)) back ∙ packed_back ys [] (tell_drop leading fs h))
    ∙ take-append-drop leading fs

module _ (L : Limits) (M : Modes) (o : Options) (leading : ℕ) (st : State) (total_few : L.total ≤ 16777216) (h : HoldsState L o st) where
  pub state_back : (work free : Bytes) → state_of (record_of L M o leading st) (st.held ++ work) (room_of leading st.known.fragments free) st.known.map_room ≡ st
  unfolding state_of record_of
  state_back work free =
      let k = st.known in
      let s = h.known_holds in
      let tell = heads_tell L.total k.fragments s.fragments_hold total_few in
      let held = take_at st.held work (length st.held) refl in
      let packages = ap (map pair_of) (used 255 pack_pair k.packages) ∙ packages_back k.packages s.packages_hold in
      let map_heads = ap (map pair_of) (used 64 pack_pair k.map_heads) ∙ maps_back k.map_heads s.maps_hold in
      let fragments = ap (λ (l : List ℕ). fragments_in leading l (room_of leading k.fragments free)) (used 256 fragment_head k.fragments) ∙ fragments_back leading k.fragments free tell in
      λ i. record {
        held = held i;
        known = record { plt_seen = k.plt_seen; packages = packages i; map_heads = map_heads i; map_room = k.map_room; data_set = k.data_set; fragments = fragments i };
      }

-- A call on the record of a state is refused as a call on the state is.
pub refusal_same : (L : Limits) (M : Modes) (o : Options) (leading : ℕ) (st : State) (c : Lent) → good_work_room L.work ≡ true → good_fragment_room L.total L.most ≡ true → HoldsState L o st
    → push_refusal (record_of L M o leading st) L.work L.total 32768 (length c.0) c.1 ≡ call_refusal L st c
unfolding push_refusal call_refusal record_of
refusal_same L M o leading st c w f h = rw (record_sound L M o leading st w f h)
