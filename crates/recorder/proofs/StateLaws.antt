-- From a sound record to arrays that hold its state, once unused slots are zero, and from arrays that hold a state to its record and back
-- to the state. Rests on SoundnessLaws of `meaning`, on Kept and Observed of `learning` and on PartLaws of `soundness`.
use Prim.Native.Nat.{ℕ, ◌-◌, ◌≤◌}
use mathlib.Core.Path.{◌≡◌, refl, sym, ap, ap₂, ◌∙◌, subst}
use mathlib.Core.Bool.{Bool, true, ◌&&◌}
use mathlib.Core.List.{List, [], ◌∷◌, ◌++◌, map}
use native.Mathlib.Omega.{arith}
use lib.ListN.{length, take, drop, replicate, take-append-drop}
use lib.Seq.{length-take-le}
use lib.Dec.{leb}
use borrow.Author.Tests.{leb-true}
use Rattle.meaning.specs.Bytes.{Bytes}
use Rattle.meaning.specs.Lists.{all}
use Rattle.meaning.specs.Record.{State, slots, Record, pack_pair, pair_of, fragment_head, fragment_identifier, record_of, room_of, lens, fragments_in, state_of}
use Rattle.meaning.specs.Soundness.{rising, distinct, sound_packages, sound_maps, sound_fragments, sound, HoldsPackages, HoldsMaps, HoldsFragments}
use Rattle.meaning.specs.declared.Limits.{Limits}
use Rattle.meaning.specs.declared.Options.{Options}
use Rattle.meaning.specs.declared.Modes.{Modes}
use Rattle.meaning.proofs.ListLaws.{and_both}
use Rattle.meaning.proofs.LayoutLaws.{length_in, heads_in_lem, free_in, room_in}
use Rattle.meaning.proofs.SoundnessLaws.{HoldsState, state_holds, state_back}
use Rattle.fragments.specs.Fragments.{KeptFragments}
use Rattle.learning.specs.News.{no_news}
use Rattle.learning.specs.Kept.{pairs_in, Pairs, KeptPackages, KeptMaps}
use Rattle.observing.specs.Observed.{Holding}
use Rattle.learning.specs.declared.Extent.{Extent}
use Rattle.learning.specs.declared.Kept.{Kept}
use Rattle.learning.proofs.PairLaws.{in_length}
use Rattle.soundness.proofs.PartLaws.{SoundParts, sound_parts}
use Rattle.recorder.specs.Slots.{cleared}

-- ---- an array whose unused slots are cleared

packed_again : (ys : List ℕ) → map pack_pair (map pair_of ys) ≡ ys
unfolding pack_pair pair_of
packed_again [] = refl
packed_again (y ∷ ys) = ap₂ (λ (z : ℕ) (l : List ℕ). z ∷ l) (omega arith) (packed_again ys)

module _ (N n : ℕ) (xs : List ℕ) (whole : length xs ≡ N) (few : n ≤ N) where
  slots_kept : (ys : List ℕ) → ys ≡ take n xs → cleared n xs ≡ slots N ys
  unfolding slots
  slots_kept ys e =
      let l : length ys ≡ n = ap length e ∙ length-take-le n xs (omega arith) in
      let m : length xs - n ≡ N - length ys = omega arith in
      ap₂ (λ (zs : List ℕ) (k : ℕ). zs ++ replicate k 0) (sym e) m

  pub pairs_kept : Pairs N (pairs_in n xs) n (cleared n xs)
  pairs_kept =
      let l : length (pairs_in n xs) ≡ n = in_length n xs (omega arith) in
      record {
        count = sym l;
        few = omega arith;
        are = slots_kept (map pack_pair (pairs_in n xs)) (packed_again (take n xs));
        back = ap (map pair_of) (packed_again (take n xs));
      }

-- ---- packages and maps: `state_holds` has what the pairs hold to

module _ (n : ℕ) (xs : List ℕ) where
  pub packages_kept : sound_packages n xs ≡ true → length xs ≡ 255 → HoldsPackages (pairs_in n xs) → KeptPackages (pairs_in n xs) n (cleared n xs)
  unfolding sound_packages
  packages_kept e l h =
      let few = (and_both (leb n 255) (rising (map (λ x. (pair_of x).0) (take n xs))) e).0 in
      record { pairs = pairs_kept 255 n xs l (leb-true n 255 few); hold = h }

  pub maps_kept : sound_maps n xs ≡ true → length xs ≡ 64 → HoldsMaps (pairs_in n xs) → KeptMaps (pairs_in n xs) n (cleared n xs)
  unfolding sound_maps
  maps_kept e l h =
      let counts : Bool = all (λ x. leb (pair_of x).1 255) (take n xs) in
      let few = (and_both (leb n 64 && counts) (distinct (map (λ x. (pair_of x).0) (take n xs))) e).0 in
      record { pairs = pairs_kept 64 n xs l (leb-true n 64 (and_both (leb n 64) counts few).0); hold = h }

-- ---- fragments: the heads' lengths are within the room

pub fragments_kept : (T n leading : ℕ) (hs : List ℕ) (bodies : Bytes) → sound_fragments T n hs ≡ true → length hs ≡ 256 → length bodies ≡ T → T ≤ 16777216
    → HoldsFragments T (fragments_in leading (take n hs) bodies) → KeptFragments T (fragments_in leading (take n hs) bodies) n leading (cleared n hs) bodies
unfolding sound_fragments lens
fragments_kept T n leading hs bodies e l t few h =
    let apart = and_both (leb n 256 && distinct (map fragment_identifier (take n hs))) (leb (lens (take n hs)) T) e in
    let m : n ≤ 256 = leb-true n 256 (and_both (leb n 256) (distinct (map fragment_identifier (take n hs))) apart.0).0 in
    let w : lens (take n hs) ≤ T = leb-true (lens (take n hs)) T apart.1 in
    let within : lens (take n hs) ≤ length bodies = omega arith in
    record {
      heads = record {
        count = sym (length_in leading (take n hs) bodies ∙ length-take-le n hs (omega arith));
        are = slots_kept 256 n hs l m (map fragment_head (fragments_in leading (take n hs) bodies)) (heads_in_lem leading (take n hs) bodies within);
      };
      free = free_in leading (take n hs) bodies within;
      room_is = room_in leading (take n hs) bodies within;
      total = t;
      total_few = few;
      hold = h;
    }

-- ---- a sound record, in parts

-- The extent of a record between two calls.
abbrev pub extent_in : Record → Extent
extent_in r = record { seen = r.plt_seen; package_count = r.package_count; map_count = r.map_count; fragment_count = r.fragment_count; leading = r.leading; lost = 0; news = no_news }

pub record_parts : (r : Record) (W T M : ℕ) → sound r W T M ≡ true
    → SoundParts r.limits r.options r.held_count (extent_in r) r.packages r.map_heads r.fragment_heads W T M
unfolding sound
record_parts r W T M e = sound_parts r.limits r.options r.held_count (extent_in r) r.packages r.map_heads r.fragment_heads W T M e

-- ---- a sound record's state is held by its arrays, cleared

-- All slots of a record's arrays are there.
pub record Whole (r : Record) : Type 0 where
  pub data_set_all : length r.data_set ≡ 1024
  pub packages_all : length r.packages ≡ 255
  pub map_heads_all : length r.map_heads ≡ 64
  pub fragments_all : length r.fragment_heads ≡ 256

-- An extent has a record's numbers, whatever was lost and changed.
pub record Extends (r : Record) (e : Extent) : Type 0 where
  pub seen_is : e.seen ≡ r.plt_seen
  pub packages_are : e.package_count ≡ r.package_count
  pub map_heads_are : e.map_count ≡ r.map_count
  pub fragments_are : e.fragment_count ≡ r.fragment_count
  pub leading_is : e.leading ≡ r.leading

-- What a record keeps, cleared.
abbrev pub kept_of : Record → Kept
kept_of r = record {
  data_set = record { words = r.data_set };
  packages = cleared r.package_count r.packages;
  map_heads = cleared r.map_count r.map_heads;
  fragment_heads = cleared r.fragment_count r.fragment_heads;
}

pub state_held : (r : Record) (work bodies : Bytes) (map_room : List ℕ) (e : Extent) → sound r (length work) (length bodies) (length map_room) ≡ true → Whole r → Extends r e
    → Holding r.limits.total (state_of r work bodies map_room).known e (kept_of r) map_room bodies
unfolding state_of
state_held r work bodies map_room e s w n =
    let p = record_parts r (length work) (length bodies) (length map_room) s in
    let h = (state_holds r work bodies map_room s).known_holds in
    let T = r.limits.total in
    let t : length bodies ≡ T = sym p.total_is in
    let f = subst (λ (z : ℕ). sound_fragments z r.fragment_count r.fragment_heads ≡ true) t p.fragments_sound in
    record {
      tables_kept = record {
        seen = n.seen_is;
        packages_kept = subst (λ (m : ℕ). KeptPackages (pairs_in r.package_count r.packages) m (cleared r.package_count r.packages)) (sym n.packages_are)
            (packages_kept r.package_count r.packages p.packages_sound w.packages_all h.packages_hold);
        maps_kept = subst (λ (m : ℕ). KeptMaps (pairs_in r.map_count r.map_heads) m (cleared r.map_count r.map_heads)) (sym n.map_heads_are)
            (maps_kept r.map_count r.map_heads p.maps_sound w.map_heads_all h.maps_hold);
        data_set_is = refl;
        data_set_all = w.data_set_all;
        map_room_is = refl;
        map_room_all = p.map_room_good;
      };
      fragments_kept = rw (n.fragments_are, n.leading_is)
          (fragments_kept T r.fragment_count r.leading r.fragment_heads bodies f w.fragments_all t (omega (arith, p.total_few, p.total_is)) h.fragments_hold);
    }

-- ---- the record of arrays that hold a state

-- A record by an extent's numbers and arrays.
abbrev pub record_with : Limits → Modes → Options → ℕ → Extent → Kept → Record
record_with L M o held_count e kept = record {
  limits = L;
  modes = M;
  options = o;
  held_count = held_count;
  plt_seen = e.seen;
  package_count = e.package_count;
  map_count = e.map_count;
  fragment_count = e.fragment_count;
  leading = e.leading;
  data_set = kept.data_set.words;
  packages = kept.packages;
  map_heads = kept.map_heads;
  fragment_heads = kept.fragment_heads;
}

module _ (L : Limits) (M : Modes) (o : Options) (leading : ℕ) (st : State) {e : Extent} {kept : Kept} {map_room : List ℕ} {bodies : Bytes}
    (k : Holding L.total st.known e kept map_room bodies) where
  pub record_back : (n : ℕ) → n ≡ length st.held → e.leading ≡ leading → record_with L M o n e kept ≡ record_of L M o leading st
  unfolding record_of
  record_back n h l =
      let t = k.tables_kept in
      let f = k.fragments_kept in
      λ i. record {
        limits = L;
        modes = M;
        options = o;
        held_count = h i;
        plt_seen = t.seen i;
        package_count = t.packages_kept.pairs.count i;
        map_count = t.maps_kept.pairs.count i;
        fragment_count = f.heads.count i;
        leading = l i;
        data_set = t.data_set_is i;
        packages = t.packages_kept.pairs.are i;
        map_heads = t.maps_kept.pairs.are i;
        fragment_heads = f.heads.are i;
      }

  -- with a work room that begins with the held bytes, the record's state is this one
  pub state_again : (work : Bytes) → HoldsState L o st → e.leading ≡ leading → take (length st.held) work ≡ st.held → state_of (record_of L M o leading st) work bodies map_room ≡ st
  state_again work h l w =
      let fs = st.known.fragments in
      let n = length st.held in
      let at_work : work ≡ st.held ++ drop n work = sym (take-append-drop n work) ∙ ap (λ (z : Bytes). z ++ drop n work) w in
      let at_bytes : bodies ≡ room_of leading fs k.fragments_kept.free = k.fragments_kept.room_is ∙ ap (λ (i : ℕ). room_of i fs k.fragments_kept.free) l in
      let same : state_of (record_of L M o leading st) work bodies map_room ≡ state_of (record_of L M o leading st) (st.held ++ drop n work) (room_of leading fs k.fragments_kept.free) st.known.map_room =
      λ i. state_of (record_of L M o leading st) (at_work i) (at_bytes i) (k.tables_kept.map_room_is i) in
      same ∙ state_back L M o leading st k.fragments_kept.total_few h (drop n work) k.fragments_kept.free
