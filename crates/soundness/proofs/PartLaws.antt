-- A record whose parts are sound: what that gives of each part, for a caller that reads by them. Rests on Record of `meaning` and on
-- specs/Parts.
use Prim.Native.Nat.{ℕ, ◌≤◌, ◌<◌}
use mathlib.Core.Path.{◌≡◌, subst}
use mathlib.Core.Bool.{Bool, true, not, ◌&&◌, ◌||◌}
use mathlib.Core.List.{List}
use native.Mathlib.Omega.{arith}
use lib.Dec.{leb, ltb, eqb}
use borrow.Author.Tests.{leb-true, ltb-true, eqb-true}
use Rattle.meaning.specs.Wishes.{wants_assets, copies_all}
use Rattle.meaning.specs.Rooms.{packet_limit, good_work_room, good_fragment_room, good_map_room}
use Rattle.meaning.specs.Soundness.{sound_rooms, sound_held, sound_packages, sound_maps, sound_fragments}
use Rattle.meaning.specs.declared.Limits.{Limits}
use Rattle.meaning.specs.declared.Options.{Options}
use Rattle.meaning.proofs.ListLaws.{and_both}
use Rattle.learning.specs.declared.Extent.{Extent}
use Rattle.soundness.specs.Parts.{parts_sound}

pub limit_fits : (w : ℕ) → packet_limit w ≤ w
unfolding packet_limit
limit_fits w = omega arith

few_total : (t most : ℕ) → good_fragment_room t most ≡ true → t ≤ 16777216
unfolding good_fragment_room
few_total t most e =
    let a = (and_both (leb 1 t && leb t 16777216 && leb 1 most) (leb most t) e).0 in
    let b = (and_both (leb 1 t && leb t 16777216) (leb 1 most) a).0 in
    leb-true t 16777216 (and_both (leb 1 t) (leb t 16777216) b).1

few_work : (w : ℕ) → good_work_room w ≡ true → w ≤ 131078
unfolding good_work_room
few_work w e = leb-true w 131078 (and_both (leb 4096 w) (leb w 131078) e).1

module _ (L : Limits) (o : Options) (held_count : ℕ) (e : Extent) (packages map_heads fragment_heads : List ℕ) (w t m : ℕ) where
  pub record SoundParts : Type 0 where
    pub work_is : L.work ≡ w
    pub work_good : good_work_room w ≡ true
    pub work_few : w ≤ 131078
    pub total_is : L.total ≡ t
    pub total_few : t ≤ 16777216
    pub map_room_good : m ≡ 32768
    pub held_few : held_count < packet_limit w
    pub none_held : copies_all o ≡ true → held_count ≡ 0
    pub packages_sound : sound_packages e.package_count packages ≡ true
    pub maps_sound : sound_maps e.map_count map_heads ≡ true
    pub fragments_sound : sound_fragments t e.fragment_count fragment_heads ≡ true

  pub sound_parts : parts_sound L o held_count e packages map_heads fragment_heads w t m ≡ true → SoundParts
  unfolding sound_rooms sound_held good_map_room
  sound_parts s =
      let rooms = sound_rooms L w t m in
      let is_wanted = wants_assets o in
      let is_held_lem = sound_held L o held_count in
      let are_packages = sound_packages e.package_count packages in
      let are_maps = sound_maps e.map_count map_heads in
      let h₄ = and_both (rooms && is_wanted && is_held_lem && are_packages && are_maps) (sound_fragments t e.fragment_count fragment_heads) s in
      let h₃ = and_both (rooms && is_wanted && is_held_lem && are_packages) are_maps h₄.0 in
      let h₂ = and_both (rooms && is_wanted && is_held_lem) are_packages h₃.0 in
      let h₁ = and_both (rooms && is_wanted) is_held_lem h₂.0 in
      let h₀ = and_both rooms is_wanted h₁.0 in
      let work = eqb L.work w in
      let total = eqb L.total t in
      let g₄ = and_both (work && total && good_map_room m && good_work_room w) (good_fragment_room t L.most) h₀.0 in
      let g₃ = and_both (work && total && good_map_room m) (good_work_room w) g₄.0 in
      let g₂ = and_both (work && total) (good_map_room m) g₃.0 in
      let g₁ = and_both work total g₂.0 in
      let same : L.work ≡ w = eqb-true L.work w g₁.0 in
      let f = and_both (ltb held_count (packet_limit L.work)) (not (copies_all o) || eqb held_count 0) h₁.1 in
      record {
        work_is = same;
        work_good = g₃.1;
        work_few = few_work w g₃.1;
        total_is = eqb-true L.total t g₁.1;
        total_few = few_total t L.most g₄.1;
        map_room_good = eqb-true m 32768 g₂.1;
        held_few = subst (λ (n : ℕ). held_count < packet_limit n) same (ltb-true held_count (packet_limit L.work) f.0);
        none_held = λ q. eqb-true held_count 0 (subst (λ (b : Bool). (not b || eqb held_count 0) ≡ true) q f.1);
        packages_sound = h₂.1;
        maps_sound = h₃.1;
        fragments_sound = h₄.1;
      }
