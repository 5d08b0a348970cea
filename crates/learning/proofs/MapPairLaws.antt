-- The array of map heads: a pair put at its identifier's place, and how many there are then. Each goes by the pairs,
-- as `put_head` of meaning's SoundnessKept does; rests on that and on SoundnessLaws.
use Prim.Native.Nat.{ℕ, zero, suc, max, ◌+◌, ◌-◌, ◌*◌, ◌≤◌, ◌<◌}
use mathlib.Core.Path.{◌≡◌, refl, sym, ap, ◌∙◌}
use mathlib.Core.Bool.{Bool, true, false, cond}
use mathlib.Core.List.{List, [], ◌∷◌, ◌++◌, map}
use native.Mathlib.Nat.{sub-zero}
use native.Mathlib.Numerals.{sub-one}
use native.Mathlib.Omega.{arith}
use lib.ListN.{length, take, drop, set}
use lib.Dec.{eqb}
use Rattle.meaning.specs.Tables.{Entry}
use Rattle.meaning.specs.Learn.{place_for, listed}
use Rattle.meaning.specs.Record.{slots, pack_pair}
use Rattle.meaning.proofs.SoundnessKept.{put_head, put_is, maps_hold_after}
use Rattle.meaning.proofs.SoundnessLaws.{maps_back}
use Rattle.learning.specs.Kept.{KeptMaps}

slots_next : (N x : ℕ) (xs : List ℕ) → slots (suc N) (x ∷ xs) ≡ x ∷ slots N xs
unfolding slots
slots_next N x xs = let e : suc N - suc (length xs) ≡ N - length xs = omega arith in rw e

module _ (p n : ℕ) where
  -- the slots with p's pair put in
  pub put_slots : (N : ℕ) (ms : List (ℕ × ℕ)) → length ms ≤ N → place_for p ms < N
      → set (slots N (map pack_pair ms)) (place_for p ms) (p * 65536 + n) ≡ slots N (map pack_pair (put_head p n ms))
  unfolding slots pack_pair place_for put_head
  put_slots zero ms l h = absurd (omega arith)
  put_slots (suc N) [] l h = rw (sub-zero, sub-one)
  put_slots (suc N) (m ∷ ms) l h = go (eqb m.0 p) h (put_slots N ms (omega arith))
    where
      go : (a : Bool) → cond a 0 (suc (place_for p ms)) < suc N
          → (place_for p ms < N → set (slots N (map pack_pair ms)) (place_for p ms) (p * 65536 + n) ≡ slots N (map pack_pair (put_head p n ms)))
          → set (slots (suc N) (map pack_pair (m ∷ ms))) (cond a 0 (suc (place_for p ms))) (p * 65536 + n) ≡ slots (suc N) (map pack_pair (cond a ((p, n) ∷ ms) (m ∷ put_head p n ms)))
      go true h ih = refl
      go false h ih =
          ap (λ (l : List ℕ). set l (suc (place_for p ms)) (p * 65536 + n)) (slots_next N (pack_pair m) (map pack_pair ms))
          ∙ ap (λ (l : List ℕ). pack_pair m ∷ l) (ih (omega arith))
          ∙ sym (slots_next N (pack_pair m) (map pack_pair (put_head p n ms)))

  pub put_count : (ms : List (ℕ × ℕ)) → length (put_head p n ms) ≡ max (length ms) (place_for p ms + 1)
  unfolding place_for put_head
  put_count [] = omega arith
  put_count (m ∷ ms) = go (eqb m.0 p) (put_count ms)
    where
      go : (a : Bool) → length (put_head p n ms) ≡ max (length ms) (place_for p ms + 1)
          → length (cond a ((p, n) ∷ ms) (m ∷ put_head p n ms)) ≡ max (suc (length ms)) (cond a 0 (suc (place_for p ms)) + 1)
      go true ih = omega arith
      go false ih = omega arith

-- ---- the maps that are held after p's list

pub maps_after : (p : ℕ) (es : List Entry) (ms : List (ℕ × ℕ)) (n : ℕ) (xs : List ℕ) → length es < 256 → place_for p ms < 64 → KeptMaps ms n xs
    → KeptMaps (take (place_for p ms) ms ++ ((p, length (listed es)) ∷ drop (suc (place_for p ms)) ms)) (max n (place_for p ms + 1)) (set xs (place_for p ms) (p * 65536 + length (listed es)))
maps_after p es ms n xs l h k =
    let c = length (listed es) in
    let hold = maps_hold_after p es ms l h k.hold in
    let after : List (ℕ × ℕ) = take (place_for p ms) ms ++ ((p, c) ∷ drop (suc (place_for p ms)) ms) in
    record {
      pairs = record {
        count = rw (put_is p c ms, k.pairs.count) (sym (put_count p c ms));
        few = hold.few;
        are = rw (put_is p c ms, k.pairs.are) (put_slots p c 64 ms k.pairs.few h);
        back = maps_back after hold;
      };
      hold = hold;
    }
