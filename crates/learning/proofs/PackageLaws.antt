-- The packages of a PLT as `packages` reads and keeps them: the slot of a service, an insertion there, the loop over the packages, whose
-- invariant is `Sofar`, and what is told as changed. Rests on PairLaws, on the readers at an offset, and on what a PLT's packages hold to.
use Prim.Native.Nat.{ℕ, zero, suc, ◌+◌, ◌-◌, ◌*◌, ◌/◌, ◌≤◌, ◌<◌}
use mathlib.Core.Path.{◌≡◌, refl, sym, ap, ap₂, ◌∙◌}
use mathlib.Core.Bool.{Bool, true, false, cond, not, ◌&&◌}
use mathlib.Core.List.{List, [], ◌∷◌, ◌++◌, map, append-nil}
use mathlib.Core.Option.{Option, none, some}
use native.Mathlib.Omega.{arith}
use lib.ListN.{length, take, drop, get_or, set, length-append, length-map, get_or-map}
use lib.Arith.{lt_of_le-ne}
use lib.Seq.{length-take-le, get_or-take}
use lib.Dec.{ltb, eqb}
use borrow.Author.Tests.{ltb-true, ltb-false, lt-ltb, le-ltb, eqb-true, eq-eqb, ne_eqb}
use Rattle.std.specs.Prelude as code
use Rattle.std.specs.Prelude.{Some, Result, Ok, Err}
use Rattle.std.specs.Ordering.{nat_cmp, ordering_index}
use Rattle.std.specs.List.Sorted.{IsSearchInRange, IsBinarySearchResult, IsNonDecreasingBy}
use Rattle.std.proofs.lemmas.Cmp.{ranked}
use Rattle.std.proofs.lemmas.Bool.Decides.{nat_tests}
use Rattle.std.proofs.lemmas.List.Sorted.{IsNonDecreasingBy-from_default}
use Rattle.meaning.specs.Bytes.{Bytes}
use Rattle.meaning.specs.Readers.{many}
use Rattle.meaning.specs.Tables.{Package, package_entry, plt, service_of}
use Rattle.meaning.specs.Learn.{insert_package, add_package, packages_in}
use Rattle.meaning.specs.Record.{slots, pack_pair, pair_of}
use Rattle.meaning.specs.Soundness.{rising, firsts}
use Rattle.meaning.proofs.Reading.{u8_none, many_none, many_next, behind, behind_nothing, behind_one}
use Rattle.octets.proofs.ByteLaws.{u8_at_lem}
use Rattle.tables.specs.Answers.{in_code, PackageIs}
use Rattle.tables.specs.declared.packages.Package as read
use Rattle.meaning.proofs.ListLaws.{clash, and_both, both_true}
use Rattle.meaning.proofs.SoundnessKept.{insert_rise, plt_holds}
use Rattle.learning.specs.Kept.{pairs_in, Pairs, KeptPackages}
use Rattle.learning.specs.News.{also, change_news, unlisted_news, unlisted, plt_news, same_numbers, same_pairs}
use Rattle.learning.specs.Learnt.{with_news, before, Rising, SlotIs, taken, PackagesAre, PltLearnt}
use Rattle.learning.specs.declared.Extent.{Extent}
use Rattle.learning.specs.declared.News.{News}
use Rattle.learning.specs.declared.packages.Services.{Services}
use Rattle.learning.proofs.AlsoLaws.{now_changed, met_changed}
use Rattle.learning.proofs.PairLaws.{same_refl, same_true, pairs_refl, pairs_true, pairs_as, pairs_in_lem, first_in, in_length, first_at, pairs_put, pairs_insert}

-- ---- the slot of a service among packages whose services rise

rise_above : (a : ℕ) (ns : List ℕ) → rising (a ∷ ns) ≡ true → (j : ℕ) → j < length ns → a < get_or ns j 0
unfolding rising
rise_above a [] r j h = absurd (omega arith)
rise_above a (b ∷ ns) r zero h = ltb-true a b (and_both (ltb a b) (rising (b ∷ ns)) r).0
rise_above a (b ∷ ns) r (suc j) h =
    let t = and_both (ltb a b) (rising (b ∷ ns)) r in
    omega (arith, ltb-true a b t.0, rise_above b ns t.1 j (omega arith))

rise_tail : (a : ℕ) (ns : List ℕ) → rising (a ∷ ns) ≡ true → rising ns ≡ true
unfolding rising
rise_tail a [] r = refl
rise_tail a (b ∷ ns) r = (and_both (ltb a b) (rising (b ∷ ns)) r).1

rise_far : (ns : List ℕ) → rising ns ≡ true → (i j : ℕ) → i < j → j < length ns → get_or ns i 0 < get_or ns j 0
rise_far [] r i j l h = absurd (omega arith)
rise_far (a ∷ ns) r i zero l h = absurd (omega arith)
rise_far (a ∷ ns) r zero (suc j) l h = rise_above a ns r j (omega arith)
rise_far (a ∷ ns) r (suc i) (suc j) l h = rise_far ns (rise_tail a ns r) i j (omega arith) (omega arith)

-- that many come before it
before_is : (s : ℕ) (ps : List (ℕ × ℕ)) (at : ℕ) → at ≤ length ps → ((k : ℕ) → k < at → (get_or ps k (0, 0)).0 < s)
    → (at < length ps → s ≤ (get_or ps at (0, 0)).0) → at ≡ before s ps
unfolding before
before_is s [] at l below above = omega arith
before_is s (q ∷ qs) zero l below above = let h : s ≤ q.0 = above (omega arith) in rw (le-ltb q.0 s h)
before_is s (q ∷ qs) (suc at) l below above =
    let h : q.0 < s = below 0 (omega arith) in
    rw (lt-ltb q.0 s h) (ap suc (before_is s qs at (omega arith) (λ k m. below (suc k) (omega arith)) (λ m. above (omega arith))))

module _ (s n : ℕ) (xs : List ℕ) (in_xs : n ≤ length xs) (rise : rising (firsts (pairs_in n xs)) ≡ true) where
  abbrev first : ℕ → ℕ
  first k = get_or xs k 0 / 65536

  firsts_rise : (i j : ℕ) → i < j → j < n → first i < first j
  firsts_rise i j l h =
      let ps = pairs_in n xs in
      let m : length (firsts ps) ≡ n = length-map ps (λ (x : ℕ × ℕ). x.0) ∙ in_length n xs in_xs in
      let there : (k : ℕ) → k < n → get_or (firsts ps) k 0 ≡ first k = λ k g. get_or-map (λ (x : ℕ × ℕ). x.0) ps k (0, 0) ∙ first_in n xs k g in
      omega (arith, rise_far (firsts ps) rise i j l (omega arith), there i (omega arith), there j h)

  -- the comparisons with it rise, as a binary search asks
  compare_rise : IsNonDecreasingBy (λ y. ordering_index (nat_cmp (y / 65536) s)) (take n xs)
  compare_rise = IsNonDecreasingBy-from_default (λ y. ordering_index (nat_cmp (y / 65536) s)) (take n xs) 0 (λ i j l h.
      let m : length (take n xs) ≡ n = length-take-le n xs in_xs in
      let here : get_or (take n xs) i 0 ≡ get_or xs i 0 = get_or-take n xs i 0 (omega arith) in
      let there : get_or (take n xs) j 0 ≡ get_or xs j 0 = get_or-take n xs j 0 (omega arith) in
      let keys : first i ≤ first j = grind (arith, firsts_rise i j, λ (e : i ≡ j). ap first e) in
      rw (here, there) (grind (arith, nat_tests)))

  at_slot : (i : ℕ) → i < n → get_or (take n xs) i 0 / 65536 ≡ (get_or (pairs_in n xs) i (0, 0)).0
  at_slot i h = ap (λ (z : ℕ). z / 65536) (get_or-take n xs i 0 h) ∙ sym (first_in n xs i h)

  -- behind them all
  pub behind_last : (0 < n → first (n - 1) < s) → SlotIs s n xs (Err n)
  behind_last last =
      let k : length (pairs_in n xs) ≡ n = in_length n xs in_xs in
      let below : (j : ℕ) → j < n → first j < s = λ j h. grind (arith, last (omega arith), firsts_rise j (n - 1), λ (e : j ≡ n - 1). ap first e) in
      (before_is s (pairs_in n xs) n (omega arith) (λ j h. omega (arith, below j h, first_in n xs j h)) (λ h. absurd (omega arith)), omega arith, λ h. absurd (omega arith))

  pub searched : (r : Result ℕ ℕ) → IsSearchInRange r (length (take n xs)) → IsBinarySearchResult (λ y. nat_cmp (y / 65536) s) (take n xs) r → SlotIs s n xs r
  searched (Ok at) in_range equal =
      let m : length (take n xs) ≡ n = length-take-le n xs in_xs in
      let l : at < n = omega arith in
      let k : length (pairs_in n xs) ≡ n = in_length n xs in_xs in
      let here : first at ≡ s = ap (λ (z : ℕ). z / 65536) (sym (get_or-take n xs at 0 l)) ∙ ranked _ s _ (sym (equal 0)) in
      (before_is s (pairs_in n xs) at (omega arith) (λ j h. omega (arith, firsts_rise j at h l, first_in n xs j (omega arith))) (λ h. omega (arith, first_in n xs at l)), l, here)
  searched (Err at) in_range parted =
      let m : length (take n xs) ≡ n = length-take-le n xs in_xs in
      let k : length (pairs_in n xs) ≡ n = in_length n xs in_xs in
      let p = parted compare_rise in
      let below : (j : ℕ) → j < at → get_or (take n xs) j 0 / 65536 < s = λ j h. ranked _ s _ (sym (p.0 j 0 (omega arith) h)) in
      let above : at < n → s < get_or (take n xs) at 0 / 65536 = λ h. ranked _ s _ (sym (p.1 at 0 (omega arith) (omega arith))) in (
        before_is s (pairs_in n xs) at (omega arith) (λ j h. omega (arith, below j h, at_slot j (omega arith))) (λ h. let g : at < n = omega arith in omega (arith, above g, at_slot at g)),
        omega arith,
        λ h e. omega (arith, above h, ap (λ (z : ℕ). z / 65536) (get_or-take n xs at 0 h)),
      )

-- ---- an insertion by its slot

module _ (s p : ℕ) where
  pub insert_over : (ps : List (ℕ × ℕ)) → before s ps < length ps → (get_or ps (before s ps) (0, 0)).0 ≡ s
      → take (before s ps) ps ++ (s, p) ∷ drop (suc (before s ps)) ps ≡ insert_package s p ps
  unfolding before insert_package
  insert_over [] h e = absurd (omega arith)
  insert_over (q ∷ qs) h e = go (ltb q.0 s) refl h e (insert_over qs)
    where
      go : (b : Bool) → ltb q.0 s ≡ b → cond b (suc (before s qs)) 0 < suc (length qs) → (get_or (q ∷ qs) (cond b (suc (before s qs)) 0) (0, 0)).0 ≡ s
          → (before s qs < length qs → (get_or qs (before s qs) (0, 0)).0 ≡ s → take (before s qs) qs ++ (s, p) ∷ drop (suc (before s qs)) qs ≡ insert_package s p qs)
          → take (cond b (suc (before s qs)) 0) (q ∷ qs) ++ (s, p) ∷ drop (suc (cond b (suc (before s qs)) 0)) (q ∷ qs)
          ≡ cond (ltb s q.0) ((s, p) ∷ q ∷ qs) (cond (eqb s q.0) ((s, p) ∷ qs) (q ∷ insert_package s p qs))
      go true t h e ih =
          let l : q.0 < s = ltb-true q.0 s t in
          rw (le-ltb s q.0 (omega arith), ne_eqb s q.0 (λ z. omega arith)) (ap (λ (z : List (ℕ × ℕ)). q ∷ z) (ih (omega arith) e))
      go false t h e ih = rw (le-ltb s q.0 (omega arith), eq-eqb s q.0 (sym e))

  pub insert_new : (ps : List (ℕ × ℕ)) → (before s ps < length ps → (get_or ps (before s ps) (0, 0)).0 ≡ s → ⊥)
      → take (before s ps) ps ++ (s, p) ∷ drop (before s ps) ps ≡ insert_package s p ps
  unfolding before insert_package
  insert_new [] d = refl
  insert_new (q ∷ qs) d = go (ltb q.0 s) refl d (insert_new qs)
    where
      go : (b : Bool) → ltb q.0 s ≡ b → (cond b (suc (before s qs)) 0 < suc (length qs) → (get_or (q ∷ qs) (cond b (suc (before s qs)) 0) (0, 0)).0 ≡ s → ⊥)
          → ((before s qs < length qs → (get_or qs (before s qs) (0, 0)).0 ≡ s → ⊥) → take (before s qs) qs ++ (s, p) ∷ drop (before s qs) qs ≡ insert_package s p qs)
          → take (cond b (suc (before s qs)) 0) (q ∷ qs) ++ (s, p) ∷ drop (cond b (suc (before s qs)) 0) (q ∷ qs)
          ≡ cond (ltb s q.0) ((s, p) ∷ q ∷ qs) (cond (eqb s q.0) ((s, p) ∷ qs) (q ∷ insert_package s p qs))
      go true t d ih =
          let l : q.0 < s = ltb-true q.0 s t in
          rw (le-ltb s q.0 (omega arith), ne_eqb s q.0 (λ z. omega arith)) (ap (λ (z : List (ℕ × ℕ)). q ∷ z) (ih (λ h. d (omega arith))))
      go false t d ih =
          let l : s ≤ q.0 = ltb-false q.0 s t in
          let n : q.0 ≡ s → ⊥ = d (omega arith) in
          rw (lt-ltb s q.0 (lt_of_le-ne l (λ e. n (sym e))))

-- a package, as one number v, in its slot
module _ (s p v n at : ℕ) (xs : List ℕ) (small : p < 65536) (packed : v ≡ s * 65536 + p) (place : at ≡ before s (pairs_in n xs)) where
  whole : pack_pair (s, p) ≡ v
  unfolding pack_pair
  whole = sym packed

  slot_for : {ps : List (ℕ × ℕ)} → Pairs 255 ps n xs → at ≡ before s ps
  slot_for k = place ∙ ap (before s) (pairs_in_lem k)

  -- its service was there
  pub added_over : at < n → get_or xs at 0 / 65536 ≡ s → (ps : List (ℕ × ℕ)) → Rising ps n xs → Rising (insert_package s p ps) n (set xs at v)
  added_over h e ps r =
      let k = r.pairs in
      let q = slot_for k in
      let l : at < length ps = omega (arith, k.count) in
      record {
        pairs =
            pairs_as (pairs_put k (s, p) small at (omega arith) (omega (arith, k.few)))
            (rw q (insert_over s p ps (rw q at l) (rw q at (first_at k at h ∙ e)))) (omega arith) (ap (set xs at) whole);
        rise = insert_rise s p ps r.rise;
      }

  -- it was not
  pub added_new : at ≤ n → n < 255 → (at < n → get_or xs at 0 / 65536 ≡ s → ⊥) → (ys : List ℕ) → ys ≡ take (at + 1) xs ++ (take (n - at) (drop at xs) ++ drop (n + 1) xs)
      → (ps : List (ℕ × ℕ)) → Rising ps n xs → Rising (insert_package s p ps) (n + 1) (set ys at v)
  added_new h f d ys w ps r =
      let k = r.pairs in
      let q = slot_for k in
      let other : at < length ps → (get_or ps at (0, 0)).0 ≡ s → ⊥ = λ l e. let m : at < n = omega (arith, k.count) in d m (sym (first_at k at m) ∙ e) in
      record {
        pairs = pairs_as (pairs_insert k (s, p) small at h f ys w) (rw q (insert_new s p ps (rw q at other))) refl (ap (set ys at) whole);
        rise = insert_rise s p ps r.rise;
      }

-- ---- one package after another

-- what the code takes is what the definitions add
taken_is : (s q : Option ℕ) (ps : List (ℕ × ℕ)) → taken (in_code s) (in_code q) ps ≡ add_package s q ps
taken_is none q ps = refl
taken_is (some s) none ps = refl
taken_is (some s) (some p) ps = refl

packages_more : (pre : List Package) (x : Package) (ps : List (ℕ × ℕ)) → packages_in (pre ++ x ∷ []) ps ≡ add_package (service_of x.name) x.carrier (packages_in pre ps)
unfolding packages_in
packages_more [] x ps = refl
packages_more (y ∷ pre) x ps = packages_more pre x (add_package (service_of y.name) y.carrier ps)

-- no count
pub plt_none : (b : Bytes) → length b ≡ 0 → plt b ≡ none
unfolding plt
plt_none b h = rw (u8_none b 0 (omega arith))

-- Of the packages of b, `pre` were read, up to `from`, and `left` are left of `all`; those with a service and an identifier
-- are n.
pub record Sofar (b : Bytes) (all left from n : ℕ) (xs : List ℕ) : Type 0 where
  pub pre : List Package
  pub reads : plt b ≡ behind pre (many left package_entry (drop from b))
  pub kept : Rising (packages_in pre []) n xs
  pub few : n + left ≤ 255
  pub counted : length pre + left ≡ all

module _ (b : Bytes) where
  pub start : (count n : ℕ) (xs : List ℕ) → 0 < length b → count ≡ get_or b 0 0 → count < 256 → Pairs 255 [] n xs → Sofar b count count 1 n xs
  unfolding plt packages_in rising
  start count n xs h q l k =
      record {
        pre = [];
        reads = rw (u8_at_lem b 0 1 h (omega arith) refl, q) (behind_nothing (many (get_or b 0 0) package_entry (drop 1 b)));
        kept = record { pairs = k; rise = refl };
        few = omega (arith, k.count);
        counted = omega arith;
      }

  module _ (all left from n : ℕ) (xs : List ℕ) (i : Sofar b all left from n xs) where
    -- one that cannot be read
    pub broken : 0 < left → package_entry (drop from b) ≡ none → plt b ≡ none
    broken h e = rw (i.reads, many_none package_entry (drop from b) left h e)

    -- one more
    pub turn : (r : read.Package) → 0 < left → PackageIs b from (Some r) → (m : ℕ) (ys : List ℕ)
        → ((ps : List (ℕ × ℕ)) → Rising ps n xs → Rising (taken r.name r.carrier ps) m ys) → m ≤ n + 1 → Sofar b all (left - 1) r.end m ys
    turn r h p m ys k l =
        let row : Package = record { name = p.2.0; carrier = p.2.1; bytes_of = take (r.end - from) (drop from b) } in
        let ps = packages_in i.pre [] in
        record {
          pre = i.pre ++ row ∷ [];
          reads = i.reads ∙ rw (many_next package_entry (drop from b) left row (drop r.end b) h p.2.2) (behind_one i.pre row (many (left - 1) package_entry (drop r.end b)));
          kept =
              let q : taken r.name r.carrier ps ≡ packages_in (i.pre ++ row ∷ []) [] =
              ap₂ (λ (a q : code.Option ℕ). taken a q ps) p.2.3 p.2.4 ∙ taken_is (service_of p.2.0) p.2.1 ps ∙ sym (packages_more i.pre row []) in
              rw q at (k ps i.kept);
          few = omega (arith, i.few);
          counted = omega (arith, i.counted, length-append i.pre (row ∷ []));
        }

    -- none left
    pub all_read : left ≡ 0 → PackagesAre (plt b) (record { packages = xs; count = n; unlisted = not (eqb n all) }) (Some tt)
    unfolding many unlisted
    all_read z =
        let every : all ≡ length i.pre = omega (arith, i.counted) in
        (i.pre, drop from b, rw (i.reads, z, append-nil i.pre), i.kept.pairs, ap₂ (λ (a c : ℕ). not (eqb a c)) i.kept.pairs.count every)

-- ---- what a PLT makes of what is known

extent_is : (e : Extent) (s : Bool) (n : ℕ) (c : News) → e.seen ≡ s → e.package_count ≡ n → e.news ≡ c
    → e ≡ record { seen = s; package_count = n; map_count = e.map_count; fragment_count = e.fragment_count; leading = e.leading; lost = e.lost; news = c }
extent_is e s n c p q r = λ i. record { seen = p i; package_count = q i; map_count = e.map_count; fragment_count = e.fragment_count; leading = e.leading; lost = e.lost; news = r i }

module _ (b : Bytes) (e : Extent) (ps : List (ℕ × ℕ)) (xs : List ℕ) (k : KeptPackages ps e.package_count xs) where
  -- it cannot be read
  pub plt_unread : plt b ≡ none → PltLearnt (plt b) ps e e xs
  plt_unread h = rw h (refl, k)

  module _ (services : Services) (r : PackagesAre (plt b) services (Some tt)) where
    abbrev n : ℕ
    n = services.count

    abbrev fresh : List ℕ
    fresh = services.packages

    abbrev apart : Bool
    apart = services.unlisted

    -- what is new but for a change
    abbrev met : News
    met = also e.news (unlisted_news apart)

    abbrev known : Bool
    known = e.seen && (eqb e.package_count n && same_numbers (take n fresh) (take n xs))

    abbrev found : List (ℕ × ℕ)
    found = packages_in r.0 []

    -- what is new, by whether the packages are
    news_are : (new : Bool) (m : News) → not (e.seen && same_pairs ps found) ≡ new → m ≡ also e.news (also (change_news new) (unlisted_news apart))
        → m ≡ also e.news (plt_news (some (r.0, r.1)) e.seen ps)
    news_are new m q h = h ∙ ap₂ (λ (a b : Bool). also e.news (also (change_news a) (unlisted_news b))) (sym q) r.4

    -- they are known
    pub plt_known : known ≡ true → PltLearnt (plt b) ps e (with_news e met) xs
    plt_known h =
        let u = and_both e.seen (eqb e.package_count n && same_numbers (take n fresh) (take n xs)) h in
        let v = and_both (eqb e.package_count n) (same_numbers (take n fresh) (take n xs)) u.1 in
        let count : e.package_count ≡ n = eqb-true e.package_count n v.0 in
        let same : ps ≡ found =
        sym (pairs_in_lem k.pairs) ∙ ap (λ (m : ℕ). pairs_in m xs) count ∙ ap (map pair_of) (sym (same_true (take n fresh) (take n xs) v.1)) ∙ pairs_in_lem r.3 in
        let kept : KeptPackages found e.package_count xs = rw same at k in
        let old : not (e.seen && same_pairs ps found) ≡ false = rw (u.0, same, pairs_refl found) in
        rw r.2 (kept, extent_is (with_news e met) true (length found) _ u.0 kept.pairs.count (news_are false met old refl))

    -- the same packages would be known
    new : known ≡ false → (e.seen && same_pairs ps found) ≡ false
    new h = go (e.seen && same_pairs ps found) refl
      where
        go : (a : Bool) → (e.seen && same_pairs ps found) ≡ a → (e.seen && same_pairs ps found) ≡ false
        go false q = q
        go true q =
            let u = and_both e.seen (same_pairs ps found) q in
            let same : ps ≡ found = pairs_true ps found u.1 in
            let count : e.package_count ≡ n = k.pairs.count ∙ ap length same ∙ sym r.3.count in
            let are : fresh ≡ xs = r.3.are ∙ ap (λ (z : List (ℕ × ℕ)). slots 255 (map pack_pair z)) (sym same) ∙ sym k.pairs.are in
            let t : same_numbers (take n fresh) (take n xs) ≡ true = rw are (same_refl (take n xs)) in
            let z : known ≡ true = both_true e.seen (eqb e.package_count n && same_numbers (take n fresh) (take n xs)) u.0 (both_true (eqb e.package_count n) (same_numbers (take n fresh) (take n xs)) (eq-eqb e.package_count n count) t) in
            clash (cc (z, h))

    -- they are not
    pub plt_new : known ≡ false → PltLearnt (plt b) ps e (record { seen = true; package_count = n; map_count = e.map_count; fragment_count = e.fragment_count; leading = e.leading; lost = e.lost; news = now_changed met }) fresh
    plt_new h =
        let told : not (e.seen && same_pairs ps found) ≡ true = rw (new h) in
        rw r.2 (
          record { pairs = r.3; hold = plt_holds b r.0 r.1 r.2 },
          extent_is (record { seen = true; package_count = n; map_count = e.map_count; fragment_count = e.fragment_count; leading = e.leading; lost = e.lost; news = now_changed met }) true (length found)
              _ refl r.3.count (news_are true (now_changed met) told (met_changed e.news (unlisted_news apart))),
        )
