-- The lists of assets that MPTs give, as the functions of `lists` read and write them: the assets of the entries read so far (Listing),
-- and a list at its place. Rests on MapPairLaws and on Reading, SoundnessKept and SpareLaws of `meaning`.
use Prim.Native.Nat.{ℕ, suc, max, ◌+◌, ◌-◌, ◌*◌, ◌≤◌, ◌<◌}
use mathlib.Core.Path.{◌≡◌, refl, sym, ap, ap₂, ◌∙◌}
use mathlib.Core.Bool.{Bool, true, false}
use mathlib.Core.List.{List, [], ◌∷◌, ◌++◌, append_assoc, append-nil}
use mathlib.Core.Option.{Option, none, some}
use native.Mathlib.Numerals.{add-one}
use native.Mathlib.Omega.{arith}
use lib.ListN.{length, take, drop, get_or, set, length-set}
use lib.Seq.{length-take-le, take-suc-set}
use borrow.Author.Tests.{lt-ltb, le-ltb}
use Rattle.std.specs.Prelude as code
use Rattle.std.specs.Prelude.{Some}
use Rattle.meaning.specs.Bytes.{Bytes}
use Rattle.meaning.specs.Readers.{Out, bind, give, many, raw}
use Rattle.meaning.specs.Tables.{Entry, Mpt, entry, mpt_front, mpt, kind_number}
use Rattle.meaning.specs.Learn.{Listed, asset_numbers, over, place_for, list_asset, listed}
use Rattle.meaning.specs.declared.Part.{Part}
use Rattle.meaning.proofs.ListLaws.{clash}
use Rattle.meaning.proofs.SpareLaws.{numbers_length}
use Rattle.meaning.proofs.TableLaws.{mpt_split}
use Rattle.meaning.proofs.Reading.{past, u8_none, many_none, many_next, behind, behind_nothing, behind_one}
use Rattle.octets.proofs.ByteLaws.{u8_at_lem}
use Rattle.tables.specs.Answers.{Ends, AssetIs, in_code}
use Rattle.tables.specs.declared.assets.Asset.{Asset}
use Rattle.learning.specs.News.{also, change_news, kinds_in, count_at, same_list, list_new, list_news}
use Rattle.learning.specs.Learnt.{with_news, numbers_of, AssetsAre, mpt_held, with_kinds, HeadsAre, lost_one, ListLearnt, MptLearnt}
use Rattle.learning.specs.Kept.{pairs_in, KeptMaps}
use Rattle.learning.specs.declared.Extent.{Extent}
use Rattle.learning.specs.declared.News.{News}
use Rattle.learning.specs.declared.lists.Assets.{Assets}
use Rattle.learning.proofs.AlsoLaws.{now_changed, met_changed}
use Rattle.learning.proofs.KindLaws.{met_all, Met, met_end, met_these}
use Rattle.learning.proofs.PairLaws.{pairs_in_lem}
use Rattle.learning.proofs.MapPairLaws.{maps_after}

-- ---- the numbers of assets

-- two numbers more
pub two_more : (xs : List ℕ) (i j a b : ℕ) → i + 1 < length xs → j ≡ i + 2 → take j (set (set xs i a) (i + 1) b) ≡ take i xs ++ a ∷ b ∷ []
two_more xs i j a b h q =
    let e : j ≡ suc (suc i) = omega arith in
    let k : suc i < length (set xs i a) = simp length-set (omega arith) in
    let l : i < length xs = omega arith in
    rw (e, add-one i, take-suc-set (set xs i a) (suc i) b k, take-suc-set xs i a l) (append_assoc (take i xs) (a ∷ []) (b ∷ []))

numbers_append : (xs ys : Listed) → asset_numbers (xs ++ ys) ≡ asset_numbers xs ++ asset_numbers ys
unfolding asset_numbers
numbers_append [] ys = refl
numbers_append (x ∷ xs) ys = ap (λ (l : List ℕ). x.0 ∷ kind_number x.1 ∷ l) (numbers_append xs ys)

listed_append : (xs ys : List Entry) → listed (xs ++ ys) ≡ listed xs ++ listed ys
unfolding listed
listed_append [] ys = refl
listed_append (x ∷ xs) ys = go x.carrier (listed_append xs ys)
  where
    go : (o : Option ℕ) → listed (xs ++ ys) ≡ listed xs ++ listed ys → list_asset o x.part (listed (xs ++ ys)) ≡ list_asset o x.part (listed xs) ++ listed ys
    go none ih = ih
    go (some p) ih = ap (λ (l : Listed). (p, x.part) ∷ l) ih

numbers_one : (o : Option ℕ) (part : Part) → asset_numbers (list_asset o part []) ≡ numbers_of (in_code o) part
unfolding asset_numbers
numbers_one none part = refl
numbers_one (some p) part = refl

numbers_next : (pre : List Entry) (e : Entry) → asset_numbers (listed (pre ++ e ∷ [])) ≡ asset_numbers (listed pre) ++ numbers_of (in_code e.carrier) e.part
unfolding listed
numbers_next pre e =
    ap asset_numbers (listed_append pre (e ∷ [])) ∙ numbers_append (listed pre) (listed (e ∷ []))
    ∙ ap (λ (l : List ℕ). asset_numbers (listed pre) ++ l) (numbers_one e.carrier e.part)

-- ---- the entries of an MPT's body

-- Of `count` entries at `at` some were read, up to `from`, and `left` are left; `fresh` starts with the numbers of the n listed ones.
pub record Listing (b : Bytes) (at count : ℕ) (fresh : List ℕ) (from left n : ℕ) : Type 0 where
  pub pre : List Entry
  pub reads : many count entry (drop at b) ≡ behind pre (many left entry (drop from b))
  pub numbers : take (2 * n) fresh ≡ asset_numbers (listed pre)
  pub few : n + left ≤ 255

module _ (b : Bytes) (at count : ℕ) where
  pub list_start : (fresh : List ℕ) (n : ℕ) → n ≡ 0 → count < 256 → Listing b at count fresh at count n
  unfolding asset_numbers listed
  list_start fresh n z h = record { pre = []; reads = behind_nothing (many count entry (drop at b)); numbers = rw z refl; few = omega (arith, z) }

  module _ (fresh : List ℕ) (from left n : ℕ) (i : Listing b at count fresh from left n) where
    pub list_next : (q : Asset) (fresh' : List ℕ) (r : ℕ) → 0 < left → AssetIs b from (Some q)
        → take (2 * r) fresh' ≡ take (2 * n) fresh ++ numbers_of q.carrier q.part → r ≤ n + 1 → Listing b at count fresh' q.end (left - 1) r
    list_next q fresh' r h a t few =
        let x : Entry = record { part = q.part; carrier = a.2.0; bytes_of = take (q.end - from) (drop from b) } in
        record {
          pre = i.pre ++ x ∷ [];
          reads = i.reads ∙ rw (many_next entry (drop from b) left x (drop q.end b) h a.2.1) (behind_one i.pre x (many (left - 1) entry (drop q.end b)));
          numbers = t ∙ ap₂ (λ (l : List ℕ) (k : code.Option ℕ). l ++ numbers_of k q.part) i.numbers a.2.2 ∙ sym (numbers_next i.pre x);
          few = omega (arith, i.few);
        }

    -- one that cannot be read
    pub list_cut : 0 < left → entry (drop from b) ≡ none → many count entry (drop at b) ≡ none
    list_cut h q = i.reads ∙ rw (many_none entry (drop from b) left h q)

    pub list_all : left ≡ 0 → many count entry (drop at b) ≡ some (i.pre, drop from b)
    unfolding many
    list_all z = i.reads ∙ rw (z, append-nil i.pre)

    list_count : length fresh ≡ 510 → n ≡ length (listed i.pre)
    list_count all =
        let k : length (take (2 * n) fresh) ≡ 2 * n = length-take-le (2 * n) fresh (omega (arith, i.few)) in
        omega (arith, k, ap length i.numbers, numbers_length (listed i.pre))

module _ (b : Bytes) where
  pub front_none : mpt_front b ≡ none → mpt b ≡ none
  unfolding mpt raw
  front_none q = rw q

  -- its count is at h
  module _ (h : ℕ) (f : Ends (mpt_front b) b (Some h)) where
    pub count_none : length b ≤ h → mpt b ≡ none
    unfolding mpt raw
    count_none k = rw (f.1.1, u8_none b h k)

    module _ (k : h < length b) (n : ℕ) (is : n ≡ get_or b h 0) (low : n < 256) where
      pub mpt_many : mpt b ≡ bind (many n entry (drop (h + 1) b)) (λ es. give (record { front = take h b; entries = es }))
      unfolding mpt raw
      mpt_many = rw (f.1.1, u8_at_lem b h (h + 1) k (omega arith) refl, past b h f.0, is)

      pub entries_none : (fresh : List ℕ) (from left m : ℕ) → Listing b (h + 1) n fresh from left m → 0 < left → entry (drop from b) ≡ none → mpt b ≡ none
      entries_none fresh from left m i l q = rw (mpt_many, list_cut b (h + 1) n fresh from left m i l q)

      pub assets_are : (fresh : List ℕ) → length fresh ≡ 510 → (from left m : ℕ) → Listing b (h + 1) n fresh from left m → left ≡ 0
          → (known news : News) → Met b (h + 1) n known from left news → AssetsAre (mpt b) known (record { numbers = fresh; count = m; news = news }) (Some tt)
      assets_are fresh l from left m i z known news j =
          let all = list_all b (h + 1) n fresh from left m i z in (
            omega (arith, i.few),
            (
              record { front = take h b; entries = i.pre },
              drop from b,
              rw (mpt_many, all),
              list_count b (h + 1) n fresh from left m i l,
              i.numbers,
              met_these b (h + 1) n known from left news j z i.pre (drop from b) all,
            ),
          )

      -- the kinds of its entries, all met
      pub met_mpt : (known : News) (from left : ℕ) (news : News) → Met b (h + 1) n known from left news → left ≡ 0 → news ≡ with_kinds known (mpt b)
      met_mpt known from left news i z = go (many n entry (drop (h + 1) b)) refl (met_end b (h + 1) n known from left news i z)
        where
          go : (o : Out (List Entry)) → many n entry (drop (h + 1) b) ≡ o → met_all known (many n entry (drop (h + 1) b)) ≡ some news → news ≡ with_kinds known (mpt b)
          go none e q = clash (cc (q, e))
          go (some (es, rest)) e q = rw (mpt_many, e) (met_these b (h + 1) n known from left news i z es rest e)

-- ---- an MPT's list at its place

-- an extent with another count of maps, and other news
abbrev after : Extent → ℕ → News → Extent
after e m n = record { seen = e.seen; package_count = e.package_count; map_count = m; fragment_count = e.fragment_count; leading = e.leading; lost = e.lost; news = n }

-- written there
kept_list : (p : ℕ) (es : List Entry) (fresh : List ℕ) (e : Extent) (map_heads map_room : List ℕ) (ms : List (ℕ × ℕ)) → length es < 256 → place_for p ms < 64 → KeptMaps ms e.map_count map_heads
    → take (2 * length (listed es)) fresh ≡ asset_numbers (listed es) → same_list (count_at (place_for p ms) ms) (listed es) (drop (512 * place_for p ms) map_room) ≡ false
    → (r : Extent) (map_heads' map_room' : List ℕ)
    → HeadsAre (place_for p ms) p (length (listed es)) fresh (with_news e (also e.news (kinds_in es))) map_heads map_room r map_heads' map_room' → ListLearnt true p es ms e map_room r map_heads' map_room'
unfolding list_new
kept_list p es fresh e map_heads map_room ms l h k t other r map_heads' map_room' x =
    let i : ℕ = place_for p ms in
    let m : r.map_count ≡ max e.map_count (i + 1) = ap (λ (z : Extent). z.map_count) x.extent_is in
    let told : true ≡ list_new p (listed es) ms map_room = rw (lt-ltb i 64 h, other) in
    let new : now_changed (also e.news (kinds_in es)) ≡ also e.news (list_news p es ms map_room) =
    met_changed e.news (kinds_in es) ∙ ap (λ (a : Bool). also e.news (also (change_news a) (kinds_in es))) told in
    (rw (m, x.map_heads_are) (maps_after p es ms e.map_count map_heads l h k), x.map_room_is ∙ ap (over map_room (512 * i)) t, x.extent_is ∙ ap₂ (after e) (sym m) new)

module _ (p i : ℕ) (e : Extent) (map_heads map_room : List ℕ) (at : i ≡ place_for p (pairs_in e.map_count map_heads))
    (ms : List (ℕ × ℕ)) (k : KeptMaps ms e.map_count map_heads) where
  place : i ≡ place_for p ms
  place = at ∙ ap (place_for p) (pairs_in_lem k.pairs)

  -- the list that is held at its place
  pub held_is : (o : Out Mpt) → mpt_held o (count_at i (pairs_in e.map_count map_heads)) (drop (512 * i) map_room) ≡ mpt_held o (count_at (place_for p ms) ms) (drop (512 * place_for p ms) map_room)
  held_is o = rw (place, pairs_in_lem k.pairs)

  module _ (b : Bytes) (r : Assets) (a : AssetsAre (mpt b) e.news r (Some tt)) where
    abbrev fresh : List ℕ
    fresh = r.numbers

    pub list_lost : 64 ≤ i → MptLearnt p (mpt b) ms e map_room (lost_one (with_news e r.news)) map_heads map_room
    list_lost h = rw (a.1.2, ← place, le-ltb i 64 h) (k, refl, ap (λ (z : News). lost_one (with_news e z)) a.1.5)

    pub list_kept : i < 64 → mpt_held (mpt b) (count_at i (pairs_in e.map_count map_heads)) (drop (512 * i) map_room) ≡ false
        → (e' : Extent) (map_heads' map_room' : List ℕ) → HeadsAre i p r.count fresh (with_news e r.news) map_heads map_room e' map_heads' map_room'
        → MptLearnt p (mpt b) ms e map_room e' map_heads' map_room'
    list_kept h other e' map_heads' map_room' x =
        let g : place_for p ms < 64 = omega (arith, place) in
        let few = (mpt_split b a.1.0 a.1.1 a.1.2).few in
        let new = rw a.1.2 at (sym (held_is (mpt b)) ∙ other) in
        rw (a.1.2, lt-ltb (place_for p ms) 64 g)
        (kept_list p a.1.0.entries fresh e map_heads map_room ms few g k (rw a.1.3 at a.1.4) new e' map_heads' map_room' (rw (place, a.1.3, a.1.5) at x))
