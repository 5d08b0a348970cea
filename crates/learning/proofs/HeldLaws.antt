-- An MPT whose list is held: gone through asset by asset beside the list (Holding), at the count that its place has, and nothing
-- changes by it. Rests on MapLaws and on PairLaws.
use Prim.Native.Nat.{ℕ, zero, suc, ◌+◌, ◌-◌, ◌*◌, ◌/◌, ◌%◌, ◌≤◌, ◌<◌}
use mathlib.Core.Path.{◌≡◌, refl, sym, ap, ap₂, ◌∙◌}
use mathlib.Core.Bool.{Bool, true, false, cond, ◌&&◌}
use mathlib.Core.List.{List, [], ◌∷◌, ◌++◌}
use mathlib.Core.Option.{Option, none, some, some-injective}
use native.Mathlib.Omega.{arith}
use lib.ListN.{length, take, drop, get_or, length-drop, take-append-drop}
use lib.Seq.{drop-cons, drop-drop, take-take}
use lib.Dec.{eqb, eqb-suc-suc}
use borrow.Author.Tests.{eqb-true, eq-eqb, ne_eqb, lt-ltb}
use Rattle.std.specs.Prelude as code
use Rattle.std.proofs.lemmas.List.{take_all}
use Rattle.std.specs.Prelude.{Some, None}
use Rattle.meaning.specs.Bytes.{Bytes}
use Rattle.meaning.specs.Readers.{Out, bind, give, many}
use Rattle.meaning.specs.Tables.{Entry, Mpt, entry, mpt_front, mpt, kind_number}
use Rattle.meaning.specs.Learn.{Listed, asset_numbers, over, place_for, listed}
use Rattle.meaning.specs.Record.{pair_of}
use Rattle.meaning.proofs.ListLaws.{clash, and_both, and_true, and_false}
use Rattle.meaning.proofs.SoundnessKept.{put_head, put_is}
use Rattle.meaning.proofs.SpareLaws.{numbers_length}
use Rattle.meaning.proofs.Reading.{many_none, many_next}
use Rattle.tables.specs.Answers.{Ends, AssetIs, in_code}
use Rattle.tables.specs.declared.assets.Asset.{Asset}
use Rattle.learning.specs.Kept.{pairs_in, KeptMaps}
use Rattle.learning.specs.News.{same_numbers, count_at, same_list, list_new}
use Rattle.learning.specs.Learnt.{with_news, mpt_held, with_kinds, HeldIs, MptLearnt}
use Rattle.learning.specs.declared.Extent.{Extent}
use Rattle.learning.specs.declared.News.{News}
use Rattle.learning.proofs.PairLaws.{same_true, pairs_in_lem, pairs_length, count_small}
use Rattle.learning.proofs.MapLaws.{mpt_many, held_is}

-- ---- a list written over itself

-- its numbers
over_same : (map_room ns : List ℕ) (at : ℕ) → take (length ns) (drop at map_room) ≡ ns → over map_room at ns ≡ map_room
unfolding over
over_same map_room ns at e =
    ap (λ (z : List ℕ). take at map_room ++ z)
    (ap₂ (λ (x y : List ℕ). x ++ y) (sym e) (sym (drop-drop (length ns) at map_room)) ∙ take-append-drop (length ns) (drop at map_room))
    ∙ take-append-drop at map_room

-- its head
head_there : (p n : ℕ) (ms : List (ℕ × ℕ)) → count_at (place_for p ms) ms ≡ some n → put_head p n ms ≡ ms
unfolding place_for count_at put_head
head_there p n [] e = clash (cc)
head_there p n (m ∷ ms) e = go (eqb m.0 p) refl e (head_there p n ms)
  where
    go : (a : Bool) → eqb m.0 p ≡ a → count_at (cond a 0 (suc (place_for p ms))) (m ∷ ms) ≡ some n → (count_at (place_for p ms) ms ≡ some n → put_head p n ms ≡ ms)
        → cond a ((p, n) ∷ ms) (m ∷ put_head p n ms) ≡ m ∷ ms
    go true ea e ih = ap₂ (λ (x y : ℕ). (x, y) ∷ ms) (sym (eqb-true _ _ ea)) (sym (some-injective _ _ e))
    go false ea e ih = ap (λ (l : List (ℕ × ℕ)). m ∷ l) (ih e)

module _ (p : ℕ) (as' : Listed) (ms : List (ℕ × ℕ)) (map_room : List ℕ) where
  abbrev at : ℕ
  at = place_for p ms

  pub list_there : same_list (count_at at ms) as' (drop (512 * at) map_room) ≡ true
      → (take at ms ++ ((p, length as') ∷ drop (suc at) ms) ≡ ms) × (over map_room (512 * at) (asset_numbers as') ≡ map_room)
  list_there = go (count_at at ms) refl
    where
      go : (o : Option ℕ) → count_at at ms ≡ o → same_list o as' (drop (512 * at) map_room) ≡ true
          → (take at ms ++ ((p, length as') ∷ drop (suc at) ms) ≡ ms) × (over map_room (512 * at) (asset_numbers as') ≡ map_room)
      go none e h = clash (cc)
      go (some n) e h =
          let b = and_both (eqb n (length as')) (same_numbers (take (2 * length as') (drop (512 * at) map_room)) (asset_numbers as')) h in (
            put_is p (length as') ms ∙ head_there p (length as') ms (e ∙ ap some (eqb-true n (length as') b.0)),
            over_same map_room (asset_numbers as') (512 * at)
                (ap (λ (c : ℕ). take c (drop (512 * at) map_room)) (numbers_length as') ∙ same_true (take (2 * length as') (drop (512 * at) map_room)) (asset_numbers as') b.1),
          )

-- ---- the assets of the entries beside a list

-- whether the entries that are read give the list of n assets at the front of these numbers
abbrev entries_held : Out (List Entry) → ℕ → List ℕ → Bool
entries_held none n ns = false
entries_held (some (es, more)) n ns = same_list (some n) (listed es) ns

and_moved : (w x y z : Bool) → (w && (x && (y && z))) ≡ ((x && y) && (w && z))
and_moved w true true z = refl
and_moved true true false z = refl
and_moved false true false z = refl
and_moved true false y z = refl
and_moved false false y z = refl

-- with one entry before them
module _ (x : Entry) where
  abbrev one : Out (List Entry) → Out (List Entry)
  one o = bind o (λ es t. some (x ∷ es, t))

  -- that is not listed
  entry_past : (o : Out (List Entry)) (n : ℕ) (ns : List ℕ) → x.carrier ≡ none → entries_held (one o) n ns ≡ entries_held o n ns
  unfolding listed
  entry_past none n ns q = refl
  entry_past (some (es, more)) n ns q = rw q

  module _ (p : ℕ) (q : x.carrier ≡ some p) where
    -- where no number is left
    entry_more : (o : Out (List Entry)) (n : ℕ) (ns : List ℕ) → n ≡ 0 → entries_held (one o) n ns ≡ false
    unfolding listed
    entry_more none n ns z = refl
    entry_more (some (es, more)) n ns z = rw (q, ne_eqb n (suc (length (listed es))) (omega arith))

    -- beside two numbers
    entry_beside : (o : Out (List Entry)) (n a c : ℕ) (ns : List ℕ)
        → entries_held (one o) (suc n) (a ∷ c ∷ ns) ≡ ((eqb a p && eqb c (kind_number x.part)) && entries_held o n ns)
    unfolding listed same_numbers asset_numbers
    entry_beside none n a c ns = sym (and_false (eqb a p && eqb c (kind_number x.part)))
    entry_beside (some (es, more)) n a c ns =
        let l : ℕ = length (listed es) in
        let e : 2 * suc l ≡ suc (suc (2 * l)) = omega arith in
        rw (q, e, eqb-suc-suc n l) (and_moved (eqb n l) (eqb a p) (eqb c (kind_number x.part)) (same_numbers (take (2 * l) ns) (asset_numbers (listed es))))

-- the identifier of an entry as the code has it
carrier_none : (q : Option ℕ) → None ≡ in_code q → q ≡ none
carrier_none none e = refl
carrier_none (some p) e = clash (cc)

carrier_some : (q : Option ℕ) (p : ℕ) → Some p ≡ in_code q → q ≡ some p
carrier_some none p e = clash (cc)
carrier_some (some q) p e = cc

-- Whether an MPT gives the list that is held is whether its `left` entries from `from` on give what is left of that: these numbers, two for
-- each asset.
pub record Holding (held : Bool) (b : Bytes) (from left : ℕ) (rest : List ℕ) : Type 0 where
  pub same : held ≡ entries_held (many left entry (drop from b)) (length rest / 2) rest
  pub two_each : length rest % 2 ≡ 0

-- what is read of a body gives what its entries give
body_held : (o : Out (List Entry)) (front : Bytes) (n : ℕ) (ns : List ℕ)
    → mpt_held (bind o (λ es. give (record { front = front; entries = es }))) (some n) ns ≡ entries_held o n ns
body_held none front n ns = refl
body_held (some x) front n ns = refl

-- the count of entries is at h
pub hold_start : (b : Bytes) (h : ℕ) → Ends (mpt_front b) b (Some h) → h < length b → (left : ℕ) → left ≡ get_or b h 0 → left < 256
    → (list : List ℕ) → length list % 2 ≡ 0 → Holding (mpt_held (mpt b) (some (length list / 2)) list) b (h + 1) left list
hold_start b h f k left is low list two =
    record { same = rw (mpt_many b h f k left is low) (body_held (many left entry (drop (h + 1) b)) (take h b) (length list / 2) list); two_each = two }

module _ (held : Bool) (b : Bytes) (from left : ℕ) (rest : List ℕ) (i : Holding held b from left rest) where
  abbrev assets : ℕ
  assets = length rest / 2

  -- an entry that cannot be read
  pub hold_cut : 0 < left → entry (drop from b) ≡ none → held ≡ false
  hold_cut h q = i.same ∙ rw (many_none entry (drop from b) left h q)

  hold_end : left ≡ 0 → held ≡ eqb assets 0
  unfolding many same_numbers listed asset_numbers
  hold_end z = i.same ∙ rw z (and_true (eqb assets 0))

  -- all are given, or one is left
  pub hold_all : left ≡ 0 → length rest ≡ 0 → held ≡ true
  hold_all z none_left = hold_end z ∙ eq-eqb assets 0 (omega arith)

  pub hold_less : left ≡ 0 → (length rest ≡ 0 → ⊥) → held ≡ false
  hold_less z some_left = hold_end z ∙ ne_eqb assets 0 (λ (q : assets ≡ 0). absurd (omega (arith, i.two_each)))

  module _ (r : Asset) (a : AssetIs b from (Some r)) (h : 0 < left) where
    abbrev found : Entry
    found = record { part = r.part; carrier = a.2.0; bytes_of = take (r.end - from) (drop from b) }

    abbrev further : Out (List Entry)
    further = many (left - 1) entry (drop r.end b)

    next : held ≡ entries_held (one found further) assets rest
    next = i.same ∙ rw (many_next entry (drop from b) left found (drop r.end b) h a.2.1)

    -- one that is not listed
    pub hold_past : r.carrier ≡ None → Holding held b r.end (left - 1) rest
    hold_past q = record { same = next ∙ entry_past found further assets rest (carrier_none a.2.0 (sym q ∙ a.2.2)); two_each = i.two_each }

    module _ (p : ℕ) (q : r.carrier ≡ Some p) where
      carried : a.2.0 ≡ some p
      carried = carrier_some a.2.0 p (sym q ∙ a.2.2)

      -- one more than the list has
      pub hold_more : length rest < 2 → held ≡ false
      hold_more z = next ∙ entry_more found p carried further assets rest (omega (arith, i.two_each))

      module _ (some_left : 2 ≤ length rest) where
        abbrev asset_same : Bool
        asset_same = eqb (get_or rest 0 0) p && eqb (get_or rest 1 0) (kind_number r.part)

        beside : held ≡ (asset_same && entries_held further (length (drop 2 rest) / 2) (drop 2 rest))
        beside =
            let x : 0 < length rest = omega arith in
            let y : 1 < length rest = omega arith in
            let two : rest ≡ get_or rest 0 0 ∷ get_or rest 1 0 ∷ drop 2 rest =
            drop-cons rest 0 0 x ∙ ap (λ (l : List ℕ). get_or rest 0 0 ∷ l) (drop-cons rest 1 0 y) in
            let m : assets ≡ suc (length (drop 2 rest) / 2) = omega (arith, length-drop 2 rest) in
            next ∙ ap₂ (entries_held (one found further)) m two
            ∙ entry_beside found p carried further (length (drop 2 rest) / 2) (get_or rest 0 0) (get_or rest 1 0) (drop 2 rest)

        pub hold_other : asset_same ≡ false → held ≡ false
        hold_other e = beside ∙ rw e

        pub hold_next : asset_same ≡ true → Holding held b r.end (left - 1) (take (length rest - 2) (drop 2 rest))
        hold_next e =
            let l : length (drop 2 rest) ≤ length rest - 2 = omega (arith, length-drop 2 rest) in
            rw (take_all (length rest - 2) (drop 2 rest) l) (record { same = beside ∙ rw e; two_each = omega (arith, length-drop 2 rest, i.two_each) })

-- a list is given by its numbers, whatever stands behind them
front_list : (n : ℕ) (as' : Listed) (ns : List ℕ) → same_list (some n) as' (take (2 * n) ns) ≡ same_list (some n) as' ns
front_list n as' ns = go (eqb n (length as')) refl
  where
    all : ℕ → List ℕ → Bool
    all m ms = same_numbers (take (2 * m) ms) (asset_numbers as')

    go : (a : Bool) → eqb n (length as') ≡ a → (a && all (length as') (take (2 * n) ns)) ≡ (a && all (length as') ns)
    go false e = refl
    go true e =
        let m : n ≡ length as' = eqb-true n (length as') e in
        let l : 2 * length as' ≤ 2 * n = omega arith in
        rw (take-take (2 * length as') (2 * n) ns l)

pub front_held : (o : Out Mpt) (n : ℕ) (ns list : List ℕ) (known : News) (r : code.Option News) → list ≡ take (2 * n) ns → length list ≡ 2 * n
    → HeldIs o (some (length list / 2)) list known r → HeldIs o (some n) ns known r
front_held o n ns list known r e l = go r
  where
    same : mpt_held o (some n) ns ≡ mpt_held o (some (length list / 2)) list
    same = let m : length list / 2 ≡ n = omega arith in rw (m, e) (at o)
      where
        at : (x : Out Mpt) → mpt_held x (some n) ns ≡ mpt_held x (some n) (take (2 * n) ns)
        at none = refl
        at (some (m, more)) = sym (front_list n (listed m.entries) ns)

    go : (x : code.Option News) → HeldIs o (some (length list / 2)) list known x → HeldIs o (some n) ns known x
    go (Some news) h = (same ∙ h.0, h.1)
    go None h = same ∙ h

-- ---- the count at a place

pub count_past : (n i : ℕ) (xs : List ℕ) → n ≤ i → count_at i (pairs_in n xs) ≡ none
unfolding count_at
count_past zero i xs h = refl
count_past (suc n) i [] h = refl
count_past (suc n) zero (x ∷ xs) h = absurd (omega arith)
count_past (suc n) (suc i) (x ∷ xs) h = count_past n i xs (omega arith)

count_in : (n i : ℕ) (xs : List ℕ) → i < n → n ≤ length xs → count_at i (pairs_in n xs) ≡ some (get_or xs i 0 % 65536)
unfolding count_at pair_of
count_in zero i xs h l = absurd (omega arith)
count_in (suc n) i [] h l = absurd (omega arith)
count_in (suc n) zero (x ∷ xs) h l = refl
count_in (suc n) (suc i) (x ∷ xs) h l = count_in n i xs (omega arith) (omega arith)

-- the count of one that is held
pub count_kept : {ms : List (ℕ × ℕ)} {n : ℕ} {xs : List ℕ} → KeptMaps ms n xs → (i : ℕ) → i < n
    → (get_or xs i 0 % 65536 < 256) × (i < 64) × (count_at i (pairs_in n xs) ≡ some (get_or xs i 0 % 65536))
count_kept {ms} {n} {xs} k i h =
    let l : n ≤ length xs = omega (arith, k.pairs.count, k.pairs.few, pairs_length k.pairs) in
    (count_small n i xs (rw (pairs_in_lem k.pairs) k.hold.small) h l, omega (arith, k.pairs.count, k.pairs.few), count_in n i xs h l)

pub held_none : (o : Out Mpt) (ns : List ℕ) → mpt_held o none ns ≡ false
held_none none ns = refl
held_none (some x) ns = refl

-- where a list is held there is a place
held_within : (i : ℕ) (ms : List (ℕ × ℕ)) (as' : Listed) (ns : List ℕ) → same_list (count_at i ms) as' ns ≡ true → i < length ms
unfolding count_at
held_within i [] as' ns h = clash (cc)
held_within zero (m ∷ ms) as' ns h = omega arith
held_within (suc i) (m ∷ ms) as' ns h = let k : i < length ms = held_within i ms as' ns h in omega arith

-- ---- an MPT that says what is held

module _ (p i : ℕ) (e : Extent) (map_heads map_room : List ℕ) (at : i ≡ place_for p (pairs_in e.map_count map_heads))
    (ms : List (ℕ × ℕ)) (k : KeptMaps ms e.map_count map_heads) where
  pub list_held : (b : Bytes) (news : News) → HeldIs (mpt b) (count_at i (pairs_in e.map_count map_heads)) (drop (512 * i) map_room) e.news (Some news)
      → MptLearnt p (mpt b) ms e map_room (with_news e news) map_heads map_room
  unfolding list_new
  list_held b news h = go (mpt b) (sym (held_is p i e map_heads map_room at ms k (mpt b)) ∙ h.0) h.1
    where
      go : (o : Out Mpt) → mpt_held o (count_at (place_for p ms) ms) (drop (512 * place_for p ms) map_room) ≡ true → news ≡ with_kinds e.news o
          → MptLearnt p o ms e map_room (with_news e news) map_heads map_room
      go none z q = clash (cc)
      go (some (m, more)) z q =
          let t = list_there p (listed m.entries) ms map_room z in
          let l : place_for p ms < 64 = omega (arith, held_within (place_for p ms) ms (listed m.entries) (drop (512 * place_for p ms) map_room) z, k.pairs.few) in
          rw (lt-ltb (place_for p ms) 64 l) (rw t.0 k, sym t.1, rw (lt-ltb (place_for p ms) 64 l, z) (ap (with_news e) q))
