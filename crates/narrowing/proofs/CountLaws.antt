-- Counting entries, those that stay and those that go, by kind: what `counted_in` counts, that no count passes a bound, the loops over
-- entries and tables, whose invariants are `Counting` and `Tallying`, and one law for each return of count_table. Rests on Reading of
-- `meaning` and on ExactLaws.
use Prim.Native.Nat.{ℕ, zero, suc, ◌+◌, ◌-◌, ◌*◌, ◌≤◌, ◌<◌}
use mathlib.Core.Path.{◌≡◌, refl, sym, ap, ◌∙◌}
use mathlib.Core.Logic.{◌⊎◌, inl, inr}
use mathlib.Core.Bool.{Bool, true, false, cond, not}
use mathlib.Core.List.{List, [], ◌∷◌, ◌++◌}
use mathlib.Core.Option.{none, some, IsSome}
use native.Mathlib.Nat.{add_assoc, zero-add, add-zero}
use native.Mathlib.Omega.{arith}
use lib.ListN.{length, take, drop, get_or, set, length-set, length-map}
use borrow.Author.Tests.{not-true, not-false}
use Rattle.meaning.specs.Bytes.{Bytes}
use Rattle.meaning.specs.Lists.{keep, count}
use Rattle.meaning.specs.Readers.{Out, bind, many, raw}
use Rattle.meaning.specs.Tables.{Entry, entry, mpt_front, Mpt, mpt, Table, table, is_mpt, kind_number}
use Rattle.meaning.specs.Wishes.{wanted}
use Rattle.meaning.specs.Narrow.{is_part, by_part, stayed, went, parts_from, table_parts, tables_parts, parts_of_table, none_of_each}
use Rattle.meaning.specs.declared.Part.{Part}
use Rattle.meaning.specs.declared.Part.TheVariants.{Caption, Carousel, Other}
use Rattle.meaning.specs.declared.Options.{Options}
use Rattle.meaning.proofs.Reading.{past, u8_none, many_none, many_next}
use Rattle.octets.proofs.ByteLaws.{u8_at_lem}
use Rattle.meaning.proofs.TableLaws.{mpt_split}
use Rattle.tables.specs.Answers.{Ends, AssetIs, TableIs}
use Rattle.std.specs.Prelude.{Some}
use Rattle.tables.specs.declared.assets.Asset.{Asset}
use Rattle.tables.specs.declared.pa.Table as code
use Rattle.narrowing.specs.Tables.{body_of, Exact, tables_in}
use Rattle.tables.proofs.WalkLaws.{table_at, part_table, walk_next, walk_stops}
use Rattle.narrowing.proofs.ExactLaws.{exact_table}
use Rattle.narrowing.specs.Answers.{Rows, row_number, bumped, counted_in, no_rows, CountsBelow, parts_read}

-- ---- what is counted

-- in two goes
pub counted_both : (o : Options) (rows : Rows) (ps qs : List Part) → counted_in o rows (ps ++ qs) ≡ counted_in o (counted_in o rows ps) qs
unfolding counted_in
counted_both o rows [] qs = refl
counted_both o rows (part ∷ ps) qs = counted_both o (bumped rows (row_number o part) (kind_number part)) ps qs

-- some kinds, on top of a row
abbrev on_top : ℕ → ℕ → ℕ → List Part → List ℕ
on_top a b c ps = (a + count (is_part Caption) ps) ∷ (b + count (is_part Carousel) ps) ∷ (c + count (is_part Other) ps) ∷ []

-- of those that stay and of those that go, on top of two rows
abbrev OnBoth : Options → List Part → Type 0
OnBoth o ps = (a b c d e f : ℕ) → counted_in o ((a ∷ b ∷ c ∷ []) ∷ (d ∷ e ∷ f ∷ []) ∷ []) ps
    ≡ on_top a b c (keep (wanted o) ps) ∷ on_top d e f (keep (λ part. not (wanted o part)) ps) ∷ []

on_both : (o : Options) (ps : List Part) → OnBoth o ps
unfolding counted_in keep count is_part kind_number
on_both o [] a b c d e f = simp add-zero
on_both o (part ∷ ps) a b c d e f = go part (wanted o part) (on_both o ps)
  where
    go : (q : Part) (w : Bool) → OnBoth o ps
        → counted_in o (bumped ((a ∷ b ∷ c ∷ []) ∷ (d ∷ e ∷ f ∷ []) ∷ []) (cond w 0 1) (kind_number q)) ps
        ≡ on_top a b c (cond w (q ∷ keep (wanted o) ps) (keep (wanted o) ps))
        ∷ on_top d e f (cond (not w) (q ∷ keep (λ part. not (wanted o part)) ps) (keep (λ part. not (wanted o part)) ps)) ∷ []
    go Caption true h = h (a + 1) b c d e f ∙ simp (add_assoc, zero-add)
    go Carousel true h = h a (b + 1) c d e f ∙ simp (add_assoc, zero-add)
    go Other true h = h a b (c + 1) d e f ∙ simp (add_assoc, zero-add)
    go Caption false h = h a b c (d + 1) e f ∙ simp (add_assoc, zero-add)
    go Carousel false h = h a b c d (e + 1) f ∙ simp (add_assoc, zero-add)
    go Other false h = h a b c d e (f + 1) ∙ simp (add_assoc, zero-add)

-- from none on, those that stayed and those that went
pub counted_rows : (o : Options) (ps : List Part) → counted_in o no_rows ps ≡ stayed o ps ∷ went o ps ∷ []
unfolding stayed went by_part
counted_rows o ps = on_both o ps 0 0 0 0 0 0 ∙ simp zero-add

-- ---- no count passes a bound

-- what stands somewhere after a store was stored, or it was there
set_either : {A : Type 0} (l : List A) (i j : ℕ) (v d : A) → (get_or (set l i v) j d ≡ v) ⊎ (get_or (set l i v) j d ≡ get_or l j d)
set_either [] i j v d = inr refl
set_either (x ∷ l) zero zero v d = inl refl
set_either (x ∷ l) zero (suc j) v d = inr refl
set_either (x ∷ l) (suc i) zero v d = inr refl
set_either (x ∷ l) (suc i) (suc j) v d = set_either l i j v d

pub below_more : (rows : Rows) (n m : ℕ) → CountsBelow rows n → n ≤ m → CountsBelow rows m
below_more rows n m h l = (h.0, λ i j. omega (arith, h.1 i j))

pub below_bumped : (rows : Rows) (row kind n m : ℕ) → CountsBelow rows n → n < m → CountsBelow (bumped rows row kind) m
below_bumped rows row kind n m h l = (
  length-set rows row _ ∙ h.0,
  λ i j. elim (set_either rows row i (set (get_or rows row []) kind (get_or (get_or rows row []) kind 0 + 1)) []) [
    | inl e ↦ rw e (elim (set_either (get_or rows row []) kind j (get_or (get_or rows row []) kind 0 + 1) 0) [
      | inl q ↦ rw q (omega (arith, h.1 row kind))
      | inr q ↦ rw q (omega (arith, h.1 row j))
    ])
    | inr e ↦ rw e (omega (arith, h.1 i j))
  ],
)

pub below_counted : (o : Options) (rows : Rows) (ps : List Part) (n m : ℕ) → CountsBelow rows n → n + length ps ≤ m → CountsBelow (counted_in o rows ps) m
unfolding counted_in
below_counted o rows [] n m h l = below_more rows n m h (omega arith)
below_counted o rows (part ∷ ps) n m h l =
    below_counted o (bumped rows (row_number o part) (kind_number part)) ps (n + 1) m (below_bumped rows (row_number o part) (kind_number part) n (n + 1) h (omega arith)) (omega arith)

-- ---- the entries of an MPT

abbrev most : ℕ
most = 18446744073709551615

-- one more entry than x
next_entry : (x : Out (List Entry)) (a : Entry) → IsSome (bind x (λ as' r. some (a ∷ as', r)))
    → IsSome x × (parts_read (bind x (λ as' r. some (a ∷ as', r))) ≡ a.part ∷ parts_read x)
next_entry none a h = absurd h
next_entry (some x) a h = (tt, refl)

-- Of `count` entries at `at`, those before `from` are counted in t, and `left` are left.
pub record Counting (b : Bytes) (at count : ℕ) (o : Options) (counts t : Rows) (from left : ℕ) : Type 0 where
  pub same : counted_in o counts (parts_read (many count entry (drop at b))) ≡ counted_in o t (parts_read (many left entry (drop from b)))
  pub reads : IsSome (many left entry (drop from b))
  pub few : left ≤ most
  pub low : CountsBelow t (most - left)

module _ (b : Bytes) (at count : ℕ) (o : Options) (counts : Rows) where
  -- none counted yet
  pub start : IsSome (many count entry (drop at b)) → count ≤ most → CountsBelow counts (most - count) → Counting b at count o counts counts at count
  start s f l = record { same = refl; reads = s; few = f; low = l }

  module _ (t : Rows) (from left : ℕ) (i : Counting b at count o counts t from left) where
    -- there is room for one more
    pub room : (row kind : ℕ) → 0 < left → get_or (get_or t row []) kind 0 < most
    room row kind h = omega (arith, i.low.1 row kind, i.few)

    -- one more is counted
    pub turn : (a : Asset) → 0 < left → AssetIs b from (Some a)
        → Counting b at count o counts (bumped t (row_number o a.part) (kind_number a.part)) a.end (left - 1)
    unfolding counted_in
    turn a h l =
        let n = many_next entry (drop from b) left _ (drop a.end b) h l.2.1 in
        let x = next_entry (many (left - 1) entry (drop a.end b)) _ (rw n at i.reads) in
        record {
          same = i.same ∙ ap (λ z. counted_in o t (parts_read z)) n ∙ ap (counted_in o t) x.1;
          reads = x.0;
          few = omega (arith, i.few);
          low = below_bumped t (row_number o a.part) (kind_number a.part) (most - left) (most - (left - 1)) i.low (omega (arith, i.few));
        }

    -- each can be read
    pub broken : {X : Type 0} → 0 < left → entry (drop from b) ≡ none → X
    broken h e = absurd (rw (many_none entry (drop from b) left h e) at i.reads)

    -- none left
    pub all_counted : left ≡ 0 → t ≡ counted_in o counts (parts_read (many count entry (drop at b)))
    unfolding many counted_in
    all_counted z = sym (i.same ∙ rw z)

-- ---- a table

-- the kinds of an MPT's entries
parts_read_lem : (f : Bytes) (x : Out (List Entry)) → parts_from (bind x (λ es r. some (record { front = f; entries = es }, r))) ≡ parts_read x
parts_read_lem f none = refl
parts_read_lem f (some x) = refl

module _ (t : Bytes) (x : Exact t) (o : Options) (counts : Rows) (r : Bool) (m : r ≡ is_mpt (get_or t 0 0)) where
  -- no MPT
  pub other_table : not r ≡ true → counts ≡ counted_in o counts (parts_of_table (table t))
  unfolding counted_in table_parts
  other_table y = rw (exact_table t x, ← m, not-true r y)

  module _ (y : not r ≡ false) where
    of_mpt : (ps : List Part) → parts_from (mpt (body_of t)) ≡ ps → counted_in o counts ps ≡ counted_in o counts (parts_of_table (table t))
    unfolding table_parts
    of_mpt ps e = rw (exact_table t x, ← m, not-false r y, e)

    of_none : mpt (body_of t) ≡ none → counts ≡ counted_in o counts (parts_of_table (table t))
    unfolding counted_in
    of_none e = of_mpt [] (rw e)

    -- what stands before the count cannot be read
    pub headless : mpt_front (body_of t) ≡ none → counts ≡ counted_in o counts (parts_of_table (table t))
    unfolding mpt raw
    headless e = of_none (rw e)

    module _ (front : ℕ) (f : Ends (mpt_front (body_of t)) (body_of t) (Some front)) where
      -- nor the count
      pub uncounted : length (body_of t) ≤ front → counts ≡ counted_in o counts (parts_of_table (table t))
      unfolding mpt raw
      uncounted h = of_none (rw (f.1.1, u8_none (body_of t) front h))

      -- the entries
      pub of_entries : (n : ℕ) → front < length (body_of t) → n ≡ get_or (body_of t) front 0 → n < 256
          → counted_in o counts (parts_read (many n entry (drop (front + 1) (body_of t)))) ≡ counted_in o counts (parts_of_table (table t))
      unfolding mpt raw
      of_entries n h is small =
          of_mpt _
          (rw (f.1.1, u8_at_lem (body_of t) front (front + 1) h (rw is at small) refl, ← is, past (body_of t) front f.0)
          (parts_read_lem (take front (body_of t)) (many n entry (drop (front + 1) (body_of t)))))

      -- which cannot be read
      pub unread : (n : ℕ) → front < length (body_of t) → n ≡ get_or (body_of t) front 0 → n < 256
          → many n entry (drop (front + 1) (body_of t)) ≡ none → counts ≡ counted_in o counts (parts_of_table (table t))
      unfolding counted_in
      unread n h is small e = rw e at (of_entries n h is small)

-- ---- the tables of a PA body

parts_few : (u : Table) → length (table_parts u) < 256
unfolding table_parts
parts_few u = go (is_mpt u.number) (mpt u.body) refl
  where
    go : (a : Bool) (x : Out Mpt) → mpt u.body ≡ x → length (cond a (parts_from x) []) < 256
    go false x e = omega arith
    go true none e = omega arith
    go true (some y) e = omega (arith, length-map y.0.entries (λ e. e.part), (mpt_split u.body y.0 y.1 e).few)

none_of_each_low : (j n : ℕ) → get_or none_of_each j 0 ≤ n
none_of_each_low zero n = omega arith
none_of_each_low (suc zero) n = omega arith
none_of_each_low (suc (suc zero)) n = omega arith
none_of_each_low (suc (suc (suc j))) n = omega arith

none_low : (n i j : ℕ) → get_or (get_or no_rows i []) j 0 ≤ n
none_low n zero j = none_of_each_low j n
none_low n (suc zero) j = none_of_each_low j n
none_low n (suc (suc i)) j = omega arith

-- The tables from `tables` to `at` are counted in t. A table has four bytes at least and fewer than 256 entries.
pub record Tallying (s : Bytes) (tables : ℕ) (o : Options) (t : Rows) (at : ℕ) : Type 0 where
  pub same : counted_in o no_rows (tables_parts (tables_in (drop tables s)).found) ≡ counted_in o t (tables_parts (tables_in (drop at s)).found)
  pub low : CountsBelow t (256 * at)
  pub within : at ≤ length s

module _ (s : Bytes) (tables : ℕ) (o : Options) where
  -- none counted yet
  pub tally_start : tables ≤ length s → Tallying s tables o no_rows tables
  tally_start h = record { same = refl; low = (refl, none_low (256 * tables)); within = h }

  module _ (t : Rows) (at : ℕ) (i : Tallying s tables o t at) where
    -- there is room for a table's entries
    pub tally_room : length s ≤ 65539 → CountsBelow t (most - 256)
    tally_room h = below_more t (256 * at) (most - 256) i.low (omega (arith, i.within))

    -- one more is counted
    pub tally_turn : (e : ℕ) (r : Rows) → TableIs (table (drop at s)) s at (code.Table.To e)
        → r ≡ counted_in o t (parts_of_table (table (take (e - at) (drop at s)))) → Tallying s tables o r e
    unfolding tables_parts
    tally_turn e r h q =
        let u = table_at s at e in
        let p : r ≡ counted_in o t (table_parts u) = q ∙ rw (part_table s at e h) in
        let ts = tables_parts (tables_in (drop e s)).found in
        record {
          same = i.same ∙ ap (λ w. counted_in o t (tables_parts w.found)) (walk_next s at e h) ∙ counted_both o t (table_parts u) ts ∙ rw p;
          low = rw p (below_counted o t (table_parts u) (256 * at) (256 * e) i.low (omega (arith, parts_few u, h.0)));
          within = h.1;
        }

    -- none left
    pub tallied : table (drop at s) ≡ none → t ≡ counted_in o no_rows (tables_parts (tables_in (drop tables s)).found)
    unfolding tables_parts counted_in
    tallied e = sym (i.same ∙ rw (walk_stops s at e))
