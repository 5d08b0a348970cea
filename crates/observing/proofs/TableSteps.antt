-- The tables of a PA body one after the other, as `learn_pa` meets them. Rests on FoldLaws and on the walk's laws of `tables`.
use Prim.Native.Nat.{ℕ, ◌+◌, ◌-◌, ◌≤◌}
use mathlib.Core.Path.{◌≡◌, refl, ap, ◌∙◌}
use mathlib.Core.Bool.{Bool, true, false, cond, ◌&&◌}
use mathlib.Core.List.{List, []}
use mathlib.Core.Option.{none, some}
use native.Mathlib.Nat.{add-zero}
use native.Mathlib.Omega.{arith}
use lib.ListN.{length, take, drop, get_or, length-take, length-drop}
use lib.Seq.{length-take-le, get_or-take, get_or-drop, take-add, take_all, drop_at, drop-drop}
use lib.Dec.{ltb, eqb}
use Rattle.meaning.specs.Bytes.{Bytes}
use Rattle.meaning.specs.Readers.{Out, raw, walk}
use Rattle.meaning.specs.Tables.{Mpt, mpt, Table, table, is_plt, is_mpt, pa_head, pa}
use Rattle.meaning.specs.Learn.{Known, learnt, listed, place_for, with_list, mpt_from, learn_mpt, learn_plt, learn_table, learn_tables, pa_tables}
use Rattle.std.specs.Prelude.{Some}
use Rattle.tables.specs.Answers.{TableIs, PaHeadIs}
use Rattle.tables.specs.declared.pa.Table as code
use Rattle.tables.specs.declared.pa.Table.TheVariants.{To}
use Rattle.tables.proofs.WalkLaws.{table_at, walk_next, walk_stops}
use Rattle.learning.specs.declared.Extent.{Extent}
use Rattle.learning.specs.declared.Kept.{Kept}
use Rattle.observing.specs.News.{news_table, news_tables}
use Rattle.observing.specs.Steps.{KeepsIn, KeepsSome, After, Learns, table_in}
use Rattle.observing.proofs.StepLaws.{after_none}
use Rattle.observing.proofs.FoldLaws.{Folds, LearntTo, to_begin, to_next, to_done}

-- ---- one table

pub table_lost : (q : ℕ) (t : Table) (k : Known) → (learn_table q t k).lost ≤ 1
unfolding learn_table learn_mpt
table_lost q t k = go (is_plt t.number && eqb q 0) (is_mpt t.number)
  where
    mpt_lost : (x : Out Mpt) → (mpt_from q x k).lost ≤ 1
    mpt_lost none = omega arith
    mpt_lost (some (m, more)) = on (ltb (place_for q k.map_heads) 64)
      where
        on : (a : Bool) → (cond a (learnt (with_list q (listed m.entries) k (place_for q k.map_heads))) (record { known = k; lost = 1 })).lost ≤ 1
        on true = omega arith
        on false = omega arith

    go : (a b : Bool) → (cond a (learnt (learn_plt t.body k)) (cond b (mpt_from q (mpt t.body) k) (learnt k))).lost ≤ 1
    go true b = omega arith
    go false true = mpt_lost (mpt t.body)
    go false false = omega arith

pub tables_fold : (q : ℕ) → Folds {A = Table × Bytes} (λ t. learn_table q t.0) (λ t. news_table q t.0) (learn_tables q) (news_tables q)
unfolding learn_tables news_tables
tables_fold q = record { nil = λ k. refl; cons = λ a as' k. refl; no_news_lem = λ k. refl; more_news = λ a as' k. refl }

drop_four : (n : ℕ) (l : Bytes) → 4 ≤ n → n ≤ length l → drop 4 (take n l) ≡ take (n - 4) (drop 4 l)
drop_four n l h k =
    let e : n ≡ 4 + (n - 4) = omega arith in
    ap (λ (j : ℕ). drop 4 (take j l)) e ∙ ap (drop 4) (take-add 4 (n - 4) l) ∙ drop_at (take 4 l) (take (n - 4) (drop 4 l)) 4 (length-take-le 4 l (omega arith))

module _ (s : Bytes) (at e : ℕ) (h : TableIs (table (drop at s)) s at (To e)) where
  -- the table of its own bytes
  pub table_in_lem : table_in (take (e - at) (drop at s)) ≡ table_at s at e
  table_in_lem =
      let r = drop at s in
      let n : e - at ≤ length r = omega (arith, length-drop at s, h.0, h.1) in
      let f : 4 ≤ e - at = omega (arith, h.0) in
      let l : length (take (e - at) r) ≡ e - at = length-take-le (e - at) r n in
      let d = drop_four (e - at) r f n in
      let b : take (length (take (e - at) r) - 4) (drop 4 (take (e - at) r)) ≡ take (e - at - 4) (drop (at + 4) s) =
      ap (λ (z : Bytes). take (length (take (e - at) r) - 4) z) d
      ∙ ap (λ (j : ℕ). take (j - 4) (take (e - at - 4) (drop 4 r))) l
      ∙ take_all (e - at - 4) (take (e - at - 4) (drop 4 r)) (omega (arith, length-take (e - at - 4) (drop 4 r)))
      ∙ ap (take (e - at - 4)) (drop-drop 4 at s) in
      λ i. record {
        number = (get_or-take (e - at) r 0 0 (omega (arith, f)) ∙ get_or-drop at s 0 0 ∙ ap (λ (j : ℕ). get_or s j 0) (add-zero at)) i;
        version = (get_or-take (e - at) r 1 0 (omega (arith, f)) ∙ get_or-drop at s 1 0) i;
        body = b i;
      }

-- no table stands where the code finds none
pub no_table : (s : Bytes) (at : ℕ) (r : code.Table) → ((e : ℕ) → r ≡ To e → ⊥) → TableIs (table (drop at s)) s at r → table (drop at s) ≡ none
no_table s at (code.Table.To e) k h = absurd (k e refl)
no_table s at code.Table.Cut k h = h.0
no_table s at code.Table.Done k h = h.0

-- ---- those before `at` are learned

abbrev pub found : Bytes → List (Table × Bytes)
found r = (walk (raw table) r).found

abbrev pub TablesSofar : Bytes → ℕ → ℕ → Extent → Kept → List ℕ → Extent → ℕ → Kept → List ℕ → Type 0
TablesSofar s q tables known a₀ o₀ e at a o = LearntTo (learn_tables q) (news_tables q) found s tables known a₀ o₀ e at a o

module _ (s : Bytes) (q tables : ℕ) (known : Extent) (a₀ : Kept) (o₀ : List ℕ) where
  pub tables_begin : tables ≤ length s → KeepsSome known a₀ o₀ → TablesSofar s q tables known a₀ o₀ known tables a₀ o₀
  tables_begin l x = to_begin (λ t. learn_table q t.0) (λ t. news_table q t.0) (learn_tables q) (news_tables q) (tables_fold q) found s tables known a₀ o₀ l x

  module _ (e : Extent) (at : ℕ) (a : Kept) (o : List ℕ) (i : TablesSofar s q tables known a₀ o₀ e at a o) where
    pub tables_next : (to : ℕ) (t : TableIs (table (drop at s)) s at (To to)) (r : Extent) (b : Kept) (o' : List ℕ) → length o' ≡ length o
        → Learns (learn_table q (table_in (take (to - at) (drop at s)))) (news_table q (table_in (take (to - at) (drop at s)))) e a o r b o'
        → TablesSofar s q tables known a₀ o₀ r to b o'
    tables_next to t r b o' l f =
        let x = i.some_known in
        let one = f x.0 x.1 in
        let few = table_lost q (table_in (take (to - at) (drop at s))) x.0 in
        to_next (λ u. learn_table q u.0) (λ u. news_table q u.0) (learn_tables q) (news_tables q) (tables_fold q) found s tables known a₀ o₀ e at a o i
        (table_at s at to, take (to - at) (drop at s)) to (omega (arith, t.0)) t.1 (ap (λ w. w.found) (walk_next s at to t)) r b o' l (rw (table_in_lem s at to t) at f)
        (omega (arith, one.lost_is, few, t.0))

    pub tables_done : table (drop at s) ≡ none → Learns (learn_tables q (found (drop tables s))) (news_tables q (found (drop tables s))) known a₀ o₀ e a o
    tables_done t =
        to_done (λ u. learn_table q u.0) (λ u. news_table q u.0) (learn_tables q) (news_tables q) (tables_fold q) found s tables known a₀ o₀ e at a o i (walk_stops s at t)

-- ---- the body

pub no_tables : (q : ℕ) (k : Known) (e : Extent) (a : Kept) (o : List ℕ) → KeepsIn k e a o → After (learn_tables q [] k) (news_tables q [] k) e e a a o
unfolding learn_tables news_tables
no_tables q k e a o h = after_none k e a o h

pub pa_none : (s : Bytes) → pa_head s ≡ none → pa_tables (pa s) ≡ []
unfolding pa
pa_none s e = rw e

pub pa_found : (s : Bytes) (n : ℕ) → PaHeadIs (pa_head s) s (Some n) → pa_tables (pa s) ≡ found (drop n s)
unfolding pa
pa_found s n h = rw h.2.1
