-- Steps of learning: one after the other, and what a table adds by what `plt` and `mpt` promise. Rests on specs/Steps, specs/News and
-- Learnt of `learning`.
use Prim.Native.Nat.{ℕ, ◌+◌, ◌*◌}
use mathlib.Core.Path.{◌≡◌, refl, sym, ap, ◌∙◌, subst}
use mathlib.Core.Bool.{Bool, true, false, cond, ◌&&◌}
use mathlib.Core.List.{List}
use mathlib.Core.Option.{none, some}
use native.Mathlib.Omega.{arith}
use lib.ListN.{length}
use lib.Dec.{ltb, eqb}
use borrow.Author.Tests.{eqb-true, ne_eqb}
use Rattle.meaning.specs.Readers.{Out}
use Rattle.meaning.specs.Tables.{Entry, Mpt, mpt, Package, plt, Table, is_plt, is_mpt}
use Rattle.meaning.specs.Learn.{Known, Learnt, learnt, Listed, asset_numbers, over, place_for, listed, with_list, mpt_from, learn_mpt, plt_from, learn_plt, learn_table, and_lost}
use Rattle.meaning.proofs.ListLaws.{clash}
use Rattle.learning.specs.Kept.{KeptPackages, KeptMaps}
use Rattle.learning.specs.News.{no_news, also, kinds_in, plt_news, list_new, list_news}
use Rattle.learning.specs.Learnt.{with_news, PltLearnt, ListLearnt, MptLearnt}
use Rattle.learning.specs.declared.Extent.{Extent}
use Rattle.learning.specs.declared.Kept.{Kept}
use Rattle.learning.specs.declared.News.{News}
use Rattle.learning.proofs.AlsoLaws.{also_assoc, also_none}
use Rattle.observing.specs.News.{mpt_new, news_table}
use Rattle.observing.specs.Steps.{KeepsIn, After}

-- ---- one step after the other

-- nothing learned
pub after_none : (k : Known) (e : Extent) (a : Kept) (o : List ℕ) → KeepsIn k e a o → After (learnt k) no_news e e a a o
after_none k e a o h = record { keeps = h; lost_is = omega arith; news_are = also_none e.news; fragments_same = refl; leading_same = refl; heads_same = refl }

pub after_then : (f g : Learnt) (u v : News) (e e₁ r : Extent) (a a₁ b : Kept) (o₁ o : List ℕ) → After f u e e₁ a a₁ o₁ → After g v e₁ r a₁ b o
    → After (and_lost f.lost g) (also u v) e r a b o
after_then f g u v e e₁ r a a₁ b o₁ o x y =
    record {
      keeps = y.keeps;
      lost_is = omega (arith, x.lost_is, y.lost_is);
      news_are = y.news_are ∙ ap (λ (z : News). also z v) x.news_are ∙ also_assoc e.news u v;
      fragments_same = y.fragments_same ∙ x.fragments_same;
      leading_same = y.leading_same ∙ x.leading_same;
      heads_same = y.heads_same ∙ x.heads_same;
    }

-- what is new has no part in what is kept
pub keeps_news : (k : Known) (e : Extent) (n : News) (a : Kept) (o : List ℕ) → KeepsIn k e a o → KeepsIn k (with_news e n) a o
keeps_news k e n a o h =
    record { seen = h.seen; packages_kept = h.packages_kept; maps_kept = h.maps_kept; data_set_is = h.data_set_is; data_set_all = h.data_set_all; map_room_is = h.map_room_is; map_room_all = h.map_room_all }

-- ---- a PLT

module _ (k : Known) (e r : Extent) (a : Kept) (o : List ℕ) (h : KeepsIn k e a o) (p' : List ℕ) where
  plt_after : (x : Out (List Package)) → PltLearnt x k.packages e r p' → After (learnt (plt_from x k)) (plt_news x k.plt_seen k.packages) e r a (record a { packages = p' }) o
  plt_after none x =
      record {
        keeps =
            record {
              seen = ap (λ z. z.seen) x.0 ∙ h.seen;
              packages_kept = subst (λ (n : ℕ). KeptPackages k.packages n p') (sym (ap (λ z. z.package_count) x.0)) x.1;
              maps_kept = subst (λ (n : ℕ). KeptMaps k.map_heads n a.map_heads) (sym (ap (λ z. z.map_count) x.0)) h.maps_kept;
              data_set_is = h.data_set_is;
              data_set_all = h.data_set_all;
              map_room_is = h.map_room_is;
              map_room_all = h.map_room_all;
            };
        lost_is = omega (arith, ap (λ z. z.lost) x.0);
        news_are = ap (λ z. z.news) x.0 ∙ also_none e.news;
        fragments_same = ap (λ z. z.fragment_count) x.0;
        leading_same = ap (λ z. z.leading) x.0;
        heads_same = refl;
      }
  plt_after (some (ys, more)) x =
      record {
        keeps =
            record {
              seen = ap (λ z. z.seen) x.1;
              packages_kept = x.0;
              maps_kept = subst (λ (n : ℕ). KeptMaps k.map_heads n a.map_heads) (sym (ap (λ z. z.map_count) x.1)) h.maps_kept;
              data_set_is = h.data_set_is;
              data_set_all = h.data_set_all;
              map_room_is = h.map_room_is;
              map_room_all = h.map_room_all;
            };
        lost_is = omega (arith, ap (λ z. z.lost) x.1);
        news_are = ap (λ z. z.news) x.1 ∙ ap (λ (s : Bool). also e.news (plt_news (some (ys, more)) s k.packages)) h.seen;
        fragments_same = ap (λ z. z.fragment_count) x.1;
        leading_same = ap (λ z. z.leading) x.1;
        heads_same = refl;
      }

-- ---- an MPT

lost_not_new : (q : ℕ) (as' : Listed) (ms : List (ℕ × ℕ)) (map_room : List ℕ) → ltb (place_for q ms) 64 ≡ false → list_new q as' ms map_room ≡ false
unfolding list_new
lost_not_new q as' ms map_room f = rw f

module _ (q : ℕ) (k : Known) (e r : Extent) (a : Kept) (o : List ℕ) (h : KeepsIn k e a o) (m' o' : List ℕ) (same : length o' ≡ length o) where
  -- the lists as they were, so many more lost, and these news
  none_after : (n l : ℕ) (new : News) → l ≡ e.lost + n
      → KeptMaps k.map_heads e.map_count m' × (o' ≡ o)
      × (r ≡ record { seen = e.seen; package_count = e.package_count; map_count = e.map_count; fragment_count = e.fragment_count; leading = e.leading; lost = l; news = also e.news new })
      → After (record { known = k; lost = n }) new e r a (record a { map_heads = m' }) o'
  none_after n l new s x =
      record {
        keeps =
            record {
              seen = ap (λ z. z.seen) x.2 ∙ h.seen;
              packages_kept = subst (λ (n : ℕ). KeptPackages k.packages n a.packages) (sym (ap (λ z. z.package_count) x.2)) h.packages_kept;
              maps_kept = subst (λ (n : ℕ). KeptMaps k.map_heads n m') (sym (ap (λ z. z.map_count) x.2)) x.0;
              data_set_is = h.data_set_is;
              data_set_all = h.data_set_all;
              map_room_is = x.1 ∙ h.map_room_is;
              map_room_all = ap length x.1 ∙ h.map_room_all;
            };
        lost_is = ap (λ z. z.lost) x.2 ∙ s;
        news_are = ap (λ z. z.news) x.2;
        fragments_same = ap (λ z. z.fragment_count) x.2;
        leading_same = ap (λ z. z.leading) x.2;
        heads_same = refl;
      }

  list_after : (es : List Entry) (there : Bool) → ltb (place_for q k.map_heads) 64 ≡ there → ListLearnt there q es k.map_heads e o r m' o'
      → After (cond there (learnt (with_list q (listed es) k (place_for q k.map_heads))) (record { known = k; lost = 1 })) (list_news q es k.map_heads k.map_room) e r a (record a { map_heads = m' }) o'
  unfolding with_list
  list_after es true t x =
      record {
        keeps =
            record {
              seen = ap (λ z. z.seen) x.2 ∙ h.seen;
              packages_kept = subst (λ (n : ℕ). KeptPackages k.packages n a.packages) (sym (ap (λ z. z.package_count) x.2)) h.packages_kept;
              maps_kept = x.0;
              data_set_is = h.data_set_is;
              data_set_all = h.data_set_all;
              map_room_is = x.1 ∙ ap (λ (z : List ℕ). over z (512 * place_for q k.map_heads) (asset_numbers (listed es))) h.map_room_is;
              map_room_all = same ∙ h.map_room_all;
            };
        lost_is = omega (arith, ap (λ z. z.lost) x.2);
        news_are = ap (λ z. z.news) x.2 ∙ ap (λ (z : List ℕ). also e.news (list_news q es k.map_heads z)) h.map_room_is;
        fragments_same = ap (λ z. z.fragment_count) x.2;
        leading_same = ap (λ z. z.leading) x.2;
        heads_same = refl;
      }
  list_after es false t x =
      rw (lost_not_new q (listed es) k.map_heads k.map_room t) (none_after 1 (e.lost + 1) (kinds_in es) refl x)

  mpt_after : (x : Out Mpt) → MptLearnt q x k.map_heads e o r m' o' → After (mpt_from q x k) (mpt_new q x k.map_heads k.map_room) e r a (record a { map_heads = m' }) o'
  mpt_after none x = none_after 0 e.lost no_news (omega arith) (x.0, x.1, x.2 ∙ ap (with_news e) (also_none e.news))
  mpt_after (some (y, more)) x = list_after y.entries (ltb (place_for q k.map_heads) 64) refl x

-- ---- a table, by its number

pub not_plt : (n : ℕ) → is_mpt n ≡ true → eqb n 0x80 ≡ false
unfolding is_mpt
not_plt n h = ne_eqb n 0x80 (λ e. clash (cc (ap is_mpt e)))

module _ (q : ℕ) (t : Table) (k : Known) (e r : Extent) (a : Kept) (o : List ℕ) (h : KeepsIn k e a o) where
  pub table_plt : t.number ≡ 0x80 → q ≡ 0 → (p' : List ℕ) → PltLearnt (plt t.body) k.packages e r p' → After (learn_table q t k) (news_table q t k) e r a (record a { packages = p' }) o
  unfolding learn_table news_table is_plt learn_plt
  table_plt n z p' x = rw (n, z) (plt_after k e r a o h p' (plt t.body) x)

  pub table_mpt : is_mpt t.number ≡ true → (m' o' : List ℕ) → length o' ≡ length o → MptLearnt q (mpt t.body) k.map_heads e o r m' o' → After (learn_table q t k) (news_table q t k) e r a (record a { map_heads = m' }) o'
  unfolding learn_table news_table is_plt learn_mpt
  table_mpt n m' o' l x = rw (not_plt t.number n, n) (mpt_after q k e r a o h m' o' l (mpt t.body) x)

  pub table_other : is_mpt t.number ≡ false → (t.number ≡ 0x80 → q ≡ 0 → ⊥) → After (learn_table q t k) (news_table q t k) e e a a o
  unfolding learn_table news_table is_plt
  table_other n z = go (eqb t.number 0x80) refl (eqb q 0) refl
    where
      go : (x : Bool) → eqb t.number 0x80 ≡ x → (y : Bool) → eqb q 0 ≡ y
          → After (cond (x && y) (learnt (learn_plt t.body k)) (cond (is_mpt t.number) (learn_mpt q t.body k) (learnt k)))
          (cond (x && y) (plt_news (plt t.body) k.plt_seen k.packages) (cond (is_mpt t.number) (mpt_new q (mpt t.body) k.map_heads k.map_room) no_news)) e e a a o
      go true ex true ey = absurd (z (eqb-true _ _ ex) (eqb-true _ _ ey))
      go true ex false ey = rw n (after_none k e a o h)
      go false ex y ey = rw n (after_none k e a o h)
