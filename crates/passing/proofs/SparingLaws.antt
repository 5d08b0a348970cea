-- Where no wish is against anything that stands in a payload's tables, narrowing leaves it. Rests on `cuts` of specs/Passing, on `news` of
-- `observing`, and on NewsLaws there.
use Prim.Native.Nat.{ℕ, zero, suc, ◌+◌, ◌≤◌}
use mathlib.Core.Path.{◌≡◌, refl, sym, ap, ◌∙◌}
use mathlib.Core.Bool.{Bool, true, false, cond, not, ◌&&◌, ◌||◌}
use mathlib.Core.List.{List, [], ◌∷◌}
use mathlib.Core.Option.{Option, none, some}
use native.Mathlib.Omega.{arith}
use lib.ListN.{length}
use lib.Dec.{eqb, ltb}
use borrow.Author.Tests.{not-false, eqb-true, ne_eqb}
use Rattle.meaning.specs.Bytes.{Bytes}
use Rattle.meaning.specs.Sets.{in_set}
use Rattle.meaning.specs.Lists.{all, any}
use Rattle.meaning.specs.Readers.{Out, Walk}
use Rattle.meaning.specs.Messages.{Message, indicator, aggregated, message, cons_message, in_body, messages}
use Rattle.meaning.specs.Tables.{Entry, Mpt, mpt, Package, plt, service_of, Table, is_mpt, is_plt, PaHead, pa}
use Rattle.meaning.specs.Wishes.{wanted, wanted_entry}
use Rattle.meaning.specs.Narrow.{mpt_keeping, mpt_without, is_service, last_of, plt_keeping, plt_only, plt_for, new_body, new_table, table_changes, pa_for, narrow_pa, pa_of, pa_message, payload_for, narrow_payload}
use Rattle.meaning.specs.Learn.{Known, insert_package, add_package, packages_in, learn_table, pa_tables, observe, with_fragments, without}
use Rattle.meaning.specs.declared.Part.{Part}
use Rattle.meaning.specs.declared.Service.{Service}
use Rattle.meaning.specs.declared.Limits.{Limits}
use Rattle.meaning.specs.declared.Options.{Options}
use Rattle.meaning.proofs.SoundnessKept.{insert_length}
use Rattle.meaning.proofs.ListLaws.{clash, and_both, both_true, and_false, or_right, or_neither}
use Rattle.learning.specs.News.{no_news, also, change_news, kind_news, kinds_in, unlisted, lists_service, plt_news, list_new}
use Rattle.learning.specs.declared.News.{News}
use Rattle.observing.specs.News.{mpt_new, news_table, news_tables, news_message, news_messages, news_by, anything, news}
use Rattle.observing.proofs.StepLaws.{not_plt}
use Rattle.observing.proofs.NewsLaws.{plt_still, table_still, still}
use Rattle.passing.specs.Passing.{cuts_plt, cuts, Spares}

-- ---- services listed

or_twice : (a x : Bool) → (a || x) ≡ (a || (a || x))
or_twice true x = refl
or_twice false x = refl

or_swap : (a b x : Bool) → (a || (b || x)) ≡ (b || (a || x))
or_swap true true x = refl
or_swap true false x = refl
or_swap false b x = refl

insert_lists : (s t c : ℕ) (ps : List (ℕ × ℕ)) → lists_service s (insert_package t c ps) ≡ (eqb t s || lists_service s ps)
unfolding lists_service insert_package
insert_lists s t c [] = refl
insert_lists s t c (q ∷ qs) = go (ltb t q.0) (eqb t q.0) refl (insert_lists s t c qs)
  where
    go : (a b : Bool) → eqb t q.0 ≡ b → lists_service s (insert_package t c qs) ≡ (eqb t s || lists_service s qs)
        → lists_service s (cond a ((t, c) ∷ q ∷ qs) (cond b ((t, c) ∷ qs) (q ∷ insert_package t c qs))) ≡ (eqb t s || (eqb q.0 s || lists_service s qs))
    go true b e ih = refl
    go false true e ih = or_twice (eqb t s) (lists_service s qs) ∙ ap (λ (x : ℕ). eqb t s || (eqb x s || lists_service s qs)) (eqb-true t q.0 e)
    go false false e ih = ap (λ (x : Bool). eqb q.0 s || x) ih ∙ or_swap (eqb q.0 s) (eqb t s) (lists_service s qs)

-- one that is listed stays so
stays_listed : (s : ℕ) (xs : List Package) (ps : List (ℕ × ℕ)) → lists_service s ps ≡ true → lists_service s (packages_in xs ps) ≡ true
unfolding packages_in
stays_listed s [] ps h = h
stays_listed s (x ∷ xs) ps h = stays_listed s xs (add_package (service_of x.name) x.carrier ps) (go (service_of x.name) x.carrier)
  where
    go : (v w : Option ℕ) → lists_service s (add_package v w ps) ≡ true
    go none w = h
    go (some t) none = h
    go (some t) (some c) = insert_lists s t c ps ∙ or_right (eqb t s) (lists_service s ps) h

-- no more are listed than there are
listed_few : (xs : List Package) (ps : List (ℕ × ℕ)) → length (packages_in xs ps) ≤ length ps + length xs
unfolding packages_in
listed_few [] ps = omega arith
listed_few (x ∷ xs) ps =
    let one : length (add_package (service_of x.name) x.carrier ps) ≤ suc (length ps) = go (service_of x.name) x.carrier in
    omega (arith, listed_few xs (add_package (service_of x.name) x.carrier ps), one)
  where
    go : (v w : Option ℕ) → length (add_package v w ps) ≤ suc (length ps)
    go none w = omega arith
    go (some t) none = omega arith
    go (some t) (some c) = insert_length t c ps

-- where all are listed, a service that is not listed stands in no entry
last_none : (s : ℕ) (xs : List Package) (ps : List (ℕ × ℕ)) → length (packages_in xs ps) ≡ length ps + length xs → lists_service s (packages_in xs ps) ≡ false → last_of s xs none ≡ none
unfolding packages_in last_of is_service
last_none s [] ps n l = refl
last_none s (x ∷ xs) ps n l = go (service_of x.name) x.carrier (λ qs m k. last_none s xs qs m k) n l
  where
    Rest : Type 0
    Rest = (qs : List (ℕ × ℕ)) → length (packages_in xs qs) ≡ length qs + length xs → lists_service s (packages_in xs qs) ≡ false → last_of s xs none ≡ none

    named : (t c : ℕ) (b : Bool) → eqb t s ≡ b → Rest → length (packages_in xs (insert_package t c ps)) ≡ length ps + suc (length xs) → lists_service s (packages_in xs (insert_package t c ps)) ≡ false
        → last_of s xs (cond b (some x.bytes_of) none) ≡ none
    named t c true e rest n l = clash (cc (l, stays_listed s xs (insert_package t c ps) (insert_lists s t c ps ∙ rw e)))
    named t c false e rest n l = rest (insert_package t c ps) (omega (arith, n, listed_few xs (insert_package t c ps), insert_length t c ps)) l

    go : (v w : Option ℕ) → Rest → length (packages_in xs (add_package v w ps)) ≡ length ps + suc (length xs) → lists_service s (packages_in xs (add_package v w ps)) ≡ false
        → last_of s xs (cond (is_service s v) (some x.bytes_of) none) ≡ none
    go none w rest n l = absurd (omega (arith, n, listed_few xs ps))
    go (some t) none rest n l = absurd (omega (arith, n, listed_few xs ps))
    go (some t) (some c) rest n l = named t c (eqb t s) refl rest n l

-- ---- a wish against one news or another

split : (a b c : Bool) → ((a || b) && c) ≡ false → ((a && c) ≡ false) × ((b && c) ≡ false)
split true true c h = (h, h)
split true false c h = (h, refl)
split false b c h = (refl, h)

module _ (q : ℕ) (ps : List (ℕ × ℕ)) where
  split_plt : (v : Service) (a b : News) → cuts_plt v q (also a b) ps ≡ false → (cuts_plt v q a ps ≡ false) × (cuts_plt v q b ps ≡ false)
  split_plt Service.Every a b h = (refl, refl)
  split_plt (Service.Only s) a b h = go (eqb q 0) h
    where
      go : (z : Bool) → (z && ((a.changed || b.changed) || ((a.unlisted || b.unlisted) || lists_service s ps))) ≡ false
          → ((z && (a.changed || (a.unlisted || lists_service s ps))) ≡ false) × ((z && (b.changed || (b.unlisted || lists_service s ps))) ≡ false)
      go false h = (refl, refl)
      go true h =
          let x = or_neither (a.changed || b.changed) _ h in
          let y = or_neither (a.unlisted || b.unlisted) _ x.1 in
          let c = or_neither a.changed b.changed x.0 in
          let u = or_neither a.unlisted b.unlisted y.0 in
          (rw (c.0, u.0) y.1, rw (c.1, u.1) y.1)

  none_plt : (v : Service) (n : News) → cuts_plt v q anything ps ≡ false → cuts_plt v q n ps ≡ false
  none_plt Service.Every n h = refl
  none_plt (Service.Only s) n h = go (eqb q 0) h
    where
      go : (z : Bool) → (z && true) ≡ false → (z && (n.changed || (n.unlisted || lists_service s ps))) ≡ false
      go false h = refl
      go true h = clash (cc)

-- no wish is against them
pub record Wanted (o : Options) (q : ℕ) (n : News) (ps : List (ℕ × ℕ)) : Type 0 where
  pub of_other : (n.other && not o.other) ≡ false
  pub of_caption : (n.caption && not o.caption) ≡ false
  pub of_carousel : (n.carousel && not o.carousel) ≡ false
  pub of_plt : cuts_plt o.service q n ps ≡ false

-- as the code asks, one after the other
module _ (o : Options) (q : ℕ) (n : News) (ps : List (ℕ × ℕ)) where
  abbrev by_other : Bool
  by_other = n.other && not o.other

  abbrev by_caption : Bool
  by_caption = n.caption && not o.caption

  abbrev by_carousel : Bool
  by_carousel = n.carousel && not o.carousel

  pub cuts_other : by_other ≡ true → true ≡ cuts o q n ps
  unfolding cuts
  cuts_other x = rw x

  pub cuts_caption : by_other ≡ false → by_caption ≡ true → true ≡ cuts o q n ps
  unfolding cuts
  cuts_caption x y = rw (x, y)

  pub cuts_carousel : by_other ≡ false → by_caption ≡ false → by_carousel ≡ true → true ≡ cuts o q n ps
  unfolding cuts
  cuts_carousel x y z = rw (x, y, z)

  pub cuts_rest : by_other ≡ false → by_caption ≡ false → by_carousel ≡ false → (r : Bool) → r ≡ cuts_plt o.service q n ps → r ≡ cuts o q n ps
  unfolding cuts
  cuts_rest x y z r w = rw (x, y, z) w

  wanted_all : cuts o q n ps ≡ false → Wanted o q n ps
  unfolding cuts
  wanted_all h =
      let a = or_neither by_other _ h in
      let b = or_neither by_caption _ a.1 in
      let c = or_neither by_carousel _ b.1 in
      record { of_other = a.0; of_caption = b.0; of_carousel = c.0; of_plt = c.1 }

module _ (o : Options) (q : ℕ) (ps : List (ℕ × ℕ)) where
  wanted_also : (a b : News) → Wanted o q (also a b) ps → Wanted o q a ps × Wanted o q b ps
  wanted_also a b h =
      let other = split a.other b.other (not o.other) h.of_other in
      let caption = split a.caption b.caption (not o.caption) h.of_caption in
      let carousel = split a.carousel b.carousel (not o.carousel) h.of_carousel in
      let plt = split_plt q ps o.service a b h.of_plt in (
        record { of_other = other.0; of_caption = caption.0; of_carousel = carousel.0; of_plt = plt.0 },
        record { of_other = other.1; of_caption = caption.1; of_carousel = carousel.1; of_plt = plt.1 },
      )

  -- nor against any other, where none is against anything
  wanted_any : Wanted o q anything ps → (n : News) → Wanted o q n ps
  wanted_any h n = record {
    of_other = none_of n.other (not o.other) h.of_other;
    of_caption = none_of n.caption (not o.caption) h.of_caption;
    of_carousel = none_of n.carousel (not o.carousel) h.of_carousel;
    of_plt = none_plt q ps o.service n h.of_plt;
  }
    where
      none_of : (a b : Bool) → b ≡ false → (a && b) ≡ false
      none_of true b e = e
      none_of false b e = refl

  -- where a PLT may be cut for a service, nothing changed, and that is listed nowhere
  pub record Listed (s : ℕ) (n : News) : Type 0 where
    pub same : n.changed ≡ false
    pub all_listed : n.unlisted ≡ false
    pub not_listed : lists_service s ps ≡ false

  listed : (s : ℕ) (n : News) → o.service ≡ Service.Only s → q ≡ 0 → Wanted o q n ps → Listed s n
  listed s n e z h =
      let x : (n.changed || (n.unlisted || lists_service s ps)) ≡ false = rw (e, z) at h.of_plt in
      let a = or_neither n.changed _ x in
      let b = or_neither n.unlisted _ a.1 in
      record { same = a.0; all_listed = b.0; not_listed = b.1 }

  -- what is listed is what a state has, where that is asked
  abbrev Tells : Known → Type 0
  Tells k = (s : ℕ) → o.service ≡ Service.Only s → q ≡ 0 → ps ≡ k.packages

  -- ---- an MPT

  kind_wanted : (part : Part) → Wanted o q (kind_news part) ps → wanted o part ≡ true
  kind_wanted Part.Caption h = not-false _ h.of_caption
  kind_wanted Part.Carousel h = not-false _ h.of_carousel
  kind_wanted Part.Other h = not-false _ h.of_other

  entries_wanted : (es : List Entry) → Wanted o q (kinds_in es) ps → all (wanted_entry o) es ≡ true
  unfolding kinds_in all
  entries_wanted [] h = refl
  entries_wanted (e ∷ es) h =
      let b = wanted_also (kind_news e.part) (kinds_in es) h in
      both_true (wanted o e.part) (all (wanted_entry o) es) (kind_wanted e.part b.0) (entries_wanted es b.1)

  mpt_spared : (k : Known) (x : Out Mpt) → Wanted o q (mpt_new q x k.map_heads k.map_room) ps → mpt_keeping o x ≡ none
  mpt_spared k none h = refl
  mpt_spared k (some (m, more)) h =
      rw (entries_wanted m.entries (wanted_also (change_news (list_new q _ k.map_heads k.map_room)) (kinds_in m.entries) h).1)

  -- ---- a PLT

  services_spared : (s : ℕ) (k : Known) (x : Out (List Package)) → ps ≡ k.packages → Listed s (plt_news x k.plt_seen k.packages) → plt_keeping s x ≡ none
  unfolding unlisted
  services_spared s k none t h = refl
  services_spared s k (some (xs, more)) t h =
      let known : packages_in xs [] ≡ k.packages = ap (λ (z : Known). z.packages) (plt_still (some (xs, more)) k h.same) in
      let all_of_them : length (packages_in xs []) ≡ length xs = eqb-true _ _ (not-false _ h.all_listed) in
      rw (last_none s xs [] (omega (arith, all_of_them)) (ap (lists_service s) (known ∙ sym t) ∙ h.not_listed))

  plt_spared : (v : Service) → o.service ≡ v → q ≡ 0 → (b : Bytes) (k : Known) → Tells k → Wanted o q (plt_news (plt b) k.plt_seen k.packages) ps → plt_for v b ≡ none
  unfolding plt_only
  plt_spared Service.Every e z b k t h = refl
  plt_spared (Service.Only s) e z b k t h = services_spared s k (plt b) (t s e z) (listed s (plt_news (plt b) k.plt_seen k.packages) e z h)

  -- ---- a table, and tables

  table_spared : (t : Table) (k : Known) → Tells k → Wanted o q (news_table q t k) ps → table_changes o q (t, []) ≡ false
  unfolding new_table new_body news_table is_plt mpt_without
  table_spared t k w h = go (is_mpt t.number) refl (eqb t.number 0x80 && eqb q 0) refl h
    where
      go : (a : Bool) → is_mpt t.number ≡ a → (b : Bool) → (eqb t.number 0x80 && eqb q 0) ≡ b
          → Wanted o q (cond b (plt_news (plt t.body) k.plt_seen k.packages) (cond a (mpt_new q (mpt t.body) k.map_heads k.map_room) no_news)) ps
          → table_changes o q (t, []) ≡ false
      go true ea true eb h = clash (cc (eb, not_plt t.number ea))
      go true ea false eb h = rw (ea, mpt_spared k (mpt t.body) h)
      go false ea true eb h = rw (ea, eb, plt_spared o.service refl (eqb-true q 0 (and_both (eqb t.number 0x80) (eqb q 0) eb).1) t.body k w h)
      go false ea false eb h = rw (ea, eb)

  tells_next : (t : Table) (k : Known) → Tells k → Wanted o q (news_table q t k) ps → Tells (learn_table q t k).known
  tells_next t k w h s e z = w s e z ∙ ap (λ (x : Known). x.packages) (sym (table_still q t k (listed s (news_table q t k) e z h).same))

  tables_spared : (ts : List (Table × Bytes)) (k : Known) → Tells k → Wanted o q (news_tables q ts k) ps → any (table_changes o q) ts ≡ false
  unfolding news_tables any
  tables_spared [] k w h = refl
  tables_spared (t ∷ ts) k w h =
      let b = wanted_also (news_table q t.0 k) (news_tables q ts (learn_table q t.0 k).known) h in
      rw (table_spared t.0 k w b.0) (tables_spared ts (learn_table q t.0 k).known (tells_next t.0 k w b.0) b.1)

  -- ---- a PA message

  pa_spared : (x : Option (PaHead × Walk (Table × Bytes))) (k : Known) → Tells k → Wanted o q (news_tables q (pa_tables x) k) ps → pa_for o q x ≡ none
  pa_spared none k w h = refl
  pa_spared (some (head, rest)) k w h = rw (tables_spared rest.found k w h, and_false (ltb (length rest.left) 4))

  message_spared : (s : Bytes) (x : Out Message) (k : Known) → Tells k → Wanted o q (news_messages q (cons_message x []) k) ps → payload_for o q s (pa_of x) ≡ none
  unfolding news_messages news_message narrow_pa
  message_spared s none k w h = refl
  message_spared s (some (m, rest)) k w h = go (eqb m.number 0) refl (wanted_also (news_message q m k) no_news h).0
    where
      go : (a : Bool) → eqb m.number 0 ≡ a → Wanted o q (news_message q m k) ps → payload_for o q s (cond a (some m.body) none) ≡ none
      go true e h = rw (pa_spared (pa m.body) k w (rw e at h))
      go false e h = refl

  -- ---- a payload

  module _ (L : Limits) (k : Known) (w : Tells k) where
    whole_spared : (flags counter : ℕ) (r s : Bytes) → Wanted o q (news L q (flags ∷ counter ∷ r) k) ps
        → payload_for o q s (cond (eqb (indicator flags) 0 && eqb (aggregated flags) 0) (pa_of (message r)) none) ≡ none
    unfolding news messages in_body
    whole_spared flags counter r s h = go (in_set k.data_set q) (indicator flags) refl (aggregated flags) refl h
      where
        go : (a : Bool) (i : ℕ) → indicator flags ≡ i → (g : ℕ) → aggregated flags ≡ g → Wanted o q (cond a anything (news_by i L q flags (counter ∷ r) k)) ps
            → payload_for o q s (cond (eqb i 0 && eqb g 0) (pa_of (message r)) none) ≡ none
        go true zero ei zero eg h = message_spared s (message r) k w (wanted_any h (news_messages q (cons_message (message r) []) k))
        go false zero ei zero eg h = message_spared s (message r) (with_fragments (without q k.fragments) k) w (rw (ei, eg) at h)
        go a zero ei (suc g) eg h = rw (ne_eqb (suc g) 0 (λ z. absurd (omega arith)))
        go a (suc i) ei g eg h = rw (ne_eqb (suc i) 0 (λ z. absurd (omega arith)))

    spared : (s : Bytes) → Wanted o q (news L q s k) ps → narrow_payload o q s ≡ none
    unfolding narrow_payload pa_message
    spared [] h = refl
    spared (flags ∷ []) h = refl
    spared (flags ∷ counter ∷ r) h = whole_spared flags counter r (flags ∷ counter ∷ r) h

-- What is new with a payload, and the packages that are known after it, tell where narrowing leaves it.
pub spares : (o : Options) (L : Limits) (q : ℕ) (k : Known) (s : Bytes) (n : News) (ps : List (ℕ × ℕ)) → n ≡ news L q s k → ps ≡ (observe L q s k).known.packages → Spares o q n ps s
spares o L q k s n ps e f h =
    let x = wanted_all o q n ps h in
    let tells : (v : ℕ) → o.service ≡ Service.Only v → q ≡ 0 → ps ≡ k.packages =
    λ v a z. f ∙ ap (λ (j : Known). j.packages) (still L q s k (sym (ap (λ (m : News). m.changed) e) ∙ (listed o q ps v n a z x).same)).known_is in
    spared o q ps L k tells s (rw e at x)
