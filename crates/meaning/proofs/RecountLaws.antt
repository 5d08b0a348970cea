-- The recount: what narrowing changed has, read from its bytes, the wanted entries of what it was made of, in order; each count is the
-- number of its entries, each length that of its bytes, and stayed and went are counted again. Rests on PaLaws, NarrowLaws and SizeLaws.
use Prim.Native.Nat.{ℕ, ◌+◌, ◌-◌, ◌%◌, ◌/◌, ◌*◌, ◌≤◌, ◌<◌}
use mathlib.Core.Path.{◌≡◌, refl, sym, ap, ap₂, ◌∙◌, subst}
use mathlib.Core.Logic.{◌⊎◌, inl, inr}
use mathlib.Core.Bool.{Bool, true, false, cond, ◌&&◌}
use mathlib.Core.List.Sublistᴰ
use mathlib.Core.List.{List, [], ◌∷◌, ◌++◌, map, flatten, flat_map, filter_map, zip_with, append-nil, Forall₂}
use mathlib.Core.Option
use mathlib.Core.Option.{Option, none, some, Option-elim, none-ne-some, some-injective}
use native.Mathlib.Omega.{arith}
use lib.ListN.{length, take, drop, get_or, length-drop}
use lib.Seq.{get_or-append_seam, take-nil}
use lib.Dec.{eqb, leb, ltb}
use borrow.Author.Tests.{leb-true, ltb-true, eqb-true}
use Rattle.meaning.specs.Bytes.{Bytes, be16, be16_at, be32_at, put16, put32}
use Rattle.meaning.specs.Lists.{keep, all, any, count, is_some}
use Rattle.meaning.specs.Readers.{Out, give, byte, u8, u16, bytes, counted16, many, raw, walk}
use Rattle.meaning.specs.Packets.{size_of, cut}
use Rattle.meaning.specs.Mmtp.{Mmtp, mmtp_of, is_signalling}
use Rattle.meaning.specs.Tables.{Entry, Mpt, mpt, Package, package_entry, plt, service_of, Table, table, is_mpt, is_plt, PaHead, pa_head, pa_from, pa}
use Rattle.meaning.specs.Wishes.{wanted, wanted_entry, copies_all}
use Rattle.meaning.specs.Narrow.{may_rewrite, mpt_body, mpt_keeping, mpt_without, is_service, last_of, plt_keeping, plt_only, plt_for, new_body, table_bytes, new_table, table_from, narrow_table, table_after, table_changes, relength, pa_bytes, pa_for, narrow_pa, pa_message, payload_bytes, payload_for, narrow_payload, packet_bytes, narrow_packet, narrowed_packet, is_part, by_part, stayed, went, parts_from, table_parts, tables_parts, pa_parts, Change, change_of, parts_of_table, parts_of_message, parts_of_packet, change_table, change_payload, change_packet}
use Rattle.meaning.specs.Ip.{afresh}
use Rattle.meaning.specs.Rooms.{packet_limit}
use Rattle.meaning.specs.Learn.{Known, learn}
use Rattle.meaning.specs.Record.{State}
use Rattle.meaning.specs.Push.{withheld, Passed, pass_one, pass, filtered, push}
use Rattle.meaning.specs.Recount.{u8_at, mpt_in, only, plt_in, last_alone, only_for, TableRecounted, mpts_in, kinds_in, Recounted, TableAlone, pa_within, pa_in, PayloadRecounted, PlainRecounted, PacketRecounted, mpts_within, mpts_of, Written}
use Rattle.meaning.specs.declared.Limits.{Limits}
use Rattle.meaning.specs.declared.Part.{Part}
use Rattle.meaning.specs.declared.Part.TheVariants.{Caption, Carousel, Other}
use Rattle.meaning.specs.declared.Service.{Service}
use Rattle.meaning.specs.declared.Service.TheVariants.{Every, Only}
use Rattle.meaning.specs.declared.Options.{Options}
use Rattle.meaning.specs.declared.Modes.{Modes}
use Rattle.meaning.proofs.ListLaws.{and_both, keep_all, keep_map, stay_go}
use Rattle.meaning.proofs.Local.{table_local}
use Rattle.meaning.proofs.Framed.{before, Again, AllAgain, raw_framed}
use Rattle.meaning.proofs.TableLaws.{mpt_split, mpt_reads, plt_split, be16_put, with_body, table_split}
use Rattle.meaning.proofs.PaLaws.{Found, Reads, step, step_again, all_again, step_bytes, table_of, Fours, relength_length, head_split, bytes_framed, taken, tables_walked, reads_again, long}
use Rattle.meaning.proofs.NarrowLaws.{pa_split}
use Rattle.meaning.proofs.PacketLaws.{with_payload, packet_split}
use Rattle.meaning.proofs.Statements.{same_wishes, payload_shorter}
use Rattle.meaning.proofs.SizeLaws.{rewritten, size_follows}

-- ---- what the bytes of a table say

table_laid : (b : Bytes) (t : Table) (r : Bytes) → table b ≡ some (t, r)
    → (b ≡ t.number ∷ t.version ∷ get_or b 2 0 ∷ get_or b 3 0 ∷ (t.body ++ r)) × (be16_at b 2 ≡ length t.body)
unfolding table byte counted16 u16 be16_at
table_laid [] t r e = absurd (none-ne-some _ e)
table_laid (a ∷ []) t r e = absurd (none-ne-some _ e)
table_laid (a ∷ v ∷ []) t r e = absurd (none-ne-some _ e)
table_laid (a ∷ v ∷ h ∷ []) t r e = absurd (none-ne-some _ e)
table_laid (a ∷ v ∷ h ∷ l ∷ s) t r e =
    let b = before (bytes (be16 h l) s) (λ body. give (record { number = a; version = v; body = body })) t r e in
    let q = some-injective _ _ b.then_was in
    let f = (bytes_framed (be16 h l) s b.first b.rest b.was).0 in
    let n = taken (be16 h l) s b.first b.rest b.was in
    subst (λ (z : Table × Bytes). (a ∷ v ∷ h ∷ l ∷ s ≡ z.0.number ∷ z.0.version ∷ h ∷ l ∷ (z.0.body ++ z.1)) × (be16 h l ≡ length z.0.body)) q
    (ap (λ (z : Bytes). a ∷ v ∷ h ∷ l ∷ z) f, sym n)

mpt_laid : (b : Bytes) (m : Mpt) (more : Bytes) → mpt b ≡ some (m, more)
    → (b ≡ m.front ++ get_or b (length m.front) 0 ∷ (flatten (map (λ e. e.bytes_of) m.entries) ++ more)) × (u8_at b (length m.front) ≡ length m.entries)
unfolding u8_at
mpt_laid b m more e =
    let sp = mpt_split b m more e in
    let rest : Bytes = flatten (map (λ e. e.bytes_of) m.entries) ++ more in
    let at : get_or b (length m.front) 0 ≡ sp.number = ap (λ (z : Bytes). get_or z (length m.front) 0) sp.whole ∙ get_or-append_seam m.front sp.number rest 0 in
    (sp.whole ∙ ap (λ (n : ℕ). m.front ++ n ∷ rest) (sym at), ap (λ (n : ℕ). n % 256) at ∙ sym sp.counted)

plt_laid : (b : Bytes) (ps : List Package) (more : Bytes) → plt b ≡ some (ps, more)
    → (b ≡ get_or b 0 0 ∷ (flatten (map (λ k. k.bytes_of) ps) ++ more)) × (u8_at b 0 ≡ length ps)
unfolding u8_at
plt_laid b ps more e =
    let sp = plt_split b ps more e in
    let rest : Bytes = flatten (map (λ k. k.bytes_of) ps) ++ more in
    let at : get_or b 0 0 ≡ sp.number = ap (λ (z : Bytes). get_or z 0 0) sp.whole in
    (sp.whole ∙ ap (λ (n : ℕ). n ∷ rest) (sym at), ap (λ (n : ℕ). n % 256) at ∙ sym sp.counted)

cond_some : {A : Type 0} (a : Bool) (x : Option A) (y : A) → cond a x none ≡ some y → x ≡ some y
cond_some true x y e = e
cond_some false x y e = absurd (none-ne-some _ e)

mpt_of : (t : Table) (x : Mpt × Bytes) → mpt_in t ≡ some x → mpt t.body ≡ some x
unfolding mpt_in
mpt_of t x e = cond_some (is_mpt t.number) (mpt t.body) x e

plt_of : (p : ℕ) (t : Table) (x : List Package × Bytes) → plt_in p t ≡ some x → plt t.body ≡ some x
unfolding plt_in
plt_of p t x e = cond_some (is_plt t.number && eqb p 0) (plt t.body) x e

-- ---- an MPT with its wanted entries

mpt_only : (o : Options) (b : Bytes) → mpt (Option.get_or (mpt_without o b) b) ≡ Option.map (only o) (mpt b)
unfolding mpt_without
mpt_only o b = go (mpt b) refl
  where
    kept : (m : Mpt) (more : Bytes) → mpt b ≡ some (m, more) → (a : Bool) → all (wanted_entry o) m.entries ≡ a
        → mpt (Option.get_or (cond a none (some (mpt_body m.front (keep (wanted_entry o) m.entries) more))) b) ≡ some (only o (m, more))
    kept m more e true ea = e ∙ ap (λ (es : List Entry). some (record { front = m.front; entries = es }, more)) (sym (keep_all (wanted_entry o) m.entries ea))
    kept m more e false ea = mpt_reads o b m more e

    go : (x : Out Mpt) → mpt b ≡ x → mpt (Option.get_or (mpt_keeping o x) b) ≡ Option.map (only o) x
    go none e = e
    go (some (m, more)) e = kept m more e (all (wanted_entry o) m.entries) refl

-- ---- a PLT with the last package of a service

alone_same : (q : Package) (ks xs ys : List Package) → last_alone (q ∷ ks) xs ≡ last_alone (q ∷ ks) ys
unfolding last_alone
alone_same q [] xs ys = refl
alone_same q (k ∷ ks) xs ys = alone_same k ks xs ys

alone_next : (q : Package) (ks xs : List Package) → last_alone (q ∷ ks) xs ≡ last_alone ks (q ∷ [])
unfolding last_alone
alone_next q [] xs = refl
alone_next q (k ∷ ks) xs = alone_same k ks xs (q ∷ [])

-- what narrowing keeps of the packages so far, beside what 01 lets stand of them
data Stood (every : List Package) : Option Bytes → List Package → Type 0 where
  none_yet : Stood every none every
  the_last : (k : Package) → Again package_entry (λ k. k.bytes_of) k → Stood every (some k.bytes_of) (k ∷ [])

module _ (s : ℕ) (every : List Package) where
  abbrev ours : Package → Bool
  ours k = is_service s (service_of k.name)

  stands : (ps : List Package) (o : Option Bytes) (xs : List Package) → AllAgain package_entry (λ k. k.bytes_of) ps → Stood every o xs
      → Stood every (last_of s ps o) (last_alone (keep ours ps) xs)
  unfolding last_of keep last_alone
  stands [] o xs h w = w
  stands (k ∷ ps) o xs h w = go (ours k) (λ o xs w. stands ps o xs h.1 w)
    where
      go : (a : Bool) → ((o : Option Bytes) (xs : List Package) → Stood every o xs → Stood every (last_of s ps o) (last_alone (keep ours ps) xs))
          → Stood every (last_of s ps (cond a (some k.bytes_of) o)) (last_alone (cond a (k ∷ keep ours ps) (keep ours ps)) xs)
      go true ih = subst (λ (l : List Package). Stood every (last_of s ps (some k.bytes_of)) l) (sym (alone_next k (keep ours ps) xs)) (ih (some k.bytes_of) (k ∷ []) (the_last k h.0))
      go false ih = ih o xs w

one_package : (k : Package) (more : Bytes) → Again package_entry (λ k. k.bytes_of) k → plt (1 ∷ (k.bytes_of ++ more)) ≡ some (k ∷ [], more)
unfolding plt u8 byte many
one_package k more g = rw (g more)

plt_only_lem : (s : ℕ) (b : Bytes) → plt (Option.get_or (plt_only s b) b) ≡ Option.map (only_for (Only s)) (plt b)
unfolding plt_only
plt_only_lem s b = go (plt b) refl
  where
    kept : (ps : List Package) (more : Bytes) → plt b ≡ some (ps, more) → (x : Option Bytes) (l : List Package) → Stood ps x l
        → plt (Option.get_or (Option.map (λ e. 1 ∷ (e ++ more)) x) b) ≡ some (l, more)
    kept ps more e x l none_yet = e
    kept ps more e x l (the_last k g) = one_package k more g

    go : (x : Out (List Package)) → plt b ≡ x → plt (Option.get_or (plt_keeping s x) b) ≡ Option.map (only_for (Only s)) x
    go none e = e
    go (some (ps, more)) e =
        kept ps more e (last_of s ps none) (last_alone (keep (λ k. is_service s (service_of k.name)) ps) ps)
        (stands s ps ps none ps (plt_split b ps more e).again none_yet)

plt_for_lem : (v : Service) (b : Bytes) → plt (Option.get_or (plt_for v b) b) ≡ Option.map (only_for v) (plt b)
plt_for_lem Every b = go (plt b)
  where
    go : (x : Out (List Package)) → x ≡ Option.map (only_for Every) x
    go none = refl
    go (some x) = refl
plt_for_lem (Only s) b = plt_only_lem s b

-- ---- a table as narrowing leaves it

pub not_both : (n p : ℕ) → is_mpt n ≡ true → (is_plt n && eqb p 0) ≡ true → ⊥
unfolding is_mpt is_plt
not_both n p a b =
    let m : n ≤ 0x20 = leb-true _ _ (and_both (leb 0x11 n) (leb n 0x20) a).1 in
    let q : n ≡ 0x80 = eqb-true _ _ (and_both (eqb n 0x80) (eqb p 0) b).0 in
    omega arith

module _ (o : Options) (p : ℕ) where
  abbrev body_after : Table → Bytes
  body_after t = Option.get_or (new_body o p t.number t.body) t.body

  mpt_after : (t : Table) → mpt_in (with_body t (body_after t)) ≡ Option.map (only o) (mpt_in t)
  unfolding mpt_in new_body
  mpt_after t = go (is_mpt t.number) (is_plt t.number && eqb p 0)
    where
      go : (a c : Bool) → cond a (mpt (Option.get_or (cond a (mpt_without o t.body) (cond c (plt_for o.service t.body) none)) t.body)) none
          ≡ Option.map (only o) (cond a (mpt t.body) none)
      go true c = mpt_only o t.body
      go false c = refl

  plt_after : (t : Table) → plt_in p (with_body t (body_after t)) ≡ Option.map (only_for o.service) (plt_in p t)
  unfolding plt_in new_body
  plt_after t = go (is_mpt t.number) refl (is_plt t.number && eqb p 0) refl
    where
      go : (a : Bool) → is_mpt t.number ≡ a → (c : Bool) → (is_plt t.number && eqb p 0) ≡ c
          → cond c (plt (Option.get_or (cond a (mpt_without o t.body) (cond c (plt_for o.service t.body) none)) t.body)) none
          ≡ Option.map (only_for o.service) (cond c (plt t.body) none)
      go true ea true ec = absurd (not_both t.number p ea ec)
      go true ea false ec = refl
      go false ea true ec = plt_for_lem o.service t.body
      go false ea false ec = refl

  nothing_new : (t : Table) → mpt_in t ≡ none → plt_in p t ≡ none → new_body o p t.number t.body ≡ none
  unfolding mpt_in plt_in new_body mpt_without plt_only
  nothing_new t em ep = go (is_mpt t.number) (is_plt t.number && eqb p 0) em ep
    where
      service_none : (v : Service) → plt t.body ≡ none → plt_for v t.body ≡ none
      service_none Every e = refl
      service_none (Only s) e = rw e

      go : (a c : Bool) → cond a (mpt t.body) none ≡ none → cond c (plt t.body) none ≡ none
          → cond a (mpt_keeping o (mpt t.body)) (cond c (plt_for o.service t.body) none) ≡ none
      go true c m q = rw m
      go false true m q = service_none o.service q
      go false false m q = refl

  unchanged : (x : Found) → new_body o p x.0.number x.0.body ≡ none → step o p x ≡ x
  unfolding new_table
  unchanged x e = ap (λ (n : Option Bytes). (with_body x.0 (Option.get_or n x.0.body), Option.get_or (Option.map (table_bytes x.0) n) x.1)) e

  pub table_recounted_in : (x : Found) → Again (raw table) (λ x. x.1) x → TableRecounted o p x (step o p x)
  table_recounted_in x g =
      let y : Found = step o p x in
      let r : table y.1 ≡ some (y.0, []) = table_of y (step_again (same_wishes o) p x g) in
      let l = table_laid y.1 y.0 [] r in
      record {
        number_stays = refl;
        version_stays = refl;
        laid_out = l.0 ∙ ap (λ (z : Bytes). y.0.number ∷ y.0.version ∷ get_or y.1 2 0 ∷ get_or y.1 3 0 ∷ z) (append-nil y.0.body);
        length_fits = l.1;
        mpt_is = mpt_after x.0;
        mpt_laid_out = λ m more e. (mpt_laid y.0.body m more (mpt_of y.0 (m, more) e)).0;
        mpt_count_fits = λ m more e. (mpt_laid y.0.body m more (mpt_of y.0 (m, more) e)).1;
        plt_is = plt_after x.0;
        plt_laid_out = λ ps more e. (plt_laid y.0.body ps more (plt_of p y.0 (ps, more) e)).0;
        plt_count_fits = λ ps more e. (plt_laid y.0.body ps more (plt_of p y.0 (ps, more) e)).1;
        other_stays = λ em ep. unchanged x (nothing_new x.0 em ep);
      }

  -- ---- all tables, and the kinds of their entries

  all_recounted : (xs : List Found) → Reads xs → Forall₂ (TableRecounted o p) xs (map (step o p) xs)
  all_recounted [] h = Forall₂.nil
  all_recounted (x ∷ xs) h = Forall₂.cons (table_recounted_in x h.0) (all_recounted xs h.1)

  mpts_follow : (xs : List Found) → mpts_in (map (step o p) xs) ≡ map (only o) (mpts_in xs)
  unfolding mpts_in filter_map Option-elim
  mpts_follow [] = refl
  mpts_follow (x ∷ xs) =
      ap (λ (z : Out Mpt). Option-elim z (mpts_in (map (step o p) xs)) (λ m. m ∷ mpts_in (map (step o p) xs))) (mpt_after x.0) ∙ go (mpt_in x.0) (mpts_follow xs)
    where
      go : (z : Out Mpt) → mpts_in (map (step o p) xs) ≡ map (only o) (mpts_in xs)
          → Option-elim (Option.map (only o) z) (mpts_in (map (step o p) xs)) (λ m. m ∷ mpts_in (map (step o p) xs)) ≡ map (only o) (Option-elim z (mpts_in xs) (λ m. m ∷ mpts_in xs))
      go none ih = ih
      go (some m) ih = ap (λ (l : List (Mpt × Bytes)). only o m ∷ l) ih

parts_from_lem : (t : Table) → table_parts t ≡ parts_from (mpt_in t)
unfolding table_parts mpt_in
parts_from_lem t = go (is_mpt t.number)
  where
    go : (a : Bool) → cond a (parts_from (mpt t.body)) [] ≡ parts_from (cond a (mpt t.body) none)
    go true = refl
    go false = refl

-- the kinds that are counted are those of all entries
parts_are : (xs : List Found) → tables_parts xs ≡ kinds_in (mpts_in xs)
unfolding tables_parts kinds_in mpts_in filter_map Option-elim flat_map
parts_are [] = refl
parts_are (x ∷ xs) = ap₂ (λ (a b : List Part). a ++ b) (parts_from_lem x.0) (parts_are xs) ∙ go (mpt_in x.0)
  where
    go : (z : Out Mpt) → parts_from z ++ kinds_in (mpts_in xs) ≡ kinds_in (Option-elim z (mpts_in xs) (λ m. m ∷ mpts_in xs))
    go none = refl
    go (some (m, more)) = refl

keep_append : {A : Type 0} (f : A → Bool) (xs ys : List A) → keep f (xs ++ ys) ≡ keep f xs ++ keep f ys
unfolding keep
keep_append f [] ys = refl
keep_append {A} f (x ∷ xs) ys = go (f x) (keep_append f xs ys)
  where
    go : (a : Bool) → keep f (xs ++ ys) ≡ keep f xs ++ keep f ys → cond a (x ∷ keep f (xs ++ ys)) (keep f (xs ++ ys)) ≡ cond a (x ∷ keep f xs) (keep f xs) ++ keep f ys
    go true ih = ap (λ (l : List A). x ∷ l) ih
    go false ih = ih

kinds_kept : (o : Options) (ms : List (Mpt × Bytes)) → keep (wanted o) (kinds_in ms) ≡ kinds_in (map (only o) ms)
unfolding kinds_in flat_map keep
kinds_kept o [] = refl
kinds_kept o ((m, more) ∷ ms) =
    keep_append (wanted o) (map (λ e. e.part) m.entries) (kinds_in ms)
    ∙ ap₂ (λ (a b : List Part). a ++ b) (keep_map (λ e. e.part) (wanted o) m.entries) (kinds_kept o ms)

three : {a b c d e f : ℕ} → a ≡ d → b ≡ e → c ≡ f → ◌≡◌ {A = List ℕ} (a ∷ b ∷ c ∷ []) (d ∷ e ∷ f ∷ [])
three p q r = λ i. p i ∷ q i ∷ r i ∷ []

stay_and_go : (o : Options) (ps : List Part) → zip_with ◌+◌ (stayed o ps) (went o ps) ≡ by_part ps
unfolding stayed went by_part zip_with
stay_and_go o ps = three (stay_go (wanted o) (is_part Caption) ps) (stay_go (wanted o) (is_part Carousel) ps) (stay_go (wanted o) (is_part Other) ps)

-- The tables of a walk.
pub tables_recounted : (o : Options) (p : ℕ) (xs : List Found) → Reads xs
    → Recounted o p xs (map (step o p) xs) (stayed o (tables_parts xs)) (went o (tables_parts xs))
unfolding stayed
tables_recounted o p xs h =
    let ms = mpts_follow o p xs in
    record {
      tables_are = all_recounted o p xs h;
      mpts_are = ms;
      stays_are = ap (λ (l : List Part). by_part (keep (wanted o) l)) (parts_are xs) ∙ ap by_part (kinds_kept o (mpts_in xs) ∙ ap kinds_in (sym ms));
      all_are = stay_and_go o (tables_parts xs) ∙ ap by_part (parts_are xs);
    }

-- ---- the entries of a PA head

entry_follows : (e : Bytes) (n : ℕ) → length e ≡ 4 → n < 65536 → (be16_at (take 2 e ++ put16 n) 2 ≡ n) × (take 2 (take 2 e ++ put16 n) ≡ take 2 e)
unfolding be16_at put16
entry_follows [] n f h = absurd (omega arith)
entry_follows (a ∷ []) n f h = absurd (omega arith)
entry_follows (a ∷ b ∷ s) n f h = let z : n % 65536 ≡ n = omega arith in (be16_put n ∙ z, refl)

-- the length of a table that was read is that of its body
body_length : (y : Found) → Again (raw table) (λ x. x.1) y → (length y.1 - 4 ≡ length y.0.body) × (length y.0.body < 65536)
body_length y g = let sp = table_split y.1 y.0 [] (table_of y g) in (omega (arith, sp.size), sp.few)

heads_stay_in : (es : List Bytes) (ys : List Found) → Fours es → Reads ys → map (take 2) (relength es (map (λ y. y.1) ys)) ≡ map (take 2) es
unfolding relength
heads_stay_in [] ys f h = refl
heads_stay_in (e ∷ es) [] f h = refl
heads_stay_in (e ∷ es) (y ∷ ys) f h =
    let l = body_length y h.0 in
    ap₂ (λ (a : Bytes) (as' : List Bytes). a ∷ as') (entry_follows e (length y.1 - 4) f.0 (omega (arith, l.0, l.1))).1 (heads_stay_in es ys f.1 h.1)

heads_fit_in : (es : List Bytes) (ys : List Found) → Fours es → Reads ys
    → take (length ys) (map (λ e. be16_at e 2) (relength es (map (λ y. y.1) ys))) ≡ take (length (relength es (map (λ y. y.1) ys))) (map (λ t. length t.0.body) ys)
unfolding relength
heads_fit_in [] ys f h = take-nil (length ys)
heads_fit_in (e ∷ es) [] f h = refl
heads_fit_in (e ∷ es) (y ∷ ys) f h =
    let l = body_length y h.0 in
    ap₂ (λ (a : ℕ) (as' : List ℕ). a ∷ as') ((entry_follows e (length y.1 - 4) f.0 (omega (arith, l.0, l.1))).0 ∙ l.0) (heads_fit_in es ys f.1 h.1)

heads_past_in : (es : List Bytes) (ys : List Found) → drop (length ys) (relength es (map (λ y. y.1) ys)) ≡ drop (length ys) es
unfolding relength
heads_past_in [] ys = refl
heads_past_in (e ∷ es) [] = refl
heads_past_in (e ∷ es) (y ∷ ys) = heads_past_in es ys

-- ---- a payload

-- flags, counter, message number and version; the length of 32 bits; the message
payload_laid : (s d : Bytes) → 5 ≤ length s → length d < 4294967296
    → (take 5 (payload_bytes s d) ≡ take 5 s) × (be32_at (payload_bytes s d) 5 ≡ length d) × (drop 9 (payload_bytes s d) ≡ d)
unfolding payload_bytes be32_at be16_at put32 put16
payload_laid [] d h k = absurd (omega arith)
payload_laid (f ∷ []) d h k = absurd (omega arith)
payload_laid (f ∷ c ∷ []) d h k = absurd (omega arith)
payload_laid (f ∷ c ∷ i ∷ []) d h k = absurd (omega arith)
payload_laid (f ∷ c ∷ i ∷ j ∷ []) d h k = absurd (omega arith)
payload_laid (f ∷ c ∷ i ∷ j ∷ v ∷ s) d h k =
    let n : length d / 65536 % 65536 * 65536 + length d % 65536 % 65536 ≡ length d = omega arith in
    (refl, rw (be16_put (length d / 65536), be16_put (length d % 65536), n), refl)

module _ (o : Options) (p : ℕ) (s b : Bytes) (h : PaHead) (r : Bytes) (message : pa_message s ≡ some b) (head : pa_head b ≡ some (h, r)) where
  abbrev tables : List Found
  tables = (walk (raw table) r).found

  abbrev left : Bytes
  left = (walk (raw table) r).left

  abbrev narrowed : List Bytes
  narrowed = map (table_after o p) tables

  payload_put : length left < 4 → PayloadRecounted o p s (payload_bytes s (pa_bytes h narrowed left)) (stayed o (tables_parts tables)) (went o (tables_parts tables))
  unfolding pa_in pa pa_bytes
  payload_put short =
      let sp = pa_split s b message in
      let hs = head_split b h r head in
      let read : Reads tables = (tables_walked b h r head).again in
      let again : Reads (map (step o p) tables) = all_again (same_wishes o) p tables read in
      let bytes_are : map (λ y. y.1) (map (step o p) tables) ≡ narrowed = step_bytes (same_wishes o) p tables in
      let d : Bytes = pa_bytes h narrowed left in
      let few : length d < 4294967296 = omega (arith, sp.few, long (same_wishes o) p b h r head) in
      let l = payload_laid s d (omega (arith, sp.long)) few in
      let ys : List Found = map (step o p) tables in
      record {
        head_before = h;
        before = walk (raw table) r;
        reads_before = ap pa_within message ∙ ap pa_from head;
        head_after = record { count = h.count; entries = relength h.entries narrowed };
        after = record { found = ys; left = left };
        reads_after = ap pa_within (sp.again d few) ∙ reads_again (same_wishes o) p b h r head;
        front_stays = l.0;
        length_fits = l.1 ∙ ap length (sym l.2);
        laid_out = l.2 ∙ ap (λ (z : List Bytes). h.count ∷ (flatten (relength h.entries narrowed) ++ (flatten z ++ left))) (sym bytes_are);
        count_fits = sym (relength_length h.entries narrowed ∙ hs.number);
        count_stays = refl;
        left_short = short;
        left_stays = refl;
        heads_stay = subst (λ (z : List Bytes). map (take 2) (relength h.entries z) ≡ map (take 2) h.entries) bytes_are (heads_stay_in h.entries ys hs.fours again);
        heads_fit = subst (λ (z : List Bytes). take (length ys) (map (λ e. be16_at e 2) (relength h.entries z)) ≡ take (length (relength h.entries z)) (map (λ t. length t.0.body) ys)) bytes_are
            (heads_fit_in h.entries ys hs.fours again);
        heads_past = subst (λ (z : List Bytes). drop (length ys) (relength h.entries z) ≡ drop (length ys) h.entries) bytes_are (heads_past_in h.entries ys);
        recounted = tables_recounted o p tables read;
      }

-- what was read of a payload that narrowing changes
record PaChanged (o : Options) (p : ℕ) (b d : Bytes) : Type 0 where
  head : PaHead
  rest : Bytes
  was : pa_head b ≡ some (head, rest)
  short : length (walk (raw table) rest).left < 4
  is : pa_bytes head (map (table_after o p) (walk (raw table) rest).found) (walk (raw table) rest).left ≡ d

pa_changed : (o : Options) (p : ℕ) (b d : Bytes) → narrow_pa o p b ≡ some d → PaChanged o p b d
unfolding narrow_pa pa
pa_changed o p b d e = found (pa_head b) refl e
  where
    found : (x : Out PaHead) → pa_head b ≡ x → pa_for o p (pa_from x) ≡ some d → PaChanged o p b d
    found none ex q = absurd (none-ne-some _ q)
    found (some (h, r)) ex q = go (ltb (length (walk (raw table) r).left) 4 && any (table_changes o p) (walk (raw table) r).found) refl q
      where
        go : (a : Bool) → (ltb (length (walk (raw table) r).left) 4 && any (table_changes o p) (walk (raw table) r).found) ≡ a
            → cond a (some (pa_bytes h (map (table_after o p) (walk (raw table) r).found) (walk (raw table) r).left)) none ≡ some d → PaChanged o p b d
        go true ea z = record {
          head = h;
          rest = r;
          was = ex;
          short = ltb-true _ _ (and_both (ltb (length (walk (raw table) r).left) 4) (any (table_changes o p) (walk (raw table) r).found) ea).0;
          is = some-injective _ _ z;
        }
        go false ea z = absurd (none-ne-some _ z)

mapped : {A : Type 0} (f : Bytes → A) (x : Option Bytes) (c : A) → Option.map f x ≡ some c → (y : Bytes) × (x ≡ some y) × (f y ≡ c)
mapped f none c e = absurd (none-ne-some _ e)
mapped f (some y) c e = (y, refl, some-injective _ _ e)

pub payload_narrowed : (o : Options) (p : ℕ) (s y : Bytes) → narrow_payload o p s ≡ some y
    → PayloadRecounted o p s y (stayed o (parts_of_message (pa_message s))) (went o (parts_of_message (pa_message s)))
unfolding narrow_payload pa
payload_narrowed o p s y e = found (pa_message s) refl e
  where
    found : (x : Option Bytes) → pa_message s ≡ x → payload_for o p s x ≡ some y → PayloadRecounted o p s y (stayed o (parts_of_message (pa_message s))) (went o (parts_of_message (pa_message s)))
    found none ex q = absurd (none-ne-some _ q)
    found (some b) ex q =
        let z = mapped (payload_bytes s) (narrow_pa o p b) y q in
        let w = pa_changed o p b z.0 z.1 in
        let is : payload_bytes s (pa_bytes w.head (map (table_after o p) (walk (raw table) w.rest).found) (walk (raw table) w.rest).left) ≡ y = ap (payload_bytes s) w.is ∙ z.2 in
        let parts : tables_parts (walk (raw table) w.rest).found ≡ parts_of_message (pa_message s) = sym (ap parts_of_message ex ∙ ap (λ x. pa_parts (pa_from x)) w.was) in
        subst (λ (v : Bytes × List Part). PayloadRecounted o p s v.0 (stayed o v.1) (went o v.1)) (λ i. (is i, parts i)) (payload_put o p s b w.head w.rest ex w.was w.short)

pub payload_recounted : (o : Options) (p : ℕ) (s : Bytes) (c : Change) → change_payload o p s ≡ some c → PayloadRecounted o p s c.out c.stays c.goes
unfolding change_payload
payload_recounted o p s c e =
    let z = mapped (change_of o (parts_of_message (pa_message s))) (narrow_payload o p s) c e in
    subst (λ (v : Change). PayloadRecounted o p s v.out v.stays v.goes) z.2 (payload_narrowed o p s z.0 z.1)

-- The MPTs read from the output hold exactly the wanted entries of those read from the input, in order.
pub wanted_stay : (o : Options) (p : ℕ) (s y : Bytes) → narrow_payload o p s ≡ some y → mpts_of y ≡ map (only o) (mpts_of s)
unfolding mpts_of
wanted_stay o p s y e =
    let r = payload_narrowed o p s y e in
    ap mpts_within r.reads_after ∙ r.recounted.mpts_are ∙ ap (λ x. map (only o) (mpts_within x)) (sym r.reads_before)

-- ---- a packet

packet_laid : (p : Bytes) (m : Mmtp) (z : Bytes) → mmtp_of p ≡ some m
    → (take 2 (packet_bytes p m z) ≡ take 2 p) × (drop 4 (packet_bytes p m z) ≡ afresh (get_or p 1 0) (take (length p - length m.payload - 4) (drop 4 p) ++ z))
unfolding mmtp_of packet_bytes put16
packet_laid [] m z e = absurd (none-ne-some _ e)
packet_laid (a ∷ []) m z e = absurd (none-ne-some _ e)
packet_laid (a ∷ t ∷ []) m z e = absurd (none-ne-some _ e)
packet_laid (a ∷ t ∷ l ∷ []) m z e = absurd (none-ne-some _ e)
packet_laid (a ∷ t ∷ l ∷ k ∷ s) m z e = (refl, refl)

-- a packet as long as its head says
size_length : (y : Bytes) → size_of y ≡ length y → be16_at y 2 ≡ length (drop 4 y)
unfolding size_of
size_length y e = omega (arith, length-drop 4 y)

pub packet_narrowed : (M : Modes) (o : Options) (p y : Bytes) → length p ≤ 65539 → narrow_packet M o p ≡ some y → PacketRecounted o p (change_of o (parts_of_packet (mmtp_of p)) y)
packet_narrowed M o p y few e =
    let w = rewritten M o p y e in
    let m : Mmtp = w.read in
    let sp = packet_split M p m w.was (and_both (is_signalling m) (may_rewrite M p m) w.may).1 in
    let l = packet_laid p m w.payload w.was in
    let parts : parts_of_message (pa_message m.payload) ≡ parts_of_packet (mmtp_of p) = sym (ap parts_of_packet w.was) in
    record {
      before = m;
      reads_before = w.was;
      after = with_payload m w.payload;
      reads_after = ap mmtp_of (sym w.is) ∙ sp.again w.payload;
      identifier_stays = refl;
      front_stays = ap (take 2) (sym w.is) ∙ l.0;
      length_fits = size_length y (size_follows M o p y few e);
      laid_out = ap (drop 4) (sym w.is) ∙ l.1;
      plain_right = λ ew. subst (λ (x : Bytes). PlainRecounted (get_or p 1 0) (drop 4 p) (drop 4 x)) w.is
          (sp.right ew w.payload (payload_shorter o m.identifier m.payload w.payload w.narrowed));
      recounted = subst (λ (v : List Part). PayloadRecounted o m.identifier m.payload w.payload (stayed o v) (went o v)) parts
          (payload_narrowed o m.identifier m.payload w.payload w.narrowed);
    }

pub packet_recounted : (M : Modes) (o : Options) (p : Bytes) (c : Change) → length p ≤ 65539 → change_packet M o p ≡ some c → PacketRecounted o p c
unfolding change_packet
packet_recounted M o p c few e =
    let z = mapped (change_of o (parts_of_packet (mmtp_of p))) (narrow_packet M o p) c e in
    subst (λ (v : Change). PacketRecounted o p v) z.2 (packet_narrowed M o p z.0 few z.1)

-- ---- a table alone

table_put : (o : Options) (t : Bytes) (u : Table) (rest : Bytes) → table t ≡ some (u, rest) → (y : Bytes) → new_table o 0 u ≡ some y
    → TableAlone o t (change_of o (table_parts u) y)
unfolding raw tables_parts
table_put o t u rest e y n =
    let x : Found = (u, take (length t - length rest) t) in
    let reads : raw table t ≡ some (x, rest) = rw e in
    let g = (raw_framed table_local t x rest reads).1 in
    let is : (step o 0 x).1 ≡ y = ap (λ (z : Option Bytes). Option.get_or z x.1) n in
    record {
      before = u;
      rest = rest;
      reads_before = e;
      after = (step o 0 x).0;
      reads_after = ap table (sym is) ∙ table_of (step o 0 x) (step_again (same_wishes o) 0 x g);
      recounted = subst (λ (v : Bytes × List Part). Recounted o 0 (x ∷ []) (((step o 0 x).0, v.0) ∷ []) (stayed o v.1) (went o v.1)) (λ i. (is i, append-nil (table_parts u) i))
          (tables_recounted o 0 (x ∷ []) (g, tt));
    }

pub table_narrowed : (o : Options) (t y : Bytes) → narrow_table o t ≡ some y → TableAlone o t (change_of o (parts_of_table (table t)) y)
unfolding narrow_table
table_narrowed o t y e = found (table t) refl e
  where
    found : (x : Out Table) → table t ≡ x → table_from o 0 x ≡ some y → TableAlone o t (change_of o (parts_of_table x) y)
    found none ex q = absurd (none-ne-some _ q)
    found (some (u, rest)) ex q = table_put o t u rest ex y q

pub table_recounted : (o : Options) (t : Bytes) (c : Change) → change_table o t ≡ some c → TableAlone o t c
unfolding change_table
table_recounted o t c e =
    let z = mapped (change_of o (parts_of_table (table t))) (narrow_table o t) c e in
    subst (λ (v : Change). TableAlone o t v) z.2 (table_narrowed o t z.0 z.1)

-- ---- a run, and a call: all that is written is accepted packets in order, each as it was or recounted

pass_written : (L : Limits) (M : Modes) (o : Options) (k : Known) (ps : List Bytes) → Written M o ps (pass L M o k ps).out (pass L M o k ps).rewritten
unfolding pass count narrowed_packet
pass_written L M o k [] = record { from = []; some_of = Sublistᴰ.slnil; narrowed = refl; rewritten_are = refl }
pass_written L M o k (p ∷ ps) = go (withheld o (learn L k p).known (mmtp_of p)) (pass_written L M o (learn L k p).known ps)
  where
    r : Passed
    r = pass L M o (learn L k p).known ps

    go : (a : Bool) → Written M o ps r.out r.rewritten
        → Written M o (p ∷ ps) (pass_one a (narrow_packet M o p) p (learn L k p).lost r).out (pass_one a (narrow_packet M o p) p (learn L k p).lost r).rewritten
    go true w = record { from = w.from; some_of = Sublistᴰ.cons w.some_of; narrowed = w.narrowed; rewritten_are = w.rewritten_are }
    go false w = record {
      from = p ∷ w.from;
      some_of = Sublistᴰ.cons-cons refl w.some_of;
      narrowed = ap (λ (l : List Bytes). Option.get_or (narrow_packet M o p) p ∷ l) w.narrowed;
      rewritten_are = ap (λ (n : ℕ). cond (is_some (narrow_packet M o p)) 1 0 + n) w.rewritten_are;
    }

pub push_written : (L : Limits) (M : Modes) (o : Options) → copies_all o ≡ false → (st : State) (chunk : Bytes)
    → Written M o (cut (packet_limit L.work) (st.held ++ chunk)).packets (push L M o st chunk).out (push L M o st chunk).counts.rewritten
unfolding push filtered
push_written L M o e st chunk = rw e (pass_written L M o st.known (cut (packet_limit L.work) (st.held ++ chunk)).packets)

-- A narrowed packet is the packet itself, or it is recounted.
pub narrowed_recounted : (M : Modes) (o : Options) (p : Bytes) → length p ≤ 65539 → (narrowed_packet M o p ≡ p) ⊎ PacketRecounted o p (change_of o (parts_of_packet (mmtp_of p)) (narrowed_packet M o p))
unfolding narrowed_packet
narrowed_recounted M o p few = go (narrow_packet M o p) refl
  where
    go : (x : Option Bytes) → narrow_packet M o p ≡ x → (Option.get_or x p ≡ p) ⊎ PacketRecounted o p (change_of o (parts_of_packet (mmtp_of p)) (Option.get_or x p))
    go none e = inl refl
    go (some y) e = inr (packet_narrowed M o p y few e)
