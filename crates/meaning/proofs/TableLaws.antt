-- A narrowed table: its count is the number of its entries, its length fits its bytes, its entries are those that are wanted, in
-- order; it is no longer than it was; and narrowing by more wishes and then by fewer is narrowing by the fewer.
use Prim.Native.Nat.{ℕ, ◌+◌, ◌/◌, ◌%◌, ◌≤◌, ◌<◌}
use mathlib.Core.Path.{◌≡◌, refl, sym, ap, ◌∙◌, subst}
use mathlib.Core.Logic.{◌⊎◌, inl, inr}
use mathlib.Core.Bool.{Bool, true, false, cond, ◌&&◌}
use mathlib.Core.List.{List, [], ◌∷◌, ◌++◌, map, flatten, append-nil}
use mathlib.Core.Option
use mathlib.Core.Option.{Option, none, some, get_or, none-ne-some, some-injective}
use native.Mathlib.Omega.{arith}
use lib.ListN.{length, take, drop, length-append, length-drop}
use lib.Seq.{take_at, drop_at, length-take-le}
use lib.Dec.{leb, eqb}
use borrow.Author.Tests.{le-leb, leb-true}
use Rattle.meaning.specs.Bytes.{Bytes, be16, put16}
use Rattle.meaning.specs.Lists.{keep, all, is_some}
use Rattle.meaning.specs.Readers.{Out, ◌>>=◌, give, byte, u8, u16, bytes, counted16, many, raw}
use Rattle.meaning.specs.Tables.{Entry, entry, mpt_front, Mpt, mpt, Package, package_entry, plt, service_of, Table, table, is_mpt, is_plt}
use Rattle.meaning.specs.Wishes.{wanted, wanted_entry}
use Rattle.meaning.specs.Narrow.{mpt_body, mpt_keeping, mpt_without, is_service, last_of, plt_keeping, plt_only, plt_for, new_body, table_bytes, new_table, table_from}
use Rattle.meaning.specs.Less.{Fewer}
use Rattle.meaning.specs.declared.Part.{Part}
use Rattle.meaning.specs.declared.Part.TheVariants.{Caption, Carousel, Other}
use Rattle.meaning.specs.declared.Service.{Service}
use Rattle.meaning.specs.declared.Service.TheVariants.{Every, Only}
use Rattle.meaning.specs.declared.Options.{Options}
use Rattle.meaning.proofs.ListLaws.{clash, keep_keep, keep_all, all_under, keep_length}
use Rattle.meaning.proofs.Local.{asset_local, mpt_front_local, package_fields_local}
use Rattle.meaning.proofs.Framed.{before, Again, AllAgain, Framed, raw_framed, made_framed, many_framed, many_again, keep_again}

-- ---- a narrowing by fewer wishes, f₁, beside one by more, f₂

pub record Narrows (f₁ f₂ : Bytes → Option Bytes) : Type 0 where
  -- by more and then by fewer is by fewer
  pub twice : (s : Bytes) → get_or (f₁ (get_or (f₂ s) s)) (get_or (f₂ s) s) ≡ get_or (f₁ s) s
  -- what more wishes change, fewer change
  pub more : (s : Bytes) → is_some (f₂ s) ≡ true → is_some (f₁ s) ≡ true
  -- nothing gets longer
  pub shorter : (s y : Bytes) → f₂ s ≡ some y → length y ≤ length s

-- what was changed to c, is changed to d from c or from s
pub narrows_again : {f₁ f₂ : Bytes → Option Bytes} → Narrows f₁ f₂ → (s c : Bytes) → f₂ s ≡ some c
    → (d : Bytes) × (f₁ s ≡ some d) × (get_or (f₁ c) c ≡ d)
narrows_again {f₁} {f₂} n s c e = go (f₁ s) refl (n.more s (ap is_some e)) (ap (λ (o : Option Bytes). get_or (f₁ (get_or o s)) (get_or o s)) (sym e) ∙ n.twice s)
  where
    go : (o : Option Bytes) → f₁ s ≡ o → is_some (f₁ s) ≡ true → get_or (f₁ c) c ≡ get_or (f₁ s) s → (d : Bytes) × (f₁ s ≡ some d) × (get_or (f₁ c) c ≡ d)
    go none eo m t = clash (let z : false ≡ true = ap is_some (sym eo) ∙ m in cc)
    go (some d) eo m t = (d, eo, t ∙ ap (λ (o : Option Bytes). get_or o s) eo)

pub nothing_narrows : Narrows (λ s. none) (λ s. none)
nothing_narrows = record { twice = λ s. refl; more = λ s e. e; shorter = λ s y e. absurd (none-ne-some _ e) }

pub wanted_under : {o₁ o₂ : Options} → Fewer o₁ o₂ → (part : Part) → wanted o₁ part ≡ true → wanted o₂ part ≡ true
wanted_under f Caption e = f.caption_too e
wanted_under f Carousel e = f.carousel_too e
wanted_under f Other e = f.other_too e

-- ---- reading an MPT

pub entry_framed : Framed entry (λ e. e.bytes_of)
unfolding entry
entry_framed = made_framed _ (λ e. e.bytes_of) (λ a. refl) (raw_framed asset_local)

pub u8_split : (s : Bytes) (n : ℕ) (r : Bytes) → u8 s ≡ some (n, r) → (c : ℕ) × (s ≡ c ∷ r) × (n ≡ c % 256)
unfolding u8 byte
u8_split [] n r e = absurd (none-ne-some _ e)
u8_split (c ∷ s) n r e =
    let q = some-injective _ _ e in
    (c, ap (λ z. c ∷ z.1) q, sym (ap (λ z. z.0) q))

-- an MPT's body in its parts, and that any entries instead of its own read again
pub record MptSplit (b : Bytes) (m : Mpt) (more : Bytes) : Type 0 where
  pub number : ℕ
  pub whole : b ≡ m.front ++ number ∷ (flatten (map (λ e. e.bytes_of) m.entries) ++ more)
  pub entries_again : AllAgain entry (λ e. e.bytes_of) m.entries
  pub counted : length m.entries ≡ number % 256
  pub few : length m.entries < 256
  pub read : (es : List Entry) (t : Bytes) → AllAgain entry (λ e. e.bytes_of) es → length es < 256
      → mpt (mpt_body m.front es t) ≡ some (record { front = m.front; entries = es }, t)

pub mpt_split : (b : Bytes) (m : Mpt) (more : Bytes) → mpt b ≡ some (m, more) → MptSplit b m more
unfolding mpt mpt_body
mpt_split b m more e =
    let b₁ = before (raw mpt_front b) (λ f. u8 >>= (λ n. many n entry >>= (λ es. give (record { front = f.1; entries = es })))) m more e in
    let f = b₁.first in
    let b₂ = before (u8 b₁.rest) (λ n. many n entry >>= (λ es. give (record { front = f.1; entries = es }))) m more b₁.then_was in
    let b₃ = before (many b₂.first entry b₂.rest) (λ es. give (record { front = f.1; entries = es })) m more b₂.then_was in
    let q = some-injective _ _ b₃.then_was in
    let front = raw_framed mpt_front_local b f b₁.rest b₁.was in
    let num = u8_split b₁.rest b₂.first b₂.rest b₂.was in
    let ents = many_framed entry (λ e. e.bytes_of) entry_framed b₂.first b₂.rest b₃.first b₃.rest b₃.was in
    subst (λ (z : Mpt × Bytes). MptSplit b z.0 z.1) q
    (record {
      number = num.0;
      whole = front.0 ∙ ap (λ (z : Bytes). f.1 ++ z) (num.1 ∙ ap (λ (z : Bytes). num.0 ∷ z) ents.whole);
      entries_again = ents.again;
      counted = ents.length_of ∙ num.2;
      few = omega (arith, ents.length_of, num.2);
      read = λ es t h l. read_again f front.1 es t h l;
    })
  where
    read_again : (f : Bytes × Bytes) → Again (raw mpt_front) (λ x. x.1) f → (es : List Entry) (t : Bytes) → AllAgain entry (λ e. e.bytes_of) es → length es < 256
        → mpt (mpt_body f.1 es t) ≡ some (record { front = f.1; entries = es }, t)
    read_again f g es t h l =
        let k : length es % 256 ≡ length es = omega arith in
        let front : raw mpt_front (mpt_body f.1 es t) ≡ some (f, length es ∷ (flatten (map (λ e. e.bytes_of) es) ++ t)) =
        g (length es ∷ (flatten (map (λ e. e.bytes_of) es) ++ t)) in
        rw (front, k, many_again entry (λ e. e.bytes_of) es t h)

-- ---- an MPT narrowed

-- The narrowed body reads as the wanted entries in order, with their number as its count.
pub mpt_reads : (o : Options) (b : Bytes) (m : Mpt) (more : Bytes) → mpt b ≡ some (m, more)
    → mpt (mpt_body m.front (keep (wanted_entry o) m.entries) more) ≡ some (record { front = m.front; entries = keep (wanted_entry o) m.entries }, more)
mpt_reads o b m more e =
    let sp = mpt_split b m more e in
    sp.read (keep (wanted_entry o) m.entries) more (keep_again entry (λ e. e.bytes_of) (wanted_entry o) m.entries sp.entries_again)
    (omega (arith, sp.few, keep_length (wanted_entry o) m.entries))

-- how many bytes are kept
pub kept_bytes_lem : (f : Entry → Bool) (es : List Entry) → length (flatten (map (λ e. e.bytes_of) (keep f es))) ≤ length (flatten (map (λ e. e.bytes_of) es))
unfolding keep flatten
kept_bytes_lem f [] = omega arith
kept_bytes_lem f (e ∷ es) = go (f e) (kept_bytes_lem f es)
  where
    go : (a : Bool) → length (flatten (map (λ e. e.bytes_of) (keep f es))) ≤ length (flatten (map (λ e. e.bytes_of) es))
        → length (flatten (map (λ e. e.bytes_of) (cond a (e ∷ keep f es) (keep f es)))) ≤ length (e.bytes_of ++ flatten (map (λ e. e.bytes_of) es))
    go true ih = simp length-append (omega arith)
    go false ih = simp length-append (omega arith)

mpt_long : (o : Options) (b : Bytes) (m : Mpt) (more : Bytes) → mpt b ≡ some (m, more)
    → length (mpt_body m.front (keep (wanted_entry o) m.entries) more) ≤ length b
unfolding mpt_body
mpt_long o b m more e =
    let w = simp length-append at (ap length (mpt_split b m more e).whole) in
    simp length-append (omega (arith, w, kept_bytes_lem (wanted_entry o) m.entries))

module _ {o₁ o₂ : Options} (fewer : Fewer o₁ o₂) where
  under : (e : Entry) → wanted_entry o₁ e ≡ true → wanted_entry o₂ e ≡ true
  under e = wanted_under fewer e.part

  -- narrowed once by o₁, whether or not by o₂ before
  mpt_after : (b : Bytes) (m : Mpt) (more : Bytes) → mpt b ≡ some (m, more) → all (wanted_entry o₂) m.entries ≡ false
      → get_or (mpt_without o₁ (mpt_body m.front (keep (wanted_entry o₂) m.entries) more)) (mpt_body m.front (keep (wanted_entry o₂) m.entries) more)
      ≡ mpt_body m.front (keep (wanted_entry o₁) m.entries) more
  unfolding mpt_without
  mpt_after b m more e a₂ =
      rw (mpt_reads o₂ b m more e) (go (all (wanted_entry o₁) (keep (wanted_entry o₂) m.entries)) refl)
    where
      same : keep (wanted_entry o₁) (keep (wanted_entry o₂) m.entries) ≡ keep (wanted_entry o₁) m.entries
      same = keep_keep (wanted_entry o₁) (wanted_entry o₂) under m.entries

      go : (a : Bool) → all (wanted_entry o₁) (keep (wanted_entry o₂) m.entries) ≡ a
          → get_or (cond a none (some (mpt_body m.front (keep (wanted_entry o₁) (keep (wanted_entry o₂) m.entries)) more))) (mpt_body m.front (keep (wanted_entry o₂) m.entries) more)
          ≡ mpt_body m.front (keep (wanted_entry o₁) m.entries) more
      go true ea = ap (λ (es : List Entry). mpt_body m.front es more) (sym (keep_all (wanted_entry o₁) (keep (wanted_entry o₂) m.entries) ea) ∙ same)
      go false ea = ap (λ (es : List Entry). mpt_body m.front es more) same

  -- what o₂ does not want all of, o₁ does not
  not_all : (es : List Entry) → all (wanted_entry o₂) es ≡ false → all (wanted_entry o₁) es ≡ false
  not_all es a₂ = go (all (wanted_entry o₁) es) refl
    where
      go : (a : Bool) → all (wanted_entry o₁) es ≡ a → a ≡ false
      go false e = refl
      go true e = clash (cc (all_under (wanted_entry o₁) (wanted_entry o₂) under es e))

  mpt_case : (b : Bytes) (x : Out Mpt) → mpt b ≡ x
      → (get_or (mpt_without o₁ (get_or (mpt_keeping o₂ x) b)) (get_or (mpt_keeping o₂ x) b) ≡ get_or (mpt_keeping o₁ x) b)
      × (is_some (mpt_keeping o₂ x) ≡ true → is_some (mpt_keeping o₁ x) ≡ true)
      × ((y : Bytes) → mpt_keeping o₂ x ≡ some y → length y ≤ length b)
  unfolding mpt_without
  mpt_case b none e = (rw e refl, λ h. h, λ y h. absurd (none-ne-some _ h))
  mpt_case b (some (m, more)) e = go (all (wanted_entry o₂) m.entries) refl
    where
      go : (a : Bool) → all (wanted_entry o₂) m.entries ≡ a
          → let z : Option Bytes = cond a none (some (mpt_body m.front (keep (wanted_entry o₂) m.entries) more)) in
          (get_or (mpt_without o₁ (get_or z b)) (get_or z b) ≡ get_or (mpt_keeping o₁ (some (m, more))) b)
          × (is_some z ≡ true → is_some (mpt_keeping o₁ (some (m, more))) ≡ true)
          × ((y : Bytes) → z ≡ some y → length y ≤ length b)
      go true ea = (rw e refl, λ h. clash (cc), λ y h. absurd (none-ne-some _ h))
      go false ea = (
        mpt_after b m more e ea ∙ rw (not_all m.entries ea) refl,
        λ h. rw (not_all m.entries ea) refl,
        λ y h. subst (λ (z : Bytes). length z ≤ length b) (some-injective _ _ h) (mpt_long o₂ b m more e),
      )

  pub mpt_narrows : Narrows (mpt_without o₁) (mpt_without o₂)
  unfolding mpt_without
  mpt_narrows = record {
    twice = λ b. (mpt_case b (mpt b) refl).0;
    more = λ b. (mpt_case b (mpt b) refl).1;
    shorter = λ b. (mpt_case b (mpt b) refl).2;
  }

-- ---- a PLT of one service

pub package_framed : Framed package_entry (λ p. p.bytes_of)
unfolding package_entry
package_framed = made_framed _ (λ p. p.bytes_of) (λ a. refl) (raw_framed package_fields_local)

-- a PLT's body in its parts
pub record PltSplit (b : Bytes) (ps : List Package) (more : Bytes) : Type 0 where
  pub number : ℕ
  pub whole : b ≡ number ∷ (flatten (map (λ p. p.bytes_of) ps) ++ more)
  pub counted : length ps ≡ number % 256
  pub again : AllAgain package_entry (λ p. p.bytes_of) ps

pub plt_split : (b : Bytes) (ps : List Package) (more : Bytes) → plt b ≡ some (ps, more) → PltSplit b ps more
unfolding plt
plt_split b ps more e =
    let b₁ = before (u8 b) (λ n. many n package_entry) ps more e in
    let num = u8_split b b₁.first b₁.rest b₁.was in
    let m = many_framed package_entry (λ p. p.bytes_of) package_framed b₁.first b₁.rest ps more b₁.then_was in
    record { number = num.0; whole = num.1 ∙ ap (λ (z : Bytes). num.0 ∷ z) m.whole; counted = m.length_of ∙ num.2; again = m.again }

-- the entry that stays is one of the service's, reads again, and is no longer than all
record Stays (s : ℕ) (e : Bytes) (most : ℕ) : Type 0 where
  row : Package
  is_e : row.bytes_of ≡ e
  ours : is_service s (service_of row.name) ≡ true
  again : Again package_entry (λ p. p.bytes_of) row
  fits : length e ≤ most

stays_wider : {s : ℕ} {e : Bytes} {m n : ℕ} → m ≤ n → Stays s e m → Stays s e n
stays_wider l x = record { row = x.row; is_e = x.is_e; ours = x.ours; again = x.again; fits = omega (arith, x.fits) }

last_stays : (s : ℕ) (ps : List Package) (o : Option Bytes) (e : Bytes) → AllAgain package_entry (λ p. p.bytes_of) ps → last_of s ps o ≡ some e
    → (o ≡ some e) ⊎ Stays s e (length (flatten (map (λ p. p.bytes_of) ps)))
unfolding last_of flatten
last_stays s [] o e h q = inl q
last_stays s (p ∷ ps) o e h q = go (is_service s (service_of p.name)) refl (last_stays s ps (cond (is_service s (service_of p.name)) (some p.bytes_of) o) e h.1 q)
  where
    all_of : length (p.bytes_of ++ flatten (map (λ p. p.bytes_of) ps)) ≡ length p.bytes_of + length (flatten (map (λ p. p.bytes_of) ps))
    all_of = length-append p.bytes_of _

    here : is_service s (service_of p.name) ≡ true → p.bytes_of ≡ e → Stays s e (length (p.bytes_of ++ flatten (map (λ p. p.bytes_of) ps)))
    here i r = record { row = p; is_e = r; ours = i; again = h.0; fits = omega (arith, all_of, ap length r) }

    go : (a : Bool) → is_service s (service_of p.name) ≡ a → (cond (is_service s (service_of p.name)) (some p.bytes_of) o ≡ some e) ⊎ Stays s e (length (flatten (map (λ p. p.bytes_of) ps)))
        → (o ≡ some e) ⊎ Stays s e (length (p.bytes_of ++ flatten (map (λ p. p.bytes_of) ps)))
    go a ea (inr x) = inr (stays_wider (omega (arith, all_of)) x)
    go true ea (inl x) = inr (here ea (some-injective _ _ (rw ea at x)))
    go false ea (inl x) = inl (rw ea at x)

module _ (s : ℕ) where
  -- kept alone, the entry is kept again
  one_again : (e more : Bytes) (n : ℕ) → Stays s e n → plt_only s (1 ∷ (e ++ more)) ≡ some (1 ∷ (e ++ more))
  unfolding plt_only plt last_of u8 byte many
  one_again e more n x =
      rw (← x.is_e, x.again more, x.ours)

  plt_case : (b : Bytes) (x : Out (List Package)) → plt b ≡ x → (y : Bytes) → plt_keeping s x ≡ some y → (plt_only s y ≡ some y) × (length y ≤ length b)
  plt_case b none e y h = absurd (none-ne-some _ h)
  plt_case b (some (ps, more)) e y h = go (last_of s ps none) refl h
    where
      sp : PltSplit b ps more
      sp = plt_split b ps more e

      found : (z : Bytes) → last_of s ps none ≡ some z → Stays s z (length (flatten (map (λ p. p.bytes_of) ps)))
      found z q = elim (last_stays s ps none z sp.again q) [ inl a ↦ absurd (none-ne-some _ a) | inr a ↦ a ]

      go : (o : Option Bytes) → last_of s ps none ≡ o → Option.map (λ e. 1 ∷ (e ++ more)) o ≡ some y → (plt_only s y ≡ some y) × (length y ≤ length b)
      go none q g = absurd (none-ne-some _ g)
      go (some z) q g =
          let r = some-injective _ _ g in
          let x = found z q in
          let w = simp length-append at (ap length sp.whole) in
          subst (λ (v : Bytes). (plt_only s v ≡ some v) × (length v ≤ length b)) r
          (one_again z more _ x, simp length-append (omega (arith, w, x.fits)))

  pub plt_narrows : Narrows (plt_only s) (plt_only s)
  unfolding plt_only
  plt_narrows = record {
    twice = λ b. go b (plt_only s b) refl;
    more = λ b h. h;
    shorter = λ b y e. (plt_case b (plt b) refl y e).1;
  }
    where
      go : (b : Bytes) (o : Option Bytes) → plt_only s b ≡ o → get_or (plt_only s (get_or o b)) (get_or o b) ≡ get_or o b
      go b none e = rw e refl
      go b (some y) e = rw (plt_case b (plt b) refl y e).0 refl

-- ---- a table by its number

service_narrows : (v : Service) → Narrows (plt_for v) (plt_for v)
service_narrows Every = nothing_narrows
service_narrows (Only s) = plt_narrows s

module _ {o₁ o₂ : Options} (fewer : Fewer o₁ o₂) (p number : ℕ) where
  for_narrows : Narrows (plt_for o₁.service) (plt_for o₂.service)
  for_narrows = subst (λ (v : Service). Narrows (plt_for o₁.service) (plt_for v)) fewer.service_same (service_narrows o₁.service)

  pub body_narrows : Narrows (new_body o₁ p number) (new_body o₂ p number)
  unfolding new_body
  body_narrows = go (is_mpt number) (is_plt number && eqb p 0)
    where
      go : (a b : Bool) → Narrows (λ c. cond a (mpt_without o₁ c) (cond b (plt_for o₁.service c) none)) (λ c. cond a (mpt_without o₂ c) (cond b (plt_for o₂.service c) none))
      go true b = mpt_narrows fewer
      go false true = for_narrows
      go false false = nothing_narrows

-- ---- a table with its head: its length fits its bytes

pub be16_put : (n : ℕ) → be16 (n / 256 % 256) (n % 256) ≡ n % 65536
unfolding be16
be16_put n = omega arith

pub be16_small : (a b : ℕ) → be16 a b < 65536
unfolding be16
be16_small a b = omega arith

pub u16_below : (s : Bytes) (n : ℕ) (r : Bytes) → u16 s ≡ some (n, r) → n < 65536
unfolding u16 byte
u16_below [] n r e = absurd (none-ne-some _ e)
u16_below (a ∷ []) n r e = absurd (none-ne-some _ e)
u16_below (a ∷ b ∷ s) n r e = subst (λ (m : ℕ). m < 65536) (ap (λ z. z.0) (some-injective _ _ e)) (be16_small a b)

-- the table with another body
abbrev pub with_body : Table → Bytes → Table
with_body t b = record { number = t.number; version = t.version; body = b }

-- number, version, length and body in order
table_bytes_lem : (t : Table) (b r : Bytes) → table_bytes t b ++ r ≡ t.number ∷ t.version ∷ length b / 256 % 256 ∷ length b % 256 ∷ (b ++ r)
unfolding table_bytes put16
table_bytes_lem t b r = refl

pub table_again : (t : Table) (b r : Bytes) → length b < 65536 → table (table_bytes t b ++ r) ≡ some (with_body t b, r)
unfolding table byte counted16 u16 bytes
table_again t b r h =
    let l : length b ≤ length (b ++ r) = omega (arith, length-append b r) in
    let e : length b % 65536 ≡ length b = omega arith in
    rw (table_bytes_lem t b r, be16_put (length b), e, le-leb _ _ l, take_at b r (length b) refl, drop_at b r (length b) refl)

pub record TableSplit (y : Bytes) (t : Table) (r : Bytes) : Type 0 where
  pub few : length t.body < 65536
  pub size : length y ≡ 4 + length t.body + length r

-- a body of sixteen bits' length
counted_split : (h l : ℕ) (s b r : Bytes) → bytes (be16 h l) s ≡ some (b, r) → (length b < 65536) × (length s ≡ length b + length r)
unfolding bytes
counted_split h l s b r e = go (leb (be16 h l) (length s)) refl e
  where
    go : (a : Bool) → leb (be16 h l) (length s) ≡ a → cond {A = Out Bytes} a (some (take (be16 h l) s, drop (be16 h l) s)) none ≡ some (b, r) → (length b < 65536) × (length s ≡ length b + length r)
    go false ea q = absurd (none-ne-some _ q)
    go true ea q =
        let z = some-injective _ _ q in
        let n : be16 h l ≤ length s = leb-true _ _ ea in
        let lb : length (take (be16 h l) s) ≡ length b = ap (λ x. length x.0) z in
        let lr : length (drop (be16 h l) s) ≡ length r = ap (λ x. length x.1) z in
        (omega (arith, be16_small h l, length-take-le (be16 h l) s n), omega (arith, length-take-le (be16 h l) s n, length-drop (be16 h l) s))

pub table_split : (y : Bytes) (t : Table) (r : Bytes) → table y ≡ some (t, r) → TableSplit y t r
unfolding table byte counted16 u16
table_split [] t r e = absurd (none-ne-some _ e)
table_split (a ∷ []) t r e = absurd (none-ne-some _ e)
table_split (a ∷ v ∷ []) t r e = absurd (none-ne-some _ e)
table_split (a ∷ v ∷ h ∷ []) t r e = absurd (none-ne-some _ e)
table_split (a ∷ v ∷ h ∷ l ∷ s) t r e =
    let b = before (bytes (be16 h l) s) (λ body. give (record { number = a; version = v; body = body })) t r e in
    let q = some-injective _ _ b.then_was in
    let c = counted_split h l s b.first b.rest b.was in
    subst (λ (z : Table × Bytes). TableSplit (a ∷ v ∷ h ∷ l ∷ s) z.0 z.1) q
    (record { few = c.0; size = omega (arith, c.1) })

pub table_length : (t : Table) (b : Bytes) → length (table_bytes t b) ≡ 4 + length b
unfolding table_bytes put16
table_length t b = omega arith

same_bytes_lem : (t : Table) (c z : Bytes) → table_bytes (with_body t c) z ≡ table_bytes t z
unfolding table_bytes
same_bytes_lem t c z = refl

-- The narrowing of the table at the front of some bytes.
abbrev pub narrow_at : Options → ℕ → Bytes → Option Bytes
narrow_at o p y = table_from o p (table y)

module _ {o₁ o₂ : Options} (fewer : Fewer o₁ o₂) (p : ℕ) where
  -- the table as o₁ leaves it, after o₂ gave it the body c
  after_change : (t : Table) (c : Bytes) → length c < 65536 → new_body o₂ p t.number t.body ≡ some c
      → (d : Bytes) × (new_table o₁ p t ≡ some d) × (get_or (narrow_at o₁ p (table_bytes t c)) (table_bytes t c) ≡ d)
  unfolding new_table
  after_change t c l e =
      let x = narrows_again (body_narrows fewer p t.number) t.body c e in
      let re : table (table_bytes t c) ≡ some (with_body t c, []) = ap table (sym (append-nil (table_bytes t c))) ∙ table_again t c [] l in
      (table_bytes t x.0, rw x.1 refl, rw re (go (new_body o₁ p t.number c) refl x.0 x.2))
    where
      go : (o : Option Bytes) → new_body o₁ p t.number c ≡ o → (d : Bytes) → get_or (new_body o₁ p t.number c) c ≡ d
          → get_or (Option.map (table_bytes (with_body t c)) (new_body o₁ p t.number c)) (table_bytes t c) ≡ table_bytes t d
      go none eo d q = rw eo (ap (table_bytes t) (sym (ap (λ (o : Option Bytes). get_or o c) eo) ∙ q))
      go (some z) eo d q = rw eo (same_bytes_lem t c z ∙ ap (table_bytes t) (sym (ap (λ (o : Option Bytes). get_or o c) eo) ∙ q))

  table_case : (y : Bytes) (x : Out Table) → table y ≡ x
      → (get_or (narrow_at o₁ p (get_or (table_from o₂ p x) y)) (get_or (table_from o₂ p x) y) ≡ get_or (table_from o₁ p x) y)
      × (is_some (table_from o₂ p x) ≡ true → is_some (table_from o₁ p x) ≡ true)
      × ((z : Bytes) → table_from o₂ p x ≡ some z → length z ≤ length y)
  unfolding new_table
  table_case y none e = (rw e refl, λ h. h, λ z h. absurd (none-ne-some _ h))
  table_case y (some (t, r)) e = go (new_body o₂ p t.number t.body) refl
    where
      go : (o : Option Bytes) → new_body o₂ p t.number t.body ≡ o → let z : Option Bytes = Option.map (table_bytes t) o in
          (get_or (narrow_at o₁ p (get_or z y)) (get_or z y) ≡ get_or (new_table o₁ p t) y)
          × (is_some z ≡ true → is_some (new_table o₁ p t) ≡ true)
          × ((v : Bytes) → z ≡ some v → length v ≤ length y)
      go none eo = (rw e refl, λ h. clash (cc), λ z h. absurd (none-ne-some _ h))
      go (some c) eo =
          let sp = table_split y t r e in
          let short = (body_narrows fewer p t.number).shorter t.body c eo in
          let x = after_change t c (omega (arith, sp.few)) eo in (
            x.2 ∙ rw x.1 refl,
            λ h. rw x.1 refl,
            λ v h. omega (arith, ap length (some-injective _ _ h), table_length t c, sp.size),
          )

  pub table_narrows : Narrows (narrow_at o₁ p) (narrow_at o₂ p)
  table_narrows = record {
    twice = λ y. (table_case y (table y) refl).0;
    more = λ y. (table_case y (table y) refl).1;
    shorter = λ y. (table_case y (table y) refl).2;
  }
