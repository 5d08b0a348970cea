-- A narrowed PA body: its head's entries take the tables' lengths, it reads again as the narrowed tables, it is no longer than it was,
-- and narrowing by more wishes and then by fewer is narrowing by the fewer. Rests on TableLaws.
use Prim.Native.Nat.{ℕ, suc, ◌-◌, ◌*◌, ◌%◌, ◌≤◌}
use mathlib.Core.Path.{◌≡◌, refl, sym, ap, ap₂, ◌∙◌, subst}
use mathlib.Core.Logic.{inl, inr}
use mathlib.Core.Bool.{Bool, true, false, cond, ◌&&◌}
use mathlib.Core.List.{List, [], ◌∷◌, ◌++◌, map, flatten, append-nil}
use mathlib.Core.Option
use mathlib.Core.Option.{Option, none, some, get_or, none-ne-some, some-injective}
use native.Mathlib.Omega.{arith}
use lib.ListN.{length, take, drop, length-append, length-map, take-append-drop}
use lib.Seq.{take_at, drop_at, length-take-le}
use lib.Dec.{leb, ltb}
use borrow.Author.Tests.{le-leb, leb-true}
use Rattle.meaning.specs.Bytes.{Bytes, put16}
use Rattle.meaning.specs.Lists.{any, is_some}
use Rattle.meaning.specs.Readers.{Out, give, byte, bytes, many, raw, walk}
use Rattle.meaning.specs.Tables.{Table, table, PaHead, pa_head, pa_from, pa}
use Rattle.meaning.specs.Narrow.{new_body, table_bytes, new_table, table_after, table_changes, relength, pa_bytes, pa_for, narrow_pa}
use Rattle.meaning.specs.Less.{Fewer}
use Rattle.meaning.specs.declared.Options.{Options}
use Rattle.meaning.proofs.ListLaws.{clash, and_both, both_true, or_either, or_left, or_right, or_neither}
use Rattle.meaning.proofs.Local.{table_local, raw_local, take_front}
use Rattle.meaning.proofs.Framed.{before, Again, AllAgain, Framed, raw_framed, many_framed, many_again, Walked, walked, walk_again}
use Rattle.meaning.proofs.TableLaws.{Narrows, with_body, table_again, table_split, narrow_at, table_narrows, body_narrows}

abbrev pub Found : Type 0
Found = Table × Bytes

abbrev pub Reads : List Found → Type 0
Reads = AllAgain (raw table) (λ x. x.1)

pub raw_nil : raw table [] ≡ none
unfolding raw table byte
raw_nil = refl

-- ---- one table of the walk

-- it reads from its own bytes with none left
pub table_of : (x : Found) → Again (raw table) (λ x. x.1) x → table x.1 ≡ some (x.0, [])
unfolding raw
table_of x g =
    let s : Bytes = x.1 ++ [] in
    let b = before (table s) (λ a r. some ((a, take (length s - length r) s), r)) x [] (g []) in
    let q = some-injective _ _ b.then_was in
    ap table (sym (append-nil x.1)) ∙ b.was ∙ ap₂ (λ (t : Table) (r : Bytes). some (t, r)) (ap (λ z. z.0.0) q) (ap (λ z. z.1) q)

-- as narrowing leaves it
abbrev pub step : Options → ℕ → Found → Found
step o p x = (with_body x.0 (get_or (new_body o p x.0.number x.0.body) x.0.body), table_after o p x)

-- it is its bytes narrowed
after_at : (o : Options) (p : ℕ) (x : Found) → Again (raw table) (λ x. x.1) x → new_table o p x.0 ≡ narrow_at o p x.1
after_at o p x g = rw (table_of x g) refl

raw_of : (y t : Bytes) (u : Table) → table (y ++ t) ≡ some (u, t) → raw table (y ++ t) ≡ some ((u, y), t)
unfolding raw
raw_of y t u e = rw (e, take_front y t)

-- and it reads again
pub step_again : {o₁ o₂ : Options} → Fewer o₁ o₂ → (p : ℕ) (x : Found) → Again (raw table) (λ x. x.1) x → Again (raw table) (λ x. x.1) (step o₂ p x)
unfolding new_table
step_again {o₁} {o₂} fewer p x g t = go (new_body o₂ p x.0.number x.0.body) refl
  where
    go : (o : Option Bytes) → new_body o₂ p x.0.number x.0.body ≡ o
        → raw table (get_or (Option.map (table_bytes x.0) o) x.1 ++ t)
        ≡ some ((with_body x.0 (get_or o x.0.body), get_or (Option.map (table_bytes x.0) o) x.1), t)
    go none e = g t
    go (some c) e =
        let sp = table_split x.1 x.0 [] (table_of x g) in
        let short = (body_narrows fewer p x.0.number).shorter x.0.body c e in
        raw_of (table_bytes x.0 c) t (with_body x.0 c) (table_again x.0 c t (omega (arith, sp.few)))

-- ---- all tables of the walk

module _ {o₁ o₂ : Options} (fewer : Fewer o₁ o₂) (p : ℕ) where
  pub all_again : (xs : List Found) → Reads xs → Reads (map (step o₂ p) xs)
  all_again [] h = tt
  all_again (x ∷ xs) h = (step_again fewer p x h.0, all_again xs h.1)

  pub step_bytes : (xs : List Found) → map (λ x. x.1) (map (step o₂ p) xs) ≡ map (table_after o₂ p) xs
  step_bytes [] = refl
  step_bytes (x ∷ xs) = ap (λ (l : List Bytes). table_after o₂ p x ∷ l) (step_bytes xs)

  -- by more and then by fewer
  after_after : (x : Found) → Again (raw table) (λ x. x.1) x → table_after o₁ p (step o₂ p x) ≡ table_after o₁ p x
  after_after x g =
      let e₂ = after_at o₂ p x g in
      ap (λ (o : Option Bytes). get_or o (table_after o₂ p x)) (after_at o₁ p (step o₂ p x) (step_again fewer p x g))
      ∙ ap (λ (o : Option Bytes). get_or (narrow_at o₁ p (get_or o x.1)) (get_or o x.1)) e₂
      ∙ (table_narrows fewer p).twice x.1
      ∙ ap (λ (o : Option Bytes). get_or o x.1) (sym (after_at o₁ p x g))

  all_after : (xs : List Found) → Reads xs → map (table_after o₁ p) (map (step o₂ p) xs) ≡ map (table_after o₁ p) xs
  all_after [] h = refl
  all_after (x ∷ xs) h = ap₂ (λ (a : Bytes) (l : List Bytes). a ∷ l) (after_after x h.0) (all_after xs h.1)

  -- what more wishes change, fewer change
  changes_more : (x : Found) → Again (raw table) (λ x. x.1) x → table_changes o₂ p x ≡ true → table_changes o₁ p x ≡ true
  changes_more x g e = ap is_some (after_at o₁ p x g) ∙ (table_narrows fewer p).more x.1 (ap is_some (sym (after_at o₂ p x g)) ∙ e)

  any_more : (xs : List Found) → Reads xs → any (table_changes o₂ p) xs ≡ true → any (table_changes o₁ p) xs ≡ true
  unfolding any
  any_more [] h e = e
  any_more (x ∷ xs) h e =
      elim (or_either (table_changes o₂ p x) (any (table_changes o₂ p) xs) e) [
        | inl a ↦ or_left (table_changes o₁ p x) (any (table_changes o₁ p) xs) (changes_more x h.0 a)
        | inr b ↦ or_right (table_changes o₁ p x) (any (table_changes o₁ p) xs) (any_more xs h.1 b)
      ]

  -- nothing gets longer
  pub after_shorter : (x : Found) → Again (raw table) (λ x. x.1) x → length (table_after o₂ p x) ≤ length x.1
  after_shorter x g = go (new_table o₂ p x.0) refl
    where
      go : (o : Option Bytes) → new_table o₂ p x.0 ≡ o → length (get_or o x.1) ≤ length x.1
      go none e = omega arith
      go (some y) e = (table_narrows fewer p).shorter x.1 y (sym (after_at o₂ p x g) ∙ e)

  all_shorter : (xs : List Found) → Reads xs → length (flatten (map (table_after o₂ p) xs)) ≤ length (flatten (map (λ x. x.1) xs))
  unfolding flatten
  all_shorter [] h = omega arith
  all_shorter (x ∷ xs) h = simp length-append (omega (arith, after_shorter x h.0, all_shorter xs h.1))

-- where nothing changes, the bytes stay
none_changed : (o : Options) (p : ℕ) (xs : List Found) → any (table_changes o p) xs ≡ false → map (table_after o p) xs ≡ map (λ x. x.1) xs
unfolding any
none_changed o p [] e = refl
none_changed o p (x ∷ xs) e =
    let h = or_neither (table_changes o p x) (any (table_changes o p) xs) e in
    ap₂ (λ (a : Bytes) (l : List Bytes). a ∷ l) (same (new_table o p x.0) refl h.0) (none_changed o p xs h.1)
  where
    same : (n : Option Bytes) → new_table o p x.0 ≡ n → is_some (new_table o p x.0) ≡ false → get_or n x.1 ≡ x.1
    same none en f = refl
    same (some y) en f = clash (let z : true ≡ false = ap is_some (sym en) ∙ f in cc)

-- ---- the head and its entries of four bytes

abbrev pub Fours : List Bytes → Type 0
Fours [] = Unit {0}
Fours (e ∷ es) = (length e ≡ 4) × Fours es

pub relength_length : (es ts : List Bytes) → length (relength es ts) ≡ length es
unfolding relength
relength_length [] ts = refl
relength_length (e ∷ es) [] = refl
relength_length (e ∷ es) (t ∷ ts) = ap suc (relength_length es ts)

relength_four : (e t : Bytes) → length e ≡ 4 → length (take 2 e ++ put16 (length t - 4)) ≡ 4
unfolding put16
relength_four e t h = simp length-append (omega (arith, length-take-le 2 e (omega arith)))

pub relength_fours : (es ts : List Bytes) → Fours es → Fours (relength es ts)
unfolding relength
relength_fours [] ts f = tt
relength_fours (e ∷ es) [] f = f
relength_fours (e ∷ es) (t ∷ ts) f = (relength_four e t f.0, relength_fours es ts f.1)

relength_twice : (es ts us : List Bytes) → Fours es → length ts ≡ length us → relength (relength es ts) us ≡ relength es us
unfolding relength
relength_twice [] ts us f e = refl
relength_twice (h ∷ es) [] [] f e = refl
relength_twice (h ∷ es) [] (u ∷ us) f e = absurd (omega arith)
relength_twice (h ∷ es) (t ∷ ts) [] f e = absurd (omega arith)
relength_twice (h ∷ es) (t ∷ ts) (u ∷ us) f e =
    let l : length (take 2 h) ≡ 2 = length-take-le 2 h (omega (arith, f.0)) in
    ap₂ (λ (a : Bytes) (b : List Bytes). (a ++ put16 (length u - 4)) ∷ b) (take_at (take 2 h) (put16 (length t - 4)) 2 l) (relength_twice es ts us f.1 (omega arith))

fours_length : (es : List Bytes) → Fours es → length (flatten es) ≡ 4 * length es
unfolding flatten
fours_length [] f = refl
fours_length (e ∷ es) f = simp length-append (omega (arith, f.0, fours_length es f.1))

four_again : (e : Bytes) → length e ≡ 4 → Again (bytes 4) (λ x. x) e
unfolding bytes
four_again e h t =
    let l : 4 ≤ length (e ++ t) = omega (arith, length-append e t) in
    rw (le-leb _ _ l, take_at e t 4 h, drop_at e t 4 h)

fours_again : (es : List Bytes) → Fours es → AllAgain (bytes 4) (λ x. x) es
fours_again [] f = tt
fours_again (e ∷ es) f = (four_again e f.0, fours_again es f.1)

pub map_same : (es : List Bytes) → map (λ x. x) es ≡ es
map_same [] = refl
map_same (e ∷ es) = ap (λ (l : List Bytes). e ∷ l) (map_same es)

pub head_again : (h : PaHead) (t : Bytes) → Fours h.entries → length h.entries ≡ h.count % 256
    → pa_head (h.count ∷ (flatten h.entries ++ t)) ≡ some (h, t)
unfolding pa_head byte
head_again h t f l =
    let m = many_again (bytes 4) (λ x. x) h.entries t (fours_again h.entries f) in
    let n : many (h.count % 256) (bytes 4) (flatten h.entries ++ t) ≡ some (h.entries, t) =
    ap₂ (λ (k : ℕ) (z : List Bytes). many k (bytes 4) (flatten z ++ t)) (sym l) (sym (map_same h.entries)) ∙ m in
    rw n

pub record HeadSplit (s : Bytes) (h : PaHead) (r : Bytes) : Type 0 where
  pub whole : s ≡ h.count ∷ (flatten h.entries ++ r)
  pub fours : Fours h.entries
  pub number : length h.entries ≡ h.count % 256

pub bytes_framed : (n : ℕ) → Framed (bytes n) (λ x. x)
unfolding bytes
bytes_framed n s a r e = go (leb n (length s)) refl e
  where
    go : (b : Bool) → leb n (length s) ≡ b → cond {A = Out Bytes} b (some (take n s, drop n s)) none ≡ some (a, r)
        → (s ≡ a ++ r) × ((t : Bytes) → cond {A = Out Bytes} (leb n (length (a ++ t))) (some (take n (a ++ t), drop n (a ++ t))) none ≡ some (a, t))
    go false eb q = absurd (none-ne-some _ q)
    go true eb q =
        let z = some-injective _ _ q in
        let k : n ≤ length s = leb-true _ _ eb in
        let la : length a ≡ n = sym (ap (λ x. length x.0) z) ∙ length-take-le n s k in (
          sym (take-append-drop n s) ∙ ap₂ (λ (x y : Bytes). x ++ y) (ap (λ x. x.0) z) (ap (λ x. x.1) z),
          λ t. let m : n ≤ length (a ++ t) = omega (arith, length-append a t) in rw (le-leb _ _ m, take_at a t n la, drop_at a t n la),
        )

-- as many as were asked for
pub taken : (n : ℕ) (s a r : Bytes) → bytes n s ≡ some (a, r) → length a ≡ n
unfolding bytes
taken n s a r e = go (leb n (length s)) refl e
  where
    go : (b : Bool) → leb n (length s) ≡ b → cond {A = Out Bytes} b (some (take n s, drop n s)) none ≡ some (a, r) → length a ≡ n
    go false eb q = absurd (none-ne-some _ q)
    go true eb q = sym (ap (λ x. length x.0) (some-injective _ _ q)) ∙ length-take-le n s (leb-true _ _ eb)

all_fours : (es : List Bytes) → AllAgain (bytes 4) (λ x. x) es → Fours es
all_fours [] h = tt
all_fours (e ∷ es) h = (four (h.0 []), all_fours es h.1)
  where
    four : bytes 4 (e ++ []) ≡ some (e, []) → length e ≡ 4
    four q = taken 4 (e ++ []) e [] q

pub head_split : (s : Bytes) (h : PaHead) (r : Bytes) → pa_head s ≡ some (h, r) → HeadSplit s h r
unfolding pa_head byte
head_split [] h r e = absurd (none-ne-some _ e)
head_split (c ∷ s) h r e =
    let b = before (many (c % 256) (bytes 4) s) (λ es. give (record { count = c; entries = es })) h r e in
    let q = some-injective _ _ b.then_was in
    let m = many_framed (bytes 4) (λ x. x) (bytes_framed 4) (c % 256) s b.first b.rest b.was in
    subst (λ (z : PaHead × Bytes). HeadSplit (c ∷ s) z.0 z.1) q
    (record {
      whole = ap (λ (z : Bytes). c ∷ z) (m.whole ∙ ap (λ (z : List Bytes). flatten z ++ b.rest) (map_same b.first));
      fours = all_fours b.first m.again;
      number = m.length_of;
    })

-- ---- the whole body

-- the tables of a walk, told by what they are
module _ (s : Bytes) (h : PaHead) (r : Bytes) (e : pa_head s ≡ some (h, r)) where
  pub tables_walked : Walked (raw table) (λ x. x.1) r (walk (raw table) r)
  tables_walked = walked (raw_local table_local) raw_nil (λ x. x.1) (raw_framed table_local) r

-- a body of a head, tables and bytes that read no table, read again
body_again : (h : PaHead) (xs : List Found) (left : Bytes) → Fours h.entries → length h.entries ≡ h.count % 256 → Reads xs → raw table left ≡ none
    → pa (h.count ∷ (flatten h.entries ++ (flatten (map (λ x. x.1) xs) ++ left))) ≡ some (h, record { found = xs; left = left })
unfolding pa
body_again h xs left f l g n =
    rw (head_again h (flatten (map (λ x. x.1) xs) ++ left) f l, walk_again (raw_local table_local) raw_nil (λ x. x.1) xs left g n)

module _ {o₁ o₂ : Options} (fewer : Fewer o₁ o₂) (p : ℕ) where
  -- the parts of a body that more wishes change
  module _ (s : Bytes) (h : PaHead) (r : Bytes) (e : pa_head s ≡ some (h, r)) where
    abbrev pub xs : List Found
    xs = (walk (raw table) r).found

    abbrev pub left : Bytes
    left = (walk (raw table) r).left

    abbrev pub ts₁ : List Bytes
    ts₁ = map (table_after o₁ p) xs

    abbrev pub ts₂ : List Bytes
    ts₂ = map (table_after o₂ p) xs

    abbrev pub h₂ : PaHead
    h₂ = record { count = h.count; entries = relength h.entries ts₂ }

    same_long : length ts₂ ≡ length ts₁
    same_long = length-map xs (table_after o₂ p) ∙ sym (length-map xs (table_after o₁ p))

    -- what more wishes leave reads as the narrowed tables
    pub reads_again : pa (pa_bytes h ts₂ left) ≡ some (h₂, record { found = map (step o₂ p) xs; left = left })
    unfolding pa_bytes
    reads_again =
        let sp = head_split s h r e in
        let w = tables_walked s h r e in
        ap (λ (z : List Bytes). pa (h.count ∷ (flatten (relength h.entries ts₂) ++ (flatten z ++ left)))) (sym (step_bytes fewer p xs))
        ∙ body_again h₂ (map (step o₂ p) xs) left (relength_fours h.entries ts₂ sp.fours) (relength_length h.entries ts₂ ∙ sp.number)
        (all_again fewer p xs w.again) w.ended

    -- and fewer make of it what they make of the first
    after_more : ltb (length left) 4 ≡ true → get_or (narrow_pa o₁ p (pa_bytes h ts₂ left)) (pa_bytes h ts₂ left) ≡ pa_bytes h ts₁ left
    unfolding narrow_pa pa_bytes
    after_more lt = rw (reads_again, lt) (go (any (table_changes o₁ p) (map (step o₂ p) xs)) refl)
      where
        w : Walked (raw table) (λ x. x.1) r (walk (raw table) r)
        w = tables_walked s h r e

        same : map (table_after o₁ p) (map (step o₂ p) xs) ≡ ts₁
        same = all_after fewer p xs w.again

        go : (a : Bool) → any (table_changes o₁ p) (map (step o₂ p) xs) ≡ a
            → get_or (cond a (some (pa_bytes h₂ (map (table_after o₁ p) (map (step o₂ p) xs)) left)) none) (pa_bytes h ts₂ left) ≡ pa_bytes h ts₁ left
        go true ea =
            ap (λ (z : List Bytes). pa_bytes h₂ z left) same
            ∙ ap (λ (z : List Bytes). h.count ∷ (flatten z ++ (flatten ts₁ ++ left))) (relength_twice h.entries ts₂ ts₁ (head_split s h r e).fours same_long)
        go false ea =
            ap (λ (z : List Bytes). pa_bytes h z left) (sym (step_bytes fewer p xs) ∙ sym (none_changed o₁ p (map (step o₂ p) xs) ea) ∙ same)

    pub long : length (pa_bytes h ts₂ left) ≤ length s
    unfolding pa_bytes
    long =
        let sp = head_split s h r e in
        let w = tables_walked s h r e in
        let ls = simp length-append at (ap length sp.whole) in
        let lr = simp length-append at (ap length w.whole) in
        simp length-append
        (omega (
          arith,
          ls,
          lr,
          fours_length h.entries sp.fours,
          fours_length (relength h.entries ts₂) (relength_fours h.entries ts₂ sp.fours),
          relength_length h.entries ts₂,
          all_shorter fewer p xs w.again,
        ))

  pa_case : (s : Bytes) (x : Out PaHead) → pa_head s ≡ x
      → (get_or (narrow_pa o₁ p (get_or (pa_for o₂ p (pa_from x)) s)) (get_or (pa_for o₂ p (pa_from x)) s) ≡ get_or (pa_for o₁ p (pa_from x)) s)
      × (is_some (pa_for o₂ p (pa_from x)) ≡ true → is_some (pa_for o₁ p (pa_from x)) ≡ true)
      × ((y : Bytes) → pa_for o₂ p (pa_from x) ≡ some y → length y ≤ length s)
  unfolding narrow_pa pa
  pa_case s none e = (rw e refl, λ h. h, λ y h. absurd (none-ne-some _ h))
  pa_case s (some (h, r)) e = go (ltb (length (left s h r e)) 4 && any (table_changes o₂ p) (xs s h r e)) refl
    where
      both : (ltb (length (left s h r e)) 4 && any (table_changes o₂ p) (xs s h r e)) ≡ true → (ltb (length (left s h r e)) 4 && any (table_changes o₁ p) (xs s h r e)) ≡ true
      both q =
          let b = and_both (ltb (length (left s h r e)) 4) (any (table_changes o₂ p) (xs s h r e)) q in
          both_true (ltb (length (left s h r e)) 4) (any (table_changes o₁ p) (xs s h r e)) b.0 (any_more fewer p (xs s h r e) (tables_walked s h r e).again b.1)

      go : (a : Bool) → (ltb (length (left s h r e)) 4 && any (table_changes o₂ p) (xs s h r e)) ≡ a
          → let z : Option Bytes = cond a (some (pa_bytes h (ts₂ s h r e) (left s h r e))) none in
          (get_or (narrow_pa o₁ p (get_or z s)) (get_or z s) ≡ get_or (pa_for o₁ p (pa_from (some (h, r)))) s)
          × (is_some z ≡ true → is_some (pa_for o₁ p (pa_from (some (h, r)))) ≡ true)
          × ((y : Bytes) → z ≡ some y → length y ≤ length s)
      go false q = (rw e refl, λ g. clash (cc), λ y g. absurd (none-ne-some _ g))
      go true q = (
        after_more s h r e (and_both (ltb (length (left s h r e)) 4) (any (table_changes o₂ p) (xs s h r e)) q).0 ∙ rw (both q) refl,
        λ g. rw (both q) refl,
        λ y g. subst (λ (z : Bytes). length z ≤ length s) (some-injective _ _ g) (long s h r e),
      )

  pub pa_narrows : Narrows (narrow_pa o₁ p) (narrow_pa o₂ p)
  unfolding narrow_pa pa
  pa_narrows = record {
    twice = λ s. (pa_case s (pa_head s) refl).0;
    more = λ s. (pa_case s (pa_head s) refl).1;
    shorter = λ s. (pa_case s (pa_head s) refl).2;
  }
