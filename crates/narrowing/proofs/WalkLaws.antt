-- The tables of a PA body, one after the other, as the loops meet them: whether any changes, each as narrowing leaves it, and the head's
-- entries with the new lengths. Rests on the walk's laws and on TableLaws and PaLaws of `meaning`.
use Prim.Native.Nat.{ℕ, ◌+◌, ◌-◌, ◌*◌, ◌≤◌, ◌<◌}
use mathlib.Core.Path.{◌≡◌, refl, sym, ap, ap₂, ◌∙◌}
use mathlib.Core.Bool.{Bool, true, false, ◌&&◌, ◌||◌}
use mathlib.Core.Logic.{◌⊎◌, inl, inr}
use mathlib.Core.List.{List, [], ◌∷◌, ◌++◌, map, flatten, append_assoc, append-nil}
use mathlib.Core.Option
use mathlib.Core.Option.{Option, none, some, some-injective}
use native.Mathlib.Omega.{arith}
use lib.ListN.{length, take, drop, get_or, length-append, length-take, length-drop}
use lib.Seq.{take_at, drop_at, drop-drop, length-take-le, take-take, take-add}
use lib.Dec.{ltb}
use borrow.Author.Tests.{lt-ltb, le-ltb}
use Rattle.meaning.specs.Bytes.{Bytes, put16}
use Rattle.meaning.specs.Writing.{Wrote}
use Rattle.meaning.specs.Lists.{any, is_some}
use Rattle.meaning.specs.Readers.{raw, Walk, stop}
use Rattle.meaning.specs.Tables.{Table, table}
use Rattle.meaning.specs.Narrow.{new_body, table_bytes, new_table, table_after, table_changes, relength, pa_bytes}
use Rattle.meaning.proofs.Statements.{same_wishes}
use Rattle.meaning.specs.declared.Options.{Options}
use Rattle.meaning.proofs.ListLaws.{clash, or_false, or_assoc}
use Rattle.meaning.proofs.Local.{table_local}
use Rattle.meaning.proofs.Framed.{raw_framed, walk_none}
use Rattle.meaning.proofs.PaLaws.{Fours, head_split, relength_length, relength_fours, after_shorter}
use Rattle.meaning.proofs.TableLaws.{table_length}
use Rattle.meaning.proofs.Writes.{wrote_none, wrote_then}
use Rattle.octets.proofs.ByteLaws.{rest_of}
use Rattle.tables.specs.Answers.{TableIs}
use Rattle.tables.specs.declared.pa.Table.TheVariants.{To}
use Rattle.tables.proofs.WalkLaws.{table_at, raw_at, part_table, walk_next}
use Rattle.narrowing.specs.declared.table.BodyChange.{BodyChange}
use Rattle.narrowing.proofs.ExactLaws.{exact_table, part_exact}
use Rattle.narrowing.specs.Tables.{body_at, body_of, ChangeIs, ChangeAt, TableChangeIs, KnownIs, PaChangeIs, is_change, after_table, tables_in, tables_change, tables_after, tables_bytes, HeadEntries}

-- ---- the table at an offset, and the walk from there

module _ (s : Bytes) (at e : ℕ) (t : TableIs (table (drop at s)) s at (To e)) where
  -- its own bytes
  abbrev own : Bytes
  own = take (e - at) (drop at s)

  own_length : length own ≡ e - at
  own_length = length-take-le (e - at) (drop at s) (omega (arith, length-drop at s, t.0, t.1))

  after_own : (o : Options) (p : ℕ) → table_after o p (table_at s at e, own) ≡ after_table o p own
  unfolding after_table
  after_own o p = rw (part_table s at e t) refl

  changes_own : (o : Options) (p : ℕ) → table_changes o p (table_at s at e, own) ≡ is_some (new_body o p (get_or s at 0) (take (e - at - 4) (drop (at + 4) s)))
  unfolding new_table
  changes_own o p = go (new_body o p (get_or s at 0) (take (e - at - 4) (drop (at + 4) s)))
    where
      go : (n : Option Bytes) → is_some (Option.map (table_bytes (table_at s at e)) n) ≡ is_some n
      go none = refl
      go (some b) = refl

  -- no longer than it was
  after_fits : (o : Options) (p : ℕ) → length (after_table o p own) ≤ e - at
  after_fits o p =
      let x = after_shorter (same_wishes o) p (table_at s at e, own) (raw_framed table_local (drop at s) _ (drop e s) (raw_at s at e t)).1 in
      omega (arith, x, ap length (after_own o p), own_length)

raw_none : (r : Bytes) → table r ≡ none → raw table r ≡ none
unfolding raw
raw_none r e = rw e

table_stop : (r : Bytes) → table r ≡ none → tables_in r ≡ stop r
table_stop r e = walk_none (raw table) r (raw_none r e)

body_is : (s : Bytes) (at e : ℕ) → body_at s at e ≡ take (e - at - 4) (drop (at + 4) s)
body_is s at e = let n : e - (at + 4) ≡ e - at - 4 = omega arith in ap (λ (k : ℕ). take k (drop (at + 4) s)) n

-- a table by itself has the number and the body that it has at its offset, so that what is made of it is the same
module _ (s : Bytes) (at e : ℕ) (t : TableIs (table (drop at s)) s at (To e)) where
  pub own_change : (o : Options) (p : ℕ) (change : BodyChange) → ChangeAt o p s at e change → TableChangeIs o p (take (e - at) (drop at s)) change
  own_change o p change h =
      let as_one = some-injective _ _ (sym (exact_table (own s at e t) (part_exact s at e t)) ∙ part_table s at e t) in
      let number : get_or (own s at e t) 0 0 ≡ get_or s at 0 = ap (λ x. x.0.number) as_one in
      let body : body_of (own s at e t) ≡ body_at s at e = ap (λ x. x.0.body) as_one ∙ sym (body_is s at e) in
      rw (number, body) h

-- ---- whether any changes: what is asked from `at` on, with what was found before

unfoldable pub change_from : Options → ℕ → Bool → Bytes → Bool
unfolding any
change_from o p changed r = ltb (length (tables_in r).left) 4 && (changed || any (table_changes o p) (tables_in r).found)

-- what a change shows
is_some_lem : (n : Option Bytes) (o : Options) (b : Bytes) (change : BodyChange) → ChangeIs n o b change → is_change change ≡ is_some n
is_some_lem n o b (BodyChange.Mpt less) h = let e = h.0 ∙ h.1.narrowed in rw e
is_some_lem n o b (BodyChange.Plt one) h = rw h.1
is_some_lem n o b BodyChange.Same h = rw h

change_start : (o : Options) (p : ℕ) (r : Bytes) → tables_change o p r ≡ change_from o p false r
unfolding tables_change change_from
change_start o p r = refl

change_turn : (o : Options) (p : ℕ) (changed : Bool) (s : Bytes) (at e : ℕ) (t : TableIs (table (drop at s)) s at (To e)) (now_changed : Bool)
    → now_changed ≡ (changed || is_some (new_body o p (get_or s at 0) (take (e - at - 4) (drop (at + 4) s)))) → change_from o p changed (drop at s) ≡ change_from o p now_changed (drop e s)
unfolding change_from any
change_turn o p changed s at e t n q =
    rw (walk_next s at e t)
    (ap (λ (b : Bool). ltb (length (tables_in (drop e s)).left) 4 && b)
    (sym (or_assoc changed _ _) ∙ ap (λ (b : Bool). b || any (table_changes o p) (tables_in (drop e s)).found) (ap (λ (b : Bool). changed || b) (changes_own s at e t o p) ∙ sym q)))

-- found now, or found before
change_new : (o : Options) (p : ℕ) (s : Bytes) (at e : ℕ) (t : TableIs (table (drop at s)) s at (To e)) (was found : Bool) (change : BodyChange) → was ≡ false
    → ChangeAt o p s at e change → found ≡ is_change change
    → change_from o p was (drop at s) ≡ change_from o p found (drop e s)
change_new o p s at e t was found change f h q =
    change_turn o p was s at e t found
    (q ∙ is_some_lem (new_body o p (get_or s at 0) (body_at s at e)) o (body_at s at e) change h ∙ ap (λ (b : Bytes). is_some (new_body o p (get_or s at 0) b)) (body_is s at e) ∙ rw f refl)

change_kept : (o : Options) (p : ℕ) (s : Bytes) (at e : ℕ) (t : TableIs (table (drop at s)) s at (To e)) (was : Bool) → was ≡ true → change_from o p was (drop at s) ≡ change_from o p was (drop e s)
change_kept o p s at e t was f = change_turn o p was s at e t was (rw f refl)

change_cut : (o : Options) (p : ℕ) (changed : Bool) (r : Bytes) → table r ≡ none → 4 ≤ length r → change_from o p changed r ≡ false
unfolding change_from
change_cut o p changed r e h = rw (table_stop r e, le-ltb (length r) 4 h)

change_done : (o : Options) (p : ℕ) (changed : Bool) (r : Bytes) → table r ≡ none → length r < 4 → change_from o p changed r ≡ changed
unfolding change_from any
change_done o p changed r e h = rw (table_stop r e, lt-ltb (length r) 4 h) (or_false changed)

-- a table has one end
one_end : (s : Bytes) (at e e' : ℕ) → TableIs (table (drop at s)) s at (To e) → TableIs (table (drop at s)) s at (To e') → e ≡ e'
one_end s at e e' t t' =
    let r : drop e s ≡ drop e' s = ap (λ x. x.1) (some-injective _ _ (sym t.2 ∙ t'.2)) in
    omega (arith, ap length r, length-drop e s, length-drop e' s, t.1, t'.1)

-- Of the tables before `at`: whether narrowing changes any, and what it makes of one, that at `found`, if so.
pub record ChangeSofar (o : Options) (p : ℕ) (s : Bytes) (tables at found : ℕ) (change : BodyChange) : Type 0 where
  pub within : at ≤ length s
  pub asked : tables_change o p (drop tables s) ≡ change_from o p (is_change change) (drop at s)
  pub known : is_change change ≡ true → KnownIs o p s (record { at = found; change = change })

module _ (o : Options) (p : ℕ) (s : Bytes) (tables : ℕ) where
  pub sofar_start : tables ≤ length s → ChangeSofar o p s tables tables tables BodyChange.Same
  sofar_start h = record { within = h; asked = change_start o p (drop tables s); known = λ q. clash (cc) }

  module _ (at found : ℕ) (change : BodyChange) (i : ChangeSofar o p s tables at found change) where
    module _ (e : ℕ) (t : TableIs (table (drop at s)) s at (To e)) where
      pub sofar_new : (new : BodyChange) → is_change change ≡ false → ChangeAt o p s at e new → ChangeSofar o p s tables e at new
      sofar_new new q h = record {
        within = t.1;
        asked = i.asked ∙ change_new o p s at e t (is_change change) (is_change new) new q h refl;
        known = λ _ e' t'. rw (one_end s at e e' t t') at h;
      }

      pub sofar_kept : is_change change ≡ true → ChangeSofar o p s tables e found change
      sofar_kept q = record { within = t.1; asked = i.asked ∙ change_kept o p s at e t (is_change change) q; known = i.known }

    pub sofar_cut : table (drop at s) ≡ none → 4 ≤ length (drop at s) → PaChangeIs o p s tables (record { at = tables; change = BodyChange.Same })
    sofar_cut e h = record { changes_is = sym (i.asked ∙ change_cut o p (is_change change) (drop at s) e h); known_is = λ q. clash (cc) }

    pub sofar_done : table (drop at s) ≡ none → length (drop at s) < 4 → PaChangeIs o p s tables (record { at = found; change = change })
    sofar_done e h = record { changes_is = sym (i.asked ∙ change_done o p (is_change change) (drop at s) e h); known_is = i.known }

-- ---- the tables as narrowing leaves them

tables_turn : (o : Options) (p : ℕ) (s : Bytes) (at e : ℕ) (t : TableIs (table (drop at s)) s at (To e))
    → tables_bytes o p (drop at s) ≡ after_table o p (take (e - at) (drop at s)) ++ tables_bytes o p (drop e s)
unfolding tables_bytes flatten
tables_turn o p s at e t =
    rw (walk_next s at e t)
    (append_assoc (table_after o p (table_at s at e, own s at e t)) (flatten (tables_after o p (drop e s))) (tables_in (drop e s)).left
    ∙ ap (λ (z : Bytes). z ++ (flatten (tables_after o p (drop e s)) ++ (tables_in (drop e s)).left)) (after_own s at e t o p))

tables_end : (o : Options) (p : ℕ) (r : Bytes) → table r ≡ none → tables_bytes o p r ≡ r
unfolding tables_bytes flatten
tables_end o p r e = rw (table_stop r e)

-- those before `at` are written
pub record TablesSofar (o : Options) (p : ℕ) (s : Bytes) (tables : ℕ) (d₀ : Bytes) (to : ℕ) (d : Bytes) (at put : ℕ) : Type 0 where
  pub within : at ≤ length s
  pub same : length d ≡ length d₀
  pub room : put + (length s - at) ≤ length d
  pub sofar : Bytes
  pub wrote : Wrote sofar d₀ to d put
  pub total : sofar ++ tables_bytes o p (drop at s) ≡ tables_bytes o p (drop tables s)

pub tables_begin : (o : Options) (p : ℕ) (s : Bytes) (tables : ℕ) (d : Bytes) (to : ℕ) → tables ≤ length s → to + (length s - tables) ≤ length d → TablesSofar o p s tables d to d tables to
tables_begin o p s tables d to h r = record { within = h; same = refl; room = r; sofar = []; wrote = wrote_none d to; total = refl }

module _ (o : Options) (p : ℕ) (s : Bytes) (tables : ℕ) (d₀ : Bytes) (to : ℕ) (d : Bytes) (at put : ℕ) (h : TablesSofar o p s tables d₀ to d at put) where
  pub tables_left : put + length (take (length s - at) (drop at s)) ≤ length d
  tables_left = omega (arith, h.room, ap length (rest_of s at), length-drop at s)

  pub tables_done : {d' : Bytes} {r : ℕ} → table (drop at s) ≡ none → Wrote (take (length s - at) (drop at s)) d put d' r → Wrote (tables_bytes o p (drop tables s)) d₀ to d' r
  tables_done e w = rw (← h.total, tables_end o p (drop at s) e) (wrote_then h.wrote (rw (rest_of s at) at w))

  module _ (e : ℕ) (t : TableIs (table (drop at s)) s at (To e)) where
    pub tables_room : put + length (take (e - at) (drop at s)) ≤ length d
    tables_room = omega (arith, h.room, own_length s at e t, t.0, t.1)

    pub tables_next : (d' : Bytes) (r : ℕ) → Wrote (after_table o p (take (e - at) (drop at s))) d put d' r → length d' ≡ length d → TablesSofar o p s tables d₀ to d' e r
    tables_next d' r w l =
        record {
          within = t.1;
          same = l ∙ h.same;
          room = omega (arith, h.room, w.end, after_fits s at e t o p, t.0, t.1);
          sofar = h.sofar ++ after_table o p (take (e - at) (drop at s));
          wrote = wrote_then h.wrote w;
          total = append_assoc h.sofar (after_table o p (take (e - at) (drop at s))) (tables_bytes o p (drop e s)) ∙ ap (λ (z : Bytes). h.sofar ++ z) (sym (tables_turn o p s at e t)) ∙ h.total;
        }

-- how long a narrowed table's body is
after_length : (o : Options) (p : ℕ) (s : Bytes) (at e : ℕ) (t : TableIs (table (drop at s)) s at (To e))
    → length (after_table o p (take (e - at) (drop at s))) ≡ 4 + length (Option.get_or (new_body o p (get_or s at 0) (take (e - at - 4) (drop (at + 4) s))) (take (e - at - 4) (drop (at + 4) s)))
unfolding after_table new_table
after_length o p s at e t = rw (part_table s at e t) (go (new_body o p (get_or s at 0) (take (e - at - 4) (drop (at + 4) s))))
  where
    b : Bytes
    b = take (e - at - 4) (drop (at + 4) s)

    go : (n : Option Bytes) → length (Option.get_or (Option.map (table_bytes (table_at s at e)) n) (take (e - at) (drop at s))) ≡ 4 + length (Option.get_or n b)
    go none = omega (arith, own_length s at e t, length-take-le (e - at - 4) (drop (at + 4) s) (omega (arith, length-drop (at + 4) s, t.0, t.1)), t.0)
    go (some c) = table_length (table_at s at e) c

-- ---- the head's entries

fours_long : (es : List Bytes) → Fours es → length (flatten es) ≡ 4 * length es
unfolding flatten
fours_long [] f = refl
fours_long (e ∷ es) f = simp length-append (omega (arith, f.0, fours_long es f.1))

none_left : (ts : List Bytes) → flatten (relength [] ts) ≡ []
unfolding relength flatten
none_left ts = refl

same_entries : (es : List Bytes) → flatten (relength es []) ≡ flatten es
unfolding relength
same_entries [] = refl
same_entries (e ∷ es) = refl

-- y was written of the entries before `entry`; those from there on are still to come, with the tables from `at` on
pub record HeadsSofar (o : Options) (p : ℕ) (s : Bytes) (tables : ℕ) (es : List Bytes) (entry at : ℕ) (y : Bytes) : Type 0 where
  pub rest : List Bytes
  pub rest_bytes : flatten rest ≡ take (tables - entry) (drop entry s)
  pub rest_fours : Fours rest
  pub total : y ++ flatten (relength rest (tables_after o p (drop at s))) ≡ flatten (relength es (tables_after o p (drop tables s)))
  pub passed : 1 + length y ≡ entry
  pub inside : entry ≤ tables

heads_start : (o : Options) (p : ℕ) (s : Bytes) (tables : ℕ) (es : List Bytes) → HeadEntries s tables es → HeadsSofar o p s tables es 1 tables []
heads_start o p s tables es h =
    let sp = head_split s (record { count = get_or s 0 0; entries = es }) (drop tables s) h.entries_read in
    let l : length (flatten es) ≡ tables - 1 = omega (arith, ap length sp.whole, length-append (flatten es) (drop tables s), length-drop tables s, h.within, h.one) in
    record {
      rest = es;
      rest_bytes = sym (ap (λ (z : Bytes). take (tables - 1) (drop 1 z)) sp.whole ∙ take_at (flatten es) (drop tables s) (tables - 1) l);
      rest_fours = sp.fours;
      total = refl;
      passed = refl;
      inside = h.one;
    }

none_flat : length (flatten {A = ℕ} []) ≡ 0
unfolding flatten
none_flat = refl

put_length : (n : ℕ) → length (put16 n) ≡ 2
unfolding put16
put_length n = refl

-- the next entry, x, takes the length of the next table, t
one_entry_lem : (o : Options) (p : ℕ) (s : Bytes) (tables : ℕ) (es : List Bytes) (entry at : ℕ) (y : Bytes) (e n : ℕ) (t x : Bytes) (rest : List Bytes)
    → Fours (x ∷ rest) → flatten (x ∷ rest) ≡ take (tables - entry) (drop entry s)
    → y ++ flatten (relength (x ∷ rest) (t ∷ tables_after o p (drop e s))) ≡ flatten (relength es (tables_after o p (drop tables s)))
    → length (flatten (x ∷ rest)) ≡ tables - entry → length t - 4 ≡ n → 1 + length y ≡ entry → entry < tables
    → HeadsSofar o p s tables es (entry + 4) e (y ++ (take 2 (drop entry s) ++ put16 n))
unfolding relength flatten
one_entry_lem o p s tables es entry at y e n t x rest f b w k ln pd lt =
    let lx : length x ≡ 4 = f.0 in
    let lr : length (x ++ flatten rest) ≡ length x + length (flatten rest) = length-append x (flatten rest) in
    let m : tables - entry ≡ 4 + (tables - (entry + 4)) = omega arith in
    let cut : x ++ flatten rest ≡ take 4 (drop entry s) ++ take (tables - (entry + 4)) (drop 4 (drop entry s)) =
    b ∙ ap (λ (k : ℕ). take k (drop entry s)) m ∙ take-add 4 (tables - (entry + 4)) (drop entry s) in
    let l4 : length (take 4 (drop entry s)) ≡ 4 =
    omega (arith, ap length cut, length-append (take 4 (drop entry s)) (take (tables - (entry + 4)) (drop 4 (drop entry s))), length-take 4 (drop entry s), length-take (tables - (entry + 4)) (drop 4 (drop entry s))) in
    let x4 : x ≡ take 4 (drop entry s) = sym (take_at x (flatten rest) 4 lx) ∙ ap (take 4) cut ∙ take_at (take 4 (drop entry s)) _ 4 l4 in
    let x2 : take 2 x ≡ take 2 (drop entry s) = ap (take 2) x4 ∙ take-take 2 4 (drop entry s) (omega arith) in
    let two : length (take 2 (drop entry s)) ≡ 2 = ap length (sym x2) ∙ length-take-le 2 x (omega arith) in
    let d4 : drop 4 (drop entry s) ≡ drop (entry + 4) s = drop-drop 4 entry s in
    record {
      rest = rest;
      rest_bytes = sym (drop_at x (flatten rest) 4 lx) ∙ ap (drop 4) cut ∙ drop_at (take 4 (drop entry s)) _ 4 l4 ∙ ap (take (tables - (entry + 4))) d4;
      rest_fours = f.1;
      total =
          append_assoc y (take 2 (drop entry s) ++ put16 n) _
          ∙ ap₂ (λ (a : Bytes) (k : ℕ). y ++ ((a ++ put16 k) ++ flatten (relength rest (tables_after o p (drop e s))))) (sym x2) (sym ln) ∙ w;
      passed = omega (arith, length-append y (take 2 (drop entry s) ++ put16 n), length-append (take 2 (drop entry s)) (put16 n), put_length n);
      inside = omega (arith, k);
    }

module _ (o : Options) (p : ℕ) (s : Bytes) (tables : ℕ) (es : List Bytes) (entry at : ℕ) (y : Bytes) (h : HeadsSofar o p s tables es entry at y) (fit : tables ≤ length s) where
  left_long : length (flatten h.rest) ≡ tables - entry
  left_long = ap length h.rest_bytes ∙ length-take-le (tables - entry) (drop entry s) (omega (arith, length-drop entry s))

  -- all entries are written
  heads_end : tables ≤ entry → y ≡ flatten (relength es (tables_after o p (drop tables s)))
  heads_end l = go h.rest (omega (arith, left_long, fours_long h.rest h.rest_fours)) h.total
    where
      go : (rest : List Bytes) → length rest ≡ 0 → y ++ flatten (relength rest (tables_after o p (drop at s))) ≡ flatten (relength es (tables_after o p (drop tables s))) → y ≡ flatten (relength es (tables_after o p (drop tables s)))
      go [] e q = sym (append-nil y) ∙ ap (λ (z : Bytes). y ++ z) (sym (none_left (tables_after o p (drop at s)))) ∙ q
      go (x ∷ rest) e q = absurd (omega arith)

  -- no entry is left, or no table: the other entries stay
  heads_stop : (tables ≤ entry) ⊎ (table (drop at s) ≡ none) → y ++ take (tables - entry) (drop entry s) ≡ flatten (relength es (tables_after o p (drop tables s)))
  heads_stop (inl l) = let z : tables - entry ≡ 0 = omega arith in rw z (append-nil y ∙ heads_end l)
  heads_stop (inr e) =
      ap (λ (z : Bytes). y ++ z) (sym h.rest_bytes ∙ sym (same_entries h.rest))
      ∙ ap (λ (ts : List Bytes). y ++ flatten (relength h.rest ts)) (sym (ap (λ (w : Walk (Table × Bytes)). map (table_after o p) w.found) (table_stop (drop at s) e))) ∙ h.total

  -- one more entry takes the length of one more table
  heads_turn : (e : ℕ) (t : TableIs (table (drop at s)) s at (To e)) (n : ℕ) → entry < tables
      → n ≡ length (Option.get_or (new_body o p (get_or s at 0) (take (e - at - 4) (drop (at + 4) s))) (take (e - at - 4) (drop (at + 4) s)))
      → HeadsSofar o p s tables es (entry + 4) e (y ++ (take 2 (drop entry s) ++ put16 n))
  heads_turn e t n l q = go h.rest h.rest_fours h.rest_bytes h.total left_long
    where
      mine : Bytes
      mine = after_table o p (take (e - at) (drop at s))

      after_is : tables_after o p (drop at s) ≡ mine ∷ tables_after o p (drop e s)
      after_is = ap (λ (w : Walk (Table × Bytes)). map (table_after o p) w.found) (walk_next s at e t) ∙ ap (λ (z : Bytes). z ∷ tables_after o p (drop e s)) (after_own s at e t o p)

      long : length mine - 4 ≡ n
      long = omega (arith, after_length o p s at e t)

      go : (rest : List Bytes) → Fours rest → flatten rest ≡ take (tables - entry) (drop entry s)
          → y ++ flatten (relength rest (tables_after o p (drop at s))) ≡ flatten (relength es (tables_after o p (drop tables s))) → length (flatten rest) ≡ tables - entry
          → HeadsSofar o p s tables es (entry + 4) e (y ++ (take 2 (drop entry s) ++ put16 n))
      go [] f b w k = absurd (omega (arith, k, none_flat))
      go (x ∷ rest) f b w k = one_entry_lem o p s tables es entry at y e n mine x rest f b (ap (λ (ts : List Bytes). y ++ flatten (relength (x ∷ rest) ts)) (sym after_is) ∙ w) k long h.passed l

  -- an entry is four bytes
  four_left : entry < tables → entry + 4 ≤ tables
  four_left l = omega (arith, left_long, fours_long h.rest h.rest_fours)

-- the entries before `entry` are written
pub record HeadsWritten (o : Options) (p : ℕ) (s : Bytes) (tables : ℕ) (d₀ : Bytes) (to : ℕ) (d : Bytes) (at entry put : ℕ) : Type 0 where
  pub within : at ≤ length s
  pub same : length d ≡ length d₀
  pub room : put + (tables - entry) ≤ length d
  pub fits : tables ≤ length s
  pub inside : entry ≤ tables
  pub whole : entry < tables → entry + 4 ≤ tables
  pub sofar : Bytes
  pub wrote : Wrote sofar d₀ to d put
  pub heads : (es : List Bytes) → HeadEntries s tables es → HeadsSofar o p s tables es entry at sofar

pub heads_begin : (o : Options) (p : ℕ) (s : Bytes) (tables : ℕ) (d : Bytes) (to : ℕ) (es : List Bytes) → HeadEntries s tables es → to + (tables - 1) ≤ length d → HeadsWritten o p s tables d to d tables 1 to
heads_begin o p s tables d to es h r =
    record {
      within = h.within;
      same = refl;
      room = r;
      fits = h.within;
      inside = h.one;
      whole = four_left o p s tables es 1 tables [] (heads_start o p s tables es h) h.within;
      sofar = [];
      wrote = wrote_none d to;
      heads = λ es h. heads_start o p s tables es h;
    }

module _ (o : Options) (p : ℕ) (s : Bytes) (tables : ℕ) (d₀ : Bytes) (to : ℕ) (d : Bytes) (at entry put : ℕ) (h : HeadsWritten o p s tables d₀ to d at entry put) where
  pub heads_left : put + length (take (tables - entry) (drop entry s)) ≤ length d
  heads_left = omega (arith, h.room, h.fits, length-take-le (tables - entry) (drop entry s) (omega (arith, length-drop entry s, h.fits)))

  pub heads_room : entry < tables → put + length (take (entry + 2 - entry) (drop entry s)) ≤ length d
  heads_room l = omega (arith, h.room, h.fits, h.whole l, length-take-le (entry + 2 - entry) (drop entry s) (omega (arith, length-drop entry s, h.fits, h.whole l)))

  -- behind the two bytes
  pub heads_two : {d₁ : Bytes} {a : ℕ} → entry < tables → Wrote (take (entry + 2 - entry) (drop entry s)) d put d₁ a → length d₁ ≡ length d → a + 2 ≤ length d₁
  heads_two l w k =
      omega (arith, w.end, h.room, h.whole l, length-take-le (entry + 2 - entry) (drop entry s) (omega (arith, length-drop entry s, h.fits, h.whole l)))

  pub heads_rest : {d' : Bytes} {r : ℕ} → (tables ≤ entry) ⊎ (table (drop at s) ≡ none) → Wrote (take (tables - entry) (drop entry s)) d put d' r
      → (es : List Bytes) → HeadEntries s tables es → Wrote (flatten (relength es (tables_after o p (drop tables s)))) d₀ to d' r
  heads_rest e w es x = rw (← heads_stop o p s tables es entry at h.sofar (h.heads es x) h.fits e) (wrote_then h.wrote w)

  -- two bytes and the new length
  pub heads_next : (es : List Bytes) → HeadEntries s tables es → (e n : ℕ) → TableIs (table (drop at s)) s at (To e) → entry < tables
      → n ≡ length (Option.get_or (new_body o p (get_or s at 0) (body_at s at e)) (body_at s at e))
      → (d₁ d₂ : Bytes) (a b : ℕ) → Wrote (take (entry + 2 - entry) (drop entry s)) d put d₁ a → Wrote (put16 n) d₁ a d₂ b → length d₂ ≡ length d
      → HeadsWritten o p s tables d₀ to d₂ e (entry + 4) b
  heads_next es x e n t l q d₁ d₂ a b u v k =
      let two : entry + 2 - entry ≡ 2 = omega arith in
      let w : Wrote (take 2 (drop entry s) ++ put16 n) d put d₂ b = wrote_then (rw two at u) v in
      let turn : (es : List Bytes) → HeadEntries s tables es → HeadsSofar o p s tables es (entry + 4) e (h.sofar ++ (take 2 (drop entry s) ++ put16 n)) =
      λ es x. heads_turn o p s tables es entry at h.sofar (h.heads es x) h.fits e t n l (q ∙ ap (λ (b : Bytes). length (Option.get_or (new_body o p (get_or s at 0) b) b)) (body_is s at e)) in
      let two_long : length (take 2 (drop entry s)) ≡ 2 = length-take-le 2 (drop entry s) (omega (arith, length-drop entry s, h.fits, h.whole l)) in
      record {
        within = t.1;
        same = k ∙ h.same;
        room = omega (arith, h.room, h.whole l, w.end, length-append (take 2 (drop entry s)) (put16 n), two_long, put_length n);
        fits = h.fits;
        inside = h.whole l;
        whole = four_left o p s tables es (entry + 4) e (h.sofar ++ (take 2 (drop entry s) ++ put16 n)) (turn es x) h.fits;
        sofar = h.sofar ++ (take 2 (drop entry s) ++ put16 n);
        wrote = wrote_then h.wrote w;
        heads = turn;
      }

-- ---- the whole body: its first byte, the head's entries and the tables

first_byte : (s : Bytes) → 1 ≤ length s → take (1 - 0) (drop 0 s) ≡ get_or s 0 0 ∷ []
first_byte [] h = absurd (omega arith)
first_byte (a ∷ s) h = refl

module _ (s : Bytes) (tables : ℕ) (es : List Bytes) (h : HeadEntries s tables es) (d d₁ d₂ : Bytes) (to a b : ℕ) (u : Wrote (take (1 - 0) (drop 0 s)) d to d₁ a) where
  -- the entries stay where they are
  pub body_room : (o : Options) (p : ℕ) → ((es : List Bytes) → HeadEntries s tables es → Wrote (flatten (relength es (tables_after o p (drop tables s)))) d₁ a d₂ b)
      → to + length s ≤ length d₂ → b + (length s - tables) ≤ length d₂
  body_room o p w r =
      let sp = head_split s (record { count = get_or s 0 0; entries = es }) (drop tables s) h.entries_read in
      let ts = tables_after o p (drop tables s) in
      omega (
        arith,
        r,
        u.end,
        (w es h).end,
        ap length (first_byte s (omega (arith, h.one, h.within))),
        h.one,
        h.within,
        fours_long (relength es ts) (relength_fours es ts sp.fours),
        fours_long es sp.fours,
        relength_length es ts,
        ap length sp.whole,
        length-append (flatten es) (drop tables s),
        length-drop tables s,
      )

  pub body_wrote : (o : Options) (p : ℕ) {d₃ : Bytes} {r : ℕ} → Wrote (flatten (relength es (tables_after o p (drop tables s)))) d₁ a d₂ b → Wrote (tables_bytes o p (drop tables s)) d₂ b d₃ r
      → Wrote (pa_bytes (record { count = get_or s 0 0; entries = es }) (tables_after o p (drop tables s)) (tables_in (drop tables s)).left) d to d₃ r
  unfolding pa_bytes tables_bytes
  body_wrote o p w x = wrote_then (rw (first_byte s (omega (arith, h.one, h.within))) at u) (wrote_then w x)
