-- The entries of an MPT's body, as `mpt` walks and copies them: those read so far (Sofar), the invariants of the two loops (Walked,
-- Writing), and the body narrowed. Rests on Reading and Writes of `meaning`; that the count is the number of entries rests on Framed.
use Prim.Native.Nat.{ℕ, suc, ◌+◌, ◌-◌, ◌%◌, ◌≤◌, ◌<◌}
use mathlib.Core.Path.{◌≡◌, refl, sym, ap, ◌∙◌}
use mathlib.Core.Bool.{Bool, true, false, cond, ◌&&◌}
use mathlib.Core.List.{List, [], ◌∷◌, ◌++◌, flatten, append_assoc, append-nil}
use mathlib.Core.Option
use mathlib.Core.Option.{Option, none, some, IsSome}
use native.Mathlib.Nat.{mod-eq_of_lt, sub-zero}
use native.Mathlib.Omega.{arith}
use lib.ListN.{length, take, drop, get_or, length-append, length-drop}
use lib.Seq.{length-take-le, drop-drop, take-add}
use Rattle.meaning.specs.Bytes.{Bytes}
use Rattle.meaning.specs.Writing.{Wrote}
use Rattle.meaning.specs.Lists.{keep, all}
use Rattle.meaning.specs.Readers.{Out, bind, give, many, raw}
use Rattle.meaning.specs.Tables.{Entry, entry, mpt_front, mpt}
use Rattle.meaning.specs.Wishes.{wanted, wanted_entry}
use Rattle.meaning.specs.Narrow.{mpt_body, mpt_without}
use Rattle.meaning.specs.declared.Part.{Part}
use Rattle.meaning.specs.declared.Options.{Options}
use Rattle.meaning.proofs.ListLaws.{keep_length, keep_all}
use Rattle.meaning.proofs.Reading.{past, u8_none, many_none, many_next, behind, behind_nothing, behind_one}
use Rattle.octets.proofs.ByteLaws.{u8_at_lem, rest_of}
use Rattle.meaning.proofs.Framed.{many_framed}
use Rattle.meaning.proofs.TableLaws.{entry_framed}
use Rattle.meaning.proofs.Writes.{wrote_none, wrote_then}
use Rattle.tables.specs.Answers.{Ends, AssetIs}
use Rattle.std.specs.Prelude.{Some}
use Rattle.tables.specs.declared.assets.Asset.{Asset}
use Rattle.narrowing.specs.Bodies.{bytes_of, kept_bytes, WalkIs, MptLess}
use Rattle.narrowing.specs.declared.mpt.EntryWalk.{EntryWalk}
use Rattle.narrowing.specs.declared.mpt.MptChange.{MptChange}

-- ---- those kept of two lists, and of a list and one more

module _ {A : Type 0} (f : A → Bool) where
  keep_append : (xs ys : List A) → keep f (xs ++ ys) ≡ keep f xs ++ keep f ys
  unfolding keep
  keep_append [] ys = refl
  keep_append (x ∷ xs) ys = go (f x) (keep_append xs ys)
    where
      go : (a : Bool) → keep f (xs ++ ys) ≡ keep f xs ++ keep f ys
          → cond a (x ∷ keep f (xs ++ ys)) (keep f (xs ++ ys)) ≡ cond a (x ∷ keep f xs) (keep f xs) ++ keep f ys
      go true ih = ap (λ (l : List A). x ∷ l) ih
      go false ih = ih

  module _ (pre : List A) (x : A) where
    keep_one : f x ≡ true → keep f (pre ++ x ∷ []) ≡ keep f pre ++ x ∷ []
    unfolding keep
    keep_one q = keep_append pre (x ∷ []) ∙ rw q

    keep_gone : f x ≡ false → keep f (pre ++ x ∷ []) ≡ keep f pre
    unfolding keep
    keep_gone q = keep_append pre (x ∷ []) ∙ rw (q, append-nil)

  -- as many as there are
  all_long : (xs : List A) → length (keep f xs) ≡ length xs → all f xs ≡ true
  unfolding keep all
  all_long [] h = refl
  all_long (x ∷ xs) h = go (f x) h (all_long xs)
    where
      go : (a : Bool) → length (cond a (x ∷ keep f xs) (keep f xs)) ≡ suc (length xs) → (length (keep f xs) ≡ length xs → all f xs ≡ true)
          → (a && all f xs) ≡ true
      go true l ih = ih (omega arith)
      go false l ih = absurd (omega (arith, keep_length f xs))

  not_all : (xs : List A) → (length (keep f xs) ≡ length xs → ⊥) → all f xs ≡ false
  not_all xs h = go (all f xs) refl
    where
      go : (a : Bool) → all f xs ≡ a → a ≡ false
      go false e = refl
      go true e = absurd (h (ap length (keep_all f xs e)))

bytes_append : (xs ys : List Entry) → bytes_of (xs ++ ys) ≡ bytes_of xs ++ bytes_of ys
unfolding flatten
bytes_append [] ys = refl
bytes_append (x ∷ xs) ys = ap (λ (l : Bytes). x.bytes_of ++ l) (bytes_append xs ys) ∙ sym (append_assoc x.bytes_of (bytes_of xs) (bytes_of ys))

bytes_one : (f : Entry → Bool) (pre : List Entry) (x : Entry) → f x ≡ true → bytes_of (keep f (pre ++ x ∷ [])) ≡ bytes_of (keep f pre) ++ x.bytes_of
unfolding flatten
bytes_one f pre x q = rw (keep_one f pre x q, bytes_append (keep f pre) (x ∷ []), append-nil)

-- ---- the entries read so far

-- what is kept before the rest is no longer than what is kept of all
behind_bytes : (o : Options) (pre : List Entry) (m : Out (List Entry)) → IsSome (behind pre m)
    → length (bytes_of (keep (wanted_entry o) pre)) ≤ length (kept_bytes o (behind pre m))
behind_bytes o pre none h = absurd h
behind_bytes o pre (some y) h =
    rw (keep_append (wanted_entry o) pre y.0, bytes_append (keep (wanted_entry o) pre) (keep (wanted_entry o) y.0))
    (simp length-append (omega arith))

-- the entry from `from` to e
abbrev pub entry_at : Bytes → ℕ → ℕ → Part → Option ℕ → Entry
entry_at b from e part q = record { part = part; carrier = q; bytes_of = take (e - from) (drop from b) }

-- Of `count` entries at `at`, `pre` were read, up to `from`, and `left` are left.
pub record Sofar (b : Bytes) (at count from left : ℕ) (pre : List Entry) : Type 0 where
  pub reads : many count entry (drop at b) ≡ behind pre (many left entry (drop from b))
  pub within : from ≤ length b

module _ (b : Bytes) (at count : ℕ) where
  pub none_read : at ≤ length b → Sofar b at count at count []
  none_read h = record { reads = behind_nothing (many count entry (drop at b)); within = h }

  module _ (from left : ℕ) (pre : List Entry) (i : Sofar b at count from left pre) where
    pub one_read : (x : Asset) → 0 < left → (l : AssetIs b from (Some x))
        → Sofar b at count x.end (left - 1) (pre ++ entry_at b from x.end x.part l.2.0 ∷ [])
    one_read x h l = record {
      reads = i.reads ∙ rw (many_next entry (drop from b) left _ (drop x.end b) h l.2.1) (behind_one pre _ (many (left - 1) entry (drop x.end b)));
      within = l.0;
    }

    -- one that cannot be read
    pub cut : 0 < left → entry (drop from b) ≡ none → many count entry (drop at b) ≡ none
    cut h q = i.reads ∙ rw (many_none entry (drop from b) left h q)

    pub all_read : left ≡ 0 → many count entry (drop at b) ≡ some (pre, drop from b)
    unfolding many
    all_read z = i.reads ∙ rw (z, append-nil pre)

    kept_short : (o : Options) → IsSome (many count entry (drop at b)) → length (bytes_of (keep (wanted_entry o) pre)) ≤ length (kept_bytes o (many count entry (drop at b)))
    kept_short o h = rw i.reads (behind_bytes o pre (many left entry (drop from b)) (rw i.reads at h))

-- ---- the walk

-- `kept` of those read are wanted, which are `size` bytes.
pub record Walked (o : Options) (b : Bytes) (at count from left kept size : ℕ) : Type 0 where
  pub pre : List Entry
  pub sofar : Sofar b at count from left pre
  pub kept_is : kept ≡ length (keep (wanted_entry o) pre)
  pub size_is : size ≡ length (bytes_of (keep (wanted_entry o) pre))
  pub fits : at + size ≤ from
  pub few : kept + left ≤ count

module _ (o : Options) (b : Bytes) (at count : ℕ) where
  pub walk_start : at ≤ length b → Walked o b at count at count 0 0
  unfolding keep flatten
  walk_start h = record { pre = []; sofar = none_read b at count h; kept_is = refl; size_is = refl; fits = omega arith; few = omega arith }

  module _ (from left kept size : ℕ) (i : Walked o b at count from left kept size) where
    module _ (x : Asset) (h : 0 < left) (l : AssetIs b from (Some x)) where
      abbrev e : ℕ
      e = x.end

      abbrev found : Entry
      found = entry_at b from e x.part l.2.0

      pub walk_kept : wanted o x.part ≡ true → Walked o b at count e (left - 1) (kept + 1) (size + (e - from))
      walk_kept q =
          let long : length (take (e - from) (drop from b)) ≡ e - from = length-take-le (e - from) (drop from b) (omega (arith, length-drop from b, l.0)) in
          record {
            pre = i.pre ++ found ∷ [];
            sofar = one_read b at count from left i.pre i.sofar x h l;
            kept_is = rw (keep_one (wanted_entry o) i.pre found q) (simp length-append (omega (arith, i.kept_is)));
            size_is = rw (bytes_one (wanted_entry o) i.pre found q) (simp length-append (omega (arith, i.size_is)));
            fits = omega (arith, i.fits, l.1);
            few = omega (arith, i.few);
          }

      pub walk_gone : wanted o x.part ≡ false → Walked o b at count e (left - 1) kept size
      walk_gone q = record {
        pre = i.pre ++ found ∷ [];
        sofar = one_read b at count from left i.pre i.sofar x h l;
        kept_is = rw (keep_gone (wanted_entry o) i.pre found q) i.kept_is;
        size_is = rw (keep_gone (wanted_entry o) i.pre found q) i.size_is;
        fits = omega (arith, i.fits, l.1);
        few = omega (arith, i.few);
      }

    pub walk_end : left ≡ 0 → WalkIs o b at count (Some (record { end = from; kept = kept; size = size }))
    walk_end z =
        (i.sofar.within, i.fits, omega (arith, i.few), (i.pre, all_read b at count from left i.pre i.sofar z, i.kept_is, i.size_is))

-- ---- the copy

-- Of the wanted ones of those read, these bytes were written at `to` of d, which is d' now; the others stand one behind the other from `row` on.
pub record Writing (o : Options) (b : Bytes) (at count : ℕ) (d : Bytes) (to : ℕ) (d' : Bytes) (from left put row : ℕ) : Type 0 where
  pub pre : List Entry
  pub sofar : Sofar b at count from left pre
  pub written : Bytes
  pub split : bytes_of (keep (wanted_entry o) pre) ≡ written ++ take (from - row) (drop row b)
  pub forth : row ≤ from
  pub wrote : Wrote written d to d' put
  pub same : length d' ≡ length d

-- a part, and the part behind it
part_part : (a m e : ℕ) (b : Bytes) → a ≤ m → m ≤ e → take (m - a) (drop a b) ++ take (e - m) (drop m b) ≡ take (e - a) (drop a b)
part_part a m e b h k =
    let n : a + (m - a) ≡ m = omega arith in
    let z : m - a + (e - m) ≡ e - a = omega arith in
    ap (λ (i : ℕ). take (m - a) (drop a b) ++ take (e - m) (drop i b)) (sym n) ∙ ap (λ (l : Bytes). take (m - a) (drop a b) ++ take (e - m) l) (sym (drop-drop (m - a) a b))
    ∙ sym (take-add (m - a) (e - m) (drop a b)) ∙ ap (λ (i : ℕ). take i (drop a b)) z

no_part : (a : ℕ) (b : Bytes) → take (a - a) (drop a b) ≡ []
no_part a b = ap (λ (i : ℕ). take i (drop a b)) (let z : a - a ≡ 0 = omega arith in z)

module _ (o : Options) (b : Bytes) (at count : ℕ) (d : Bytes) (to : ℕ) where
  pub write_start : at ≤ length b → Writing o b at count d to d at count to at
  unfolding keep flatten
  write_start h = record { pre = []; sofar = none_read b at count h; written = []; split = sym (no_part at b); forth = omega arith; wrote = wrote_none d to; same = refl }

  module _ (d' : Bytes) (from left put row : ℕ) (i : Writing o b at count d to d' from left put row) where
    -- all can be read
    pub write_cut : 0 < left → entry (drop from b) ≡ none → IsSome (many count entry (drop at b)) → ⊥
    write_cut h q s = rw (cut b at count from left i.pre i.sofar h q) at s

    pub write_room : IsSome (many count entry (drop at b)) → to + length (kept_bytes o (many count entry (drop at b))) ≤ length d → put + length (take (from - row) (drop row b)) ≤ length d'
    write_room s r =
        let k = kept_short b at count from left i.pre i.sofar o s in
        omega (arith, k, ap length i.split, length-append i.written (take (from - row) (drop row b)), i.wrote.end, i.same)

    -- the row is written
    row_written : (d'' : Bytes) (p : ℕ) → Wrote (take (from - row) (drop row b)) d' put d'' p → Wrote (bytes_of (keep (wanted_entry o) i.pre)) d to d'' p
    row_written d'' p w = rw i.split (wrote_then i.wrote w)

    module _ (x : Asset) (h : 0 < left) (l : AssetIs b from (Some x)) where
      abbrev copied_to : ℕ
      copied_to = x.end

      abbrev copied : Entry
      copied = entry_at b from copied_to x.part l.2.0

      next_read : Sofar b at count copied_to (left - 1) (i.pre ++ copied ∷ [])
      next_read = one_read b at count from left i.pre i.sofar x h l

      pub write_kept : wanted o x.part ≡ true → Writing o b at count d to d' copied_to (left - 1) put row
      write_kept q = record {
        pre = _;
        sofar = next_read;
        written = i.written;
        split = bytes_one (wanted_entry o) i.pre copied q ∙ ap (λ (y : Bytes). y ++ take (copied_to - from) (drop from b)) i.split
            ∙ append_assoc i.written (take (from - row) (drop row b)) (take (copied_to - from) (drop from b)) ∙ ap (λ (y : Bytes). i.written ++ y) (part_part row from copied_to b i.forth (omega (arith, l.1)));
        forth = omega (arith, i.forth, l.1);
        wrote = i.wrote;
        same = i.same;
      }

      pub write_gone : wanted o x.part ≡ false → (d'' : Bytes) (p : ℕ) → Wrote (take (from - row) (drop row b)) d' put d'' p → length d'' ≡ length d' → Writing o b at count d to d'' copied_to (left - 1) p copied_to
      write_gone q d'' p w s = record {
        pre = _;
        sofar = next_read;
        written = bytes_of (keep (wanted_entry o) i.pre);
        split = ap bytes_of (keep_gone (wanted_entry o) i.pre copied q) ∙ sym (append-nil (bytes_of (keep (wanted_entry o) i.pre))) ∙ ap (λ (y : Bytes). bytes_of (keep (wanted_entry o) i.pre) ++ y) (sym (no_part copied_to b));
        forth = omega arith;
        wrote = row_written d'' p w;
        same = s ∙ i.same;
      }

    pub write_end : left ≡ 0 → (d'' : Bytes) (p : ℕ) → Wrote (take (from - row) (drop row b)) d' put d'' p → Wrote (kept_bytes o (many count entry (drop at b))) d to d'' p
    write_end z d'' p w = rw (all_read b at count from left i.pre i.sofar z) (row_written d'' p w)

-- ---- the body without what is not wanted

module _ (o : Options) (b : Bytes) where
  pub front_none : mpt_front b ≡ none → mpt_without o b ≡ none
  unfolding mpt_without mpt raw
  front_none q = rw q

  -- its count is at h
  module _ (h : ℕ) (f : Ends (mpt_front b) b (Some h)) where
    pub count_none : length b ≤ h → mpt_without o b ≡ none
    unfolding mpt_without mpt raw
    count_none k = rw (f.1.1, u8_none b h k)

    module _ (k : h < length b) (n : ℕ) (is : n ≡ get_or b h 0) (low : n < 256) where
      mpt_many : mpt b ≡ bind (many n entry (drop (h + 1) b)) (λ es. give (record { front = take h b; entries = es }))
      unfolding mpt raw
      mpt_many = rw (f.1.1, u8_at_lem b h (h + 1) k (omega arith) refl, past b h f.0, is)

      pub entries_none : many n entry (drop (h + 1) b) ≡ none → mpt_without o b ≡ none
      unfolding mpt_without
      entries_none q = rw (mpt_many, q)

      module _ (r : EntryWalk) (w : WalkIs o b (h + 1) n (Some r)) where
        as_many : length w.3.0 ≡ n
        as_many = (many_framed entry (λ e. e.bytes_of) entry_framed n (drop (h + 1) b) w.3.0 (drop r.end b) w.3.1).length_of

        pub all_stay : r.kept ≡ n → mpt_without o b ≡ none
        unfolding mpt_without
        all_stay q = rw (mpt_many, w.3.1, all_long (wanted_entry o) w.3.0 (omega (arith, as_many, w.3.2)))

        pub some_go : (r.kept ≡ n → ⊥) → MptLess o b (record { front = h; end = r.end; kept = r.kept; size = r.size })
        unfolding mpt_without
        some_go q = record {
          entries_of = w.3.0;
          reads = rw (← is) w.3.1;
          narrowed = rw (mpt_many, w.3.1, not_all (wanted_entry o) w.3.0 (λ z. q (omega (arith, as_many, w.3.2))));
          kept_is = w.3.2;
          size_is = w.3.3;
          few = omega (arith, w.2);
          fits = w.1;
          within = w.0;
        }

-- ---- written: front, count, entries and what follows them, one after another

module _ (o : Options) (b : Bytes) (less : MptChange) (m : MptLess o b less) (n : ℕ) (is : n ≡ get_or b less.front 0) where
  abbrev front : ℕ
  front = less.front

  abbrev end : ℕ
  end = less.end

  abbrev kept : ℕ
  kept = less.kept

  pub less_some : IsSome (many n entry (drop (front + 1) b))
  less_some = rw (is, m.reads) tt

  less_size : length (kept_bytes o (many n entry (drop (front + 1) b))) ≡ less.size
  less_size = rw (is, m.reads) (sym m.size_is)

  module _ (d d₁ d₂ : Bytes) (to r₁ r₂ : ℕ) (u₁ : Wrote (take (front - 0) (drop 0 b)) d to d₁ r₁) (w₂ : Wrote (kept % 256 ∷ []) d₁ r₁ d₂ r₂)
      (room : to + length b ≤ length d) (s₁ : length d₁ ≡ length d) (s₂ : length d₂ ≡ length d₁) where
    w₁ : Wrote (take front b) d to d₁ r₁
    w₁ = rw (sub-zero front) at u₁

    placed : r₂ ≡ to + front + 1
    placed = omega (arith, w₁.end, w₂.end, length-take-le front b (omega (arith, m.fits, m.within)))

    pub less_room : r₂ + length (kept_bytes o (many n entry (drop (front + 1) b))) ≤ length d₂
    less_room = omega (arith, placed, less_size, m.fits, m.within)

    module _ (d₃ : Bytes) (r₃ : ℕ) (w₃ : Wrote (kept_bytes o (many n entry (drop (front + 1) b))) d₂ r₂ d₃ r₃) where
      pub rest_room : length d₃ ≡ length d₂ → r₃ + length (take (length b - end) (drop end b)) ≤ length d₃
      rest_room s₃ = rw (rest_of b end) (omega (arith, placed, less_size, w₃.end, m.fits, m.within, length-drop end b))

      pub less_written : (d₄ : Bytes) (r₄ : ℕ) → Wrote (take (length b - end) (drop end b)) d₃ r₃ d₄ r₄ → Wrote (Option.get_or (mpt_without o b) b) d to d₄ r₄
      unfolding mpt_body
      less_written d₄ r₄ w₄ =
          let number : kept % 256 ≡ length (keep (wanted_entry o) m.entries_of) = mod-eq_of_lt m.few ∙ m.kept_is in
          rw m.narrowed (wrote_then w₁ (wrote_then (rw number at w₂) (wrote_then (rw (is, m.reads) at w₃) (rw (rest_of b end) at w₄))))
