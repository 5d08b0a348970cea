-- Asset entries at an offset, as `assets` reads them: clock relation, what follows the flags, the kind, the whole entry with its
-- bytes, and the front of an MPT. Rests on Reading of `meaning`; an entry's length rests on the locality of `asset`.
use Prim.Native.Nat.{ℕ, suc, ◌+◌, ◌-◌, ◌*◌, ◌%◌, ◌≤◌, ◌<◌}
use mathlib.Core.Path.{◌≡◌, refl, ◌∙◌}
use mathlib.Core.Bool.{Bool, true, false, cond, ◌&&◌}
use mathlib.Core.List.{List, [], ◌∷◌}
use mathlib.Core.Option.{Option, none, some}
use native.Mathlib.Decide.{dec_lt}
use native.Mathlib.Omega.{arith}
use lib.ListN.{length, take, drop, get_or, length-drop}
use lib.Seq.{drop-cons}
use lib.Dec.{eqb}
use Rattle.meaning.specs.Bytes.{Bytes, be16, be16_at, be32_at}
use Rattle.meaning.specs.Readers.{Out, Reader, bind, ◌>>=◌, give, u8, bytes, counted8, counted16, announced, many, raw}
use borrow.Author.Tests.{eq-eqb, eqb-true, le-leb, leb-true}
use Rattle.meaning.specs.Tables.{clock_relation, location_body, location, asset, entry, same_bytes, part_of, mpt_front, first_of}
use Rattle.meaning.specs.Tables as meant
use Rattle.meaning.specs.declared.Part.{Part}
use Rattle.meaning.specs.declared.Part.TheVariants.{Caption, Carousel, Other}
use Rattle.meaning.proofs.ListLaws.{clash, and_both, both_true, and_true}
use Rattle.meaning.proofs.Local.{asset_local}
use Rattle.meaning.proofs.Framed.{progress}
use Rattle.meaning.proofs.Reading.{u8_none, u8_some, u16_at, bytes_at, bytes_none, counted8_none}
use Rattle.octets.proofs.ByteLaws.{u8_at_lem}
use Rattle.tables.specs.Answers.{Ends, LocationsAre, asset_tail, is_plain, AssetIs}
use Rattle.std.specs.Prelude.{Some}
use Rattle.tables.specs.declared.locations.Located.{Located}

-- ---- clock relation

module _ (s : Bytes) (at flags : ℕ) where
  -- what the flags announce
  abbrev Clock : Out Bytes
  Clock = announced (flags % 2) clock_relation (drop at s)

  pub clock_absent : flags % 2 ≡ 0 → at ≤ length s → Ends Clock s (Some at)
  unfolding announced
  clock_absent z h = (h, ([], rw z))

  module _ (one : flags % 2 ≡ 1) (small : (i : ℕ) → get_or s i 0 < 256) where
    -- its two bytes are not there
    pub clock_cut : length s < at + 2 → Clock ≡ none
    unfolding announced clock_relation
    clock_cut h =
        rw one
        (elim (dec_lt at (length s)) [
          | yes k ↦ rw (u8_at_lem s at (at + 1) k (small at) refl, u8_none s (at + 1) (omega arith))
          | no k ↦ rw (u8_none s at (omega arith))
        ])

    module _ (h : at + 2 ≤ length s) where
      -- as far as its second byte, whose bit 0 announces four more
      clock_flag : Clock ≡ announced (get_or s (at + 1) 0 % 2) (bytes 4) (drop (at + 2) s)
      unfolding announced clock_relation
      clock_flag =
          rw (one, u8_at_lem s at (at + 1) (omega arith) (small at) refl, u8_at_lem s (at + 1) (at + 2) (omega arith) (small (at + 1)) (omega arith))

      pub clock_short : get_or s (at + 1) 0 % 2 ≡ 0 → Ends Clock s (Some (at + 2))
      unfolding announced
      clock_short z = (h, ([], rw (clock_flag, z)))

      pub clock_long : get_or s (at + 1) 0 % 2 ≡ 1 → Clock ≡ bytes 4 (drop (at + 2) s)
      unfolding announced
      clock_long e = rw (clock_flag, e)

-- ---- what follows the flags

module _ (s : Bytes) (at flags : ℕ) where
  abbrev Tail : Out (List (Option ℕ))
  Tail = asset_tail flags (drop at s)

  -- the clock relation is cut
  pub tail_clock : Clock s at flags ≡ none → Tail ≡ none
  unfolding asset_tail
  tail_clock k = rw k

  module _ (counts : ℕ) (k : Ends (Clock s at flags) s (Some counts)) where
    -- the count of locations is not there
    pub tail_count : length s ≤ counts → Tail ≡ none
    unfolding asset_tail
    tail_count h = rw (k.1.1, u8_none s counts h)

    module _ (n : ℕ) (h : counts < length s) (is : n ≡ get_or s counts 0) (small : n < 256) where
      -- as far as the count
      counted : Tail ≡ bind (many n location (drop (counts + 1) s)) (λ ls. counted16 >>= (λ _. give ls))
      unfolding asset_tail
      counted = rw (k.1.1, u8_at_lem s counts (counts + 1) h (omega arith) refl, ← is)

      -- a location is cut
      pub tail_locations : many n location (drop (counts + 1) s) ≡ none → Tail ≡ none
      tail_locations l = counted ∙ rw l

      module _ (l : Located) (are : LocationsAre (many n location (drop (counts + 1) s)) s (Some l)) where
        -- the descriptors are cut
        pub tail_descriptors : counted16 (drop l.end s) ≡ none → Tail ≡ none
        tail_descriptors d = counted ∙ rw (are.1.1, d)

        pub tail_whole : (e : ℕ) → Ends (counted16 (drop l.end s)) s (Some e) → LocationsAre Tail s (Some (record { end = e; carrier = l.carrier }))
        tail_whole e d = (d.0, (are.1.0, counted ∙ rw (are.1.1, d.1.1), are.1.2))

-- ---- the same, plain

-- by its last test where the others are met
pub plain_so : (s : Bytes) (at flags : ℕ) → flags % 2 ≡ 0 → at + 4 ≤ length s → get_or s at 0 ≡ 1 → eqb (get_or s (at + 1) 0) 0 ≡ is_plain flags s at
unfolding is_plain
plain_so s at flags z room one = rw (eq-eqb _ _ z, le-leb _ _ room, eq-eqb _ _ one)

module _ (s : Bytes) (at flags : ℕ) (plain : is_plain flags s at ≡ true) where
  pub record Plain : Type 0 where
    pub clockless : flags % 2 ≡ 0
    pub room : at + 4 ≤ length s
    pub one : get_or s at 0 ≡ 1
    pub here : get_or s (at + 1) 0 ≡ 0

  pub plain_parts : Plain
  unfolding is_plain
  plain_parts =
      let p = and_both _ _ plain in
      let q = and_both _ _ p.1 in
      let r = and_both _ _ q.1 in
      record { clockless = eqb-true _ _ p.0; room = leb-true _ _ q.0; one = eqb-true _ _ r.0; here = eqb-true _ _ r.1 }

  -- as far as the identifier
  plain_front : Tail s at flags ≡ bind (counted16 (drop (at + 4) s)) (λ _. give (some (be16_at s (at + 2)) ∷ []))
  unfolding asset_tail announced many location location_body
  plain_front =
      let p = plain_parts in
      rw (
        p.clockless,
        u8_some s at (at + 1) (omega (arith, p.room)) refl,
        p.one,
        u8_some s (at + 1) (at + 2) (omega (arith, p.room)) (omega arith),
        p.here,
        u16_at s (at + 2) (at + 4) p.room (omega arith),
      )

  pub plain_broken : counted16 (drop (at + 4) s) ≡ none → Tail s at flags ≡ none
  plain_broken d = plain_front ∙ rw d

  pub plain_whole : (e p : ℕ) → Ends (counted16 (drop (at + 4) s)) s (Some e) → p ≡ be16_at s (at + 2) → LocationsAre (Tail s at flags) s (Some (record { end = e; carrier = Some p }))
  unfolding first_of
  plain_whole e p d is = (d.0, (some (be16_at s (at + 2)) ∷ [], plain_front ∙ rw d.1.1, rw is))

-- ---- the kind

-- four bytes, as the code reads them
four_at : (s : Bytes) (at : ℕ) → at + 4 ≤ length s
    → take 4 (drop at s) ≡ get_or s at 0 ∷ get_or s (at + 1) 0 ∷ get_or s (at + 2) 0 ∷ get_or s (at + 3) 0 ∷ []
four_at s at h =
    let next : (i j : ℕ) → j ≡ suc i → i < length s → drop i s ≡ get_or s i 0 ∷ drop j s = λ i j e k. rw e (drop-cons s i 0 k) in
    rw (next at (at + 1) (omega arith) (omega arith), next (at + 1) (at + 2) (omega arith) (omega arith), next (at + 2) (at + 3) (omega arith) (omega arith), next (at + 3) (at + 4) (omega arith) (omega arith))

-- the number that they make
four_number : (s : Bytes) (at : ℕ) → ((i : ℕ) → get_or s i 0 < 256)
    → be32_at s at ≡ get_or s at 0 * 16777216 + get_or s (at + 1) 0 * 65536 + get_or s (at + 2) 0 * 256 + get_or s (at + 3) 0
unfolding be32_at be16_at be16
four_number s at small =
    let k : at + 2 + 1 ≡ at + 3 = omega arith in
    rw k (omega (arith, small at, small (at + 1), small (at + 2), small (at + 3)))

-- two tests are one where each follows from the other
same_test : (a b : Bool) → (a ≡ true → b ≡ true) → (b ≡ true → a ≡ true) → a ≡ b
same_test true b f g = cc (f refl)
same_test false true f g = g refl
same_test false false f g = refl

-- four bytes are the same exactly where their numbers are
four_same : (w x y z a b c d : ℕ) → w < 256 → x < 256 → y < 256 → z < 256 → a < 256 → b < 256 → c < 256 → d < 256
    → (eqb w a && (eqb x b && (eqb y c && eqb z d))) ≡ eqb (w * 16777216 + x * 65536 + y * 256 + z) (a * 16777216 + b * 65536 + c * 256 + d)
four_same w x y z a b c d hw hx hy hz ha hb hc hd =
    same_test (eqb w a && (eqb x b && (eqb y c && eqb z d))) _
    (λ t.
    let p = and_both (eqb w a) _ t in
    let q = and_both (eqb x b) _ p.1 in
    let r = and_both (eqb y c) (eqb z d) q.1 in
    eq-eqb (w * 16777216 + x * 65536 + y * 256 + z) (a * 16777216 + b * 65536 + c * 256 + d)
    (omega (arith, eqb-true w a p.0, eqb-true x b q.0, eqb-true y c r.0, eqb-true z d r.1)))
    (λ t.
    let e : w * 16777216 + x * 65536 + y * 256 + z ≡ a * 16777216 + b * 65536 + c * 256 + d = eqb-true _ _ t in
    both_true _ _ (eq-eqb w a (omega arith)) (both_true _ _ (eq-eqb x b (omega arith)) (both_true _ _ (eq-eqb y c (omega arith)) (eq-eqb z d (omega arith)))))

module _ (s : Bytes) (at : ℕ) (h : at + 4 ≤ length s) (small : (i : ℕ) → get_or s i 0 < 256) where
  -- the test of the four by their number
  same_number : (a b n : ℕ) → a < 256 → b < 256 → n ≡ a * 16777216 + b * 65536 + 0x70 * 256 + 0x70
      → same_bytes (take 4 (drop at s)) (a ∷ b ∷ 0x70 ∷ 0x70 ∷ []) ≡ eqb (be32_at s at) n
  unfolding same_bytes
  same_number a b n ha hb is =
      rw (four_at s at h, four_number s at small, and_true, is)
      (four_same _ _ _ _ a b 0x70 0x70 (small at) (small (at + 1)) (small (at + 2)) (small (at + 3)) ha hb (omega arith) (omega arith))

  -- the kind by it
  pub part_number : part_of (take 4 (drop at s)) ≡ cond (eqb (be32_at s at) 0x73747070) Caption (cond (eqb (be32_at s at) 0x61617070) Carousel Other)
  unfolding part_of
  part_number =
      rw (same_number 0x73 0x74 0x73747070 (omega arith) (omega arith) (omega arith), same_number 0x61 0x61 0x61617070 (omega arith) (omega arith) (omega arith))

-- ---- an entry

-- n bytes, and then nothing
bytes_then : {B : Type 0} (s : Bytes) (at n : ℕ) (f : Bytes → Reader B) → at ≤ length s
    → (at + n ≤ length s → f (take n (drop at s)) (drop (at + n) s) ≡ none) → bind (bytes n (drop at s)) f ≡ none
bytes_then s at n f in_s go =
    elim (dec_lt (length s) (at + n)) [
      | yes k ↦ rw (bytes_none s at n (omega arith))
      | no k ↦ let h : at + n ≤ length s = omega arith in rw (bytes_at s at n (at + n) h refl) (go h)
    ]

-- one reader after two
bind_under : {A B C : Type 0} (o : Out A) (f : A → Reader B) (g : B → Reader C) {h : A → Reader C}
    → ((a : A) (r : Bytes) → h a r ≡ bind (f a r) g) → bind o h ≡ bind (bind o f) g
bind_under none f g e = refl
bind_under (some x) f g e = e x.0 x.1

-- an asset of this kind with these locations
abbrev made : Bytes → List (Option ℕ) → meant.Asset
made asset_type ls = record { asset_type = asset_type; carrier = first_of ls }

-- what an asset has behind its flags
abbrev behind_flags : Bytes → ℕ → Reader meant.Asset
behind_flags asset_type flags =
    announced (flags % 2) clock_relation >>= (λ _. u8 >>= (λ n. many n location >>= (λ ls. counted16 >>= (λ _. give (made asset_type ls)))))

-- that is `asset_tail`
behind_flags_lem : (asset_type : Bytes) (flags : ℕ) (s : Bytes) → behind_flags asset_type flags s ≡ bind (asset_tail flags s) (λ ls. give (made asset_type ls))
unfolding asset_tail
behind_flags_lem asset_type flags s =
    bind_under (announced (flags % 2) clock_relation s) _ _
    (λ _ r. bind_under (u8 r) _ _ (λ n r. bind_under (many n location r) _ _ (λ ls r. bind_under (counted16 r) _ _ (λ _ r. refl))))

module _ (s : Bytes) (at : ℕ) (small : (i : ℕ) → get_or s i 0 < 256) where
  -- not as far as the identifier
  asset_short : length s < at + 6 → asset (drop at s) ≡ none
  unfolding asset
  asset_short h =
      elim (dec_lt at (length s)) [
        | yes k ↦ rw (u8_at_lem s at (at + 1) k (small at) refl) (bytes_then s (at + 1) 4 _ (omega arith) (λ k2. rw (counted8_none s (at + 1 + 4) (omega arith))))
        | no k ↦ rw (u8_none s at (omega arith))
      ]

  module _ (type_at n : ℕ) (six : at + 6 ≤ length s) (is : n ≡ get_or s (at + 5) 0) (k-is : type_at ≡ at + 6 + n) where
    -- as far as the identifier's length
    asset_front : asset (drop at s) ≡ bind (bytes n (drop (at + 6) s)) (λ _. bytes 4 >>= (λ k. u8 >>= (λ flags. behind_flags k flags)))
    unfolding asset counted8
    asset_front =
        rw (
          u8_at_lem s at (at + 1) (omega arith) (small at) refl,
          bytes_at s (at + 1) 4 (at + 5) (omega arith) (omega arith),
          u8_at_lem s (at + 5) (at + 6) (omega arith) (small (at + 5)) (omega arith),
          ← is,
        )

    -- not as far as the flags
    asset_cut : length s ≤ type_at + 4 → asset (drop at s) ≡ none
    asset_cut h = asset_front ∙ bytes_then s (at + 6) n _ six (λ k. bytes_then s (at + 6 + n) 4 _ k (λ k2. rw (u8_none s (at + 6 + n + 4) (omega arith))))

    -- as far as the flags
    asset_head : type_at + 4 < length s
        → asset (drop at s) ≡ bind (asset_tail (get_or s (type_at + 4) 0) (drop (type_at + 5) s)) (λ ls. give (made (take 4 (drop type_at s)) ls))
    asset_head h =
        asset_front
        ∙ rw (
          bytes_at s (at + 6) n type_at (omega arith) k-is,
          bytes_at s type_at 4 (type_at + 4) (omega arith) refl,
          u8_at_lem s (type_at + 4) (type_at + 5) h (small (type_at + 4)) (omega arith),
        )
        (behind_flags_lem (take 4 (drop type_at s)) (get_or s (type_at + 4) 0) (drop (type_at + 5) s))

-- an entry is an asset with its bytes
entry_none : (s : Bytes) → asset s ≡ none → entry s ≡ none
unfolding entry raw
entry_none s e = rw e

-- so that an asset takes one byte at least
asset_nothing : asset [] ≡ none
unfolding asset u8
asset_nothing = refl

-- those between where it starts and where it ends
entry_at : (s : Bytes) (at e : ℕ) (a : meant.Asset) → e ≤ length s → asset (drop at s) ≡ some (a, drop e s)
    → (at < e) × (entry (drop at s) ≡ some (record { part = part_of a.asset_type; carrier = a.carrier; bytes_of = take (e - at) (drop at s) }, drop e s))
unfolding entry raw
entry_at s at e a h q =
    let l = progress asset_local asset_nothing (drop at s) a (drop e s) q in
    let m : length (drop at s) - length (drop e s) ≡ e - at = omega (arith, l, length-drop at s, length-drop e s) in
    (omega (arith, l, length-drop at s, length-drop e s), rw (q, m))

module _ (s : Bytes) (at : ℕ) (small : (i : ℕ) → get_or s i 0 < 256) where
  -- the same of an entry
  pub entry_short : length s < at + 6 → entry (drop at s) ≡ none
  entry_short h = entry_none (drop at s) (asset_short s at small h)

  module _ (type_at n : ℕ) (six : at + 6 ≤ length s) (is : n ≡ get_or s (at + 5) 0) (k-is : type_at ≡ at + 6 + n) where
    pub entry_cut : length s ≤ type_at + 4 → entry (drop at s) ≡ none
    entry_cut h = entry_none (drop at s) (asset_cut s at small type_at n six is k-is h)

    module _ (h : type_at + 4 < length s) where
      -- what follows its flags
      abbrev Rest : Out (List (Option ℕ))
      Rest = Tail s (type_at + 5) (get_or s (type_at + 4) 0)

      pub entry_broken : Rest ≡ none → entry (drop at s) ≡ none
      entry_broken t = entry_none (drop at s) (asset_head s at small type_at n six is k-is h ∙ rw t)

      pub entry_whole : (l : Located) (part : Part) → LocationsAre Rest s (Some l) → part ≡ part_of (take 4 (drop type_at s))
          → AssetIs s at (Some (record { end = l.end; part = part; carrier = l.carrier }))
      entry_whole l part t p =
          let a = made (take 4 (drop type_at s)) t.1.0 in
          let u = entry_at s at l.end a t.0 (asset_head s at small type_at n six is k-is h ∙ rw t.1.1) in
          (t.0, u.0, (first_of t.1.0, rw p u.1, t.1.2))

-- ---- the front of an MPT

-- a first byte, whatever it is; without it there is no name either
pub front_none : (s : Bytes) → counted8 (drop 1 s) ≡ none → mpt_front s ≡ none
unfolding mpt_front u8
front_none [] h = refl
front_none (b ∷ s) h = rw h

pub front_at : (s : Bytes) (e : ℕ) → Ends (counted8 (drop 1 s)) s (Some e) → mpt_front s ≡ counted16 (drop e s)
unfolding mpt_front u8 counted8
front_at [] e h = clash (cc h.1.1)
front_at (b ∷ s) e h = rw h.1.1
