-- One law for each return of the readers: what the code's tests show is what the definition says. First finding packets, then the
-- header of the MMTP, the parts that are handed back, and the MMTP of a packet.
use Prim.Native.Nat.{ℕ, zero, suc, ◌+◌, ◌-◌, ◌*◌, ◌/◌, ◌%◌, ◌≤◌, ◌<◌}
use mathlib.Core.Path.{◌≡◌, refl, sym, ap, ◌∙◌}
use mathlib.Core.Logic.{◌⊎◌, inl, inr}
use mathlib.Core.Bool.{Bool, true, false, cond, ◌&&◌, ◌||◌}
use mathlib.Core.List.{[]}
use mathlib.Core.Option.{Option, none, some, map}
use native.Mathlib.Decide.{dec_lt, dec_le}
use native.Mathlib.Omega.{arith}
use lib.ListN.{length, take, drop, get_or, length-drop}
use lib.Seq.{get_or-drop, drop-drop, take_all}
use lib.Dec.{leb, ltb, eqb}
use borrow.Author.Tests.{lt-ltb, le-ltb, le-leb, lt-leb, ne_eqb}
use Rattle.meaning.specs.Bytes.{Bytes, be16_at}
use Rattle.meaning.specs.Readers.{◌>>=◌, Out, Reader, bind, give, u16, bytes, counted16, announced}
use Rattle.meaning.specs.Packets.{size_of, is_type, candidate, followed, step_of}
use Rattle.meaning.specs.Mmtp as meant
use Rattle.meaning.specs.declared.Step.TheVariants.{Packet, Skip, Keep}
use Rattle.meaning.proofs.Reading.{u8_none, u8_some, u16_at, u16_none, u32_at, u32_none, bytes_at, bytes_none, counted16_at, counted16_none}
use Rattle.tlv.specs.Answers.{as_offset, header_to, extended_to, HeaderIs, Behind, PartIs, PlacedIs, MmtpIs}
use Rattle.std.specs.Prelude.{Some, None}
use Rattle.tlv.specs.declared.Header.{Header}
use Rattle.tlv.specs.declared.Offset.{Offset}

-- ---- finding packets: the fields at an offset of the run

module _ (run : Bytes) (at : ℕ) where
  pub size_is : size_of (drop at run) ≡ 4 + be16_at run (at + 2)
  unfolding size_of be16_at
  size_is =
      let e : at + (2 + 1) ≡ at + 2 + 1 = omega arith in
      rw (get_or-drop at run 2 0, get_or-drop at run (2 + 1) 0, e)

  pub candidate_is : (P : ℕ) → candidate P (drop at run) ≡ (eqb (get_or run at 0) 0x7F && is_type (get_or run (at + 1) 0) && leb (size_of (drop at run)) P)
  unfolding candidate
  candidate_is P =
      let e : at + 0 ≡ at = omega arith in
      rw (get_or-drop at run 0 0, get_or-drop at run 1 0, e)

  pub followed_is : followed (drop at run) ≡ (leb (length run - at) (size_of (drop at run)) || eqb (get_or run (at + size_of (drop at run)) 0) 0x7F)
  unfolding followed
  followed_is = rw (length-drop at run, get_or-drop at run (size_of (drop at run)) 0)

-- ---- the answers of a step

module _ (P : ℕ) (s : Bytes) where
  pub keep_short : length s < 4 → step_of P s ≡ Keep
  unfolding step_of
  keep_short h = rw (lt-ltb _ _ h)

  pub skip_here : 4 ≤ length s → (candidate P s && followed s) ≡ false → step_of P s ≡ Skip
  unfolding step_of
  skip_here h f = rw (le-ltb _ _ h, f)

  pub keep_long : 4 ≤ length s → (candidate P s && followed s) ≡ true → length s < size_of s → step_of P s ≡ Keep
  unfolding step_of
  keep_long h f l = rw (le-ltb _ _ h, f, lt-leb _ _ l)

  pub packet_here : 4 ≤ length s → (candidate P s && followed s) ≡ true → size_of s ≤ length s → step_of P s ≡ Packet (size_of s)
  unfolding step_of
  packet_here h f l = rw (le-ltb _ _ h, f, le-leb _ _ l)

-- ---- the header: its twelve bytes

pub head_short : (s : Bytes) → length s < 12 → meant.mmtp_header s ≡ none
unfolding meant.mmtp_header
head_short s h =
    elim (dec_lt 0 (length s)) [
      | no k ↦ rw (u8_none s 0 (omega arith))
      | yes k ↦ rw (u8_some s 0 1 k refl) (elim (dec_lt 1 (length s)) [
        | no l ↦ rw (u8_none s 1 (omega arith))
        | yes l ↦ rw (u8_some s 1 2 l refl) (elim (dec_le 4 (length s)) [
          | no m ↦ rw (u16_none s 2 (omega arith))
          | yes m ↦ rw (u16_at s 2 4 m refl) (elim (dec_le 8 (length s)) [
            | no n ↦ rw (u32_none s 4 (omega arith))
            | yes n ↦ rw (u32_at s 4 8 n refl, u32_none s 8 (omega arith))
          ])
        ])
      ])
    ]

-- what follows the twelve bytes, by the two flags
abbrev flags_rest : Bytes → ℕ → Out meant.MmtpHeader
flags_rest s f =
    bind (announced (f / 32 % 2) (bytes 4) (drop 12 s))
    (λ _. announced (f / 2 % 2) meant.extension >>= (λ _. give (record { identifier = be16_at s 2; payload_type = get_or s 1 0 % 64 })))

twelve : (s : Bytes) → 12 ≤ length s → get_or s 0 0 < 256 → meant.mmtp_header s ≡ flags_rest s (get_or s 0 0)
unfolding meant.mmtp_header
twelve s h b =
    let f : get_or s 0 0 % 256 ≡ get_or s 0 0 = omega arith in
    let k : get_or s 1 0 % 256 % 64 ≡ get_or s 1 0 % 64 = omega arith in
    rw (u8_some s 0 1 (omega arith) refl, u8_some s 1 2 (omega arith) refl, u16_at s 2 4 (omega arith) refl, u32_at s 4 8 (omega arith) refl, u32_at s 8 12 h refl, f, k)

-- the packet counter: four bytes where its flag is on
counter : {B : Type 0} (s : Bytes) (g : Bytes → Reader B) (v at : ℕ) → v < 2 → at ≡ 12 + v * 4 → at ≤ length s
    → (r : Out B) → ((a : Bytes) → g a (drop at s) ≡ r) → bind (announced v (bytes 4) (drop 12 s)) g ≡ r
unfolding announced
counter s g zero at l e h r k = let q : at ≡ 12 = omega arith in sym (ap (λ (n : ℕ). g [] (drop n s)) q) ∙ k []
counter s g (suc zero) at l e h r k = let q : 16 ≡ at = omega arith in rw (bytes_at s 12 4 at h (omega arith)) (k _)
counter s g (suc (suc v)) at l e h r k = absurd (omega arith)

counter_cut : {B : Type 0} (s : Bytes) (g : Bytes → Reader B) (v : ℕ) → v < 2 → 12 ≤ length s → length s < 12 + v * 4 → bind (announced v (bytes 4) (drop 12 s)) g ≡ none
unfolding announced
counter_cut s g zero l h k = absurd (omega arith)
counter_cut s g (suc zero) l h k = rw (bytes_none s 12 4 (omega arith))
counter_cut s g (suc (suc v)) l h k = absurd (omega arith)

module _ (s : Bytes) (at : ℕ) (long : 12 ≤ length s) (small : get_or s 0 0 < 256) (is : at ≡ 12 + get_or s 0 0 / 32 % 2 * 4) where
  v : get_or s 0 0 / 32 % 2 < 2
  v = omega arith

  -- no extension
  pub head_plain : get_or s 0 0 / 2 % 2 ≡ 0 → HeaderIs (meant.mmtp_header s) s (header_to s at)
  unfolding header_to announced
  head_plain e =
      elim (dec_lt (length s) at) [
        | yes k ↦ rw (lt-ltb (length s) at k) (twelve s long small ∙ counter_cut s _ (get_or s 0 0 / 32 % 2) v long (omega arith))
        | no k ↦ rw (le-ltb (length s) at (omega arith))
            (omega arith, omega arith, twelve s long small ∙ counter s _ (get_or s 0 0 / 32 % 2) at v is (omega arith) _ (λ a. rw e refl))
      ]

  -- an extension
  pub head_extended : get_or s 0 0 / 2 % 2 ≡ 1 → HeaderIs (meant.mmtp_header s) s (extended_to s at)
  unfolding extended_to header_to announced meant.extension
  head_extended e =
      elim (dec_lt (length s) at) [
        | yes k ↦ rw (lt-ltb (length s) (at + 4) (omega arith)) (twelve s long small ∙ counter_cut s _ (get_or s 0 0 / 32 % 2) v long (omega arith))
        | no k ↦ elim (dec_lt (length s) (at + 4)) [
          | yes l ↦ rw (lt-ltb (length s) (at + 4) l)
              (twelve s long small ∙ counter s _ (get_or s 0 0 / 32 % 2) at v is (omega arith) none (λ a. rw e (cut_short l)))
          | no l ↦ rw (le-ltb (length s) (at + 4) (omega arith)) (sized (omega arith))
        ]
      ]
    where
      head : meant.MmtpHeader
      head = record { identifier = be16_at s 2; payload_type = get_or s 1 0 % 64 }

      after : Bytes → Reader meant.MmtpHeader
      after = λ _. give head

      cut_short : length s < at + 4 → bind (bind (u16 (drop at s)) (λ _. counted16)) after ≡ none
      cut_short l = elim (dec_lt (length s) (at + 2)) [
        | yes m ↦ rw (u16_none s at m)
        | no m ↦ rw (u16_at s at (at + 2) (omega arith) refl, counted16_none s (at + 2) (omega arith))
      ]

      sized : at + 4 ≤ length s → HeaderIs (meant.mmtp_header s) s (cond (ltb (length s) (at + 4 + be16_at s (at + 2))) None (Some (record { start = at + 4 + be16_at s (at + 2); identifier = be16_at s 2; payload_type = get_or s 1 0 % 64 })))
      sized l =
          let four : at + 2 + 2 ≡ at + 4 = omega arith in
          elim (dec_lt (length s) (at + 4 + be16_at s (at + 2))) [
            | yes m ↦ rw (lt-ltb (length s) (at + 4 + be16_at s (at + 2)) m)
                (twelve s long small ∙ counter s _ (get_or s 0 0 / 32 % 2) at v is (omega arith) none
                (λ a. rw (e, u16_at s at (at + 2) (omega arith) refl, counted16_at s (at + 2) (omega arith), four, bytes_none s (at + 4) (be16_at s (at + 2)) (omega arith))))
            | no m ↦ rw (le-ltb (length s) (at + 4 + be16_at s (at + 2)) (omega arith)) (
              omega arith,
              omega arith,
              twelve s long small ∙ counter s _ (get_or s 0 0 / 32 % 2) at v is (omega arith) _
                  (λ a. rw (e, u16_at s at (at + 2) (omega arith) refl, counted16_at s (at + 2) (omega arith), four, bytes_at s (at + 4) (be16_at s (at + 2)) (at + 4 + be16_at s (at + 2)) (omega arith) refl)),
            )
          ]

-- ---- a part of a slice up to its end, which is its rest

pub to_end : (s : Bytes) (n : ℕ) → take (length s - n) (drop n s) ≡ drop n s
to_end s n = take_all (length s - n) (drop n s) (omega (arith, length-drop n s))

pub rest_from : (s : Bytes) (n start : ℕ) → n ≤ start → start ≤ length s → Behind n s (take (length s - start) (drop start s))
rest_from s n start l h = record { start = start; least = l; within = h; rest_is = to_end s start }

-- it has at least n bytes less
pub behind_short : {n : ℕ} {s r : Bytes} → Behind n s r → n + length r ≤ length s
behind_short {n} {s} {r} b = omega (arith, b.least, b.within, ap length b.rest_is, length-drop b.start s)

-- the rest of a rest
pub behind_behind : {m n : ℕ} {s t r : Bytes} → Behind m s t → Behind n t r → Behind (m + n) s r
behind_behind {m} {n} {s} {t} {r} a b =
    let l : length t ≡ length s - a.start = ap length a.rest_is ∙ length-drop a.start s in
    record {
      start = a.start + b.start;
      least = omega (arith, a.least, b.least);
      within = omega (arith, a.within, b.within, l);
      rest_is = b.rest_is ∙ ap (drop b.start) a.rest_is ∙ drop-drop b.start a.start s;
    }

-- Any two parts that the promise allows are equal.
pub part_one : (o : Option Bytes) (n : ℕ) (s r q : Bytes) → PartIs o n s r → PartIs o n s q → r ≡ q
part_one none n s r q a b =
    let e : a.start ≡ b.start = omega (arith, a.least, a.within, b.least, b.within) in
    a.rest_is ∙ ap (λ (k : ℕ). drop k s) e ∙ sym b.rest_is
part_one (some y) n s r q a b = a.0 ∙ sym b.0

module _ (s : Bytes) where
  pub part_cut : meant.mmtp_header s ≡ none → PartIs (map (λ x. x.1) (meant.mmtp_header s)) 12 s (take (length s - length s) (drop (length s) s))
  part_cut e = rw e (rest_from s (length s) (length s) (omega arith) (omega arith))

  pub part_read : (a : Header) → HeaderIs (meant.mmtp_header s) s (Some a)
      → PartIs (map (λ x. x.1) (meant.mmtp_header s)) 12 s (take (length s - a.start) (drop a.start s))
  part_read a h = rw h.2 (to_end s a.start, rest_from s 12 a.start h.0 h.1)

-- ---- an offset out of what the code has

pub unplaced : (o : meant.Offset) → None ≡ as_offset o → o ≡ none
unplaced none e = refl
unplaced (some x) e = let z : ◌≡◌ {A = ℕ} 0 1 = cc in absurd (omega arith)

pub placed_at : (o : meant.Offset) (a : Offset) → Some a ≡ as_offset o → o ≡ some (a.at, a.rewritable)
placed_at none a e = let z : ◌≡◌ {A = ℕ} 0 1 = cc in absurd (omega arith)
placed_at (some x) a e = let b : a ≡ record { at = x.0; rewritable = x.1 } = cc in rw b

-- ---- a packet: what is read of it

module _ (p : Bytes) where
  pub no_mmtp : meant.mmtp_of p ≡ none → PartIs (map (λ m. m.payload) (meant.mmtp_of p)) 16 p (take (length p - length p) (drop (length p) p))
  no_mmtp e = rw e (rest_from p (length p) (length p) (omega arith) (omega arith))

  pub unread_short : length p < 4 → meant.mmtp_of p ≡ none
  unfolding meant.mmtp_of
  unread_short h = rw (lt-leb 4 (length p) h)

  module _ (four : 4 ≤ length p) where
    pub unread_offset : meant.offset_of (get_or p 1 0) (drop 4 p) ≡ none → meant.mmtp_of p ≡ none
    unfolding meant.mmtp_of
    unread_offset e = rw (le-leb 4 (length p) four, e)

    module _ (at : ℕ) (w : Bool) (e : meant.offset_of (get_or p 1 0) (drop 4 p) ≡ some (at, w)) where
      pub unread_past : length p - 4 < at → meant.mmtp_of p ≡ none
      unfolding meant.mmtp_of
      unread_past h = rw (le-leb 4 (length p) four, e, lt-leb at (length (drop 4 p)) (omega (arith, length-drop 4 p)))

      pub placed : at ≤ length p - 4 → PlacedIs p (Some (record { at = at + 4; rewritable = w }))
      unfolding meant.mmtp_of
      placed h =
          let d : drop at (drop 4 p) ≡ drop (at + 4) p = (let q : 4 + at ≡ at + 4 = omega arith in drop-drop at 4 p ∙ ap (λ (n : ℕ). drop n p) q) in
          (omega arith, omega arith, rw (le-leb 4 (length p) four, e, le-leb at (length (drop 4 p)) (omega (arith, length-drop 4 p)), d))

  module _ (o : Offset) (g : PlacedIs p (Some o)) where
    abbrev at : ℕ
    at = o.at

    abbrev w : Bool
    w = o.rewritable

    -- the packet from its MMTP on
    abbrev from_mmtp : Bytes
    from_mmtp = take (length p - at) (drop at p)

    read_as : meant.mmtp_of p ≡ meant.mmtp_from w (meant.mmtp_header from_mmtp)
    read_as = g.2 ∙ ap (λ (s : Bytes). meant.mmtp_from w (meant.mmtp_header s)) (sym (to_end p at))

    pub header_cut : meant.mmtp_header from_mmtp ≡ none → meant.mmtp_of p ≡ none
    header_cut e = read_as ∙ ap (meant.mmtp_from w) e

    pub header_read : (a : Header) → HeaderIs (meant.mmtp_header from_mmtp) from_mmtp (Some a)
        → MmtpIs (meant.mmtp_of p) p (Some (record { identifier = a.identifier; payload_type = a.payload_type; rewritable = w }))
    header_read a h = (
      drop a.start from_mmtp,
      behind_behind (rest_from p 4 at g.0 g.1) (record { start = a.start; least = h.0; within = h.1; rest_is = refl }),
      read_as ∙ ap (meant.mmtp_from w) h.2,
    )

    -- what is behind the header in that part is so in the packet
    pub part_in : (r : Bytes) → PartIs (map (λ x. x.1) (meant.mmtp_header from_mmtp)) 12 from_mmtp r → PartIs (map (λ m. m.payload) (meant.mmtp_of p)) 16 p r
    part_in r h = rw read_as (go (meant.mmtp_header from_mmtp) h)
      where
        go : (h' : Out meant.MmtpHeader) → PartIs (map (λ x. x.1) h') 12 from_mmtp r → PartIs (map (λ m. m.payload) (meant.mmtp_from w h')) 16 p r
        go none h =
            let l : at + length from_mmtp ≡ length p = omega (arith, g.1, ap length (to_end p at), length-drop at p) in
            rw l at (behind_behind (rest_from p at at (omega arith) g.1) h)
        go (some x) h = (h.0, behind_behind (rest_from p 4 at g.0 g.1) h.1)

-- ---- a compressed header that is of no known type; a type that is no IP

pub no_header_type : (k : ℕ) → ((k ≡ 0x21) ⊎ (k ≡ 0x61) → ⊥) → (k ≡ 0x20 → ⊥) → (k ≡ 0x60 → ⊥) → meant.by_header_type k ≡ none
unfolding meant.by_header_type
no_header_type k a b c = rw (ne_eqb k 0x21 (λ e. a (inl e)), ne_eqb k 0x61 (λ e. a (inr e)), ne_eqb k 0x20 b, ne_eqb k 0x60 c)

pub no_ip : (t : ℕ) (s : Bytes) → (t ≡ 0x03 → ⊥) → (t ≡ 0x01 → ⊥) → (t ≡ 0x02 → ⊥) → meant.offset_of t s ≡ none
unfolding meant.offset_of
no_ip t s a b c = rw (ne_eqb t 0x03 a, ne_eqb t 0x01 b, ne_eqb t 0x02 c)
