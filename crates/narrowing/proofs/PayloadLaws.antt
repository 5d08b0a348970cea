-- From the tables of a PA body to a payload and a packet: what the tests on a payload show, and that lengths are put right inside what
-- was written. Rests on WalkLaws and on NarrowLaws of `meaning`.
use Prim.Native.Nat.{ℕ, ◌+◌, ◌-◌, ◌/◌, ◌%◌, ◌≤◌, ◌<◌}
use mathlib.Core.Path.{◌≡◌, refl, sym, ap, ap₂, ◌∙◌, subst}
use mathlib.Core.Bool.{Bool, true, false, cond, ◌&&◌}
use mathlib.Core.List.{[], ◌∷◌, ◌++◌, append_assoc}
use mathlib.Core.Option.{Option, none, some, none-ne-some, some-injective}
use native.Mathlib.Omega.{arith}
use lib.ListN.{length, take, drop, get_or, length-drop}
use lib.Seq.{drop-drop, length-take-le, take-add, get_or-drop}
use lib.Dec.{leb, eqb}
use borrow.Author.Tests.{le-leb, lt-leb, leb-true, leb-false, eq-eqb, ne_eqb, eqb-true, eqb-false}
use Rattle.meaning.specs.Bytes.{Bytes, be16, be16_at, put16, put32}
use Rattle.meaning.specs.Writing.{Wrote}
use Rattle.meaning.specs.Readers.{Out, give, byte, u16}
use Rattle.meaning.specs.Messages.{Message, message, message_body, is_long, indicator, aggregated}
use Rattle.meaning.specs.Tables.{pa}
use Rattle.meaning.specs.Narrow.{narrow_pa, pa_of, pa_message, payload_bytes, payload_for, narrow_payload}
use Rattle.meaning.specs.declared.Options.{Options}
use Rattle.meaning.proofs.ListLaws.{and_both, clash}
use Rattle.meaning.proofs.Framed.{before}
use Rattle.meaning.proofs.Writes.{wrote_patch}
use Rattle.narrowing.specs.Tables.{tables_change}
use Rattle.narrowing.specs.Answers.{starts_pa, PaFound, NoPa, body_after}

-- ---- a payload that holds no PA message

pub none_no_pa : (payload : Bytes) → pa_message payload ≡ none → NoPa payload
none_no_pa payload e b q = absurd (none-ne-some _ (sym e ∙ q))

no_choice : (b : Bool) → ◌≡◌ {A = Option Bytes} (cond b none none) none
no_choice true = refl
no_choice false = refl

-- flags, counter and a message's number are four bytes
pub short_payload : (payload : Bytes) → length payload < 4 → pa_message payload ≡ none
unfolding pa_message message u16
short_payload [] h = refl
short_payload (f ∷ []) h = refl
short_payload (f ∷ k ∷ []) h = no_choice (eqb (indicator f) 0 && eqb (aggregated f) 0)
short_payload (f ∷ k ∷ i ∷ []) h = no_choice (eqb (indicator f) 0 && eqb (aggregated f) 0)
short_payload (f ∷ k ∷ i ∷ j ∷ s) h = absurd (omega arith)

flags_off : (f k : ℕ) (s : Bytes) → (eqb (indicator f) 0 && eqb (aggregated f) 0) ≡ false → pa_message (f ∷ k ∷ s) ≡ none
unfolding pa_message
flags_off f k s e = rw e

flags_on : (f k : ℕ) (s : Bytes) → (eqb (indicator f) 0 && eqb (aggregated f) 0) ≡ true → pa_message (f ∷ k ∷ s) ≡ pa_of (message s)
unfolding pa_message
flags_on f k s e = rw e

-- the first byte's tests, and the message
module _ (payload : Bytes) (two : 2 ≤ length payload) where
  pub not_whole : (indicator (get_or payload 0 0) ≡ 0 → ⊥) → pa_message payload ≡ none
  not_whole n = go payload two n
    where
      go : (s : Bytes) → 2 ≤ length s → (indicator (get_or s 0 0) ≡ 0 → ⊥) → pa_message s ≡ none
      go [] h n = absurd (omega arith)
      go (f ∷ []) h n = absurd (omega arith)
      go (f ∷ k ∷ s) h n = flags_off f k s (ap (λ (b : Bool). b && eqb (aggregated f) 0) (ne_eqb _ 0 n))

  pub several : indicator (get_or payload 0 0) ≡ 0 → (aggregated (get_or payload 0 0) ≡ 0 → ⊥) → pa_message payload ≡ none
  several i n = go payload two i n
    where
      go : (s : Bytes) → 2 ≤ length s → indicator (get_or s 0 0) ≡ 0 → (aggregated (get_or s 0 0) ≡ 0 → ⊥) → pa_message s ≡ none
      go [] h i n = absurd (omega arith)
      go (f ∷ []) h i n = absurd (omega arith)
      go (f ∷ k ∷ s) h i n = flags_off f k s (ap₂ ◌&&◌ (eq-eqb (indicator f) 0 i) (ne_eqb (aggregated f) 0 n))

  pub one_message : indicator (get_or payload 0 0) ≡ 0 → aggregated (get_or payload 0 0) ≡ 0 → pa_message payload ≡ pa_of (message (drop 2 payload))
  one_message i n = go payload two i n
    where
      go : (s : Bytes) → 2 ≤ length s → indicator (get_or s 0 0) ≡ 0 → aggregated (get_or s 0 0) ≡ 0 → pa_message s ≡ pa_of (message (drop 2 s))
      go [] h i n = absurd (omega arith)
      go (f ∷ []) h i n = absurd (omega arith)
      go (f ∷ k ∷ s) h i n = flags_on f k s (ap₂ ◌&&◌ (eq-eqb (indicator f) 0 i) (eq-eqb (aggregated f) 0 n))

-- ---- the message: number 0, and its body behind nine bytes of the payload

pub message_number : (s : Bytes) (m : Message) (rest : Bytes) → message s ≡ some (m, rest) → m.number ≡ be16_at s 0
unfolding message u16 byte be16_at
message_number [] m rest e = absurd (none-ne-some _ e)
message_number (i ∷ []) m rest e = absurd (none-ne-some _ e)
message_number (i ∷ j ∷ []) m rest e = absurd (none-ne-some _ e)
message_number (i ∷ j ∷ v ∷ t) m rest e =
    let x = before (message_body (is_long (be16 i j)) t) (λ body. give (record { number = be16 i j; body = body })) m rest e in
    sym (ap (λ y. y.0.number) (some-injective _ _ x.then_was))

pub other_message : (s : Bytes) → (be16_at s 0 ≡ 0 → ⊥) → pa_of (message s) ≡ none
other_message s n = go (message s) refl
  where
    go : (o : Out Message) → message s ≡ o → pa_of o ≡ none
    go none e = refl
    go (some (m, rest)) e = rw (ne_eqb m.number 0 (λ z. n (sym (message_number s m rest e) ∙ z)))

-- ---- the test that comes first

-- What it shows where it holds.
pub record Starts (payload : Bytes) : Type 0 where
  pub four : 4 ≤ length payload
  pub whole : indicator (get_or payload 0 0) ≡ 0
  pub single : aggregated (get_or payload 0 0) ≡ 0
  pub number : be16_at payload 2 ≡ 0

-- by shift and mask
module _ (f : ℕ) where
  pub first_part : f < 256 → (f / 64 ≡ 0 → ⊥) → indicator f ≡ 0 → ⊥
  unfolding indicator
  first_part b n e = n (omega (arith, e, b))

  pub first_whole : f / 64 ≡ 0 → indicator f ≡ 0
  unfolding indicator
  first_whole i = omega (arith, i)

  pub first_several : (f % 2 ≡ 0 → ⊥) → aggregated f ≡ 0 → ⊥
  unfolding aggregated
  first_several n = n

  pub first_single : f % 2 ≡ 0 → aggregated f ≡ 0
  unfolding aggregated
  first_single g = g

module _ (payload : Bytes) where
  pub start_short : length payload < 4 → starts_pa payload ≡ false
  unfolding starts_pa
  start_short h = rw (lt-leb 4 (length payload) h)

  module _ (four : 4 ≤ length payload) where
    pub start_part : (indicator (get_or payload 0 0) ≡ 0 → ⊥) → starts_pa payload ≡ false
    unfolding starts_pa
    start_part n = rw (le-leb 4 (length payload) four) (rw (ne_eqb (indicator (get_or payload 0 0)) 0 n))

    module _ (i : indicator (get_or payload 0 0) ≡ 0) where
      pub start_several : (aggregated (get_or payload 0 0) ≡ 0 → ⊥) → starts_pa payload ≡ false
      unfolding starts_pa
      start_several n = rw (le-leb 4 (length payload) four) (rw (eq-eqb (indicator (get_or payload 0 0)) 0 i) (rw (ne_eqb (aggregated (get_or payload 0 0)) 0 n)))

      -- by its number alone
      module _ (g : aggregated (get_or payload 0 0) ≡ 0) where
        start_number : starts_pa payload ≡ eqb (be16_at payload 2) 0
        unfolding starts_pa
        start_number = rw (le-leb 4 (length payload) four) (rw (eq-eqb (indicator (get_or payload 0 0)) 0 i) (rw (eq-eqb (aggregated (get_or payload 0 0)) 0 g)))

        pub start_other : (be16_at payload 2 ≡ 0 → ⊥) → starts_pa payload ≡ false
        start_other n = start_number ∙ ne_eqb (be16_at payload 2) 0 n

        pub start_all : be16_at payload 2 ≡ 0 → starts_pa payload ≡ true
        start_all z = start_number ∙ eq-eqb (be16_at payload 2) 0 z

  pub started : starts_pa payload ≡ true → Starts payload
  unfolding starts_pa
  started e =
      let a = and_both (leb 4 (length payload)) _ e in
      let b = and_both (eqb (indicator (get_or payload 0 0)) 0) _ a.1 in
      let c = and_both (eqb (aggregated (get_or payload 0 0)) 0) _ b.1 in
      record { four = leb-true _ _ a.0; whole = eqb-true _ _ b.0; single = eqb-true _ _ c.0; number = eqb-true _ _ c.1 }

  -- the number behind flags and counter
  pub number_at : be16_at (drop 2 payload) 0 ≡ be16_at payload 2
  unfolding be16_at
  number_at = ap₂ be16 (get_or-drop 2 payload 0 0) (get_or-drop 2 payload 1 0)

  two : leb 4 (length payload) ≡ true → 2 ≤ length payload
  two e = omega (arith, leb-true 4 (length payload) e)

  pub no_start : starts_pa payload ≡ false → NoPa payload
  unfolding starts_pa
  no_start e =
      none_no_pa payload
      (go (leb 4 (length payload)) refl (eqb (indicator (get_or payload 0 0)) 0) refl (eqb (aggregated (get_or payload 0 0)) 0) refl (eqb (be16_at payload 2) 0) refl e)
    where
      go : (a : Bool) → leb 4 (length payload) ≡ a → (b : Bool) → eqb (indicator (get_or payload 0 0)) 0 ≡ b → (c : Bool) → eqb (aggregated (get_or payload 0 0)) 0 ≡ c
          → (d : Bool) → eqb (be16_at payload 2) 0 ≡ d → (a && (b && (c && d))) ≡ false → pa_message payload ≡ none
      go false ea b eb c ec d ed q = short_payload payload (leb-false 4 (length payload) ea)
      go true ea false eb c ec d ed q = not_whole payload (two ea) (eqb-false _ 0 eb)
      go true ea true eb false ec d ed q = several payload (two ea) (eqb-true _ 0 eb) (eqb-false _ 0 ec)
      go true ea true eb true ec false ed q =
          one_message payload (two ea) (eqb-true _ 0 eb) (eqb-true _ 0 ec) ∙ other_message (drop 2 payload) (λ z. eqb-false _ 0 ed (sym number_at ∙ z))
      go true ea true eb true ec true ed q = clash (cc)

-- what a payload's message is, so is where its body starts
pub pa_body_lem : (payload : Bytes) (a e : ℕ) → a ≤ e → e ≤ length (drop 2 payload)
    → pa_message payload ≡ some (take (e - a) (drop a (drop 2 payload))) → 9 + (e - a) ≡ e + 2 → pa_message payload ≡ some (take (e + 2 - 9) (drop 9 payload))
pa_body_lem payload a e h l q n =
    let k : e - a ≡ e + 2 - 9 = omega arith in
    let d : drop a (drop 2 payload) ≡ drop 9 payload = (let z : 2 + a ≡ 9 = omega arith in drop-drop a 2 payload ∙ ap (λ (m : ℕ). drop m payload) z) in
    q ∙ ap₂ (λ (m : ℕ) (z : Bytes). some (take m z)) k d

-- ---- what narrowing makes of it

pub no_pa_stays : (o : Options) (p : ℕ) (payload : Bytes) → NoPa payload → narrow_payload o p payload ≡ none
unfolding narrow_payload narrow_pa pa
no_pa_stays o p payload n = go (pa_message payload) refl
  where
    go : (x : Option Bytes) → pa_message payload ≡ x → payload_for o p payload x ≡ none
    go none e = refl
    go (some b) e = rw (n b e)

module _ (o : Options) (p : ℕ) (payload : Bytes) (end tables : ℕ) (h : PaFound payload end tables) where
  pub pa_stays : tables_change o p (drop tables (take (end - 9) (drop 9 payload))) ≡ false → narrow_payload o p payload ≡ none
  unfolding narrow_payload narrow_pa pa tables_change
  pa_stays e = rw (h.body_is, h.heads.entries_read, e)

  pub pa_narrowed : tables_change o p (drop tables (take (end - 9) (drop 9 payload))) ≡ true
      → narrow_payload o p payload ≡ some (payload_bytes payload (body_after o p (take (end - 9) (drop 9 payload)) tables h.entries))
  unfolding narrow_payload narrow_pa pa tables_change
  pa_narrowed e = rw (h.body_is, h.heads.entries_read, e)

-- ---- lengths put right: nine bytes and a body, then the message's length; a packet's front and a payload, then its length

put16_length : (m : ℕ) → length (put16 m) ≡ 2
unfolding put16
put16_length m = refl

put32_length : (m : ℕ) → length (put32 m) ≡ 4
unfolding put32 put16
put32_length m = refl

pub nine_split : (s : Bytes) → 9 ≤ length s → take 9 s ≡ take 5 s ++ take 4 (drop 5 s)
nine_split s h = take-add 5 4 s

pub length_right : (payload b d d' d'' : Bytes) (to r q : ℕ) → 9 ≤ length payload → to ≤ length d → Wrote (take 9 payload ++ b) d to d' r → Wrote (put32 (length b)) d' (to + 5) d'' q
    → Wrote (payload_bytes payload b) d to d'' r
unfolding payload_bytes
length_right payload b d d' d'' to r q n h u v =
    let five : length (take 5 payload) ≡ 5 = length-take-le 5 payload (omega arith) in
    let four : length (take 4 (drop 5 payload)) ≡ 4 = length-take-le 4 (drop 5 payload) (omega (arith, length-drop 5 payload)) in
    wrote_patch (take 5 payload) (take 4 (drop 5 payload)) (put32 (length b)) b d d' d'' to (to + 5) r q h (omega arith) (put32_length (length b) ∙ sym four)
    (subst (λ (z : Bytes). Wrote z d to d' r) (ap (λ (z : Bytes). z ++ b) (nine_split payload n) ∙ append_assoc (take 5 payload) (take 4 (drop 5 payload)) b) u) v

pub packet_right : (p y d d' d'' : Bytes) (body to r q : ℕ) → 4 ≤ body → body ≤ length p → to ≤ length d → Wrote (take body p ++ y) d to d' r
    → Wrote (put16 (length (take (body - 4) (drop 4 p) ++ y))) d' (to + 2) d'' q
    → Wrote (take 2 p ++ (put16 (length (take (body - 4) (drop 4 p) ++ y)) ++ (take (body - 4) (drop 4 p) ++ y))) d to d'' r
packet_right p y d d' d'' body to r q n l h u v =
    let two : length (take 2 p) ≡ 2 = length-take-le 2 p (omega arith) in
    let next : length (take 2 (drop 2 p)) ≡ 2 = length-take-le 2 (drop 2 p) (omega (arith, length-drop 2 p)) in
    let k : 2 + (2 + (body - 4)) ≡ body = omega arith in
    let front : take body p ≡ take 2 p ++ (take 2 (drop 2 p) ++ take (body - 4) (drop 4 p)) =
    ap (λ (m : ℕ). take m p) (sym k) ∙ take-add 2 (2 + (body - 4)) p
    ∙ ap (λ (z : Bytes). take 2 p ++ z) (take-add 2 (body - 4) (drop 2 p) ∙ ap (λ (z : Bytes). take 2 (drop 2 p) ++ take (body - 4) z) (drop-drop 2 2 p)) in
    let split : take body p ++ y ≡ take 2 p ++ (take 2 (drop 2 p) ++ (take (body - 4) (drop 4 p) ++ y)) =
    ap (λ (z : Bytes). z ++ y) front ∙ append_assoc (take 2 p) (take 2 (drop 2 p) ++ take (body - 4) (drop 4 p)) y
    ∙ ap (λ (z : Bytes). take 2 p ++ z) (append_assoc (take 2 (drop 2 p)) (take (body - 4) (drop 4 p)) y) in
    wrote_patch (take 2 p) (take 2 (drop 2 p)) (put16 (length (take (body - 4) (drop 4 p) ++ y))) (take (body - 4) (drop 4 p) ++ y) d d' d'' to (to + 2) r q h (omega arith) (put16_length (length (take (body - 4) (drop 4 p) ++ y)) ∙ sym next)
    (subst (λ (z : Bytes). Wrote z d to d' r) split u) v
