-- Where the PA message of a payload stands, and what the functions on a payload and a packet write of it. Rests on PayloadLaws.
use Prim.Native.Nat.{ℕ, ◌+◌, ◌-◌, ◌*◌, ◌%◌, ◌≤◌, ◌<◌}
use mathlib.Core.Path.{◌≡◌, refl, sym, ap, subst, ◌∙◌}
use mathlib.Core.Bool.{Bool, true, false, cond, ◌&&◌, ◌||◌}
use mathlib.Core.List.{[], ◌++◌, append_assoc, append-nil}
use mathlib.Core.Option.{Option, none, some, map, some-injective}
use native.Mathlib.Nat.{sub-zero}
use native.Mathlib.Omega.{arith}
use lib.ListN.{length, take, drop, get_or, length-append, length-drop}
use lib.Seq.{length-take-le, take-length, take_at, drop_at}
use borrow.Author.Tests.{eq-eqb}
use Rattle.meaning.specs.Bytes.{Bytes, be16_at, put16, put32}
use Rattle.meaning.specs.Writing.{Wrote}
use Rattle.meaning.specs.Mmtp.{mmtp_of}
use Rattle.meaning.specs.Ip.{header_length, plain_ip, afresh}
use Rattle.meaning.specs.Messages.{message}
use Rattle.meaning.specs.Tables.{pa_head, pa}
use Rattle.meaning.specs.Narrow.{pa_of, pa_message, payload_bytes, narrow_payload, may_rewrite, packet_bytes, packet_for, parts_of_message, tables_parts}
use Rattle.meaning.specs.declared.Options.{Options}
use Rattle.meaning.specs.declared.Modes.{Modes}
use Rattle.meaning.proofs.NarrowLaws.{message_size}
use Rattle.meaning.proofs.AfreshLaws.{afresh_length, front_length, front_byte}
use Rattle.meaning.proofs.Statements.{payload_shorter}
use Rattle.meaning.proofs.Writes.{wrote_then, wrote_is, wrote_patch}
use Rattle.ip.specs.Room.{Room}
use Rattle.tables.specs.Answers.{MessageIs, PaHeadIs}
use Rattle.std.specs.Prelude.{Some}
use Rattle.std.specs.Prelude as code
use Rattle.tables.specs.declared.messages.Message as read
use Rattle.narrowing.specs.Tables.{tables_in, tables_change}
use Rattle.narrowing.specs.Answers.{PaFound, NoPa, RewroteAs, body_after, signal_of, Framed, counted_in, no_rows}
use Rattle.narrowing.proofs.PayloadLaws.{Starts, none_no_pa, one_message, message_number, number_at, pa_body_lem, length_right, packet_right, pa_narrowed}
use Rattle.narrowing.proofs.FrameLaws.{frame_of}

-- all from n on
pub behind_all : (s : Bytes) (n : ℕ) → take (length s - n) (drop n s) ≡ drop n s
behind_all s n = ap (λ (k : ℕ). take k (drop n s)) (sym (length-drop n s)) ∙ take-length (drop n s)

-- A PA message that ends at `end` of the payload.
pub record PaEnds (payload : Bytes) (end : ℕ) : Type 0 where
  pub nine : 9 ≤ end
  pub within : end ≤ length payload
  pub body_is : pa_message payload ≡ some (take (end - 9) (drop 9 payload))

-- ---- the message of a payload that starts as one with a PA message

module _ (payload : Bytes) (st : Starts payload) where
  abbrev behind : Bytes
  behind = take (length payload - 2) (drop 2 payload)

  message_is : pa_message payload ≡ pa_of (message behind)
  message_is = one_message payload (omega (arith, st.four)) st.whole st.single ∙ ap (λ (z : Bytes). pa_of (message z)) (sym (behind_all payload 2))

  pub no_message : message behind ≡ none → NoPa payload
  no_message e = none_no_pa payload (message_is ∙ ap pa_of e)

  module _ (x : read.Message) (m : MessageIs (message behind) behind (Some x)) where
    abbrev n : ℕ
    n = x.number

    abbrev a : ℕ
    a = x.start

    abbrev e : ℕ
    e = x.end

    zero_is : n ≡ 0
    zero_is =
        message_number behind (record { number = n; body = take (e - a) (drop a behind) }) (drop e behind) m.3 ∙ ap (λ (z : Bytes). be16_at z 0) (behind_all payload 2)
        ∙ number_at payload ∙ st.number

    behind_long : length behind ≡ length payload - 2
    behind_long = ap length (behind_all payload 2) ∙ length-drop 2 payload

    -- the head of a PA message has seven bytes
    head_long : 7 + (e - a) ≡ e
    head_long =
        let k = message_size behind (record { number = n; body = take (e - a) (drop a behind) }) (drop e behind) m.3 zero_is in
        let fits : e - a ≤ length (drop a behind) = omega (arith, m.1, m.2, length-drop a behind) in
        omega (arith, k, m.1, m.2, length-drop e behind, length-take-le (e - a) (drop a behind) fits)

    pub pa_ends : PaEnds payload (e + 2)
    pa_ends =
        let b : pa_message payload ≡ some (take (e - a) (drop a behind)) = message_is ∙ ap pa_of m.3 ∙ rw (eq-eqb n 0 zero_is) in
        let k : 9 + (e - a) ≡ e + 2 = omega (arith, head_long) in
        record {
          nine = omega arith;
          within = omega (arith, m.2, behind_long);
          body_is = pa_body_lem payload a e m.1 (omega (arith, m.2, behind_long, length-drop 2 payload)) (rw (behind_all payload 2) at b) k;
        }

-- ---- its head

module _ (payload : Bytes) (end : ℕ) (m : PaEnds payload end) where
  pub headless_pa : pa_head (take (end - 9) (drop 9 payload)) ≡ none → NoPa payload
  headless_pa h b q =
      let x : take (end - 9) (drop 9 payload) ≡ b = some-injective _ _ (sym m.body_is ∙ q) in
      ap pa_head (sym x) ∙ h

  pub pa_found : (t : ℕ) → PaHeadIs (pa_head (take (end - 9) (drop 9 payload))) (take (end - 9) (drop 9 payload)) (Some t) → PaFound payload end t
  pa_found t h =
      record {
        nine = m.nine;
        within = m.within;
        body_is = m.body_is;
        entries = h.2.0;
        heads = record { entries_read = h.2.1; one = h.0; within = h.1 };
      }

-- ---- what is written of it

module _ (o : Options) (p : ℕ) (payload : Bytes) (end tables : ℕ) (h : PaFound payload end tables) where
  abbrev after : Bytes
  after = body_after o p (take (end - 9) (drop 9 payload)) tables h.entries

  -- the nine bytes, the body, and then the length
  pub payload_written : {d d₁ d₂ d₃ : Bytes} {to body last q : ℕ} → to ≤ length d → Wrote (take 9 payload) d to d₁ body → Wrote after d₁ body d₂ last
      → Wrote (put32 (last - body)) d₂ (to + 5) d₃ q → Wrote (payload_bytes payload after) d to d₃ last
  payload_written {d} {d₁} {d₂} {d₃} {to} {body} {last} {q} l u v w =
      let n : last - body ≡ length after = omega (arith, v.end) in
      length_right payload after d d₂ d₃ to last q (omega (arith, h.nine, h.within)) l (wrote_then u v) (rw n at w)

-- ---- the packet around it

pub front_long : (p : Bytes) (body : ℕ) → body ≤ length p → length (take (body - 0) (drop 0 p)) ≡ body
front_long p body h = rw (sub-zero body) (length-take-le body p h)

module _ (p payload : Bytes) (short : 4 + length payload ≤ length p) {d d₁ : Bytes} {to c : ℕ} (u : Wrote (take (length p - length payload - 0) (drop 0 p)) d to d₁ c) where
  abbrev front : ℕ
  front = length p - length payload

  -- the payload has room behind the front
  pub payload_room : (end tables : ℕ) → PaFound payload end tables → to + length p ≤ length d → length d₁ ≡ length d → c + end ≤ length d₁
  payload_room end tables h l s = omega (arith, u.end, front_long p front (omega arith), h.within)

  -- the front, the payload, and then the length
  pub length_written : {y d₂ d₃ : Bytes} {last q : ℕ} → Wrote y d₁ c d₂ last → to ≤ length d → Wrote (put16 (last - to - 4)) d₂ (to + 2) d₃ q
      → Wrote (take 2 p ++ (put16 (length (take (front - 4) (drop 4 p) ++ y)) ++ (take (front - 4) (drop 4 p) ++ y))) d to d₃ last
  length_written {y} {d₂} {d₃} {last} {q} v l w =
      let rest : length (take (front - 4) (drop 4 p)) ≡ front - 4 = length-take-le (front - 4) (drop 4 p) (omega (arith, length-drop 4 p)) in
      let n : last - to - 4 ≡ length (take (front - 4) (drop 4 p) ++ y) =
      omega (arith, u.end, v.end, front_long p front (omega arith), rest, length-append (take (front - 4) (drop 4 p)) y) in
      packet_right p y d d₂ d₃ front to last q (omega arith) (omega arith) l (wrote_then (rw (sub-zero front) at u) v) (rw n at w)

-- ---- and in plain IP its lengths and checksums

-- four bytes and r were written up to `last`
module _ (f r : Bytes) (four : length f ≡ 4) {d d₃ : Bytes} {to last : ℕ} (l : to ≤ length d) (u : Wrote (f ++ r) d to d₃ last) where
  pub rest_there : take (last - (to + 4)) (drop (to + 4) d₃) ≡ r
  rest_there =
      let n : length (take to d ++ f) ≡ to + 4 = omega (arith, length-append (take to d) f, length-take-le to d l) in
      let k : last - (to + 4) ≡ length r = omega (arith, u.end, length-append f r) in
      ap (take (last - (to + 4)))
      (ap (drop (to + 4)) (wrote_is (f ++ r) d d₃ to last u ∙ regroup (take to d) f r (drop last d)) ∙ drop_at (take to d ++ f) (r ++ drop last d) (to + 4) n)
      ∙ take_at r (drop last d) (last - (to + 4)) (sym k)
    where
      regroup : (a f r b : Bytes) → (a ++ (f ++ r)) ++ b ≡ (a ++ f) ++ (r ++ b)
      regroup a f r b = simp append_assoc

  pub afresh_there : (t : ℕ) {d₄ : Bytes} {q : ℕ} → Wrote (afresh t (take (last - (to + 4)) (drop (to + 4) d₃))) d₃ (to + 4) d₄ q → Wrote (f ++ afresh t r) d to d₄ last
  afresh_there t {d₄} {q} v =
      subst (λ (z : Bytes). Wrote (f ++ z) d to d₄ last) (append-nil (afresh t r))
      (wrote_patch f r (afresh t r) [] d d₃ d₄ to (to + 4) last q l (omega arith) (afresh_length t r)
      (subst (λ (z : Bytes). Wrote (f ++ z) d to d₃ last) (sym (append-nil r)) u) (rw rest_there at v))

-- what is written is no longer than what was there
module _ (p payload : Bytes) (h : Framed p payload) (y : Bytes) (less : length y ≤ length payload) where
  abbrev body : ℕ
  body = length p - length payload - 4

  inside : body ≤ length (drop 4 p)
  inside = omega (arith, length-drop 4 p)

  pub room_for : Room (get_or p 1 0) (take body (drop 4 p) ++ y)
  room_for = (
    λ e. let g = h.four e in
        let n : length (take body (drop 4 p) ++ y) ≡ body + length y = front_length body (drop 4 p) y inside in
        let first : 0 < body = omega (arith, g.1) in
        let b : header_length (take body (drop 4 p) ++ y) ≡ header_length (drop 4 p) = ap (λ (c : ℕ). c % 16 * 4) (front_byte body (drop 4 p) y inside 0 first) in
        (omega (arith, g.0), omega (arith, g.1), omega (arith, g.2)),
    λ e. let g = h.six e in
        let n : length (take body (drop 4 p) ++ y) ≡ body + length y = front_length body (drop 4 p) y inside in
        (omega (arith, g.0), omega (arith, g.1)),
  )

-- ---- the packet

four_long : (p : Bytes) (n : ℕ) → 4 ≤ length p → length (take 2 p ++ put16 n) ≡ 4
unfolding put16
four_long p n h = omega (arith, length-append (take 2 p) (put16 n), length-take-le 2 p (omega arith))

module _ (o : Options) (pid : ℕ) (p payload : Bytes) (f : Framed p payload) (end tables : ℕ) (h : PaFound payload end tables)
    (q : tables_change o pid (drop tables (take (end - 9) (drop 9 payload))) ≡ true) {d d₁ d₂ d₃ : Bytes} {to c last k : ℕ} (l : to ≤ length d)
    (u : Wrote (take (length p - length payload - 0) (drop 0 p)) d to d₁ c)
    (v : Wrote (payload_bytes payload (after o pid payload end tables h)) d₁ c d₂ last) (w : Wrote (put16 (last - to - 4)) d₂ (to + 2) d₃ k) where
  abbrev y : Bytes
  y = payload_bytes payload (after o pid payload end tables h)

  abbrev rest : Bytes
  rest = take (length p - length payload - 4) (drop 4 p) ++ y

  narrowed_is : narrow_payload o pid payload ≡ some y
  narrowed_is = pa_narrowed o pid payload end tables h q

  less : length y ≤ length payload
  less = payload_shorter o pid payload y narrowed_is

  headed : Wrote ((take 2 p ++ put16 (length rest)) ++ rest) d to d₃ last
  headed =
      subst (λ (z : Bytes). Wrote z d to d₃ last) (sym (append_assoc (take 2 p) (put16 (length rest)) rest)) (length_written p payload f.short u v l w)

  pub packet_room : Room (get_or p 1 0) (take (last - (to + 4)) (drop (to + 4) d₃))
  packet_room =
      subst (Room (get_or p 1 0)) (sym (rest_there (take 2 p ++ put16 (length rest)) rest (four_long p (length rest) (omega (arith, f.short))) l headed))
      (room_for p payload f y less)

  pub packet_long : to + 4 ≤ last
  packet_long =
      omega (arith, headed.end, length-append (take 2 p ++ put16 (length rest)) rest, four_long p (length rest) (omega (arith, f.short)))

  pub packet_end : to + length p ≤ length d → last ≤ length d
  packet_end i =
      let n : length rest ≡ (length p - length payload - 4) + length y = front_length (length p - length payload - 4) (drop 4 p) y (omega (arith, length-drop 4 p)) in
      omega (arith, headed.end, length-append (take 2 p ++ put16 (length rest)) rest, four_long p (length rest) (omega (arith, f.short)), less, f.short)

  pub packet_rewritten : {d₄ : Bytes} {j : ℕ} → Wrote (afresh (get_or p 1 0) (take (last - (to + 4)) (drop (to + 4) d₃))) d₃ (to + 4) d₄ j
      → (b : Bool) → RewroteAs (map (packet_bytes p (signal_of pid b payload)) (narrow_payload o pid payload)) d to d₄ (Some last)
  unfolding packet_bytes
  packet_rewritten {d₄} {j} x b = (
    packet_bytes p (signal_of pid b payload) y,
    ap (map (packet_bytes p (signal_of pid b payload))) narrowed_is,
    subst (λ (z : Bytes). Wrote z d to d₄ last) (append_assoc (take 2 p) (put16 (length rest)) (afresh (get_or p 1 0) rest))
        (afresh_there (take 2 p ++ put16 (length rest)) rest (four_long p (length rest) (omega (arith, f.short))) l headed (get_or p 1 0) x),
  )

pub payload_stays_there : (o : Options) (pid : ℕ) (p payload : Bytes) → narrow_payload o pid payload ≡ none
    → (b : Bool) → map (packet_bytes p (signal_of pid b payload)) (narrow_payload o pid payload) ≡ none
payload_stays_there o pid p payload e b = ap (map (packet_bytes p (signal_of pid b payload))) e

-- by what may be rewritten
module _ (M : Modes) (o : Options) (pid : ℕ) (w : Bool) (p payload : Bytes) where
  pub packet_stays : narrow_payload o pid payload ≡ none → packet_for M o p (some (signal_of pid w payload)) ≡ none
  packet_stays e = go (may_rewrite M p (signal_of pid w payload))
    where
      go : (b : Bool) → cond b (map (packet_bytes p (signal_of pid w payload)) (narrow_payload o pid payload)) none ≡ none
      go true = payload_stays_there o pid p payload e w
      go false = refl

  -- the test of the code
  abbrev may : Bool
  may = w || (M.plain_ip && plain_ip (get_or p 1 0) (drop 4 p))

  pub may_not : may ≡ false → packet_for M o p (some (signal_of pid w payload)) ≡ none
  unfolding may_rewrite
  may_not e = rw e

  may_be : may ≡ true → map (packet_bytes p (signal_of pid w payload)) (narrow_payload o pid payload) ≡ packet_for M o p (some (signal_of pid w payload))
  unfolding may_rewrite
  may_be e = rw e

  pub may_rewritten : may ≡ true → (d : Bytes) (to : ℕ) (d' : Bytes) (r : code.Option ℕ)
      → RewroteAs (map (packet_bytes p (signal_of pid w payload)) (narrow_payload o pid payload)) d to d' r
      → RewroteAs (packet_for M o p (some (signal_of pid w payload))) d to d' r
  may_rewritten e d to d' r h = subst (λ (n : Option Bytes). RewroteAs n d to d' r) (may_be e) h

  pub framed : may ≡ true → mmtp_of p ≡ some (signal_of pid w payload) → Framed p payload
  unfolding may_rewrite
  framed e g = frame_of M p (signal_of pid w payload) g e

-- the tests, one by one
pub may_off : (w b x : Bool) → w ≡ false → b ≡ false → false ≡ (w || (b && x))
may_off w b x e f = rw (e, f)

pub may_plain : (w b r : Bool) (t : ℕ) → w ≡ false → b ≡ true → (p : Bytes) → r ≡ plain_ip t (take (length p - 4) (drop 4 p)) → r ≡ (w || (b && plain_ip t (drop 4 p)))
may_plain w b r t e f p g = rw (e, f) (g ∙ ap (plain_ip t) (behind_all p 4))

-- ---- what is counted of it

pub none_counted : (o : Options) (payload : Bytes) → NoPa payload → no_rows ≡ counted_in o no_rows (parts_of_message (pa_message payload))
unfolding counted_in pa
none_counted o payload n = go (pa_message payload) refl
  where
    go : (x : Option Bytes) → pa_message payload ≡ x → no_rows ≡ counted_in o no_rows (parts_of_message x)
    go none e = refl
    go (some b) e = rw (n b e)

pub found_counted : (o : Options) (payload : Bytes) (end tables : ℕ) → PaFound payload end tables
    → counted_in o no_rows (tables_parts (tables_in (drop tables (take (end - 9) (drop 9 payload)))).found) ≡ counted_in o no_rows (parts_of_message (pa_message payload))
unfolding pa
found_counted o payload end tables h = rw (h.body_is, h.heads.entries_read)
