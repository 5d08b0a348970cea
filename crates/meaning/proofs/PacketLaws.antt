-- A packet that may be rewritten, compressed or plain, split at its payload: with another payload it reads the same but for that, and one
-- rewriting leaves nothing of itself in the next. Rests on IpLaws.
use Prim.Native.Nat.{ℕ, ◌+◌, ◌-◌, ◌*◌, ◌/◌, ◌%◌, ◌≤◌, ◌<◌}
use mathlib.Core.Path.{◌≡◌, refl, sym, ap, ap₂, subst, ◌∙◌}
use mathlib.Core.Bool.{Bool, true, false, cond, ◌&&◌, ◌||◌}
use mathlib.Core.List.{[], ◌∷◌, ◌++◌, append_assoc}
use mathlib.Core.Option.{none, some, none-ne-some, some-injective}
use native.Mathlib.Omega.{arith}
use lib.ListN.{length, take, drop, get_or, length-append, length-drop, take-append-drop}
use lib.Seq.{take_at, drop_at, length-take-le}
use lib.Dec.{leb, eqb}
use borrow.Author.Tests.{le-leb, leb-true, eqb-true}
use Rattle.meaning.specs.Bytes.{Bytes, be16_at, put16}
use Rattle.meaning.specs.Readers.{Out}
use Rattle.meaning.specs.Mmtp.{Offset, by_header_type, compressed, udp, offset_of, MmtpHeader, mmtp_header, Mmtp, mmtp_from, mmtp_at, mmtp_of}
use Rattle.meaning.specs.Ip.{plain_ip, afresh4, afresh6, afresh}
use Rattle.meaning.specs.Narrow.{may_rewrite, packet_bytes}
use Rattle.meaning.specs.Recount.{PlainRecounted}
use Rattle.meaning.specs.declared.Modes.{Modes}
use Rattle.meaning.proofs.ListLaws.{clash, and_both, or_true}
use Rattle.meaning.proofs.Local.{Split, mmtp_header_local}
use Rattle.meaning.proofs.AfreshLaws.{front_length, front_byte}
use Rattle.meaning.proofs.IpLaws.{rewritten, headers, Rewrites, rewrites, receiver, qualifies, cut_again}

-- ---- compressed IP: where it may be rewritten

-- UDP is never rewritable
udp_fixed : (header : ℕ) (s : Bytes) (at : ℕ) (w : Bool) → udp header s ≡ some (at, w) → w ≡ false
unfolding udp
udp_fixed header s at w e = go (leb (header + 4) (length s)) (eqb (be16_at s (header + 2)) 123) e
  where
    go : (a b : Bool) → cond {A = Offset} a (cond {A = Offset} b none (some (header + 8, false))) none ≡ some (at, w) → w ≡ false
    go false b q = absurd (none-ne-some _ q)
    go true true q = absurd (none-ne-some _ q)
    go true false q = sym (ap (λ z. z.1) (some-injective _ _ q))

-- an offset that may be rewritten is at 3, and stays there whatever follows the first three bytes
record Rewritable (type : ℕ) (s : Bytes) (at : ℕ) : Type 0 where
  pub by_type : eqb type 0x03 ≡ true
  pub three : at ≡ 3
  pub long : 3 ≤ length s
  pub again : (t : Bytes) → 3 ≤ length t → get_or t 2 0 ≡ get_or s 2 0 → offset_of type t ≡ some (3, true)

header_type_offset : (k at : ℕ) → by_header_type k ≡ some (at, true) → (at ≡ 3) × (by_header_type k ≡ some (3, true))
unfolding by_header_type
header_type_offset k at e = go (eqb k 0x21) (eqb k 0x61) (eqb k 0x20) (eqb k 0x60) e
  where
    by : Bool → Bool → Bool → Bool → Offset
    by a b c d = cond a (some (3, true)) (cond b (some (3, true)) (cond c (some (23, false)) (cond d (some (45, false)) none)))

    go : (a b c d : Bool) → by a b c d ≡ some (at, true) → (at ≡ 3) × (by a b c d ≡ some (3, true))
    go true b c d q = (sym (ap (λ z. z.0) (some-injective _ _ q)), refl)
    go false true c d q = (sym (ap (λ z. z.0) (some-injective _ _ q)), refl)
    go false false true d q = clash (let z : false ≡ true = ap (λ z. z.1) (some-injective _ _ q) in cc)
    go false false false true q = clash (let z : false ≡ true = ap (λ z. z.1) (some-injective _ _ q) in cc)
    go false false false false q = absurd (none-ne-some _ q)

compressed_offset : (s : Bytes) (at : ℕ) → compressed s ≡ some (at, true)
    → (at ≡ 3) × (3 ≤ length s) × ((t : Bytes) → 3 ≤ length t → get_or t 2 0 ≡ get_or s 2 0 → compressed t ≡ some (3, true))
unfolding compressed
compressed_offset s at e = go (leb 3 (length s)) refl e
  where
    go : (a : Bool) → leb 3 (length s) ≡ a → cond {A = Offset} a (by_header_type (get_or s 2 0)) none ≡ some (at, true)
        → (at ≡ 3) × (3 ≤ length s) × ((t : Bytes) → 3 ≤ length t → get_or t 2 0 ≡ get_or s 2 0 → cond {A = Offset} (leb 3 (length t)) (by_header_type (get_or t 2 0)) none ≡ some (3, true))
    go false ea q = absurd (none-ne-some _ q)
    go true ea q =
        let k = header_type_offset (get_or s 2 0) at q in
        (k.0, leb-true _ _ ea, λ t l g. rw (le-leb 3 (length t) l, g) k.1)

offset_by : (type : ℕ) (s : Bytes) → offset_of type s
    ≡ cond (eqb type 0x03) (compressed s) (cond (eqb type 0x01) (udp (get_or s 0 0 % 16 * 4) s) (cond (eqb type 0x02) (udp 40 s) none))
unfolding offset_of
offset_by type s = refl

rewritable_offset : (type : ℕ) (s : Bytes) (at : ℕ) → offset_of type s ≡ some (at, true) → Rewritable type s at
rewritable_offset type s at e = go (eqb type 0x03) refl (eqb type 0x01) refl (eqb type 0x02) refl (offset_by type s) e
  where
    by : Bytes → Bool → Bool → Bool → Offset
    by t a b c = cond a (compressed t) (cond b (udp (get_or t 0 0 % 16 * 4) t) (cond c (udp 40 t) none))

    go : (a : Bool) → eqb type 0x03 ≡ a → (b : Bool) → eqb type 0x01 ≡ b → (c : Bool) → eqb type 0x02 ≡ c
        → offset_of type s ≡ by s (eqb type 0x03) (eqb type 0x01) (eqb type 0x02) → offset_of type s ≡ some (at, true) → Rewritable type s at
    go true ea b eb c ec w q =
        let k = compressed_offset s at (sym (w ∙ ap (λ (z : Bool). by s z (eqb type 0x01) (eqb type 0x02)) ea) ∙ q) in
        record { by_type = ea; three = k.0; long = k.1; again = λ t l g. offset_by type t ∙ ap (λ (z : Bool). by t z (eqb type 0x01) (eqb type 0x02)) ea ∙ k.2 t l g }
    go false ea true eb c ec w q =
        clash (let z = udp_fixed (get_or s 0 0 % 16 * 4) s at true (sym (w ∙ ap₂ (λ (x y : Bool). by s x y (eqb type 0x02)) ea eb) ∙ q) in cc)
    go false ea false eb true ec w q =
        clash (let z = udp_fixed 40 s at true (sym (w ∙ ap₂ (λ (x y : Bool). by s x y (eqb type 0x02)) ea eb ∙ ap (by s false false) ec) ∙ q) in cc)
    go false ea false eb false ec w q =
        absurd (none-ne-some _ (sym (w ∙ ap₂ (λ (x y : Bool). by s x y (eqb type 0x02)) ea eb ∙ ap (by s false false) ec) ∙ q))

-- the packet with another payload
abbrev pub with_payload : Mmtp → Bytes → Mmtp
with_payload m y = record { identifier = m.identifier; payload_type = m.payload_type; rewritable = m.rewritable; payload = y }

-- a packet that may be rewritten: with another payload it reads the same but for the payload, no longer than before it may be rewritten
-- again, and one rewriting leaves nothing of itself in the next
pub record PacketSplit (M : Modes) (p : Bytes) (m : Mmtp) : Type 0 where
  pub again : (y : Bytes) → mmtp_of (packet_bytes p m y) ≡ some (with_payload m y)
  pub may_again : (y : Bytes) → length y ≤ length m.payload → may_rewrite M (packet_bytes p m y) (with_payload m y) ≡ true
  pub same : (y z : Bytes) → packet_bytes (packet_bytes p m y) (with_payload m y) z ≡ packet_bytes p m z
  pub size : (y : Bytes) → length (packet_bytes p m y) + length m.payload ≡ length p + length y
  pub right : m.rewritable ≡ false → (y : Bytes) → length y ≤ length m.payload → PlainRecounted (get_or p 1 0) (drop 4 p) (drop 4 (packet_bytes p m y))

-- from its parts: four bytes, and s, whose payload begins at `body`
packet_is : (a t l k : ℕ) (s : Bytes) (m : Mmtp) (body : ℕ) → length s ≡ body + length m.payload → (y : Bytes)
    → packet_bytes (a ∷ t ∷ l ∷ k ∷ s) m y ≡ a ∷ t ∷ (put16 (length (take body s ++ y)) ++ rewritten t s body y)
unfolding packet_bytes rewritten
packet_is a t l k s m body whole y =
    let n : length (a ∷ t ∷ l ∷ k ∷ s) - length m.payload - 4 ≡ body = omega arith in
    rw n

packet_next : (a t n : ℕ) (s : Bytes) (m : Mmtp) (body : ℕ) → length s ≡ body + length m.payload → (y : Bytes)
    → packet_bytes (a ∷ t ∷ (put16 n ++ s)) m y ≡ a ∷ t ∷ (put16 (length (take body s ++ y)) ++ rewritten t s body y)
unfolding put16
packet_next a t n s m body w y = packet_is a t (n / 256 % 256) (n % 256) s m body w y

packet_long : (a t n : ℕ) (s : Bytes) → length (a ∷ t ∷ (put16 n ++ s)) ≡ length s + 4
unfolding put16
packet_long a t n s = omega arith

packet_rest : (a t n : ℕ) (s : Bytes) → drop 4 (a ∷ t ∷ (put16 n ++ s)) ≡ s
unfolding put16
packet_rest a t n s = refl

four : (a t n : ℕ) (s : Bytes) → mmtp_of (a ∷ t ∷ (put16 n ++ s)) ≡ mmtp_at (offset_of t s) s
unfolding mmtp_of put16
four a t n s = rw (le-leb 4 (length (a ∷ t ∷ n / 256 % 256 ∷ n % 256 ∷ s)) (omega arith))

may_of : (M : Modes) (a t n : ℕ) (s : Bytes) (m : Mmtp) → may_rewrite M (a ∷ t ∷ (put16 n ++ s)) m ≡ (m.rewritable || (M.plain_ip && plain_ip t s))
unfolding may_rewrite put16
may_of M a t n s m = refl

-- what is asked of rewriting s: its size, that the MMTP reads the same but for the payload, and that it may be done again and leaves nothing
record Rewriting (M : Modes) (t : ℕ) (s : Bytes) (m : Mmtp) (body : ℕ) : Type 0 where
  pub whole : length s ≡ body + length m.payload
  pub size : (y : Bytes) → length (rewritten t s body y) ≡ body + length y
  pub reads : (y : Bytes) → mmtp_at (offset_of t (rewritten t s body y)) (rewritten t s body y) ≡ some (with_payload m y)
  pub may : (y : Bytes) → length y ≤ length m.payload → (m.rewritable || (M.plain_ip && plain_ip t (rewritten t s body y))) ≡ true
  pub same : (y z : Bytes) → rewritten t (rewritten t s body y) body z ≡ rewritten t s body z
  pub right : m.rewritable ≡ false → (y : Bytes) → length y ≤ length m.payload → PlainRecounted t s (rewritten t s body y)

split_of : (M : Modes) (a t l k : ℕ) (s : Bytes) (m : Mmtp) (body : ℕ) → Rewriting M t s m body → PacketSplit M (a ∷ t ∷ l ∷ k ∷ s) m
split_of M a t l k s m body r = record {
  again = λ y. ap mmtp_of (is y) ∙ four a t (length (take body s ++ y)) (rewritten t s body y) ∙ r.reads y;
  may_again = λ y n. ap (λ (x : Bytes). may_rewrite M x (with_payload m y)) (is y) ∙ may_of M a t (length (take body s ++ y)) (rewritten t s body y) (with_payload m y) ∙ r.may y n;
  same = λ y z.
      let v : Bytes = rewritten t s body y in
      let n : length (take body v ++ z) ≡ length (take body s ++ z) =
      front_length body v z (omega (arith, r.size y)) ∙ sym (front_length body s z (omega (arith, r.whole))) in
      ap (λ (x : Bytes). packet_bytes x (with_payload m y) z) (is y) ∙ packet_next a t (length (take body s ++ y)) v (with_payload m y) body (r.size y) z
      ∙ ap₂ (λ (i : ℕ) (x : Bytes). a ∷ t ∷ (put16 i ++ x)) n (r.same y z) ∙ sym (is z);
  size = λ y.
      ap (λ (x : Bytes). length x + length m.payload) (is y)
      ∙ omega (arith, packet_long a t (length (take body s ++ y)) (rewritten t s body y), r.size y, r.whole);
  right = λ ew y n. subst (PlainRecounted t s) (sym (ap (drop 4) (is y) ∙ packet_rest a t (length (take body s ++ y)) (rewritten t s body y))) (r.right ew y n);
}
  where
    is : (y : Bytes) → packet_bytes (a ∷ t ∷ l ∷ k ∷ s) m y ≡ a ∷ t ∷ (put16 (length (take body s ++ y)) ++ rewritten t s body y)
    is y = packet_is a t l k s m body r.whole y

-- the MMTP of s begins at `at`, with its header u before the payload; `body` bytes stand before the payload
module _ (s : Bytes) (at : ℕ) (h : MmtpHeader) (m : Mmtp) (inside : at ≤ length s) (u : Split mmtp_header (drop at s) h m.payload)
    (ei : h.identifier ≡ m.identifier) (ek : h.payload_type ≡ m.payload_type) where
  abbrev body : ℕ
  body = at + length u.part

  whole : length s ≡ body + length m.payload
  whole = omega (arith, inside, length-drop at s, ap length u.whole, length-append u.part m.payload)

  front : take body s ≡ take at s ++ u.part
  front =
      ap (take body) (sym (take-append-drop at s) ∙ ap (λ (x : Bytes). take at s ++ x) u.whole ∙ sym (append_assoc (take at s) u.part m.payload))
      ∙ take_at (take at s ++ u.part) m.payload body (omega (arith, length-append (take at s) u.part, length-take-le at s inside))

  behind : (y : Bytes) → drop at (take body s ++ y) ≡ u.part ++ y
  behind y =
      ap (λ (x : Bytes). drop at (x ++ y)) front ∙ ap (drop at) (append_assoc (take at s) u.part y) ∙ drop_at (take at s) (u.part ++ y) at (length-take-le at s inside)

  -- bytes of that size in which the MMTP begins there too, and is the same from there on
  reads_at : (t : ℕ) (w : Bytes) (y : Bytes) → offset_of t w ≡ some (at, m.rewritable) → drop at w ≡ drop at (take body s ++ y) → at ≤ length w
      → mmtp_at (offset_of t w) w ≡ some (with_payload m y)
  reads_at t w y eo ed l =
      ap (λ (x : Offset). mmtp_at x w) eo ∙ ap (λ (b : Bool). cond b (mmtp_from m.rewritable (mmtp_header (drop at w))) none) (le-leb at (length w) l)
      ∙ ap (λ (x : Bytes). mmtp_from m.rewritable (mmtp_header x)) (ed ∙ behind y) ∙ ap (mmtp_from m.rewritable) (u.again y)
      ∙ (λ i. some (record { identifier = ei i; payload_type = ek i; rewritable = m.rewritable; payload = y }))

  -- ---- compressed: nothing but the payload changes

  compressed_is : (t : ℕ) → eqb t 0x03 ≡ true → (z : Bytes) (n : ℕ) (y : Bytes) → rewritten t z n y ≡ take n z ++ y
  unfolding rewritten afresh
  compressed_is t e z n y = ap (λ (k : ℕ). cond (eqb k 0x01) (afresh4 (take n z ++ y)) (cond (eqb k 0x02) (afresh6 (take n z ++ y)) (take n z ++ y))) (eqb-true t 0x03 e)

  rewriting_compressed : (M : Modes) (t : ℕ) → Rewritable t s at → m.rewritable ≡ true → Rewriting M t s m body
  rewriting_compressed M t r ew = record {
    whole = whole;
    size = size;
    reads = λ y. reads_at t (rewritten t s body y) y (offset y) (ap (drop at) (c s body y)) (omega (arith, size y));
    may = λ y n. rw ew;
    same = λ y z. c (rewritten t s body y) body z ∙ ap (λ (x : Bytes). take body x ++ z) (c s body y) ∙ ap (λ (x : Bytes). x ++ z) (cut_again s body inside_body y) ∙ sym (c s body z);
    right = λ ef. clash (let z : false ≡ true = sym ef ∙ ew in cc);
  }
    where
      c : (z : Bytes) (n : ℕ) (y : Bytes) → rewritten t z n y ≡ take n z ++ y
      c = compressed_is t r.by_type

      inside_body : body ≤ length s
      inside_body = omega (arith, whole)

      size : (y : Bytes) → length (rewritten t s body y) ≡ body + length y
      size y = ap length (c s body y) ∙ front_length body s y inside_body

      offset : (y : Bytes) → offset_of t (rewritten t s body y) ≡ some (at, m.rewritable)
      offset y =
          let two : 2 < body = omega (arith, r.three) in
          r.again (rewritten t s body y) (omega (arith, size y, r.three)) (ap (λ (x : Bytes). get_or x 2 0) (c s body y) ∙ front_byte body s y inside_body 2 two)
          ∙ ap₂ (λ (n : ℕ) (b : Bool). some (n, b)) (sym r.three) (sym ew)

  -- ---- plain IP

  rewriting_plain : (M : Modes) (t : ℕ) → M.plain_ip ≡ true → plain_ip t s ≡ true → offset_of t s ≡ some (at, m.rewritable) → Rewriting M t s m body
  rewriting_plain M t em e f = record {
    whole = whole;
    size = r.size;
    reads = λ y. reads_at t (rewritten t s body y) y (r.offset y ∙ f) (rest y) (omega (arith, r.size y));
    may = λ y n. rw (em, r.again y (omega (arith, whole))) (or_true m.rewritable);
    same = r.same;
    right = λ ef y n. receiver t s body e (omega (arith, placed)) (omega (arith, whole)) y (omega (arith, whole));
  }
    where
      placed : at ≡ headers t s
      placed = (qualifies t s e).stands at m.rewritable f

      r : Rewrites t s body
      r = rewrites t s body e (omega (arith, placed)) (omega (arith, whole))

      rest : (y : Bytes) → drop at (rewritten t s body y) ≡ drop at (take body s ++ y)
      rest y = ap (λ (i : ℕ). drop i (rewritten t s body y)) placed ∙ r.rest y ∙ ap (λ (i : ℕ). drop i (take body s ++ y)) (sym placed)

-- what was read of a packet: where its MMTP begins, and the header
pub record Opened (t : ℕ) (s : Bytes) (m : Mmtp) : Type 0 where
  pub at : ℕ
  pub header : MmtpHeader
  pub inside : at ≤ length s
  pub offset_is : offset_of t s ≡ some (at, m.rewritable)
  pub header_is : mmtp_header (drop at s) ≡ some (header, m.payload)
  pub identifier_is : header.identifier ≡ m.identifier
  pub type_is : header.payload_type ≡ m.payload_type

pub opened : (a t l k : ℕ) (s : Bytes) (m : Mmtp) → mmtp_of (a ∷ t ∷ l ∷ k ∷ s) ≡ some m → Opened t s m
unfolding mmtp_of
opened a t l k s m e =
    go (offset_of t s) refl (sym (ap (λ (b : Bool). cond b (mmtp_at (offset_of t s) s) none) (le-leb 4 (length (a ∷ t ∷ l ∷ k ∷ s)) (omega arith))) ∙ e)
  where
    headed : (at : ℕ) (v : Bool) → at ≤ length s → offset_of t s ≡ some (at, v) → (o : Out MmtpHeader) → mmtp_header (drop at s) ≡ o → mmtp_from v o ≡ some m → Opened t s m
    headed at v i ep none eo q = absurd (none-ne-some _ q)
    headed at v i ep (some (h, y)) eo q =
        let z = some-injective _ _ q in
        record {
          at = at;
          header = h;
          inside = i;
          offset_is = ep ∙ ap (λ x. some (at, x.rewritable)) z;
          header_is = eo ∙ ap (λ x. some (h, x.payload)) z;
          identifier_is = ap (λ x. x.identifier) z;
          type_is = ap (λ x. x.payload_type) z;
        }

    placed : (at : ℕ) (v : Bool) → offset_of t s ≡ some (at, v) → (b : Bool) → leb at (length s) ≡ b → cond b (mmtp_from v (mmtp_header (drop at s))) none ≡ some m → Opened t s m
    placed at v ep false eb q = absurd (none-ne-some _ q)
    placed at v ep true eb q = headed at v (leb-true at (length s) eb) ep (mmtp_header (drop at s)) refl q

    go : (o : Offset) → offset_of t s ≡ o → mmtp_at o s ≡ some m → Opened t s m
    go none ep q = absurd (none-ne-some _ q)
    go (some (at, v)) ep q = placed at v ep (leb at (length s)) refl q

-- Compressed IP alone may be rewritten by its header.
pub rewritable_type : (p : Bytes) (m : Mmtp) → mmtp_of p ≡ some m → m.rewritable ≡ true → eqb (get_or p 1 0) 0x03 ≡ true
unfolding mmtp_of
rewritable_type [] m e w = absurd (none-ne-some _ e)
rewritable_type (a ∷ []) m e w = absurd (none-ne-some _ e)
rewritable_type (a ∷ t ∷ []) m e w = absurd (none-ne-some _ e)
rewritable_type (a ∷ t ∷ l ∷ []) m e w = absurd (none-ne-some _ e)
rewritable_type (a ∷ t ∷ l ∷ k ∷ s) m e w =
    let x = opened a t l k s m e in
    (rewritable_offset t s x.at (x.offset_is ∙ ap (λ (b : Bool). some (x.at, b)) w)).by_type

-- A packet that may be rewritten.
pub packet_split : (M : Modes) (p : Bytes) (m : Mmtp) → mmtp_of p ≡ some m → may_rewrite M p m ≡ true → PacketSplit M p m
unfolding mmtp_of may_rewrite
packet_split M [] m e w = absurd (none-ne-some _ e)
packet_split M (a ∷ []) m e w = absurd (none-ne-some _ e)
packet_split M (a ∷ t ∷ []) m e w = absurd (none-ne-some _ e)
packet_split M (a ∷ t ∷ l ∷ []) m e w = absurd (none-ne-some _ e)
packet_split M (a ∷ t ∷ l ∷ k ∷ s) m e w = split_of M a t l k s m (body s x.at x.header m x.inside u x.identifier_is x.type_is) (go m.rewritable refl)
  where
    x : Opened t s m
    x = opened a t l k s m e

    u : Split mmtp_header (drop x.at s) x.header m.payload
    u = mmtp_header_local (drop x.at s) x.header m.payload x.header_is

    go : (b : Bool) → m.rewritable ≡ b → Rewriting M t s m (body s x.at x.header m x.inside u x.identifier_is x.type_is)
    go true eb =
        rewriting_compressed s x.at x.header m x.inside u x.identifier_is x.type_is M t
        (rewritable_offset t s x.at (x.offset_is ∙ ap (λ (b : Bool). some (x.at, b)) eb)) eb
    go false eb =
        let v = and_both M.plain_ip (plain_ip t s) (ap (λ (b : Bool). b || (M.plain_ip && plain_ip t s)) (sym eb) ∙ w) in
        rewriting_plain s x.at x.header m x.inside u x.identifier_is x.type_is M t v.0 v.1 x.offset_is
