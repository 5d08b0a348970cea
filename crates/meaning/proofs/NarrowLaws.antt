-- Narrowed payloads and packets: read again as what they were with the narrowed message, never longer than before, and narrowing by
-- more wishes and then by fewer is narrowing by the fewer. Then what is public of it. Rests on PaLaws and PacketLaws.
use Prim.Native.Nat.{ℕ, ◌+◌, ◌*◌, ◌/◌, ◌%◌, ◌≤◌, ◌<◌}
use mathlib.Core.Path.{◌≡◌, refl, sym, ap, ◌∙◌, subst}
use mathlib.Core.Bool.{Bool, true, false, cond, ◌&&◌}
use mathlib.Core.List.{[], ◌∷◌, ◌++◌, append-nil}
use mathlib.Core.Option.{Option, none, some, map, get_or, none-ne-some, some-injective}
use native.Mathlib.Omega.{arith}
use lib.ListN.{length, take, drop, length-append, length-drop}
use lib.Seq.{take_at, drop_at, length-take-le}
use lib.Dec.{leb, eqb}
use borrow.Author.Tests.{le-leb, leb-true, eqb-true}
use Rattle.meaning.specs.Bytes.{Bytes, be16, put16, put32}
use Rattle.meaning.specs.Lists.{is_some}
use Rattle.meaning.specs.Readers.{Out, give, byte, u16, u32, bytes, counted32}
use Rattle.meaning.specs.Mmtp.{Mmtp, mmtp_of, is_signalling}
use Rattle.meaning.specs.Messages.{Message, message, message_body, is_long, indicator, aggregated}
use Rattle.meaning.specs.Narrow.{narrow_pa, pa_of, pa_message, payload_bytes, payload_for, narrow_payload, may_rewrite, packet_bytes, packet_for, narrow_packet, narrow_table}
use Rattle.meaning.specs.Less.{Fewer}
use Rattle.meaning.specs.declared.Options.{Options}
use Rattle.meaning.specs.declared.Modes.{Modes}
use Rattle.meaning.proofs.ListLaws.{clash, and_both}
use Rattle.meaning.proofs.Framed.{before}
use Rattle.meaning.proofs.TableLaws.{Narrows, narrows_again, be16_put, be16_small, table_narrows}
use Rattle.meaning.proofs.PaLaws.{pa_narrows}
use Rattle.meaning.proofs.PacketLaws.{with_payload, packet_split}

-- ---- a message of 32 bits' length

u32_put : (n : ℕ) (r : Bytes) → u32 (put32 n ++ r) ≡ some (n % 4294967296, r)
unfolding u32 u16 byte put32 put16
u32_put n r =
    let e : n / 65536 % 65536 * 65536 + n % 65536 % 65536 ≡ n % 4294967296 = omega arith in
    rw (be16_put (n / 65536), be16_put (n % 65536), e)

pub counted32_again : (b r : Bytes) → length b < 4294967296 → counted32 (put32 (length b) ++ (b ++ r)) ≡ some (b, r)
unfolding counted32 bytes
counted32_again b r h =
    let l : length b ≤ length (b ++ r) = omega (arith, length-append b r) in
    let e : length b % 4294967296 ≡ length b = omega arith in
    rw (u32_put (length b) (b ++ r), e, le-leb _ _ l, take_at b r (length b) refl, drop_at b r (length b) refl)

u32_split : (s : Bytes) (n : ℕ) (r : Bytes) → u32 s ≡ some (n, r) → (n < 4294967296) × (length s ≡ 4 + length r)
unfolding u32 u16 byte
u32_split [] n r e = absurd (none-ne-some _ e)
u32_split (a ∷ []) n r e = absurd (none-ne-some _ e)
u32_split (a ∷ b ∷ []) n r e = absurd (none-ne-some _ e)
u32_split (a ∷ b ∷ c ∷ []) n r e = absurd (none-ne-some _ e)
u32_split (a ∷ b ∷ c ∷ d ∷ s) n r e =
    let q = some-injective _ _ e in
    let v : be16 a b * 65536 + be16 c d ≡ n = ap (λ z. z.0) q in
    let w : length s ≡ length r = ap (λ z. length z.1) q in
    (omega (arith, be16_small a b, be16_small c d), omega arith)

bytes_length : (n : ℕ) (s b r : Bytes) → bytes n s ≡ some (b, r) → (length b ≡ n) × (length s ≡ n + length r)
unfolding bytes
bytes_length n s b r e = go (leb n (length s)) refl e
  where
    go : (a : Bool) → leb n (length s) ≡ a → cond {A = Out Bytes} a (some (take n s, drop n s)) none ≡ some (b, r) → (length b ≡ n) × (length s ≡ n + length r)
    go false ea q = absurd (none-ne-some _ q)
    go true ea q =
        let z = some-injective _ _ q in
        let k : n ≤ length s = leb-true _ _ ea in
        let lb : length (take n s) ≡ length b = ap (λ x. length x.0) z in
        let lr : length (drop n s) ≡ length r = ap (λ x. length x.1) z in
        (omega (arith, length-take-le n s k), omega (arith, length-drop n s))

counted32_split : (s b r : Bytes) → counted32 s ≡ some (b, r) → (length b < 4294967296) × (length s ≡ 4 + length b + length r)
unfolding counted32
counted32_split s b r e =
    let x = before (u32 s) bytes b r e in
    let u = u32_split s x.first x.rest x.was in
    let v = bytes_length x.first x.rest b r x.then_was in
    (omega (arith, u.0, v.0), omega (arith, u.1, v.0, v.1))

-- ---- a payload that holds a whole, unaggregated PA message

-- with another body in the message, it is such a payload again
pub record PaSplit (s b : Bytes) : Type 0 where
  pub few : length b < 4294967296
  pub long : 9 + length b ≤ length s
  pub again : (c : Bytes) → length c < 4294967296 → pa_message (payload_bytes s c) ≡ some c
  pub same : (c d : Bytes) → payload_bytes (payload_bytes s c) d ≡ payload_bytes s d
  pub size : (c : Bytes) → length (payload_bytes s c) ≡ 9 + length c

message_split : (i j v : ℕ) (s b rest : Bytes) → be16 i j ≡ 0 → message_body (is_long (be16 i j)) s ≡ some (b, rest) → counted32 s ≡ some (b, rest)
unfolding message_body is_long
message_split i j v s b rest z e = rw z at e

message_again : (i j v : ℕ) (c : Bytes) → be16 i j ≡ 0 → length c < 4294967296
    → message (i ∷ j ∷ v ∷ (put32 (length c) ++ c)) ≡ some (record { number = be16 i j; body = c }, [])
unfolding message u16 byte is_long message_body
message_again i j v c z h =
    let k : counted32 (put32 (length c) ++ c) ≡ some (c, []) = ap (λ (l : Bytes). counted32 (put32 (length c) ++ l)) (sym (append-nil c)) ∙ counted32_again c [] h in
    rw (z, k)

pa_again : (f k i j v : ℕ) (d : Bytes) → (eqb (indicator f) 0 && eqb (aggregated f) 0) ≡ true → be16 i j ≡ 0 → length d < 4294967296
    → pa_message (f ∷ k ∷ i ∷ j ∷ v ∷ (put32 (length d) ++ d)) ≡ some d
unfolding pa_message
pa_again f k i j v d w z h = rw (w, message_again i j v d z h, z)

payload_split : (f k i j v : ℕ) (t b rest : Bytes) → (eqb (indicator f) 0 && eqb (aggregated f) 0) ≡ true → be16 i j ≡ 0 → counted32 t ≡ some (b, rest)
    → PaSplit (f ∷ k ∷ i ∷ j ∷ v ∷ t) b
unfolding payload_bytes put32 put16
payload_split f k i j v t b rest w z e =
    let c = counted32_split t b rest e in
    record {
      few = c.0;
      long = omega (arith, c.1);
      again = λ d h. pa_again f k i j v d w z h;
      same = λ c d. refl;
      size = λ c. simp length-append (omega arith);
    }

parts : (f k : ℕ) (s : Bytes) (m : Message) (rest : Bytes) → (eqb (indicator f) 0 && eqb (aggregated f) 0) ≡ true → m.number ≡ 0 → message s ≡ some (m, rest)
    → PaSplit (f ∷ k ∷ s) m.body
unfolding message u16 byte
parts f k [] m rest w z e = absurd (none-ne-some _ e)
parts f k (i ∷ []) m rest w z e = absurd (none-ne-some _ e)
parts f k (i ∷ j ∷ []) m rest w z e = absurd (none-ne-some _ e)
parts f k (i ∷ j ∷ v ∷ t) m rest w z e =
    let x = before (message_body (is_long (be16 i j)) t) (λ body. give (record { number = be16 i j; body = body })) m rest e in
    let q = some-injective _ _ x.then_was in
    let n : be16 i j ≡ 0 = ap (λ y. y.0.number) q ∙ z in
    subst (λ (b : Bytes). PaSplit (f ∷ k ∷ i ∷ j ∷ v ∷ t) b) (ap (λ y. y.0.body) q)
    (payload_split f k i j v t x.first x.rest w n (message_split i j v t x.first x.rest n x.was))

-- the head of a PA message has seven bytes
pub message_size : (s : Bytes) (m : Message) (rest : Bytes) → message s ≡ some (m, rest) → m.number ≡ 0 → length s ≡ 7 + length m.body + length rest
unfolding message u16 byte
message_size [] m rest e z = absurd (none-ne-some _ e)
message_size (i ∷ []) m rest e z = absurd (none-ne-some _ e)
message_size (i ∷ j ∷ []) m rest e z = absurd (none-ne-some _ e)
message_size (i ∷ j ∷ v ∷ t) m rest e z =
    let x = before (message_body (is_long (be16 i j)) t) (λ body. give (record { number = be16 i j; body = body })) m rest e in
    let q = some-injective _ _ x.then_was in
    let n : be16 i j ≡ 0 = ap (λ y. y.0.number) q ∙ z in
    let c = counted32_split t x.first x.rest (message_split i j v t x.first x.rest n x.was) in
    omega (arith, c.1, ap (λ y. length y.0.body) q, ap (λ y. length y.1) q)

pub pa_split : (s b : Bytes) → pa_message s ≡ some b → PaSplit s b
unfolding pa_message
pa_split [] b e = absurd (none-ne-some _ e)
pa_split (f ∷ []) b e = absurd (none-ne-some _ e)
pa_split (f ∷ k ∷ s) b e = go (eqb (indicator f) 0 && eqb (aggregated f) 0) refl (message s) refl e
  where
    inside : (m : Message) (rest : Bytes) → (eqb (indicator f) 0 && eqb (aggregated f) 0) ≡ true → (a : Bool) → eqb m.number 0 ≡ a
        → cond a (some m.body) none ≡ some b → message s ≡ some (m, rest) → PaSplit (f ∷ k ∷ s) b
    inside m rest w false ea q g = absurd (none-ne-some _ q)
    inside m rest w true ea q g = subst (PaSplit (f ∷ k ∷ s)) (some-injective _ _ q) (parts f k s m rest w (eqb-true _ _ ea) g)

    go : (a : Bool) → (eqb (indicator f) 0 && eqb (aggregated f) 0) ≡ a → (o : Out Message) → message s ≡ o → cond a (pa_of o) none ≡ some b → PaSplit (f ∷ k ∷ s) b
    go false ea o eo q = absurd (none-ne-some _ q)
    go true ea none eo q = absurd (none-ne-some _ q)
    go true ea (some (m, rest)) eo q = inside m rest ea (eqb m.number 0) refl q eo

-- ---- a narrowing inside another: `inner` of a part b of s, put back by `put`

module _ {f₁ f₂ : Bytes → Option Bytes} (n : Narrows f₁ f₂) (s b : Bytes) (put : Bytes → Bytes) (outer : Bytes → Option Bytes)
    (again : (c : Bytes) → length c ≤ length b → outer (put c) ≡ map (λ d. put d) (f₁ c)) where
  pub within_twice : (o : Option Bytes) → f₂ b ≡ o → (outer s ≡ map put (f₁ b)) → get_or (outer (get_or (map put o) s)) (get_or (map put o) s) ≡ get_or (map put (f₁ b)) s
  within_twice none e w = rw w refl
  within_twice (some c) e w =
      let x = narrows_again n b c e in
      ap (λ (z : Option Bytes). get_or z (put c)) (again c (n.shorter b c e)) ∙ go (f₁ c) refl x.0 x.2 ∙ ap (λ (z : Option Bytes). get_or (map put z) s) (sym x.1)
    where
      go : (o : Option Bytes) → f₁ c ≡ o → (d : Bytes) → get_or (f₁ c) c ≡ d → get_or (map put (f₁ c)) (put c) ≡ put d
      go none eo d q = rw eo (ap put (sym (ap (λ (o : Option Bytes). get_or o c) eo) ∙ q))
      go (some z) eo d q = rw eo (ap put (sym (ap (λ (o : Option Bytes). get_or o c) eo) ∙ q))

map_some : (put : Bytes → Bytes) (a b : Option Bytes) → (is_some a ≡ true → is_some b ≡ true) → is_some (map put a) ≡ true → is_some (map put b) ≡ true
map_some put none b h e = clash (cc)
map_some put (some x) none h e = h refl
map_some put (some x) (some y) h e = refl

-- the bytes that a change puts in
map_long : (put : Bytes → Bytes) (b s : Bytes) (o : Option Bytes) → ((c : Bytes) → o ≡ some c → length (put c) ≤ length s) → (y : Bytes) → map put o ≡ some y → length y ≤ length s
map_long put b s none h y e = absurd (none-ne-some _ e)
map_long put b s (some c) h y e = subst (λ (z : Bytes). length z ≤ length s) (some-injective _ _ e) (h c refl)

-- ---- payloads

module _ {o₁ o₂ : Options} (fewer : Fewer o₁ o₂) (p : ℕ) where
  payload_again : (s b : Bytes) → pa_message s ≡ some b → (c : Bytes) → length c ≤ length b
      → narrow_payload o₁ p (payload_bytes s c) ≡ map (λ d. payload_bytes s d) (narrow_pa o₁ p c)
  unfolding narrow_payload
  payload_again s b e c l =
      let sp = pa_split s b e in
      rw (sp.again c (omega (arith, sp.few))) (go (narrow_pa o₁ p c))
    where
      go : (o : Option Bytes) → map (payload_bytes (payload_bytes s c)) o ≡ map (λ d. payload_bytes s d) o
      go none = refl
      go (some d) = ap some ((pa_split s b e).same c d)

  payload_case : (s : Bytes) (x : Option Bytes) → pa_message s ≡ x
      → (get_or (narrow_payload o₁ p (get_or (payload_for o₂ p s x) s)) (get_or (payload_for o₂ p s x) s) ≡ get_or (payload_for o₁ p s x) s)
      × (is_some (payload_for o₂ p s x) ≡ true → is_some (payload_for o₁ p s x) ≡ true)
      × ((y : Bytes) → payload_for o₂ p s x ≡ some y → length y ≤ length s)
  unfolding narrow_payload
  payload_case s none e = (rw e refl, λ h. h, λ y h. absurd (none-ne-some _ h))
  payload_case s (some b) e =
      let n = pa_narrows fewer p in
      let sp = pa_split s b e in (
        within_twice n s b (payload_bytes s) (narrow_payload o₁ p) (payload_again s b e) (narrow_pa o₂ p b) refl (rw e refl),
        map_some (payload_bytes s) (narrow_pa o₂ p b) (narrow_pa o₁ p b) (n.more b),
        map_long (payload_bytes s) b s (narrow_pa o₂ p b) (λ c q. omega (arith, n.shorter b c q, sp.size c, sp.long)),
      )

  pub payload_narrows : Narrows (narrow_payload o₁ p) (narrow_payload o₂ p)
  unfolding narrow_payload
  payload_narrows = record {
    twice = λ s. (payload_case s (pa_message s) refl).0;
    more = λ s. (payload_case s (pa_message s) refl).1;
    shorter = λ s. (payload_case s (pa_message s) refl).2;
  }

-- ---- packets

module _ (M : Modes) {o₁ o₂ : Options} (fewer : Fewer o₁ o₂) where
  packet_again : (p : Bytes) (m : Mmtp) → mmtp_of p ≡ some m → (is_signalling m && may_rewrite M p m) ≡ true → (y : Bytes) → length y ≤ length m.payload
      → narrow_packet M o₁ (packet_bytes p m y) ≡ map (λ z. packet_bytes p m z) (narrow_payload o₁ m.identifier y)
  unfolding narrow_packet
  packet_again p m e g y l =
      let b = and_both (is_signalling m) (may_rewrite M p m) g in
      let sp = packet_split M p m e b.1 in
      rw (sp.again y, sp.may_again y l, b.0) (go (narrow_payload o₁ m.identifier y) (sp.same y))
    where
      go : (o : Option Bytes) → ((z : Bytes) → packet_bytes (packet_bytes p m y) (with_payload m y) z ≡ packet_bytes p m z)
          → map (packet_bytes (packet_bytes p m y) (with_payload m y)) o ≡ map (λ z. packet_bytes p m z) o
      go none s = refl
      go (some z) s = ap some (s z)

  packet_case : (p : Bytes) (x : Option Mmtp) → mmtp_of p ≡ x
      → (get_or (narrow_packet M o₁ (get_or (packet_for M o₂ p x) p)) (get_or (packet_for M o₂ p x) p) ≡ get_or (packet_for M o₁ p x) p)
      × (is_some (packet_for M o₂ p x) ≡ true → is_some (packet_for M o₁ p x) ≡ true)
      × ((y : Bytes) → packet_for M o₂ p x ≡ some y → length y ≤ length p)
  unfolding narrow_packet
  packet_case p none e = (rw e refl, λ h. h, λ y h. absurd (none-ne-some _ h))
  packet_case p (some m) e = go (is_signalling m && may_rewrite M p m) refl
    where
      n : Narrows (narrow_payload o₁ m.identifier) (narrow_payload o₂ m.identifier)
      n = payload_narrows fewer m.identifier

      go : (a : Bool) → (is_signalling m && may_rewrite M p m) ≡ a
          → let z : Options → Option Bytes = λ o. cond a (map (packet_bytes p m) (narrow_payload o m.identifier m.payload)) none in
          (get_or (narrow_packet M o₁ (get_or (z o₂) p)) (get_or (z o₂) p) ≡ get_or (z o₁) p)
          × (is_some (z o₂) ≡ true → is_some (z o₁) ≡ true)
          × ((y : Bytes) → z o₂ ≡ some y → length y ≤ length p)
      go false ea = (rw (e, ea) refl, λ h. h, λ y h. absurd (none-ne-some _ h))
      go true ea =
          let sp = packet_split M p m e (and_both (is_signalling m) (may_rewrite M p m) ea).1 in (
            within_twice n p m.payload (packet_bytes p m) (narrow_packet M o₁) (λ c l. packet_again p m e ea c l) (narrow_payload o₂ m.identifier m.payload) refl (rw (e, ea) refl),
            map_some (packet_bytes p m) (narrow_payload o₂ m.identifier m.payload) (narrow_payload o₁ m.identifier m.payload) (n.more m.payload),
            map_long (packet_bytes p m) m.payload p (narrow_payload o₂ m.identifier m.payload) (λ c q. omega (arith, n.shorter m.payload c q, sp.size c)),
          )

  pub packet_narrows : Narrows (narrow_packet M o₁) (narrow_packet M o₂)
  unfolding narrow_packet
  packet_narrows = record {
    twice = λ p. (packet_case p (mmtp_of p) refl).0;
    more = λ p. (packet_case p (mmtp_of p) refl).1;
    shorter = λ p. (packet_case p (mmtp_of p) refl).2;
  }

-- A table alone, too.
module _ {o₁ o₂ : Options} (fewer : Fewer o₁ o₂) where
  pub alone_narrows : Narrows (narrow_table o₁) (narrow_table o₂)
  unfolding narrow_table
  alone_narrows = table_narrows fewer 0
