-- Rewriting a plain packet that qualifies: it qualifies again, the MMTP stands where it stood, and rewriting twice is rewriting once. With
-- the laws of narrowing a payload twice, this is what demand 3 asks of plain packets.
use Prim.Native.Nat.{ℕ, ◌+◌, ◌-◌, ◌*◌, ◌/◌, ◌%◌, ◌≤◌, ◌<◌}
use mathlib.Core.Path.{◌≡◌, refl, sym, ap, ap₂, subst, ◌∙◌}
use mathlib.Core.Logic.{◌≢◌}
use mathlib.Core.Bool.{Bool, true, false, cond}
use mathlib.Core.List.{◌++◌}
use mathlib.Core.Option.{none, some, none-ne-some, some-injective}
use native.Mathlib.Omega.{arith}
use lib.ListN.{length, take, drop, get_or}
use lib.Seq.{length-take-le, take_at}
use lib.Dec.{eqb}
use borrow.Author.Tests.{le-leb, leb-true, eqb-true, eqb-false}
use Rattle.meaning.specs.Bytes.{Bytes, be16, be16_at, with16}
use Rattle.meaning.specs.Mmtp.{Offset, udp, offset_of}
use Rattle.meaning.proofs.ListLaws.{clash, and_both}
use Rattle.meaning.specs.Ip.{version, header_length, total_length, fragmented, protocol, payload_length, next_header, udp_checksum, is_udp, plain4, plain6, plain_ip, pseudo4, afresh4, afresh6, afresh}
use Rattle.meaning.specs.Checksums.{ones_sum}
use Rattle.meaning.specs.Recount.{PlainRecounted}
use Rattle.meaning.proofs.ChecksumLaws.{be16_le}
use Rattle.meaning.proofs.FieldLaws.{drop_behind}
use Rattle.meaning.proofs.AfreshLaws.{Refit, keeps, refit_length, Field4, Field6, total, header, datagram, covered, payload, by4, by_refit, by_byte, six_refit, six_byte, afresh_by, front_length, front_byte, front_read, again4, again6, plain_again4, plain_again6, by_checksum}
use Rattle.meaning.proofs.ReceiverLaws.{verified_header, verified4, verified6}

-- ---- what a qualifying packet has

pub record Plain4 (s : Bytes) : Type 0 where
  pub four : version s ≡ 4
  pub headed : 20 ≤ header_length s
  pub long : total_length s ≡ length s
  pub whole : fragmented s ≡ 0
  pub udp_next : protocol s ≡ 17
  pub room : header_length s + 8 ≤ length s

pub is4 : (s : Bytes) → plain4 s ≡ true → Plain4 s
unfolding plain4 is_udp
is4 s e =
    let a = and_both _ _ e in
    let b = and_both _ _ a.1 in
    let c = and_both _ _ b.1 in
    let d = and_both _ _ c.1 in
    let f = and_both _ _ d.1 in
    let g = and_both _ _ f.1 in
    record {
      four = eqb-true _ _ a.0;
      headed = leb-true _ _ b.0;
      long = eqb-true _ _ c.0;
      whole = eqb-true _ _ d.0;
      udp_next = eqb-true _ _ f.0;
      room = leb-true _ _ g.0;
    }

pub record Plain6 (s : Bytes) : Type 0 where
  pub six : version s ≡ 6
  pub long : payload_length s ≡ length s - 40
  pub udp_next : next_header s ≡ 17
  pub room : 48 ≤ length s

pub is6 : (s : Bytes) → plain6 s ≡ true → Plain6 s
unfolding plain6 is_udp
is6 s e =
    let a = and_both _ _ e in
    let b = and_both _ _ a.1 in
    let c = and_both _ _ b.1 in
    let d = and_both _ _ c.1 in
    record { six = eqb-true _ _ a.0; long = eqb-true _ _ b.0; udp_next = eqb-true _ _ c.0; room = leb-true _ _ d.0 }

-- ---- what rewriting does, with the MMTP payload from `body` on

unfoldable pub rewritten : ℕ → Bytes → ℕ → Bytes → Bytes
rewritten type s body y = afresh type (take body s ++ y)

-- The bytes of both headers.
abbrev pub headers : ℕ → Bytes → ℕ
headers type s = cond (eqb type 0x01) (header_length s + 8) 48

pub record Rewrites (type : ℕ) (s : Bytes) (body : ℕ) : Type 0 where
  -- the headers, that of MMTP too, and the payload given
  pub size : (y : Bytes) → length (rewritten type s body y) ≡ body + length y
  pub rest : (y : Bytes) → drop (headers type s) (rewritten type s body y) ≡ drop (headers type s) (take body s ++ y)
  -- the MMTP stands where it stood, and with no more bytes than before the packet qualifies again
  pub offset : (y : Bytes) → offset_of type (rewritten type s body y) ≡ offset_of type s
  pub again : (y : Bytes) → body + length y ≤ length s → plain_ip type (rewritten type s body y) ≡ true
  -- one rewriting leaves nothing of itself in the next
  pub same : (y z : Bytes) → rewritten type (rewritten type s body y) body z ≡ rewritten type s body z

pub read_le : (s : Bytes) (at : ℕ) → be16_at s at ≤ 65535
unfolding be16_at
read_le s at = be16_le (get_or s at 0) (get_or s (at + 1) 0)

-- UDP behind the same header with the same ports
udp_same : (h : ℕ) (s t : Bytes) → h + 4 ≤ length s → h + 4 ≤ length t → be16_at t (h + 2) ≡ be16_at s (h + 2) → udp h t ≡ udp h s
unfolding udp
udp_same h s t l m e = rw (le-leb (h + 4) (length s) l, le-leb (h + 4) (length t) m, e)

module _ (s : Bytes) (body : ℕ) (m : body ≤ length s) where
  pub cut_again : (y : Bytes) → take body (take body s ++ y) ≡ take body s
  cut_again y = take_at (take body s) y body (length-take-le body s m)

  module _ (p : Plain4 s) (l : header_length s + 8 ≤ body) where
    front_header : (y : Bytes) → header_length (take body s ++ y) ≡ header_length s
    front_header y = ap (λ (c : ℕ). c % 16 * 4) (front_byte body s y m 0 (omega arith))

    by_front : (y : Bytes) → afresh4 (take body s ++ y) ≡ by4 (eqb (udp_checksum (header_length s) (take body s ++ y)) 0) (header_length s) (take body s ++ y)
    by_front y = afresh_by (eqb (udp_checksum (header_length s) (take body s ++ y)) 0) (header_length s) (take body s ++ y) (front_header y) refl

    front_refit : (y : Bytes) → Refit (Field4 (eqb (udp_checksum (header_length s) (take body s ++ y)) 0) (header_length s)) (take body s ++ y) (afresh4 (take body s ++ y))
    front_refit y =
        subst (Refit (Field4 (eqb (udp_checksum (header_length s) (take body s ++ y)) 0) (header_length s)) (take body s ++ y)) (sym (by_front y))
        (by_refit (eqb (udp_checksum (header_length s) (take body s ++ y)) 0) (header_length s) (take body s ++ y))

    byte4 : (y : Bytes) (j : ℕ) → j < header_length s + 4 → j ≢ 2 → j ≢ 3 → j ≢ 10 → j ≢ 11 → get_or (afresh4 (take body s ++ y)) j 0 ≡ get_or s j 0
    byte4 y j k n₁ n₂ n₃ n₄ =
        by_byte (eqb (udp_checksum (header_length s) (take body s ++ y)) 0) (header_length s) (take body s ++ y) j p.headed k n₁ n₂ n₃ n₄ (front_refit y)
        ∙ front_byte body s y m j (omega arith)

    size4 : (y : Bytes) → length (afresh4 (take body s ++ y)) ≡ body + length y
    size4 y = refit_length (front_refit y) ∙ front_length body s y m

    rest4 : (y : Bytes) → drop (header_length s + 8) (afresh4 (take body s ++ y)) ≡ drop (header_length s + 8) (take body s ++ y)
    rest4 y = keeps (drop (header_length s + 8)) go (front_refit y)
      where
        go : (a n : ℕ) (t : Bytes) → Field4 (eqb (udp_checksum (header_length s) (take body s ++ y)) 0) (header_length s) a → drop (header_length s + 8) (with16 a n t) ≡ drop (header_length s + 8) t
        go a n t (total e) = drop_behind a n t (header_length s + 8) (omega (arith, p.headed))
        go a n t (header e) = drop_behind a n t (header_length s + 8) (omega (arith, p.headed))
        go a n t (datagram e) = drop_behind a n t (header_length s + 8) (omega arith)
        go a n t (covered f e) = drop_behind a n t (header_length s + 8) (omega arith)

    offset4 : (y : Bytes) → offset_of 0x01 (afresh4 (take body s ++ y)) ≡ offset_of 0x01 s
    unfolding offset_of be16_at
    offset4 y =
        let h : ℕ = header_length s in
        let g : 20 ≤ h = p.headed in
        let u : Bytes = afresh4 (take body s ++ y) in
        ap (λ (c : ℕ). udp (c % 16 * 4) u) (byte4 y 0 (omega arith) (λ e. omega arith) (λ e. omega arith) (λ e. omega arith) (λ e. omega arith))
        ∙ udp_same h s u (omega (arith, p.room)) (omega (arith, size4 y))
        (ap₂ be16 (byte4 y (h + 2) (omega arith) (λ e. omega arith) (λ e. omega arith) (λ e. omega arith) (λ e. omega arith))
        (byte4 y (h + 2 + 1) (omega arith) (λ e. omega arith) (λ e. omega arith) (λ e. omega arith) (λ e. omega arith)))

    again_4 : (y : Bytes) → body + length y ≤ length s → plain4 (afresh4 (take body s ++ y)) ≡ true
    again_4 y k =
        let h : ℕ = header_length s in
        let g : 20 ≤ h = p.headed in
        let e : header_length (take body s ++ y) ≡ h = front_header y in
        let n : length (take body s ++ y) ≡ body + length y = front_length body s y m in
        let w : length s ≤ 65535 = omega (arith, p.long, read_le s 2) in
        plain_again4 (take body s ++ y) (ap (λ (c : ℕ). c / 16) (front_byte body s y m 0 (omega arith)) ∙ p.four) (omega arith)
        (ap (λ (c : ℕ). c % 0x4000) (front_read body s y m 6 (omega arith)) ∙ p.whole) (front_byte body s y m 9 (omega arith) ∙ p.udp_next) (omega arith) (omega arith)

    -- what a receiver finds
    receiver4 : (y : Bytes) → body + length y ≤ length s → PlainRecounted 0x01 s (rewritten 0x01 s body y)
    unfolding rewritten afresh plain_ip
    receiver4 y k = record {
      lengths_agree = again_4 y k;
      header_right = λ _. ap (λ (i : ℕ). ones_sum (take i v)) (sym hv) ∙ verified_header u headed_u room_u;
      none_stays = λ _. ap (λ (i : ℕ). eqb (udp_checksum i v) 0) (sym hv) ∙ none_u ∙ ap (λ (c : ℕ). eqb c 0) (ap (udp_checksum_of u) hu ∙ front_read body s y m (h + 6) (omega arith));
      udp_right_4 = λ _ e.
          ap (λ (i : ℕ). ones_sum (pseudo4 i v ++ drop i v)) (sym hv)
          ∙ verified4 u headed_u room_u (eqb-false (udp_checksum (header_length u) u) 0 (sym none_u ∙ ap (λ (i : ℕ). eqb (udp_checksum i v) 0) hv ∙ e));
      udp_right_6 = λ e. clash (let z : false ≡ true = e in cc);
    }
      where
        h : ℕ
        h = header_length s

        u : Bytes
        u = take body s ++ y

        v : Bytes
        v = afresh4 u

        udp_checksum_of : Bytes → ℕ → ℕ
        udp_checksum_of x i = udp_checksum i x

        hu : header_length u ≡ h
        hu = front_header y

        hv : header_length u ≡ header_length v
        hv =
            let g : 20 ≤ h = p.headed in
            hu ∙ sym (ap (λ (c : ℕ). c % 16 * 4) (byte4 y 0 (omega arith) (λ e. omega arith) (λ e. omega arith) (λ e. omega arith) (λ e. omega arith)))

        headed_u : 20 ≤ header_length u
        headed_u = omega (arith, hu, p.headed)

        room_u : header_length u + 8 ≤ length u
        room_u = omega (arith, hu, front_length body s y m)

        none_u : eqb (udp_checksum (header_length u) v) 0 ≡ eqb (udp_checksum (header_length u) u) 0
        none_u =
            let b : Bool = eqb (udp_checksum (header_length u) u) 0 in
            ap (λ (x : Bytes). eqb (udp_checksum (header_length u) x) 0) (afresh_by b (header_length u) u refl refl) ∙ by_checksum b (header_length u) u headed_u room_u refl

    pub rewrites4 : Rewrites 0x01 s body
    unfolding rewritten afresh plain_ip
    rewrites4 = record {
      size = size4;
      rest = rest4;
      offset = offset4;
      again = again_4;
      same = λ y z.
          again4 (take body s ++ y) body z (omega (arith, front_header y, p.headed)) (omega (arith, front_header y)) (omega (arith, front_length body s y m))
          ∙ ap (λ (t : Bytes). afresh4 (t ++ z)) (cut_again y);
    }

  module _ (p : Plain6 s) (l : 48 ≤ body) where
    byte6 : (y : Bytes) (j : ℕ) → j < 44 → j ≢ 4 → j ≢ 5 → get_or (afresh6 (take body s ++ y)) j 0 ≡ get_or s j 0
    byte6 y j k n₁ n₂ = six_byte (take body s ++ y) j k n₁ n₂ (six_refit (take body s ++ y)) ∙ front_byte body s y m j (omega arith)

    size6 : (y : Bytes) → length (afresh6 (take body s ++ y)) ≡ body + length y
    size6 y = refit_length (six_refit (take body s ++ y)) ∙ front_length body s y m

    rest6 : (y : Bytes) → drop 48 (afresh6 (take body s ++ y)) ≡ drop 48 (take body s ++ y)
    rest6 y = keeps (drop 48) go (six_refit (take body s ++ y))
      where
        go : (a n : ℕ) (t : Bytes) → Field6 a → drop 48 (with16 a n t) ≡ drop 48 t
        go a n t (payload e) = drop_behind a n t 48 (omega arith)
        go a n t (datagram e) = drop_behind a n t 48 (omega arith)
        go a n t (covered e) = drop_behind a n t 48 (omega arith)

    offset6 : (y : Bytes) → offset_of 0x02 (afresh6 (take body s ++ y)) ≡ offset_of 0x02 s
    unfolding offset_of be16_at
    offset6 y =
        udp_same 40 s (afresh6 (take body s ++ y)) (omega (arith, p.room)) (omega (arith, size6 y))
        (ap₂ be16 (byte6 y 42 (omega arith) (λ e. omega arith) (λ e. omega arith)) (byte6 y 43 (omega arith) (λ e. omega arith) (λ e. omega arith)))

    again_6 : (y : Bytes) → body + length y ≤ length s → plain6 (afresh6 (take body s ++ y)) ≡ true
    again_6 y k =
        let n : length (take body s ++ y) ≡ body + length y = front_length body s y m in
        let w : length s ≤ 65575 = omega (arith, p.long, read_le s 4) in
        plain_again6 (take body s ++ y) (ap (λ (c : ℕ). c / 16) (front_byte body s y m 0 (omega arith)) ∙ p.six) (front_byte body s y m 6 (omega arith) ∙ p.udp_next)
        (omega arith) (omega arith)

    receiver6 : (y : Bytes) → body + length y ≤ length s → PlainRecounted 0x02 s (rewritten 0x02 s body y)
    unfolding rewritten afresh plain_ip
    receiver6 y k = record {
      lengths_agree = again_6 y k;
      header_right = λ e. clash (let z : false ≡ true = e in cc);
      none_stays = λ e. clash (let z : false ≡ true = e in cc);
      udp_right_4 = λ e _. clash (let z : false ≡ true = e in cc);
      udp_right_6 = λ _. verified6 (take body s ++ y) (omega (arith, front_length body s y m));
    }

    pub rewrites6 : Rewrites 0x02 s body
    unfolding rewritten afresh plain_ip
    rewrites6 = record {
      size = size6;
      rest = rest6;
      offset = offset6;
      again = again_6;
      same = λ y z. again6 (take body s ++ y) body z l (omega (arith, front_length body s y m)) ∙ ap (λ (t : Bytes). afresh6 (t ++ z)) (cut_again y);
    }

-- Of every packet that qualifies.
pub rewrites : (type : ℕ) (s : Bytes) (body : ℕ) → plain_ip type s ≡ true → headers type s ≤ body → body ≤ length s → Rewrites type s body
unfolding plain_ip
rewrites type s body e l m = go (eqb type 0x01) refl (eqb type 0x02) refl e l
  where
    go : (a : Bool) → eqb type 0x01 ≡ a → (b : Bool) → eqb type 0x02 ≡ b → cond a (plain4 s) (cond b (plain6 s) false) ≡ true
        → cond a (header_length s + 8) 48 ≤ body → Rewrites type s body
    go true ea b eb q k = subst (λ (t : ℕ). Rewrites t s body) (sym (eqb-true type 0x01 ea)) (rewrites4 s body m (is4 s q) k)
    go false ea true eb q k = subst (λ (t : ℕ). Rewrites t s body) (sym (eqb-true type 0x02 eb)) (rewrites6 s body m (is6 s q) k)
    go false ea false eb q k = let z : ◌≡◌ {A = ℕ} 0 1 = cc in absurd (omega arith)

-- No longer than before, its lengths agree and its checksums are right.
pub receiver : (type : ℕ) (s : Bytes) (body : ℕ) → plain_ip type s ≡ true → headers type s ≤ body → body ≤ length s → (y : Bytes) → body + length y ≤ length s
    → PlainRecounted type s (rewritten type s body y)
unfolding plain_ip
receiver type s body e l m y n = go (eqb type 0x01) refl (eqb type 0x02) refl e l
  where
    go : (a : Bool) → eqb type 0x01 ≡ a → (b : Bool) → eqb type 0x02 ≡ b → cond a (plain4 s) (cond b (plain6 s) false) ≡ true
        → cond a (header_length s + 8) 48 ≤ body → PlainRecounted type s (rewritten type s body y)
    go true ea b eb q k = subst (λ (t : ℕ). PlainRecounted t s (rewritten t s body y)) (sym (eqb-true type 0x01 ea)) (receiver4 s body m (is4 s q) k y n)
    go false ea true eb q k = subst (λ (t : ℕ). PlainRecounted t s (rewritten t s body y)) (sym (eqb-true type 0x02 eb)) (receiver6 s body m (is6 s q) k y n)
    go false ea false eb q k = clash (let z : false ≡ true = q in cc)

-- ---- where the MMTP of a qualifying packet is

udp_at : (h at : ℕ) (w : Bool) (s : Bytes) → h + 4 ≤ length s → udp h s ≡ some (at, w) → at ≡ h + 8
unfolding udp
udp_at h at w s l e = go (eqb (be16_at s (h + 2)) 123) (rw (le-leb (h + 4) (length s) l) at e)
  where
    go : (b : Bool) → cond {A = Offset} b none (some (h + 8, false)) ≡ some (at, w) → at ≡ h + 8
    go true q = absurd (none-ne-some _ q)
    go false q = sym (ap (λ x. x.0) (some-injective _ _ q))

pub record Qualifies (type : ℕ) (s : Bytes) : Type 0 where
  pub plain_type : eqb type 0x03 ≡ false
  pub fits : headers type s ≤ length s
  pub stands : (at : ℕ) (w : Bool) → offset_of type s ≡ some (at, w) → at ≡ headers type s

pub qualifies : (type : ℕ) (s : Bytes) → plain_ip type s ≡ true → Qualifies type s
unfolding plain_ip offset_of
qualifies type s e = go (eqb type 0x01) refl (eqb type 0x02) refl e
  where
    one : plain4 s ≡ true → Qualifies 0x01 s
    one q =
        let p = is4 s q in
        record { plain_type = refl; fits = p.room; stands = λ at w f. udp_at (header_length s) at w s (omega (arith, p.room)) f }

    two : plain6 s ≡ true → Qualifies 0x02 s
    two q =
        let p = is6 s q in
        record { plain_type = refl; fits = p.room; stands = λ at w f. udp_at 40 at w s (omega (arith, p.room)) f }

    go : (a : Bool) → eqb type 0x01 ≡ a → (b : Bool) → eqb type 0x02 ≡ b → cond a (plain4 s) (cond b (plain6 s) false) ≡ true → Qualifies type s
    go true ea b eb q = subst (λ (t : ℕ). Qualifies t s) (sym (eqb-true type 0x01 ea)) (one q)
    go false ea true eb q = subst (λ (t : ℕ). Qualifies t s) (sym (eqb-true type 0x02 eb)) (two q)
    go false ea false eb q = let z : ◌≡◌ {A = ℕ} 0 1 = cc in absurd (omega arith)
