-- Locality: what a reader reads depends on the bytes that it takes alone, whatever follows them. One law for each way of making a
-- reader; each named reader then follows in a line.
use Prim.Native.Nat.{ℕ, zero, suc, ◌-◌, ◌%◌, ◌/◌, ◌≤◌, ◌<◌}
use mathlib.Core.Path.{◌≡◌, refl, sym, ap, ◌∙◌}
use mathlib.Core.Bool.{Bool, true, false}
use mathlib.Core.List.{[], ◌∷◌, ◌++◌, append_assoc}
use mathlib.Core.Option.{none, some, none-ne-some, some-injective}
use native.Mathlib.Decide.{dec_le}
use native.Mathlib.Omega.{arith}
use lib.ListN.{length, take, length-append, take-append-drop}
use lib.Seq.{take_at, drop_at, length-take-le}
use borrow.Author.Tests.{le-leb, lt-leb}
use Rattle.meaning.specs.Bytes.{Bytes}
use Rattle.meaning.specs.Readers.{Out, Reader, bind, ◌>>=◌, give, refuse, byte, u8, u16, u32, bytes, counted8, counted16, counted32, announced, many, raw}
use Rattle.meaning.specs.Mmtp.{extension, mmtp_header}
use Rattle.meaning.specs.Messages.{is_long, message_body, message}
use Rattle.meaning.specs.Tables.{elsewhere, location_body, location, clock_relation, asset, entry, mpt_front, mpt, package_fields, package_entry, plt, table, pa_head}

-- p takes `part` off s and reads it the same whatever follows.
pub record Split {A : Type 0} (p : Reader A) (s : Bytes) (a : A) (r : Bytes) : Type 0 where
  pub part : Bytes
  pub whole : s ≡ part ++ r
  pub again : (t : Bytes) → p (part ++ t) ≡ some (a, t)

abbrev pub Local : {A : Type 0} → Reader A → Type 0
Local {A} p = (s : Bytes) (a : A) (r : Bytes) → p s ≡ some (a, r) → Split p s a r

-- ---- the ways of making a reader

give_local : {A : Type 0} (x : A) → Local (give x)
give_local x s a r h =
    let e = some-injective _ _ h in
    record { part = []; whole = ap (λ q. q.1) e; again = λ t. ap (λ q. some (q.0, t)) e }

refuse_local : {A : Type 0} → Local (refuse {A = A})
refuse_local s a r h = absurd (none-ne-some _ h)

pub byte_local : Local byte
unfolding byte
byte_local [] a r h = absurd (none-ne-some _ h)
byte_local (b ∷ s) a r h =
    let e = some-injective _ _ h in
    record { part = b ∷ []; whole = ap (λ q. b ∷ q.1) e; again = λ t. ap (λ q. some (q.0, t)) e }

pub bytes_local : (n : ℕ) → Local (bytes n)
unfolding bytes
bytes_local n s a r h =
    elim (dec_le n (length s)) [
      | yes k ↦
          let e = some-injective _ _ (rw (le-leb _ _ k) at h) in
          let l = length-take-le n s k in
          record {
            part = take n s;
            whole = sym (take-append-drop n s) ∙ ap (λ q. take n s ++ q.1) e;
            again = λ t. let m : n ≤ length (take n s ++ t) = omega (arith, length-append (take n s) t, l) in
                rw (le-leb _ _ m, take_at (take n s) t n l, drop_at (take n s) t n l) (ap (λ q. some (q.0, t)) e);
          }
      | no k ↦ let m : length s < n = omega arith in absurd (none-ne-some _ (rw (lt-leb _ _ m) at h))
    ]

module _ {A B : Type 0} {p : Reader A} {f : A → Reader B} (lp : Local p) (lf : (a : A) → Local (f a)) where
  bind_go : (s : Bytes) (b : B) (r : Bytes) (o : Out A) → p s ≡ o → bind o f ≡ some (b, r) → Split (p >>= f) s b r
  bind_go s b r none e h = absurd (none-ne-some _ h)
  bind_go s b r (some x) e h =
      let u = lp s x.0 x.1 e in
      let v = lf x.0 x.1 b r h in
      record {
        part = u.part ++ v.part;
        whole = u.whole ∙ rw (append_assoc, ← v.whole);
        again = λ t. rw (append_assoc, u.again (v.part ++ t)) (v.again t);
      }

  pub bind_local : Local (p >>= f)
  bind_local s b r h = bind_go s b r (p s) refl h

pub take_front : (e r : Bytes) → take (length (e ++ r) - length r) (e ++ r) ≡ e
take_front e r = take_at e r (length (e ++ r) - length r) (omega (arith, length-append e r))

module _ {A : Type 0} {p : Reader A} (lp : Local p) where
  raw_go : (s : Bytes) (a : A × Bytes) (r : Bytes) (o : Out A) → p s ≡ o → bind o (λ a r. some ((a, take (length s - length r) s), r)) ≡ some (a, r)
      → Split (raw p) s a r
  unfolding raw
  raw_go s a r none e h = absurd (none-ne-some _ h)
  raw_go s a r (some x) e h =
      let u = lp s x.0 x.1 e in
      let q = some-injective _ _ h in
      let front : take (length s - length x.1) s ≡ u.part = ap (λ (z : Bytes). take (length z - length x.1) z) u.whole ∙ take_front u.part x.1 in
      record {
        part = u.part;
        whole = u.whole ∙ ap (λ z. u.part ++ z.1) q;
        again = λ t. rw (u.again t, take_front u.part t, ← front) (ap (λ z. some (z.0, t)) q);
      }

  pub raw_local : Local (raw p)
  unfolding raw
  raw_local s a r h = raw_go s a r (p s) refl h

  pub many_local : (n : ℕ) → Local (many n p)
  unfolding many
  many_local zero = give_local []
  many_local (suc n) = bind_local lp (λ a. bind_local (many_local n) (λ l. give_local (a ∷ l)))

announced_local : {p : Reader Bytes} → Local p → (f : ℕ) → Local (announced f p)
unfolding announced
announced_local lp zero = give_local []
announced_local lp (suc f) = lp

-- ---- fields

pub u8_local : Local u8
unfolding u8
u8_local = bind_local byte_local (λ b. give_local _)

pub u16_local : Local u16
unfolding u16
u16_local = bind_local byte_local (λ a. bind_local byte_local (λ b. give_local _))

pub u32_local : Local u32
unfolding u32
u32_local = bind_local u16_local (λ a. bind_local u16_local (λ b. give_local _))

pub counted8_local : Local counted8
unfolding counted8
counted8_local = bind_local u8_local bytes_local

pub counted16_local : Local counted16
unfolding counted16
counted16_local = bind_local u16_local bytes_local

pub counted32_local : Local counted32
unfolding counted32
counted32_local = bind_local u32_local bytes_local

-- ---- the MMTP head

extension_local : Local extension
unfolding extension
extension_local = bind_local u16_local (λ _. counted16_local)

pub mmtp_header_local : Local mmtp_header
unfolding mmtp_header
mmtp_header_local =
    bind_local u8_local (λ f. bind_local u8_local (λ t. bind_local u16_local (λ p. bind_local u32_local (λ _. bind_local u32_local (λ _.
    bind_local (announced_local (bytes_local 4) (f / 32 % 2)) (λ _. bind_local (announced_local extension_local (f / 2 % 2)) (λ _. give_local _)))))))

-- ---- messages

pub message_body_local : (long : Bool) → Local (message_body long)
unfolding message_body
message_body_local true = counted32_local
message_body_local false = counted16_local

pub message_local : Local message
unfolding message
message_local = bind_local u16_local (λ n. bind_local byte_local (λ _. bind_local (message_body_local (is_long n)) (λ b. give_local _)))

-- ---- tables and their entries

elsewhere_local : {p : Reader Bytes} → Local p → Local (elsewhere p)
elsewhere_local lp = bind_local lp (λ _. give_local none)

location_body_local : (t : ℕ) → Local (location_body t)
unfolding location_body
location_body_local zero = bind_local u16_local (λ p. give_local (some p))
location_body_local (suc zero) = elsewhere_local (bytes_local 12)
location_body_local (suc (suc zero)) = elsewhere_local (bytes_local 36)
location_body_local (suc (suc (suc zero))) = elsewhere_local (bytes_local 6)
location_body_local (suc (suc (suc (suc zero)))) = elsewhere_local (bytes_local 36)
location_body_local (suc (suc (suc (suc (suc zero))))) = elsewhere_local counted8_local
location_body_local (suc (suc (suc (suc (suc (suc t)))))) = refuse_local

pub location_local : Local location
unfolding location
location_local = bind_local u8_local location_body_local

clock_relation_local : Local clock_relation
unfolding clock_relation
clock_relation_local = bind_local u8_local (λ _. bind_local u8_local (λ f. announced_local (bytes_local 4) (f % 2)))

pub asset_local : Local asset
unfolding asset
asset_local =
    bind_local u8_local (λ _. bind_local (bytes_local 4) (λ _. bind_local counted8_local (λ _. bind_local (bytes_local 4) (λ k. bind_local u8_local (λ f.
    bind_local (announced_local clock_relation_local (f % 2)) (λ _. bind_local u8_local (λ n. bind_local (many_local location_local n) (λ ls.
    bind_local counted16_local (λ _. give_local _)))))))))

pub entry_local : Local entry
unfolding entry
entry_local = bind_local (raw_local asset_local) (λ e. give_local _)

pub mpt_front_local : Local mpt_front
unfolding mpt_front
mpt_front_local = bind_local u8_local (λ _. bind_local counted8_local (λ _. counted16_local))

pub mpt_local : Local mpt
unfolding mpt
mpt_local = bind_local (raw_local mpt_front_local) (λ f. bind_local u8_local (λ n. bind_local (many_local entry_local n) (λ es. give_local _)))

pub package_fields_local : Local package_fields
unfolding package_fields
package_fields_local = bind_local counted8_local (λ n. bind_local location_local (λ l. give_local _))

pub package_entry_local : Local package_entry
unfolding package_entry
package_entry_local = bind_local (raw_local package_fields_local) (λ p. give_local _)

pub plt_local : Local plt
unfolding plt
plt_local = bind_local u8_local (λ n. many_local package_entry_local n)

pub table_local : Local table
unfolding table
table_local = bind_local byte_local (λ _. bind_local byte_local (λ _. bind_local counted16_local (λ _. give_local _)))

pub pa_head_local : Local pa_head
unfolding pa_head
pa_head_local = bind_local byte_local (λ n. bind_local (many_local (bytes_local 4) (n % 256)) (λ es. give_local _))
