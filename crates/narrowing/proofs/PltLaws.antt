-- The body of a PLT, as `plt` reads and writes it: the loop over its packages, whose invariant is `Sofar`, what each return of it
-- says, and the body with one entry as it is written. Rests on the readers at an offset, Reading of `meaning`, and on Writes.
use Prim.Native.Nat.{ℕ, ◌-◌, ◌≤◌, ◌<◌}
use mathlib.Core.Path.{◌≡◌, refl, sym, ap, ◌∙◌}
use mathlib.Core.Bool.{true, false, cond}
use mathlib.Core.List.{List, [], ◌∷◌, ◌++◌, append-nil}
use mathlib.Core.Option.{Option, none, some}
use native.Mathlib.Omega.{arith}
use lib.ListN.{length, take, drop, get_or}
use Rattle.meaning.specs.Bytes.{Bytes}
use Rattle.meaning.specs.Writing.{Wrote}
use Rattle.meaning.specs.Readers.{many}
use Rattle.meaning.specs.Tables.{Package, package_entry, plt, service_of}
use Rattle.meaning.specs.Narrow.{is_service, last_of, plt_only}
use Rattle.meaning.proofs.Reading.{u8_none, many_none, many_next, behind, behind_nothing, behind_one}
use Rattle.octets.proofs.ByteLaws.{u8_at_lem, rest_of}
use Rattle.meaning.proofs.Writes.{wrote_then}
use Rattle.tables.specs.Answers.{in_code, PackageIs}
use Rattle.tables.specs.declared.packages.Package as read
use Rattle.std.specs.Prelude.{Some, None, MatchOption, ⊤}
use Rattle.std.specs.Prelude as code
use Rattle.std.specs.Option.{option_eq}
use lib.Dec.{eqb}
use Rattle.narrowing.specs.Bodies.{one_entry, PltIs}
use Rattle.narrowing.specs.declared.plt.PltChange.{PltChange}

-- a name and a service, as the code and as the definitions test them
named_service : (s : ℕ) (n : Option ℕ) → option_eq eqb (in_code n) (Some s) ≡ is_service s n
unfolding is_service
named_service s none = refl
named_service s (some n) = refl

-- the last of some and one more
last_more : (s : ℕ) (pre : List Package) (p : Package) (o : Option Bytes)
    → last_of s (pre ++ p ∷ []) o ≡ cond (is_service s (service_of p.name)) (some p.bytes_of) (last_of s pre o)
unfolding last_of
last_more s [] p o = refl
last_more s (q ∷ pre) p o = last_more s pre p (cond (is_service s (service_of q.name)) (some q.bytes_of) o)

-- the bytes from the one to the other of the offsets that the code holds
abbrev entry_at : Bytes → code.Option (ℕ × ℕ) → Option Bytes
entry_at b None = none
entry_at b (Some x) = some (take (x.1 - x.0) (drop x.0 b))

-- they stand in order, up to `past`, and behind the count
abbrev Ordered : code.Option (ℕ × ℕ) → ℕ → Type 0
Ordered x past = MatchOption x ⊤ (λ p. (1 ≤ p.0) × (p.0 ≤ p.1) × (p.1 ≤ past))

-- no count
pub plt_none : (s : ℕ) (b : Bytes) → length b ≡ 0 → plt_only s b ≡ none
unfolding plt_only plt
plt_none s b h = rw (u8_none b 0 (omega arith))

-- Of the packages of b, `pre` were read, up to `past`, and `left` are left; the last of the service stands where `stays` says.
pub record Sofar (s : ℕ) (b : Bytes) (left past : ℕ) (stays : code.Option (ℕ × ℕ)) : Type 0 where
  pub pre : List Package
  pub reads : plt b ≡ behind pre (many left package_entry (drop past b))
  pub last : last_of s pre none ≡ entry_at b stays
  pub one : 1 ≤ past
  pub in_b : past ≤ length b
  pub in_order : Ordered stays past

module _ (s : ℕ) (b : Bytes) where
  -- none read yet
  pub start : (count : ℕ) → 0 < length b → count ≡ get_or b 0 0 → count < 256 → Sofar s b count 1 None
  unfolding plt last_of
  start count h q l =
      record {
        pre = [];
        reads = rw (u8_at_lem b 0 1 h (omega arith) refl, q) (behind_nothing (many (get_or b 0 0) package_entry (drop 1 b)));
        last = refl;
        one = omega arith;
        in_b = omega arith;
        in_order = tt;
      }

  module _ (left past : ℕ) (stays : code.Option (ℕ × ℕ)) (i : Sofar s b left past stays) where
    -- one that cannot be read
    pub broken : 0 < left → package_entry (drop past b) ≡ none → plt_only s b ≡ none
    unfolding plt_only
    broken h e = rw (i.reads, many_none package_entry (drop past b) left h e)

    module _ (x : read.Package) (h : 0 < left) (p : PackageIs b past (Some x)) where
      abbrev row : Package
      row = record { name = p.2.0; carrier = p.2.1; bytes_of = take (x.end - past) (drop past b) }

      more : plt b ≡ behind (i.pre ++ row ∷ []) (many (left - 1) package_entry (drop x.end b))
      more = i.reads ∙ rw (many_next package_entry (drop past b) left row (drop x.end b) h p.2.2) (behind_one i.pre row (many (left - 1) package_entry (drop x.end b)))

      test : is_service s (service_of p.2.0) ≡ option_eq eqb x.name (Some s)
      test = sym (ap (λ (z : code.Option ℕ). option_eq eqb z (Some s)) p.2.3 ∙ named_service s (service_of p.2.0))

      -- one of the service
      pub turn : option_eq eqb x.name (Some s) ≡ true → Sofar s b (left - 1) x.end (Some (past, x.end))
      turn t =
          record {
            pre = i.pre ++ row ∷ [];
            reads = more;
            last = rw (last_more s i.pre row none, test, t);
            one = omega (arith, i.one);
            in_b = p.0;
            in_order = (i.one, omega arith, omega arith);
          }

      -- another
      pub turn_other : option_eq eqb x.name (Some s) ≡ false → Sofar s b (left - 1) x.end stays
      turn_other t =
          record {
            pre = i.pre ++ row ∷ [];
            reads = more;
            last = rw (last_more s i.pre row none, test, t) i.last;
            one = omega (arith, i.one);
            in_b = p.0;
            in_order = go stays i.in_order;
          }
        where
          go : (y : code.Option (ℕ × ℕ)) → Ordered y past → Ordered y x.end
          go None u = tt
          go (Some y) u = (u.0, u.1, omega (arith, u.2, p.1))

    -- none left, and none is of the service
    pub none_of : left ≡ 0 → stays ≡ None → plt_only s b ≡ none
    unfolding plt_only many
    none_of z h = rw (i.reads, z, append-nil i.pre, i.last, h)

    -- none left, and the last of the service stays
    pub one_of : left ≡ 0 → (begin end : ℕ) → stays ≡ Some (begin, end) → PltIs s b (Some (record { start = begin; end = end; past = past }))
    unfolding plt_only many
    one_of z begin end h =
        let u = rw h at i.in_order in (
          record { first = u.0; ends = u.1; before = u.2; within = i.in_b },
          rw (i.reads, z, append-nil i.pre, i.last, h),
        )

-- the body with one entry, written in three parts
pub wrote_one_entry : {d d₁ d₂ d₃ : Bytes} {to x y z : ℕ} (b : Bytes) (one : PltChange) → Wrote (1 ∷ []) d to d₁ x → Wrote (take (one.end - one.start) (drop one.start b)) d₁ x d₂ y
    → Wrote (take (length b - one.past) (drop one.past b)) d₂ y d₃ z → Wrote (one_entry b one) d to d₃ z
wrote_one_entry b one u v w = wrote_then u (wrote_then v (rw (rest_of b one.past) at w))
