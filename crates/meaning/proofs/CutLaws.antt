-- Finding packets: what each step says, induction over a run by its steps, the equations of `cut`, and what follows: no byte is lost,
-- each packet is one by its head, and fewer bytes than the packet limit are held. Rests on specs/Packets.
use Prim.Native.Nat.{ℕ, zero, suc, ◌+◌, ◌-◌, ◌≤◌, ◌<◌}
use mathlib.Core.Path.{◌≡◌, refl, sym, subst}
use mathlib.Core.Bool.{Bool, true, false, cond, ◌&&◌}
use mathlib.Core.List.{List, [], ◌∷◌, ◌++◌, map}
use native.Mathlib.Numerals.{sub-one}
use native.Mathlib.Omega.{arith}
use lib.ListN.{length, take, drop, get_or, length-append, length-drop}
use lib.Seq.{length-take-le}
use lib.Dec.{leb, ltb, eqb}
use borrow.Author.Tests.{ltb-true, ltb-false, leb-true, leb-false}
use Rattle.meaning.specs.Bytes.{Bytes}
use Rattle.meaning.specs.Lists.{sum}
use Rattle.meaning.specs.Packets.{size_of, is_type, candidate, followed, step_of, hold, skip, accept, cut_past, cut}
use Rattle.meaning.specs.declared.Step.{Step}
use Rattle.meaning.specs.declared.Step.TheVariants.{Packet, Skip, Keep}
use Rattle.meaning.proofs.ListLaws.{clash, and_both}

-- ---- what each answer of a step says

pub data View (P : ℕ) (s : Bytes) : Step → Type 0 where
  short : length s < 4 → View P s Keep
  no_start : 4 ≤ length s → (candidate P s && followed s) ≡ false → View P s Skip
  long : 4 ≤ length s → (candidate P s && followed s) ≡ true → length s < size_of s → View P s Keep
  whole : 4 ≤ length s → (candidate P s && followed s) ≡ true → size_of s ≤ length s → View P s (Packet (size_of s))

pub view : (P : ℕ) (s : Bytes) → View P s (step_of P s)
unfolding step_of
view P s = go (ltb (length s) 4) refl (candidate P s && followed s) refl (leb (size_of s) (length s)) refl
  where
    go : (a : Bool) → ltb (length s) 4 ≡ a → (b : Bool) → (candidate P s && followed s) ≡ b → (d : Bool) → leb (size_of s) (length s) ≡ d
        → View P s (cond a Keep (cond b (cond d (Packet (size_of s)) Keep) Skip))
    go true ea b eb d ed = short (ltb-true _ _ ea)
    go false ea false eb d ed = no_start (ltb-false _ _ ea) eb
    go false ea true eb false ed = long (ltb-false _ _ ea) eb (leb-false _ _ ed)
    go false ea true eb true ed = whole (ltb-false _ _ ea) eb (leb-true _ _ ed)

pub size_four : (s : Bytes) → 4 ≤ size_of s
unfolding size_of
size_four s = omega arith

-- a candidate is no longer than P
pub size_limit : (P : ℕ) (s : Bytes) → (candidate P s && followed s) ≡ true → size_of s ≤ P
unfolding candidate
size_limit P s e =
    let c = (and_both (candidate P s) (followed s) e).0 in
    leb-true _ _ (and_both (eqb (get_or s 0 0) 0x7F && is_type (get_or s 1 0)) (leb (size_of s) P) c).1

-- ---- induction by steps

drop_pos : (n : ℕ) (b : ℕ) (s : Bytes) → 0 < n → drop n (b ∷ s) ≡ drop (n - 1) s
drop_pos zero b s h = absurd (omega arith)
drop_pos (suc n) b s h = rw sub-one

pub step_nil : (P : ℕ) → step_of P [] ≡ Keep
unfolding step_of
step_nil P = refl

module _ {ℓ} (P : ℕ) (Q : Bytes → Type ℓ)
    (on_keep : (s : Bytes) → step_of P s ≡ Keep → Q s)
    (on_skip : (s : Bytes) → step_of P s ≡ Skip → 4 ≤ length s → (candidate P s && followed s) ≡ false → Q (drop 1 s) → Q s)
    (on_packet : (s : Bytes) → step_of P s ≡ Packet (size_of s) → 4 ≤ length s → (candidate P s && followed s) ≡ true → size_of s ≤ length s → Q (drop (size_of s) s) → Q s)
  where
    one : (b : ℕ) (s : Bytes) (t : Step) → step_of P (b ∷ s) ≡ t → View P (b ∷ s) t → ((j : ℕ) → Q (drop j s)) → Q (b ∷ s)
    one b s t e (short h) rec = on_keep _ e
    one b s t e (no_start h c) rec = on_skip _ e h c (rec 0)
    one b s t e (long h c l) rec = on_keep _ e
    one b s t e (whole h c l) rec =
        on_packet _ e h c l (subst Q (sym (drop_pos (size_of (b ∷ s)) b s (omega (arith, size_four (b ∷ s))))) (rec (size_of (b ∷ s) - 1)))

    all_from : (s : Bytes) (k : ℕ) → Q (drop k s)
    all_from [] zero = on_keep [] (step_nil P)
    all_from [] (suc k) = on_keep [] (step_nil P)
    all_from (b ∷ s) zero = one b s (step_of P (b ∷ s)) refl (view P (b ∷ s)) (λ j. all_from s j)
    all_from (b ∷ s) (suc k) = all_from s k

    pub by_steps : (s : Bytes) → Q s
    by_steps s = all_from s 0

-- ---- the equations

past_drop : (P : ℕ) (k : ℕ) (s : Bytes) → cut_past P k s ≡ cut P (drop k s)
unfolding cut
past_drop P zero [] = refl
past_drop P (suc k) [] = refl
past_drop P zero (b ∷ s) = refl
past_drop P (suc k) (b ∷ s) = past_drop P k s

pub cut_keep : (P : ℕ) (s : Bytes) → step_of P s ≡ Keep → cut P s ≡ hold s
unfolding cut
cut_keep P [] e = refl
cut_keep P (b ∷ s) e = rw e

pub cut_skip : (P : ℕ) (s : Bytes) → step_of P s ≡ Skip → cut P s ≡ skip (cut P (drop 1 s))
unfolding cut
cut_skip P [] e = clash (cc (step_nil P))
cut_skip P (b ∷ s) e = rw e

-- a packet found is as long as its head says, so it is not empty
found_size : (P : ℕ) (s : Bytes) (n : ℕ) (t : Step) → View P s t → t ≡ Packet n → n ≡ size_of s
found_size P s n t (short h) e = clash (cc e)
found_size P s n t (no_start h c) e = clash (cc e)
found_size P s n t (long h c l) e = clash (cc e)
found_size P s n t (whole h c l) e = cc e

pub cut_packet : (P : ℕ) (s : Bytes) (n : ℕ) → step_of P s ≡ Packet n → cut P s ≡ accept (take n s) (cut P (drop n s))
unfolding cut
cut_packet P [] n e = clash (cc (step_nil P))
cut_packet P (b ∷ s) n e =
    let size = found_size P (b ∷ s) n (step_of P (b ∷ s)) (view P (b ∷ s)) e in
    rw (e, past_drop P (n - 1) s, drop_pos n b s (omega (arith, size, size_four (b ∷ s))))

-- ---- what follows

unfoldable pub lengths : List Bytes → ℕ
unfolding sum
lengths ps = sum (map length ps)

-- The byte equation: all bytes of a run are packets' bytes, skipped or held.
pub conserved : (P : ℕ) (s : Bytes) → lengths (cut P s).packets + (cut P s).skipped + length (cut P s).held ≡ length s
unfolding lengths
conserved P =
    by_steps P (λ (s : Bytes). lengths (cut P s).packets + (cut P s).skipped + length (cut P s).held ≡ length s)
    (λ s e. rw (cut_keep P s e) (omega arith))
    (λ s e h c ih. rw (cut_skip P s e) (omega (arith, length-drop 1 s)))
    (λ s e h c l ih. rw (cut_packet P s (size_of s) e) (omega (arith, length-drop (size_of s) s, length-take-le (size_of s) s l)))

-- so held before + chunk = accepted packets' bytes + skipped + held after
pub byte_equation : (P : ℕ) (held chunk : Bytes)
    → length held + length chunk ≡ lengths (cut P (held ++ chunk)).packets + (cut P (held ++ chunk)).skipped + length (cut P (held ++ chunk)).held
byte_equation P held chunk = omega (arith, conserved P (held ++ chunk), length-append held chunk)

-- Fewer bytes than P are held, if P is four at least: no candidate that fits is kept waiting, and no other is kept at all.
held_here : (P : ℕ) (s : Bytes) (t : Step) → View P s t → t ≡ Keep → 4 ≤ P → length s < P
held_here P s t (short h) e p = omega arith
held_here P s t (no_start h c) e p = clash (cc)
held_here P s t (long h c l) e p = omega (arith, size_limit P s c)
held_here P s t (whole h c l) e p = clash (cc)

pub held_below : (P : ℕ) → 4 ≤ P → (s : Bytes) → length (cut P s).held < P
held_below P p =
    by_steps P (λ (s : Bytes). length (cut P s).held < P)
    (λ s e. rw (cut_keep P s e) (held_here P s (step_of P s) (view P s) e p))
    (λ s e h c ih. rw (cut_skip P s e) ih)
    (λ s e h c l ih. rw (cut_packet P s (size_of s) e) ih)
