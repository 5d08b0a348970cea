-- How many identifiers are dropped: 0x8000 once where EIT is off, and the last identifier like any other. 01, "Keep, drop, ready".
use Prim.Native.Nat.{ℕ, zero, suc, ◌+◌, ◌≤◌, ◌<◌}
use mathlib.Core.Path.{◌≡◌, refl, sym, ap, ◌∙◌}
use mathlib.Core.Bool.{Bool, true, false, cond, not, ◌&&◌, ◌||◌}
use mathlib.Core.List.{[], ◌∷◌}
use native.Mathlib.Omega.{arith}
use lib.Arith.{lt_of_le-ne}
use lib.Dec.{eqb}
use borrow.Author.Tests.{eqb-true, eqb-false, ne_eqb}
use Rattle.meaning.specs.Sets.{how_many}
use Rattle.meaning.specs.Learn.{Known}
use Rattle.meaning.specs.Rules.{drops, dropped}
use Rattle.meaning.specs.declared.Service.TheVariants.{Only}
use Rattle.meaning.specs.declared.Options.{Options}
use Rattle.meaning.proofs.SetLaws.{many_same}

none_of : (p n : ℕ) → n ≤ p → how_many (eqb p) n ≡ 0
unfolding how_many
none_of p zero h = refl
none_of p (suc n) h = rw (ne_eqb p n (λ e. absurd (omega (arith, e, h))), none_of p n (omega arith))

-- exactly one number below n is p
one_of : (p n : ℕ) → p < n → how_many (eqb p) n ≡ 1
unfolding how_many
one_of p zero h = absurd (omega arith)
one_of p (suc n) h = go (eqb p n) refl (one_of p n)
  where
    go : (b : Bool) → eqb p n ≡ b → (p < n → how_many (eqb p) n ≡ 1) → cond (eqb p n) 1 0 + how_many (eqb p) n ≡ 1
    go true e ih = rw (e, none_of p n (omega (arith, eqb-true p n e)))
    go false e ih = let l : p < n = lt_of_le-ne (omega (arith, h)) (eqb-false p n e) in rw (e, ih l)

-- a test that p alone passes
counted_one : (f : ℕ → Bool) (p n : ℕ) → p < n → ((q : ℕ) → f q ≡ eqb p q) → how_many f n ≡ 1
counted_one f p n l h = many_same f (eqb p) n (λ q m. h q) ∙ one_of p n l

-- all 65,536 identifiers are asked, by the rules with EIT
asked : (o : Options) (k : Known) → dropped o k ≡ how_many (drops o k) 65536
unfolding dropped
asked o k = refl

-- ---- service 1 is named, and the PLT has one other service, whose MPT is on p

abbrev other : ℕ → Known
other p = record { plt_seen = true; packages = (2, p) ∷ []; map_heads = []; map_room = []; data_set = []; fragments = [] }

abbrev first : Options
first = record { service = Only 1; caption = true; carousel = true; eit = true; other = true }

drops_it : (p q : ℕ) → 0 < p → drops first (other p) q ≡ eqb p q
unfolding drops
drops_it p q h = go (eqb q 0) refl (eqb p q) refl
  where
    go : (a : Bool) → eqb q 0 ≡ a → (b : Bool) → eqb p q ≡ b → (not a && (((b || false) || false) || false) && not (false || false)) ≡ b
    go true e true f = absurd (omega (arith, eqb-true q 0 e, eqb-true p q f, h))
    go true e false f = refl
    go false e true f = refl
    go false e false f = refl

pub last_counts : dropped first (other 0xFFFF) ≡ 1
last_counts = asked first (other 0xFFFF) ∙ counted_one (drops first (other 0xFFFF)) 0xFFFF 65536 (omega arith) (λ q. drops_it 0xFFFF q (omega arith))

-- ---- nothing is known, and EIT is off

abbrev nobody : Known
nobody = record { plt_seen = false; packages = []; map_heads = []; map_room = []; data_set = []; fragments = [] }

abbrev no_eit : Options
no_eit = record { service = Only 1; caption = true; carousel = true; eit = false; other = true }

drops_eit : (q : ℕ) → drops no_eit nobody q ≡ eqb 0x8000 q
unfolding drops
drops_eit q = go (eqb q 0x8000) refl (eqb q 0)
  where
    go : (a : Bool) → eqb q 0x8000 ≡ a → (z : Bool) → ((true && a) || (not z && (false || false) && not false)) ≡ eqb 0x8000 q
    go true e z = ap (eqb 0x8000) (sym (eqb-true q 0x8000 e))
    go false e true = sym (ne_eqb 0x8000 q (λ x. eqb-false q 0x8000 e (sym x)))
    go false e false = sym (ne_eqb 0x8000 q (λ x. eqb-false q 0x8000 e (sym x)))

pub eit_counts : dropped no_eit nobody ≡ 1
eit_counts = asked no_eit nobody ∙ counted_one (drops no_eit nobody) 0x8000 65536 (omega arith) drops_eit
