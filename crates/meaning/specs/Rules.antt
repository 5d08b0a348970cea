-- What follows from what is known: 01, "Keep, drop, ready".
use Rattle.std.specs.Prelude.{ℕ, Bool, cond, true, ◌&&◌, ◌||◌, not, List, [], ◌∷◌, eqb}
use Rattle.std.proofs.Math.Option.{Option, none, some}
use Rattle.meaning.specs.Sets.{in_set, how_many}
use Rattle.meaning.specs.Lists.{all, any, is_some}
use Rattle.meaning.specs.Wishes.{wanted, ours}
use Rattle.meaning.specs.Learn.{Known, Listed, lists}
use Rattle.meaning.specs.declared.Part.{Part}
use Rattle.meaning.specs.declared.Service.{Service}
use Rattle.meaning.specs.declared.Service.TheVariants.{Every, Only}
use Rattle.meaning.specs.declared.Options.{Options}

-- The list held for an MPT identifier.
unfoldable pub list_of : ℕ → List (ℕ × Listed) → Option Listed
list_of p [] = none
list_of p (l ∷ ls) = cond (eqb l.0 p) (some l.1) (list_of p ls)

abbrev pub assets_of : Option Listed → Listed
assets_of none = []
assets_of (some as') = as'

-- ---- what a package names

-- Whether one of its listed assets has identifier q and a kind that passes the test.
abbrev pub lists_it : (Part → Bool) → ℕ → Option Listed → Bool
lists_it test q o = any (λ a. eqb a.0 q && test a.1) (assets_of o)

-- Kept: where the service is ours, its MPT's identifier and its wanted assets.
unfoldable pub kept_by : Options → List (ℕ × Listed) → ℕ → ℕ × ℕ → Bool
unfolding any list_of
kept_by o ls q pkg = ours o.service pkg.0 && (eqb pkg.1 q || lists_it (wanted o) q (list_of pkg.1 ls))

-- Dropped: everything else that it names.
unfoldable pub dropped_by : Options → List (ℕ × Listed) → ℕ → ℕ × ℕ → Bool
unfolding any list_of
dropped_by o ls q pkg =
    cond (ours o.service pkg.0)
    (lists_it (λ part. not (wanted o part)) q (list_of pkg.1 ls))
    (eqb pkg.1 q || lists_it (λ part. true) q (list_of pkg.1 ls))

-- ---- whether an identifier is dropped

-- By packages, map lists and data set alone: identifier 0 never is, and kept beats dropped.
unfoldable pub in_drop_set : Options → Known → ℕ → Bool
unfolding any kept_by dropped_by in_set lists
in_drop_set o k q =
    not (eqb q 0)
    && (any (dropped_by o (lists k) q) k.packages || (not o.carousel && in_set k.data_set q))
    && not (any (kept_by o (lists k) q) k.packages)

-- EIT off drops 0x8000 even when kept.
unfoldable pub drops : Options → Known → ℕ → Bool
unfolding in_drop_set
drops o k q = (not o.eit && eqb q 0x8000) || in_drop_set o k q

-- How many packet identifiers the rules drop.
unfoldable pub dropped : Options → Known → ℕ
unfolding how_many drops
dropped o k = how_many (drops o k) 65536

-- ---- ready: a PLT was seen, and a list is held for each MPT identifier that is needed

-- The service's, which must be in the PLT; or all.
abbrev pub needs_met : Service → List (ℕ × ℕ) → List (ℕ × Listed) → Bool
needs_met Every ps ls = all (λ pkg. is_some (list_of pkg.1 ls)) ps
needs_met (Only s) ps ls = any (λ pkg. eqb pkg.0 s && is_some (list_of pkg.1 ls)) ps

unfoldable pub ready : Service → Known → Bool
unfolding all any list_of lists
ready s k = k.plt_seen && needs_met s k.packages (lists k)
