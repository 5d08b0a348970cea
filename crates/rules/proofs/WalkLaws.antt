-- Walks over a list: what the library's tests are among the definitions, and a set that each item changes, whichever way.
-- Rests on the definitions of lists and on MemberLaws.
use Prim.Native.Nat.{ℕ}
use mathlib.Core.Path.{◌≡◌, refl, sym, ap, subst}
use mathlib.Core.Bool.{Bool, false, ◌&&◌, ◌||◌}
use mathlib.Core.List.{List, [], ◌∷◌, map}
use Rattle.std.specs.List.{list_any, list_all}
use Rattle.meaning.specs.Sets.{Words}
use Rattle.meaning.specs.Lists.{all, any}
use Rattle.rules.specs.Changes.{Changed, Way}
use Rattle.rules.proofs.MemberLaws.{changed_none, changed_then}

module _ {X Y : Type 0} (test : Y → Bool) (f : X → Y) where
  pub any_in : (xs : List X) → list_any (λ x. test (f x)) xs ≡ any test (map f xs)
  unfolding any
  any_in [] = refl
  any_in (x ∷ xs) = ap (λ (b : Bool). test (f x) || b) (any_in xs)

  pub all_in : (xs : List X) → list_all (λ x. test (f x)) xs ≡ all test (map f xs)
  unfolding all
  all_in [] = refl
  all_in (x ∷ xs) = ap (λ (b : Bool). test (f x) && b) (all_in xs)

-- What those that are left do to the set as it is now, all do to the set as it was.
pub record Walks {X : Type 0} (way : Bool → Bool → Bool) (f : X → ℕ → Bool) (xs left : List X) (ws now_set : Words) : Type 0 where
  pub after : (final : Words) → Changed way (λ q. any (λ x. f x q) left) now_set final → Changed way (λ q. any (λ x. f x q) xs) ws final

pub walks_begin : {X : Type 0} {way : Bool → Bool → Bool} {f : X → ℕ → Bool} {xs left : List X} {ws : Words} → left ≡ xs → Walks way f xs left ws ws
walks_begin {X} {way} {f} {xs} {left} {ws} e = record { after = λ final h. subst (λ (ys : List X). Changed way (λ q. any (λ x. f x q) ys) ws final) e h }

module _ {X : Type 0} {way : Bool → Bool → Bool} (w : Way way) {f : X → ℕ → Bool} {xs left : List X} {ws now_set : Words} (k : Walks way f xs left ws now_set) where
  pub walks_next : {x : X} {behind : List X} → left ≡ x ∷ behind → {next : Words} → Changed way (f x) now_set next → Walks way f xs behind ws next
  unfolding any
  walks_next e y =
      record { after = λ final h. k.after final (subst (λ (ys : List X). Changed way (λ q. any (λ x. f x q) ys) now_set final) (sym e) (changed_then w y h)) }

  pub walks_pass : {x : X} {behind : List X} → left ≡ x ∷ behind → ((q : ℕ) → f x q ≡ false) → Walks way f xs behind ws now_set
  walks_pass e h = walks_next e (changed_none w now_set h)

  pub walks_end : left ≡ [] → Changed way (λ q. any (λ x. f x q) xs) ws now_set
  unfolding any
  walks_end e = k.after now_set (subst (λ (ys : List X). Changed way (λ q. any (λ x. f x q) ys) now_set now_set) (sym e) (changed_none w now_set (λ q. refl)))
