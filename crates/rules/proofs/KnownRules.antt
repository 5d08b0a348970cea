-- From the arrays to what is known: what `Keeps` says of packages, lists and rooms, and that the set worked out step by step is the
-- one that the rules drop. Rests on Kept of `learning` and on the laws above.
use Prim.Native.Nat.{ℕ}
use mathlib.Core.Path.{◌≡◌, refl, sym, ap, ap₂, ◌∙◌}
use mathlib.Core.Bool.{Bool, true, false, not, ◌&&◌, ◌||◌}
use mathlib.Core.List.{List, [], ◌∷◌}
use native.Mathlib.Omega.{arith}
use lib.Dec.{eqb}
use borrow.Author.Tests.{eqb-true, eqb-false, eq-eqb, ne_eqb}
use Rattle.meaning.specs.Sets.{Words, in_set, how_many}
use Rattle.meaning.specs.Lists.{all, any, is_some}
use Rattle.meaning.specs.Learn.{Listed, Known, lists, lists_in}
use Rattle.meaning.specs.Rules.{list_of, kept_by, dropped_by, in_drop_set, drops, dropped, needs_met, ready}
use Rattle.meaning.specs.declared.Options.{Options}
use Rattle.meaning.specs.declared.Service.{Service}
use Rattle.meaning.specs.declared.Service.TheVariants.{Every, Only}
use Rattle.meaning.proofs.ListLaws.{any_same}
use Rattle.meaning.proofs.SetLaws.{many_same}
use Rattle.learning.specs.Kept.{pairs_in, Keeps}
use Rattle.learning.proofs.PairLaws.{pairs_in_lem, pairs_length}
use Rattle.learning.specs.declared.Extent.{Extent}
use Rattle.rules.specs.Changes.{SetIs, Changed, comes, goes, Inserts, Removes, picked_by, Packages, MapHeads, MapLists, lists_at, has_list}
use Rattle.rules.proofs.MemberLaws.{changed_same}
use Rattle.rules.proofs.PackageRules.{dropped_is, kept_is}
use Rattle.rules.proofs.ReadyRules.{has_list_lem}

-- ---- Bool

eqb_swap : (a b : ℕ) → eqb a b ≡ eqb b a
eqb_swap a b = go (eqb a b) refl
  where
    go : (t : Bool) → eqb a b ≡ t → t ≡ eqb b a
    go true e = sym (eq-eqb b a (sym (eqb-true a b e)))
    go false e = sym (ne_eqb b a (λ z. eqb-false a b e (sym z)))

arrange : (first dropped kept zero : Bool) → (((first || dropped) && not kept) && not zero) ≡ ((not zero && (dropped || first)) && not kept)
arrange true true true true = refl
arrange true true true false = refl
arrange true true false true = refl
arrange true true false false = refl
arrange true false true true = refl
arrange true false true false = refl
arrange true false false true = refl
arrange true false false false = refl
arrange false true true true = refl
arrange false true true false = refl
arrange false true false true = refl
arrange false true false false = refl
arrange false false true true = refl
arrange false false true false = refl
arrange false false false true = refl
arrange false false false false = refl

or_swap : (a b : Bool) → (a || b) ≡ (b || a)
or_swap true true = refl
or_swap true false = refl
or_swap false true = refl
or_swap false false = refl

all_same : {A : Type 0} (p q : A → Bool) → ((x : A) → p x ≡ q x) → (xs : List A) → all p xs ≡ all q xs
unfolding all
all_same p q h [] = refl
all_same p q h (x ∷ xs) = rw (h x, all_same p q h xs)

module _ {k : Known} {e : Extent} {data_set packages map_heads map_room : List ℕ} (h : Keeps k e data_set packages map_heads map_room) where
  packages_are : pairs_in e.package_count packages ≡ k.packages
  packages_are = pairs_in_lem h.packages_kept.pairs

  map_heads_are : pairs_in e.map_count map_heads ≡ k.map_heads
  map_heads_are = pairs_in_lem h.maps_kept.pairs

  lists_are : lists_at e.map_count map_heads map_room ≡ lists k
  unfolding lists
  lists_are = ap₂ (λ (ms : List (ℕ × ℕ)) (r : List ℕ). lists_in ms r) map_heads_are h.map_room_is

  pub packages_there : Packages e.package_count packages
  packages_there = record { few = omega (arith, h.packages_kept.pairs.count, h.packages_kept.pairs.few); slots_all = pairs_length h.packages_kept.pairs }

  pub map_heads_there : MapHeads e.map_count map_heads
  map_heads_there = record { few = omega (arith, h.maps_kept.pairs.count, h.maps_kept.pairs.few); slots_all = pairs_length h.maps_kept.pairs }

  pub map_lists_there : MapLists e.map_count map_heads map_room
  map_lists_there = record { heads = map_heads_there; small = rw map_heads_are h.maps_kept.hold.small; map_room_all = h.map_room_all }

  -- ---- the set

  module _ (o : Options) where
    abbrev by_dropped : ℕ → Bool
    by_dropped q = any (dropped_by o (lists_at e.map_count map_heads map_room) q) (pairs_in e.package_count packages)

    abbrev by_kept : ℕ → Bool
    by_kept q = any (kept_by o (lists_at e.map_count map_heads map_room) q) (pairs_in e.package_count packages)

    module _ {a b : Words} where
      pub all_dropped : Changed comes (λ q. any (picked_by not o (lists_at e.map_count map_heads map_room) q) (pairs_in e.package_count packages)) a b → Inserts by_dropped a b
      all_dropped x = changed_same (λ q. any_same _ _ (dropped_is o (lists_at e.map_count map_heads map_room) q) (pairs_in e.package_count packages)) x

      pub all_kept : Changed goes (λ q. any (picked_by (λ stays. stays) o (lists_at e.map_count map_heads map_room) q) (pairs_in e.package_count packages)) a b → Removes by_kept a b
      all_kept x = changed_same (λ q. any_same _ _ (kept_is o (lists_at e.map_count map_heads map_room) q) (pairs_in e.package_count packages)) x

    -- first the data set, then what is dropped, then what is kept taken out, then identifier 0
    pub decided : {a b c d : Words} → SetIs (λ q. not o.carousel && in_set data_set q) a → Inserts by_dropped a b → Removes by_kept b c → Removes (eqb 0) c d
        → SetIs (in_drop_set o k) d
    unfolding in_drop_set
    decided u v w z =
        record {
          all_words = z.as_long ∙ w.as_long ∙ v.as_long ∙ u.all_words;
          member = λ q l.
              z.member q l
              ∙ ap (λ (t : Bool). t && not (eqb 0 q)) (w.member q l ∙ ap (λ (t : Bool). t && not (by_kept q)) (v.member q l ∙ ap (λ (t : Bool). t || by_dropped q) (u.member q l)))
              ∙ arrange (not o.carousel && in_set data_set q) (by_dropped q) (by_kept q) (eqb 0 q)
              ∙ rw (eqb_swap 0 q, lists_are, packages_are, h.data_set_is);
        }

    pub eit_kept : {d : Words} → o.eit ≡ true → SetIs (in_drop_set o k) d → SetIs (drops o k) d
    unfolding drops
    eit_kept i s = record { all_words = s.all_words; member = λ q l. s.member q l ∙ rw i }

    pub eit_dropped : {d d' : Words} → o.eit ≡ false → SetIs (in_drop_set o k) d → Inserts (eqb 0x8000) d d' → SetIs (drops o k) d'
    unfolding drops
    eit_dropped i s t =
        record {
          all_words = t.as_long ∙ s.all_words;
          member = λ q l.
              t.member q l ∙ ap (λ (b : Bool). b || eqb 0x8000 q) (s.member q l) ∙ or_swap (in_drop_set o k q) (eqb 0x8000 q)
              ∙ rw (i, eqb_swap 0x8000 q);
        }

    pub counted : {d : Words} → SetIs (drops o k) d → how_many (in_set d) 65536 ≡ dropped o k
    unfolding dropped
    counted {d} s = many_same (in_set d) (drops o k) 65536 s.member

  -- ---- ready

  has_list_same : (x : ℕ × ℕ) → has_list e.map_count map_heads x ≡ is_some (list_of x.1 (lists k))
  has_list_same x = has_list_lem e.map_count map_heads map_room x (omega (arith, map_heads_there.few, map_heads_there.slots_all)) ∙ ap (λ (ls : List (ℕ × Listed)). is_some (list_of x.1 ls)) lists_are

  pub not_seen : (s : Service) → e.seen ≡ false → false ≡ ready s k
  unfolding ready
  not_seen s f = rw (← h.seen, f)

  seen_then : (s : Service) → e.seen ≡ true → needs_met s k.packages (lists k) ≡ ready s k
  unfolding ready
  seen_then s t = rw (← h.seen, t)

  pub all_ready : e.seen ≡ true → all (has_list e.map_count map_heads) (pairs_in e.package_count packages) ≡ ready Every k
  all_ready t = rw packages_are (all_same (has_list e.map_count map_heads) (λ x. is_some (list_of x.1 (lists k))) has_list_same k.packages) ∙ seen_then Every t

  pub service_ready : (s : ℕ) → e.seen ≡ true → any (λ x. eqb x.0 s && has_list e.map_count map_heads x) (pairs_in e.package_count packages) ≡ ready (Only s) k
  service_ready s t =
      rw packages_are (any_same (λ x. eqb x.0 s && has_list e.map_count map_heads x) (λ x. eqb x.0 s && is_some (list_of x.1 (lists k)))
      (λ x. ap (λ (b : Bool). eqb x.0 s && b) (has_list_same x)) k.packages) ∙ seen_then (Only s) t
