-- What a table brings: whether it changes what is known, as 000's `changed`, and what stands in it.
use Rattle.std.specs.Prelude.{ℕ, zero, suc, ◌*◌, Bool, true, false, not, ◌&&◌, ◌||◌, List, [], ◌∷◌, length, take, drop, ltb, eqb}
use Rattle.std.proofs.Math.Option.{Option, none, some}
use Rattle.meaning.specs.Readers.{Out}
use Rattle.meaning.specs.Tables.{Entry, Package}
use Rattle.meaning.specs.Learn.{Listed, asset_numbers, place_for, listed, packages_in}
use Rattle.meaning.specs.declared.Part.{Part}
use Rattle.learning.specs.declared.News.{News}

-- ---- one news after the other

abbrev pub no_news : News
no_news = record { changed = false; caption = false; carousel = false; other = false; unlisted = false }

abbrev pub also : News → News → News
also a b = record {
  changed = a.changed || b.changed;
  caption = a.caption || b.caption;
  carousel = a.carousel || b.carousel;
  other = a.other || b.other;
  unlisted = a.unlisted || b.unlisted;
}

-- Whether what is known changed.
abbrev pub change_news : Bool → News
change_news b = record { changed = b; caption = false; carousel = false; other = false; unlisted = false }

-- An asset of this kind stands there.
abbrev pub kind_news : Part → News
kind_news Part.Caption = record { changed = false; caption = true; carousel = false; other = false; unlisted = false }
kind_news Part.Carousel = record { changed = false; caption = false; carousel = true; other = false; unlisted = false }
kind_news Part.Other = record { changed = false; caption = false; carousel = false; other = true; unlisted = false }

-- A package that is not listed stands there.
abbrev pub unlisted_news : Bool → News
unlisted_news b = record { changed = false; caption = false; carousel = false; other = false; unlisted = b }

-- The kinds of these entries stand there, whether they have an identifier or not.
unfoldable pub kinds_in : List Entry → News
kinds_in [] = no_news
kinds_in (e ∷ es) = also (kind_news e.part) (kinds_in es)

-- ---- the packages of a PLT

-- Whether not all are listed: one has no service or no type 0 location, or a service comes twice.
unfoldable pub unlisted : List Package → Bool
unfolding packages_in
unlisted xs = not (eqb (length (packages_in xs [])) (length xs))

unfoldable pub lists_service : ℕ → List (ℕ × ℕ) → Bool
lists_service s [] = false
lists_service s (p ∷ ps) = eqb p.0 s || lists_service s ps

-- ---- what is new

unfoldable pub same_numbers : List ℕ → List ℕ → Bool
same_numbers [] [] = true
same_numbers [] (b ∷ bs) = false
same_numbers (a ∷ as') [] = false
same_numbers (a ∷ as') (b ∷ bs) = eqb a b && same_numbers as' bs

unfoldable pub same_pairs : List (ℕ × ℕ) → List (ℕ × ℕ) → Bool
same_pairs [] [] = true
same_pairs [] (b ∷ bs) = false
same_pairs (a ∷ as') [] = false
same_pairs (a ∷ as') (b ∷ bs) = (eqb a.0 b.0 && eqb a.1 b.1) && same_pairs as' bs

-- A first PLT, or other packages.
abbrev pub packages_new : Out (List Package) → Bool → List (ℕ × ℕ) → Bool
packages_new none seen ps = false
packages_new (some (xs, more)) seen ps = not (seen && same_pairs ps (packages_in xs []))

-- What a PLT brings.
abbrev pub plt_news : Out (List Package) → Bool → List (ℕ × ℕ) → News
plt_news none seen ps = no_news
plt_news (some (xs, more)) seen ps = also (change_news (packages_new (some (xs, more)) seen ps)) (unlisted_news (unlisted xs))

-- The count of the list at a place, and the first numbers there.
unfoldable pub count_at : ℕ → List (ℕ × ℕ) → Option ℕ
count_at i [] = none
count_at zero (m ∷ ms) = some m.1
count_at (suc i) (m ∷ ms) = count_at i ms

abbrev pub same_list : Option ℕ → Listed → List ℕ → Bool
same_list none as' ns = false
same_list (some n) as' ns = eqb n (length as') && same_numbers (take (2 * length as') ns) (asset_numbers as')

-- A list for a new identifier, or another one; not one that is lost.
unfoldable pub list_new : ℕ → Listed → List (ℕ × ℕ) → List ℕ → Bool
unfolding same_numbers place_for count_at asset_numbers
list_new p as' ms map_room =
    let i = place_for p ms in
    ltb i 64 && not (same_list (count_at i ms) as' (drop (512 * i) map_room))

-- What an MPT with these entries brings.
abbrev pub list_news : ℕ → List Entry → List (ℕ × ℕ) → List ℕ → News
list_news p es ms map_room = also (change_news (list_new p (listed es) ms map_room)) (kinds_in es)
