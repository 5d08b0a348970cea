-- How fragments stand in their room: what is read out of every room, whatever its bytes and whatever number leads, and that the room holds
-- just that. Rests on the definitions alone.
use Prim.Native.Nat.{ℕ, zero, suc, ◌+◌, ◌-◌, ◌≤◌, ◌<◌}
use mathlib.Core.Path.{◌≡◌, refl, sym, ap, ap₂, ◌∙◌}
use mathlib.Core.Bool.{Bool, true, false}
use mathlib.Core.List.{List, [], ◌∷◌, ◌++◌, map, map-append, flatten, append_assoc, append-nil}
use native.Mathlib.Omega.{arith}
use lib.ListN.{length, take, drop, length-append, length-drop, take-append-drop, drop_of_length-le}
use lib.Seq.{take_at, drop_at, take_all, take-add, drop-drop, length-take-le}
use lib.Dec.{leb}
use borrow.Author.Tests.{leb-true, leb-false}
use Rattle.meaning.specs.Bytes.{Bytes}
use Rattle.meaning.specs.Lists.{sum}
use Rattle.meaning.specs.Learn.{Fragment, fragment_bytes}
use Rattle.meaning.specs.Record.{fragment_head, fragment_identifier, fragment_flags, fragment_length, bodies_of, room_of, lens, packed_in, fragments_in}
use Rattle.meaning.specs.Soundness.{identifiers, SmallFlags}

-- ---- bodies

pub bodies_append : (xs ys : List Fragment) → bodies_of (xs ++ ys) ≡ bodies_of xs ++ bodies_of ys
unfolding bodies_of flatten
bodies_append [] ys = refl
bodies_append (f ∷ xs) ys = ap (λ (s : Bytes). f.body ++ s) (bodies_append xs ys) ∙ sym (append_assoc f.body (bodies_of xs) (bodies_of ys))

pub bodies_next : (f : Fragment) (fs : List Fragment) → bodies_of (f ∷ fs) ≡ f.body ++ bodies_of fs
unfolding bodies_of flatten
bodies_next f fs = refl

pub bodies_one : (f : Fragment) → bodies_of (f ∷ []) ≡ f.body
unfolding bodies_of flatten
bodies_one f = append-nil f.body

pub bodies_none : bodies_of [] ≡ []
unfolding bodies_of flatten
bodies_none = refl

pub bytes_of_lem : (fs : List Fragment) → fragment_bytes fs ≡ length (bodies_of fs)
unfolding fragment_bytes sum bodies_of flatten
bytes_of_lem [] = refl
bytes_of_lem (f ∷ fs) = omega (arith, bytes_of_lem fs, length-append f.body (bodies_of fs))

pub room_size : (leading : ℕ) (fs : List Fragment) (free : Bytes) → length (room_of leading fs free) ≡ fragment_bytes fs + length free
unfolding room_of
room_size leading fs free =
    let a : Bytes = bodies_of (take leading fs) in
    let b : Bytes = bodies_of (drop leading fs) in
    let whole : length (bodies_of fs) ≡ length a + length b = ap (λ (l : List Fragment). length (bodies_of l)) (sym (take-append-drop leading fs)) ∙ ap length (bodies_append (take leading fs) (drop leading fs)) ∙ length-append a b in
    omega (arith, bytes_of_lem fs, whole, length-append a (free ++ b), length-append free b)

-- Where nothing is held all is free.
pub room_none : (bodies : Bytes) → room_of 0 [] bodies ≡ bodies
unfolding room_of bodies_of flatten
room_none bodies = append-nil bodies

-- ---- the first few of a list, and the others

module _ {A : Type 0} (i j : ℕ) (l : List A) (h : i ≤ j) where
  pub longer_take : take j l ≡ take i l ++ take (j - i) (drop i l)
  longer_take = ap (λ (k : ℕ). take k l) (let z : j ≡ i + (j - i) = omega arith in z) ∙ take-add i (j - i) l

  pub shorter_drop : drop i l ≡ take (j - i) (drop i l) ++ drop j l
  shorter_drop =
      sym (take-append-drop (j - i) (drop i l)) ∙ ap (λ (z : List A). take (j - i) (drop i l) ++ z)
      (drop-drop (j - i) i l ∙ ap (λ (k : ℕ). drop k l) (let z : i + (j - i) ≡ j = omega arith in z))

module _ {A B : Type 0} (f : A → B) where
  pub take_map : (i : ℕ) (l : List A) → take i (map f l) ≡ map f (take i l)
  take_map zero l = refl
  take_map (suc i) [] = refl
  take_map (suc i) (x ∷ l) = ap (λ (z : List B). f x ∷ z) (take_map i l)

  pub drop_map : (i : ℕ) (l : List A) → drop i (map f l) ≡ map f (drop i l)
  drop_map zero l = refl
  drop_map (suc i) [] = refl
  drop_map (suc i) (x ∷ l) = drop_map i l

pub lens_append : (a b : List ℕ) → lens (a ++ b) ≡ lens a + lens b
unfolding lens sum
lens_append [] b = omega arith
lens_append (h ∷ a) b = omega (arith, lens_append a b)

pub lens_parts : (i : ℕ) (hs : List ℕ) → lens hs ≡ lens (take i hs) + lens (drop i hs)
lens_parts i hs = ap lens (sym (take-append-drop i hs)) ∙ lens_append (take i hs) (drop i hs)

-- ---- bodies that stand one after the other, read out

packed_none : (bodies : Bytes) → packed_in [] bodies ≡ []
unfolding packed_in
packed_none bodies = refl

packed_identifiers : (hs : List ℕ) (bodies : Bytes) → identifiers (packed_in hs bodies) ≡ map fragment_identifier hs
unfolding packed_in
packed_identifiers [] bodies = refl
packed_identifiers (h ∷ hs) bodies = ap (λ (l : List ℕ). fragment_identifier h ∷ l) (packed_identifiers hs (drop (fragment_length h) bodies))

packed_flags : (hs : List ℕ) (bodies : Bytes) → SmallFlags (packed_in hs bodies)
unfolding packed_in fragment_flags
packed_flags [] bodies = tt
packed_flags (h ∷ hs) bodies = (omega arith, packed_flags hs (drop (fragment_length h) bodies))

packed_length : (hs : List ℕ) (bodies : Bytes) → length (packed_in hs bodies) ≡ length hs
unfolding packed_in
packed_length [] bodies = refl
packed_length (h ∷ hs) bodies = ap suc (packed_length hs (drop (fragment_length h) bodies))

pub packed_bodies : (hs : List ℕ) (bodies : Bytes) → bodies_of (packed_in hs bodies) ≡ take (lens hs) bodies
unfolding packed_in bodies_of flatten lens sum
packed_bodies [] bodies = refl
packed_bodies (h ∷ hs) bodies =
    ap (λ (s : Bytes). take (fragment_length h) bodies ++ s) (packed_bodies hs (drop (fragment_length h) bodies)) ∙ sym (take-add (fragment_length h) (lens hs) bodies)

head_again : (h : ℕ) (body : Bytes) → length body ≡ fragment_length h → fragment_head (record { identifier = fragment_identifier h; flags = fragment_flags h; body = body }) ≡ h
unfolding fragment_head fragment_identifier fragment_flags fragment_length
head_again h body e = omega arith

packed_heads : (hs : List ℕ) (bodies : Bytes) → lens hs ≤ length bodies → map fragment_head (packed_in hs bodies) ≡ hs
unfolding packed_in lens sum
packed_heads [] bodies w = refl
packed_heads (h ∷ hs) bodies w =
    let n = fragment_length h in
    ap₂ (λ (x : ℕ) (ys : List ℕ). x ∷ ys) (head_again h (take n bodies) (length-take-le n bodies (omega arith)))
    (packed_heads hs (drop n bodies) (omega (arith, length-drop n bodies)))

flags_append : (xs ys : List Fragment) → SmallFlags xs → SmallFlags ys → SmallFlags (xs ++ ys)
flags_append [] ys a b = b
flags_append (x ∷ xs) ys a b = (a.0, flags_append xs ys a.1 b)

-- ---- those that lead, and the others

module _ (leading : ℕ) (hs : List ℕ) (bodies : Bytes) where
  abbrev start : ℕ
  start = length bodies - lens (drop leading hs)

  abbrev xs : List Fragment
  xs = packed_in (take leading hs) bodies

  abbrev ys : List Fragment
  ys = packed_in (drop leading hs) (drop start bodies)

  pub identifiers_in : identifiers (fragments_in leading hs bodies) ≡ map fragment_identifier hs
  unfolding fragments_in
  identifiers_in =
      map-append (λ (f : Fragment). f.identifier) xs ys
      ∙ ap₂ (λ (s t : List ℕ). s ++ t) (packed_identifiers (take leading hs) bodies) (packed_identifiers (drop leading hs) (drop start bodies))
      ∙ sym (map-append fragment_identifier (take leading hs) (drop leading hs)) ∙ ap (map fragment_identifier) (take-append-drop leading hs)

  pub flags_in : SmallFlags (fragments_in leading hs bodies)
  unfolding fragments_in
  flags_in = flags_append xs ys (packed_flags (take leading hs) bodies) (packed_flags (drop leading hs) (drop start bodies))

  length_xs : length xs ≡ length (take leading hs)
  length_xs = packed_length (take leading hs) bodies

  pub length_in : length (fragments_in leading hs bodies) ≡ length hs
  unfolding fragments_in
  length_in =
      length-append xs ys ∙ ap₂ (λ (a b : ℕ). a + b) length_xs (packed_length (drop leading hs) (drop start bodies))
      ∙ sym (length-append (take leading hs) (drop leading hs)) ∙ ap length (take-append-drop leading hs)

  -- the first so many of them are those that lead
  pub apart : (take leading (xs ++ ys) ≡ xs) × (drop leading (xs ++ ys) ≡ ys)
  apart = go (leb leading (length hs)) refl
    where
      go : (a : Bool) → leb leading (length hs) ≡ a → (take leading (xs ++ ys) ≡ xs) × (drop leading (xs ++ ys) ≡ ys)
      go true e =
          let l : length xs ≡ leading = length_xs ∙ length-take-le leading hs (leb-true leading (length hs) e) in
          (take_at xs ys leading l, drop_at xs ys leading l)
      go false e =
          let h : length hs ≤ leading = (let z : length hs < leading = leb-false leading (length hs) e in omega arith) in
          let y : ys ≡ [] = ap (λ (l : List ℕ). packed_in l (drop start bodies)) (drop_of_length-le hs h) ∙ packed_none (drop start bodies) in
          let w : xs ++ ys ≡ xs = ap (λ (l : List Fragment). xs ++ l) y ∙ append-nil xs in
          let l : length xs ≤ leading = omega (arith, length_xs, ap length (take_all leading hs h)) in
          (ap (take leading) w ∙ take_all leading xs l, ap (drop leading) w ∙ drop_of_length-le xs l ∙ sym y)

  -- ---- where the lengths fit in the room, it holds what is read out of it

  module _ (within : lens hs ≤ length bodies) where
    back_length : length (drop start bodies) ≡ lens (drop leading hs)
    back_length = omega (arith, lens_parts leading hs, length-drop start bodies)

    pub heads_in_lem : map fragment_head (fragments_in leading hs bodies) ≡ hs
    unfolding fragments_in
    heads_in_lem =
        map-append fragment_head xs ys
        ∙ ap₂ (λ (a b : List ℕ). a ++ b) (packed_heads (take leading hs) bodies (omega (arith, lens_parts leading hs)))
        (packed_heads (drop leading hs) (drop start bodies) (omega (arith, back_length)))
        ∙ take-append-drop leading hs

    abbrev pub free_in : Bytes
    free_in = take (start - lens (take leading hs)) (drop (lens (take leading hs)) bodies)

    bodies_xs : bodies_of xs ≡ take (lens (take leading hs)) bodies
    bodies_xs = packed_bodies (take leading hs) bodies

    bodies_ys : bodies_of ys ≡ drop start bodies
    bodies_ys = packed_bodies (drop leading hs) (drop start bodies) ∙ take_all (lens (drop leading hs)) (drop start bodies) (omega (arith, back_length))

    pub room_in : bodies ≡ room_of leading (fragments_in leading hs bodies) free_in
    unfolding room_of fragments_in
    room_in =
        let a : ℕ = lens (take leading hs) in
        sym (take-append-drop start bodies) ∙ ap (λ (s : Bytes). s ++ drop start bodies) (longer_take a start bodies (omega (arith, lens_parts leading hs)))
        ∙ append_assoc (take a bodies) free_in (drop start bodies) ∙ ap₂ (λ (s t : Bytes). s ++ (free_in ++ t)) (sym bodies_xs) (sym bodies_ys)
        ∙ ap₂ (λ (s t : List Fragment). bodies_of s ++ (free_in ++ bodies_of t)) (sym apart.0) (sym apart.1)

    pub bytes_in : fragment_bytes (fragments_in leading hs bodies) ≡ lens hs
    unfolding fragments_in
    bytes_in =
        bytes_of_lem (xs ++ ys) ∙ ap length (bodies_append xs ys ∙ ap₂ (λ (s t : Bytes). s ++ t) bodies_xs bodies_ys) ∙ length-append (take (lens (take leading hs)) bodies) (drop start bodies)
        ∙ (let z : length (take (lens (take leading hs)) bodies) + length (drop start bodies) ≡ lens hs =
        omega (arith, lens_parts leading hs, back_length, length-take-le (lens (take leading hs)) bodies (omega (arith, lens_parts leading hs))) in z)
