-- What was read can be written and read again: readers whose answer carries its own bytes, many of them, and walks over them.
-- Rests on locality.
use Prim.Native.Nat.{ℕ, zero, suc, ◌+◌, ◌-◌, ◌≤◌, ◌<◌}
use mathlib.Core.Path.{◌≡◌, refl, sym, ap, ap₂, ◌∙◌, subst}
use mathlib.Core.Bool.{Bool, true, false, cond}
use mathlib.Core.List.{List, [], ◌∷◌, ◌++◌, map, flatten, append_assoc}
use mathlib.Core.Option.{none, some, none-ne-some, some-injective}
use native.Mathlib.Omega.{arith}
use lib.ListN.{length, take, drop, length-append}
use lib.Seq.{drop_at}
use Rattle.meaning.specs.Bytes.{Bytes}
use Rattle.meaning.specs.Lists.{keep}
use Rattle.meaning.specs.Readers.{◌>>=◌, Out, Reader, bind, give, many, raw, Walk, stop, next, walk_past, walk}
use Rattle.meaning.proofs.Local.{Local, take_front}

-- ---- what came before a bind

pub record Before {A B : Type 0} (o : Out A) (f : A → Reader B) (b : B) (r : Bytes) : Type 0 where
  pub first : A
  pub rest : Bytes
  pub was : o ≡ some (first, rest)
  pub then_was : f first rest ≡ some (b, r)

pub before : {A B : Type 0} (o : Out A) (f : A → Reader B) (b : B) (r : Bytes) → bind o f ≡ some (b, r) → Before o f b r
before none f b r e = absurd (none-ne-some _ e)
before (some x) f b r e = record { first = x.0; rest = x.1; was = refl; then_was = e }

-- ---- framed readers

module _ {A : Type 0} (p : Reader A) (of : A → Bytes) where
  -- a is read from its own bytes, whatever follows them
  abbrev pub Again : A → Type 0
  Again a = (t : Bytes) → p (of a ++ t) ≡ some (a, t)

  abbrev pub AllAgain : List A → Type 0
  AllAgain [] = Unit {0}
  AllAgain (a ∷ as') = Again a × AllAgain as'

  abbrev pub Framed : Type 0
  Framed = (s : Bytes) (a : A) (r : Bytes) → p s ≡ some (a, r) → (s ≡ of a ++ r) × Again a

-- what a reader reads, with its bytes
pub raw_framed : {A : Type 0} {p : Reader A} → Local p → Framed (raw p) (λ x. x.1)
unfolding raw
raw_framed {A} {p} lp s x r e =
    let b = before (p s) (λ a r. some ((a, take (length s - length r) s), r)) x r e in
    let u = lp s b.first b.rest b.was in
    let q = some-injective _ _ b.then_was in
    let front : take (length s - length b.rest) s ≡ u.part =
    ap (λ (z : Bytes). take (length z - length b.rest) z) u.whole ∙ take_front u.part b.rest in
    let same : (b.first, u.part) ≡ x = ap (λ (z : Bytes). (b.first, z)) (sym front) ∙ ap (λ z. z.0) q in (
      u.whole ∙ ap₂ (λ (y z : Bytes). y ++ z) (ap (λ z. z.1) same) (ap (λ z. z.1) q),
      λ t. subst (λ (z : A × Bytes). bind (p (z.1 ++ t)) (λ a r. some ((a, take (length (z.1 ++ t) - length r) (z.1 ++ t)), r)) ≡ some (z, t)) same
          (rw (u.again t, take_front u.part t)),
    )

-- an answer made of a framed one
pub made_framed : {A B : Type 0} {p : Reader A} {of : A → Bytes} (f : A → B) (of' : B → Bytes) → ((a : A) → of' (f a) ≡ of a)
    → Framed p of → Framed (p >>= (λ a. give (f a))) of'
made_framed {A} {B} {p} {of} f of' h fp s y r e =
    let b = before (p s) (λ a. give (f a)) y r e in
    let q = some-injective _ _ b.then_was in
    let u = fp s b.first b.rest b.was in
    let ey : f b.first ≡ y = ap (λ z. z.0) q in
    let eo : of b.first ≡ of' y = sym (h b.first) ∙ ap of' ey in (
      u.0 ∙ ap₂ (λ (y z : Bytes). y ++ z) eo (ap (λ z. z.1) q),
      λ t. ap (λ (z : Bytes). bind (p (z ++ t)) (λ a. give (f a))) (sym eo) ∙ rw (u.1 t, ey),
    )

-- ---- many

pub record Many {A : Type 0} (p : Reader A) (of : A → Bytes) (n : ℕ) (s : Bytes) (as' : List A) (r : Bytes) : Type 0 where
  pub length_of : length as' ≡ n
  pub whole : s ≡ flatten (map of as') ++ r
  pub again : AllAgain p of as'

module _ {A : Type 0} (p : Reader A) (of : A → Bytes) where
  many_go : (n : ℕ) (s : Bytes) (as' : List A) (r : Bytes)
      → ((s : Bytes) (as' : List A) (r : Bytes) → many n p s ≡ some (as', r) → Many p of n s as' r) → Framed p of
      → bind (p s) (λ a. many n p >>= (λ l. give (a ∷ l))) ≡ some (as', r) → Many p of (suc n) s as' r
  unfolding flatten
  many_go n s as' r ih fp e =
      let b = before (p s) (λ a. many n p >>= (λ l. give (a ∷ l))) as' r e in
      let c = before (many n p b.rest) (λ l. give (b.first ∷ l)) as' r b.then_was in
      let q = some-injective _ _ c.then_was in
      let u = fp s b.first b.rest b.was in
      let v = ih b.rest c.first c.rest c.was in
      subst (λ (z : List A × Bytes). Many p of (suc n) s z.0 z.1) q
      (record {
        length_of = ap suc v.length_of;
        whole = u.0 ∙ ap (λ (z : Bytes). of b.first ++ z) v.whole ∙ sym (append_assoc (of b.first) (flatten (map of c.first)) c.rest);
        again = (u.1, v.again);
      })

  pub many_framed : Framed p of → (n : ℕ) (s : Bytes) (as' : List A) (r : Bytes) → many n p s ≡ some (as', r) → Many p of n s as' r
  unfolding many flatten
  many_framed fp zero s as' r e =
      let q = some-injective _ _ e in
      subst (λ (z : List A × Bytes). Many p of zero s z.0 z.1) q (record { length_of = refl; whole = refl; again = tt })
  many_framed fp (suc n) s as' r e = many_go n s as' r (many_framed fp n) fp e

  pub many_again : (as' : List A) (t : Bytes) → AllAgain p of as' → many (length as') p (flatten (map of as') ++ t) ≡ some (as', t)
  unfolding many flatten
  many_again [] t h = refl
  many_again (a ∷ as') t h =
      rw (append_assoc (of a) (flatten (map of as')) t, h.0 (flatten (map of as') ++ t), many_again as' t h.1)

  pub keep_again : (f : A → Bool) (as' : List A) → AllAgain p of as' → AllAgain p of (keep f as')
  unfolding keep
  keep_again f [] h = tt
  keep_again f (a ∷ as') h = go (f a) (keep_again f as' h.1)
    where
      go : (b : Bool) → AllAgain p of (keep f as') → AllAgain p of (cond b (a ∷ keep f as') (keep f as'))
      go true ih = (h.0, ih)
      go false ih = ih

-- ---- walks

-- A local reader that reads nothing from no bytes takes one byte at least.
pub progress : {A : Type 0} {p : Reader A} → Local p → p [] ≡ none → (s : Bytes) (a : A) (r : Bytes) → p s ≡ some (a, r) → length r < length s
progress {A} {p} lp nil s a r e =
    let u = lp s a r e in
    go u.part (u.again []) (omega (arith, ap length u.whole, length-append u.part r))
  where
    go : (part : Bytes) → p (part ++ []) ≡ some (a, []) → length s ≡ length part + length r → length r < length s
    go [] g l = absurd (none-ne-some _ (sym nil ∙ g))
    go (b ∷ part) g l = omega arith

module _ {A : Type 0} (p : Reader A) where
  past_drop : (k : ℕ) (s : Bytes) → walk_past p k s ≡ walk p (drop k s)
  unfolding walk
  past_drop zero [] = refl
  past_drop (suc k) [] = refl
  past_drop zero (b ∷ s) = refl
  past_drop (suc k) (b ∷ s) = past_drop k s

  pub walk_none : (s : Bytes) → p s ≡ none → walk p s ≡ stop s
  unfolding walk
  walk_none [] e = refl
  walk_none (b ∷ s) e = rw e

-- The found with their bytes and what is left are all, and what is left reads no more.
pub record Walked {A : Type 0} (p : Reader A) (of : A → Bytes) (s : Bytes) (w : Walk A) : Type 0 where
  pub whole : s ≡ flatten (map of w.found) ++ w.left
  pub again : AllAgain p of w.found
  pub ended : p w.left ≡ none

module _ {A : Type 0} {p : Reader A} (lp : Local p) (nil : p [] ≡ none) where
  walk_go : (b : ℕ) (s : Bytes) (a : A) (r : Bytes) → p (b ∷ s) ≡ some (a, r) → (part : Bytes) → b ∷ s ≡ part ++ r → length r < length (b ∷ s)
      → walk p (b ∷ s) ≡ next a (walk p r)
  unfolding walk
  walk_go b s a r e part w l =
      let k : length s - length r ≡ length part - 1 = omega (arith, ap length w, length-append part r) in
      let d : drop (length s - length r) s ≡ r = skip_one part w (omega (arith, ap length w, length-append part r)) in
      rw (e, past_drop p (length s - length r) s, d)
    where
      skip_one : (q : Bytes) → b ∷ s ≡ q ++ r → 0 < length q → drop (length s - length r) s ≡ r
      skip_one [] w' h = absurd (omega arith)
      skip_one (c ∷ q) w' h =
          let t : s ≡ q ++ r = ap (drop 1) w' in
          let n : length q ≡ length s - length r = omega (arith, ap length t, length-append q r) in
          ap (λ (z : Bytes). drop (length s - length r) z) t ∙ drop_at q r (length s - length r) n

  pub walk_some : (s : Bytes) (a : A) (r : Bytes) → p s ≡ some (a, r) → walk p s ≡ next a (walk p r)
  walk_some [] a r e = absurd (none-ne-some _ (sym nil ∙ e))
  walk_some (b ∷ s) a r e = let u = lp (b ∷ s) a r e in walk_go b s a r e u.part u.whole (progress lp nil (b ∷ s) a r e)

  module _ (of : A → Bytes) (fp : Framed p of) where
    walked_turn : (s : Bytes) → ((r : Bytes) → length r < length s → Walked p of r (walk p r)) → (o : Out A) → p s ≡ o → Walked p of s (walk p s)
    unfolding flatten
    walked_turn s ih none e = rw (walk_none p s e) (record { whole = refl; again = tt; ended = e })
    walked_turn s ih (some x) e =
        let u = fp s x.0 x.1 e in
        let v = ih x.1 (progress lp nil s x.0 x.1 e) in
        rw (walk_some s x.0 x.1 e)
        (record {
          whole = u.0 ∙ ap (λ (z : Bytes). of x.0 ++ z) v.whole ∙ sym (append_assoc (of x.0) (flatten (map of (walk p x.1).found)) (walk p x.1).left);
          again = (u.1, v.again);
          ended = v.ended;
        })

    walked_fuel : (f : ℕ) (s : Bytes) → length s ≤ f → Walked p of s (walk p s)
    walked_fuel zero s h = walked_turn s (λ r l. absurd (omega arith)) (p s) refl
    walked_fuel (suc f) s h = walked_turn s (λ r l. walked_fuel f r (omega arith)) (p s) refl

    pub walked : (s : Bytes) → Walked p of s (walk p s)
    walked s = walked_fuel (length s) s (omega arith)

  pub walk_again : (of : A → Bytes) (as' : List A) (left : Bytes) → AllAgain p of as' → p left ≡ none
      → walk p (flatten (map of as') ++ left) ≡ record { found = as'; left = left }
  unfolding flatten
  walk_again of [] left h e = walk_none p left e
  walk_again of (a ∷ as') left h e =
      rw (
        append_assoc (of a) (flatten (map of as')) left,
        walk_some (of a ++ (flatten (map of as') ++ left)) a (flatten (map of as') ++ left) (h.0 (flatten (map of as') ++ left)),
        walk_again of as' left h.1 e,
      )
