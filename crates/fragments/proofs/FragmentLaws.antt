-- Where an identifier's fragment stands among fragments and among their heads, what is left without it and with it grown, and the sum of
-- the lengths in heads. Rests on specs/Fragments and on what Learn says of fragments.
use Prim.Native.Nat.{ℕ, suc, ◌+◌, ◌-◌, ◌≤◌, ◌<◌}
use mathlib.Core.Path.{◌≡◌, refl, sym, ap, ap₂, ◌∙◌, subst}
use mathlib.Core.Bool.{Bool, true, false, cond, not}
use mathlib.Core.List.{List, [], ◌∷◌, ◌++◌, map, append_assoc, append-nil}
use mathlib.Core.Option.{none, some}
use Rattle.std.specs.declared.option.Option.{Option}
use native.Mathlib.Nat.{add-zero}
use native.Mathlib.Numerals.{add-one}
use native.Mathlib.Omega.{arith}
use lib.ListN.{length, take, drop, get_or, length-append, length-take, drop_of_length-le}
use lib.Seq.{length-take-le, take_at, drop_at, take_all, take-suc, take-add, take-take, drop-cons}
use lib.Dec.{eqb, ltb}
use borrow.Author.Tests.{eqb-true, eq-eqb, not-true, ltb-true, ltb-false, lt-ltb, le-ltb}
use Rattle.meaning.specs.Bytes.{Bytes}
use Rattle.meaning.specs.Lists.{keep, any, sum}
use Rattle.meaning.specs.Learn.{Fragment, is_of, without, fragment_of, grown, grow_in}
use Rattle.meaning.specs.Record.{fragment_head, fragment_identifier, fragment_length, lens}
use Rattle.meaning.specs.Leading.{index_of, has_fragment, leading_after}
use Rattle.meaning.specs.Soundness.{distinct, identifiers}
use Rattle.meaning.proofs.ListLaws.{and_both, or_neither}
use Rattle.meaning.proofs.SoundnessKept.{eqb_swap}
use Rattle.meaning.proofs.LayoutLaws.{lens_append}
use Rattle.meaning.proofs.SoundnessLaws.{TellAll}
use Rattle.fragments.specs.Fragments.{index_in, others_of, length_at}
use Rattle.std.specs.Prelude.{nat_lt, unwrap_or, IfSome, Some, None, ◌==◌}
use Rattle.std.specs.List.{sum_by, position, position_or_len}
use Rattle.std.proofs.lemmas.List.Sums.{prefix_len-le-length}
use Rattle.std.proofs.lemmas.Bool.Decides.{nat_tests}
use Rattle.std.proofs.lemmas.List.Recursion.{is_sum_by, is_position_or_len}

-- ---- the sum of the lengths

lens_none : lens [] ≡ 0
unfolding lens sum
lens_none = refl

lens_one : (x : ℕ) → lens (x ∷ []) ≡ fragment_length x
unfolding lens sum
lens_one x = add-zero (fragment_length x)

pub lens_sum : (hs : List ℕ) → lens hs ≡ sum_by fragment_length hs
unfolding lens sum
lens_sum hs = is_sum_by lens fragment_length refl (λ _ _. refl) hs

module _ (hs : List ℕ) where
  pub lens_turn : (i : ℕ) → i < length hs → lens (take (i + 1) hs) ≡ lens (take i hs) + fragment_length (get_or hs i 0)
  lens_turn i h =
      ap (λ (k : ℕ). lens (take k hs)) (add-one i) ∙ ap lens (take-suc hs i 0 h) ∙ lens_append (take i hs) (get_or hs i 0 ∷ [])
      ∙ ap (λ (k : ℕ). lens (take i hs) + k) (lens_one (get_or hs i 0))

  pub lens_less : (i j : ℕ) → i ≤ j → lens (take i hs) ≤ lens (take j hs)
  lens_less i j h =
      let z : j ≡ i + (j - i) = omega arith in
      let e : lens (take j hs) ≡ lens (take i hs) + lens (take (j - i) (drop i hs)) =
      ap (λ (m : ℕ). lens (take m hs)) z ∙ ap lens (take-add i (j - i) hs) ∙ lens_append (take i hs) (take (j - i) (drop i hs)) in
      omega (arith, e)

  -- the length in the head at an index, if there is one
  pub own_at : (index : ℕ) → index < length hs → lens (take 1 (drop index hs)) ≡ fragment_length (get_or hs index 0)
  own_at index h = ap (λ (l : List ℕ). lens (take 1 l)) (drop-cons hs index 0 h) ∙ lens_one (get_or hs index 0)

  pub own_past : (index : ℕ) → length hs ≤ index → lens (take 1 (drop index hs)) ≡ 0
  own_past index h = ap (λ (l : List ℕ). lens (take 1 l)) (drop_of_length-le hs h) ∙ lens_none

  pub own_turn : (index n : ℕ) → index + 1 ≤ n → lens (take index hs) + length_at index n hs ≡ lens (take (index + 1) hs)
  unfolding length_at
  own_turn index n h =
      ap (λ (l : List ℕ). lens l + lens (take 1 (drop index (take n hs)))) (sym (take-take index n hs (omega arith)))
      ∙ sym (lens_append (take index (take n hs)) (take 1 (drop index (take n hs)))) ∙ ap lens (sym (take-add index 1 (take n hs)) ∙ take-take (index + 1) n hs h)

  pub own_none : (index n : ℕ) → n ≤ index → length_at index n hs ≡ 0
  unfolding length_at
  own_none index n h =
      ap (λ (l : List ℕ). lens (take 1 l)) (drop_of_length-le (take n hs) (let z : length (take n hs) ≤ index = omega (arith, length-take n hs) in z)) ∙ lens_none

  pub own_ends : (index n : ℕ) → index ≤ n → lens (take index hs) + length_at index n hs ≤ lens (take n hs)
  own_ends index n h = go (ltb index n) refl
    where
      go : (a : Bool) → ltb index n ≡ a → lens (take index hs) + length_at index n hs ≤ lens (take n hs)
      go true e = omega (arith, own_turn index n (let z : index < n = ltb-true index n e in omega arith), lens_less (index + 1) n (let z : index < n = ltb-true index n e in omega arith))
      go false e = omega (arith, own_none index n (ltb-false index n e), lens_less index n h)

-- ---- an identifier among heads

index_in_is : (p : ℕ) (hs : List ℕ) → index_in p hs ≡ position_or_len (λ (h : ℕ). eqb (fragment_identifier h) p) hs
unfolding index_in
index_in_is p hs =
    is_position_or_len (index_in p) (λ (h : ℕ). eqb (fragment_identifier h) p) refl
    (λ x xs. ap (cond (eqb (fragment_identifier x) p) 0) (let z : suc (index_in p xs) ≡ 1 + index_in p xs = omega arith in z)) hs

-- what looking for it answers
pub found_at : (p : ℕ) (fragment_heads : List ℕ) (n : ℕ) → n ≤ length fragment_heads → (o : Option ℕ)
    → o ≡ position (λ (h : ℕ). fragment_identifier h == p) (take n fragment_heads) → (unwrap_or o n ≡ index_in p (take n fragment_heads)) × IfSome o (λ i. i < n)
found_at p fragment_heads n le o e = rw e (go (nat_lt k (length hs)) refl)
  where
    hs : List ℕ
    hs = take n fragment_heads

    k : ℕ
    k = position_or_len (λ (h : ℕ). fragment_identifier h == p) hs

    l : length hs ≡ n
    l = length-take-le n fragment_heads le

    go : (a : Bool) → nat_lt k (length hs) ≡ a → (unwrap_or (cond a (Some k) None) n ≡ index_in p hs) × IfSome (cond a (Some k) None) (λ i. i < n)
    go true q = (sym (index_in_is p hs), grind (arith, nat_tests, q, l))
    go false q = (grind (arith, nat_tests, q, l, index_in_is, prefix_len-le-length), tt)

pub index_fragment_heads : (p : ℕ) (fs : List Fragment) → TellAll fs → index_in p (map fragment_head fs) ≡ index_of p fs
unfolding index_in index_of is_of
index_fragment_heads p [] h = refl
index_fragment_heads p (f ∷ fs) h = ap₂ (λ (x y : ℕ). cond (eqb x p) 0 (suc y)) h.0.identifier_is (index_fragment_heads p fs h.1)

-- ---- a fragment, those before it and those behind it

pub record Spot (p : ℕ) (fs : List Fragment) : Type 0 where
  pub before : List Fragment
  pub fragment : Fragment
  pub behind : List Fragment
  pub whole : fs ≡ before ++ (fragment ∷ behind)
  pub index : length before ≡ index_of p fs
  pub found : fragment_of p fs ≡ some fragment
  pub rest : without p fs ≡ before ++ behind
  pub grows : (b : Bytes) → grow_in p b fs ≡ before ++ (grown fragment b ∷ behind)

none_of : (p : ℕ) (fs : List Fragment) → any (eqb p) (identifiers fs) ≡ false → without p fs ≡ fs
unfolding any without keep is_of
none_of p [] e = refl
none_of p (f ∷ fs) e =
    let h = or_neither (eqb p f.identifier) (any (eqb p) (identifiers fs)) e in
    rw (eqb_swap p f.identifier h.0) (ap (λ (l : List Fragment). f ∷ l) (none_of p fs h.1))

of_same : (p : ℕ) (f : Fragment) → is_of p f ≡ true → f.identifier ≡ p
unfolding is_of
of_same p f e = eqb-true f.identifier p e

module _ (p : ℕ) (f : Fragment) (fs : List Fragment) where
  here : is_of p f ≡ true → any (eqb f.identifier) (identifiers fs) ≡ false → Spot p (f ∷ fs)
  unfolding index_of fragment_of without keep grow_in
  here e once = record {
    before = [];
    fragment = f;
    behind = fs;
    whole = refl;
    index = rw e refl;
    found = rw e refl;
    rest = rw e (none_of p fs (subst (λ (q : ℕ). any (eqb q) (identifiers fs) ≡ false) (of_same p f e) once));
    grows = λ b. rw e refl;
  }

  there : is_of p f ≡ false → Spot p fs → Spot p (f ∷ fs)
  unfolding index_of fragment_of without keep grow_in
  there e s = record {
    before = f ∷ s.before;
    fragment = s.fragment;
    behind = s.behind;
    whole = ap (λ (l : List Fragment). f ∷ l) s.whole;
    index = rw e (ap suc s.index);
    found = rw e s.found;
    rest = rw e (ap (λ (l : List Fragment). f ∷ l) s.rest);
    grows = λ b. rw e (ap (λ (l : List Fragment). f ∷ l) (s.grows b));
  }

  index_of_lem : is_of p f ≡ false → index_of p (f ∷ fs) ≡ suc (index_of p fs)
  unfolding index_of
  index_of_lem e = rw e refl

  index_first : is_of p f ≡ true → index_of p (f ∷ fs) ≡ 0
  unfolding index_of
  index_first e = rw e refl

pub spot : (p : ℕ) (fs : List Fragment) → distinct (identifiers fs) ≡ true → index_of p fs < length fs → Spot p fs
unfolding distinct
spot p [] d h = absurd (omega arith)
spot p (f ∷ fs) d h =
    let k = and_both (not (any (eqb f.identifier) (identifiers fs))) (distinct (identifiers fs)) d in
    go (is_of p f) refl (not-true _ k.0) (spot p fs k.1)
  where
    go : (a : Bool) → is_of p f ≡ a → any (eqb f.identifier) (identifiers fs) ≡ false → (index_of p fs < length fs → Spot p fs) → Spot p (f ∷ fs)
    go true e once again = here p f fs e once
    go false e once again = there p f fs e (again (omega (arith, index_of_lem p f fs e)))

pub missing : (p : ℕ) (fs : List Fragment) → length fs ≤ index_of p fs → (without p fs ≡ fs) × (fragment_of p fs ≡ none)
unfolding without keep fragment_of
missing p [] h = (refl, refl)
missing p (f ∷ fs) h = go (is_of p f) refl (missing p fs)
  where
    go : (a : Bool) → is_of p f ≡ a → (length fs ≤ index_of p fs → (without p fs ≡ fs) × (fragment_of p fs ≡ none))
        → (cond (not a) (f ∷ without p fs) (without p fs) ≡ f ∷ fs) × (cond a (some f) (fragment_of p fs) ≡ none)
    go true e again = absurd (omega (arith, index_first p f fs e))
    go false e again = let r = again (omega (arith, index_of_lem p f fs e)) in (ap (λ (l : List Fragment). f ∷ l) r.0, r.1)

pub not_found : (p : ℕ) (fs : List Fragment) → fragment_of p fs ≡ none → length fs ≤ index_of p fs
unfolding fragment_of index_of
not_found p [] e = omega arith
not_found p (f ∷ fs) e = go (is_of p f) e (not_found p fs)
  where
    go : (a : Bool) → cond a (some f) (fragment_of p fs) ≡ none → (fragment_of p fs ≡ none → length fs ≤ index_of p fs) → suc (length fs) ≤ cond a 0 (suc (index_of p fs))
    go true e again = let z : ◌≡◌ {A = ℕ} 0 1 = cc in absurd (omega arith)
    go false e again = omega (arith, again e)

-- How many others there are.
pub others_count : (index n p : ℕ) (fs : List Fragment) → n ≡ length fs → index ≡ index_of p fs → distinct (identifiers fs) ≡ true → others_of index n ≡ length (without p fs)
unfolding others_of
others_count index n p fs c at d = go (ltb index n) refl
  where
    go : (a : Bool) → ltb index n ≡ a → cond a (n - 1) n ≡ length (without p fs)
    go true e =
        let s = spot p fs d (let z : index < n = ltb-true index n e in omega arith) in
        omega (arith, ap length s.rest, ap length s.whole, length-append s.before s.behind, length-append s.before (s.fragment ∷ s.behind))
    go false e = c ∙ sym (ap length (missing p fs (let z : n ≤ index = ltb-false index n e in omega arith)).0)

-- For a last: what is left without a fragment is the same whether it has grown or not.
pub without_grown : (p : ℕ) (b : Bytes) (fs : List Fragment) → without p (grow_in p b fs) ≡ without p fs
unfolding without keep grow_in is_of
without_grown p b [] = refl
without_grown p b (f ∷ fs) = go (eqb f.identifier p) refl (without_grown p b fs)
  where
    go : (a : Bool) → eqb f.identifier p ≡ a → without p (grow_in p b fs) ≡ without p fs
        → without p (cond a (grown f b ∷ fs) (f ∷ grow_in p b fs)) ≡ cond (not a) (f ∷ without p fs) (without p fs)
    go true e again = rw e refl
    go false e again = rw e (ap (λ (l : List Fragment). f ∷ l) again)

-- Without it: those before it and those behind it, or all where there is none.
pub without_is : (p : ℕ) (fs : List Fragment) → distinct (identifiers fs) ≡ true → without p fs ≡ take (index_of p fs) fs ++ drop (index_of p fs + 1) fs
without_is p fs d = go (ltb (index_of p fs) (length fs)) refl
  where
    go : (a : Bool) → ltb (index_of p fs) (length fs) ≡ a → without p fs ≡ take (index_of p fs) fs ++ drop (index_of p fs + 1) fs
    go true e =
        let s = spot p fs d (ltb-true (index_of p fs) (length fs) e) in
        let xs = s.before in
        let f = s.fragment in
        let ys = s.behind in
        let l : length (xs ++ (f ∷ [])) ≡ index_of p fs + 1 = length-append xs (f ∷ []) ∙ ap (λ (n : ℕ). n + 1) s.index in
        s.rest
        ∙ ap₂ (λ (a b : List Fragment). a ++ b) (sym (ap (take (index_of p fs)) s.whole ∙ take_at xs (f ∷ ys) (index_of p fs) s.index))
        (sym (ap (drop (index_of p fs + 1)) (s.whole ∙ sym (append_assoc xs (f ∷ []) ys)) ∙ drop_at (xs ++ (f ∷ [])) ys (index_of p fs + 1) l))
    go false e =
        let h : length fs ≤ index_of p fs = ltb-false (index_of p fs) (length fs) e in
        (missing p fs h).0
        ∙ sym (ap₂ (λ (a b : List Fragment). a ++ b) (take_all (index_of p fs) fs h) (drop_of_length-le fs (let z : length fs ≤ index_of p fs + 1 = omega arith in z)) ∙ append-nil fs)

-- ---- how many lead afterwards

pub index_grown : (p : ℕ) (b : Bytes) (fs : List Fragment) → (index_of p (grow_in p b fs) ≡ index_of p fs) × (length (grow_in p b fs) ≡ length fs)
unfolding index_of grow_in is_of
index_grown p b [] = (refl, refl)
index_grown p b (f ∷ fs) = go (eqb f.identifier p) refl (index_grown p b fs)
  where
    go : (a : Bool) → eqb f.identifier p ≡ a → (index_of p (grow_in p b fs) ≡ index_of p fs) × (length (grow_in p b fs) ≡ length fs)
        → (index_of p (cond a (grown f b ∷ fs) (f ∷ grow_in p b fs)) ≡ cond a 0 (suc (index_of p fs))) × (length (cond a (grown f b ∷ fs) (f ∷ grow_in p b fs)) ≡ suc (length fs))
    go true e again = (rw e refl, refl)
    go false e again = (rw e (ap suc again.0), ap suc again.1)

pub grown_length : (p : ℕ) (b : Bytes) (fs : List Fragment) → length (grow_in p b fs) ≡ length fs
grown_length p b fs = (index_grown p b fs).1

index_without : (p : ℕ) (fs : List Fragment) → index_of p (without p fs) ≡ length (without p fs)
unfolding index_of without keep is_of
index_without p [] = refl
index_without p (f ∷ fs) = go (eqb f.identifier p) refl (index_without p fs)
  where
    go : (a : Bool) → eqb f.identifier p ≡ a → index_of p (without p fs) ≡ length (without p fs)
        → index_of p (cond (not a) (f ∷ without p fs) (without p fs)) ≡ length (cond (not a) (f ∷ without p fs) (without p fs))
    go true e again = again
    go false e again = rw e (ap suc again)

index_behind : (p : ℕ) (fs : List Fragment) (f : Fragment) → f.identifier ≡ p → index_of p fs ≡ length fs → index_of p (fs ++ (f ∷ [])) ≡ length fs
unfolding index_of is_of
index_behind p [] f e h = rw (eq-eqb f.identifier p e) refl
index_behind p (g ∷ fs) f e h = go (eqb g.identifier p) refl h (index_behind p fs f e)
  where
    go : (a : Bool) → eqb g.identifier p ≡ a → cond a 0 (suc (index_of p fs)) ≡ suc (length fs) → (index_of p fs ≡ length fs → index_of p (fs ++ (f ∷ [])) ≡ length fs)
        → cond a 0 (suc (index_of p (fs ++ (f ∷ [])))) ≡ suc (length fs)
    go true q h again = absurd (omega (arith, h))
    go false q h again = ap suc (again (omega (arith, h)))

module _ (p : ℕ) (fs fs' : List Fragment) (leading : ℕ) where
  has : index_of p fs' < length fs' → leading_after p fs fs' leading ≡ index_of p fs' + 1
  unfolding leading_after has_fragment
  has h = rw (lt-ltb (index_of p fs') (length fs') h) (sym (add-one (index_of p fs')))

  had : length fs' ≤ index_of p fs' → index_of p fs < length fs → leading_after p fs fs' leading ≡ index_of p fs
  unfolding leading_after has_fragment
  had h l = rw (le-ltb (index_of p fs') (length fs') h, lt-ltb (index_of p fs) (length fs) l) refl

  neither : length fs' ≤ index_of p fs' → length fs ≤ index_of p fs → leading_after p fs fs' leading ≡ leading
  unfolding leading_after has_fragment
  neither h l = rw (le-ltb (index_of p fs') (length fs') h, le-ltb (index_of p fs) (length fs) l) refl

module _ (p : ℕ) (fs : List Fragment) (leading : ℕ) where
  -- dropped, given up, or joined
  pub leading_gone : index_of p fs < length fs → leading_after p fs (without p fs) leading ≡ index_of p fs
  leading_gone h = had p fs (without p fs) leading (omega (arith, index_without p fs)) h

  pub leading_none : length fs ≤ index_of p fs → leading_after p fs fs leading ≡ leading
  leading_none h = neither p fs fs leading h h

  pub leading_grown : (b : Bytes) → index_of p fs < length fs → leading_after p fs (grow_in p b fs) leading ≡ index_of p fs + 1
  leading_grown b h =
      let e = index_grown p b fs in
      has p fs (grow_in p b fs) leading (omega (arith, e.0, e.1)) ∙ ap (λ (n : ℕ). n + 1) e.0

  pub leading_behind : (f : Fragment) → f.identifier ≡ p → leading_after p fs (without p fs ++ (f ∷ [])) leading ≡ length (without p fs) + 1
  leading_behind f e =
      let i = index_behind p (without p fs) f e (index_without p fs) in
      has p fs (without p fs ++ (f ∷ [])) leading (omega (arith, i, length-append (without p fs) (f ∷ []))) ∙ ap (λ (n : ℕ). n + 1) i
