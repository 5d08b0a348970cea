-- Fewer wishes: what demand 3 compares. 00, "Less is less".
use Rattle.std.specs.Prelude.{◌≡◌, true}
use mathlib.Core.List.{List, map, Sublistᴰ}
use Rattle.meaning.specs.Bytes.{Bytes}
use Rattle.meaning.specs.declared.Options.{Options}

-- Both name the same service or none, and the second wants everything that the first wants.
pub record Fewer (o₁ o₂ : Options) : Type 0 where
  pub service_same : o₁.service ≡ o₂.service
  pub caption_too : o₁.caption ≡ true → o₂.caption ≡ true
  pub carousel_too : o₁.carousel ≡ true → o₂.carousel ≡ true
  pub eit_too : o₁.eit ≡ true → o₂.eit ≡ true
  pub other_too : o₁.other ≡ true → o₂.other ≡ true

-- Each of xs comes from one of ys, in the same order, and is that one changed by f.
pub record Thinned (f : Bytes → Bytes) (xs ys : List Bytes) : Type 0 where
  pub from : List Bytes
  pub some_of : Sublistᴰ from ys
  pub changed : xs ≡ map f from
