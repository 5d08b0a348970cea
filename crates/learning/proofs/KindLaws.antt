-- The kinds of the entries that a loop over them has met. Rests on AlsoLaws and on Reading of `meaning`.
use Prim.Native.Nat.{ℕ, ◌-◌, ◌<◌}
use mathlib.Core.Path.{◌≡◌, refl, sym, ap, ◌∙◌}
use mathlib.Core.List.{List, ◌∷◌}
use mathlib.Core.Option.{Option, none, some, some-injective}
use lib.ListN.{take, drop}
use Rattle.std.specs.Prelude.{Some}
use Rattle.meaning.specs.Bytes.{Bytes}
use Rattle.meaning.specs.Readers.{Out, bind, many}
use Rattle.meaning.specs.Tables.{Entry, entry}
use Rattle.meaning.proofs.Reading.{many_next}
use Rattle.tables.specs.Answers.{AssetIs}
use Rattle.tables.specs.declared.assets.Asset.{Asset}
use Rattle.learning.specs.News.{also, kind_news, kinds_in}
use Rattle.learning.specs.declared.News.{News}
use Rattle.learning.proofs.AlsoLaws.{also_assoc, also_none}

-- What is new once all entries that are read are met.
abbrev pub met_all : News → Out (List Entry) → Option News
met_all n none = none
met_all n (some (es, more)) = some (also n (kinds_in es))

met_one : (n : News) (x : Entry) (o : Out (List Entry)) → met_all n (bind o (λ es t. some (x ∷ es, t))) ≡ met_all (also n (kind_news x.part)) o
unfolding kinds_in
met_one n x none = refl
met_one n x (some (es, more)) = ap some (sym (also_assoc n (kind_news x.part) (kinds_in es)))

-- Of the entries at `at`, those before `from` are met.
pub record Met (b : Bytes) (at count : ℕ) (known : News) (from left : ℕ) (news : News) : Type 0 where
  pub met : met_all known (many count entry (drop at b)) ≡ met_all news (many left entry (drop from b))

module _ (b : Bytes) (at count : ℕ) (known : News) (from left : ℕ) (news : News) (i : Met b at count known from left news) where
  pub met_next : (r : Asset) → 0 < left → AssetIs b from (Some r) → Met b at count known r.end (left - 1) (also news (kind_news r.part))
  met_next r h a =
      let x : Entry = record { part = r.part; carrier = a.2.0; bytes_of = take (r.end - from) (drop from b) } in
      record { met = i.met ∙ ap (met_all news) (many_next entry (drop from b) left x (drop r.end b) h a.2.1) ∙ met_one news x (many (left - 1) entry (drop r.end b)) }

  -- all of them
  pub met_end : left ≡ 0 → met_all known (many count entry (drop at b)) ≡ some news
  unfolding many kinds_in
  met_end z = i.met ∙ rw z (ap some (sym (also_none news)))

  pub met_these : left ≡ 0 → (es : List Entry) (more : Bytes) → many count entry (drop at b) ≡ some (es, more) → news ≡ also known (kinds_in es)
  met_these z es more q = sym (some-injective _ _ (sym (ap (met_all known) q) ∙ met_end z))
