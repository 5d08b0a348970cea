-- The header at the front of bytes, by itself.
use Rattle.std.specs.Prelude.{[], ◌∷◌, get_or}
use Rattle.meaning.specs.Bytes.{Bytes}

abbrev pub head_of : Bytes → Bytes
head_of s = get_or s 0 0 ∷ get_or s 1 0 ∷ get_or s 2 0 ∷ get_or s 3 0 ∷ []
