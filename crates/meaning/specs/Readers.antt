-- Readers, in the way of the standards' syntax tables: what is read and the bytes after it, or none where the bytes run out.
use Rattle.std.specs.Prelude.{ℕ, ◌+◌, ◌*◌, ◌%◌, zero, suc, ◌-◌, cond, List, [], ◌∷◌, length, take, drop, leb}
use Rattle.std.proofs.Math.Option.{Option, none, some}
use Rattle.meaning.specs.Bytes.{Bytes, be16}

infixl 10 ◌>>=◌
abbrev pub Out : Type 0 → Type 0
Out A = Option (A × Bytes)

abbrev pub Reader : Type 0 → Type 0
Reader A = Bytes → Out A

-- ---- one reader after another

abbrev pub bind : {A B : Type 0} → Out A → (A → Reader B) → Out B
bind none f = none
bind (some x) f = f x.0 x.1

abbrev pub ◌>>=◌ : {A B : Type 0} → Reader A → (A → Reader B) → Reader B
◌>>=◌ p f = λ s. bind (p s) f

abbrev pub give : {A : Type 0} → A → Reader A
give a = λ s. some (a, s)

abbrev pub refuse : {A : Type 0} → Reader A
refuse = λ s. none

-- ---- fields

unfoldable pub byte : Reader ℕ
byte [] = none
byte (b ∷ s) = some (b, s)

-- Numbers of 8, 16 and 32 bits.
unfoldable pub u8 : Reader ℕ
unfolding byte
u8 = do
  b ← byte
  give (b % 256)

unfoldable pub u16 : Reader ℕ
unfolding byte be16
u16 = do
  high ← byte
  low ← byte
  give (be16 high low)

unfoldable pub u32 : Reader ℕ
unfolding u16
u32 = do
  high ← u16
  low ← u16
  give (high * 65536 + low)

-- The next n bytes.
unfoldable pub bytes : ℕ → Reader Bytes
bytes n s = cond (leb n (length s)) (some (take n s, drop n s)) none

-- A length of 8, 16 or 32 bits, and as many bytes.
unfoldable pub counted8 : Reader Bytes
unfolding u8 bytes
counted8 = do
  n ← u8
  bytes n

unfoldable pub counted16 : Reader Bytes
unfolding u16 bytes
counted16 = do
  n ← u16
  bytes n

unfoldable pub counted32 : Reader Bytes
unfolding u32 bytes
counted32 = do
  n ← u32
  bytes n

-- What a flag announces: there where it is 1, nothing where it is 0.
unfoldable pub announced : ℕ → Reader Bytes → Reader Bytes
announced zero p = give []
announced (suc f) p = p

-- ---- repetition

-- n of what p reads.
unfoldable pub many : {A : Type 0} → ℕ → Reader A → Reader (List A)
many zero p = give []
many (suc n) p = do
  a ← p
  as' ← many n p
  give (a ∷ as')

-- What p reads, with the bytes that it was read from.
unfoldable pub raw : {A : Type 0} → Reader A → Reader (A × Bytes)
raw p = λ s. bind (p s) (λ a r. some ((a, take (length s - length r) s), r))

-- What p reads, again and again until it reads no more, and the bytes that are left.
pub record Walk (A : Type 0) : Type 0 where
  pub found : List A
  pub left : Bytes

abbrev pub stop : {A : Type 0} → Bytes → Walk A
stop s = record { found = []; left = s }

abbrev pub next : {A : Type 0} → A → Walk A → Walk A
next a w = record { found = a ∷ w.found; left = w.left }

-- go r is the walk of what is left, r
abbrev pub walk_on : {A : Type 0} → Out A → Bytes → (Bytes → Walk A) → Walk A
walk_on none s go = stop s
walk_on (some x) s go = next x.0 (go x.1)

-- the walk of s less its first k bytes; each turn takes one byte off the list, so that it ends
unfoldable pub walk_past : {A : Type 0} → Reader A → ℕ → Bytes → Walk A
walk_past p k [] = stop []
walk_past p zero (b ∷ s) = walk_on (p (b ∷ s)) (b ∷ s) (λ r. walk_past p (length s - length r) s)
walk_past p (suc k) (b ∷ s) = walk_past p k s

unfoldable pub walk : {A : Type 0} → Reader A → Bytes → Walk A
unfolding walk_past
walk p s = walk_past p 0 s
