-- Finding packets in a run of bytes: 01, "Finding packets".
use Rattle.std.specs.Prelude.{ℕ, ◌+◌, zero, suc, ◌-◌, Bool, cond, ◌&&◌, ◌||◌, List, [], ◌∷◌, get_or, length, take, eqb, leb, ltb}
use Rattle.meaning.specs.Bytes.{Bytes, be16_at}
use Rattle.meaning.specs.declared.Step.{Step}
use Rattle.meaning.specs.declared.Step.TheVariants.{Packet, Skip, Keep}

-- ---- what stands at the front of a run

-- The size of the packet whose header is at the front of s, the header's four bytes included.
unfoldable pub size_of : Bytes → ℕ
unfolding be16_at
size_of s = 4 + be16_at s 2

-- IPv4, IPv6, compressed IP, control, null.
unfoldable pub is_type : ℕ → Bool
is_type t = eqb t 0x01 || eqb t 0x02 || eqb t 0x03 || eqb t 0xFE || eqb t 0xFF

-- A start candidate: 0x7F, a type, and no longer than the packet limit P.
unfoldable pub candidate : ℕ → Bytes → Bool
unfolding is_type size_of
candidate P s = eqb (get_or s 0 0) 0x7F && is_type (get_or s 1 0) && leb (size_of s) P

-- The byte after its end is 0x7F, unless the run ends at or before it.
unfoldable pub followed : Bytes → Bool
unfolding size_of
followed s = leb (length s) (size_of s) || eqb (get_or s (size_of s) 0) 0x7F

unfoldable pub step_of : ℕ → Bytes → Step
unfolding candidate followed
step_of P s =
    cond (ltb (length s) 4) Keep
    (cond (candidate P s && followed s)
    (cond (leb (size_of s) (length s)) (Packet (size_of s)) Keep)
    Skip)

-- ---- a whole run: its packets, how many bytes start none, and the bytes to hold

pub record Cut : Type 0 where
  pub packets : List Bytes
  pub skipped : ℕ
  pub held : Bytes

abbrev pub hold : Bytes → Cut
hold s = record { packets = []; skipped = 0; held = s }

abbrev pub skip : Cut → Cut
skip c = record { packets = c.packets; skipped = suc c.skipped; held = c.held }

abbrev pub accept : Bytes → Cut → Cut
accept p c = record { packets = p ∷ c.packets; skipped = c.skipped; held = c.held }

-- go k is the cut of s less its first suc k bytes
abbrev pub cut_on : Step → Bytes → (ℕ → Cut) → Cut
cut_on (Packet n) s go = accept (take n s) (go (n - 1))
cut_on Skip s go = skip (go 0)
cut_on Keep s go = hold s

-- the cut of s less its first k bytes
unfoldable pub cut_past : ℕ → ℕ → Bytes → Cut
unfolding step_of
cut_past P k [] = hold []
cut_past P zero (b ∷ s) = cut_on (step_of P (b ∷ s)) (b ∷ s) (λ j. cut_past P j s)
cut_past P (suc k) (b ∷ s) = cut_past P k s

unfoldable pub cut : ℕ → Bytes → Cut
unfolding cut_past
cut P s = cut_past P 0 s
