-- The day tally gains each call's counts; refused where a count would pass 2^64 - 1. 01, the end of "Narrowing".
use Rattle.std.specs.Prelude.{ℕ, ◌+◌, ◌^◌, Bool, cond, ◌&&◌, eqb, ltb}
use Rattle.meaning.specs.declared.Counts.{Counts}

abbrev pub add_counts : Counts → Counts → Counts
add_counts t c = record {
  bytes = t.bytes + c.bytes;
  accepted = t.accepted + c.accepted;
  written = t.written + c.written;
  rewritten = t.rewritten + c.rewritten;
  skipped = t.skipped + c.skipped;
  lost = t.lost + c.lost;
}

unfoldable pub fits64 : Counts → Bool
fits64 c =
    ltb c.bytes (2 ^ 64) && ltb c.accepted (2 ^ 64) && ltb c.written (2 ^ 64)
    && ltb c.rewritten (2 ^ 64) && ltb c.skipped (2 ^ 64) && ltb c.lost (2 ^ 64)

unfoldable pub tally_refusal : Counts → Counts → ℕ
unfolding fits64
tally_refusal t c = cond (fits64 (add_counts t c)) 0 7

unfoldable pub tallied : Counts → Counts → Counts
unfolding tally_refusal
tallied t c = cond (eqb (tally_refusal t c) 0) (add_counts t c) t
