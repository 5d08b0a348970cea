-- What a head asks for: the options, or the refusal whose number `input_refusal` gives.
use Rattle.std.specs.Prelude.{cond, Result, Ok, Err}
use Rattle.meaning.specs.Bytes.{Bytes}
use Rattle.meaning.specs.Wishes.{wants_assets}
use Rattle.meaning.specs.Programs.{input_refused, input_options}
use Rattle.meaning.specs.declared.Options.{Options}
use Rattle.meaning.specs.declared.Refusal.{Refusal}
use Rattle.meaning.specs.declared.Refusal.TheVariants.{Input, Wishes}

unfoldable pub asked_of : Bytes → Result Options Refusal
unfolding input_refused input_options wants_assets
asked_of s = cond (input_refused s) (Err Input) (cond (wants_assets (input_options s)) (Ok (input_options s)) (Err Wishes))
