-- Small cases of maps lost, counted by hand. M and M₁ are those of 01's examples, on identifier 6; 65 is in the data set.
use mathlib.Core.Path.{◌≡◌, refl}
use mathlib.Core.Bool.{true}
use mathlib.Core.List.{[], ◌∷◌, ◌++◌}
use mathlib.Core.Option.{none, some}
use lib.ListN.{replicate}
use Rattle.meaning.specs.Bytes.{Bytes}
use Rattle.meaning.specs.Messages.{Message, messages}
use Rattle.meaning.specs.Learn.{fits, joined}
use Rattle.meaning.specs.Recount.{joined_messages, observed_messages, mpt_identifiers, identifiers_from, observed_mpts, lost_of}
use Rattle.meaning.proofs.Examples.{M, M₁}
use Rattle.meaning.proofs.CasesOfLearning.{was}
use Rattle.meaning.proofs.CasesOfFragments.{small, limits, front, beside, of_six, packet}

-- a PA message of the table M, with no head entry
abbrev the_message : Message
the_message = record { number = 0; body = 0x00 ∷ M }

abbrev whole : Bytes
whole = 0x00 ∷ 0x55 ∷ front ++ M

pub record Lost : Type 0 where
  pub a-last : joined_messages (some (of_six 0 front)) limits M (of_six 0 front ∷ []) ≡ the_message ∷ []
  pub too_long : joined_messages (some (of_six 0 front)) small M (of_six 0 front ∷ []) ≡ []
  pub no_first : joined_messages none limits M [] ≡ []
  pub of_a_whole : observed_messages limits 6 whole was ≡ the_message ∷ []
  pub of_a_first : observed_messages limits 6 (0x40 ∷ 0x55 ∷ front ++ M) was ≡ []
  pub of_a_middle : observed_messages limits 6 (0x80 ∷ 0x55 ∷ front ++ M) (beside (of_six 0 front ∷ []) was) ≡ []
  pub of_a_last : observed_messages limits 6 (0xC0 ∷ 0x55 ∷ M) (beside (of_six 0 front ∷ []) was) ≡ the_message ∷ []
  pub of_data : observed_messages limits 65 whole was ≡ []
  pub of_nothing : observed_messages limits 6 [] was ≡ []
  -- one MPT, a message that is no PA message, two MPTs
  pub one_and_two : mpt_identifiers 6 (the_message ∷ record { number = 1; body = 0x00 ∷ M } ∷ record { number = 0; body = 0x00 ∷ (M ++ M₁) } ∷ []) ≡ 6 ∷ 6 ∷ 6 ∷ []
  pub of_signalling : identifiers_from limits (some (record { identifier = 6; payload_type = 2; rewritable = true; payload = whole })) was ≡ 6 ∷ []
  pub of_media : identifiers_from limits (some (record { identifier = 6; payload_type = 0; rewritable = true; payload = whole })) was ≡ []
  pub of_packets : observed_mpts limits was (packet 0x02 whole ∷ packet 0x00 whole ∷ packet 0x02 whole ∷ []) ≡ 6 ∷ 6 ∷ []
  -- the second joins what the first began
  pub in_two_packets : observed_mpts limits was (packet 0x02 (0x40 ∷ 0x55 ∷ front) ∷ packet 0x02 (0xC0 ∷ 0x55 ∷ M) ∷ []) ≡ 6 ∷ []
  pub all_have_a_place : lost_of (7 ∷ []) (7 ∷ 5 ∷ 6 ∷ 5 ∷ []) ≡ 0
  -- 5 takes the last place; with all taken, 9 has one and 5 and 6 have none
  pub the_last_place : lost_of (replicate 63 9) (5 ∷ 6 ∷ 5 ∷ []) ≡ 1
  pub no_place : lost_of (replicate 64 9) (9 ∷ 5 ∷ 9 ∷ 5 ∷ 6 ∷ []) ≡ 3

pub lost_cases : Lost
unfolding fits joined messages observed_messages mpt_identifiers observed_mpts lost_of
lost_cases = record {
  a-last = refl;
  too_long = refl;
  no_first = refl;
  of_a_whole = refl;
  of_a_first = refl;
  of_a_middle = refl;
  of_a_last = refl;
  of_data = refl;
  of_nothing = refl;
  one_and_two = refl;
  of_signalling = refl;
  of_media = refl;
  of_packets = refl;
  in_two_packets = refl;
  all_have_a_place = refl;
  the_last_place = refl;
  no_place = refl;
}
