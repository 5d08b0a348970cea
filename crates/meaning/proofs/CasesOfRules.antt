-- Small cases of keep, drop and ready, of fewer wishes, and of what a sound state holds to: 01, "Keep, drop, ready" and "Refusal numbers".
use Prim.Native.Nat.{ℕ}
use mathlib.Core.Path.{◌≡◌, refl}
use mathlib.Core.Bool.{Bool, true, false}
use mathlib.Core.List.{List, [], ◌∷◌, ◌++◌}
use mathlib.Core.Option.{none, some}
use lib.ListN.{replicate}
use Rattle.meaning.specs.Wishes.{ours, copies_all}
use Rattle.meaning.specs.Learn.{Known, Listed}
use Rattle.meaning.specs.Rules.{list_of, kept_by, dropped_by, in_drop_set, drops, ready}
use Rattle.meaning.specs.declared.Part.TheVariants.{Caption, Carousel, Other}
use Rattle.meaning.specs.declared.Service.{Service}
use Rattle.meaning.specs.declared.Service.TheVariants.{Every, Only}
use Rattle.meaning.specs.declared.Options.{Options}

abbrev wishes : Service → Bool → Bool → Bool → Options
wishes s caption carousel eit = record { service = s; caption = caption; carousel = carousel; eit = eit; other = true }

pub record Services : Type 0 where
  pub each_is : ours Every 7 ≡ true
  pub named : (ours (Only 7) 7 ≡ true) × (ours (Only 7) 8 ≡ false)
  pub copies : copies_all (wishes Every true true true) ≡ true
  pub not_with_service : copies_all (wishes (Only 7) true true true) ≡ false
  pub one_wish_off : (copies_all (wishes Every false true true) ≡ false) × (copies_all (wishes Every true false true) ≡ false) × (copies_all (wishes Every true true false) ≡ false)

pub firsts : Services
unfolding copies_all
firsts = record { each_is = refl; named = (refl, refl); copies = refl; not_with_service = refl; one_wish_off = (refl, refl, refl) }

-- ---- service 1 on 5 with captions on 0x77 and video on 0x78, service 2 on 6 with 0x78 and a carousel on 0x79; data 0, 2 and 65

abbrev listing : List (ℕ × Listed)
listing = (5, (0x77, Caption) ∷ (0x78, Other) ∷ []) ∷ (6, (0x78, Other) ∷ (0x79, Carousel) ∷ []) ∷ []

abbrev knowing : Bool → List (ℕ × ℕ) → List (ℕ × ℕ) → Known
knowing seen packages maps = record {
  plt_seen = seen;
  packages = packages;
  map_heads = maps;
  map_room = 0x77 ∷ 0 ∷ 0x78 ∷ 2 ∷ replicate 508 0 ++ (0x78 ∷ 2 ∷ 0x79 ∷ 1 ∷ []);
  data_set = 5 ∷ 2 ∷ [];
  fragments = [];
}

abbrev both : Known
both = knowing true ((1, 5) ∷ (2, 6) ∷ []) ((5, 2) ∷ (6, 2) ∷ [])

-- service 3 has no list yet
abbrev third : Known
third = knowing true ((1, 5) ∷ (3, 0xFFFF) ∷ []) ((5, 2) ∷ (6, 2) ∷ [])

abbrev one : Options
one = wishes (Only 1) false true true

pub record Names : Type 0 where
  pub a-list : list_of 6 listing ≡ some ((0x78, Other) ∷ (0x79, Carousel) ∷ [])
  pub no_list : list_of 7 listing ≡ none
  -- kept: ours, its MPT and its wanted assets
  pub keeps : (kept_by one listing 5 (1, 5) ≡ true) × (kept_by one listing 0x78 (1, 5) ≡ true)
  pub keeps_not : (kept_by one listing 0x77 (1, 5) ≡ false) × (kept_by one listing 0x79 (2, 6) ≡ false) × (kept_by one listing 6 (2, 6) ≡ false)
  -- dropped: everything else that it names
  pub drops_ours : (dropped_by one listing 0x77 (1, 5) ≡ true) × (dropped_by one listing 0x78 (1, 5) ≡ false) × (dropped_by one listing 5 (1, 5) ≡ false)
  pub drops_others : (dropped_by one listing 6 (2, 6) ≡ true) × (dropped_by one listing 0x79 (2, 6) ≡ true) × (dropped_by one listing 0x77 (2, 6) ≡ false)
  pub unlisted : (dropped_by one listing 8 (3, 7) ≡ false) × (dropped_by one listing 7 (3, 7) ≡ true)
  pub in_set_lem : (in_drop_set one both 0x77 ≡ true) × (in_drop_set one both 6 ≡ true)
  pub kept_beats : in_drop_set one both 0x78 ≡ false
  pub data_off : (in_drop_set (wishes Every true false true) both 65 ≡ true) × (in_drop_set one both 65 ≡ false)
  pub never_zero : in_drop_set (wishes Every true false true) both 0 ≡ false
  pub eit_off : (drops (wishes Every true true false) both 0x8000 ≡ true) × (drops (wishes Every true true false) both 0x8001 ≡ false)
  pub eit_on : drops (wishes Every false true true) both 0x8000 ≡ false

pub names : Names
unfolding list_of kept_by dropped_by in_drop_set drops
names = record {
  a-list = refl;
  no_list = refl;
  keeps = (refl, refl);
  keeps_not = (refl, refl, refl);
  drops_ours = (refl, refl, refl);
  drops_others = (refl, refl, refl);
  unlisted = (refl, refl);
  in_set_lem = (refl, refl);
  kept_beats = refl;
  data_off = (refl, refl);
  never_zero = refl;
  eit_off = (refl, refl);
  eit_on = refl;
}

-- ---- ready: a PLT was seen, and a list is held for each MPT identifier that is needed

pub record Readiness : Type 0 where
  pub all_held : (ready Every both ≡ true) × (ready (Only 2) both ≡ true)
  pub one_missing : (ready Every third ≡ false) × (ready (Only 1) third ≡ true) × (ready (Only 3) third ≡ false)
  pub not_in_plt : ready (Only 2) third ≡ false
  pub no_plt : ready Every (knowing false [] []) ≡ false
  pub empty_plt : (ready Every (knowing true [] []) ≡ true) × (ready (Only 1) (knowing true [] []) ≡ false)

pub readiness : Readiness
unfolding ready
readiness = record {
  all_held = (refl, refl);
  one_missing = (refl, refl, refl);
  not_in_plt = refl;
  no_plt = refl;
  empty_plt = (refl, refl);
}
