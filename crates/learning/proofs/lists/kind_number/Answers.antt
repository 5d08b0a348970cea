use mathlib.Core.Path.{◌≡◌, refl}
use denote.Enum.Declared.{tag_of}
use Rattle.meaning.specs.Tables.{kind_number}
use Rattle.meaning.specs.declared.Part.{Part}
use Rattle.meaning.specs.contracts.Part.{the_type}
use Rattle.learning.proofs.lists.kind_number.Goals as goal

tag_is : (part : Part) → tag_of the_type part ≡ kind_number part
unfolding kind_number
tag_is Part.Caption = refl
tag_is Part.Carousel = refl
tag_is Part.Other = refl

pub returns : goal.returns
returns c = tag_is c.args.part
