use Rattle.meaning.specs.Tables.{kind_number}
use mathlib.Core.Path.{refl}
use native.Mathlib.Omega.{arith}
use Rattle.narrowing.proofs.counting.kind_of.Goals as goal

pub returns-in-Caption : goal.returns-in-Caption
unfolding kind_number
returns-in-Caption c = rw c.in-Caption.is (refl, omega arith)

pub returns-in-Carousel : goal.returns-in-Carousel
unfolding kind_number
returns-in-Carousel c = rw c.in-Carousel.is (refl, omega arith)

pub returns-in-Other : goal.returns-in-Other
unfolding kind_number
returns-in-Other c = rw c.in-Other.is (refl, omega arith)
