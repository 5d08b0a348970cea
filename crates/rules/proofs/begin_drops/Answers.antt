use Rattle.rules.proofs.MemberLaws.{empty}
use borrow.Author.Tests.{not-true, not-false}
use mathlib.Core.Bool.{true, false}
use mathlib.Core.Path.{◌≡◌, refl}
use native.Mathlib.Omega.{arith}
use Rattle.rules.proofs.begin_drops.Goals as goal

pub returns-then-not-o : goal.returns-then-not-o
returns-then-not-o c =
    let off : c.args.o.carousel ≡ false = not-true _ c.if-not-o.true in
    record { all_words = omega arith; member = λ q b. rw off }

pub returns : goal.returns
returns c =
    let on : c.args.o.carousel ≡ true = not-false _ c.if-not-o.false in
    record { all_words = refl; member = λ q b. rw on (empty 1024 q) }
