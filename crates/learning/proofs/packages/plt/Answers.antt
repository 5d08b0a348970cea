use mathlib.Core.Path.{◌∙◌, sym}
use native.Mathlib.Omega.{arith}
use Rattle.learning.proofs.PairLaws.{pairs_none}
use Rattle.learning.proofs.PackageLaws.{plt_unread, plt_known, plt_new}
use Rattle.learning.proofs.packages.plt.Goals as goal

pub packages_of-requires : goal.packages_of-requires
packages_of-requires c = pairs_none 255

pub returns-in_default : goal.returns-in_default
returns-in_default c =
    λ ps k.
    let a = c.args in
    plt_unread a.b.now a.e ps a.packages.now k (rw c.in_default.is at c.packages_of.ensures)

pub is_known-requires : goal.is_known-requires
is_known-requires c =
    let r = rw c.in-Some.is at c.packages_of.ensures in
    omega (arith, r.3.count, r.3.few)

pub returns-then-is_known : goal.returns-then-is_known
returns-then-is_known c =
    λ ps k.
    let a = c.args in
    let r = rw c.in-Some.is at c.packages_of.ensures in
    let told = rw c.with_news-known.ensures at c.is_known.ensures in
    rw (c.with_news-known.ensures, c.with_unlisted.ensures) (plt_known a.b.now a.e ps a.packages.now k _ r (sym told ∙ c.if-is_known.true))

pub returns : goal.returns
returns c =
    λ ps k.
    let a = c.args in
    let r = rw c.in-Some.is at c.packages_of.ensures in
    let told = rw c.with_news-known.ensures at c.is_known.ensures in
    rw (c.changed.ensures, c.with_news-known.ensures, c.with_unlisted.ensures) (plt_new a.b.now a.e ps a.packages.now k _ r (sym told ∙ c.if-is_known.false))
