use mathlib.Core.Path.{sym, ◌∙◌}
use Rattle.learning.specs.Kept.{pairs_in}
use Rattle.passing.proofs.SparingLaws.{cuts_other, cuts_caption, cuts_carousel, cuts_rest}
use Rattle.passing.proofs.cuts.Goals as goal

pub returns-then-against : goal.returns-then-against
returns-then-against c =
    let a = c.args in
    cuts_other a.o a.id a.e.news (pairs_in a.e.package_count a.packages.now) (sym c.against.ensures ∙ c.if-against.true)

pub returns-then-against-2 : goal.returns-then-against-2
returns-then-against-2 c =
    let a = c.args in
    cuts_caption a.o a.id a.e.news (pairs_in a.e.package_count a.packages.now)
    (sym c.against.ensures ∙ c.if-against.false) (sym c.against-2.ensures ∙ c.if-against-2.true)

pub returns-then-against-3 : goal.returns-then-against-3
returns-then-against-3 c =
    let a = c.args in
    cuts_carousel a.o a.id a.e.news (pairs_in a.e.package_count a.packages.now)
    (sym c.against.ensures ∙ c.if-against.false) (sym c.against-2.ensures ∙ c.if-against-2.false) (sym c.against-3.ensures ∙ c.if-against-3.true)

pub returns : goal.returns
returns c =
    let a = c.args in
    cuts_rest a.o a.id a.e.news (pairs_in a.e.package_count a.packages.now)
    (sym c.against.ensures ∙ c.if-against.false) (sym c.against-2.ensures ∙ c.if-against-2.false) (sym c.against-3.ensures ∙ c.if-against-3.false) _ c.cuts_plt.ensures
