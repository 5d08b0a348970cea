use Rattle.narrowing.proofs.table.of_plt.Goals as goal

pub returns-in_default : goal.returns-in_default
returns-in_default c = λ o. rw c.in_default.is

pub returns-in-Some : goal.returns-in-Some
returns-in-Some c = λ o. rw c.in-Only.is (rw c.in-Some.is at c.plt_only.ensures)

pub returns-in-None : goal.returns-in-None
returns-in-None c = λ o. rw c.in-Only.is (rw c.in-None.is at c.plt_only.ensures)
