use Rattle.std.specs.Prelude.{◌-◌, get_or}
use Rattle.narrowing.proofs.PltLaws.{Sofar}
use Rattle.narrowing.proofs.plt.plt_only.Given as goal

abbrev pub invariant-loop : goal.invariant-loop
invariant-loop l = Sofar l.service l.b (get_or l.b 0 0 - l.counter) l.past l.stays
