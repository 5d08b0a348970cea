use Rattle.tables.proofs.PackageLaws.{package_nameless, package_placeless, name_in, package_at}
use Rattle.tables.proofs.packages.package_at.Goals as goal

pub returns-in_err-name_end : goal.returns-in_err-name_end
returns-in_err-name_end c =
    let a = c.args in
    rw c.from_residual.ensures (package_nameless a.s.now a.at c.in_err-name_end.ensures)

pub returns-in_err-located : goal.returns-in_err-located
returns-in_err-located c =
    let a = c.args in
    rw c.from_residual-in_err-located.ensures (package_placeless a.s.now a.at _ c.in_ok-name_end.ensures c.in_err-located.ensures)

pub name_at-requires : goal.name_at-requires
name_at-requires c =
    let a = c.args in
    name_in a.s.now a.at _ c.in_ok-name_end.ensures

pub returns : goal.returns
returns c =
    let a = c.args in
    package_at a.s.now a.at _ c.in_ok-name_end.ensures
    _ _ c.in_ok-located.ensures c.name_at.ensures
