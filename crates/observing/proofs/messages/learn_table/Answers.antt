use mathlib.Core.Path.{sym, ◌∙◌}
use Rattle.observing.specs.Steps.{table_in}
use Rattle.observing.proofs.StepLaws.{table_plt, table_mpt, table_other}
use Rattle.observing.proofs.messages.learn_table.Goals as goal

pub returns-then-is_mpt : goal.returns-then-is_mpt
returns-then-is_mpt c k h =
    let a = c.args in
    let x = c.is_mpt.ensures in
    table_mpt a.id (table_in a.t.now) k a.e _ a.kept.now a.map_room.now h
    (sym x ∙ c.if-is_mpt.true) _ _ c.mpt.auto.map_room (c.mpt.ensures k.map_heads h.maps_kept)

pub returns-then-number : goal.returns-then-number
returns-then-number c k h =
    let a = c.args in
    let x = c.is_mpt.ensures in
    table_other a.id (table_in a.t.now) k a.e a.e a.kept.now a.map_room.now h
    (sym x ∙ c.if-is_mpt.false) (λ n z. c.if-number.true n)

pub returns-then-id-ne0 : goal.returns-then-id-ne0
returns-then-id-ne0 c k h =
    let a = c.args in
    let x = c.is_mpt.ensures in
    table_other a.id (table_in a.t.now) k a.e a.e a.kept.now a.map_room.now h
    (sym x ∙ c.if-is_mpt.false) (λ n z. c.if-id-ne0.true z)

pub returns : goal.returns
returns c k h =
    let a = c.args in
    table_plt a.id (table_in a.t.now) k a.e _ a.kept.now a.map_room.now h
    c.if-number.false c.if-id-ne0.false _ (c.plt.ensures k.packages h.packages_kept)
