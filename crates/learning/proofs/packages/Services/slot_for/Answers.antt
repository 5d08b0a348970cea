use Prim.Native.Nat.{◌-◌, ◌/◌, ◌<◌}
use native.Mathlib.Omega.{arith}
use lib.ListN.{get_or}
use Rattle.std.proofs.Common.{rules}
use Rattle.std.proofs.lemmas.List.Sorted.{answers_always}
use Rattle.learning.proofs.PackageLaws.{behind_last, searched}
use Rattle.learning.proofs.packages.Services.slot_for.Goals.{then-n-eq0-via-then-n-eq0, then-n-eq0-via-else-n-eq0+then-from-service}
use Rattle.learning.proofs.packages.Services.slot_for.Goals as goal

pub returns-then-n-eq0 : goal.returns-then-n-eq0
returns-then-n-eq0 c =
    let a = c.args in
    let n = a.self.now.count in
    let last : 0 < n → get_or a.self.now.packages (n - 1) 0 / 65536 < a.service =
    elim c.then-n-eq0.branch [
      | then-n-eq0-via-then-n-eq0 w ↦ λ h. absurd (omega arith)
      | then-n-eq0-via-else-n-eq0+then-from-service w ↦ λ h. omega (arith, w.from.ensures)
    ] in
    behind_last a.service n a.self.now.packages (omega arith) c.requires.1 last

pub returns : goal.returns
returns c =
    let a = c.args in
    let e = c.binary_search_by_key.ensures in
    searched a.service a.self.now.count a.self.now.packages (omega arith) c.requires.1 _ e.bound (e.position (λ y. y / 65536) (answers_always _ _ _ (λ f x r g called. search rules)))
