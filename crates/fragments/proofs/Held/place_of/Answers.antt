use mathlib.Core.Path.{refl, sym, subst}
use native.Mathlib.Omega.{arith}
use Rattle.fragments.specs.Fragments.{Nearest, length_at}
use Rattle.fragments.proofs.GrowLaws.{place_numbers}
use Rattle.fragments.proofs.Held.place_of.Goals as goal

pub invariant_of-result : goal.invariant_of-result
unfolding length_at
invariant_of-result c =
    let a = c.args in
    let l = c.leading_of in
    let o = place_numbers a.fragment_heads.now a.self.count a.index l.result.count _ _ _ _ (omega arith) (omega (arith, l.ensures.0, c.nearest.ensures.low)) c.fragment_bytes.ensures c.length_at.ensures
    l.ensures.1 c.fragment_bytes-2.ensures in
    record { own_within = o.0; leading_within = o.1; led = o.2; behind = o.3 }

pub returns : goal.returns
unfolding length_at
returns c =
    let a = c.args in
    let l = c.leading_of in (
      refl,
      subst (Nearest a.self.count a.self.leading) (sym l.ensures.0) c.nearest.ensures,
      record {
        index_low = omega arith;
        leading_low = omega (arith, l.ensures.0, c.nearest.ensures.low);
        start_is = c.fragment_bytes.ensures;
        own_is = c.length_at.ensures;
        free_is = l.ensures.1;
        all_is = c.fragment_bytes-2.ensures;
      },
    )
