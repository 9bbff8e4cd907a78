use Rattle.std.proofs.Common.{length, ap, arith}
use lib.ListN.{length-map}
use Rattle.envelope.proofs.PartSums.{weighed}
use Rattle.envelope.proofs.choice.Parts.weighed.Goals as goal

pub returns : goal.returns
returns g c =
    let few = c.self.invariant.few in
    let held = c.sum_of-held.ensures in
    let others = c.sum_of-others.ensures in
    weighed g.E.Effect.count c.args.inside.units c.args.outside.units c.args.mask c.args.self.now _ _ _ _ _ (omega arith)
    (omega (arith, ap length c.self.view_is, length-map c.self.inside.effects.now g.E.Effect.components))
    c.args.inside.bounded c.args.outside.bounded held.value held.small others.value others.small c.times.ensures c.times-2.ensures c.sum.ensures
