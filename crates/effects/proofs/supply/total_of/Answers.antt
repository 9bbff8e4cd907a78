use Rattle.std.proofs.Common.{◌∙◌, rules}
use Rattle.effects.proofs.Totals.{folded_total, supply_exact}
use Rattle.effects.proofs.supply.total_of.Goals as goal

pub returns : goal.returns
returns g c =
    let value = folded_total g.E.Effect.components c.args.effects.now c.fold.ensures.ran (cc) c.zero.ensures (λ t x u f' call. search rules) in
    record { value = value; exact = λ supply. value ∙ supply_exact g.met.E.Effect.closed c.args.effects.now supply }
