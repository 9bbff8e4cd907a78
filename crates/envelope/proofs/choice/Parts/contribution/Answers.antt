use Rattle.std.proofs.Common.{sym, ap, ◌∙◌}
use Rattle.effects.specs.Components.{exact_multiple}
use Rattle.effects.specs.Lists.{small_multiple}
use Rattle.envelope.specs.Entries.{has}
use Rattle.envelope.proofs.Contributions.{weighted_factor}
use Rattle.envelope.proofs.choice.Parts.contribution.Goals as goal

pub returns-clause-weighed : goal.returns-clause-weighed
returns-clause-weighed g c =
    let f = c.args.factor.units in
    let held = c.sum_of.ensures in
    c.times.ensures ∙ small_multiple f (g.E.Effect.components c.sum_of.result) c.args.factor.bounded held.small ∙ ap (exact_multiple f) held.value
    ∙ sym (weighted_factor g.E.Effect.count f (has c.args.mask) c.args.self.now)
