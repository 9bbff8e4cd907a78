use Rattle.std.proofs.Common.{length, sym, ap, ◌∙◌}
use lib.ListN.{length-map}
use Rattle.envelope.specs.Entries.{whole}
use Rattle.envelope.proofs.PartMasks.{all_made}
use Rattle.envelope.proofs.choice.Parts.all.Goals as goal

pub returns : goal.returns
returns g c =
    let parts = c.self.inside.effects.now in
    all_made (length parts) c.self.invariant.few ∙ ap whole (sym (length-map parts g.E.Effect.components) ∙ ap length c.self.view_is)
