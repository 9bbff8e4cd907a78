use Rattle.std.proofs.Common.{◌≡◌, ℕ, Bool, [], get_or, sym, ap, ◌∙◌, arith}
use Rattle.envelope.specs.Choices.{above_zero}
use Rattle.envelope.proofs.PartMasks.{mask_with, mask_without, part_read}
use Rattle.envelope.proofs.choice.Parts.above_zero.Goals as goal
use Rattle.envelope.proofs.choice.Parts.above_zero.Goals.{then-is_above_zero, else-is_above_zero}

pub loop-p-preserved : goal.loop-p-preserved
loop-p-preserved g c =
    let e = g.E.Effect in
    let turn = c.loop-p in
    let test : ℕ → Bool = λ p. above_zero e.count e.reaches (get_or c.args.self.now p []) in
    let read : test turn.p ≡ c.is_above_zero.result =
    ap (above_zero e.count e.reaches) (part_read e.components c.self.inside.effects.now _ turn.p c.part-item.result c.self.view_is c.loop-p-test.true c.part-item.is) ∙ sym c.is_above_zero.ensures in
    elim c.if-is_above_zero.branch [
      | then-is_above_zero w ↦ mask_with test turn.mask turn.p _ (omega arith) turn.invariant (read ∙ w.if-is_above_zero.true) w.mask-is
      | else-is_above_zero w ↦ mask_without test turn.mask turn.p _ turn.invariant (read ∙ w.if-is_above_zero.false) w.mask-is
    ]
