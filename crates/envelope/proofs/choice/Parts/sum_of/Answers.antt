use Rattle.std.proofs.Common.{◌≡◌, ◌<◌, [], length, get_or, sym, ap, ◌∙◌, subst, arith}
use lib.ListN.{length-map}
use Rattle.effects.specs.Components.{sum}
use Rattle.effects.specs.Supplies.{Supply}
use Rattle.envelope.specs.Entries.{has}
use Rattle.envelope.proofs.PartMasks.{part_read}
use Rattle.envelope.proofs.PartSums.{turn_taken, turn_left, upto_small}
use Rattle.envelope.proofs.choice.Parts.sum_of.Goals as goal
use Rattle.envelope.proofs.choice.Parts.sum_of.Goals.{then-has, else-has}

pub loop-p-preserved : goal.loop-p-preserved
loop-p-preserved g c =
    let e = g.E.Effect in
    let width = g.met.E.Effect.closed.width in
    let turn = c.loop-p in
    let xss = c.args.self.now in
    let supply : Supply xss = subst Supply c.self.view_is c.self.invariant.supply in
    let here : turn.p < length xss = omega (arith, ap length c.self.view_is, length-map c.self.inside.effects.now e.components) in
    let part : get_or xss turn.p [] ≡ e.components c.part-item.result = part_read e.components c.self.inside.effects.now xss turn.p c.part-item.result c.self.view_is c.loop-p-test.true c.part-item.is in
    elim c.if-has.branch [
      | then-has w ↦
          ap e.components w.sum-is ∙ w.sum-sum.ensures ∙ (λ j. sum (turn.invariant j) (sym part j))
          ∙ turn_taken e.count (has c.args.mask) xss supply turn.p here (sym c.has.ensures ∙ w.if-has.true)
      | else-has w ↦
          ap e.components w.sum-is ∙ turn.invariant
          ∙ turn_left e.count (has c.args.mask) xss supply turn.p here (sym c.has.ensures ∙ w.if-has.false) (ap length (sym turn.invariant) ∙ width turn.sum) (ap length part ∙ width c.part-item.result)
    ]

pub returns-clause-small : goal.returns-clause-small
returns-clause-small g c =
    let e = g.E.Effect in
    let supply : Supply c.args.self.now = subst Supply c.self.view_is c.self.invariant.supply in
    rw c.loop-p.invariant (upto_small e.count (has c.args.mask) c.args.self.now supply c.loop-p.p)
