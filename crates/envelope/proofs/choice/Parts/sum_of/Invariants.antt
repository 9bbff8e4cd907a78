use Rattle.std.proofs.Common.{◌≡◌, cond, take}
use Rattle.envelope.specs.Entries.{has}
use Rattle.envelope.specs.Combinations.{weighted}
use Rattle.envelope.proofs.choice.Parts.sum_of.Given as goal

abbrev pub invariant-loop-p : goal.invariant-loop-p
invariant-loop-p g l =
    let e = g.E.Effect in
    e.components l.sum ≡ weighted e.count (λ p. cond (has l.mask p) 1 0) (take l.p l.self)
