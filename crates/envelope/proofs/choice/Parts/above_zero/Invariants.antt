use Rattle.std.proofs.Common.{◌≡◌, [], get_or}
use Rattle.envelope.specs.Entries.{mask_of}
use Rattle.envelope.specs.Choices.{above_zero}
use Rattle.envelope.proofs.choice.Parts.above_zero.Given as goal

abbrev pub invariant-loop-p : goal.invariant-loop-p
invariant-loop-p g l =
    let e = g.E.Effect in
    l.mask ≡ mask_of (λ p. above_zero e.count e.reaches (get_or l.self p [])) l.p
