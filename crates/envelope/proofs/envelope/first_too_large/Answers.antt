use Rattle.std.proofs.Common.{rules}
use borrow.Author.Tests.{tests}
use Rattle.std.proofs.lemmas.Iterator.{YieldsList-from_slice, IsFirst-from_position}
use Rattle.envelope.proofs.Questions.{IsLarge, IsSmall, found_large}
use Rattle.envelope.proofs.envelope.first_too_large.Goals as goal

pub returns : goal.returns
returns g c =
    let components = g.E.Effect.components in
    let es = c.args.effects.now in
    found_large components es c.position.result
    (IsFirst-from_position _ _ c.position.result (IsLarge components) (IsSmall components) c.position.ensures.ran (YieldsList-from_slice es cc) (λ x q k. search (rules, tests)) (λ x q k. search (rules, tests)))
