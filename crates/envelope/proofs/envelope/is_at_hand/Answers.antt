use Rattle.std.proofs.Common.{◌≡◌, true, false, sym, ap, ◌∙◌, rules}
use borrow.Author.Tests.{tests}
use Rattle.std.proofs.lemmas.Iterator.{YieldsList-from_slice, cases_from_any}
use Rattle.sheet.specs.Content.{content}
use Rattle.envelope.specs.Entries.{acts}
use Rattle.envelope.specs.Answers.{event_at_hand}
use Rattle.envelope.proofs.Questions.{found_acting}
use Rattle.envelope.proofs.envelope.is_at_hand.Goals as goal

pub returns : goal.returns
returns c =
    let s = content c.args.sheet.now in
    let sought = c.in-Some.sought in
    let list = c.actions.result.now in
    found_acting sought s list c.any.result c.actions.ensures
    (cases_from_any _ _ c.any.result (λ a. acts sought a ≡ true) (λ a. acts sought a ≡ false) c.any.ensures.ran (YieldsList-from_slice list cc) (λ x q k. search (rules, tests)) (λ x q k. search (rules, tests)))
    ∙ ap (λ k. event_at_hand k s) (sym c.in-Some.is)
