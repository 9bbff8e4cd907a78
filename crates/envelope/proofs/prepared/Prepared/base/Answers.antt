use Rattle.std.proofs.Common.{map, get_or, sym, ap, ◌∙◌}
use Rattle.std.proofs.lemmas.List.{take_more}
use Rattle.effects.specs.Supplies.{exact_total}
use Rattle.rulebooks.specs.Books.{Book}
use Rattle.sheet.specs.Content.{Content, content}
use Rattle.envelope.specs.Entries.{nowhere}
use Rattle.envelope.specs.Reported.{base_share}
use Rattle.envelope.proofs.Setting.{owned}
use Rattle.envelope.proofs.Candidates.{known}
use Rattle.envelope.proofs.Ground.{on_sheet, of_turn}
use Rattle.envelope.proofs.BaseWalk.{share_added, share_read}
use Rattle.envelope.proofs.prepared.Prepared.base.Goals as goal

pub loop-entry-preserved : goal.loop-entry-preserved
loop-entry-preserved g c =
    let e = g.E.Effect in
    let met = g.met.E.Effect in
    let case = c.args.self.now.case.now in
    let s : Content = content case.sheet.now in
    let b : Book = g.R.Rulebook.meaning case.book.now in
    let list = case.entries.now in
    let i = c.loop-entry.entry-index in
    let test = c.loop-entry-test.true in
    let set = on_sheet met.closed met.laws case.sheet.now b case.effects.now (g.met.R.Rulebook.laws case.book.now) case.supplied in
    let adds = base_share e.count e.reaches s b (map e.components case.effects.now) c.args.form in
    let share = share_read met.closed met.laws _ _ _ set c.args.form (get_or list i nowhere) c.of-parts.result c.args.self.now.masks.now _ (of_turn s _ list i case.laid test (known met.closed met.laws _ _ _ set 4095))
    (of_turn s _ list i case.laid test (known met.closed met.laws _ _ _ set 0)) c.args.self.now.full c.of-parts.ensures.own c.share_of-share.ensures in
    share_added met.closed met.laws _ _ _ set c.args.form list i (get_or list i nowhere) _ _ _ case.laid (of_turn s _ list i case.laid test (owned met.closed met.laws _ _ _ set)) c.loop-entry.invariant share c.sum-total.ensures
    ∙ ap (λ d. exact_total e.count (map adds d)) (sym (take_more list i nowhere test))
