use Rattle.std.proofs.Common.{map, get_or}
use Rattle.rulebooks.specs.Books.{Book}
use Rattle.sheet.specs.Content.{Content, content}
use Rattle.envelope.specs.Entries.{nowhere}
use Rattle.envelope.proofs.Variables.{placed}
use Rattle.envelope.proofs.MaskWalk.{mask_is, mask_there}
use Rattle.envelope.proofs.Ground.{of_turn}
use Rattle.envelope.proofs.Walk.{numbered_more}
use Rattle.envelope.proofs.case.Case.full_masks.Goals as goal

pub loop-entry-preserved : goal.loop-entry-preserved
loop-entry-preserved g c =
    let e = g.E.Effect in
    let s : Content = content c.args.self.now.sheet.now in
    let b : Book = g.R.Rulebook.meaning c.args.self.now.book.now in
    let xss = map e.components c.args.self.now.effects.now in
    let list = c.args.self.now.entries.now in
    let i = c.loop-entry.entry-index in
    let limits = c.args.self.now.sheet.now.limited in
    let parts = c.of.ensures in
    let place = of_turn s _ list i c.args.self.now.laid c.loop-entry-test.true (placed s) in
    let is = mask_is e.count e.reaches s b xss c.args.event (get_or list i nowhere) c.of.result c.splits-splits.result c.mask_of.result c.requires c.splits-splits.ensures limits.2 place parts.own parts.all c.mask_of.ensures in
    numbered_more (mask_there e.count e.reaches s b xss) 0 s list c.args.self.now.laid i c.loop-entry.masks limits.1 c.loop-entry-test.true c.mask_of.result is c.loop-entry.invariant
