use Rattle.std.proofs.Common.{map}
use Rattle.sheet.specs.Content.{content}
use Rattle.envelope.proofs.MaskWalk.{mask_there}
use Rattle.envelope.proofs.Walk.{NumberedSo}
use Rattle.envelope.proofs.case.Case.full_masks.Given as goal

abbrev pub invariant-loop-entry : goal.invariant-loop-entry
invariant-loop-entry g l =
    let e = g.E.Effect in
    NumberedSo (mask_there e.count e.reaches (content l.self.sheet.now) (g.R.Rulebook.meaning l.self.book.now) (map e.components l.self.effects.now)) 0 l.entry-items l.entry-index l.masks
