use Rattle.std.proofs.Common.{◌≡◌, map, take}
use Rattle.effects.specs.Supplies.{exact_total}
use Rattle.sheet.specs.Content.{content}
use Rattle.envelope.specs.Reported.{base_share}
use Rattle.envelope.proofs.prepared.Prepared.base.Given as goal

abbrev pub invariant-loop-entry : goal.invariant-loop-entry
invariant-loop-entry g l =
    let e = g.E.Effect in
    let adds = base_share e.count e.reaches (content l.self.case.now.sheet.now) (g.R.Rulebook.meaning l.self.case.now.book.now) (map e.components l.self.case.now.effects.now) l.form in
    e.components l.total ≡ exact_total e.count (map adds (take l.entry-index l.entry-items))
