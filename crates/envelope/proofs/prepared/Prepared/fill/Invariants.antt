use Rattle.std.proofs.Common.{map}
use Rattle.effects.specs.Components.{zeros}
use Rattle.envelope.specs.Layout.{role_factor, contribution_by}
use Rattle.envelope.proofs.Walk.{Placed}
use Rattle.envelope.proofs.prepared.Prepared.fill.Given as goal

abbrev pub invariant-loop-entry : goal.invariant-loop-entry
invariant-loop-entry g l =
    let k = g.E.Effect in
    Placed (contribution_by k.count (map k.components l.self.case.now.effects.now) l.self.masks.now (λ e. role_factor ((g.R.Rulebook.meaning l.self.case.now.book.now).form l.form) l.role e.action.category))
    (zeros k.count) l.entry-items l.entry-index (map k.components l.half)
