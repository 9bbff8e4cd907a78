use Rattle.std.proofs.Common.{◌≡◌, ◌-◌, ◌<◌, ◌++◌, map, drop}
use Rattle.sheet.specs.Content.{content}
use Rattle.envelope.specs.Combinations.{effect_of}
use Rattle.envelope.specs.Reported.{with_chosen}
use Rattle.envelope.specs.Layout.{both_halves}
use Rattle.envelope.specs.Forms.{BestAmong}
use Rattle.envelope.proofs.prepared.Prepared.best_combination.Given as goal

abbrev pub invariant-loop-form : goal.invariant-loop-form
invariant-loop-form g l =
    let e = g.E.Effect in
    let s = content l.self.case.now.sheet.now in
    let b = g.R.Rulebook.meaning l.self.case.now.book.now in
    let xss = map e.components l.self.case.now.effects.now in
    let c = with_chosen e.count e.reaches s b xss l.best.form l.best.leader l.best.set in
    BestAmong e.count e.reaches s b xss (λ f. f < l.form) c
    × (e.components l.best.effect ≡ effect_of e.count s b xss c)
    × (map e.components l.strip ≡ both_halves e.count xss l.self.masks.now (b.form (l.form - 1)) s ++ drop 24 (map e.components l.initial.strip))
    × (drop 24 l.strip ≡ drop 24 l.initial.strip)
