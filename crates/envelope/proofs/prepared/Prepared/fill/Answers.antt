use Rattle.std.proofs.Common.{ℕ, List, map, get_or, ℤ, sym, ap, ◌∙◌, arith, rules}
use Rattle.std.proofs.lemmas.List.{map-set}
use Rattle.effects.specs.Components.{zeros}
use Rattle.sheet.specs.Content.{content}
use Rattle.envelope.specs.declared.entry.Entry.{Entry}
use Rattle.envelope.specs.Entries.{nowhere}
use Rattle.envelope.specs.Layout.{role_factor, contribution_by}
use Rattle.envelope.proofs.Filling.{contributed, made_alike}
use Rattle.envelope.proofs.Walk.{placed_all, placed_no, placed_yes}
use Rattle.envelope.proofs.prepared.Prepared.fill.Goals as goal
use Rattle.envelope.proofs.prepared.Prepared.fill.Goals.{then-is_variable, else-is_variable}

pub loop-entry-init : goal.loop-entry-init
loop-entry-init g c =
    let k = g.E.Effect in
    made_alike k.components (zeros k.count) _ (λ f x f' made. search rules) _ _ c.fill_with.new.self 12 c.fill_with.ensures.ran.1 (omega arith)

pub loop-entry-preserved : goal.loop-entry-preserved
loop-entry-preserved g c =
    let s = c.args.self.now.case.now.sheet.now in
    let k = g.E.Effect in
    let list = c.args.self.now.case.now.entries.now in
    let es = c.args.self.now.case.now.effects.now in
    let masks = c.args.self.now.masks.now in
    let i = c.loop-entry.entry-index in
    let e = get_or list i nowhere in
    let half = c.loop-entry.half in
    let factor : Entry → ℕ = λ e. role_factor ((g.R.Rulebook.meaning c.args.self.now.case.now.book.now).form c.args.form) c.args.role e.action.category in
    let f : Entry → List ℤ = contribution_by k.count (map k.components es) masks factor in
    elim c.if-is_variable.branch [
      | then-is_variable w ↦
          let r = w.contribution.result in
          ap (map k.components) w.half-is
          ∙ map-set k.components half _ r
          ∙ placed_yes f (zeros k.count) (content s) list c.args.self.now.case.now.laid i (map k.components half) s.limited.2 (omega arith) (sym c.is_variable.ensures ∙ w.if-is_variable.true) (k.components r)
          (contributed k.count (map k.components es) masks factor e w.of-parts.result w.factor_of-factor.result.units (k.components r) w.of-parts.ensures.own w.factor_of-factor.ensures w.contribution.ensures.value)
          c.loop-entry.invariant
      | else-is_variable w ↦
          ap (map k.components) w.half-is
          ∙ placed_no f (zeros k.count) (content s) list c.args.self.now.case.now.laid i (map k.components half) (omega arith) (sym c.is_variable.ensures ∙ w.if-is_variable.false) c.loop-entry.invariant
    ]

pub returns : goal.returns
returns g c =
    let case = c.args.self.now.case.now in
    placed_all _ _ (content case.sheet.now) case.entries.now case.laid c.loop-entry.entry-index _ (omega arith) c.loop-entry.invariant
