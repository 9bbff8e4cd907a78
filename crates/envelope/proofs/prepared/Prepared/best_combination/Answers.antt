use Rattle.std.proofs.Common.{◌≡◌, ◌+◌, ◌-◌, ◌<◌, ◌++◌, map, drop, sym, refl, ap, ◌∙◌, subst, arith}
use Rattle.rulebooks.specs.Books.{Book}
use Rattle.sheet.specs.Content.{content}
use Rattle.envelope.specs.declared.report.Candidate.{Candidate}
use Rattle.envelope.specs.Reported.{with_chosen}
use Rattle.envelope.specs.Layout.{both_halves}
use Rattle.envelope.specs.Forms.{BestAmong}
use Rattle.envelope.proofs.Ground.{on_sheet}
use Rattle.envelope.proofs.Forms.{Found, found_first, found_keeps, found_takes, rest_same}
use Rattle.envelope.proofs.prepared.Prepared.best_combination.Goals as goal
use Rattle.envelope.proofs.prepared.Prepared.best_combination.Goals.{then-not-at_or_above, else-not-at_or_above}

pub loop-form-init : goal.loop-form-init
loop-form-init g c =
    let met = g.met.E.Effect in
    let e = g.E.Effect in
    let best = c.best_in_form-best in
    let set = on_sheet met.closed met.laws c.args.self.now.case.now.sheet.now _ c.args.self.now.case.now.effects.now (g.met.R.Rulebook.laws c.args.self.now.case.now.book.now) c.args.self.now.case.now.supplied in
    let h = found_first met.closed met.laws _ _ _ set best.result.form best.result.leader best.result.set (e.components best.result.effect) best.ensures.form (best.ensures.best, best.ensures.effect) in
    (h.0, h.1, best.ensures.halves ∙ ap (λ r. both_halves e.count (map e.components c.args.self.now.case.now.effects.now) c.args.self.now.masks.now ((g.R.Rulebook.meaning c.args.self.now.case.now.book.now).form 0) (content c.args.self.now.case.now.sheet.now) ++ r) (sym (rest_same e.components best.new.strip c.args.strip.now best.ensures.rest)), refl)

pub loop-form-preserved : goal.loop-form-preserved
loop-form-preserved g c =
    let met = g.met.E.Effect in
    let e = g.E.Effect in
    let s = content c.args.self.now.case.now.sheet.now in
    let b : Book = g.R.Rulebook.meaning c.args.self.now.case.now.book.now in
    let xss = map e.components c.args.self.now.case.now.effects.now in
    let k = c.loop-form.form in
    let best = c.loop-form.best in
    let other = c.best_in_form-other in
    let o = other.result in
    let set = on_sheet met.closed met.laws c.args.self.now.case.now.sheet.now _ c.args.self.now.case.now.effects.now (g.met.R.Rulebook.laws c.args.self.now.case.now.book.now) c.args.self.now.case.now.supplied in
    let inv = c.loop-form.invariant in
    let begun = c.best_in_form-best.new.strip in
    let strip : map e.components other.new.strip ≡ both_halves e.count xss c.args.self.now.masks.now (b.form (k + 1 - 1)) s ++ drop 24 (map e.components begun) =
    other.ensures.halves
    ∙ ap (λ r. both_halves e.count xss c.args.self.now.masks.now (b.form k) s ++ r) (rest_same e.components c.loop-form.strip begun inv.3)
    ∙ ap (λ i. both_halves e.count xss c.args.self.now.masks.now (b.form i) s ++ drop 24 (map e.components begun)) (omega arith) in
    let rest = other.ensures.rest ∙ inv.3 in
    elim c.if-not-at_or_above.branch [
      | then-not-at_or_above w ↦
          let h = found_takes met.closed met.laws s b xss set k best.form o.form best.leader o.leader best.set o.set (e.components best.effect) (e.components o.effect) (inv.0, inv.1) other.ensures.form (other.ensures.best, other.ensures.effect) w.if-not-at_or_above.ensures in
          let t = subst (λ (d : Candidate g.row.E.Denot). Found met.closed met.laws s b xss set (λ f. f < k + 1) d.form d.leader d.set (e.components d.effect)) (sym w.best-is) h in
          (t.0, t.1, strip, rest)
      | else-not-at_or_above w ↦
          let h = found_keeps met.closed met.laws s b xss set k best.form o.form best.leader o.leader best.set o.set (e.components best.effect) (e.components o.effect) (inv.0, inv.1) other.ensures.form (other.ensures.best, other.ensures.effect) w.if-not-at_or_above.ensures in
          let t = subst (λ (d : Candidate g.row.E.Denot). Found met.closed met.laws s b xss set (λ f. f < k + 1) d.form d.leader d.set (e.components d.effect)) (sym w.best-is) h in
          (t.0, t.1, strip, rest)
    ]

pub returns : goal.returns
returns g c =
    let e = g.E.Effect in
    let s = content c.args.self.now.case.now.sheet.now in
    let b : Book = g.R.Rulebook.meaning c.args.self.now.case.now.book.now in
    let xss = map e.components c.args.self.now.case.now.effects.now in
    let inv = c.loop-form.invariant in
    let begun = c.best_in_form-best.new.strip in
    let some = (g.met.R.Rulebook.laws c.args.self.now.case.now.book.now).some in
    let ended : c.loop-form.form ≡ b.forms = omega (arith, c.forms_of-form-end.ensures, c.loop-form-test.false, c.loop-form.auto.form-end (omega (arith, c.forms_of-form-end.ensures, some))) in
    record {
      best = subst (λ i. BestAmong e.count e.reaches s b xss (λ f. f < i) (with_chosen e.count e.reaches s b xss c.loop-form.best.form c.loop-form.best.leader c.loop-form.best.set)) ended inv.0;
      effect = inv.1;
      halves = inv.2
          ∙ ap (λ i. both_halves e.count xss c.args.self.now.masks.now (b.form (i - 1)) s ++ drop 24 (map e.components begun)) ended
          ∙ ap (λ r. both_halves e.count xss c.args.self.now.masks.now (b.form (b.forms - 1)) s ++ r) (rest_same e.components begun c.args.strip.now c.best_in_form-best.ensures.rest);
      rest = inv.3 ∙ c.best_in_form-best.ensures.rest;
    }
