use Rattle.std.proofs.Common.{◌≤◌, map, length, drop, refl, mul-le-mul_right, arith}
use Rattle.sheet.specs.Content.{content}
use Rattle.sheet.proofs.Marks.{marks_symmetric}
use Rattle.sheet.proofs.Laws.{sound_from}
use Rattle.envelope.proofs.Ground.{on_sheet}
use Rattle.envelope.proofs.InForm.{form_searchable, form_best}
use Rattle.envelope.proofs.prepared.Prepared.best_in_form.Goals as goal

pub invariant_of-contest : goal.invariant_of-contest
invariant_of-contest g c =
    let met = g.met.E.Effect in
    let prepared = c.args.self.now in
    let case = prepared.case.now in
    let b = g.R.Rulebook.meaning case.book.now in
    let set = on_sheet met.closed met.laws case.sheet.now b case.effects.now (g.met.R.Rulebook.laws case.book.now) case.supplied in
    form_searchable met.closed met.laws (content case.sheet.now) b (map g.E.Effect.components case.effects.now) set case.sheet.now.limited.2 c.args.form
    c.fill_strip.new.strip (drop 24 (map g.E.Effect.components c.args.strip.now)) prepared.masks.now prepared.roster.now c.has_leader.result c.base.result
    prepared.full prepared.placed c.fill_strip.ensures.halves c.has_leader.ensures c.base.ensures

pub returns : goal.returns
returns g c =
    let met = g.met.E.Effect in
    let prepared = c.args.self.now in
    let case = prepared.case.now in
    let sheet = case.sheet.now in
    let b = g.R.Rulebook.meaning case.book.now in
    let set = on_sheet met.closed met.laws sheet b case.effects.now (g.met.R.Rulebook.laws case.book.now) case.supplied in
    let sound = sound_from (content sheet) sheet.limited sheet.formed sheet.paired (marks_symmetric sheet.marks) in
    let h = form_best met.closed met.laws (content sheet) b (map g.E.Effect.components case.effects.now) set sheet.limited.2 c.args.form
    c.fill_strip.new.strip (drop 24 (map g.E.Effect.components c.args.strip.now)) prepared.masks.now prepared.roster.now c.has_leader.result c.base.result
    prepared.full prepared.placed c.fill_strip.ensures.halves c.has_leader.ensures c.base.ensures
    prepared.hand c.requires.one sound.symmetric sound.irreflexive
    c.best_set-peak.result.leader c.leader_number.result c.best_set-peak.result.set c.set_number.result (g.E.Effect.components c.best_set-peak.result.effect)
    c.best_set-peak.ensures.best c.best_set-peak.ensures.effect c.leader_number.ensures c.set_number.ensures in
    record { form = refl; best = h.0; effect = h.1; halves = c.fill_strip.ensures.halves; rest = c.fill_strip.ensures.rest }

-- twelve effects fit, since the strip has at least as many
pub offset_bounds-12 : goal.offset_bounds-12
offset_bounds-12 g c =
    let long : 12 ≤ length c.args.strip.now = (let l = c.requires.long in omega arith) in
    let fits = c.well_formed in
    omega (arith, mul-le-mul_right (prog.Memory.size (denote.Param.layout g.row.E)) long)
