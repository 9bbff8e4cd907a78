use Rattle.std.proofs.Common.{map, drop, sym, ap, ◌∙◌}
use Rattle.rulebooks.specs.Books.{Book}
use Rattle.sheet.specs.Content.{content}
use Rattle.envelope.specs.Combinations.{effect_of}
use Rattle.envelope.proofs.Ground.{on_sheet, entries_within}
use Rattle.envelope.proofs.Recorded.{laid_here, leader_fits, event_fits, recorded, reported_so, strip_left}
use Rattle.envelope.proofs.report.report.Goals as goal

pub invariant_of-case : goal.invariant_of-case
invariant_of-case g c =
    let sheet = c.args.sheet.now in
    let laid = laid_here (content sheet) c.laid_out-places.result c.actions.result.now c.actions.ensures sheet.limited.1 c.laid_out-places.ensures in
    record { laid = laid; within = entries_within (content sheet) _ laid sheet.limited.1 sheet.limited.2; supplied = c.requires.supplied }

pub in_record-requires : goal.in_record-requires
in_record-requires g c =
    let met = g.met.E.Effect in
    let sheet = c.args.sheet.now in
    let b : Book = g.R.Rulebook.meaning c.args.book.now in
    let xss = map g.E.Effect.components c.args.effects.now in
    let set = on_sheet met.closed met.laws sheet b c.args.effects.now (g.met.R.Rulebook.laws c.args.book.now) c.requires.supplied in
    let best = c.best_combination-best in
    leader_fits met.closed met.laws (content sheet) b xss set sheet.limited.2 best.result.form best.result.leader best.result.set best.ensures.best

pub in_record-requires-2 : goal.in_record-requires-2
in_record-requires-2 g c =
    let met = g.met.E.Effect in
    let sheet = c.args.sheet.now in
    let b : Book = g.R.Rulebook.meaning c.args.book.now in
    let xss = map g.E.Effect.components c.args.effects.now in
    let set = on_sheet met.closed met.laws sheet b c.args.effects.now (g.met.R.Rulebook.laws c.args.book.now) c.requires.supplied in
    let best = c.best_combination-best in
    event_fits met.closed met.laws (content sheet) b xss set sheet.limited.2 best.result.form best.result.leader best.result.set best.ensures.best c.chosen_event-event.result c.chosen_event-event.ensures

pub returns : goal.returns
returns g c =
    let met = g.met.E.Effect in
    let sheet = c.args.sheet.now in
    let b : Book = g.R.Rulebook.meaning c.args.book.now in
    let xss = map g.E.Effect.components c.args.effects.now in
    let set = on_sheet met.closed met.laws sheet b c.args.effects.now (g.met.R.Rulebook.laws c.args.book.now) c.requires.supplied in
    let best = c.best_combination-best in
    let same =
    recorded met.closed met.laws (content sheet) b xss set sheet.limited.2 best.result.form best.result.leader best.result.set best.ensures.best
    c.in_record.result c.in_record-2.result c.full_masks-masks.result c.masks_in.result c.in_record.ensures (c.in_record-2.ensures ∙ c.chosen_event-event.ensures) c.full_masks-masks.ensures c.masks_in.ensures in
    record {
      reported = reported_so met.closed met.laws (content sheet) b xss set sheet.limited.2 best.result.form best.result.leader best.result.set best.ensures.best _ same;
      effect = best.ensures.effect ∙ ap (effect_of g.E.Effect.count (content sheet) b xss) (sym same);
      filled = strip_left met.closed met.laws (content sheet) b xss set sheet.limited.2 c.full_masks-masks.result (map g.E.Effect.components best.new.strip) (drop 24 (map g.E.Effect.components c.args.strip.now)) c.full_masks-masks.ensures best.ensures.halves;
      rest = best.ensures.rest;
    }
