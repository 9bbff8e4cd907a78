use Rattle.std.proofs.Common.{Err, subst}
use Rattle.std.proofs.lemmas.Result.{err_from_is_err_and}
use Rattle.rulebooks.specs.Books.{Book}
use Rattle.sheet.specs.declared.plain.Sheet.{Sheet}
use Rattle.sheet.specs.Content.{content}
use Rattle.envelope.specs.Answers.{reply_of, found}
use Rattle.envelope.specs.Promise.{WholePromise}
use Rattle.envelope.proofs.Ground.{sound_of}
use Rattle.envelope.proofs.Kept.{run_law, promised_refusal, promised_answer, supplied_so}
use Rattle.envelope.proofs.envelope.envelope.Goals as goal

pub returns-in_err-check : goal.returns-in_err-check
returns-in_err-check g c =
    let met = g.met.E.Effect in
    let e = g.E.Effect in
    let sheet = c.sheet-sheet.result.now in
    let b : Book = g.R.Rulebook.meaning c.args.book.now in
    let es = c.args.effects.now in
    let so = sound_of _ (content sheet).actions sheet.limited sheet.formed in
    let bl = g.met.R.Rulebook.laws c.args.book.now in
    let p = err_from_is_err_and c.from_residual.result c.from_residual.ensures.1 in
    let q = c.in_err-check.field-0.0 in
    let strip = c.args.strip.now in
    rw (p.1, p.2) (record {
      promise = subst (λ (s : Sheet). WholePromise e.components e.count e.reaches (content s) b es strip strip (reply_of e.components (Err q))) c.sheet-sheet.ensures.same
          (promised_refusal met.closed met.laws b bl (content sheet) es so strip q c.in_err-check.ensures);
      runs = run_law met.closed met.laws b bl;
    })

pub report-requires : goal.report-requires
report-requires g c =
    let met = g.met.E.Effect in
    let e = g.E.Effect in
    let sheet = c.sheet-sheet.result.now in
    let b : Book = g.R.Rulebook.meaning c.args.book.now in
    let es = c.args.effects.now in
    let so = sound_of _ (content sheet).actions sheet.limited sheet.formed in
    let bl = g.met.R.Rulebook.laws c.args.book.now in
    let a = c.in_ok-check.ensures in
    record { supplied = supplied_so met.closed met.laws b bl (content sheet) es so _ a; hand = a.hand; long = a.long }

pub returns : goal.returns
returns g c =
    let met = g.met.E.Effect in
    let e = g.E.Effect in
    let sheet = c.sheet-sheet.result.now in
    let b : Book = g.R.Rulebook.meaning c.args.book.now in
    let es = c.args.effects.now in
    let so = sound_of _ (content sheet).actions sheet.limited sheet.formed in
    let bl = g.met.R.Rulebook.laws c.args.book.now in
    let before = c.args.strip.now in
    let after = c.report.new.strip in
    let x = c.report.result.effect in
    let y = c.report.result.combination in
    record {
      promise = subst (λ (s : Sheet). WholePromise e.components e.count e.reaches (content s) b es before after (found (e.components x) y)) c.sheet-sheet.ensures.same
          (promised_answer met.closed met.laws b bl (content sheet) es so before after x y c.in_ok-check.ensures c.report.ensures.reported c.report.ensures.effect c.report.ensures.filled c.report.ensures.rest);
      runs = run_law met.closed met.laws b bl;
    }
