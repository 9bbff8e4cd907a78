use Rattle.std.proofs.Common.{T, map, sym, subst}
use Rattle.rulebooks.specs.Books.{Book}
use Rattle.sheet.specs.Content.{Content, content}
use Rattle.sheet.specs.Histories.{issued}
use Rattle.envelope.specs.Answers.{answer}
use Rattle.envelope.specs.Promise.{OfFound}
use Rattle.envelope.proofs.Promised.{Sound, formed_all, as_reported, nothing_outranks, breaks_no_rule, not_sunk}
use Rattle.envelope.proofs.Histories.{grows_extends}
use Rattle.envelope.proofs.promise.answer_keeps_the_promise.Goals as goal

pub returns : goal.returns
returns g c =
    let s : Content = content c.args.sheet.now.sheet in
    let sheet = c.args.sheet.now.sheet in
    let b : Book = g.R.Rulebook.meaning c.args.book.now in
    let bl = g.met.R.Rulebook.laws c.args.book.now in
    let es = c.args.effects.now in
    let closed = g.met.E.Effect.closed in
    let laws = g.met.E.Effect.laws in
    let sound : Sound s.actions = record { short = sheet.limited.1; few = sheet.limited.3; some = formed_all s.actions sheet.formed } in
    let e = g.E.Effect in
    record {
      reported = as_reported closed laws s b es sound bl c.args.room;
      greatest = nothing_outranks closed laws s b es sound bl c.args.room;
      sound = breaks_no_rule closed laws s b es sound bl c.args.room;
      kept = λ h calls s₀ earlier more room₀ leaves grows begins.
          subst (λ all. OfFound (answer e.count e.reaches s₀ b (map e.components earlier) room₀) (λ ys d. OfFound (answer e.count e.reaches s b (map e.components all) c.args.room) (λ xs x. T (e.reaches xs ys))))
          (sym begins)
          (not_sunk closed laws s₀ s b earlier more room₀ c.args.room (grows_extends (issued s₀) (issued s) calls grows) sound bl);
    }
