use Rattle.std.proofs.Common.{sym, ◌∙◌}
use lib.ListN.{length-map}
use Rattle.rulebooks.specs.Books.{Book}
use Rattle.sheet.specs.Content.{content}
use Rattle.envelope.proofs.Ground.{sound_of}
use Rattle.envelope.proofs.Promised.{answer_10, answer_11}
use Rattle.envelope.proofs.envelope.check.Goals as goal

pub returns-then-effects-parts : goal.returns-then-effects-parts
returns-then-effects-parts g c =
    let met = g.met.E.Effect in
    let sheet = c.args.sheet.now in
    let b : Book = g.R.Rulebook.meaning c.args.book.now in
    let es = c.args.effects.now in
    let so = sound_of _ (content sheet).actions sheet.limited sheet.formed in
    let bl = g.met.R.Rulebook.laws c.args.book.now in
    answer_10 met.closed met.laws (content sheet) b es so bl c.args.room (λ e. c.if-effects-parts.true (sym (length-map es g.E.Effect.components) ∙ e ∙ sym c.parts.ensures))

pub returns-then-room-lt-STRIP : goal.returns-then-room-lt-STRIP
returns-then-room-lt-STRIP g c =
    let met = g.met.E.Effect in
    let sheet = c.args.sheet.now in
    let b : Book = g.R.Rulebook.meaning c.args.book.now in
    let es = c.args.effects.now in
    let so = sound_of _ (content sheet).actions sheet.limited sheet.formed in
    let bl = g.met.R.Rulebook.laws c.args.book.now in
    answer_11 met.closed met.laws (content sheet) b es so bl c.args.room (length-map es g.E.Effect.components ∙ c.if-effects-parts.false ∙ c.parts.ensures) c.if-room-lt-STRIP.true
