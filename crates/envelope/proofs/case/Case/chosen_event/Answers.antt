use Rattle.std.proofs.Common.{◌≡◌, ◌+◌, map, get_or, drop, Some, rules, sym, ap, ◌∙◌}
use Rattle.std.specs.Option.{option_map}
use Rattle.basis.specs.Vocabulary.{event_kind}
use Rattle.envelope.specs.Entries.{nowhere}
use Rattle.envelope.specs.Choices.{event_of}
use Rattle.sheet.specs.Content.{content}
use Rattle.envelope.proofs.EventWalk.{events_left, event_found, event_passed, event_taken}
use Rattle.std.proofs.lemmas.List.{drop_more, drop_all}
use Rattle.envelope.proofs.case.Case.chosen_event.Goals as goal
use Rattle.envelope.proofs.case.Case.chosen_event.Goals.{then-acts, else-acts}

pub loop-entry-preserved : goal.loop-entry-preserved
loop-entry-preserved g c =
    let e = g.E.Effect in
    let xss = map e.components c.args.self.now.effects.now in
    let sought = c.in_ok-sought.sought in
    let list = c.args.self.now.entries.now in
    let i = c.loop-entry.entry-index in
    let best = c.loop-entry.best in
    let next = c.if-acts.best in
    let rest = drop (i + 1) list in
    let so = ap (events_left e.components e.count e.reaches sought xss best) (sym (drop_more list i nowhere c.loop-entry-test.true)) ∙ c.loop-entry.invariant in
    elim c.if-acts.branch [
      | then-acts w ↦
          event_taken e.components e.count e.reaches sought xss (get_or list i nowhere) rest best next _ so
          w.event_effect-effect.result w.of.result w.greater.result (sym c.acts.ensures ∙ w.if-acts.true) w.of.ensures.own w.event_effect-effect.ensures w.greater.ensures w.best-is
      | else-acts w ↦ event_passed e.components e.count e.reaches sought xss (get_or list i nowhere) rest best next _ so (sym c.acts.ensures ∙ w.if-acts.false) w.best-is
    ]

pub returns : goal.returns
returns g c =
    let e = g.E.Effect in
    let case = c.args.self.now in
    let xss = map e.components case.effects.now in
    let s = content case.sheet.now in
    let sought = c.in_ok-sought.sought in
    let list = case.entries.now in
    let i = c.loop-entry.entry-index in
    let best = c.loop-entry.best in
    let kind = event_kind (g.R.Rulebook.meaning case.book.now).situation in
    let is : kind ≡ Some sought = sym (c.event_kind.ensures ∙ ap event_kind c.situation_of.ensures.value) ∙ c.in_ok-sought.was in
    let so = ap (events_left e.components e.count e.reaches sought xss best) (sym (drop_all i list c.loop-entry-test.false)) ∙ c.loop-entry.invariant in
    let found : option_map (λ b. b.number) best ≡ event_of e.count e.reaches kind s xss = event_found e.components e.count e.reaches sought xss s kind list best is case.laid so in
    search rules
