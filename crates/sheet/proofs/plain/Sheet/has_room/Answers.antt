use Rattle.std.proofs.Common.{◌≡◌, cond, length, vec_items, ap, ◌∙◌, rules}
use Rattle.basis.specs.Vocabulary.{is_variable}
use Rattle.sheet.specs.Limits.{variables, parts_in}
use Rattle.sheet.proofs.Keeping.{limits_push}
use Rattle.sheet.proofs.plain.Sheet.has_room.Goals as goal

pub returns : goal.returns
returns c =
    let xs = vec_items c.args.self.now.actions in
    let x = c.args.action.now in
    let n : c.len.result ≡ length xs = search rules in
    let v : c.count_variable.result ≡ variables xs = c.count_variable.ensures ∙ ap variables c.deref.ensures.value in
    let p : c.count_parts.result ≡ parts_in xs = c.count_parts.ensures ∙ ap parts_in c.deref-2.ensures.value in
    let o : c.from.result ≡ cond (is_variable x.kind) 1 0 = search rules in
    let l = limits_push xs x in
    cc
