use Rattle.std.proofs.Common.{◌≡◌, ◌<◌, length, get_or, vec_items, vec_capacity, ap, ◌∙◌, rules}
use Rattle.std.proofs.lemmas.List.{get_or_read}
use Rattle.sheet.specs.declared.action.Action.{Action}
use Rattle.sheet.specs.Limits.{no_action, well_formed, marked_in}
use Rattle.sheet.specs.Calls.{switched}
use Rattle.sheet.proofs.Keeping.{limited_set, formed_set, paired_set}
use Rattle.sheet.proofs.plain.Sheet.set_active.Goals as goal

pub invariant_of-self : goal.invariant_of-self
invariant_of-self c =
    let s = c.args.self.now in
    let xs = vec_items s.actions in
    let i = c.args.number in
    let was = c.index_mut.result.now in
    let x = switched c.args.on was in
    let within : i < length xs = search rules in
    let same : was ≡ get_or xs i no_action = search (rules, get_or_read) in
    let kind = ap (λ (a : Action). a.kind) same in
    record { limited = limited_set (vec_capacity s.actions) xs i x s.limited within kind (ap (λ (a : Action). a.parts) same); formed = formed_set xs i x s.formed within (ap well_formed same ∙ s.formed i within); paired = paired_set xs i x (marked_in s.marks) s.paired within kind }
