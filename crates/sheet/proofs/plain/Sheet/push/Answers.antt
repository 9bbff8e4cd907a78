use Rattle.std.proofs.Common.{◌≤◌, List, [], ◌∷◌, ◌++◌, vec_items, vec_capacity, sym, subst, arith}
use Rattle.sheet.specs.declared.action.Action.{Action}
use Rattle.sheet.specs.Limits.{Limited, Formed, Paired, marked_in}
use Rattle.sheet.proofs.Keeping.{limited, formed_push, paired_push}
use Rattle.sheet.proofs.plain.Sheet.push.Goals as goal

pub invariant_of-self : goal.invariant_of-self
invariant_of-self c =
    let s = c.args.self.now in
    let xs = vec_items s.actions in
    let x = c.args.action in
    let after = c.push_reserved.new.self in
    let items = sym c.push_reserved.ensures.items in
    let room : 32 ≤ vec_capacity after = omega (arith, c.push_reserved.ensures.capacity, s.limited.0) in
    let L : List Action → Type 0 = λ ys. Limited (vec_capacity after) ys in
    let F : List Action → Type 0 = λ ys. Formed ys in
    let P : List Action → Type 0 = λ ys. Paired ys (marked_in s.marks) in
    record { limited = subst L items (limited (vec_capacity after) (xs ++ x ∷ []) room c.requires.room); formed = subst F items (formed_push xs x s.formed c.requires.formed); paired = subst P items (paired_push xs x (marked_in s.marks) s.paired) }
