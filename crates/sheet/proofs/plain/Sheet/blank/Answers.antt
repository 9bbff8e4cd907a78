use Rattle.std.proofs.Common.{◌≡◌, ℕ, Bool, false, List, replicate, vec_capacity, sym, ap, ◌∙◌, subst, arith, lit≤}
use Rattle.std.proofs.lemmas.Bool.{true≢false}
use Rattle.sheet.specs.declared.action.Action.{Action}
use Rattle.sheet.specs.Limits.{Limited, Formed, marked_in}
use Rattle.sheet.proofs.Marks.{none_marked}
use Rattle.sheet.proofs.plain.Sheet.blank.Goals as goal

unmarked : (rows : List (List Bool)) → rows ≡ replicate 32 (replicate 32 false) → (a b : ℕ) → marked_in rows a b ≡ false
unmarked rows e a b = ap (λ (t : List (List Bool)). marked_in t a b) e ∙ none_marked a b

pub invariant_of-result : goal.invariant_of-result
invariant_of-result c =
    let v = c.in_ok-actions.actions in
    let made = c.in_ok-actions.ensures in
    let L : List Action → Type 0 = λ xs. Limited (vec_capacity v) xs in
    let F : List Action → Type 0 = λ xs. Formed xs in
    record { limited = subst L (sym made.items) (made.capacity, lit≤ tt, lit≤ tt, lit≤ tt); formed = subst F (sym made.items) (λ i h. absurd (omega arith)); paired = (λ a b m. absurd (true≢false (sym m ∙ unmarked c.no_marks.result c.no_marks.ensures a b))) }
