use Rattle.std.proofs.Common.{◌≤◌, ◌⊎◌, length, vec_items, sym, inl, inr, ⊎_elim, arith}
use Rattle.sheet.specs.Limits.{marked_in}
use Rattle.sheet.proofs.Keeping.{not_entered_unmarked}
use Rattle.sheet.proofs.plain.Sheet.excludes.Goals as goal

pub returns-then-a-entered : goal.returns-then-a-entered
returns-then-a-entered c =
    let s = c.args.self.now in
    let xs = vec_items s.actions in
    let past : (length xs ≤ c.args.a) ⊎ (length xs ≤ c.args.b) =
    ⊎_elim (λ h. inl (omega (arith, h, c.len-entered.ensures, s.actions.ok.0))) (λ h. inr (omega (arith, h.1, c.len-entered.ensures, s.actions.ok.0))) c.then-a-entered.either in
    sym (not_entered_unmarked xs (marked_in s.marks) c.args.a c.args.b s.paired past)
