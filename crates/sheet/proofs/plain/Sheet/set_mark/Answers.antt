use Rattle.std.proofs.Common.{◌≡◌, ℕ, ◌<◌, min, max, Bool, cond, List, [], length, get_or, set, vec_items, sym, refl, ap, ◌∙◌, arith, rules}
use Rattle.sheet.specs.Limits.{marked_in}
use Rattle.sheet.specs.Content.{same_pair}
use Rattle.sheet.proofs.Marks.{same_content, mark_set}
use Rattle.sheet.proofs.Keeping.{paired_mark}
use Rattle.sheet.proofs.plain.Sheet.set_mark.Goals as goal

-- the table after the write, by the marks of its pairs
marks_after : (rows : List (List Bool)) (a b low high : ℕ) (row : List Bool) (mark : Bool) → low ≡ min a b → high ≡ max a b → low < length rows → high < 32 → length (get_or rows low []) ≡ 32 → row ≡ set (get_or rows low []) high mark → (x y : ℕ) → marked_in (set rows low row) x y ≡ cond (same_pair a b x y) mark (marked_in rows x y)
marks_after rows a b low high row mark l h within below len written x y =
    let moved : set rows low row ≡ set rows (min a b) (set (get_or rows (min a b) []) (max a b) mark) = cc in
    let size : length (get_or rows (min a b) []) ≡ 32 = ap (λ (i : ℕ). length (get_or rows i [])) (sym l) ∙ len in
    ap (λ (t : List (List Bool)). marked_in t x y) moved ∙ mark_set rows a b mark (omega arith) (omega arith) x y

pub invariant_of-self : goal.invariant_of-self
invariant_of-self c =
    let s = c.args.self.now in
    let xs = vec_items s.actions in
    let a = c.args.a in
    let b = c.args.b in
    let mark = c.args.mark in
    let within : c.min.result < length s.marks = search rules in
    let below : c.max.result < 32 = search rules in
    let after = marks_after s.marks a b c.min.result c.max.result c.put.new.row mark c.min.ensures c.max.ensures within below c.put.ensures.len c.put.ensures.after in
    record { limited = s.limited; formed = s.formed; paired = (λ x y m. paired_mark xs a b mark (marked_in s.marks) s.paired c.requires.pair x y (sym (after x y) ∙ m)) }

pub returns : goal.returns
returns c =
    let rows = c.args.self.now.marks in
    let within : c.min.result < length rows = search rules in
    let below : c.max.result < 32 = search rules in
    same_content refl (marks_after rows c.args.a c.args.b c.min.result c.max.result c.put.new.row c.args.mark c.min.ensures c.max.ensures within below c.put.ensures.len c.put.ensures.after)
