-- The factor at which each part acts in a combination, and the effect of the combination.
use Rattle.std.specs.Prelude.{ℕ, suc, ◌^◌, Bool, false, cond, not, ◌&&◌, List, [], ◌∷◌, map, ℤ, Some, None, sum_by, Option, ◌==◌, slice_index}
use Rattle.basis.specs.declared.category.Category.{Category}
use Rattle.basis.specs.declared.action.Kind.{Kind}
use Rattle.basis.specs.declared.action.Kind.TheVariants.{Permanent, Prestress, Variable, Accidental, Seismic}
use Rattle.effects.specs.Components.{zeros, exact_sum, exact_multiple}
use Rattle.effects.specs.Supplies.{exact_total}
use Rattle.rulebooks.specs.Books.{Form, Book}
use Rattle.sheet.specs.Content.{Content, variable_at}
use Rattle.envelope.specs.declared.combination.Combination.{Combination}
use Rattle.envelope.specs.declared.entry.Entry.{Entry}
use Rattle.envelope.specs.Entries.{entries, parts_of, has}

-- the mask of action i
abbrev pub mask : Combination → ℕ → ℕ
mask c i = slice_index c.masks i

-- action i is the one named
abbrev pub named : Option ℕ → ℕ → Bool
named None i = false
named (Some j) i = j == i

-- a variable action is present if one of its parts acts
abbrev pub present : Content → Combination → ℕ → Bool
present s c i = variable_at s i && not (mask c i == 0)

-- 2^k for each present variable action, k being its place
abbrev pub set_number : Content → Combination → ℕ
set_number s c = sum_by (λ e. cond (present s c e.number) (2 ^ e.place) 0) (entries s)

-- only a variable action has a category
abbrev pub at : Option Category → (Category → ℕ) → ℕ
at None factor = 0
at (Some c) factor = factor c

-- The factor of a part of an active action, by the action's kind and category, whether the action leads, and whether the
-- part is in the action's mask. An event acts at 1.00.
abbrev pub factor : Form → Kind → Option Category → Bool → Bool → ℕ
factor f Permanent c leads in_mask = cond in_mask f.upper f.lower
factor f Prestress c leads in_mask = f.prestress
factor f Variable c leads in_mask = cond in_mask (cond leads (at c f.leading) (at c f.accompanying)) 0
factor f Accidental c leads in_mask = cond in_mask 100000 0
factor f Seismic c leads in_mask = cond in_mask 100000 0

-- the factor at which part p of an action acts, 0 where it does not
abbrev pub coefficient : Form → Combination → Entry → ℕ → ℕ
coefficient f c e p =
    cond e.action.active
    (factor f e.action.kind e.action.category (named c.leader e.number) (has (mask c e.number) p)) 0

-- the sum of the effects of parts 0, 1, .., each times its factor, with n components
abbrev pub weighted : ℕ → (ℕ → ℕ) → List (List ℤ) → List ℤ
weighted n factor_of [] = zeros n
weighted n factor_of (xs ∷ xss) = exact_sum (exact_multiple (factor_of 0) xs) (weighted n (λ p. factor_of (suc p)) xss)

-- two factors by a mask: the first for a part that it holds
abbrev pub by_mask : ℕ → ℕ → ℕ → ℕ → ℕ
by_mask hi lo m p = cond (has m p) hi lo

-- what one action adds
abbrev pub share : ℕ → Form → List (List ℤ) → Combination → Entry → List ℤ
share n f xss c e = weighted n (coefficient f c e) (parts_of xss e)

-- the effect of a combination: the sum over all parts of the sheet, each times its factor
abbrev pub effect_of : ℕ → Content → Book → List (List ℤ) → Combination → List ℤ
effect_of n s b xss c = exact_total n (map (share n (b.form c.form) xss c) (entries s))
