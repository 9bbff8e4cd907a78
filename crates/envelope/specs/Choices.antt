-- The parts that the reported combination takes, by the ranking.
use Rattle.std.specs.Prelude.{ℕ, ◌^◌, Bool, true, false, cond, not, List, [], map, length, ℤ, Some, None, filter, Option, slice_index_or}
use Rattle.std.specs.List.{slice_get}
use Rattle.basis.specs.declared.action.Kind.{Kind}
use Rattle.basis.specs.declared.action.Spread.{Spread}
use Rattle.basis.specs.declared.action.Spread.TheVariants.{Fixed, Free, Alternative}
use Rattle.effects.specs.Components.{zeros}
use Rattle.effects.specs.Supplies.{exact_total, greatest_of}
use Rattle.sheet.specs.Content.{Content}
use Rattle.envelope.specs.Entries.{entries, parts_of, acts, mask_of, whole}

module _ (n : ℕ) (reaches : List ℤ → List ℤ → Bool) where
  -- zero does not rank at or above it
  abbrev pub above_zero : List ℤ → Bool
  above_zero xs = not (reaches (zeros n) xs)

  -- the first of the greatest of a list, by their values
  abbrev pub first_greatest : {A : Type 0} → (A → List ℤ) → List A → Option A
  first_greatest value list = elim (greatest_of reaches (map value list)) [ None ↦ None | Some i ↦ slice_get list i ]

  -- the lowest-numbered greatest part
  abbrev pub greatest_part : List (List ℤ) → ℕ
  greatest_part xss = elim (greatest_of reaches xss) [ None ↦ 0 | Some p ↦ p ]

  -- The mask of a variable action, if it is present: all parts if their sum is above zero (fixed), the parts above zero
  -- (free), the first greatest part if above zero (alternative). 0 where there is no such choice.
  abbrev pub choice : Spread → List (List ℤ) → ℕ
  choice Fixed xss = cond (above_zero (exact_total n xss)) (whole (length xss)) 0
  choice Free xss = mask_of (λ p. above_zero (slice_index_or xss p [])) (length xss)
  choice Alternative xss = cond (above_zero (slice_index_or xss (greatest_part xss) [])) (2 ^ greatest_part xss) 0

  -- the parts of a permanent action that are at upper
  abbrev pub at_upper : Bool → List (List ℤ) → ℕ
  at_upper true xss = choice Free xss
  at_upper false xss = choice Fixed xss

  -- the parts of an event that act
  abbrev pub event_choice : Spread → List (List ℤ) → ℕ
  event_choice Fixed xss = whole (length xss)
  event_choice Free xss = whole (length xss)
  event_choice Alternative xss = 2 ^ greatest_part xss

  -- what they add
  abbrev pub event_effect : Spread → List (List ℤ) → List ℤ
  event_effect Fixed xss = exact_total n xss
  event_effect Free xss = exact_total n xss
  event_effect Alternative xss = slice_index_or xss (greatest_part xss) []

  -- the number of the first event of greatest effect
  abbrev pub event_of : Option Kind → Content → List (List ℤ) → Option ℕ
  event_of None s xss = None
  event_of (Some k) s xss =
      elim (first_greatest (λ e. event_effect e.action.spread (parts_of xss e)) (filter (λ e. acts k e.action) (entries s))) [ None ↦ None | Some e ↦ Some e.number ]
