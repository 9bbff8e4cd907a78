-- What one action has in the masks and in the base of a form; only private functions rest on it.
use Rattle.std.specs.Prelude.{ℕ, Bool, false, cond, List, length, ℤ, Option}
use Rattle.basis.specs.declared.action.Kind.{Kind}
use Rattle.basis.specs.declared.action.Kind.TheVariants.{Permanent, Prestress, Variable, Accidental, Seismic}
use Rattle.basis.specs.Vocabulary.{is_variable}
use Rattle.effects.specs.Components.{zeros}
use Rattle.rulebooks.specs.Books.{Form}
use Rattle.envelope.specs.declared.entry.Entry.{Entry}
use Rattle.envelope.specs.Entries.{has, whole}
use Rattle.envelope.specs.Combinations.{named, weighted, factor}
use Rattle.envelope.specs.Choices.{choice, at_upper, event_choice}

module _ (n : ℕ) (reaches : List ℤ → List ℤ → Bool) (splits : Bool) (event : Option ℕ) where
  -- the mask of an active action of the kind with these parts, a variable one being present if it has a choice
  abbrev pub mask_in_kind : Entry → List (List ℤ) → Kind → ℕ
  mask_in_kind e xss Permanent = at_upper n reaches splits xss
  mask_in_kind e xss Prestress = whole (length xss)
  mask_in_kind e xss Variable = choice n reaches e.action.spread xss
  mask_in_kind e xss Accidental = cond (named event e.number) (event_choice n reaches e.action.spread xss) 0
  mask_in_kind e xss Seismic = cond (named event e.number) (event_choice n reaches e.action.spread xss) 0

  -- the mask of an action, 0 if suspended
  abbrev pub full_mask : Entry → List (List ℤ) → ℕ
  full_mask e xss = cond e.action.active (mask_in_kind e xss e.action.kind) 0

-- what an action that is not variable adds with a mask, and nothing for a variable or suspended one
abbrev pub fixed_share : ℕ → Form → Entry → ℕ → List (List ℤ) → List ℤ
fixed_share n f e m xss =
    cond e.action.active
    (cond (is_variable e.action.kind) (zeros n) (weighted n (λ p. factor f e.action.kind e.action.category false (has m p)) xss))
    (zeros n)
