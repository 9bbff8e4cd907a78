-- A sheet that has only grown: actions added or resumed, pairs lifted.
use Rattle.std.proofs.Common.{◌≡◌, ℕ, Bool, true, false, ◌⊎◌, List, [], ◌∷◌}
use Rattle.std.specs.List.{AllByRecursion as All}
use Rattle.basis.specs.declared.action.Kind.{Kind}
use Rattle.basis.specs.declared.action.Kind.TheVariants.{Permanent, Prestress, Variable, Accidental, Seismic}
use Rattle.sheet.specs.declared.action.Action.{Action}
use Rattle.sheet.specs.Content.{Content}
use Rattle.sheet.specs.Calls.{switched}

-- the kinds of which an envelope only gains
abbrev pub gains : Kind → Bool
gains Permanent = false
gains Prestress = false
gains Variable = true
gains Accidental = true
gains Seismic = true

-- as it was, or resumed
abbrev pub Resumed : Action → Action → Type 0
Resumed a a' = (a' ≡ a) ⊎ ((a.active ≡ false) × (gains a.kind ≡ true) × (a' ≡ switched true a))

abbrev pub Grown : List Action → List Action → Type 0
Grown [] added = All (λ a. gains a.kind ≡ true) added
Grown (a ∷ rest) [] = ⊥
Grown (a ∷ rest) (a' ∷ rest') = Resumed a a' × Grown rest rest'

pub record Extends (s s' : Content) : Type 0 where
  pub actions : Grown s.actions s'.actions
  pub lifted : (i j : ℕ) → s'.marked i j ≡ true → s.marked i j ≡ true
