-- What a list of actions and a table of marks must keep to be a sheet.
use Rattle.std.specs.Prelude.{◌≡◌, ℕ, ◌<◌, ◌≤◌, min, max, Bool, true, false, not, ◌&&◌, List, [], length, is_some, None, sum_by, count_by, ◌==◌, nat_le, slice_index_or}
use Rattle.basis.specs.declared.action.Kind.TheVariants.{Permanent}
use Rattle.basis.specs.declared.action.Spread.TheVariants.{Fixed}
use Rattle.basis.specs.Vocabulary.{is_variable, allows}
use Rattle.sheet.specs.declared.action.Action.{Action}

-- how many of the actions are variable
abbrev pub variables : List Action → ℕ
variables = count_by (λ a. is_variable a.kind)

-- how many parts the actions have together
abbrev pub parts_in : List Action → ℕ
parts_in = sum_by (λ a. a.parts)

-- at most 32 actions, 12 variable actions and 192 parts
abbrev pub in_limits : List Action → Bool
in_limits xs = (nat_le (length xs) 32 && nat_le (variables xs) 12) && nat_le (parts_in xs) 192

-- an action has 1 to 16 parts
abbrev pub parts_allowed : ℕ → Bool
parts_allowed n = nat_le 1 n && nat_le n 16

-- both or neither
abbrev pub agree : Bool → Bool → Bool
agree true b = b
agree false b = not b

-- a category exactly if variable, a spread of its kind, and 1 to 16 parts
abbrev pub well_formed : Action → Bool
well_formed a = agree (is_variable a.kind) (is_some a.category) && (allows a.kind a.spread && parts_allowed a.parts)

-- what stands past the last action
abbrev pub no_action : Action
no_action = record { kind = Permanent; category = None; spread = Fixed; parts = 0; active = false }

-- two different variable actions
abbrev pub can_pair : List Action → ℕ → ℕ → Bool
can_pair xs a b = not (a == b) && (is_variable (slice_index_or xs a no_action).kind && is_variable (slice_index_or xs b no_action).kind)

-- A mark stands at the row of the lower number and the column of the higher, so that either order is one pair.
abbrev pub marked_in : List (List Bool) → ℕ → ℕ → Bool
marked_in rows a b = slice_index_or (slice_index_or rows (min a b) []) (max a b) false

-- the limits, and memory for as many actions
abbrev pub Limited : ℕ → List Action → Type 0
Limited room xs = (32 ≤ room) × (length xs ≤ 32) × (variables xs ≤ 12) × (parts_in xs ≤ 192)

-- each entered action is well-formed
abbrev pub Formed : List Action → Type 0
Formed xs = (i : ℕ) → i < length xs → well_formed (slice_index_or xs i no_action) ≡ true

-- only pairs of two different variable actions are marked
abbrev pub Paired : List Action → (ℕ → ℕ → Bool) → Type 0
Paired xs marked = (a b : ℕ) → marked a b ≡ true → can_pair xs a b ≡ true
