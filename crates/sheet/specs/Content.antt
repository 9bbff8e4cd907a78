-- What is on a sheet.
use Rattle.std.specs.Prelude.{ℕ, Bool, false, cond, ◌&&◌, ◌||◌, List, [], ◌∷◌, ◌++◌, length, vec_items, ◌==◌, nat_lt, slice_index_or, slice_set}
use Rattle.basis.specs.Vocabulary.{is_variable}
use Rattle.sheet.specs.declared.action.Action.{Action}
use Rattle.sheet.specs.declared.plain.Sheet.{Sheet}
use Rattle.sheet.specs.declared.states.Draft.{Draft}
use Rattle.sheet.specs.Limits.{no_action, marked_in}

-- the actions in order of entry, and which pairs of action numbers are marked as excluded
pub record Content : Type 0 where
  pub actions : List Action
  pub marked : ℕ → ℕ → Bool

-- what is on the plain sheet of the code
abbrev pub content : Sheet → Content
content s = record { actions = vec_items s.actions; marked = marked_in s.marks }

-- on a draft
abbrev pub on_draft : Draft → Content
on_draft d = content d.sheet

-- a new sheet: no action, no marked pair
abbrev pub blank : Content
blank = record { actions = []; marked = λ _ _. false }

-- the action of a number
abbrev pub action_at : Content → ℕ → Action
action_at s a = slice_index_or s.actions a no_action

-- an action has the number
abbrev pub entered : Content → ℕ → Bool
entered s a = nat_lt a (length s.actions)

-- the action of the number is variable
abbrev pub variable_at : Content → ℕ → Bool
variable_at s a = is_variable (action_at s a).kind

-- the sheet with one action more
abbrev pub with_entry : Content → Action → Content
with_entry s x = record { actions = s.actions ++ x ∷ []; marked = s.marked }

-- the sheet with another action of that number
abbrev pub with_action : Content → ℕ → Action → Content
with_action s a x = record { actions = slice_set s.actions a x; marked = s.marked }

-- either order is one pair
abbrev pub same_pair : ℕ → ℕ → ℕ → ℕ → Bool
same_pair a b x y = (x == a && y == b) || (x == b && y == a)

-- the sheet with a pair marked or not
abbrev pub with_mark : Content → ℕ → ℕ → Bool → Content
with_mark s a b mark = record { actions = s.actions; marked = λ x y. cond (same_pair a b x y) mark (s.marked x y) }
