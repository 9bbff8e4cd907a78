-- What each call answers and what it leaves on the sheet: its questions are put in order, and the first no refuses it.
use Rattle.std.specs.Prelude.{ℕ, Bool, true, false, cond, not, ◌&&◌, [], ◌∷◌, ◌++◌, length, Some, None, Option, ◌==◌}
use Rattle.basis.specs.declared.action.Kind.{Kind}
use Rattle.basis.specs.declared.action.Spread.{Spread}
use Rattle.basis.specs.declared.category.Category.{Category}
use Rattle.basis.specs.Vocabulary.{kind_of, is_variable, spread_of, allows, category_of}
use Rattle.sheet.specs.declared.action.Action.{Action}
use Rattle.sheet.specs.Limits.{in_limits, parts_allowed, can_pair}
use Rattle.sheet.specs.Content.{Content, action_at, entered, variable_at, with_entry, with_action, with_mark}
use Rattle.sheet.specs.Answers.{Answer, granted, denied}

-- an answer, and what is on the sheet after it
abbrev pub Outcome : Type 0 → Type 0
Outcome X = Answer X × Content

-- a question of yes or no
abbrev pub ask : {X : Type 0} → ℕ → Bool → Answer X → Answer X
ask q true rest = rest
ask q false rest = denied q

-- a question whose yes is a value
abbrev pub ask_for : {X Y : Type 0} → ℕ → Option Y → (Y → Answer X) → Answer X
ask_for q None rest = denied q
ask_for q (Some y) rest = rest y

-- an accepted call answers and changes the sheet, a refused one leaves it as it was
abbrev pub settled : {X Y : Type 0} → Content → Answer X → (X → Y) → (X → Content) → Outcome Y
settled s (granted x) answer after = (granted (answer x), after x)
settled s (denied q) answer after = (denied q, s)

-- a variable action takes one of the letters, any other kind the mark '-'
abbrev pub category_for : Kind → ℕ → Option (Option Category)
category_for kind c =
    cond (is_variable kind)
    (elim (category_of c) [ None ↦ None | Some x ↦ Some (Some x) ])
    (cond (c == 45) (Some None) None)

-- a spread that the kind allows
abbrev pub spread_for : Kind → ℕ → Option Spread
spread_for kind n = elim (spread_of n) [ None ↦ None | Some s ↦ cond (allows kind s) (Some s) None ]

-- the action that a caller describes by a kind, a category, a spread and a number of parts
abbrev pub described : ℕ → ℕ → ℕ → ℕ → Answer Action
described k c d p =
    ask_for 1 (kind_of k) (λ kind.
    ask_for 2 (category_for kind c) (λ category.
    ask_for 3 (spread_for kind d) (λ spread.
    ask 4 (parts_allowed p) (granted (record { kind = kind; category = category; spread = spread; parts = p; active = true })))))

-- a described action that the sheet has room for
abbrev pub admitted : Content → Answer Action → Answer Action
admitted s (denied q) = denied q
admitted s (granted x) = ask 5 (in_limits (s.actions ++ x ∷ [])) (granted x)

-- enter adds an active action and answers its number
abbrev pub entering : Content → ℕ → ℕ → ℕ → ℕ → Outcome ℕ
entering s k c d p =
    settled s (admitted s (described k c d p)) (λ _. length s.actions) (with_entry s)

-- two entered, different, variable actions whose mark would change
abbrev pub pair_to_mark : Content → ℕ → ℕ → Bool → Answer Unit
pair_to_mark s a b changes =
    ask 6 (entered s a && entered s b)
    (ask 7 (can_pair s.actions a b)
    (ask 8 changes (granted tt)))

-- exclude marks a pair
abbrev pub excluding : Content → ℕ → ℕ → Outcome Unit
excluding s a b = settled s (pair_to_mark s a b (not (s.marked a b))) (λ _. tt) (λ _. with_mark s a b true)

-- lift unmarks a pair
abbrev pub lifting : Content → ℕ → ℕ → Outcome Unit
lifting s a b = settled s (pair_to_mark s a b (s.marked a b)) (λ _. tt) (λ _. with_mark s a b false)

-- an entered variable action, and a letter that stands for a category
abbrev pub new_category : Content → ℕ → ℕ → Answer Category
new_category s a letter = ask 6 (entered s a) (ask 7 (variable_at s a) (ask_for 2 (category_of letter) granted))

-- an action with another category
abbrev pub with_category : Category → Action → Action
with_category c x = record { kind = x.kind; category = Some c; spread = x.spread; parts = x.parts; active = x.active }

-- recast changes the category of one action
abbrev pub recasting : Content → ℕ → ℕ → Outcome Unit
recasting s a letter = settled s (new_category s a letter) (λ _. tt) (λ c. with_action s a (with_category c (action_at s a)))

-- an entered action whose switch would change it
abbrev pub to_switch : Content → ℕ → Bool → Answer Unit
to_switch s a changes = ask 6 (entered s a) (ask 9 changes (granted tt))

-- an action switched on or off
abbrev pub switched : Bool → Action → Action
switched on x = record { kind = x.kind; category = x.category; spread = x.spread; parts = x.parts; active = on }

-- suspend switches an active action off
abbrev pub suspending : Content → ℕ → Outcome Unit
suspending s a = settled s (to_switch s a (action_at s a).active) (λ _. tt) (λ _. with_action s a (switched false (action_at s a)))

-- resume switches a suspended one on
abbrev pub resuming : Content → ℕ → Outcome Unit
resuming s a = settled s (to_switch s a (not (action_at s a).active)) (λ _. tt) (λ _. with_action s a (switched true (action_at s a)))
