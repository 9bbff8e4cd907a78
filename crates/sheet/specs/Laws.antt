-- What holds of every sheet and of every call, in the words of the load sheet.
use Rattle.std.specs.Prelude.{◌≡◌, ℕ, ◌<◌, ◌≤◌, true, false, List, length, ◌≢◌}
use Rattle.sheet.specs.declared.action.Action.{Action}
use Rattle.sheet.specs.Limits.{variables, parts_in, well_formed}
use Rattle.sheet.specs.Content.{Content, action_at, variable_at, same_pair}
use Rattle.sheet.specs.Answers.{granted}
use Rattle.sheet.specs.Calls.{Outcome, entering, excluding, lifting, recasting, suspending, resuming}
use Rattle.sheet.specs.Histories.{Edit, Call, State, held, accepted, edited, Leaves}

-- a sheet within its limits, of well-formed actions, whose marked pairs are pairs of two different variable actions
pub record Sound (s : Content) : Type 0 where
  pub few_actions : length s.actions ≤ 32
  pub few_variable : variables s.actions ≤ 12
  pub few_parts : parts_in s.actions ≤ 192
  pub each_well_formed : (i : ℕ) → i < length s.actions → well_formed (action_at s i) ≡ true
  pub symmetric : (a b : ℕ) → s.marked a b ≡ s.marked b a
  pub irreflexive : (a : ℕ) → s.marked a a ≡ false
  pub only_variable : (a b : ℕ) → s.marked a b ≡ true → (variable_at s a ≡ true) × (variable_at s b ≡ true)

-- one action is changed, and stays the same in what `Same` says; every other entry and all marks are left alone
pub record OnlyAction (Same : Action → Action → Type 0) (a : ℕ) (s s' : Content) : Type 0 where
  pub count : length s'.actions ≡ length s.actions
  pub others : (i : ℕ) → (i ≢ a) → action_at s' i ≡ action_at s i
  pub itself : Same (action_at s a) (action_at s' a)
  pub marks : s'.marked ≡ s.marked

-- the same action but for its category
abbrev pub SameButCategory : Action → Action → Type 0
SameButCategory x y = (y.kind ≡ x.kind) × (y.spread ≡ x.spread) × (y.parts ≡ x.parts) × (y.active ≡ x.active)

-- the same action but for being active
abbrev pub SameButActive : Action → Action → Type 0
SameButActive x y = (y.kind ≡ x.kind) × (y.category ≡ x.category) × (y.spread ≡ x.spread) × (y.parts ≡ x.parts)

-- the mark of one pair is changed; all actions and every other mark are left alone
pub record OnlyPair (a b : ℕ) (s s' : Content) : Type 0 where
  pub actions : s'.actions ≡ s.actions
  pub others : (x y : ℕ) → same_pair a b x y ≡ false → s'.marked x y ≡ s.marked x y

-- an accepted call that a second one undoes: the second is accepted and leaves the sheet as it was before the first
abbrev pub UndoneBy : Content → Outcome Unit → (Content → Outcome Unit) → Type 0
UndoneBy s first second = granted tt ≡ first.0 → second first.1 ≡ (granted tt, s)

-- the laws of the calls
pub record Laws : Type 0 where
  -- whatever calls came from a new draft on, in any number and any order that the states permit, the sheet is sound
  pub reachable_sheets_are_sound : (h : List Call) (x : State) → Leaves h x → Sound (held x)
  pub refused_calls_change_nothing : (s : Content) (e : Edit) → accepted s e ≡ false → edited s e ≡ s
  pub enter_keeps_every_entry : (s : Content) (k c d p i : ℕ) → i < length s.actions → action_at (entering s k c d p).1 i ≡ action_at s i
  pub enter_keeps_every_mark : (s : Content) (k c d p : ℕ) → (entering s k c d p).1.marked ≡ s.marked
  pub recast_changes_one_category : (s : Content) (a letter : ℕ) → OnlyAction SameButCategory a s (recasting s a letter).1
  pub suspend_switches_one_action : (s : Content) (a : ℕ) → OnlyAction SameButActive a s (suspending s a).1
  pub resume_switches_one_action : (s : Content) (a : ℕ) → OnlyAction SameButActive a s (resuming s a).1
  pub exclude_marks_one_pair : (s : Content) (a b : ℕ) → OnlyPair a b s (excluding s a b).1
  pub lift_unmarks_one_pair : (s : Content) (a b : ℕ) → OnlyPair a b s (lifting s a b).1
  pub lift_undoes_exclude : (s : Content) → Sound s → (a b : ℕ) → UndoneBy s (excluding s a b) (λ t. lifting t a b)
  pub exclude_undoes_lift : (s : Content) → Sound s → (a b : ℕ) → UndoneBy s (lifting s a b) (λ t. excluding t a b)
  pub resume_undoes_suspend : (s : Content) (a : ℕ) → UndoneBy s (suspending s a) (λ t. resuming t a)
  pub suspend_undoes_resume : (s : Content) (a : ℕ) → UndoneBy s (resuming s a) (λ t. suspending t a)
