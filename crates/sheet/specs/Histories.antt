-- Lists of calls from a new draft on, accepted and refused ones alike.
use Rattle.std.specs.Prelude.{ℕ, Bool, true, false, List, [], ◌∷◌}
use Rattle.sheet.specs.Content.{Content, blank}
use Rattle.sheet.specs.Answers.{Answer, granted, denied}
use Rattle.sheet.specs.Calls.{entering, excluding, lifting, recasting, suspending, resuming}

-- the calls that a draft takes, with what the caller gives
pub data Edit : Type 0 where
  enter : ℕ → ℕ → ℕ → ℕ → Edit
  exclude : ℕ → ℕ → Edit
  lift : ℕ → ℕ → Edit
  recast : ℕ → ℕ → Edit
  suspend : ℕ → Edit
  resume : ℕ → Edit

-- all calls
pub data Call : Type 0 where
  edit : Edit → Call
  issue : Call
  reopen : Call
  envelope : Call

-- a draft or an issued sheet, with what is on it
pub data State : Type 0 where
  draft : Content → State
  issued : Content → State

-- what is on a sheet in either state
abbrev pub held : State → Content
held (draft s) = s
held (issued s) = s

-- the answer is no refusal
abbrev pub is_granted : {X : Type 0} → Answer X → Bool
is_granted (granted x) = true
is_granted (denied q) = false

-- whether a call is accepted
abbrev pub accepted : Content → Edit → Bool
accepted s (enter k c d p) = is_granted (entering s k c d p).0
accepted s (exclude a b) = is_granted (excluding s a b).0
accepted s (lift a b) = is_granted (lifting s a b).0
accepted s (recast a c) = is_granted (recasting s a c).0
accepted s (suspend a) = is_granted (suspending s a).0
accepted s (resume a) = is_granted (resuming s a).0

-- what a call leaves
abbrev pub edited : Content → Edit → Content
edited s (enter k c d p) = (entering s k c d p).1
edited s (exclude a b) = (excluding s a b).1
edited s (lift a b) = (lifting s a b).1
edited s (recast a c) = (recasting s a c).1
edited s (suspend a) = (suspending s a).1
edited s (resume a) = (resuming s a).1

-- From one state to another by calls that each state permits: a draft takes edits and is issued, an issued sheet takes
-- envelopes, which change nothing, and is reopened.
pub data Runs (Allowed : Content → Edit → Type 0) : State → List Call → State → Type 0 where
  ends : {x : State} → Runs Allowed x [] x
  edits : {s : Content} {e : Edit} {h : List Call} {y : State} → Allowed s e → Runs Allowed (draft (edited s e)) h y → Runs Allowed (draft s) (edit e ∷ h) y
  issues : {s : Content} {h : List Call} {y : State} → Runs Allowed (issued s) h y → Runs Allowed (draft s) (issue ∷ h) y
  reopens : {s : Content} {h : List Call} {y : State} → Runs Allowed (draft s) h y → Runs Allowed (issued s) (reopen ∷ h) y
  asks : {s : Content} {h : List Call} {y : State} → Runs Allowed (issued s) h y → Runs Allowed (issued s) (envelope ∷ h) y

-- a history of a state: permitted calls from a new draft that leave it
abbrev pub Leaves : List Call → State → Type 0
Leaves h x = Runs (λ _ _. Unit {0}) (draft blank) h x
