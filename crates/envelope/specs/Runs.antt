-- Runs of calls from a new draft on, with the envelopes of one rulebook and one kind of effect among them, and the law that
-- these envelopes keep.
use Rattle.std.specs.Prelude.{◌≡◌, ℕ, Bool, not, ◌||◌, T, List, [], ◌∷◌, ◌++◌, map, length, ℤ}
use Rattle.rulebooks.specs.Books.{Book}
use Rattle.sheet.specs.Content.{Content, blank}
use Rattle.sheet.specs.Histories.{Edit, State, draft, issued, edited, accepted}
use Rattle.envelope.specs.Answers.{Reply, answer}
use Rattle.envelope.specs.Histories.{growing}
use Rattle.envelope.specs.Promise.{OfFound, NothingOutranks, BreaksNoRule}

-- a call: one of the six on a draft, issue, reopen, an envelope of another rulebook or kind, and an envelope of this rulebook
-- and kind with its effects, its strip and its answer
pub data Step (E : Type 0) : Type 0 where
  edit : Edit → Step E
  issue : Step E
  reopen : Step E
  other : Step E
  ask : List E → List E → Reply → Step E

-- From one state to another by calls that each state permits. A draft takes the six calls, refused ones too, as far as
-- `Allowed` says, and is issued; an issued sheet takes envelopes, which change nothing, and is reopened.
pub data Run {E : Type 0} (components : E → List ℤ) (n : ℕ) (reaches : List ℤ → List ℤ → Bool) (b : Book) (Allowed : Content → Edit → Type 0) : State → List (Step E) → State → Type 0 where
  ends : {x : State} → Run components n reaches b Allowed x [] x
  edits : {s : Content} {e : Edit} {h : List (Step E)} {y : State} → Allowed s e → Run components n reaches b Allowed (draft (edited s e)) h y → Run components n reaches b Allowed (draft s) (edit e ∷ h) y
  issues : {s : Content} {h : List (Step E)} {y : State} → Run components n reaches b Allowed (issued s) h y → Run components n reaches b Allowed (draft s) (issue ∷ h) y
  reopens : {s : Content} {h : List (Step E)} {y : State} → Run components n reaches b Allowed (draft s) h y → Run components n reaches b Allowed (issued s) (reopen ∷ h) y
  others : {s : Content} {h : List (Step E)} {y : State} → Run components n reaches b Allowed (issued s) h y → Run components n reaches b Allowed (issued s) (other ∷ h) y
  asks : {s : Content} {es strip : List E} {r : Reply} {h : List (Step E)} {y : State} → r ≡ answer n reaches s b (map components es) (length strip) → Run components n reaches b Allowed (issued s) h y → Run components n reaches b Allowed (issued s) (ask es strip r ∷ h) y

-- any call
abbrev pub Any : Content → Edit → Type 0
Any s e = Unit {0}

-- a refused call, or one after which an envelope does not sink
abbrev pub Growing : Content → Edit → Type 0
Growing s e = T (not (accepted s e) || growing s e)

module _ {E : Type 0} (components : E → List ℤ) (n : ℕ) (reaches : List ℤ → List ℤ → Bool) (b : Book) where
  -- whatever calls came before from a new draft on, and whatever envelopes stand among them
  pub record RunLaw : Type 0 where
    -- no combination that is admissible on the sheet as it then stands ranks above an accepted envelope, whose own combination
    -- breaks no rule and has the answered effect
    pub each_is_greatest : (before after : List (Step E)) (s : Content) (y : State) (es strip : List E) (r : Reply)
        → Run components n reaches b Any (draft blank) before (issued s) → Run components n reaches b Any (issued s) (ask es strip r ∷ after) y
        → NothingOutranks n reaches s b (map components es) r × BreaksNoRule n reaches s b (map components es) r
    -- of two accepted envelopes the later one, whose effects begin with those of the earlier one, does not rank below it if only
    -- growing calls were accepted in between
    pub none_sinks : (before between after : List (Step E)) (s₀ s : Content) (y : State) (es₀ strip₀ more strip : List E) (r₀ r : Reply)
        → Run components n reaches b Any (draft blank) before (issued s₀) → Run components n reaches b Growing (issued s₀) (ask es₀ strip₀ r₀ ∷ between) (issued s)
        → Run components n reaches b Any (issued s) (ask (es₀ ++ more) strip r ∷ after) y
        → OfFound r₀ (λ ys d. OfFound r (λ xs c. T (reaches xs ys)))
