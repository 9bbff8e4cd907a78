-- Calls after which an envelope does not sink.
use Rattle.std.specs.Prelude.{Bool, true, false, not, ◌||◌, T, List, nat_le}
use Rattle.basis.specs.Vocabulary.{kind_number}
use Rattle.sheet.specs.Content.{Content, action_at}
use Rattle.sheet.specs.Histories.{Edit, enter, exclude, lift, recast, suspend, resume, Call, State, accepted, Runs}

-- entering or resuming a variable, accidental or seismic action, and lifting a pair
abbrev pub growing : Content → Edit → Bool
growing s (enter k c d p) = nat_le 3 k
growing s (exclude a b) = false
growing s (lift a b) = true
growing s (recast a c) = false
growing s (suspend a) = false
growing s (resume a) = nat_le 3 (kind_number (action_at s a).kind)

-- calls of which only growing ones were accepted, besides issues, reopenings and envelopes
abbrev pub Grows : State → List Call → State → Type 0
Grows = Runs (λ s e. T (not (accepted s e) || growing s e))
