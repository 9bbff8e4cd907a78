-- The actions of a sheet with their numbers, and masks of parts.
use Rattle.std.specs.Prelude.{ℕ, zero, suc, ◌+◌, ◌/◌, ◌%◌, ◌^◌, Bool, true, cond, ◌&&◌, List, [], ◌∷◌, take, drop, ◌==◌}
use Rattle.basis.specs.declared.action.Kind.{Kind}
use Rattle.basis.specs.Vocabulary.{is_variable, same_kind}
use Rattle.sheet.specs.declared.action.Action.{Action}
use Rattle.envelope.specs.declared.entry.Entry.{Entry}
use Rattle.sheet.specs.Content.{Content}
use Rattle.sheet.specs.Limits.{no_action}

-- the entries from action i on, at place k, with first part p
abbrev pub entries_from : ℕ → ℕ → ℕ → List Action → List Entry
entries_from i k p [] = []
entries_from i k p (a ∷ rest) =
    record { number = i; place = k; first = p; action = a }
    ∷ entries_from (i + 1) (k + cond (is_variable a.kind) 1 0) (p + a.parts) rest

-- all entries of a sheet
abbrev pub entries : Content → List Entry
entries s = entries_from 0 0 0 s.actions

-- what stands past the last entry
abbrev pub nowhere : Entry
nowhere = record { number = 0; place = 0; first = 0; action = no_action }

-- the effects of an action's parts
abbrev pub parts_of : {A : Type 0} → List A → Entry → List A
parts_of xs e = take e.action.parts (drop e.first xs)

-- an active action of the kind
abbrev pub acts : Kind → Action → Bool
acts k a = a.active && same_kind a.kind k

-- part p is in the mask m: m adds 2^p for each of its parts
abbrev pub has : ℕ → ℕ → Bool
has m p = m / 2 ^ p % 2 == 1

-- those of n parts that the test takes
abbrev pub mask_of : (ℕ → Bool) → ℕ → ℕ
mask_of test zero = 0
mask_of test (suc n) = mask_of test n + cond (test n) (2 ^ n) 0

-- all n parts
abbrev pub whole : ℕ → ℕ
whole = mask_of (λ _. true)
