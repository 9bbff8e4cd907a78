-- What an envelope promises.
use Rattle.std.specs.Prelude.{◌≡◌, ℕ, Bool, T, List, ◌++◌, map, length, drop, ℤ}
use Rattle.rulebooks.specs.Books.{Book}
use Rattle.sheet.specs.Content.{Content}
use Rattle.envelope.specs.declared.combination.Combination.{Combination}
use Rattle.envelope.specs.Combinations.{effect_of}
use Rattle.envelope.specs.Admissible.{Admissible}
use Rattle.envelope.specs.Reported.{Reported}
use Rattle.envelope.specs.Answers.{Reply, found, refused, refused_at, answer, strip_after}
use Rattle.sheet.specs.Histories.{Call, issued, Leaves}
use Rattle.envelope.specs.Histories.{Grows}

-- of an effect that was found, and of nothing else
abbrev pub OfFound : Reply → (List ℤ → Combination → Type 0) → Type 0
OfFound (found xs c) P = P xs c
OfFound (refused q) P = Unit {0}
OfFound (refused_at q p) P = Unit {0}

module _ (n : ℕ) (reaches : List ℤ → List ℤ → Bool) (s : Content) (b : Book) (xss : List (List ℤ)) where
  -- no admissible combination ranks above
  abbrev pub NothingOutranks : Reply → Type 0
  NothingOutranks r = OfFound r (λ xs c. (d : Combination) → Admissible s b d → T (reaches xs (effect_of n s b xss d)))

  -- what is reported breaks no rule, and its effect is the one that is answered
  abbrev pub BreaksNoRule : Reply → Type 0
  BreaksNoRule r = OfFound r (λ xs c. Admissible s b c × (xs ≡ effect_of n s b xss c))

  -- it is the reported combination
  abbrev pub AsReported : Reply → Type 0
  AsReported r = OfFound r (λ xs c. Reported n reaches s b xss c)

  -- no other combination is the reported one
  abbrev pub NoOtherIsReported : Reply → Type 0
  NoOtherIsReported r = OfFound r (λ xs c. (d : Combination) → Reported n reaches s b xss d → d ≡ c)

-- Of every history of the sheet in which an envelope was answered, and only growing calls were accepted after it: an envelope
-- under the same rulebook, whose effects begin with the whole earlier ones, does not rank lower.
abbrev pub NeverSinks : {E : Type 0} → (E → List ℤ) → ℕ → (List ℤ → List ℤ → Bool) → Content → Book → List E → Reply → Type 0
NeverSinks {E} components n reaches s b es r =
    (h g : List Call) (s₀ : Content) (earlier more : List E) (room : ℕ) → Leaves h (issued s₀) → Grows (issued s₀) g (issued s) → es ≡ earlier ++ more
    → OfFound (answer n reaches s₀ b (map components earlier) room) (λ ys d. OfFound r (λ xs c. T (reaches xs ys)))

-- And a combination that was admissible then is admissible now, with the same effect.
abbrev pub StaysAdmissible : {E : Type 0} → (E → List ℤ) → ℕ → (List ℤ → List ℤ → Bool) → Content → Book → List E → Reply → Type 0
StaysAdmissible {E} components n reaches s b es r =
    (h g : List Call) (s₀ : Content) (earlier more : List E) (room : ℕ) → Leaves h (issued s₀) → Grows (issued s₀) g (issued s) → es ≡ earlier ++ more
    → OfFound (answer n reaches s₀ b (map components earlier) room) (λ ys c₀. OfFound r (λ xs c. (d : Combination) → Admissible s₀ b d
    → Admissible s b d × (effect_of n s b (map components es) d ≡ effect_of n s₀ b (map components earlier) d)))

-- the strip after a call: filled where an effect was found, else as it was
abbrev pub strip_by : Reply → List (List ℤ) → List (List ℤ) → List (List ℤ)
strip_by (found xs c) filled strip = filled ++ drop 24 strip
strip_by (refused q) filled strip = strip
strip_by (refused_at q p) filled strip = strip

-- the strip that an envelope leaves, by components
abbrev pub strip_left : ℕ → (List ℤ → List ℤ → Bool) → Content → Book → List (List ℤ) → List (List ℤ) → List (List ℤ)
strip_left n reaches s b xss strip = strip_by (answer n reaches s b xss (length strip)) (strip_after n reaches s b xss) strip

-- a refused call leaves the strip as it was, value for value
abbrev pub Unchanged : {E : Type 0} → Reply → List E → List E → Type 0
Unchanged (found xs c) before after = Unit {0}
Unchanged (refused q) before after = after ≡ before
Unchanged (refused_at q p) before after = after ≡ before

-- all that an envelope promises: `before` and `after` are the strip, by values of the kind
pub record Envelope {E : Type 0} (components : E → List ℤ) (n : ℕ) (reaches : List ℤ → List ℤ → Bool) (s : Content) (b : Book) (es before after : List E) (r : Reply) : Type 0 where
  pub answered : r ≡ answer n reaches s b (map components es) (length before)
  pub filled : map components after ≡ strip_left n reaches s b (map components es) (map components before)
  pub untouched : drop 24 after ≡ drop 24 before
  pub reported : AsReported n reaches s b (map components es) r
  pub greatest : NothingOutranks n reaches s b (map components es) r
  pub sound : BreaksNoRule n reaches s b (map components es) r
  pub kept : NeverSinks components n reaches s b es r

-- And besides: no other combination is the reported one, a refused call leaves the strip as it was, and a combination that was
-- admissible stays so, with the same effect, while the sheet only grows.
pub record WholePromise {E : Type 0} (components : E → List ℤ) (n : ℕ) (reaches : List ℤ → List ℤ → Bool) (s : Content) (b : Book) (es before after : List E) (r : Reply) : Type 0 where
  pub envelope : Envelope components n reaches s b es before after r
  pub no_other_is_reported : NoOtherIsReported n reaches s b (map components es) r
  pub refusal_changes_nothing : Unchanged r before after
  pub stays_admissible : StaysAdmissible components n reaches s b es r
