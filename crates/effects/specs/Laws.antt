-- What every kind of effect keeps.
use Rattle.std.specs.Prelude.{◌≡◌, ℕ, ◌≤◌, Bool, T, ◌⊎◌, List, length, ℤ}
use Rattle.basis.specs.Factors.{most}
use Rattle.effects.specs.Components.{zeros, sum, multiple, size}

-- each effect of the kind has `count` components, and zero, each sum and each multiple are effects of the kind
pub record Closed {E : Type 0} (components : E → List ℤ) (count : ℕ) : Type 0 where
  pub width : (a : E) → length (components a) ≡ count
  pub zero : (z : E) × (components z ≡ zeros count)
  pub add : (a b : E) → (s : E) × (components s ≡ sum (components a) (components b))
  pub scale : (f : ℕ) (a : E) → (m : E) × (components m ≡ multiple f (components a))

-- the size up to which the laws without a factor are asked: 2 × 10^17
abbrev pub Large : List ℤ → Type 0
Large xs = size xs ≤ 200_000_000_000_000_000

-- and those with a factor: 2 × 10^11
abbrev pub Small : List ℤ → Type 0
Small xs = size xs ≤ 200_000_000_000

-- a factor, in hundred-thousandths
abbrev pub IsFactor : ℕ → Type 0
IsFactor f = f ≤ most

-- The five laws, over the effects of a kind; `reaches xs ys` says that xs ranks at or above ys.
module _ {E : Type 0} (components : E → List ℤ) (count : ℕ) (reaches : List ℤ → List ℤ → Bool) where
  -- of two effects one ranks at or above the other
  abbrev pub Total : Type 0
  Total = (a b : E) → Large (components a) → Large (components b)
      → T (reaches (components a) (components b)) ⊎ T (reaches (components b) (components a))

  -- what is at or above a second, which is at or above a third, is at or above the third
  abbrev pub Transitive : Type 0
  Transitive = (a b c : E) → Large (components a) → Large (components b) → Large (components c)
      → T (reaches (components a) (components b)) → T (reaches (components b) (components c))
      → T (reaches (components a) (components c))

  -- an effect at or above another stays so when the same effect is added to both
  abbrev pub KeptBySum : Type 0
  KeptBySum = (a b c : E) → Large (components a) → Large (components b) → Large (components c)
      → T (reaches (components a) (components b))
      → T (reaches (sum (components a) (components c)) (sum (components b) (components c)))

  -- and when both are multiplied by the same factor
  abbrev pub KeptByMultiple : Type 0
  KeptByMultiple = (f : ℕ) (a b : E) → IsFactor f → Small (components a) → Small (components b)
      → T (reaches (components a) (components b))
      → T (reaches (multiple f (components a)) (multiple f (components b)))

  -- an effect at or above zero does not rank lower for a greater factor
  abbrev pub NotLowered : Type 0
  NotLowered = (f g : ℕ) (a : E) → f ≤ g → IsFactor g → Small (components a)
      → T (reaches (components a) (zeros count))
      → T (reaches (multiple g (components a)) (multiple f (components a)))

  -- all five
  pub record Laws : Type 0 where
    pub total : Total
    pub transitive : Transitive
    pub kept_by_sum : KeptBySum
    pub kept_by_multiple : KeptByMultiple
    pub not_lowered : NotLowered
