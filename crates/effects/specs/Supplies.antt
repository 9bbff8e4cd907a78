-- Lists of effects: their sum, and the greatest of them.
use Rattle.std.specs.Prelude.{ℕ, ◌+◌, ◌<◌, ◌≤◌, Bool, cond, not, T, List, [], ◌∷◌, length, ℤ, Some, None, fold, Option, slice_index_or}
use Rattle.std.specs.List.{AllByRecursion}
use Rattle.effects.specs.Components.{zeros, sum, exact_sum, size}

-- the sum of a list of effects with n components each, one after the other
abbrev pub total : ℕ → List (List ℤ) → List ℤ
total n xss = fold sum (zeros n) xss

-- the sum in unbounded whole numbers
abbrev pub exact_total : ℕ → List (List ℤ) → List ℤ
exact_total n [] = zeros n
exact_total n (xs ∷ xss) = exact_sum xs (exact_total n xss)

-- what may be supplied for the parts of a sheet: at most 192 effects, each of size at most 10^9
pub record Supply (xss : List (List ℤ)) : Type 0 where
  pub few : length xss ≤ 192
  pub small : AllByRecursion (λ xs. size xs ≤ 1_000_000_000) xss

-- among the first n effects none ranks above the one at place b, and none before it is level with it
pub record Greatest (reaches : List ℤ → List ℤ → Bool) (xss : List (List ℤ)) (n b : ℕ) : Type 0 where
  pub within : b < n
  pub none_above : (k : ℕ) → k < n → T (reaches (slice_index_or xss b []) (slice_index_or xss k []))
  pub none_before : (k : ℕ) → k < b → T (not (reaches (slice_index_or xss k []) (slice_index_or xss b [])))

-- the place of the greatest, `top`, at place b, being the greatest of those before the rest, which begin at place i
abbrev pub greatest_from : (List ℤ → List ℤ → Bool) → List ℤ → ℕ → ℕ → List (List ℤ) → ℕ
greatest_from reaches top b i [] = b
greatest_from reaches top b i (xs ∷ rest) = cond (reaches top xs) (greatest_from reaches top b (i + 1) rest) (greatest_from reaches xs i (i + 1) rest)

-- the place of the lowest-numbered greatest effect
abbrev pub greatest_of : (List ℤ → List ℤ → Bool) → List (List ℤ) → Option ℕ
greatest_of reaches [] = None
greatest_of reaches (xs ∷ rest) = Some (greatest_from reaches xs 0 1 rest)
