-- The rankings of the kinds of effect: whether the first ranks at or above the second.
use Rattle.std.specs.Prelude.{Bool, true, false, cond, List, [], ◌∷◌, ℤ, int_le, int_lt}

-- the first component is not less than the other's
abbrev pub first_not_less : List ℤ → List ℤ → Bool
first_not_less [] ys = true
first_not_less (x ∷ xs) [] = true
first_not_less (x ∷ xs) (y ∷ ys) = int_le y x

-- the first component that differs is the greater one, or none differs
abbrev pub by_first_difference : List ℤ → List ℤ → Bool
by_first_difference [] ys = true
by_first_difference (x ∷ xs) [] = true
by_first_difference (x ∷ xs) (y ∷ ys) = cond (int_lt y x) true (cond (int_lt x y) false (by_first_difference xs ys))
