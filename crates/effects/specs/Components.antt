-- Effects by their whole-number components: sum, multiple and size.
use Rattle.std.specs.Prelude.{ℕ, max, List, [], ◌∷◌, replicate, ℤ, pos, negsuc, ◌+ℤ◌, ◌*ℤ◌, unsigned_abs}
use Rattle.std.specs.Int.{int_min, int_max}

-- a component stops at 10^18 and at -10^18
abbrev pub stopped : ℤ → ℤ
stopped z = int_max (negsuc 999_999_999_999_999_999) (int_min z (pos 1_000_000_000_000_000_000))

-- all components 0
abbrev pub zeros : ℕ → List ℤ
zeros n = replicate n (pos 0)

-- the sum of two effects, component by component
abbrev pub sum : List ℤ → List ℤ → List ℤ
sum [] ys = []
sum (x ∷ xs) [] = []
sum (x ∷ xs) (y ∷ ys) = stopped (x +ℤ y) ∷ sum xs ys

-- the multiple of an effect, component by component
abbrev pub multiple : ℕ → List ℤ → List ℤ
multiple f [] = []
multiple f (x ∷ xs) = stopped (pos f *ℤ x) ∷ multiple f xs

-- the sum in unbounded whole numbers
abbrev pub exact_sum : List ℤ → List ℤ → List ℤ
exact_sum [] ys = []
exact_sum (x ∷ xs) [] = []
exact_sum (x ∷ xs) (y ∷ ys) = (x +ℤ y) ∷ exact_sum xs ys

-- the multiple in unbounded whole numbers
abbrev pub exact_multiple : ℕ → List ℤ → List ℤ
exact_multiple f [] = []
exact_multiple f (x ∷ xs) = (pos f *ℤ x) ∷ exact_multiple f xs

-- the greatest magnitude among the components
abbrev pub size : List ℤ → ℕ
size [] = 0
size (x ∷ xs) = max (unsigned_abs x) (size xs)
