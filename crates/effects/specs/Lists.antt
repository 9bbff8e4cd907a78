-- Component lists: sums and multiples that stop nowhere.
use Rattle.std.specs.Prelude.{◌≡◌, ℕ, zero, suc, ◌+◌, ◌*◌, ◌≤◌, max, List, [], ◌∷◌, length, ℤ, pos, ◌+ℤ◌, ◌*ℤ◌, unsigned_abs, refl}
use Rattle.std.proofs.Common.{ap, mul-le-mul, mul-le-mul_left, arith}
use Rattle.std.proofs.lemmas.Int.{unsigned_abs-mul}
use Rattle.std.proofs.Math.IntN.{*ℤ-zero, +ℤ_idl}
use Rattle.effects.specs.Components.{stopped, zeros, sum, multiple, exact_sum, exact_multiple, size}
use Rattle.effects.specs.Laws.{Large, Small, IsFactor}
use Rattle.effects.specs.Numbers.{stopped_exact, sum_size, product_split}

pub sum_exact : (xs ys : List ℤ) → size xs + size ys ≤ 1_000_000_000_000_000_000 → sum xs ys ≡ exact_sum xs ys
sum_exact [] ys h = refl
sum_exact (x ∷ xs) [] h = refl
sum_exact (x ∷ xs) (y ∷ ys) h =
    let e : stopped (x +ℤ y) ≡ x +ℤ y = stopped_exact (x +ℤ y) (omega (arith, sum_size x y (unsigned_abs x) (unsigned_abs y) (omega arith) (omega arith))) in
    let t = sum_exact xs ys (omega arith) in
    cc

pub exact_sum_size : (xs ys : List ℤ) → size (exact_sum xs ys) ≤ size xs + size ys
exact_sum_size [] ys = omega arith
exact_sum_size (x ∷ xs) [] = omega arith
exact_sum_size (x ∷ xs) (y ∷ ys) = omega (arith, sum_size x y (unsigned_abs x) (unsigned_abs y) (omega arith) (omega arith), exact_sum_size xs ys)

pub exact_multiple_size : (f : ℕ) (xs : List ℤ) → size (exact_multiple f xs) ≤ f * size xs
exact_multiple_size f [] = omega arith
exact_multiple_size f (x ∷ xs) =
    let a : f * unsigned_abs x ≤ f * max (unsigned_abs x) (size xs) = mul-le-mul_left f (omega arith) in
    let b : f * size xs ≤ f * max (unsigned_abs x) (size xs) = mul-le-mul_left f (omega arith) in
    omega (arith, unsigned_abs-mul (pos f) x, exact_multiple_size f xs)

pub multiple_exact : (f : ℕ) (xs : List ℤ) → f * size xs ≤ 1_000_000_000_000_000_000 → multiple f xs ≡ exact_multiple f xs
multiple_exact f [] h = refl
multiple_exact f (x ∷ xs) h =
    let a : f * unsigned_abs x ≤ f * max (unsigned_abs x) (size xs) = mul-le-mul_left f (omega arith) in
    let b : f * size xs ≤ f * max (unsigned_abs x) (size xs) = mul-le-mul_left f (omega arith) in
    let e : stopped (pos f *ℤ x) ≡ pos f *ℤ x = stopped_exact (pos f *ℤ x) (omega (arith, unsigned_abs-mul (pos f) x)) in
    let t = multiple_exact f xs (omega arith) in
    cc

pub exact_split : (f g : ℕ) (xs : List ℤ) → exact_multiple (f + g) xs ≡ exact_sum (exact_multiple f xs) (exact_multiple g xs)
exact_split f g [] = refl
exact_split f g (x ∷ xs) = let e = product_split f g x in let t = exact_split f g xs in cc

pub zeros_multiple : (f n : ℕ) → exact_multiple f (zeros n) ≡ zeros n
zeros_multiple f zero = refl
zeros_multiple f (suc n) = let e = *ℤ-zero (pos f) in let t = zeros_multiple f n in cc

pub zeros_sum : (n : ℕ) (xs : List ℤ) → length xs ≡ n → exact_sum (zeros n) xs ≡ xs
zeros_sum zero [] h = refl
zeros_sum zero (x ∷ xs) h = absurd (omega arith)
zeros_sum (suc n) [] h = absurd (omega arith)
zeros_sum (suc n) (x ∷ xs) h = let e = +ℤ_idl x in let t = zeros_sum n xs (omega arith) in cc

pub zeros_size : (n : ℕ) → size (zeros n) ≡ 0
zeros_size zero = refl
zeros_size (suc n) = omega (arith, zeros_size n)

pub length_multiple : (f : ℕ) (xs : List ℤ) → length (multiple f xs) ≡ length xs
length_multiple f [] = refl
length_multiple f (x ∷ xs) = ap suc (length_multiple f xs)

-- in the ranges of the laws
pub large_sum : (xs ys : List ℤ) → Large xs → Large ys → sum xs ys ≡ exact_sum xs ys
large_sum xs ys h k = sum_exact xs ys (omega arith)

small_product : (f : ℕ) (xs : List ℤ) → IsFactor f → Small xs → f * size xs ≤ 200_000_000_000_000_000
small_product f xs h k = mul-le-mul {n₁ = f} {m₁ = size xs} {n₂ = 1_000_000} {m₂ = 200_000_000_000} h k

pub small_multiple : (f : ℕ) (xs : List ℤ) → IsFactor f → Small xs → multiple f xs ≡ exact_multiple f xs
small_multiple f xs h k = multiple_exact f xs (omega (arith, small_product f xs h k))

pub large_multiple : (f : ℕ) (xs : List ℤ) → IsFactor f → Small xs → Large (multiple f xs)
large_multiple f xs h k = rw (small_multiple f xs h k) (omega (arith, exact_multiple_size f xs, small_product f xs h k))

-- a multiple in two parts
pub multiple_split : (f d : ℕ) (xs : List ℤ) → IsFactor (f + d) → Small xs → multiple (f + d) xs ≡ sum (multiple d xs) (multiple f xs)
multiple_split f d xs h k =
    let p : IsFactor f = omega arith in
    let q : IsFactor d = omega arith in
    let e = large_sum (multiple d xs) (multiple f xs) (large_multiple d xs q k) (large_multiple f xs p k) in
    let s = exact_split d f xs in
    let w : d + f ≡ f + d = omega arith in
    let m = small_multiple (f + d) xs h k in
    let mf = small_multiple f xs p k in
    let md = small_multiple d xs q k in
    cc
