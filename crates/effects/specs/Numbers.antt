-- One component: where it does not stop, and what the order keeps.
use Rattle.std.specs.Prelude.{◌≡◌, ℕ, ◌+◌, ◌*◌, ◌^◌, ◌<◌, ◌≤◌, ◌⊎◌, ℤ, pos, ◌+ℤ◌, ◌*ℤ◌, ◌≤ℤ◌, ◌<ℤ◌, FitsSigned, unsigned_abs}
use Rattle.std.proofs.Common.{inl, inr, mul-le-mul, mul-le-mul_left, add-mul, mul-add, arith}
use Rattle.std.proofs.Math.Nat.{mul-lt-mul_of_pos_left}
use Rattle.std.specs.Int.{w64, w128}
use borrow.Author.Differences.{up, down, fits_in, abs_is}
use Rattle.std.proofs.lemmas.Int.{ints, clamps, by_lt_z, unsigned_abs-mul}
use Rattle.effects.specs.Components.{stopped}

pub stopped_exact : (z : ℤ) → unsigned_abs z ≤ 1_000_000_000_000_000_000 → stopped z ≡ z
stopped_exact z h = omega (arith, ints, clamps)

pub sum_size : (x y : ℤ) (m n : ℕ) → unsigned_abs x ≤ m → unsigned_abs y ≤ n → unsigned_abs (x +ℤ y) ≤ m + n
sum_size x y m n h k = omega (arith, ints)

pub product_size : (f : ℕ) (x : ℤ) → unsigned_abs (pos f *ℤ x) ≡ f * unsigned_abs x
product_size f x = unsigned_abs-mul (pos f) x

pub product_le : (f : ℕ) (x : ℤ) (k m : ℕ) → f ≤ k → unsigned_abs x ≤ m → unsigned_abs (pos f *ℤ x) ≤ k * m
product_le f x k m h j = omega (arith, product_size f x, mul-le-mul h j)

-- a factor in two parts
pub product_split : (f g : ℕ) (x : ℤ) → pos (f + g) *ℤ x ≡ pos f *ℤ x +ℤ pos g *ℤ x
product_split f g x = omega (arith, ints, add-mul f g (up x), add-mul f g (down x))

pub product_keeps : (f : ℕ) (x y : ℤ) → x ≤ℤ y → (pos f *ℤ x) ≤ℤ (pos f *ℤ y)
product_keeps f x y h =
    let m = mul-le-mul_left {m = up x + down y} {n = up y + down x} f (omega (arith, ints)) in
    omega (arith, ints, mul-add f (up x) (down y), mul-add f (up y) (down x))

pub product_strict : (f : ℕ) (x y : ℤ) → 0 < f → x <ℤ y → (pos f *ℤ x) <ℤ (pos f *ℤ y)
product_strict f x y p h =
    let m = mul-lt-mul_of_pos_left {m = up x + down y} {n = up y + down x} {k = f} (omega (arith, ints)) p in
    omega (arith, ints, mul-add f (up x) (down y), mul-add f (up y) (down x))

pub sum_keeps : (x y z : ℤ) → x ≤ℤ y → (x +ℤ z) ≤ℤ (y +ℤ z)
sum_keeps x y z h = omega (arith, ints)

pub sum_strict : (x y z : ℤ) → x <ℤ y → (x +ℤ z) <ℤ (y +ℤ z)
sum_strict x y z h = omega (arith, ints)

pub ≤-total : (x y : ℤ) → (x ≤ℤ y) ⊎ (y ≤ℤ x)
≤-total x y = by_lt_z x y (λ h. inl (omega (arith, ints))) (λ h. inr h)

-- less, equal or greater
pub by_order : {P : Type 0} (x y : ℤ) → (x <ℤ y → P) → (x ≡ y → P) → (y <ℤ x → P) → P
by_order x y l e g = by_lt_z x y l (λ h. by_lt_z y x g (λ k. e (omega (arith, ints))))

-- a 64-bit component times a 32-bit factor, at 128 bits
pub product_fits : (f : ℕ) (x : ℤ) → f < 2 ^ 32 → FitsSigned w64 x → FitsSigned w128 (pos f *ℤ x)
product_fits f x h k =
    let a : unsigned_abs x ≤ 2 ^ 63 = omega (arith, ints) in
    let b : f * unsigned_abs x ≤ 2 ^ 32 * 2 ^ 63 = mul-le-mul {n₁ = f} {m₁ = unsigned_abs x} {n₂ = 2 ^ 32} {m₂ = 2 ^ 63} (omega arith) a in
    let c : unsigned_abs (pos f *ℤ x) < 2 ^ 100 = omega (arith, unsigned_abs-mul (pos f) x) in
    fits_in w128 (pos f *ℤ x) (omega (arith, abs_is (pos f *ℤ x)))
