-- A float that is read: its range by two comparisons, and its value by its pattern's sign, exponent and digits.
use Rattle.std.proofs.Common.{to_z, of_z, w64, ◌-ℤ◌, ◌≡◌, ℕ, zero, suc, ◌+◌, ◌-◌, ◌*◌, ◌/◌, ◌%◌, ◌^◌, ◌<◌, ◌≤◌, Bool, true, false, cond, not, ◌&&◌, T, eqb, leb, pos, neg_ℤ, sym, refl, ap, ◌∙◌, subst, inl, inr, le_trans, le_of_eq, lt_of_lt_of_le, le-add_right, lt_of_le_of_lt, lt_irrefl, mul-le-mul_right, mod-lt, lt_of_not-le, mul-one, le_of_mul-le-mul_right, arith, leb→le, pow_pos, pow_mono, pow-add, shl_lt, ne_eqb, le-leb}
use Rattle.std.proofs.lemmas.Bool.{cases_order}
use Rattle.std.proofs.lemmas.Bool.Decides.{nat_tests}
use Rattle.std.proofs.lemmas.Int.{ints}
use lib.Bits.{bit_and, bit_or, and_mask, or_shifted_r}
use lib.Pow.{field}
use borrow.Author.Tests.{lt-leb}
use lib.Ieee.{Float, nan, inf, fin, binary64, odd, le, ne, neg, is_nan, fits, of_bits, of_fields, to_bits}
use lib.Ieee.Fits.{down_pos, and_l, and_r}
use lib.Ieee.Bits.{of_bits-to_bits, to_bits-lt}
use lib.Ieee.Compare.{differs_from_itself}
use lib.Ieee.Exact.{HasValue, odd_sign}
use Rattle.readings.specs.Nearest.{finite, negative, size, unit, readable, whole_of, signed, nearest}
use Rattle.readings.proofs.Rounding.{nearest-same, nearest_zero, shifted_lt}

-- the range, by two comparisons

-- 10^9 as the machine has it, by its pattern
abbrev pub limit : Float
limit = of_bits binary64 4741671816366391296

limit_is : limit ≡ fin false 1953125 (pos 9)
unfolding of_bits
limit_is = refl

less_limit_is : neg limit ≡ fin true 1953125 (pos 9)
unfolding of_bits neg
less_limit_is = refl

between : (x : Float) → (le (fin true 1953125 (pos 9)) x && le x (fin false 1953125 (pos 9))) ≡ readable x
unfolding le
between nan = refl
between (inf true) = refl
between (inf false) = refl
between (fin false m e) = grind (arith, nat_tests, down_pos e)
between (fin true m e) = grind (arith, nat_tests, down_pos e)

in_range : (x : Float) → (le (neg limit) x && le x limit) ≡ readable x
in_range x = (λ i. le (less_limit_is i) x && le x (limit_is i)) ∙ between x

pub by_upper : (x : Float) → le (neg limit) x ≡ true → le x limit ≡ readable x
by_upper x h = ap (λ (b : Bool). b && le x limit) (sym h) ∙ in_range x

pub by_lower : (x : Float) → le (neg limit) x ≡ false → le (neg limit) x ≡ readable x
by_lower x h = h ∙ ap (λ (b : Bool). b && le x limit) (sym h) ∙ in_range x

pub by_nan : (x : Float) → ne x x ≡ true → false ≡ readable x
by_nan x h = ap readable (sym (differs_from_itself x (subst T (sym h) tt)))

-- the range as it is tested
pub ruleset by_range = (by_nan, by_upper, by_lower)

-- what is read is a number

pub is_number : (x : Float) → T (readable x) → T (not (is_nan x))
unfolding is_nan
is_number nan t = absurd t
is_number (inf s) t = tt
is_number (fin s m e) t = tt

-- the value of a pattern, in units of 2 ^ -1074

abbrev pub steps : ℕ → ℕ → ℕ
steps zero t = t
steps (suc j) t = (2 ^ 52 + t) * 2 ^ j

read : (s : Bool) (x t : ℕ) → x < 2047 → HasValue (of_fields binary64 s x t) s (steps x t) (2 ^ 1074)
unfolding of_fields
read s zero t h = subst (λ (a : ℕ). HasValue (odd 53 s t 0 1074) s a (2 ^ 1074)) (mul-one t) (odd_sign 53 s t 0 1074)
read s (suc j) t h =
    subst (λ (k : Bool). HasValue (cond k (cond (eqb t 0) (inf s) nan) (odd 53 s (2 ^ 52 + t) j 1074)) s (steps (suc j) t) (2 ^ 1074)) (sym (ne_eqb (suc j) 2047 (λ q. omega arith)))
    (odd_sign 53 s (2 ^ 52 + t) j 1074)

not_finite : (s : Bool) (t : ℕ) → finite (of_fields binary64 s 2047 t) ≡ false
unfolding of_fields
not_finite s t = go (eqb t 0)
  where
    go : (b : Bool) → finite (cond b (inf s) nan) ≡ false
    go true = refl
    go false = refl

read_bits : (b : ℕ) → T (finite (of_bits binary64 b)) → HasValue (of_bits binary64 b) (leb (2 ^ 63) b) (steps (b % 2 ^ 63 / 2 ^ 52) (b % 2 ^ 52)) (2 ^ 1074)
unfolding of_bits
read_bits b t =
    let s = leb (2 ^ 63) b in
    let x = b % 2 ^ 63 / 2 ^ 52 in
    elim (cases_order x 2047) [
      | inl l ↦ absurd (subst T (ap (λ (k : ℕ). finite (of_fields binary64 s k (b % 2 ^ 52))) l ∙ not_finite s (b % 2 ^ 52)) t)
      | inr o ↦ elim o [ inl l ↦ read s x (b % 2 ^ 52) l | inr l ↦ absurd (omega arith) ]
    ]

exponent_is : (b : ℕ) → b % 2 ^ 63 / 2 ^ 52 ≡ bit_and (b / 2 ^ 52) 2047
exponent_is b = field b 11 52 ∙ sym (and_mask (b / 2 ^ 52) 11)

digits_are : (b : ℕ) → bit_or (bit_and b (2 ^ 52 - 1)) (2 ^ 52) ≡ 2 ^ 52 + b % 2 ^ 52
digits_are b = ap (λ (k : ℕ). bit_or k (2 ^ 52)) (and_mask b 52) ∙ or_shifted_r 1 52 (b % 2 ^ 52) (mod-lt b (pow_pos 52))

-- from the value to the nearest whole number

pub unit_pos : (x : Float) → 0 < unit x
unit_pos nan = omega arith
unit_pos (inf s) = omega arith
unit_pos (fin s m e) = down_pos e

module _ (x : Float) (s : Bool) (a c : ℕ) (C : 0 < c) (v : HasValue x s a c) where
  value_sign : negative x ≡ s
  value_sign = go x v
    where
      go : (y : Float) → HasValue y s a c → negative y ≡ s
      go nan w = absurd w
      go (inf t) w = absurd w
      go (fin t m e) w = w.0

  value_size : size x * c ≡ a * unit x
  value_size = go x v
    where
      go : (y : Float) → HasValue y s a c → size y * c ≡ a * unit y
      go nan w = absurd w
      go (inf t) w = absurd w
      go (fin t m e) w = w.1

  pub whole_by_value : whole_of x ≡ signed s (nearest a c)
  whole_by_value = λ i. signed (value_sign i) (nearest-same (size x) (unit x) a c (unit_pos x) C value_size i)

  pub value_most : T (readable x) → a ≤ 10 ^ 9 * c
  value_most t =
      let h : size x ≤ 10 ^ 9 * unit x = leb→le _ _ (and_r (finite x) (leb (size x) (10 ^ 9 * unit x)) t) in
      le_of_mul-le-mul_right {k = unit x} (omega (arith, mul-le-mul_right c h, value_size)) (unit_pos x)

-- what the proof of `nearest_whole` cites, of an x that is read and of its pattern b

pow_lt_back : (i p : ℕ) → 2 ^ i < 2 ^ p → i < p
pow_lt_back i p h = lt_of_not-le (λ (g : p ≤ i). lt_irrefl (2 ^ i) (lt_of_lt_of_le h (pow_mono g)))

small_steps : (x t : ℕ) → t < 2 ^ 52 → x < 1022 → steps x t * 2 < 2 ^ 1074
small_steps zero t T52 h =
    let g : t * 2 ^ 1 < 2 ^ (52 + 1) = shl_lt 52 1 T52 in
    lt_of_lt_of_le g (pow_mono {i = 53} {j = 1074} (omega arith))
small_steps (suc j) t T52 h =
    let q : 2 ^ 52 + t < 2 ^ 53 = omega arith in
    let g : (2 ^ 52 + t) * 2 ^ suc j < 2 ^ (53 + suc j) = shl_lt 53 (suc j) q in
    subst (λ (k : ℕ). k < 2 ^ 1074) (ap (λ (k : ℕ). (2 ^ 52 + t) * k) (native.Mathlib.Nat.pow-suc 2 j) ∙ sym (native.Mathlib.Nat.mul_assoc (2 ^ 52 + t) (2 ^ j) 2))
    (lt_of_lt_of_le g (pow_mono {i = 53 + suc j} {j = 1074} (omega arith)))

high_field : (x t : ℕ) → steps x t ≤ 10 ^ 9 * 2 ^ 1074 → x ≤ 1052
high_field zero t h = omega arith
high_field (suc j) t h =
    let l : 10 ^ 9 * 2 ^ 1074 < 2 ^ 1104 = shl_lt {a = 10 ^ 9} 30 1074 (omega arith) in
    let g : 2 ^ 52 * 2 ^ j ≤ (2 ^ 52 + t) * 2 ^ j = mul-le-mul_right (2 ^ j) (le-add_right (2 ^ 52) t) in
    let k : 2 ^ (52 + j) < 2 ^ 1104 = lt_of_le_of_lt (le_trans (le_of_eq (pow-add 2 52 j)) (le_trans g h)) l in
    omega (arith, pow_lt_back (52 + j) 1104 k)

scaled : (x t : ℕ) → 1022 ≤ x → x ≤ 1052 → nearest (steps x t) (2 ^ 1074) ≡ nearest (2 ^ 52 + t) (2 ^ (1075 - x))
scaled zero t l h = absurd (omega arith)
scaled (suc j) t l h =
    let k = 1075 - suc j in
    let p : j + k ≡ 1074 = omega arith in
    let q : 2 ^ j * 2 ^ k ≡ 2 ^ 1074 = sym (pow-add 2 j k) ∙ ap (λ (i : ℕ). 2 ^ i) p in
    nearest-same ((2 ^ 52 + t) * 2 ^ j) (2 ^ 1074) (2 ^ 52 + t) (2 ^ k) (pow_pos 1074) (pow_pos k)
    (native.Mathlib.Nat.mul_assoc (2 ^ 52 + t) (2 ^ j) (2 ^ k) ∙ ap (λ (i : ℕ). (2 ^ 52 + t) * i) q)

signed_zero : (s : Bool) → signed s 0 ≡ pos 0
signed_zero true = refl
signed_zero false = refl

module _ (x : Float) (F : T (fits binary64 x)) (R : T (readable x)) where
  abbrev b : ℕ
  b = to_bits binary64 x

  abbrev exponent : ℕ
  exponent = bit_and (b / 2 ^ 52) 2047

  abbrev digits : ℕ
  digits = b % 2 ^ 52

  digits_lt : digits < 2 ^ 52
  digits_lt = mod-lt b (pow_pos 52)

  value : HasValue x (leb (2 ^ 63) b) (steps exponent digits) (2 ^ 1074)
  value =
      let back = of_bits-to_bits binary64 x F in
      subst (λ (k : ℕ). HasValue x (leb (2 ^ 63) b) (steps k digits) (2 ^ 1074)) (exponent_is b)
      (subst (λ (y : Float). HasValue y (leb (2 ^ 63) b) (steps (b % 2 ^ 63 / 2 ^ 52) digits) (2 ^ 1074)) back
      (read_bits b (subst (λ (y : Float). T (finite y)) (sym back) (and_l (finite x) _ R))))

  whole_is : whole_of x ≡ signed (leb (2 ^ 63) b) (nearest (steps exponent digits) (2 ^ 1074))
  whole_is = whole_by_value x _ _ _ (pow_pos 1074) value

  pub below_half : exponent < 1022 → pos 0 ≡ whole_of x
  below_half h = sym (whole_is ∙ ap (signed (leb (2 ^ 63) b)) (nearest_zero (steps exponent digits) (2 ^ 1074) (small_steps exponent digits digits_lt h)) ∙ signed_zero (leb (2 ^ 63) b))

  pub exponent_most : exponent ≤ 1052
  exponent_most = high_field exponent digits (value_most x _ _ _ (pow_pos 1074) value R)

  pub mantissa_lt : bit_or (bit_and b (2 ^ 52 - 1)) (2 ^ 52) < 2 ^ 53
  mantissa_lt = omega (arith, digits_are b, digits_lt)

  at_shift : 1022 ≤ exponent → whole_of x ≡ signed (leb (2 ^ 63) b) (nearest (bit_or (bit_and b (2 ^ 52 - 1)) (2 ^ 52)) (2 ^ (1075 - exponent)))
  at_shift h =
      whole_is ∙ ap (signed (leb (2 ^ 63) b)) (scaled exponent digits h exponent_most ∙ ap (λ (k : ℕ). nearest k (2 ^ (1075 - exponent))) (sym (digits_are b)))

  -- the machine's negative of the rounded size r, which is far below 2 ^ 63
  pub if_negative : (r : ℕ) → r ≡ nearest (bit_or (bit_and b (2 ^ 52 - 1)) (2 ^ 52)) (2 ^ (1075 - exponent)) → 1022 ≤ exponent → b / 2 ^ 63 ≡ 1 → to_z w64 (of_z w64 (pos 0 -ℤ to_z w64 r)) ≡ whole_of x
  if_negative r e h n =
      let l : r < 2 ^ 63 = shifted_lt _ _ r e mantissa_lt in
      let m : to_z w64 (of_z w64 (pos 0 -ℤ to_z w64 r)) ≡ neg_ℤ (pos r) = omega (arith, ints) in
      m ∙ ap (λ (k : ℕ). neg_ℤ (pos k)) e
      ∙ sym (at_shift h ∙ ap (λ (s : Bool). signed s (nearest (bit_or (bit_and b (2 ^ 52 - 1)) (2 ^ 52)) (2 ^ (1075 - exponent)))) (le-leb (2 ^ 63) b (omega arith)))

  pub if_positive : 1022 ≤ exponent → (b / 2 ^ 63 ≡ 1 → ⊥) → whole_of x ≡ pos (nearest (bit_or (bit_and b (2 ^ 52 - 1)) (2 ^ 52)) (2 ^ (1075 - exponent)))
  if_positive h n =
      let w : b < 2 ^ 64 = to_bits-lt binary64 x F in
      let z : b < 2 ^ 63 = lt_of_not-le (λ (g : 2 ^ 63 ≤ b). n (omega arith)) in
      at_shift h ∙ ap (λ (s : Bool). signed s (nearest (bit_or (bit_and b (2 ^ 52 - 1)) (2 ^ 52)) (2 ^ (1075 - exponent)))) (lt-leb (2 ^ 63) b z)

-- what `nearest_whole` takes from a pattern
pub ruleset by_pattern = (is_number, below_half, exponent_most, mantissa_lt, if_positive)
