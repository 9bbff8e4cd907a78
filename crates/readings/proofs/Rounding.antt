-- A fraction and the whole number nearest to it. Nothing here is about floats.
use Rattle.std.proofs.Common.{◌≡◌, ℕ, suc, ◌+◌, ◌-◌, ◌*◌, ◌/◌, ◌%◌, ◌^◌, ◌<◌, ◌≤◌, sym, ap, ◌∙◌, inl, inr, mod-eq_of_lt, lt_of_mul-lt-mul_right, mul-lt-mul_of_pos_right, div-add-mod', arith, pow-add}
use native.Mathlib.Nat.{eq_of_mul-eq-mul_right, div-eq_of_lt}
use Rattle.std.proofs.lemmas.Bool.{cases_order}
use Rattle.std.proofs.lemmas.Bool.Decides.{nat_tests}
use lib.Bits.{bit_and, and_mask}
use lib.Pow.{shr_le}
use Rattle.std.proofs.lemmas.Nat.{one_shl}
use lib.Ieee.Nearest.{div_same}
use Rattle.readings.specs.Nearest.{tie, closer, nearest}

-- by the three cases

pub closer_below : (q r d : ℕ) → r * 2 < d → closer q r d ≡ q
closer_below q r d h = grind (arith, nat_tests)

pub closer_half : (q r d : ℕ) → r * 2 ≡ d → closer q r d ≡ tie q
closer_half q r d h = grind (arith, nat_tests)

pub closer_above : (q r d : ℕ) → d < r * 2 → closer q r d ≡ suc q
closer_above q r d h = grind (arith, nat_tests)

-- equal fractions have one nearest whole number

module _ (a b c d : ℕ) (B : 0 < b) (D : 0 < d) (e : a * d ≡ c * b) where
  whole_same : a / b ≡ c / d
  whole_same = div_same a b c d B D e

  rest_same : a % b * d ≡ c % d * b
  rest_same = omega (arith, ap (λ (z : ℕ). z * d) (div-add-mod' a b), ap (λ (z : ℕ). z * b) (div-add-mod' c d), ap (λ (z : ℕ). z * (b * d)) whole_same)

  pub nearest-same : nearest a b ≡ nearest c d
  nearest-same =
      elim (cases_order (a % b * 2) b) [
        | inl l ↦
            let k : c % d * 2 ≡ d = eq_of_mul-eq-mul_right b B (c % d * 2) d (omega (arith, ap (λ (z : ℕ). z * d) l, rest_same)) in
            closer_half (a / b) (a % b) b l ∙ ap tie whole_same ∙ sym (closer_half (c / d) (c % d) d k)
        | inr o ↦ elim o [
          | inl l ↦
              let k : c % d * 2 < d = lt_of_mul-lt-mul_right b (omega (arith, mul-lt-mul_of_pos_right l D, rest_same)) in
              closer_below (a / b) (a % b) b l ∙ whole_same ∙ sym (closer_below (c / d) (c % d) d k)
          | inr l ↦
              let k : d < c % d * 2 = lt_of_mul-lt-mul_right b (omega (arith, mul-lt-mul_of_pos_right l D, rest_same)) in
              closer_above (a / b) (a % b) b l ∙ ap suc whole_same ∙ sym (closer_above (c / d) (c % d) d k)
        ]
      ]

-- below a half the nearest is 0
pub nearest_zero : (n d : ℕ) → n * 2 < d → nearest n d ≡ 0
nearest_zero n d h =
    let l : n < d = omega arith in
    let m : n % d ≡ n = mod-eq_of_lt l in
    closer_below (n / d) (n % d) d (omega arith) ∙ div-eq_of_lt l

-- by a shift

nearest_most : (n d : ℕ) → nearest n d ≤ suc (n / d)
nearest_most n d = grind (arith, nat_tests)

pub shifted_lt : (m k r : ℕ) → r ≡ nearest m (2 ^ k) → m < 2 ^ 53 → r < 2 ^ 63
shifted_lt m k r e h = omega (arith, nearest_most m (2 ^ k), shr_le m k)

-- the remainder by 2 ^ k, masked off, and the half of 2 ^ k, as the machine has them
module _ (m k : ℕ) (K : 0 < k) (W : k < 64) where
  one_shifted : (1 * 2 ^ k) % 2 ^ 64 ≡ 2 ^ k
  one_shifted = one_shl k 64 W

  rest-is : bit_and m ((1 * 2 ^ k) % 2 ^ 64 - 1) ≡ m % 2 ^ k
  rest-is = ap (λ (j : ℕ). bit_and m (j - 1)) one_shifted ∙ and_mask m k

  half_is : (1 * 2 ^ (k - 1)) % 2 ^ 64 * 2 ≡ 2 ^ k
  half_is =
      let p : k - 1 + 1 ≡ k = omega arith in
      ap (λ (j : ℕ). j * 2) (one_shl (k - 1) 64 (omega arith)) ∙ sym (pow-add 2 (k - 1) 1) ∙ ap (λ (j : ℕ). 2 ^ j) p

  pub rest_below : bit_and m ((1 * 2 ^ k) % 2 ^ 64 - 1) < (1 * 2 ^ (k - 1)) % 2 ^ 64 → nearest m (2 ^ k) ≡ m / 2 ^ k
  rest_below h = closer_below (m / 2 ^ k) (m % 2 ^ k) (2 ^ k) (omega (arith, rest-is, half_is))

  pub rest_half : bit_and m ((1 * 2 ^ k) % 2 ^ 64 - 1) ≡ (1 * 2 ^ (k - 1)) % 2 ^ 64 → nearest m (2 ^ k) ≡ tie (m / 2 ^ k)
  rest_half h = closer_half (m / 2 ^ k) (m % 2 ^ k) (2 ^ k) (omega (arith, rest-is, half_is))

  pub rest_above : (1 * 2 ^ (k - 1)) % 2 ^ 64 < bit_and m ((1 * 2 ^ k) % 2 ^ 64 - 1) → nearest m (2 ^ k) ≡ suc (m / 2 ^ k)
  rest_above h = closer_above (m / 2 ^ k) (m % 2 ^ k) (2 ^ k) (omega (arith, rest-is, half_is))

-- the nearest by the remainder and the half
pub ruleset by_rest = (rest_below, rest_half, rest_above)
