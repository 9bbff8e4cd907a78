-- A reading's whole number is the nearest to the float's exact value.
use Rattle.std.proofs.Common.{◌≡◌, ℕ, zero, suc, ◌+◌, ◌-◌, ◌*◌, ◌/◌, ◌%◌, ◌<◌, ◌≤◌, Bool, true, false, cond, ◌⊎◌, List, [], ◌∷◌, map, ℤ, pos, negsuc, ◌-ℤ◌, ◌*ℤ◌, neg_ℤ, nat_abs, Some, None, sym, refl, ap, ◌∙◌, subst, inl, inr, mul-le-mul_right, mod-lt, suc-mul, div-add-mod', arith}
use native.Mathlib.Nat.{eq_of_mul-eq-mul_right}
use lib.Arith.{digits_div, digits_mod}
use lib.IntN.{neg_ℤ-neg_ℤ}
use lib.Ieee.{Float}
use Rattle.std.proofs.lemmas.Bool.{cases_order}
use Rattle.std.proofs.lemmas.Int.{ints}
use Rattle.readings.specs.Nearest.{negative, size, unit, signed, readable, whole_of, read_of, nearest, tie, Preferred}
use Rattle.readings.specs.Rounded.{off, Rounded, SectionRounded, EachRounded}
use Rattle.readings.specs.Readings.{section_of}
use Rattle.readings.specs.declared.list.Reading.{Reading}
use Rattle.readings.proofs.Rounding.{closer_below, closer_half, closer_above}
use Rattle.readings.proofs.Patterns.{unit_pos}

-- all that is used of the rule for halves: these two hold as they stand for halves to even too

tie_within : (q : ℕ) → (q ≤ tie q) × (tie q ≤ suc q)
tie_within q = (omega arith, omega arith)

preferred : (q k : ℕ) → (k ≡ q) ⊎ (k ≡ suc q) → (k ≡ tie q → ⊥) → Preferred (tie q) k
preferred q k e n = grind arith

-- n / d and the whole number r nearest to it

module _ (n d : ℕ) (D : 0 < d) where
  abbrev r : ℕ
  r = nearest n d

  -- at most half a unit off
  within : (r * d * 2 ≤ n * 2 + d) × (n * 2 ≤ r * d * 2 + d)
  within =
      let q = n / d in
      let m = n % d in
      let e : q * d + m ≡ n = div-add-mod' n d in
      let l : m < d = mod-lt n D in
      let s : suc q * d ≡ q * d + d = suc-mul q d in
      elim (cases_order (m * 2) d) [
        | inl h ↦
            let p : r * d ≡ tie q * d = ap (λ (k : ℕ). k * d) (closer_half q m d h) in
            omega (arith, mul-le-mul_right d (tie_within q).0, mul-le-mul_right d (tie_within q).1)
        | inr o ↦ elim o [
          | inl h ↦ let p : r * d ≡ q * d = ap (λ (k : ℕ). k * d) (closer_below q m d h) in omega arith
          | inr h ↦ let p : r * d ≡ suc q * d = ap (λ (k : ℕ). k * d) (closer_above q m d h) in omega arith
        ]
      ]

  at_half : (q : ℕ) → n * 2 ≡ q * d * 2 + d → r ≡ tie q
  at_half q h =
      let m = n - q * d in
      let l : m < d = omega arith in
      let e : n ≡ q * d + m = omega arith in
      let a : n / d ≡ q = ap (λ (k : ℕ). k / d) e ∙ digits_div q l in
      let b : n % d ≡ m = ap (λ (k : ℕ). k % d) e ∙ digits_mod q l in
      closer_half (n / d) (n % d) d (omega arith) ∙ ap tie a

  -- how far k is from n / d
  abbrev gap : ℤ → ℕ
  gap k = nat_abs (pos n -ℤ k *ℤ pos d)

  gap_pos : (k : ℕ) → gap (pos k) ≡ (n - k * d) + (k * d - n)
  gap_pos k = omega (arith, ints)

  gap_neg : (k : ℕ) → gap (negsuc k) ≡ n + suc k * d
  gap_neg k = omega (arith, ints)

  more : (a b : ℕ) → a < b → a * d + d ≤ b * d
  more a b h = omega (arith, mul-le-mul_right {m = suc a} {n = b} d h, suc-mul a d)

  near : (k : ℤ) → gap (pos r) ≤ gap k
  near (pos k) =
      elim (cases_order k r) [
        | inl h ↦ subst (λ (j : ℕ). gap (pos r) ≤ gap (pos j)) (sym h) (native.Mathlib.Nat.le_refl (gap (pos r)))
        | inr o ↦ elim o [ inl h ↦ omega (arith, gap_pos k, gap_pos r, within, more k r h) | inr h ↦ omega (arith, gap_pos k, gap_pos r, within, more r k h) ]
      ]
  near (negsuc k) = omega (arith, gap_neg k, gap_pos r, within, suc-mul k d)

  -- a and b are neighbours, and n / d is halfway
  next_to : (a b : ℕ) → b * d ≤ a * d + d → a * d + d ≤ b * d → b ≡ suc a
  next_to a b h l = eq_of_mul-eq-mul_right d D b (suc a) (omega (arith, suc-mul a d))

  ties : (k : ℤ) → gap k ≡ gap (pos r) → (k ≡ pos r) ⊎ Preferred r (nat_abs k)
  ties (pos k) e =
      elim (cases_order k r) [
        | inl h ↦ inl (ap pos h)
        | inr o ↦ elim o [
          | inl h ↦
              let m = more k r h in
              let t : r ≡ tie k = at_half k (omega (arith, gap_pos k, gap_pos r, within)) in
              inr (subst (λ (j : ℕ). Preferred j k) (sym t) (preferred k k (inl refl) (λ z. omega arith)))
          | inr h ↦
              let m = more r k h in
              let s : k ≡ suc r = next_to r k (omega (arith, gap_pos k, gap_pos r, within)) m in
              let t : r ≡ tie r = at_half r (omega (arith, gap_pos k, gap_pos r, within)) in
              inr (subst (λ (j : ℕ). Preferred j k) (sym t) (preferred r k (inr s) (λ z. omega arith)))
        ]
      ]
  ties (negsuc k) e = absurd (omega (arith, gap_neg k, gap_pos r, within, suc-mul k d))

  exact : (k : ℤ) → gap k ≡ 0 → pos r ≡ k
  exact (pos k) e =
      elim (cases_order k r) [
        | inl h ↦ ap pos (sym h)
        | inr o ↦ elim o [ inl h ↦ absurd (omega (arith, gap_pos k, within, more k r h)) | inr h ↦ absurd (omega (arith, gap_pos k, within, more r k h)) ]
      ]
  exact (negsuc k) e = absurd (omega (arith, gap_neg k, suc-mul k d))

  -- the same below zero
  turned : (k : ℤ) → nat_abs (neg_ℤ (pos n) -ℤ k *ℤ pos d) ≡ gap (neg_ℤ k)
  turned (pos zero) = omega (arith, ints)
  turned (pos (suc k)) = omega (arith, ints)
  turned (negsuc k) = omega (arith, ints)

abs_neg : (k : ℤ) → nat_abs (neg_ℤ k) ≡ nat_abs k
abs_neg k = omega (arith, ints)

-- ±n / d is rounded to ±nearest n d
module _ (x : Float) (n d : ℕ) (D : 0 < d) (b : size x ≡ n) (c : unit x ≡ d) where
  off_is : (s : Bool) → negative x ≡ s → (k : ℤ) → off x k ≡ nat_abs (signed s n -ℤ k *ℤ pos d)
  off_is s a k = λ i. nat_abs (signed (a i) (b i) -ℤ k *ℤ pos (c i))

  above : negative x ≡ false → Rounded x (pos (nearest n d))
  above a =
      let z = pos (nearest n d) in record {
        nearest = λ k. omega (arith, off_is false a z, off_is false a k, near n d D k);
        ties = λ k e. ties n d D k (sym (off_is false a k) ∙ e ∙ off_is false a z);
        exact = λ k e. exact n d D k (sym (off_is false a k) ∙ e);
      }

  off_below : negative x ≡ true → (k : ℤ) → off x k ≡ gap n d D (neg_ℤ k)
  off_below a k = off_is true a k ∙ turned n d D k

  below : negative x ≡ true → Rounded x (neg_ℤ (pos (nearest n d)))
  below a =
      let r = nearest n d in
      let o : off x (neg_ℤ (pos r)) ≡ gap n d D (pos r) = off_below a (neg_ℤ (pos r)) ∙ ap (gap n d D) (neg_ℤ-neg_ℤ (pos r)) in record {
        nearest = λ k. omega (arith, o, off_below a k, near n d D (neg_ℤ k));
        ties = λ k e.
            elim (ties n d D (neg_ℤ k) (sym (off_below a k) ∙ e ∙ o)) [
              | inl h ↦ inl (sym (neg_ℤ-neg_ℤ k) ∙ ap neg_ℤ h)
              | inr h ↦ inr (subst (λ (j : ℕ). Preferred j (nat_abs k)) (sym (abs_neg (pos r))) (subst (λ (j : ℕ). Preferred r j) (abs_neg k) h))
            ];
        exact = λ k e. ap neg_ℤ (exact n d D (neg_ℤ k) (sym (off_below a k) ∙ e)) ∙ neg_ℤ-neg_ℤ k;
      }

by_sign : (x : Float) (s : Bool) → negative x ≡ s → Rounded x (signed s (nearest (size x) (unit x)))
by_sign x false a = above x (size x) (unit x) (unit_pos x) refl refl a
by_sign x true a = below x (size x) (unit x) (unit_pos x) refl refl a

pub whole_rounded : (x : Float) → Rounded x (whole_of x)
whole_rounded x = by_sign x (negative x) refl

pub read_rounded : (x : Float) (z : ℤ) → read_of x ≡ Some z → Rounded x z
read_rounded x z = go (readable x)
  where
    go : (b : Bool) → cond b (Some (whole_of x)) None ≡ Some z → Rounded x z
    go true e = let w : whole_of x ≡ z = cc in subst (Rounded x) w (by_sign x (negative x) refl)
    go false e = let w : ◌≡◌ {A = ℕ} 0 1 = cc in absurd (omega arith)

section_rounded : (x : Reading) → SectionRounded x (section_of x)
section_rounded x = record { axial = whole_rounded x.axial; moment = whole_rounded x.moment; shear = whole_rounded x.shear }

pub each_rounded : (xs : List Reading) → EachRounded xs (map section_of xs)
each_rounded [] = tt
each_rounded (x ∷ xs) = (section_rounded x, each_rounded xs)
