-- Rounding as a relation between a binary64 number and a whole number.
use Rattle.std.specs.Prelude.{◌≡◌, ℕ, ◌≤◌, ◌⊎◌, List, [], ◌∷◌, ℤ, pos, ◌-ℤ◌, ◌*ℤ◌, unsigned_abs, Float}
use Rattle.effects.specs.declared.section.Section.{Section}
use Rattle.readings.specs.declared.list.Reading.{Reading}
use Rattle.readings.specs.Nearest.{negative, size, unit, signed, Preferred}

-- a finite x is exactly numerator x / unit x
abbrev pub numerator : Float → ℤ
numerator x = signed (negative x) (size x)

-- how far the whole number k is from x, as a multiple of 1 / unit x
abbrev pub off : Float → ℤ → ℕ
off x k = unsigned_abs (numerator x -ℤ k *ℤ pos (unit x))

-- z is the whole number that x rounds to
pub record Rounded (x : Float) (z : ℤ) : Type 0 where
  -- no whole number is nearer to x
  pub nearest : (k : ℤ) → off x z ≤ off x k
  -- of two that are as near, z is the one farther from zero
  pub ties : (k : ℤ) → off x k ≡ off x z → (k ≡ z) ⊎ Preferred (unsigned_abs z) (unsigned_abs k)
  -- a whole number comes through exactly
  pub exact : (k : ℤ) → off x k ≡ 0 → z ≡ k

-- a section effect whose fields are those of the reading, rounded
pub record SectionRounded (x : Reading) (s : Section) : Type 0 where
  pub axial : Rounded x.axial s.axial
  pub moment : Rounded x.moment s.moment
  pub shear : Rounded x.shear s.shear

-- as many effects as readings, each its reading rounded
abbrev pub EachRounded : List Reading → List Section → Type 0
EachRounded [] [] = Unit {0}
EachRounded [] (s ∷ ss) = ⊥
EachRounded (x ∷ xs) [] = ⊥
EachRounded (x ∷ xs) (s ∷ ss) = SectionRounded x s × EachRounded xs ss
