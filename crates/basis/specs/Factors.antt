-- Factors in whole hundred-thousandths.
use Rattle.std.specs.Prelude.{ℕ, ◌+◌, ◌*◌, ◌/◌, min, cond, Some, None, Option, nat_le}

-- the greatest factor, 10
abbrev pub most : ℕ
most = 1_000_000

-- a number of hundred-thousandths that is a factor
abbrev pub factor_of : ℕ → Option ℕ
factor_of units = cond (nat_le units most) (Some units) None

-- so many hundredths of a factor, rounded to the nearest, halves up, at most the greatest factor
abbrev pub scaled_by : ℕ → ℕ → ℕ
scaled_by hundredths units = min most ((hundredths * units + 50) / 100)
