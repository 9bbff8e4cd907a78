-- The exact value of a binary64 number, and the whole number that it is read as.
use Rattle.std.specs.Prelude.{ℕ, suc, ◌*◌, ◌/◌, ◌%◌, ◌^◌, ◌<◌, Bool, true, false, cond, ◌&&◌, ℤ, pos, neg_ℤ, Some, None, Option, nat_le, nat_lt, Float}
use Rattle.std.specs.Float.{nan, inf, fin}
use Rattle.std.specs.Float.Ieee.{up, down}

-- A finite float is exactly ± size / unit, which are whole numbers.

-- neither a NaN nor an infinity
abbrev pub finite : Float → Bool
finite nan = false
finite (inf s) = false
finite (fin s m e) = true

-- the sign
abbrev pub negative : Float → Bool
negative nan = false
negative (inf s) = s
negative (fin s m e) = s

-- the magnitude, as a multiple of 1 / unit
abbrev pub size : Float → ℕ
size nan = 0
size (inf s) = 0
size (fin s m e) = m * up e

-- the denominator, a power of two
abbrev pub unit : Float → ℕ
unit nan = 1
unit (inf s) = 1
unit (fin s m e) = down e

-- where a half between q and q + 1 goes: away from zero
abbrev pub tie : ℕ → ℕ
tie q = suc q

-- the same as a relation: of two magnitudes that are as near, z is taken and not k
abbrev pub Preferred : ℕ → ℕ → Type 0
Preferred z k = k < z

-- the whole number nearest to q + r / d, for an r below d
abbrev pub closer : ℕ → ℕ → ℕ → ℕ
closer q r d = cond (nat_lt (r * 2) d) q (cond (nat_lt d (r * 2)) (suc q) (tie q))

-- the whole number nearest to n / d
abbrev pub nearest : ℕ → ℕ → ℕ
nearest n d = closer (n / d) (n % d) d

-- a magnitude with its sign
abbrev pub signed : Bool → ℕ → ℤ
signed false n = pos n
signed true n = neg_ℤ (pos n)

-- finite and of magnitude at most 10^9
abbrev pub readable : Float → Bool
readable x = finite x && nat_le (size x) (10 ^ 9 * unit x)

-- the nearest whole number
abbrev pub whole_of : Float → ℤ
whole_of x = signed (negative x) (nearest (size x) (unit x))

-- what a number is read as; none where it is not readable
abbrev pub read_of : Float → Option ℤ
read_of x = cond (readable x) (Some (whole_of x)) None
