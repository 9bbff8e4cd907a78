-- The nine rulebooks of EN 1990:2002 with Annex A1.
use Rattle.std.specs.Prelude.{ℕ, ◌*◌, Bool, true, false, cond, ◌==◌}
use Rattle.basis.specs.declared.category.Category.{Category}
use Rattle.basis.specs.declared.category.Category.TheVariants.{A, B, C, D, E, F, G, H, Snow, HighSnow, Wind, Temperature}
use Rattle.basis.specs.declared.situation.Situation.{Situation}
use Rattle.basis.specs.declared.situation.Situation.TheVariants.{Persistent, Accidental, Seismic, Serviceability}
use Rattle.rulebooks.specs.declared.psi.Psi.{Psi}
use Rattle.rulebooks.specs.Books.{Form, Book}

-- ψ0, ψ1 and ψ2 in tenths
abbrev pub ψs : ℕ → ℕ → ℕ → Psi
ψs p q r = record { psi0 = p; psi1 = q; psi2 = r }

-- Table A1.1
abbrev pub psi : Category → Psi
psi A = ψs 7 5 3
psi B = ψs 7 5 3
psi C = ψs 7 7 6
psi D = ψs 7 7 6
psi E = ψs 10 9 8
psi F = ψs 7 7 6
psi G = ψs 7 5 3
psi H = ψs 0 0 0
psi Snow = ψs 5 2 0
psi HighSnow = ψs 7 5 2
psi Wind = ψs 6 2 0
psi Temperature = ψs 6 5 0

-- the share of a variable action that is taken, in tenths: all of it
abbrev pub one : Category → ℕ
one c = 10

-- the combination value
abbrev pub ψ0 : Category → ℕ
ψ0 c = (psi c).psi0

-- the frequent value
abbrev pub ψ1 : Category → ℕ
ψ1 c = (psi c).psi1

-- the quasi-permanent value
abbrev pub ψ2 : Category → ℕ
ψ2 c = (psi c).psi2

-- a partial factor in hundredths times a share, in hundred-thousandths
abbrev pub product : ℕ → (Category → ℕ) → Category → ℕ
product gamma share c = gamma * share c * 100

-- a form with a leader: upper, lower, leading, accompanying
abbrev pub led : ℕ → ℕ → (Category → ℕ) → (Category → ℕ) → Form
led up low lead acc =
    record { leader = true; upper = up; lower = low; prestress = 100_000; leading = lead; accompanying = acc }

-- a form without leader answers the accompanying factor for both
abbrev pub unled : ℕ → ℕ → (Category → ℕ) → Form
unled up low acc =
    record { leader = false; upper = up; lower = low; prestress = 100_000; leading = acc; accompanying = acc }

-- a rulebook of one form
abbrev pub one_form : Situation → Bool → Form → Book
one_form s b f = record { situation = s; splits = b; forms = 1; form = λ _. f }

-- a rulebook of two forms; a form past the last counts as form 0
abbrev pub two_forms : Situation → Bool → Form → Form → Book
two_forms s b f g = record { situation = s; splits = b; forms = 2; form = λ i. cond (i == 1) g f }

-- 1 EQU: 6.10 with Table A1.2(A); it alone splits permanent actions
abbrev pub equ : Book
equ = one_form Persistent true (led 110_000 90_000 (product 150 one) (product 150 ψ0))

-- 2 STR: 6.10 with Table A1.2(B)
abbrev pub str : Book
str = one_form Persistent false (led 135_000 100_000 (product 150 one) (product 150 ψ0))

-- 3 STR pair: 6.10a, and 6.10b with ξ = 0.85, with Table A1.2(B)
abbrev pub str_pair : Book
str_pair =
    two_forms Persistent false
    (unled 135_000 100_000 (product 150 ψ0))
    (led 114_750 100_000 (product 150 one) (product 150 ψ0))

-- 4 GEO: 6.10 with Table A1.2(C)
abbrev pub geo : Book
geo = one_form Persistent false (led 100_000 100_000 (product 130 one) (product 130 ψ0))

-- 5 accidental: 6.11b
abbrev pub accidental : Book
accidental = one_form Accidental false (led 100_000 100_000 (product 100 ψ1) (product 100 ψ2))

-- 6 seismic: 6.12b
abbrev pub seismic : Book
seismic = one_form Seismic false (unled 100_000 100_000 (product 100 ψ2))

-- 7 characteristic: 6.14b
abbrev pub characteristic : Book
characteristic = one_form Serviceability false (led 100_000 100_000 (product 100 one) (product 100 ψ0))

-- 8 frequent: 6.15b
abbrev pub frequent : Book
frequent = one_form Serviceability false (led 100_000 100_000 (product 100 ψ1) (product 100 ψ2))

-- 9 quasi-permanent: 6.16b
abbrev pub quasi_permanent : Book
quasi_permanent = one_form Serviceability false (unled 100_000 100_000 (product 100 ψ2))
