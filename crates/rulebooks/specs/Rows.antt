-- What a row of the code's table means.
use Rattle.std.specs.Prelude.{ℕ, Some, None, Option}
use Rattle.basis.specs.declared.category.Category.{Category}
use Rattle.rulebooks.specs.declared.row.Share.{Share}
use Rattle.rulebooks.specs.declared.row.Share.TheVariants.{Whole, Psi0, Psi1, Psi2}
use Rattle.rulebooks.specs.declared.row.Term.{Term}
use Rattle.rulebooks.specs.declared.row.Row.{Row}
use Rattle.rulebooks.specs.Books.{Form}
use Rattle.rulebooks.specs.Table.{one, ψ0, ψ1, ψ2, product, led, unled}

-- a share in tenths
abbrev pub tenths : Share → Category → ℕ
tenths Whole = one
tenths Psi0 = ψ0
tenths Psi1 = ψ1
tenths Psi2 = ψ2

-- a partial factor times a share
abbrev pub term : Term → Category → ℕ
term t = product t.gamma (tenths t.share)

-- the term of a partial factor and a share
abbrev pub term_of : ℕ → Share → Term
term_of g s = record { gamma = g; share = s }

-- a row has a leader where it has a leading term
abbrev pub row_form : ℕ → ℕ → Option Term → Term → Form
row_form up low (Some t) acc = led up low (term t) (term acc)
row_form up low None acc = unled up low (term acc)

-- the form that a row means
abbrev pub form_of : Row → Form
form_of r = row_form r.upper.units r.lower.units r.leading r.accompanying
