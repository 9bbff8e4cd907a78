-- A list brought to a number of places.
use Rattle.std.specs.Prelude.{ℕ, zero, suc, List, [], ◌∷◌}

-- n places: the values in their order, and z where there is none
abbrev pub places : {E : Type 0} → ℕ → List E → E → List E
places zero vs z = []
places (suc n) [] z = z ∷ places n [] z
places (suc n) (v ∷ vs) z = v ∷ places n vs z
