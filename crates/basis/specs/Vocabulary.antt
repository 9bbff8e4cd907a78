-- Kinds, spreads and categories of action by their numbers and letters, and the event of a design situation.
use Rattle.std.specs.Prelude.{ℕ, Bool, true, false, cond, not, List, [], ◌∷◌, Some, None, codes, Option, ◌==◌}
use Rattle.basis.specs.declared.action.Kind.{Kind}
use Rattle.basis.specs.declared.action.Kind.TheVariants.{Permanent, Prestress, Variable, Accidental, Seismic}
use Rattle.basis.specs.declared.action.Spread.{Spread}
use Rattle.basis.specs.declared.action.Spread.TheVariants.{Fixed, Free, Alternative}
use Rattle.basis.specs.declared.category.Category.{Category}
use Rattle.basis.specs.declared.category.Category.TheVariants.{A, B, C, D, E, F, G, H, Snow, HighSnow, Wind, Temperature}
use Rattle.basis.specs.declared.situation.Situation.{Situation}
use Rattle.basis.specs.declared.situation.Situation.TheVariants.{Persistent as InPersistent, Accidental as InAccidental, Seismic as InSeismic, Serviceability as InServiceability}

-- what a code stands for: the value at the code's first place in the list of codes
abbrev pub coded : {X : Type 0} → List ℕ → List X → ℕ → Option X
coded [] _ _ = None
coded (_ ∷ _) [] _ = None
coded (c ∷ cs) (x ∷ xs) code = cond (code == c) (Some x) (coded cs xs code)

-- kinds of action are numbered from 1
abbrev pub kind_of : ℕ → Option Kind
kind_of = coded (1 ∷ 2 ∷ 3 ∷ 4 ∷ 5 ∷ []) (Permanent ∷ Prestress ∷ Variable ∷ Accidental ∷ Seismic ∷ [])

-- the number of a kind
abbrev pub kind_number : Kind → ℕ
kind_number Permanent = 1
kind_number Prestress = 2
kind_number Variable = 3
kind_number Accidental = 4
kind_number Seismic = 5

-- only variable actions have categories and can be excluded
abbrev pub is_variable : Kind → Bool
is_variable Permanent = false
is_variable Prestress = false
is_variable Variable = true
is_variable Accidental = false
is_variable Seismic = false

-- the same kind
abbrev pub same_kind : Kind → Kind → Bool
same_kind k l = kind_number k == kind_number l

-- spreads are numbered from 1
abbrev pub spread_of : ℕ → Option Spread
spread_of = coded (1 ∷ 2 ∷ 3 ∷ []) (Fixed ∷ Free ∷ Alternative ∷ [])

-- the number of a spread
abbrev pub spread_number : Spread → ℕ
spread_number Fixed = 1
spread_number Free = 2
spread_number Alternative = 3

-- permanent actions and prestress are fixed, accidental and seismic actions fixed or alternative, variable actions any
abbrev pub allows : Kind → Spread → Bool
allows Permanent s = spread_number s == 1
allows Prestress s = spread_number s == 1
allows Variable s = true
allows Accidental s = not (spread_number s == 2)
allows Seismic s = not (spread_number s == 2)

-- the letters of the categories of variable actions
abbrev pub category_of : ℕ → Option Category
category_of = coded (codes "ABCDEFGHSMWT") (A ∷ B ∷ C ∷ D ∷ E ∷ F ∷ G ∷ H ∷ Snow ∷ HighSnow ∷ Wind ∷ Temperature ∷ [])

-- the place of a category in that list, from 0
abbrev pub category_place : Category → ℕ
category_place A = 0
category_place B = 1
category_place C = 2
category_place D = 3
category_place E = 4
category_place F = 5
category_place G = 6
category_place H = 7
category_place Snow = 8
category_place HighSnow = 9
category_place Wind = 10
category_place Temperature = 11

-- the kind of action that must act in a situation, if any
abbrev pub event_kind : Situation → Option Kind
event_kind InPersistent = None
event_kind InAccidental = Some Accidental
event_kind InSeismic = Some Seismic
event_kind InServiceability = None
