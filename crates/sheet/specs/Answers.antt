-- What a call on a sheet answers.
use Rattle.std.specs.Prelude.{ℕ, Ok, Err, Result}
use Rattle.sheet.specs.declared.action.Refusal.{Refusal}
use Rattle.sheet.specs.declared.action.Refusal.TheVariants.{NoSuchKind, WrongCategory, WrongSpread, WrongParts, SheetFull, NotEntered, NotVariable, PairUnchanged, ActivityUnchanged}

-- the number of each refusal
abbrev pub refusal_number : Refusal → ℕ
refusal_number NoSuchKind = 1
refusal_number WrongCategory = 2
refusal_number WrongSpread = 3
refusal_number WrongParts = 4
refusal_number SheetFull = 5
refusal_number NotEntered = 6
refusal_number NotVariable = 7
refusal_number PairUnchanged = 8
refusal_number ActivityUnchanged = 9

-- a value, or the number of the refusal
pub data Answer (X : Type 0) : Type 0 where
  granted : X → Answer X
  denied : ℕ → Answer X

-- what the code's result says
abbrev pub said : {X : Type 0} → Result X Refusal → Answer X
said (Ok x) = granted x
said (Err e) = denied (refusal_number e)
