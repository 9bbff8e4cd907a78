-- A list of readings as a list of section effects, and the questions that are put first.
use Rattle.std.specs.Prelude.{ℕ, Bool, cond, ◌&&◌, List, map, length, Some, None, Ok, Err, Option, Result, not, ◌==◌}
use Rattle.std.specs.List.{position}
use Rattle.effects.specs.declared.section.Section.{Section}
use Rattle.readings.specs.declared.list.Reading.{Reading}
use Rattle.readings.specs.declared.list.ReadingRefusal.{ReadingRefusal}
use Rattle.readings.specs.declared.list.ReadingRefusal.TheVariants.{PlacesDiffer, OutOfRange}
use Rattle.readings.specs.Nearest.{readable, whole_of}

-- all three numbers are finite and of magnitude at most 10^9
abbrev pub all_readable : Reading → Bool
all_readable x = readable x.axial && readable x.moment && readable x.shear

-- field by field
abbrev pub section_of : Reading → Section
section_of x = record { axial = whole_of x.axial; moment = whole_of x.moment; shear = whole_of x.shear }

-- the place of the first reading that is not readable
abbrev pub first_unreadable : List Reading → Option ℕ
first_unreadable xs = position (λ x. not (all_readable x)) xs

-- all are read, or the number of the refusal, with a place where it names one
pub data Answer : Type 0 where
  all_read : Answer
  refused : ℕ → Answer
  refused_at : ℕ → ℕ → Answer

-- what the code's result says
abbrev pub said : Result (Unit {0}) ReadingRefusal → Answer
said (Ok u) = all_read
said (Err PlacesDiffer) = refused 14
said (Err (OutOfRange p)) = refused_at 15 p

-- The answer, and the places after it. As many places as readings? 14. All finite and of magnitude at most 10^9? 15, with
-- the first that is not. A refusal leaves the places as they were.
abbrev pub reading : List Reading → List Section → Answer × List Section
reading xs places =
    cond (length xs == length places)
    (elim (first_unreadable xs) [ None ↦ (all_read, map section_of xs) | Some p ↦ (refused_at 15 p, places) ])
    (refused 14, places)
