-- Worked figures, with single effects.
use Rattle.std.specs.Prelude.{◌≡◌, ℕ, true, false, List, [], ◌∷◌, map, replicate, ℤ, pos, negsuc, Some, None, Option}
use Rattle.basis.specs.declared.category.Category.{Category}
use Rattle.basis.specs.declared.category.Category.TheVariants.{A, Wind}
use Rattle.basis.specs.declared.action.Kind.{Kind}
use Rattle.basis.specs.declared.action.Kind.TheVariants.{Permanent, Variable, Accidental}
use Rattle.basis.specs.declared.action.Spread.{Spread}
use Rattle.basis.specs.declared.action.Spread.TheVariants.{Fixed, Free, Alternative}
use Rattle.effects.specs.Rankings.{first_not_less}
use Rattle.rulebooks.specs.Books.{Book}
use Rattle.rulebooks.specs.Table.{equ, str, str_pair, accidental, characteristic}
use Rattle.sheet.specs.declared.action.Action.{Action}
use Rattle.sheet.specs.Content.{Content, blank}
use Rattle.envelope.specs.declared.combination.Combination.{Combination}
use Rattle.envelope.specs.Combinations.{effect_of}
use Rattle.envelope.specs.Admissible.{Admissible}
use Rattle.sheet.specs.Histories.{enter, edit, issue, reopen, envelope, issued, Leaves}
use Rattle.envelope.specs.Histories.{Grows}
use Rattle.envelope.specs.Answers.{Reply, found, refused, refused_at, answer}

abbrev pub action : Kind → Option Category → Spread → ℕ → Action
action k c s n = record { kind = k; category = c; spread = s; parts = n; active = true }

abbrev pub sheet_of : List Action → Content
sheet_of list = record { actions = list; marked = λ _ _. false }

-- permanent 100, fixed A 50, fixed W 30
abbrev pub frame : Content
frame = sheet_of (action Permanent None Fixed 1 ∷ action Variable (Some A) Fixed 1 ∷ action Variable (Some Wind) Fixed 1 ∷ [])

abbrev pub single : ℤ → List ℤ
single z = z ∷ []

abbrev pub frame_effects : List (List ℤ)
frame_effects = map single (pos 100 ∷ pos 50 ∷ pos 30 ∷ [])

-- what a figure shows of a reply
abbrev pub shown : Reply → List ℤ × (ℕ × Option ℕ × ℕ)
shown (found xs c) = (xs, (c.form, c.leader, c.set))
shown (refused q) = ([], (q, None, 0))
shown (refused_at q p) = ([], (q, None, p))

abbrev pub greatest : Content → Book → List (List ℤ) → Reply
greatest s b xss = answer 1 first_not_less s b xss 24

abbrev pub least : Content → Book → List (List ℤ) → Reply
least s b xss = answer 1 (λ xs ys. first_not_less ys xs) s b xss 24

abbrev pub effect_shown : Reply → List ℤ
effect_shown r = (shown r).0

-- the parts 20, -15 and 10 of one variable action
abbrev pub three : Spread → List ℤ
three spread = effect_shown (greatest (sheet_of (action Variable (Some A) spread 3 ∷ [])) characteristic (map single (pos 20 ∷ negsuc 14 ∷ pos 10 ∷ [])))

abbrev pub permanent_pair : Book → List ℤ
permanent_pair b = effect_shown (greatest (sheet_of (action Permanent None Fixed 2 ∷ [])) b (map single (pos 60 ∷ negsuc 39 ∷ [])))

pub record Figures : Type 0 where
  pub frame_str : shown (greatest frame str frame_effects) ≡ (single (pos 23_700_000), (0, Some 1, 3))
  pub frame_turned : shown (least frame str frame_effects) ≡ (single (pos 10_000_000), (0, None, 0))
  pub frame_pair : shown (greatest frame str_pair frame_effects) ≡ (single (pos 21_675_000), (1, Some 1, 3))
  pub split : permanent_pair equ ≡ single (pos 3_000_000)
  pub not_split : permanent_pair str ≡ single (pos 2_700_000)
  pub free : three Free ≡ single (pos 3_000_000)
  pub fixed : three Fixed ≡ single (pos 1_500_000)
  pub alternative : three Alternative ≡ single (pos 2_000_000)
  pub event : effect_shown (greatest (sheet_of (action Permanent None Fixed 1 ∷ action Accidental None Fixed 1 ∷ action Accidental None Fixed 1 ∷ [])) accidental (map single (pos 100 ∷ negsuc 79 ∷ negsuc 49 ∷ []))) ≡ single (pos 5_000_000)
  pub no_event : greatest (sheet_of (action Permanent None Fixed 1 ∷ [])) accidental (map single (pos 100 ∷ [])) ≡ refused 13
  pub empty : effect_shown (greatest blank str []) ≡ single (pos 0)

-- permanent at upper, both variable actions present, the first leading
abbrev pub both_present : Combination
both_present = record { form = 0; leader = Some 1; event = None; set = 3; masks = 1 ∷ (1 ∷ (1 ∷ replicate 29 0)) }

-- the wind leads, and is not present
abbrev pub absent_leader : Combination
absent_leader = record { form = 0; leader = Some 2; event = None; set = 1; masks = 1 ∷ (1 ∷ (0 ∷ replicate 29 0)) }

-- some combinations are admissible, and some are not
pub record ToldApart : Type 0 where
  pub yes : Admissible frame str both_present
  pub effect : effect_of 1 frame str frame_effects both_present ≡ single (pos 23_700_000)
  pub nay : Admissible frame str absent_leader → ⊥
  -- the frame has a history in which an envelope of the permanent action alone was asked first, and only growing calls followed
  pub history : Leaves (edit (enter 1 45 1 1) ∷ (issue ∷ [])) (issued (sheet_of (action Permanent None Fixed 1 ∷ [])))
  pub growth : Grows (issued (sheet_of (action Permanent None Fixed 1 ∷ []))) (envelope ∷ (reopen ∷ (edit (enter 3 65 1 1) ∷ (edit (enter 1 45 2 1) ∷ (edit (enter 3 87 1 1) ∷ (issue ∷ [])))))) (issued frame)
