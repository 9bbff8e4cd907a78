-- What an envelope answers, and what it leaves in the strip.
use Rattle.std.specs.Prelude.{ℕ, ◌+◌, ◌-◌, Bool, true, false, cond, List, [], ◌∷◌, ◌++◌, map, length, ℤ, Some, None, Ok, Err, filter, Option, Result, ◌==◌, nat_le}
use Rattle.basis.specs.declared.action.Kind.{Kind}
use Rattle.basis.specs.Vocabulary.{is_variable, event_kind}
use Rattle.effects.specs.Components.{zeros, size, exact_multiple}
use Rattle.rulebooks.specs.Books.{Form, Book}
use Rattle.sheet.specs.Content.{Content}
use Rattle.sheet.specs.Limits.{parts_in}
use Rattle.envelope.specs.Places.{places}
use Rattle.envelope.specs.declared.combination.Combination.{Combination}
use Rattle.envelope.specs.declared.combination.Extreme.{Extreme}
use Rattle.envelope.specs.declared.combination.Refusal.{Refusal}
use Rattle.envelope.specs.declared.combination.Refusal.TheVariants.{NotAsManyEffects, ShortStrip, TooLarge, NoEvent}
use Rattle.envelope.specs.declared.entry.Entry.{Entry}
use Rattle.envelope.specs.Entries.{entries, parts_of, acts, has}
use Rattle.envelope.specs.Combinations.{weighted, at}
use Rattle.envelope.specs.Choices.{choice}
use Rattle.envelope.specs.Reported.{effect, reported, every}

-- an effect by its components and its combination, or the number of a question, with a part's number where it names one
pub data Reply : Type 0 where
  found : List ℤ → Combination → Reply
  refused : ℕ → Reply
  refused_at : ℕ → ℕ → Reply

-- what the code's result says
abbrev pub reply_of : {E : Type 0} → (E → List ℤ) → Result (Extreme E) Refusal → Reply
reply_of components (Ok x) = found (components x.effect) x.combination
reply_of components (Err NotAsManyEffects) = refused 10
reply_of components (Err ShortStrip) = refused 11
reply_of components (Err (TooLarge p)) = refused_at 12 p
reply_of components (Err NoEvent) = refused 13

-- the first part, from number p on, whose size passes 10^9
abbrev pub too_large : ℕ → List (List ℤ) → Option ℕ
too_large p [] = None
too_large p (xs ∷ rest) = cond (nat_le (size xs) 1_000_000_000) (too_large (p + 1) rest) (Some p)

-- where the situation has a kind of event, an active action of that kind
abbrev pub event_at_hand : Option Kind → Content → Bool
event_at_hand None s = true
event_at_hand (Some k) s = cond (every (λ e. cond (acts k e.action) false true) (entries s)) false true

-- a question of yes or no
abbrev pub ask : ℕ → Bool → Reply → Reply
ask q true rest = rest
ask q false rest = refused q

module _ (n : ℕ) (reaches : List ℤ → List ℤ → Bool) (s : Content) (b : Book) (xss : List (List ℤ)) where
  -- the questions in their order, `room` being the length of the strip
  abbrev pub answer : ℕ → Reply
  answer room =
      ask 10 (length xss == parts_in s.actions)
      (ask 11 (nat_le 24 room)
      (elim (too_large 0 xss) [
        | Some p ↦ refused_at 12 p
        | None ↦ ask 13 (event_at_hand (event_kind b.situation) s) (found (effect n reaches s b xss (reported n reaches s b xss)) (reported n reaches s b xss))
      ]))

  -- the sum of the chosen parts of an active variable action times the factor of its category, zero of a suspended one
  abbrev pub contribution : (Entry → ℕ) → Entry → List ℤ
  contribution factor_of e =
      let parts = parts_of xss e in
      cond e.action.active (exact_multiple (factor_of e) (weighted n (λ p. cond (has (choice n reaches e.action.spread parts) p) 1 0) parts)) (zeros n)

  -- twelve places, one for each variable action, zero where there is none
  abbrev pub half : (Entry → ℕ) → List (List ℤ)
  half factor_of = places 12 (map (contribution factor_of) (filter (λ e. is_variable e.action.kind) (entries s))) (zeros n)

  -- the form whose contributions the strip shows
  abbrev pub last_form : Form
  last_form = b.form (b.forms - 1)

  -- the leading half, zero where the last form has no leader, and the accompanying half
  abbrev pub strip_after : List (List ℤ)
  strip_after =
      half (λ e. cond last_form.leader (at e.action.category last_form.leading) 0)
      ++ half (λ e. at e.action.category last_form.accompanying)
