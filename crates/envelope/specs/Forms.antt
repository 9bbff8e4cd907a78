-- The best combination of some forms; only private functions rest on it.
use Rattle.std.specs.Prelude.{ℕ, Bool, not, T, List, ℤ}
use Rattle.rulebooks.specs.Books.{Book}
use Rattle.sheet.specs.Content.{Content}
use Rattle.envelope.specs.declared.combination.Combination.{Combination}
use Rattle.envelope.specs.Admissible.{Admissible}
use Rattle.envelope.specs.Reported.{effect, before, Chosen}

-- Of the admissible combinations with chosen parts in the forms that Q takes, c is of greatest effect, and the first of those.
pub record BestAmong (n : ℕ) (reaches : List ℤ → List ℤ → Bool) (s : Content) (b : Book) (xss : List (List ℤ)) (Q : ℕ → Type 0) (c : Combination) : Type 0 where
  pub within : Q c.form
  pub admissible : Admissible s b c
  pub chosen : Chosen n reaches s b xss c
  pub greatest : (d : Combination) → Q d.form → Admissible s b d → Chosen n reaches s b xss d → T (reaches (effect n reaches s b xss c) (effect n reaches s b xss d))
  pub first : (d : Combination) → Q d.form → Admissible s b d → Chosen n reaches s b xss d → T (before d c) → T (not (reaches (effect n reaches s b xss d) (effect n reaches s b xss c)))
