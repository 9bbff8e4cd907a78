-- What a rulebook means: fixed numbers, and the laws that they keep. Factors are in hundred-thousandths.
use Rattle.std.specs.Prelude.{◌≡◌, ℕ, ◌≤◌, Bool}
use Rattle.basis.specs.Factors.{most}
use Rattle.basis.specs.declared.category.Category.{Category}
use Rattle.basis.specs.declared.situation.Situation.{Situation}

-- one form of a rulebook
pub record Form : Type 0 where
  pub leader : Bool
  pub upper : ℕ
  pub lower : ℕ
  pub prestress : ℕ
  pub leading : Category → ℕ
  pub accompanying : Category → ℕ

-- whether it splits permanent actions, and its forms, counted from 0
pub record Book : Type 0 where
  pub situation : Situation
  pub splits : Bool
  pub forms : ℕ
  pub form : ℕ → Form

-- what every rulebook keeps
pub record BookLaws (b : Book) : Type 0 where
  -- one or two forms
  pub some : 1 ≤ b.forms
  pub few : b.forms ≤ 2
  -- lower is at most upper, accompanying at most leading
  pub permanent : (i : ℕ) → (b.form i).lower ≤ (b.form i).upper
  pub variable : (i : ℕ) (c : Category) → (b.form i).accompanying c ≤ (b.form i).leading c
  -- no factor passes 1,000,000
  pub uppers : (i : ℕ) → (b.form i).upper ≤ most
  pub prestresses : (i : ℕ) → (b.form i).prestress ≤ most
  pub leadings : (i : ℕ) (c : Category) → (b.form i).leading c ≤ most
  -- a form past the last counts as form 0
  pub past : (i : ℕ) → b.forms ≤ i → b.form i ≡ b.form 0
