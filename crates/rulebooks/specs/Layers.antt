-- The layers over a rulebook.
use Rattle.std.specs.Prelude.{◌≡◌, ℕ, ◌≤◌, max, cond, ◌==◌, ◌≢◌}
use Rattle.basis.specs.Factors.{scaled_by}
use Rattle.basis.specs.Vocabulary.{category_place}
use Rattle.basis.specs.declared.category.Category.{Category}
use Rattle.basis.specs.declared.situation.Situation.{Situation}
use Rattle.basis.specs.declared.situation.Situation.TheVariants.{Persistent, Accidental, Seismic, Serviceability}
use Rattle.rulebooks.specs.declared.class_layer.Class.{Class}
use Rattle.rulebooks.specs.declared.class_layer.Class.TheVariants.{Rc1, Rc2, Rc3}
use Rattle.rulebooks.specs.Books.{Form, Book}
use Rattle.rulebooks.specs.Table.{geo}

-- K of a reliability class, in hundredths
abbrev pub hundredths : Class → ℕ
hundredths Rc1 = 90
hundredths Rc2 = 100
hundredths Rc3 = 110

-- leading, accompanying and upper times K; upper is never set below lower
abbrev pub scaled_form : ℕ → Form → Form
scaled_form k f =
    record {
      leader = f.leader;
      upper = max f.lower (scaled_by k f.upper);
      lower = f.lower;
      prestress = f.prestress;
      leading = λ c. scaled_by k (f.leading c);
      accompanying = λ c. scaled_by k (f.accompanying c);
    }

-- the class acts in persistent situations only
abbrev pub class_form : Situation → Class → Form → Form
class_form Persistent k f = scaled_form (hundredths k) f
class_form Accidental k f = f
class_form Seismic k f = f
class_form Serviceability k f = f

-- a rulebook under the class layer
abbrev pub classed : Class → Book → Book
classed k b =
    record { situation = b.situation; splits = b.splits; forms = b.forms; form = λ i. class_form b.situation k (b.form i) }

-- 0 at the category that is struck
abbrev pub without : Category → (Category → ℕ) → Category → ℕ
without struck factor c = cond (category_place c == category_place struck) 0 (factor c)

-- leading and accompanying without the struck category
abbrev pub stage_form : Category → Form → Form
stage_form struck f =
    record {
      leader = f.leader;
      upper = f.upper;
      lower = f.lower;
      prestress = f.prestress;
      leading = without struck f.leading;
      accompanying = without struck f.accompanying;
    }

-- a rulebook under the stage layer
abbrev pub staged : Category → Book → Book
staged struck b =
    record { situation = b.situation; splits = b.splits; forms = b.forms; form = λ i. stage_form struck (b.form i) }

-- what no layer touches
pub record SameFrame (b c : Book) : Type 0 where
  pub situation : c.situation ≡ b.situation
  pub splits : c.splits ≡ b.splits
  pub forms : c.forms ≡ b.forms
  pub leaders : (i : ℕ) → (c.form i).leader ≡ (b.form i).leader
  pub lowers : (i : ℕ) → (c.form i).lower ≡ (b.form i).lower
  pub prestresses : (i : ℕ) → (c.form i).prestress ≡ (b.form i).prestress

-- what a class layer leaves alone
pub record ClassLeavesAlone (b c : Book) : Type 0 where
  pub frame : SameFrame b c
  -- outside persistent situations, everything
  pub elsewhere : (b.situation ≢ Persistent) → c ≡ b
  -- upper is never set below lower
  pub guarded : (i : ℕ) → (b.form i).lower ≤ (c.form i).upper

-- what a stage layer leaves alone
pub record StageLeavesAlone (struck : Category) (b c : Book) : Type 0 where
  pub frame : SameFrame b c
  pub uppers : (i : ℕ) → (c.form i).upper ≡ (b.form i).upper
  -- every other category
  pub others : (i : ℕ) (d : Category) → (d ≢ struck) → ((c.form i).leading d ≡ (b.form i).leading d) × ((c.form i).accompanying d ≡ (b.form i).accompanying d)
  -- the struck category has no factor left
  pub no_factor : (i : ℕ) → ((c.form i).leading struck ≡ 0) × ((c.form i).accompanying struck ≡ 0)

-- K = 90 over GEO: upper stays 1.00, for 0.90 would be below lower, and leading becomes 1.17
abbrev pub GeoUnderRc1 : Type 0
GeoUnderRc1 = (((classed Rc1 geo).form 0).upper ≡ 100_000) × ((c : Category) → ((classed Rc1 geo).form 0).leading c ≡ 117_000)
