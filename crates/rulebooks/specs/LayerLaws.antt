-- The layers keep the order of the factors below, and leave the rest alone.
use Rattle.std.specs.Prelude.{◌≡◌, ℕ, ◌≤◌, false, [], ◌∷◌, Some, None, ◌==◌, ◌≢◌, refl}
use Rattle.std.proofs.Common.{sym, ap, ◌∙◌, arith}
use Rattle.std.specs.List.{slice_get}
use Rattle.std.proofs.lemmas.Bool.{ne_eqb, eq-eqb, cond-true, cond-false}
use Rattle.basis.specs.Vocabulary.{category_place}
use Rattle.basis.specs.declared.category.Category.TheVariants.{A, B, C, D, E, F, G, H, Snow, HighSnow, Wind, Temperature}
use Rattle.basis.specs.declared.category.Category.{Category}
use Rattle.rulebooks.specs.declared.class_layer.Class.{Class}
use Rattle.rulebooks.specs.declared.class_layer.Class.TheVariants.{Rc1, Rc2, Rc3}
use Rattle.basis.specs.declared.situation.Situation.{Situation}
use Rattle.basis.specs.declared.situation.Situation.TheVariants.{Persistent, Accidental, Seismic, Serviceability}
use Rattle.basis.specs.Factors.{scaled_by}
use Rattle.rulebooks.specs.Books.{Form, Book}
use Rattle.rulebooks.specs.Layers.{hundredths, class_form, classed, staged, ClassLeavesAlone, StageLeavesAlone, GeoUnderRc1}

scaled_mono : (k : Class) {x y : ℕ} → x ≤ y → scaled_by (hundredths k) x ≤ scaled_by (hundredths k) y
scaled_mono Rc1 h = omega arith
scaled_mono Rc2 h = omega arith
scaled_mono Rc3 h = omega arith

pub class_variable :
    (s : Situation) (k : Class) (f : Form) (c : Category) →
    f.accompanying c ≤ f.leading c →
    (class_form s k f).accompanying c ≤ (class_form s k f).leading c
class_variable Persistent k f c h = scaled_mono k h
class_variable Accidental k f c h = h
class_variable Seismic k f c h = h
class_variable Serviceability k f c h = h

-- what the class layer leaves alone, form by form
class_frame : (s : Situation) (k : Class) (f : Form) → ((class_form s k f).leader ≡ f.leader) × ((class_form s k f).lower ≡ f.lower) × ((class_form s k f).prestress ≡ f.prestress)
class_frame Persistent k f = (refl, refl, refl)
class_frame Accidental k f = (refl, refl, refl)
class_frame Seismic k f = (refl, refl, refl)
class_frame Serviceability k f = (refl, refl, refl)

class_elsewhere : (s : Situation) (k : Class) (f : Form) → (s ≢ Persistent) → class_form s k f ≡ f
class_elsewhere Persistent k f h = absurd (h refl)
class_elsewhere Accidental k f h = refl
class_elsewhere Seismic k f h = refl
class_elsewhere Serviceability k f h = refl

class_guarded : (s : Situation) (k : Class) (f : Form) → f.lower ≤ f.upper → f.lower ≤ (class_form s k f).upper
class_guarded Persistent k f h = omega arith
class_guarded Accidental k f h = h
class_guarded Seismic k f h = h
class_guarded Serviceability k f h = h

pub class_leaves_alone : (k : Class) (b : Book) → ((i : ℕ) → (b.form i).lower ≤ (b.form i).upper) → ClassLeavesAlone b (classed k b)
class_leaves_alone k b ordered = record {
  frame = record {
    situation = refl;
    splits = refl;
    forms = refl;
    leaders = λ i. (class_frame b.situation k (b.form i)).0;
    lowers = λ i. (class_frame b.situation k (b.form i)).1;
    prestresses = λ i. (class_frame b.situation k (b.form i)).2;
  };
  elsewhere = λ h j. record { situation = b.situation; splits = b.splits; forms = b.forms; form = λ i. class_elsewhere b.situation k (b.form i) h j };
  guarded = λ i. class_guarded b.situation k (b.form i) (ordered i);
}

-- the category at a place
category_at : ℕ → Category
category_at n = elim (slice_get (A ∷ B ∷ C ∷ D ∷ E ∷ F ∷ G ∷ H ∷ Snow ∷ HighSnow ∷ Wind ∷ Temperature ∷ []) n) [ None ↦ A | Some c ↦ c ]

at_its_place : (c : Category) → category_at (category_place c) ≡ c
unfolding category_at
at_its_place A = refl
at_its_place B = refl
at_its_place C = refl
at_its_place D = refl
at_its_place E = refl
at_its_place F = refl
at_its_place G = refl
at_its_place H = refl
at_its_place Snow = refl
at_its_place HighSnow = refl
at_its_place Wind = refl
at_its_place Temperature = refl

other_place : (c d : Category) → (c ≢ d) → (category_place c == category_place d) ≡ false
other_place c d apart = ne_eqb _ _ (λ e. apart (sym (at_its_place c) ∙ ap category_at e ∙ at_its_place d))

pub stage_leaves_alone : (struck : Category) (b : Book) → StageLeavesAlone struck b (staged struck b)
stage_leaves_alone struck b = record {
  frame = record { situation = refl; splits = refl; forms = refl; leaders = λ i. refl; lowers = λ i. refl; prestresses = λ i. refl };
  uppers = λ i. refl;
  others = λ i d apart. let e = other_place d struck apart in (cond-false _ _ _ e, cond-false _ _ _ e);
  no_factor = λ i. let e = eq-eqb (category_place struck) (category_place struck) refl in (cond-true _ _ _ e, cond-true _ _ _ e);
}

pub geo_under_rc1 : GeoUnderRc1
geo_under_rc1 = (refl, λ c. refl)
