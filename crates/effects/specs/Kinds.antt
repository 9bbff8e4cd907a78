-- Single and section effects are kinds of effect, and their rankings keep the laws.
use Rattle.std.specs.Prelude.{[], ◌∷◌}
use Rattle.std.proofs.Common.{refl}
use Rattle.effects.specs.declared.single.Single.{Single}
use Rattle.effects.specs.declared.section.Section.{Section}
use Rattle.effects.specs.Laws.{Closed, Laws}
use Rattle.effects.specs.Rankings.{first_not_less, by_first_difference}
use Rattle.effects.specs.RankingLaws.{first_laws, difference_laws}

pub single_closed : Closed {E = Single} (λ s. s.value ∷ []) 1
single_closed = record {
  width = λ a. refl;
  zero = (record { value = _ }, refl);
  add = λ a b. (record { value = _ }, refl);
  scale = λ f a. (record { value = _ }, refl);
}

pub single_laws : Laws {E = Single} (λ s. s.value ∷ []) 1 first_not_less
single_laws = first_laws single_closed

pub section_closed : Closed {E = Section} (λ s. s.axial ∷ (s.moment ∷ (s.shear ∷ []))) 3
section_closed = record {
  width = λ a. refl;
  zero = (record { axial = _; moment = _; shear = _ }, refl);
  add = λ a b. (record { axial = _; moment = _; shear = _ }, refl);
  scale = λ f a. (record { axial = _; moment = _; shear = _ }, refl);
}

pub section_laws : Laws {E = Section} (λ s. s.axial ∷ (s.moment ∷ (s.shear ∷ []))) 3 by_first_difference
section_laws = difference_laws section_closed
