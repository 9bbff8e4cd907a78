-- What an accepted call was told: each of its questions was answered yes.
use Rattle.std.proofs.Common.{◌≡◌, ℕ, Bool, true, false, cond, not, eqb, is_some, Some, None, Option, sym, refl, ap, ◌∙◌, arith}
use Rattle.std.proofs.lemmas.Bool.{and_from}
use Rattle.basis.specs.declared.action.Kind.{Kind}
use Rattle.basis.specs.declared.action.Spread.{Spread}
use Rattle.basis.specs.declared.category.Category.{Category}
use Rattle.basis.specs.Vocabulary.{kind_of, is_variable, spread_of, allows, category_of}
use Rattle.sheet.specs.declared.action.Action.{Action}
use Rattle.sheet.specs.Limits.{agree, parts_allowed, well_formed}
use Rattle.sheet.specs.Answers.{Answer, granted, denied}
use Rattle.sheet.specs.Calls.{ask, ask_for, category_for, spread_for, described}

never : {X Y : Type 0} (x : X) (q : ℕ) → granted x ≡ denied q → Y
never x q e = absurd (let z : ◌≡◌ {A = ℕ} 0 1 = cc in omega arith)

pub ask_yes : {X : Type 0} (q : ℕ) (t : Bool) (rest : Answer X) (x : X) → granted x ≡ ask q t rest → (t ≡ true) × (granted x ≡ rest)
ask_yes q true rest x e = (refl, e)
ask_yes q false rest x e = never x q e

pub ask_for_yes : {X Y : Type 0} (q : ℕ) (o : Option Y) (rest : Y → Answer X) (x : X) → granted x ≡ ask_for q o rest → (y : Y) × (o ≡ Some y) × (granted x ≡ rest y)
ask_for_yes q None rest x e = never x q e
ask_for_yes q (Some y) rest x e = (y, refl, e)

none-some : {X Y : Type 0} (x : X) → None ≡ Some x → Y
none-some x e = absurd (let z : ◌≡◌ {A = ℕ} 0 1 = cc in omega arith)

-- a category exactly for a variable action
category_agrees : (k : Kind) (c : ℕ) (category : Option Category) → category_for k c ≡ Some category → agree (is_variable k) (is_some category) ≡ true
category_agrees k c category e = by_kind (is_variable k) (category_of c) (eqb c 45) e
  where
    by_kind : (t : Bool) (o : Option Category) (dash : Bool) → ◌≡◌ {A = Option (Option Category)} (cond t (elim o [ None ↦ None | Some x ↦ Some (Some x) ]) (cond dash (Some None) None)) (Some category) → agree t (is_some category) ≡ true
    by_kind true None dash h = none-some category h
    by_kind true (Some x) dash h = let same : category ≡ Some x = cc in ap is_some same
    by_kind false o true h = let same : category ≡ None = cc in ap (λ (z : Option Category). not (is_some z)) same
    by_kind false o false h = none-some category h

-- a spread that the kind allows
spread_allowed : (k : Kind) (d : ℕ) (spread : Spread) → spread_for k d ≡ Some spread → allows k spread ≡ true
spread_allowed k d spread e = by_number (spread_of d) e
  where
    by_test : (s : Spread) (t : Bool) → allows k s ≡ t → cond t (Some s) None ≡ Some spread → allows k spread ≡ true
    by_test s true is h = let same : spread ≡ s = cc in ap (allows k) same ∙ is
    by_test s false is h = none-some spread h

    by_number : (o : Option Spread) → elim o [ None ↦ None | Some s ↦ cond (allows k s) (Some s) None ] ≡ Some spread → allows k spread ≡ true
    by_number None h = none-some spread h
    by_number (Some s) h = by_test s (allows k s) refl h

granted_same : {X : Type 0} (x y : X) → granted x ≡ granted y → x ≡ y
granted_same x y e = cc

-- an action as described is active and well-formed, and of the kind of its number
pub record Described (k : ℕ) (x : Action) : Type 0 where
  pub formed : well_formed x ≡ true
  pub kind : kind_of k ≡ Some x.kind

pub described_yes : (k c d p : ℕ) (x : Action) → granted x ≡ described k c d p → Described k x
described_yes k c d p x e =
    let one = ask_for_yes 1 (kind_of k) _ x e in
    let kind = one.0 in
    let two = ask_for_yes 2 (category_for kind c) _ x one.2 in
    let category = two.0 in
    let three = ask_for_yes 3 (spread_for kind d) _ x two.2 in
    let spread = three.0 in
    let four = ask_yes 4 (parts_allowed p) _ x three.2 in
    let same = granted_same x (record { kind = kind; category = category; spread = spread; parts = p; active = true }) four.1 in
    record {
      formed = ap well_formed same ∙ and_from _ _ (category_agrees kind c category two.1) (and_from _ _ (spread_allowed kind d spread three.1) four.0);
      kind = one.1 ∙ ap (λ (y : Action). Some y.kind) (sym same);
    }
