-- The best combination over all forms.
use Rattle.std.proofs.Common.{◌≡◌, ℕ, ◌+◌, ◌<◌, Bool, true, false, List, map, drop, ℤ, Option, sym, ap, ◌∙◌, subst, inl, inr, ⊎_elim, arith}
use lib.Dec.{not_T}
use lib.Ieee.Bits.{is_true}
use Rattle.std.proofs.lemmas.List.{drop-map}
use Rattle.std.proofs.lemmas.Bool.{cases_lt, both_ways}
use Rattle.effects.specs.Laws.{Closed, Laws}
use Rattle.rulebooks.specs.Books.{Book}
use Rattle.sheet.specs.Content.{Content}
use Rattle.envelope.specs.declared.combination.Combination.{Combination}
use Rattle.envelope.specs.Combinations.{effect_of}
use Rattle.envelope.specs.Reported.{before, with_chosen, Reported}
use Rattle.envelope.specs.Forms.{BestAmong}
use Rattle.envelope.proofs.Values.{Reaches, Lg, chain, total}
use Rattle.envelope.proofs.Setting.{Setting}
use Rattle.envelope.proofs.Candidates.{effect_large}
use Rattle.envelope.proofs.Order.{by_form}

module _ {E : Type 0} {components : E → List ℤ} {count : ℕ} {reaches : List ℤ → List ℤ → Bool} (kind : Closed components count) (laws : Laws components count reaches)
    (s : Content) (b : Book) (xss : List (List ℤ)) (set : Setting kind laws s b xss) where
  abbrev eff : Combination → List ℤ
  eff = effect_of count s b xss

  abbrev pub BestBelow : ℕ → Combination → Type 0
  BestBelow m = BestAmong count reaches s b xss (λ f. f < m)

  abbrev pub BestAt : ℕ → Combination → Type 0
  BestAt m = BestAmong count reaches s b xss (λ f. f ≡ m)

  pub first_form : (c : Combination) → BestAt 0 c → BestBelow 1 c
  first_form c best = record {
    within = (let e = best.within in omega arith);
    admissible = best.admissible;
    chosen = best.chosen;
    greatest = λ d l. best.greatest d (omega arith);
    first = λ d l. best.first d (omega arith);
  }

  large : (c : Combination) → Lg kind laws (effect_of count s b xss c)
  large c = effect_large kind laws s b xss set c

  -- one form more: the best so far stays, or the best of the form takes its place
  pub form_keeps : (m : ℕ) (c d : Combination) → BestBelow m c → BestAt m d → reaches (eff c) (eff d) ≡ true → BestBelow (m + 1) c
  form_keeps m c d best new e = record {
    within = (let l = best.within in omega arith);
    admissible = best.admissible;
    chosen = best.chosen;
    greatest = λ x l adm so.
        elim (cases_lt x.form m) [
          | inl k ↦ best.greatest x k adm so
          | inr k ↦ chain kind laws (large c) (large d) (large x) (rw e tt) (new.greatest x (omega arith) adm so)
        ];
    first = λ x l adm so earlier.
        elim (cases_lt x.form m) [
          | inl k ↦ best.first x k adm so earlier
          | inr k ↦ absurd (both_ways (before x c) (by_form c x (let w = best.within in omega arith)) (is_true _ earlier))
        ];
  }

  pub form_takes : (m : ℕ) (c d : Combination) → BestBelow m c → BestAt m d → reaches (eff c) (eff d) ≡ false → BestBelow (m + 1) d
  form_takes m c d best new e =
      let above : Reaches kind laws (eff d) (eff c) = ⊎_elim (λ r. absurd (both_ways (reaches (eff c) (eff d)) e (is_true _ r))) (λ r. r) (total kind laws (large c) (large d)) in
      record {
        within = (let w = new.within in omega arith);
        admissible = new.admissible;
        chosen = new.chosen;
        greatest = λ x l adm so.
            elim (cases_lt x.form m) [
              | inl k ↦ chain kind laws (large d) (large c) (large x) above (best.greatest x k adm so)
              | inr k ↦ new.greatest x (omega arith) adm so
            ];
        first = λ x l adm so earlier.
            elim (cases_lt x.form m) [
              | inl k ↦ not_T _ (λ r. both_ways (reaches (eff c) (eff d)) e (is_true _ (chain kind laws (large c) (large x) (large d) (best.greatest x k adm so) r)))
              | inr k ↦ new.first x (omega arith) adm so earlier
            ];
      }

  -- the best over all forms is the reported combination
  pub all_forms : (c : Combination) → BestBelow b.forms c → Reported count reaches s b xss c
  all_forms c best = record {
    admissible = best.admissible;
    chosen = best.chosen;
    greatest = λ d adm so. best.greatest d adm.form adm so;
    first = λ d adm so. best.first d adm.form adm so;
  }

  -- a candidate as the code has it: form, leader and set, and its effect x
  abbrev picked : ℕ → Option ℕ → ℕ → Combination
  picked = with_chosen count reaches s b xss

  abbrev pub Found : (ℕ → Type 0) → ℕ → Option ℕ → ℕ → List ℤ → Type 0
  Found Q f l t x = BestAmong count reaches s b xss Q (picked f l t) × (x ≡ effect_of count s b xss (picked f l t))

  pub found_first : (f : ℕ) (l : Option ℕ) (t : ℕ) (x : List ℤ) → f ≡ 0 → Found (λ g. g ≡ 0) 0 l t x → Found (λ g. g < 1) f l t x
  found_first f l t x e h = subst (λ n. Found (λ g. g < 1) n l t x) (sym e) (first_form (picked 0 l t) h.0, h.1)

  module _ (m f h : ℕ) (l k : Option ℕ) (t u : ℕ) (x y : List ℤ) (old : Found (λ g. g < m) f l t x) (h_is : h ≡ m) (new : Found (λ g. g ≡ m) m k u y) where
    test : (v : Bool) → v ≡ reaches x y → reaches (eff (picked f l t)) (eff (picked m k u)) ≡ v
    test v e = ap (λ z. reaches z (eff (picked m k u))) (sym old.1) ∙ ap (reaches x) (sym new.1) ∙ sym e

    pub found_keeps : true ≡ reaches x y → Found (λ g. g < m + 1) f l t x
    found_keeps e = (form_keeps m (picked f l t) (picked m k u) old.0 new.0 (test true e), old.1)

    pub found_takes : false ≡ reaches x y → Found (λ g. g < m + 1) h k u y
    found_takes e = subst (λ n. Found (λ g. g < m + 1) n k u y) (sym h_is) (form_takes m (picked f l t) (picked m k u) old.0 new.0 (test false e), new.1)

-- the rest of the strip
pub rest_same : {A B : Type 0} (f : A → B) (xs ys : List A) → drop 24 xs ≡ drop 24 ys → drop 24 (map f xs) ≡ drop 24 (map f ys)
rest_same f xs ys e = drop-map f 24 xs ∙ ap (map f) e ∙ sym (drop-map f 24 ys)
