-- The fifth law from the third and the fourth, and so also of the layer that turns a ranking.
use Rattle.std.specs.Prelude.{◌≡◌, ℕ, ◌+◌, ◌-◌, Bool, T, List, length, ℤ}
use Rattle.std.proofs.Common.{sym, ap, subst, ◌∙◌, arith}
use Rattle.effects.specs.Components.{sum, multiple, exact_multiple, size}
use Rattle.effects.specs.Laws.{Closed, Laws, Large, Small, IsFactor, KeptBySum, KeptByMultiple, NotLowered}
use Rattle.effects.specs.Lists.{zeros_multiple, zeros_sum, zeros_size, large_sum, small_multiple, large_multiple, multiple_split}

module _ {E : Type 0} {components : E → List ℤ} {count : ℕ} (closed : Closed components count) where
  pub not_lowered : (reaches : List ℤ → List ℤ → Bool) → KeptBySum components count reaches → KeptByMultiple components count reaches → NotLowered components count reaches
  not_lowered reaches by_sum by_multiple f g a le fits small above =
      let d : ℕ = g - f in
      let df : IsFactor d = omega arith in
      let ff : IsFactor f = omega arith in
      let z = closed.zero.0 in
      let z_is = closed.zero.1 in
      let m = (closed.scale d a).0 in
      let m_is = (closed.scale d a).1 in
      let k = (closed.scale f a).0 in
      let k_is = (closed.scale f a).1 in
      let z_none : size (components z) ≡ 0 = ap size z_is ∙ zeros_size count in
      let z_small : Small (components z) = omega arith in
      let z_large : Large (components z) = omega arith in
      let m_large : Large (components m) = rw m_is (large_multiple d (components a) df small) in
      let k_large : Large (components k) = rw k_is (large_multiple f (components a) ff small) in
      let z_multiple : multiple d (components z) ≡ components z = small_multiple d (components z) df z_small ∙ ap (exact_multiple d) z_is ∙ zeros_multiple d count ∙ sym z_is in
      let z_above : T (reaches (components a) (components z)) = rw z_is above in
      let first : T (reaches (components m) (components z)) = rw (m_is, ← z_multiple) (by_multiple d a z df small z_small z_above) in
      let both = by_sum m z k m_large z_large k_large first in
      let whole : g ≡ f + d = omega arith in
      let left : sum (components m) (components k) ≡ multiple g (components a) =
      let h : IsFactor (f + d) = omega arith in
      let e = multiple_split f d (components a) h small in cc in
      let right : sum (components z) (components k) ≡ multiple f (components a) =
      let long : length (components k) ≡ count = closed.width k in
      let e = large_sum (components z) (components k) z_large k_large in
      let n = zeros_sum count (components k) long in cc in
      subst (λ (xs : List ℤ). T (reaches xs (multiple f (components a)))) left (subst (λ (ys : List ℤ). T (reaches (sum (components m) (components k)) ys)) right both)

-- A ranking turned, over what holds an effect of the closed.
module _ {E F : Type 0} {components : E → List ℤ} {count : ℕ} (inner : F → E) (outer : E → F) (same : (a : E) → inner (outer a) ≡ a) (closed : Closed components count) where
  pub turned_closed : Closed {E = F} (λ t. components (inner t)) count
  turned_closed = record {
    width = λ a. closed.width (inner a);
    zero = (outer closed.zero.0, ap components (same _) ∙ closed.zero.1);
    add = λ a b. (outer (closed.add (inner a) (inner b)).0, ap components (same _) ∙ (closed.add (inner a) (inner b)).1);
    scale = λ f a. (outer (closed.scale f (inner a)).0, ap components (same _) ∙ (closed.scale f (inner a)).1);
  }

  pub turned_laws : {reaches : List ℤ → List ℤ → Bool} → Laws components count reaches → Laws {E = F} (λ t. components (inner t)) count (λ xs ys. reaches ys xs)
  turned_laws {reaches} laws =
      let by_sum : KeptBySum {E = F} (λ t. components (inner t)) count (λ xs ys. reaches ys xs) = λ a b c la lb lc h. laws.kept_by_sum (inner b) (inner a) (inner c) lb la lc h in
      let by_multiple : KeptByMultiple {E = F} (λ t. components (inner t)) count (λ xs ys. reaches ys xs) = λ f a b ff sa sb h. laws.kept_by_multiple f (inner b) (inner a) ff sb sa h in
      record {
        total = λ a b la lb. laws.total (inner b) (inner a) lb la;
        transitive = λ a b c la lb lc h k. laws.transitive (inner c) (inner b) (inner a) lc lb la k h;
        kept_by_sum = by_sum;
        kept_by_multiple = by_multiple;
        not_lowered = not_lowered turned_closed (λ xs ys. reaches ys xs) by_sum by_multiple;
      }
