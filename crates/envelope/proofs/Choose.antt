-- No choice of an action's parts that the rules allow gives more than the choice by the ranking.
use Rattle.std.proofs.Common.{◌≡◌, ℕ, ◌^◌, ◌<◌, ◌≤◌, Bool, true, false, cond, T, ◌⊎◌, List, [], length, get_or, ℤ, sym, refl, ap, ◌∙◌, inl, inr, arith}
use Rattle.std.proofs.lemmas.Bool.{cases_Bool, cases_lt}
use Rattle.std.proofs.ByRecursion.{All-weaker}
use Rattle.basis.specs.declared.action.Spread.{Spread}
use Rattle.basis.specs.declared.action.Spread.TheVariants.{Fixed, Free, Alternative}
use Rattle.effects.specs.Components.{zeros, exact_multiple}
use Rattle.effects.specs.Supplies.{exact_total}
use Rattle.effects.specs.Laws.{Closed, Laws, IsFactor}
use Rattle.envelope.specs.Entries.{has, whole}
use Rattle.envelope.specs.Combinations.{weighted, by_mask}
use Rattle.envelope.specs.Admissible.{SpreadKept, One}
use Rattle.envelope.specs.Choices.{above_zero, greatest_part, choice, at_upper}
use Rattle.envelope.proofs.Bits.{has_mask, has_whole, has_none, has_power_same, has_power_other}
use Rattle.envelope.proofs.Values.{Reaches, Lg, wider, zero_value, level, chain, multiple_value, multiples}
use Rattle.envelope.proofs.Tops.{Larges, top_of}
use Rattle.envelope.proofs.Weights.{Part, Parts, part_at, total_small, small_part, weighted_const, weighted_reaches, weighted_none, weighted_one, best_factor, nothing}

pub by_mask_fits : (hi lo m p : ℕ) → IsFactor hi → lo ≤ hi → IsFactor (by_mask hi lo m p)
by_mask_fits hi lo m p f l = elim (cases_Bool (has m p)) [ inl e ↦ rw e f | inr e ↦ rw e (omega arith) ]

pub by_mask_over : (hi lo m p : ℕ) → lo ≤ hi → lo ≤ by_mask hi lo m p
by_mask_over hi lo m p l = elim (cases_Bool (has m p)) [ inl e ↦ rw e l | inr e ↦ rw e (omega arith) ]

pub by_mask_under : (hi lo m p : ℕ) → lo ≤ hi → by_mask hi lo m p ≤ hi
by_mask_under hi lo m p l = elim (cases_Bool (has m p)) [ inl e ↦ rw e (omega arith) | inr e ↦ rw e l ]

module _ {E : Type 0} {components : E → List ℤ} {count : ℕ} {reaches : List ℤ → List ℤ → Bool} (kind : Closed components count) (laws : Laws components count reaches)
    (xss : List (List ℤ)) (few : length xss ≤ 192) (ps : Parts kind laws xss) where
  -- with a mask of all parts or of none
  pub all_or_none : (hi lo m : ℕ) (up : Bool) → m ≡ cond up (whole (length xss)) 0 → weighted count (by_mask hi lo m) xss ≡ exact_multiple (cond up hi lo) (exact_total count xss)
  all_or_none hi lo m true e = weighted_const count hi (by_mask hi lo m) xss (λ p l. ap (λ k. by_mask hi lo k p) e ∙ ap (λ t. cond t hi lo) (has_whole (length xss) p l))
  all_or_none hi lo m false e = weighted_const count lo (by_mask hi lo m) xss (λ p l. ap (λ k. by_mask hi lo k p) e ∙ ap (λ t. cond t hi lo) (has_none p))

  -- All parts at the greater factor if their sum is above zero. The factor k of the other choice may be lower.
  pub fixed_best : (hi k lo m : ℕ) → lo ≤ k → k ≤ hi → IsFactor hi → (m ≡ 0) ⊎ (m ≡ whole (length xss))
      → Reaches kind laws (weighted count (by_mask hi lo (choice count reaches Fixed xss)) xss) (weighted count (by_mask k lo m) xss)
  fixed_best hi k lo m l j f kept =
      let x = exact_total count xss in
      let mine = all_or_none hi lo (choice count reaches Fixed xss) (above_zero count reaches x) refl in
      let small = total_small kind laws xss few ps in
      elim kept [
        | inl e ↦ rw (mine, all_or_none k lo m false e) (best_factor kind laws lo lo hi x (above_zero count reaches x) (omega arith) (omega arith) f small refl)
        | inr e ↦ rw (mine, all_or_none k lo m true e) (best_factor kind laws lo k hi x (above_zero count reaches x) l j f small refl)
      ]

  -- each part at the greater factor if it is above zero
  pub free_best : (hi k lo m : ℕ) → lo ≤ k → k ≤ hi → IsFactor hi
      → Reaches kind laws (weighted count (by_mask hi lo (choice count reaches Free xss)) xss) (weighted count (by_mask k lo m) xss)
  free_best hi k lo m l j f =
      let lh : lo ≤ hi = omega arith in
      let fk : IsFactor k = omega arith in
      weighted_reaches kind laws (by_mask hi lo (choice count reaches Free xss)) (by_mask k lo m) xss
      (λ p. by_mask_fits hi lo (choice count reaches Free xss) p f lh) (λ p. by_mask_fits k lo m p fk l) few ps
      (λ p r.
      let under : by_mask k lo m p ≤ hi = omega (arith, by_mask_under k lo m p l) in
      best_factor kind laws lo (by_mask k lo m p) hi (get_or xss p []) (has (choice count reaches Free xss) p) (by_mask_over k lo m p l) under f
      (small_part kind laws (part_at kind laws xss p r ps)) (has_mask (λ q. above_zero count reaches (get_or xss q [])) (length xss) p r))

  pub large : Larges kind laws xss
  large = All-weaker (Part kind laws) (Lg kind laws) (λ x v. wider kind laws 200_000_000_000_000_000 (omega arith) v) xss ps

  pub one_part : (hi q m : ℕ) → IsFactor hi → q < length xss → m ≡ 2 ^ q → weighted count (by_mask hi 0 m) xss ≡ exact_multiple hi (get_or xss q [])
  one_part hi q m f l e =
      weighted_one kind laws (by_mask hi 0 m) hi q xss f l
      (ap (λ k. by_mask hi 0 k q) e ∙ ap (λ t. cond t hi 0) (has_power_same q))
      (λ p k ne. ap (λ k. by_mask hi 0 k p) e ∙ ap (λ t. cond t hi 0) (has_power_other q p ne)) ps

  pub no_part : (hi m : ℕ) → m ≡ 0 → weighted count (by_mask hi 0 m) xss ≡ zeros count
  no_part hi m e = weighted_none kind laws (by_mask hi 0 m) xss (λ p k. ap (λ k. by_mask hi 0 k p) e ∙ ap (λ t. cond t hi 0) (has_none p)) ps

  alternative_some : (hi k m : ℕ) → k ≤ hi → IsFactor hi → 0 < length xss → (m ≡ 0) ⊎ One (length xss) m
      → Reaches kind laws (weighted count (by_mask hi 0 (choice count reaches Alternative xss)) xss) (weighted count (by_mask k 0 m) xss)
  alternative_some hi k m j f some kept =
      let g : ℕ = greatest_part count reaches xss in
      let t = top_of kind laws xss large some in
      let gl : g < length xss = t.within in
      let x = get_or xss g [] in
      let vx = part_at kind laws xss g gl ps in
      let sx = small_part kind laws vx in
      let up : Bool = above_zero count reaches x in
      let fk : IsFactor k = omega arith in
      let mine : weighted count (by_mask hi 0 (choice count reaches Alternative xss)) xss ≡ exact_multiple (cond up hi 0) x =
      elim (cases_Bool up) [
        | inl e ↦ one_part hi g (choice count reaches Alternative xss) f gl (ap (λ b. cond b (2 ^ g) 0) e) ∙ ap (λ b. exact_multiple (cond b hi 0) x) (sym e)
        | inr e ↦ no_part hi (choice count reaches Alternative xss) (ap (λ b. cond b (2 ^ g) 0) e) ∙ sym (nothing kind laws vx) ∙ ap (λ b. exact_multiple (cond b hi 0) x) (sym e)
      ] in
      elim kept [
        | inl e ↦ rw (mine, no_part k m e ∙ sym (nothing kind laws vx)) (best_factor kind laws 0 0 hi x up (omega arith) (omega arith) f sx refl)
        | inr (q, ql, e) ↦
            let vq = part_at kind laws xss q ql ps in
            let sq = small_part kind laws vq in
            let upper : Reaches kind laws (exact_multiple (cond up hi 0) x) (exact_multiple k x) = best_factor kind laws 0 k hi x up (omega arith) j f sx refl in
            let lower : Reaches kind laws (exact_multiple k x) (exact_multiple k (get_or xss q [])) = multiples kind laws k fk sx sq (t.over q ql) in
            let fu : IsFactor (cond up hi 0) = elim (cases_Bool up) [ inl e ↦ rw e f | inr e ↦ rw e (omega arith) ] in
            rw (mine, one_part k q m fk ql e)
            (chain kind laws (wider kind laws 200_000_000_000_000_000 (omega arith) (multiple_value kind laws (cond up hi 0) fu (omega arith) sx))
            (wider kind laws 200_000_000_000_000_000 (omega arith) (multiple_value kind laws k fk (omega arith) sx))
            (wider kind laws 200_000_000_000_000_000 (omega arith) (multiple_value kind laws k fk (omega arith) sq)) upper lower)
      ]

  -- the first greatest part if it is above zero
  pub alternative_best : (hi k m : ℕ) → k ≤ hi → IsFactor hi → (m ≡ 0) ⊎ One (length xss) m
      → Reaches kind laws (weighted count (by_mask hi 0 (choice count reaches Alternative xss)) xss) (weighted count (by_mask k 0 m) xss)
  alternative_best hi k m j f kept =
      elim (cases_lt 0 (length xss)) [
        | inl some ↦ alternative_some hi k m j f some kept
        | inr none ↦
            let a : weighted count (by_mask hi 0 (choice count reaches Alternative xss)) xss ≡ zeros count = weighted_none kind laws (by_mask hi 0 (choice count reaches Alternative xss)) xss (λ p l. absurd (omega arith)) ps in
            let b : weighted count (by_mask k 0 m) xss ≡ zeros count = weighted_none kind laws (by_mask k 0 m) xss (λ p l. absurd (omega arith)) ps in
            rw (a, b) (level kind laws (zero_value kind laws 200_000_000_000_000_000))
      ]

  -- a variable action at the factor hi with the chosen parts, against any parts that its spread allows at a factor up to hi
  pub choice_best : (spread : Spread) (hi k m : ℕ) → k ≤ hi → IsFactor hi → SpreadKept spread (length xss) m
      → Reaches kind laws (weighted count (by_mask hi 0 (choice count reaches spread xss)) xss) (weighted count (by_mask k 0 m) xss)
  choice_best Fixed hi k m j f kept = fixed_best hi k 0 m (omega arith) j f kept
  choice_best Free hi k m j f kept = free_best hi k 0 m (omega arith) j f
  choice_best Alternative hi k m j f kept = alternative_best hi k m j f kept

  -- a permanent action
  pub upper_best : (splits : Bool) (hi lo m : ℕ) → lo ≤ hi → IsFactor hi → T splits ⊎ ((m ≡ 0) ⊎ (m ≡ whole (length xss)))
      → Reaches kind laws (weighted count (by_mask hi lo (at_upper count reaches splits xss)) xss) (weighted count (by_mask hi lo m) xss)
  upper_best true hi lo m l f kept = free_best hi hi lo m l (omega arith) f
  upper_best false hi lo m l f (inl t) = absurd t
  upper_best false hi lo m l f (inr kept) = fixed_best hi hi lo m l (omega arith) f kept
