-- Sums of parts, each times its factor.
use Rattle.std.proofs.Common.{◌≡◌, ℕ, zero, suc, ◌*◌, ◌<◌, ◌≤◌, Bool, true, false, cond, not, List, [], ◌∷◌, map, length, get_or, ℤ, sym, refl, ap, ◌∙◌, inl, inr, ⊎_elim, suc-mul, arith}
use lib.IntN.{zero-*ℤ}
use Rattle.std.proofs.lemmas.Bool.{cases_Bool}
use Rattle.std.specs.List.{AllByRecursion as All}
use Rattle.effects.specs.Components.{zeros, exact_sum, exact_multiple, size}
use Rattle.effects.specs.Supplies.{exact_total}
use Rattle.effects.specs.Laws.{Closed, Laws, IsFactor}
use Rattle.effects.specs.Lists.{zeros_sum, zeros_multiple}
use Rattle.effects.proofs.Totals.{sum_zeros}
use Rattle.envelope.specs.Combinations.{weighted}
use Rattle.envelope.specs.Choices.{above_zero}
use Rattle.envelope.proofs.Values.{Value, Reaches, Lg, Sm, of_value, wider, long, zero_value, sum_value, multiple_value, total, level, sums, raised, lowered, multiple_sum}

pub none_of : (xs : List ℤ) → exact_multiple 0 xs ≡ zeros (length xs)
none_of [] = refl
none_of (x ∷ xs) = let e = zero-*ℤ x in let t = none_of xs in cc

-- one factor for all
pub weighted_const : (n k : ℕ) (f : ℕ → ℕ) (xss : List (List ℤ)) → ((p : ℕ) → p < length xss → f p ≡ k) → weighted n f xss ≡ exact_multiple k (exact_total n xss)
weighted_const n k f [] same = sym (zeros_multiple k n)
weighted_const n k f (xs ∷ xss) same =
    ap (λ a. exact_sum (exact_multiple a xs) (weighted n (λ p. f (suc p)) xss)) (same 0 (omega arith))
    ∙ ap (exact_sum (exact_multiple k xs)) (weighted_const n k (λ p. f (suc p)) xss (λ p l. same (suc p) (omega arith)))
    ∙ sym (multiple_sum k xs (exact_total n xss))

pub weighted_same : (n : ℕ) (f g : ℕ → ℕ) (xss : List (List ℤ)) → ((p : ℕ) → p < length xss → f p ≡ g p) → weighted n f xss ≡ weighted n g xss
weighted_same n f g [] same = refl
weighted_same n f g (xs ∷ xss) same =
    ap (λ a. exact_sum (exact_multiple a xs) (weighted n (λ p. f (suc p)) xss)) (same 0 (omega arith))
    ∙ ap (exact_sum (exact_multiple (g 0) xs)) (weighted_same n (λ p. f (suc p)) (λ p. g (suc p)) xss (λ p l. same (suc p) (omega arith)))

module _ {E : Type 0} {components : E → List ℤ} {count : ℕ} {reaches : List ℤ → List ℤ → Bool} (kind : Closed components count) (laws : Laws components count reaches) where
  -- effects of parts
  abbrev pub Part : List ℤ → Type 0
  Part = Value kind laws 1_000_000_000

  abbrev pub Parts : List (List ℤ) → Type 0
  Parts = All Part

  pub parts_of_values : (es : List E) → All (λ xs. size xs ≤ 1_000_000_000) (map components es) → Parts (map components es)
  parts_of_values [] h = tt
  parts_of_values (e ∷ es) (h, hs) = (of_value kind laws 1_000_000_000 e h, parts_of_values es hs)

  pub part_at : (xss : List (List ℤ)) (p : ℕ) → p < length xss → Parts xss → Part (get_or xss p [])
  part_at [] p l ps = absurd (omega arith)
  part_at (xs ∷ xss) zero l (v, ps) = v
  part_at (xs ∷ xss) (suc p) l (v, ps) = part_at xss p (omega arith) ps

  pub total_value : (xss : List (List ℤ)) → length xss ≤ 192 → Parts xss → Value kind laws (length xss * 1_000_000_000) (exact_total count xss)
  total_value [] few ps = zero_value kind laws 0
  total_value (xs ∷ xss) few (v, ps) =
      let m = suc-mul (length xss) 1_000_000_000 in
      wider kind laws (suc (length xss) * 1_000_000_000) (omega arith) (sum_value kind laws {j = 1_000_000_000} {k = length xss * 1_000_000_000} (omega arith) v (total_value xss (omega arith) ps))

  pub total_small : (xss : List (List ℤ)) → length xss ≤ 192 → Parts xss → Sm kind laws (exact_total count xss)
  total_small xss few ps = wider kind laws 200_000_000_000 (omega arith) (total_value xss few ps)

  pub small_part : {xs : List ℤ} → Part xs → Sm kind laws xs
  small_part v = wider kind laws 200_000_000_000 (omega arith) v

  pub weighted_value : (f : ℕ → ℕ) (xss : List (List ℤ)) → ((p : ℕ) → IsFactor (f p)) → length xss ≤ 192 → Parts xss → Value kind laws (length xss * 1_000_000_000_000_000) (weighted count f xss)
  weighted_value f [] fs few ps = zero_value kind laws 0
  weighted_value f (xs ∷ xss) fs few (v, ps) =
      let m = suc-mul (length xss) 1_000_000_000_000_000 in
      let first : Value kind laws 1_000_000_000_000_000 (exact_multiple (f 0) xs) = multiple_value kind laws (f 0) (fs 0) (omega arith) v in
      wider kind laws (suc (length xss) * 1_000_000_000_000_000) (omega arith) (sum_value kind laws {j = 1_000_000_000_000_000} {k = length xss * 1_000_000_000_000_000} (omega arith) first (weighted_value (λ p. f (suc p)) xss (λ p. fs (suc p)) (omega arith) ps))

  pub weighted_large : (f : ℕ → ℕ) (xss : List (List ℤ)) → ((p : ℕ) → IsFactor (f p)) → length xss ≤ 192 → Parts xss → Lg kind laws (weighted count f xss)
  weighted_large f xss fs few ps = wider kind laws 200_000_000_000_000_000 (omega arith) (weighted_value f xss fs few ps)

  -- part by part at or above
  pub weighted_reaches : (f g : ℕ → ℕ) (xss : List (List ℤ)) → ((p : ℕ) → IsFactor (f p)) → ((p : ℕ) → IsFactor (g p)) → length xss ≤ 192 → Parts xss
      → ((p : ℕ) → p < length xss → Reaches kind laws (exact_multiple (f p) (get_or xss p [])) (exact_multiple (g p) (get_or xss p [])))
      → Reaches kind laws (weighted count f xss) (weighted count g xss)
  weighted_reaches f g [] fs gs few ps each = level kind laws (zero_value kind laws 200_000_000_000_000_000)
  weighted_reaches f g (xs ∷ xss) fs gs few (v, ps) each =
      sums kind laws {j = 1_000_000_000_000_000} {k = length xss * 1_000_000_000_000_000} (omega arith)
      (multiple_value kind laws (f 0) (fs 0) (omega arith) v)
      (multiple_value kind laws (g 0) (gs 0) (omega arith) v)
      (weighted_value (λ p. f (suc p)) xss (λ p. fs (suc p)) (omega arith) ps)
      (weighted_value (λ p. g (suc p)) xss (λ p. gs (suc p)) (omega arith) ps)
      (each 0 (omega arith))
      (weighted_reaches (λ p. f (suc p)) (λ p. g (suc p)) xss (λ p. fs (suc p)) (λ p. gs (suc p)) (omega arith) ps (λ p l. each (suc p) (omega arith)))

  pub nothing : {xs : List ℤ} → Part xs → exact_multiple 0 xs ≡ zeros count
  nothing {xs} v = none_of xs ∙ ap zeros (long kind laws v)

  -- no part acts
  pub weighted_none : (f : ℕ → ℕ) (xss : List (List ℤ)) → ((p : ℕ) → p < length xss → f p ≡ 0) → Parts xss → weighted count f xss ≡ zeros count
  weighted_none f [] none ps = refl
  weighted_none f (xs ∷ xss) none (v, ps) =
      ap (λ a. exact_sum (exact_multiple a xs) (weighted count (λ p. f (suc p)) xss)) (none 0 (omega arith))
      ∙ ap (λ ys. exact_sum ys (weighted count (λ p. f (suc p)) xss)) (nothing v)
      ∙ ap (exact_sum (zeros count)) (weighted_none (λ p. f (suc p)) xss (λ p l. none (suc p) (omega arith)) ps)
      ∙ zeros_sum count (zeros count) (long kind laws (zero_value kind laws 0))

  -- one part acts
  pub weighted_one : (f : ℕ → ℕ) (k q : ℕ) (xss : List (List ℤ)) → IsFactor k → q < length xss → f q ≡ k → ((p : ℕ) → p < length xss → (p ≡ q → ⊥) → f p ≡ 0) → Parts xss
      → weighted count f xss ≡ exact_multiple k (get_or xss q [])
  weighted_one f k q [] fk l is none ps = absurd (omega arith)
  weighted_one f k zero (xs ∷ xss) fk l is none (v, ps) =
      ap (λ a. exact_sum (exact_multiple a xs) (weighted count (λ p. f (suc p)) xss)) is
      ∙ ap (exact_sum (exact_multiple k xs)) (weighted_none (λ p. f (suc p)) xss (λ p l. none (suc p) (omega arith) (λ e. omega arith)) ps)
      ∙ sum_zeros count (exact_multiple k xs) (long kind laws (multiple_value kind laws k fk (omega arith) v))
  weighted_one f k (suc q) (xs ∷ xss) fk l is none (v, ps) =
      let lq : q < length xss = omega arith in
      let rest : weighted count (λ p. f (suc p)) xss ≡ exact_multiple k (get_or xss q []) =
      weighted_one (λ p. f (suc p)) k q xss fk lq is (λ p l ne. none (suc p) (omega arith) (λ e. ne (omega arith))) ps in
      ap (λ a. exact_sum (exact_multiple a xs) (weighted count (λ p. f (suc p)) xss)) (none 0 (omega arith) (λ e. omega arith))
      ∙ ap (λ ys. exact_sum ys (weighted count (λ p. f (suc p)) xss)) (nothing v)
      ∙ ap (exact_sum (zeros count)) rest
      ∙ zeros_sum count (exact_multiple k (get_or xss q [])) (long kind laws (multiple_value kind laws k fk (omega arith) (part_at xss q lq ps)))

  -- the greater factor where an effect is above zero and the lower one elsewhere: no factor between gives more
  pub best_factor : (lo k hi : ℕ) (xs : List ℤ) (up : Bool) → lo ≤ k → k ≤ hi → IsFactor hi → Sm kind laws xs → up ≡ above_zero count reaches xs
      → Reaches kind laws (exact_multiple (cond up hi lo) xs) (exact_multiple k xs)
  best_factor lo k hi xs up l m fits v is =
      elim (cases_Bool (reaches (zeros count) xs)) [
        | inl e ↦
            let low : up ≡ false = is ∙ ap not e in
            rw low (lowered kind laws lo k l (omega arith) v (rw e tt))
        | inr e ↦
            let high : up ≡ true = is ∙ ap not e in
            let over : Reaches kind laws xs (zeros count) =
            ⊎_elim (λ r. absurd (rw e at r)) (λ r. r) (total kind laws (zero_value kind laws 200_000_000_000_000_000) (wider kind laws 200_000_000_000_000_000 (omega arith) v)) in
            rw high (raised kind laws k hi m fits v over)
      ]
