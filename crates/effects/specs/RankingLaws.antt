-- The two rankings keep the laws, at any closed.
use Rattle.std.proofs.Common.{◌≡◌, ℕ, zero, suc, ◌<◌, Bool, true, false, T, ◌⊎◌, List, [], ◌∷◌, length, ℤ, pos, ◌+ℤ◌, ◌*ℤ◌, ◌<ℤ◌, sym, refl, ap, ◌∙◌, inl, inr, ⊎_elim, arith}
use lib.IntN.{zero-*ℤ}
use lib.Signed.{lt_z}
use Rattle.std.proofs.lemmas.Int.{ints}
use Rattle.effects.specs.Components.{exact_sum, exact_multiple}
use Rattle.effects.specs.Laws.{Closed, Laws, KeptBySum, KeptByMultiple}
use Rattle.effects.specs.Rankings.{first_not_less, by_first_difference}
use Rattle.effects.specs.Numbers.{product_keeps, product_strict, sum_keeps, sum_strict, ≤-total, by_order}
use Rattle.effects.specs.Lists.{large_sum, small_multiple}
use Rattle.effects.specs.Factors.{not_lowered}

-- ---- a ranking that keeps exact sums and multiples of lists of one length keeps the laws
module _ {E : Type 0} {components : E → List ℤ} {count : ℕ} (closed : Closed components count) (reaches : List ℤ → List ℤ → Bool)
    (total : (xs ys : List ℤ) → length xs ≡ length ys → T (reaches xs ys) ⊎ T (reaches ys xs))
    (transitive : (xs ys zs : List ℤ) → length xs ≡ length ys → length ys ≡ length zs → T (reaches xs ys) → T (reaches ys zs) → T (reaches xs zs))
    (by_sum : (xs ys zs : List ℤ) → length xs ≡ length ys → length ys ≡ length zs → T (reaches xs ys) → T (reaches (exact_sum xs zs) (exact_sum ys zs)))
    (by_multiple : (f : ℕ) (xs ys : List ℤ) → length xs ≡ length ys → T (reaches xs ys) → T (reaches (exact_multiple f xs) (exact_multiple f ys))) where
  like : (a b : E) → length (components a) ≡ length (components b)
  like a b = closed.width a ∙ sym (closed.width b)

  kept_by_sum : KeptBySum components count reaches
  kept_by_sum a b c la lb lc h = rw (large_sum (components a) (components c) la lc, large_sum (components b) (components c) lb lc) (by_sum _ _ (components c) (like a b) (like b c) h)

  kept_by_multiple : KeptByMultiple components count reaches
  kept_by_multiple f a b ff sa sb h = rw (small_multiple f (components a) ff sa, small_multiple f (components b) ff sb) (by_multiple f _ _ (like a b) h)

  pub laws_of : Laws components count reaches
  laws_of = record {
    total = λ a b la lb. total _ _ (like a b);
    transitive = λ a b c la lb lc h k. transitive _ _ _ (like a b) (like b c) h k;
    kept_by_sum = kept_by_sum;
    kept_by_multiple = kept_by_multiple;
    not_lowered = not_lowered closed reaches kept_by_sum kept_by_multiple;
  }

-- ---- by the first component alone
first_total : (xs ys : List ℤ) → length xs ≡ length ys → T (first_not_less xs ys) ⊎ T (first_not_less ys xs)
first_total [] ys e = inl tt
first_total (x ∷ xs) [] e = inl tt
first_total (x ∷ xs) (y ∷ ys) e = ⊎_elim (λ h. inl h.le) (λ h. inr h.le) (≤-total y x)

first_transitive : (xs ys zs : List ℤ) → length xs ≡ length ys → length ys ≡ length zs → T (first_not_less xs ys) → T (first_not_less ys zs) → T (first_not_less xs zs)
first_transitive [] ys zs e d h k = tt
first_transitive (x ∷ xs) ys [] e d h k = tt
first_transitive (x ∷ xs) [] (z ∷ zs) e d h k = absurd (omega arith)
first_transitive (x ∷ xs) (y ∷ ys) (z ∷ zs) e d h k = omega (arith, ints)

first_sum : (xs ys zs : List ℤ) → length xs ≡ length ys → length ys ≡ length zs → T (first_not_less xs ys) → T (first_not_less (exact_sum xs zs) (exact_sum ys zs))
first_sum [] ys zs e d h = tt
first_sum (x ∷ xs) [] zs e d h = absurd (omega arith)
first_sum (x ∷ xs) (y ∷ ys) [] e d h = tt
first_sum (x ∷ xs) (y ∷ ys) (z ∷ zs) e d h = (sum_keeps y x z (record { le = h })).le

first_multiple : (f : ℕ) (xs ys : List ℤ) → length xs ≡ length ys → T (first_not_less xs ys) → T (first_not_less (exact_multiple f xs) (exact_multiple f ys))
first_multiple f [] ys e h = tt
first_multiple f (x ∷ xs) [] e h = tt
first_multiple f (x ∷ xs) (y ∷ ys) e h = (product_keeps f y x (record { le = h })).le

pub first_laws : {E : Type 0} {components : E → List ℤ} {count : ℕ} → Closed components count → Laws components count first_not_less
first_laws closed = laws_of closed first_not_less first_total first_transitive first_sum first_multiple

-- ---- by the first component that differs
difference_in : (x y : ℤ) (xs ys : List ℤ) → (y <ℤ x) ⊎ ((x ≡ y) × T (by_first_difference xs ys)) → T (by_first_difference (x ∷ xs) (y ∷ ys))
difference_in x y xs ys (inl h) = let e : lt_z y x ≡ true = grind (arith, ints) in rw e tt
difference_in x y xs ys (inr h) =
    let e : lt_z y x ≡ false = grind (arith, ints) in
    let d : lt_z x y ≡ false = grind (arith, ints) in
    rw (e, d) h.1

difference_out : (x y : ℤ) (xs ys : List ℤ) → T (by_first_difference (x ∷ xs) (y ∷ ys)) → (y <ℤ x) ⊎ ((x ≡ y) × T (by_first_difference xs ys))
difference_out x y xs ys t =
    by_order y x inl
    (λ e. let p : lt_z y x ≡ false = grind (arith, ints) in let q : lt_z x y ≡ false = grind (arith, ints) in inr (sym e, rw (p, q) at t))
    (λ h. let p : lt_z y x ≡ false = grind (arith, ints) in let q : lt_z x y ≡ true = grind (arith, ints) in absurd (rw (p, q) at t))

difference_total : (xs ys : List ℤ) → length xs ≡ length ys → T (by_first_difference xs ys) ⊎ T (by_first_difference ys xs)
difference_total [] ys e = inl tt
difference_total (x ∷ xs) [] e = inl tt
difference_total (x ∷ xs) (y ∷ ys) e =
    by_order y x
    (λ h. inl (difference_in x y xs ys (inl h)))
    (λ d. ⊎_elim (λ h. inl (difference_in x y xs ys (inr (sym d, h)))) (λ h. inr (difference_in y x ys xs (inr (d, h)))) (difference_total xs ys (omega arith)))
    (λ h. inr (difference_in y x ys xs (inl h)))

difference_transitive : (xs ys zs : List ℤ) → length xs ≡ length ys → length ys ≡ length zs → T (by_first_difference xs ys) → T (by_first_difference ys zs) → T (by_first_difference xs zs)
difference_transitive [] ys zs e d h k = tt
difference_transitive (x ∷ xs) ys [] e d h k = tt
difference_transitive (x ∷ xs) [] (z ∷ zs) e d h k = absurd (omega arith)
difference_transitive (x ∷ xs) (y ∷ ys) (z ∷ zs) e d h k =
    difference_in x z xs zs
    (⊎_elim
    (λ p. ⊎_elim (λ q. inl (omega (arith, ints))) (λ q. inl (omega (arith, ints))) (difference_out y z ys zs k))
    (λ p. ⊎_elim (λ q. inl (omega (arith, ints))) (λ q. inr (p.0 ∙ q.0, difference_transitive xs ys zs (omega arith) (omega arith) p.1 q.1)) (difference_out y z ys zs k))
    (difference_out x y xs ys h))

difference_sum : (xs ys zs : List ℤ) → length xs ≡ length ys → length ys ≡ length zs → T (by_first_difference xs ys) → T (by_first_difference (exact_sum xs zs) (exact_sum ys zs))
difference_sum [] ys zs e d h = tt
difference_sum (x ∷ xs) [] zs e d h = absurd (omega arith)
difference_sum (x ∷ xs) (y ∷ ys) [] e d h = tt
difference_sum (x ∷ xs) (y ∷ ys) (z ∷ zs) e d h =
    difference_in (x +ℤ z) (y +ℤ z) (exact_sum xs zs) (exact_sum ys zs)
    (⊎_elim (λ p. inl (sum_strict y x z p)) (λ p. inr (ap (λ w. w +ℤ z) p.0, difference_sum xs ys zs (omega arith) (omega arith) p.1)) (difference_out x y xs ys h))

difference_same : (xs : List ℤ) → T (by_first_difference xs xs)
difference_same [] = tt
difference_same (x ∷ xs) = difference_in x x xs xs (inr (refl, difference_same xs))

zero_multiple : (xs ys : List ℤ) → length xs ≡ length ys → exact_multiple 0 xs ≡ exact_multiple 0 ys
zero_multiple [] [] e = refl
zero_multiple [] (y ∷ ys) e = absurd (omega arith)
zero_multiple (x ∷ xs) [] e = absurd (omega arith)
zero_multiple (x ∷ xs) (y ∷ ys) e = let p = zero-*ℤ x in let q = zero-*ℤ y in let t = zero_multiple xs ys (omega arith) in cc

positive_multiple : (f : ℕ) (xs ys : List ℤ) → 0 < f → length xs ≡ length ys → T (by_first_difference xs ys) → T (by_first_difference (exact_multiple f xs) (exact_multiple f ys))
positive_multiple f [] ys o e h = tt
positive_multiple f (x ∷ xs) [] o e h = tt
positive_multiple f (x ∷ xs) (y ∷ ys) o e h =
    difference_in (pos f *ℤ x) (pos f *ℤ y) (exact_multiple f xs) (exact_multiple f ys)
    (⊎_elim (λ p. inl (product_strict f y x o p)) (λ p. inr (ap (λ w. pos f *ℤ w) p.0, positive_multiple f xs ys o (omega arith) p.1)) (difference_out x y xs ys h))

difference_multiple : (f : ℕ) (xs ys : List ℤ) → length xs ≡ length ys → T (by_first_difference xs ys) → T (by_first_difference (exact_multiple f xs) (exact_multiple f ys))
difference_multiple zero xs ys e h = rw (zero_multiple xs ys e) (difference_same (exact_multiple 0 ys))
difference_multiple (suc f) xs ys e h = positive_multiple (suc f) xs ys (omega arith) e h

pub difference_laws : {E : Type 0} {components : E → List ℤ} {count : ℕ} → Closed components count → Laws components count by_first_difference
difference_laws closed = laws_of closed by_first_difference difference_total difference_transitive difference_sum difference_multiple
