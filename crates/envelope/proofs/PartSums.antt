-- Sums of the parts of one action by a mask.
use Rattle.std.proofs.Common.{◌≡◌, ℕ, zero, suc, ◌+◌, ◌-◌, ◌*◌, ◌/◌, ◌%◌, ◌^◌, ◌<◌, ◌≤◌, Bool, true, false, cond, not, eqb, List, [], ◌∷◌, ◌++◌, length, get_or, take, ℤ, sym, refl, ap, ◌∙◌, inl, inr, add-zero, suc-mul, zero-add, arith, length-take}
use lib.ListN.{length-replicate}
use Rattle.std.proofs.lemmas.List.{take_more, length-take-le}
use Rattle.std.proofs.lemmas.Nat.{mod_below}
use Rattle.std.proofs.lemmas.Nat.Bits.{bit_at_not}
use Rattle.std.specs.Int.{w16}
use Rattle.std.proofs.ByRecursion.{All-take, All-get_or}
use Rattle.std.proofs.lemmas.Bool.{cases_Bool}
use Rattle.std.specs.List.{AllByRecursion as All}
use Rattle.effects.specs.Components.{zeros, sum, multiple, exact_sum, exact_multiple, size}
use Rattle.effects.specs.Supplies.{Supply}
use Rattle.effects.specs.Laws.{Small, IsFactor}
use Rattle.effects.specs.Lists.{sum_exact, exact_sum_size, exact_multiple_size, exact_split, small_multiple, large_multiple, large_sum, zeros_sum, zeros_size, zeros_multiple}
use Rattle.effects.proofs.Totals.{sum_assoc, sum_zeros}
use Rattle.envelope.specs.Entries.{has}
use Rattle.envelope.specs.Combinations.{weighted, by_mask}
use Rattle.envelope.proofs.Values.{sum_comm, multiple_sum}
use Rattle.envelope.proofs.Weights.{none_of, weighted_same}
use Rattle.envelope.proofs.Contributions.{once, times_one, times_none}

-- one part more
pub weighted_push : (n : ℕ) (f : ℕ → ℕ) (xss : List (List ℤ)) (x : List ℤ) → weighted n f (xss ++ x ∷ []) ≡ exact_sum (weighted n f xss) (exact_multiple (f (length xss)) x)
weighted_push n f [] x = sum_comm (exact_multiple (f 0) x) (zeros n)
weighted_push n f (xs ∷ xss) x =
    ap (exact_sum (exact_multiple (f 0) xs)) (weighted_push n (λ p. f (suc p)) xss x)
    ∙ sym (sum_assoc (exact_multiple (f 0) xs) (weighted n (λ p. f (suc p)) xss) (exact_multiple (f (suc (length xss))) x))

crossed : (a b c d : List ℤ) → exact_sum (exact_sum a b) (exact_sum c d) ≡ exact_sum (exact_sum a c) (exact_sum b d)
crossed a b c d =
    sum_assoc a b (exact_sum c d)
    ∙ ap (exact_sum a) (sym (sum_assoc b c d) ∙ ap (λ x. exact_sum x d) (sum_comm b c) ∙ sum_assoc c b d)
    ∙ sym (sum_assoc a c (exact_sum b d))

-- a part at one of two factors: of its multiples by 1 and by 0, each times its factor, one is nothing
part_two : (hi lo : ℕ) (t : Bool) (xs : List ℤ) → exact_multiple (cond t hi lo) xs ≡ exact_sum (exact_multiple hi (exact_multiple (cond t 1 0) xs)) (exact_multiple lo (exact_multiple (cond t 0 1) xs))
part_two hi lo true xs =
    ap (λ k. exact_multiple k xs) (sym (add-zero hi))
    ∙ exact_split hi 0 xs
    ∙ ap (λ ys. exact_sum ys (exact_multiple 0 xs)) (sym (times_one hi xs))
    ∙ ap (exact_sum (exact_multiple hi (exact_multiple 1 xs))) (sym (times_none lo xs))
part_two hi lo false xs =
    ap (λ k. exact_multiple k xs) (sym (zero-add lo))
    ∙ exact_split 0 lo xs
    ∙ ap (λ ys. exact_sum ys (exact_multiple lo xs)) (sym (times_none hi xs))
    ∙ ap (exact_sum (exact_multiple hi (exact_multiple 0 xs))) (sym (times_one lo xs))

-- a sum of parts at two factors is each factor times the sum of its parts
pub weighted_two : (n hi lo : ℕ) (taken : ℕ → Bool) (xss : List (List ℤ))
    → weighted n (λ p. cond (taken p) hi lo) xss ≡ exact_sum (exact_multiple hi (weighted n (λ p. cond (taken p) 1 0) xss)) (exact_multiple lo (weighted n (λ p. cond (taken p) 0 1) xss))
weighted_two n hi lo taken [] =
    sym (zeros_sum n (zeros n) (length-replicate n _))
    ∙ ap (λ ys. exact_sum ys (zeros n)) (sym (zeros_multiple hi n))
    ∙ ap (exact_sum (exact_multiple hi (zeros n))) (sym (zeros_multiple lo n))
weighted_two n hi lo taken (xs ∷ xss) =
    let a = exact_multiple (cond (taken 0) 1 0) xs in
    let b = exact_multiple (cond (taken 0) 0 1) xs in
    let A = weighted n (λ p. cond (taken (suc p)) 1 0) xss in
    let B = weighted n (λ p. cond (taken (suc p)) 0 1) xss in
    ap (λ ys. exact_sum ys (weighted n (λ p. cond (taken (suc p)) hi lo) xss)) (part_two hi lo (taken 0) xs)
    ∙ ap (exact_sum (exact_sum (exact_multiple hi a) (exact_multiple lo b))) (weighted_two n hi lo (λ p. taken (suc p)) xss)
    ∙ crossed (exact_multiple hi a) (exact_multiple lo b) (exact_multiple hi A) (exact_multiple lo B)
    ∙ ap (λ ys. exact_sum ys (exact_sum (exact_multiple lo b) (exact_multiple lo B))) (sym (multiple_sum hi a A))
    ∙ ap (exact_sum (exact_multiple hi (exact_sum a A))) (sym (multiple_sum lo b B))

-- the parts that are taken, each at 1, sum to no more than all of them
taken_size : (n : ℕ) (taken : ℕ → Bool) (xss : List (List ℤ)) → All (λ xs. size xs ≤ 1_000_000_000) xss → size (weighted n (λ p. cond (taken p) 1 0) xss) ≤ length xss * 1_000_000_000
taken_size n taken [] small = omega (arith, zeros_size n)
taken_size n taken (xs ∷ xss) (low, small) =
    let head : size (exact_multiple (cond (taken 0) 1 0) xs) ≤ 1_000_000_000 =
    elim (cases_Bool (taken 0)) [ inl t ↦ rw t (omega (arith, exact_multiple_size 1 xs)) | inr t ↦ rw t (omega (arith, exact_multiple_size 0 xs)) ] in
    omega (arith, exact_sum_size (exact_multiple (cond (taken 0) 1 0) xs) (weighted n (λ p. cond (taken (suc p)) 1 0) xss), taken_size n (λ p. taken (suc p)) xss small, suc-mul (length xss) 1_000_000_000)

-- the sum of those that are taken, part by part
module _ (n : ℕ) (taken : ℕ → Bool) (xss : List (List ℤ)) (supply : Supply xss) where
  abbrev pub upto : ℕ → List ℤ
  upto i = weighted n (λ p. cond (taken p) 1 0) (take i xss)

  pub upto_small : (i : ℕ) → Small (upto i)
  upto_small i = let few = supply.few in omega (arith, taken_size n taken (take i xss) (All-take _ i xss supply.small), length-take i xss)

  more : (i : ℕ) → i < length xss → upto (i + 1) ≡ exact_sum (upto i) (exact_multiple (cond (taken i) 1 0) (get_or xss i []))
  more i h =
      ap (weighted n (λ p. cond (taken p) 1 0)) (take_more xss i [] h)
      ∙ weighted_push n (λ p. cond (taken p) 1 0) (take i xss) (get_or xss i [])
      ∙ ap (λ p. exact_sum (upto i) (exact_multiple (cond (taken p) 1 0) (get_or xss i []))) (length-take-le i xss (omega arith))

  pub turn_taken : (i : ℕ) → i < length xss → taken i ≡ true → sum (upto i) (get_or xss i []) ≡ upto (i + 1)
  turn_taken i h t =
      let x = get_or xss i [] in
      let low : size x ≤ 1_000_000_000 = All-get_or (λ xs. size xs ≤ 1_000_000_000) xss i [] h supply.small in
      let small = upto_small i in
      sum_exact (upto i) x (omega arith)
      ∙ ap (exact_sum (upto i)) (sym (once x))
      ∙ ap (λ u. exact_sum (upto i) (exact_multiple (cond u 1 0) x)) (sym t)
      ∙ sym (more i h)

  pub turn_left : (i : ℕ) → i < length xss → taken i ≡ false → length (upto i) ≡ n → length (get_or xss i []) ≡ n → upto i ≡ upto (i + 1)
  turn_left i h t long wide =
      let x = get_or xss i [] in
      sym (sum_zeros n (upto i) long)
      ∙ ap (λ k. exact_sum (upto i) (zeros k)) (sym wide)
      ∙ ap (exact_sum (upto i)) (sym (none_of x))
      ∙ ap (λ u. exact_sum (upto i) (exact_multiple (cond u 1 0) x)) (sym t)
      ∙ sym (more i h)

-- the parts that a mask of sixteen does not hold
has_not : (mask p : ℕ) → mask < 65536 → p < 16 → has (65535 - mask) p ≡ not (has mask p)
has_not mask p h l =
    let two = mod_below (mask / 2 ^ p) 2 (omega arith) in
    ap (λ b. eqb b 1) (bit_at_not w16 mask p h l) ∙ flip (mask / 2 ^ p % 2) two
  where
    flip : (b : ℕ) → b < 2 → eqb (1 - b) 1 ≡ not (eqb b 1)
    flip zero l = refl
    flip (suc zero) l = refl
    flip (suc (suc b)) l = absurd (omega arith)

-- the sums of the parts in a mask and of the others, each times a factor
pub weighed : (n hi lo mask : ℕ) (xss : List (List ℤ)) (h l a b r : List ℤ) → mask < 65536 → length xss ≤ 16 → IsFactor hi → IsFactor lo
    → h ≡ weighted n (λ p. cond (has mask p) 1 0) xss → Small h → l ≡ weighted n (λ p. cond (has (65535 - mask) p) 1 0) xss → Small l
    → a ≡ multiple hi h → b ≡ multiple lo l → r ≡ sum a b → r ≡ weighted n (by_mask hi lo mask) xss
weighed n hi lo mask xss h l a b r fits few fh fl held hs left ls first second e =
    let others : weighted n (λ p. cond (has (65535 - mask) p) 1 0) xss ≡ weighted n (λ p. cond (has mask p) 0 1) xss =
    weighted_same n _ _ xss (λ p k. ap (λ u. cond u 1 0) (has_not mask p fits (omega arith)) ∙ turned (has mask p)) in
    e
    ∙ (λ j. sum (first j) (second j))
    ∙ large_sum (multiple hi h) (multiple lo l) (large_multiple hi h fh hs) (large_multiple lo l fl ls)
    ∙ (λ j. exact_sum (small_multiple hi h fh hs j) (small_multiple lo l fl ls j))
    ∙ (λ j. exact_sum (exact_multiple hi (held j)) (exact_multiple lo ((left ∙ others) j)))
    ∙ sym (weighted_two n hi lo (has mask) xss)
  where
    turned : (u : Bool) → ◌≡◌ {A = ℕ} (cond (not u) 1 0) (cond u 0 1)
    turned true = refl
    turned false = refl
