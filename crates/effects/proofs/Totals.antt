-- The sum of a supply stops nowhere.
use Rattle.std.proofs.Common.{◌≡◌, ℕ, zero, suc, ◌+◌, ◌*◌, ◌≤◌, List, [], ◌∷◌, map, length, ℤ, fold, Bor, sym, refl, ap, ◌∙◌, suc-mul, arith}
use denote.Param.Members.{Mut}
use lib.IntN.{+ℤ_assoc, +ℤ_idr}
use lib.ListN.{length-replicate}
use Rattle.std.specs.Fn.{Called}
use Rattle.std.specs.Iterator.{FoldsItems}
use Rattle.std.specs.Slice.Iter.{iter_rest}
use Rattle.std.specs.declared.slice.Iter.{Iter}
use Rattle.std.proofs.lemmas.Fn.{fold_over, fronts}
use Rattle.std.proofs.lemmas.Iterator.{YieldsList-from_slice}
use Rattle.std.proofs.lemmas.List.{map_push}
use Rattle.std.proofs.lemmas.List.Sums.{fold_push}
use Rattle.std.specs.List.{AllByRecursion as All}
use Rattle.effects.specs.Components.{zeros, sum, exact_sum, size}
use Rattle.effects.specs.Laws.{Closed}
use Rattle.effects.specs.Supplies.{exact_total, Supply}
use Rattle.effects.specs.Lists.{sum_exact, exact_sum_size, zeros_size, zeros_sum}

pub sum_assoc : (xs ys zs : List ℤ) → exact_sum (exact_sum xs ys) zs ≡ exact_sum xs (exact_sum ys zs)
sum_assoc [] ys zs = refl
sum_assoc (x ∷ xs) [] zs = refl
sum_assoc (x ∷ xs) (y ∷ ys) [] = refl
sum_assoc (x ∷ xs) (y ∷ ys) (z ∷ zs) = let e = +ℤ_assoc x y z in let t = sum_assoc xs ys zs in cc

pub sum_zeros : (n : ℕ) (xs : List ℤ) → length xs ≡ n → exact_sum xs (zeros n) ≡ xs
sum_zeros zero [] h = refl
sum_zeros zero (x ∷ xs) h = absurd (omega arith)
sum_zeros (suc n) [] h = refl
sum_zeros (suc n) (x ∷ xs) h = let e = +ℤ_idr x in let t = sum_zeros n xs (omega arith) in cc

pub length_exact_sum : (xs ys : List ℤ) → length xs ≡ length ys → length (exact_sum xs ys) ≡ length xs
length_exact_sum [] ys h = refl
length_exact_sum (x ∷ xs) [] h = sym h
length_exact_sum (x ∷ xs) (y ∷ ys) h = ap suc (length_exact_sum xs ys (omega arith))

pub length_total : (n : ℕ) (xss : List (List ℤ)) → All (λ xs. length xs ≡ n) xss → length (exact_total n xss) ≡ n
length_total n [] longs = length-replicate n _
length_total n (xs ∷ xss) (l, longs) = length_exact_sum xs (exact_total n xss) (l ∙ sym (length_total n xss longs)) ∙ l

-- each of n components and of size at most s, onto `sofar`
folded_exact : (n s : ℕ) (xss : List (List ℤ)) (sofar : List ℤ) → length sofar ≡ n → All (λ xs. length xs ≡ n) xss → All (λ xs. size xs ≤ s) xss
    → size sofar + length xss * s ≤ 1_000_000_000_000_000_000 → fold sum sofar xss ≡ exact_sum sofar (exact_total n xss)
folded_exact n s [] sofar long longs smalls h = sym (sum_zeros n sofar long)
folded_exact n s (xs ∷ xss) sofar long (l, longs) (m, smalls) h =
    let more : suc (length xss) * s ≡ length xss * s + s = suc-mul (length xss) s in
    let e : sum sofar xs ≡ exact_sum sofar xs = sum_exact sofar xs (omega arith) in
    let now_long : length (exact_sum sofar xs) ≡ n = length_exact_sum sofar xs (long ∙ sym l) ∙ long in
    let t = folded_exact n s xss (exact_sum sofar xs) now_long longs smalls (omega (arith, exact_sum_size sofar xs)) in
    ap (λ ys. fold sum ys xss) e ∙ t ∙ sum_assoc sofar xs (exact_total n xss)

module _ {E : Type 0} {components : E → List ℤ} {count : ℕ} (closed : Closed components count) where
  pub widths : (es : List E) → All (λ xs. length xs ≡ count) (map components es)
  widths [] = tt
  widths (e ∷ es) = (closed.width e, widths es)

  pub supply_exact : (es : List E) → Supply (map components es) → fold sum (zeros count) (map components es) ≡ exact_total count (map components es)
  supply_exact es s =
      let few = s.few in
      let bound : length (map components es) * 1_000_000_000 ≤ 192_000_000_000 = omega arith in
      let total = exact_total count (map components es) in
      let none = zeros_size count in
      folded_exact count 1_000_000_000 (map components es) (zeros count) (length-replicate count _) (widths es) s.small (omega arith)
      ∙ zeros_sum count total (length_total count (map components es) (widths es))

-- what `fold` gives over a slice, where it starts with components a and each call adds one effect
pub folded_total : {E F : Type 0} (components : E → List ℤ) (es : List E) {a : List ℤ} {r z : E} {g : Mut F (E × (Bor E × Unit {0})) E} {f : F} {s : Iter E}
    → FoldsItems fronts g s f z r → iter_rest s ≡ es → components z ≡ a
    → ((t : E) (x : Bor E) (u : E) (f' : F) → Called g f (t, (x, tt)) u f' → (components u ≡ sum (components t) (components x.now)) × (f' ≡ f))
    → components r ≡ fold sum a (map components es)
folded_total components es {a} {r} {z} {g} {f} {s} ran rest start adds =
    fold_over fronts (λ y. y.now) g (λ ys t. components t ≡ fold sum a (map components ys)) f
    (λ ys t x u f' so call. let one = adds t x u f' call in (simp (map_push, fold_push) (cc), one.1)) s es z r (YieldsList-from_slice es rest).runs start ran
