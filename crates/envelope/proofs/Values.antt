-- Component lists that are effects of a kind, and what the laws say of them.
use Rattle.std.proofs.Common.{◌≡◌, ℕ, ◌+◌, ◌*◌, ◌≤◌, Bool, T, ◌⊎◌, List, [], ◌∷◌, length, ℤ, pos, ◌+ℤ◌, ◌*ℤ◌, sym, refl, ap, ◌∙◌, ⊎_elim, mul-le-mul, mul-add, arith}
use borrow.Author.Differences.{up, down}
use lib.IntN.{+ℤ_comm}
use Rattle.std.proofs.lemmas.Int.{ints}
use Rattle.effects.specs.Components.{zeros, sum, multiple, exact_sum, exact_multiple, size}
use Rattle.effects.specs.Laws.{Closed, Laws, IsFactor}
use Rattle.effects.specs.Lists.{sum_exact, exact_sum_size, multiple_exact, exact_multiple_size, zeros_size, small_multiple}
use Rattle.effects.specs.Factors.{turned_laws}

pub sum_comm : (xs ys : List ℤ) → exact_sum xs ys ≡ exact_sum ys xs
sum_comm [] [] = refl
sum_comm [] (y ∷ ys) = refl
sum_comm (x ∷ xs) [] = refl
sum_comm (x ∷ xs) (y ∷ ys) = let e = +ℤ_comm x y in let t = sum_comm xs ys in cc

times_sum : (f : ℕ) (x y : ℤ) → pos f *ℤ (x +ℤ y) ≡ (pos f *ℤ x) +ℤ (pos f *ℤ y)
times_sum f x y =
    let a = mul-add f (up (x +ℤ y)) (down x + down y) in
    let b = mul-add f (down (x +ℤ y)) (up x + up y) in
    let c = mul-add f (up x) (up y) in
    let d = mul-add f (down x) (down y) in
    let e : f * (up (x +ℤ y) + (down x + down y)) ≡ f * (down (x +ℤ y) + (up x + up y)) = ap (λ n. f * n) (omega (arith, ints)) in
    omega (arith, ints)

pub multiple_sum : (f : ℕ) (xs ys : List ℤ) → exact_multiple f (exact_sum xs ys) ≡ exact_sum (exact_multiple f xs) (exact_multiple f ys)
multiple_sum f [] ys = refl
multiple_sum f (x ∷ xs) [] = refl
multiple_sum f (x ∷ xs) (y ∷ ys) = let e = times_sum f x y in let t = multiple_sum f xs ys in cc

module _ {E : Type 0} {components : E → List ℤ} {count : ℕ} {reaches : List ℤ → List ℤ → Bool} (kind : Closed components count) (laws : Laws components count reaches) where
  abbrev pub Reaches : List ℤ → List ℤ → Type 0
  Reaches xs ys = T (reaches xs ys)

  -- an effect of the kind whose size is at most k
  pub record Value (k : ℕ) (xs : List ℤ) : Type 0 where
    pub value : E
    pub is : components value ≡ xs
    pub bound : size xs ≤ k

  pub of_value : (k : ℕ) (e : E) → size (components e) ≤ k → Value k (components e)
  of_value k e h = record { value = e; is = refl; bound = h }

  pub wider : {j : ℕ} {xs : List ℤ} → (k : ℕ) → j ≤ k → Value j xs → Value k xs
  wider k h v = record { value = v.value; is = v.is; bound = (let b = v.bound in omega arith) }

  pub long : {k : ℕ} {xs : List ℤ} → Value k xs → length xs ≡ count
  long v = ap length (sym v.is) ∙ kind.width v.value

  pub zero_value : (k : ℕ) → Value k (zeros count)
  zero_value k = record { value = kind.zero.0; is = kind.zero.1; bound = omega (arith, zeros_size count) }

  pub sum_value : {j k : ℕ} {xs ys : List ℤ} → j + k ≤ 1_000_000_000_000_000_000 → Value j xs → Value k ys → Value (j + k) (exact_sum xs ys)
  sum_value {j} {k} {xs} {ys} h a b =
      let p = a.bound in
      let q = b.bound in
      let v = kind.add a.value b.value in
      let e : sum (components a.value) (components b.value) ≡ exact_sum xs ys =
      ap (λ zs. sum zs (components b.value)) a.is ∙ ap (sum xs) b.is ∙ sum_exact xs ys (omega arith) in
      record { value = v.0; is = v.1 ∙ e; bound = omega (arith, exact_sum_size xs ys) }

  pub multiple_value : {k : ℕ} {xs : List ℤ} (f : ℕ) → IsFactor f → k ≤ 200_000_000_000 → Value k xs → Value (1_000_000 * k) (exact_multiple f xs)
  multiple_value {k} {xs} f h l a =
      let p = a.bound in
      let v = kind.scale f a.value in
      let m : f * size xs ≤ 1_000_000 * k = mul-le-mul {n₁ = f} {m₁ = size xs} {n₂ = 1_000_000} {m₂ = k} h p in
      let e : multiple f (components a.value) ≡ exact_multiple f xs = ap (multiple f) a.is ∙ multiple_exact f xs (omega arith) in
      record { value = v.0; is = v.1 ∙ e; bound = omega (arith, exact_multiple_size f xs) }

  -- the laws
  abbrev pub Lg : List ℤ → Type 0
  Lg = Value 200_000_000_000_000_000

  abbrev pub Sm : List ℤ → Type 0
  Sm = Value 200_000_000_000

  pub total : {xs ys : List ℤ} → Lg xs → Lg ys → Reaches xs ys ⊎ Reaches ys xs
  total {xs} {ys} a b = rw (a.is, b.is) at (laws.total a.value b.value (rw a.is a.bound) (rw b.is b.bound))

  pub level : {xs : List ℤ} → Lg xs → Reaches xs xs
  level a = ⊎_elim (λ r. r) (λ r. r) (total a a)

  pub chain : {xs ys zs : List ℤ} → Lg xs → Lg ys → Lg zs → Reaches xs ys → Reaches ys zs → Reaches xs zs
  chain a b c h k =
      rw (a.is, c.is) at (laws.transitive a.value b.value c.value (rw a.is a.bound) (rw b.is b.bound) (rw c.is c.bound) (rw (a.is, b.is) h) (rw (b.is, c.is) k))

  sum_right : {xs ys zs : List ℤ} → Lg xs → Lg ys → Lg zs → Reaches xs ys → Reaches (exact_sum xs zs) (exact_sum ys zs)
  sum_right {xs} {ys} {zs} a b c h =
      let p = a.bound in
      let q = b.bound in
      let r = c.bound in
      let sa : sum xs zs ≡ exact_sum xs zs = sum_exact xs zs (omega arith) in
      let sb : sum ys zs ≡ exact_sum ys zs = sum_exact ys zs (omega arith) in
      rw (← sa, ← sb) (rw (a.is, b.is, c.is) at (laws.kept_by_sum a.value b.value c.value (rw a.is p) (rw b.is q) (rw c.is r) (rw (a.is, b.is) h)))

  -- sums of two, each at or above the other's
  pub sums : {j k : ℕ} {xs ys us vs : List ℤ} → j + k ≤ 200_000_000_000_000_000 → Value j xs → Value j ys → Value k us → Value k vs
      → Reaches xs ys → Reaches us vs → Reaches (exact_sum xs us) (exact_sum ys vs)
  sums {j} {k} {xs} {ys} {us} {vs} l a b c d h g =
      let la = wider 200_000_000_000_000_000 (omega arith) a in
      let lb = wider 200_000_000_000_000_000 (omega arith) b in
      let lc = wider 200_000_000_000_000_000 (omega arith) c in
      let ld = wider 200_000_000_000_000_000 (omega arith) d in
      let first : Reaches (exact_sum xs us) (exact_sum ys us) = sum_right la lb lc h in
      let second : Reaches (exact_sum ys us) (exact_sum ys vs) = rw (sum_comm ys us, sum_comm ys vs) (sum_right lc ld lb g) in
      chain (wider 200_000_000_000_000_000 l (sum_value (omega arith) a c)) (wider 200_000_000_000_000_000 l (sum_value (omega arith) b c)) (wider 200_000_000_000_000_000 l (sum_value (omega arith) b d)) first second

  pub multiples : {xs ys : List ℤ} (f : ℕ) → IsFactor f → Sm xs → Sm ys → Reaches xs ys → Reaches (exact_multiple f xs) (exact_multiple f ys)
  multiples {xs} {ys} f l a b h =
      let ea : multiple f xs ≡ exact_multiple f xs = small_multiple f xs l a.bound in
      let eb : multiple f ys ≡ exact_multiple f ys = small_multiple f ys l b.bound in
      rw (← ea, ← eb) (rw (a.is, b.is) at (laws.kept_by_multiple f a.value b.value l (rw a.is a.bound) (rw b.is b.bound) (rw (a.is, b.is) h)))

  -- a greater factor: of an effect at or above zero, and of one at or below
  pub raised : {xs : List ℤ} (f g : ℕ) → f ≤ g → IsFactor g → Sm xs → Reaches xs (zeros count) → Reaches (exact_multiple g xs) (exact_multiple f xs)
  raised {xs} f g le l a h =
      let ef : multiple f xs ≡ exact_multiple f xs = small_multiple f xs (omega arith) a.bound in
      let eg : multiple g xs ≡ exact_multiple g xs = small_multiple g xs l a.bound in
      rw (← ef, ← eg) (rw a.is at (laws.not_lowered f g a.value le l (rw a.is a.bound) (rw a.is h)))

  pub lowered : {xs : List ℤ} (f g : ℕ) → f ≤ g → IsFactor g → Sm xs → Reaches (zeros count) xs → Reaches (exact_multiple f xs) (exact_multiple g xs)
  lowered {xs} f g le l a h =
      let ef : multiple f xs ≡ exact_multiple f xs = small_multiple f xs (omega arith) a.bound in
      let eg : multiple g xs ≡ exact_multiple g xs = small_multiple g xs l a.bound in
      let turned = turned_laws {E = E} {F = E} (λ x. x) (λ x. x) (λ x. refl) kind laws in
      rw (← ef, ← eg) (rw a.is at (turned.not_lowered f g a.value le l (rw a.is a.bound) (rw a.is h)))
