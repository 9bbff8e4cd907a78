-- Sums over the actions of a sheet.
use Rattle.std.proofs.Common.{◌≡◌, ℕ, ◌+◌, ◌*◌, ◌<◌, ◌≤◌, Bool, cond, List, [], ◌∷◌, map, length, ℤ, sum_by, sym, refl, ap, ◌∙◌, inl, inr, add-mul, arith}
use lib.ListN.{length-replicate}
use Rattle.std.proofs.lemmas.List.Sums.{sum_by-cons}
use Rattle.std.proofs.ByRecursion.{All-weaker}
use Rattle.std.proofs.lemmas.Bool.{cases_order}
use Rattle.std.specs.List.{AllByRecursion as All}
use Rattle.basis.specs.Vocabulary.{is_variable}
use Rattle.sheet.specs.declared.action.Action.{Action}
use Rattle.sheet.specs.Limits.{parts_in}
use Rattle.effects.specs.Components.{zeros, exact_sum}
use Rattle.effects.specs.Supplies.{exact_total}
use Rattle.effects.specs.Laws.{Closed, Laws}
use Rattle.effects.specs.Lists.{zeros_sum}
use Rattle.effects.proofs.Totals.{sum_assoc, sum_zeros}
use Rattle.envelope.specs.declared.entry.Entry.{Entry}
use Rattle.envelope.specs.Entries.{entries_from}
use Rattle.envelope.proofs.Values.{Value, Reaches, wider, zero_value, sum_value, level, sums, sum_comm}

-- two sums in one
pub total_split : {A : Type 0} (n : ℕ) (f g : A → List ℤ) (list : List A) → exact_total n (map (λ a. exact_sum (f a) (g a)) list) ≡ exact_sum (exact_total n (map f list)) (exact_total n (map g list))
total_split n f g [] = sym (zeros_sum n (zeros n) (length-replicate n _))
total_split n f g (a ∷ list) =
    let F = exact_total n (map f list) in
    let G = exact_total n (map g list) in
    ap (exact_sum (exact_sum (f a) (g a))) (total_split n f g list)
    ∙ sum_assoc (f a) (g a) (exact_sum F G)
    ∙ ap (exact_sum (f a)) (sym (sum_assoc (g a) F G) ∙ ap (λ x. exact_sum x G) (sum_comm (g a) F) ∙ sum_assoc F (g a) G)
    ∙ sym (sum_assoc (f a) F (exact_sum (g a) G))

pub total_same : {A : Type 0} (n : ℕ) (f g : A → List ℤ) (list : List A) → All (λ a. f a ≡ g a) list → exact_total n (map f list) ≡ exact_total n (map g list)
total_same n f g [] same = refl
total_same n f g (a ∷ list) (e, same) = ap (λ x. exact_sum x (exact_total n (map f list))) e ∙ ap (exact_sum (g a)) (total_same n f g list same)

pub total_none : {A : Type 0} (n : ℕ) (f : A → List ℤ) (list : List A) → All (λ a. f a ≡ zeros n) list → exact_total n (map f list) ≡ zeros n
total_none n f [] none = refl
total_none n f (a ∷ list) (e, none) =
    ap (λ x. exact_sum x (exact_total n (map f list))) e ∙ ap (exact_sum (zeros n)) (total_none n f list none) ∙ zeros_sum n (zeros n) (length-replicate n _)

pub numbers_from : (i k p : ℕ) (list : List Action) → All (λ e. i ≤ e.number) (entries_from i k p list)
numbers_from i k p [] = tt
numbers_from i k p (a ∷ rest) =
    (omega arith, All-weaker _ _ (λ e h. omega arith) (entries_from (i + 1) (k + cond (is_variable a.kind) 1 0) (p + a.parts) rest) (numbers_from (i + 1) (k + cond (is_variable a.kind) 1 0) (p + a.parts) rest))

pub all_both : {A : Type 0} (P Q : A → Type 0) (list : List A) → All P list → All Q list → All (λ a. P a × Q a) list
all_both P Q [] p q = tt
all_both P Q (a ∷ list) (p, ps) (q, qs) = ((p, q), all_both P Q list ps qs)

-- only the action of number j adds something
pub record Only (n : ℕ) (f : Entry → List ℤ) (j : ℕ) (x : List ℤ) (e : Entry) : Type 0 where
  pub here : e.number ≡ j → f e ≡ x
  pub elsewhere : (e.number ≡ j → ⊥) → f e ≡ zeros n

pub total-one : (n : ℕ) (f : Entry → List ℤ) (j : ℕ) (x : List ℤ) (i k p : ℕ) (list : List Action) → length x ≡ n → i ≤ j → j < i + length list → All (Only n f j x) (entries_from i k p list) → exact_total n (map f (entries_from i k p list)) ≡ x
total-one n f j x i k p [] lx l m only = absurd (omega arith)
total-one n f j x i k p (a ∷ rest) lx l m (only, onlys) =
    let k' : ℕ = k + cond (is_variable a.kind) 1 0 in
    let p' : ℕ = p + a.parts in
    let e : Entry = record { number = i; place = k; first = p; action = a } in
    let others = entries_from (i + 1) k' p' rest in
    elim (cases_order i j) [
      | inl eq ↦
          let after = all_both (Only n f j x) (λ d. i + 1 ≤ d.number) others onlys (numbers_from (i + 1) k' p' rest) in
          let none : All (λ d. f d ≡ zeros n) others = All-weaker (λ d. Only n f j x d × (i + 1 ≤ d.number)) _ (λ d h. h.0.elsewhere (λ same. omega arith)) others after in
          ap (λ y. exact_sum y (exact_total n (map f others))) (only.here eq) ∙ ap (exact_sum x) (total_none n f others none) ∙ sum_zeros n x lx
      | inr (inl lt) ↦
          ap (λ y. exact_sum y (exact_total n (map f others))) (only.elsewhere (λ same. omega arith)) ∙ ap (exact_sum (zeros n)) (total-one n f j x (i + 1) k' p' rest lx (omega arith) (omega arith) onlys) ∙ zeros_sum n x lx
      | inr (inr gt) ↦ absurd (omega arith)
    ]

pub entries_sum : (i k p : ℕ) (list : List Action) → sum_by (λ e. e.action.parts) (entries_from i k p list) ≡ parts_in list
entries_sum i k p [] = refl
entries_sum i k p (a ∷ rest) =
    let k' : ℕ = k + cond (is_variable a.kind) 1 0 in
    let e : Entry = record { number = i; place = k; first = p; action = a } in
    sum_by-cons (λ (e : Entry). e.action.parts) e (entries_from (i + 1) k' (p + a.parts) rest)
    ∙ ap (λ m. a.parts + m) (entries_sum (i + 1) k' (p + a.parts) rest)
    ∙ sym (sum_by-cons (λ (x : Action). x.parts) a rest)

module _ {E : Type 0} {components : E → List ℤ} {count : ℕ} {reaches : List ℤ → List ℤ → Bool} (kind : Closed components count) (laws : Laws components count reaches) where
  -- what an action of w parts can add
  abbrev pub Share : ℕ → List ℤ → Type 0
  Share w = Value kind laws (w * 1_000_000_000_000_000)

  pub total_share : {A : Type 0} (w : A → ℕ) (f : A → List ℤ) (list : List A) → sum_by w list ≤ 192 → All (λ a. Share (w a) (f a)) list → Share (sum_by w list) (exact_total count (map f list))
  total_share w f [] few vs = zero_value kind laws 0
  total_share w f (a ∷ list) few (v, vs) =
      let s = sum_by-cons w a list in
      let m = add-mul (w a) (sum_by w list) 1_000_000_000_000_000 in
      let rest = total_share w f list (omega arith) vs in
      rw s (wider kind laws ((w a + sum_by w list) * 1_000_000_000_000_000) (omega arith) (sum_value kind laws {j = w a * 1_000_000_000_000_000} {k = sum_by w list * 1_000_000_000_000_000} (omega arith) v rest))

  pub record Improves (w : ℕ) (xs ys : List ℤ) : Type 0 where
    pub new : Share w xs
    pub old : Share w ys
    pub over : Reaches kind laws xs ys

  pub total_improves : {A : Type 0} (w : A → ℕ) (f g : A → List ℤ) (list : List A) → sum_by w list ≤ 192 → All (λ a. Improves (w a) (f a) (g a)) list → Reaches kind laws (exact_total count (map f list)) (exact_total count (map g list))
  total_improves w f g [] few vs = level kind laws (zero_value kind laws 200_000_000_000_000_000)
  total_improves w f g (a ∷ list) few (v, vs) =
      let s = sum_by-cons w a list in
      let m = add-mul (w a) (sum_by w list) 1_000_000_000_000_000 in
      let le : sum_by w list ≤ 192 = omega arith in
      sums kind laws {j = w a * 1_000_000_000_000_000} {k = sum_by w list * 1_000_000_000_000_000} (omega arith) v.new v.old
      (total_share w f list le (All-weaker _ _ (λ b h. h.new) list vs)) (total_share w g list le (All-weaker _ _ (λ b h. h.old) list vs))
      v.over (total_improves w f g list le vs)
