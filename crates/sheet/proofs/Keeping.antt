-- What keeps the limits, the form of the actions and the pairs of a sheet.
use Rattle.std.proofs.Common.{◌≡◌, ℕ, ◌+◌, ◌<◌, ◌≤◌, Bool, true, false, cond, not, ◌&&◌, eqb, leb, ◌≢◌, ◌⊎◌, List, [], ◌∷◌, ◌++◌, length, get_or, set, sym, ap, ◌∙◌, ⊎_elim, arith, length-set}
use Rattle.std.proofs.lemmas.List.{length_push, get_or-set_same, get_or-set_other, get_or_past, get_or_append_left, get_or_push}
use Rattle.std.proofs.lemmas.List.Sums.{sum_by-set, sum_by_push}
use Rattle.std.proofs.lemmas.Bool.{and_parts, and_from, leb-true, cases_eq, cases_lt, cases_Bool, or_cases, eqb-true, true≢false}
use Rattle.std.proofs.lemmas.Bool.Decides.{nat_tests}
use Rattle.basis.specs.declared.action.Kind.{Kind}
use Rattle.basis.specs.Vocabulary.{is_variable}
use Rattle.sheet.specs.declared.action.Action.{Action}
use Rattle.sheet.specs.Limits.{variables, parts_in, in_limits, agree, well_formed, no_action, can_pair, Limited, Formed, Paired}
use Rattle.sheet.specs.Content.{same_pair}
use Rattle.sheet.specs.Calls.{with_category}
use Rattle.basis.specs.declared.category.Category.{Category}

-- one action more

pub limits_push : (xs : List Action) (x : Action) → in_limits (xs ++ x ∷ []) ≡ ((leb (length xs + 1) 32 && leb (variables xs + cond (is_variable x.kind) 1 0) 12) && leb (parts_in xs + x.parts) 192)
limits_push xs x = rw (length_push xs x, sum_by_push (λ (a : Action). cond (is_variable a.kind) 1 0) xs x, sum_by_push (λ (a : Action). a.parts) xs x)

pub limited : (room : ℕ) (xs : List Action) → 32 ≤ room → in_limits xs ≡ true → Limited room xs
limited room xs r h =
    let one = and_parts _ _ h in
    let two = and_parts _ _ one.0 in
    (r, leb-true _ _ two.0, leb-true _ _ two.1, leb-true _ _ one.1)

pub formed_push : (xs : List Action) (x : Action) → Formed xs → well_formed x ≡ true → Formed (xs ++ x ∷ [])
formed_push xs x f h i l =
    let n = length_push xs x in
    ⊎_elim
    (λ (within : i < length xs). ap well_formed (get_or_append_left xs (x ∷ []) no_action i within) ∙ f i within)
    (λ (past : length xs ≤ i). ap well_formed (get_or_push xs x no_action i (omega arith)) ∙ h)
    (cases_lt i (length xs))

-- only entered actions are variable
pub variable_entered : (xs : List Action) (a : ℕ) → is_variable (get_or xs a no_action).kind ≡ true → a < length xs
variable_entered xs a h =
    ⊎_elim
    (λ (within : a < length xs). within)
    (λ (past : length xs ≤ a). absurd (true≢false (sym h ∙ ap (λ (x : Action). is_variable x.kind) (get_or_past xs a no_action past))))
    (cases_lt a (length xs))

-- two different actions, both variable
pub pair_parts : (xs : List Action) (a b : ℕ) → can_pair xs a b ≡ true → (not (eqb a b) ≡ true) × ((is_variable (get_or xs a no_action).kind ≡ true) × (is_variable (get_or xs b no_action).kind ≡ true))
pair_parts xs a b h = let p = and_parts _ _ h in (p.0, and_parts _ _ p.1)

-- a pair of one list is a pair of another that has the same kinds at both places
pair_like : (xs ys : List Action) (a b : ℕ) → (get_or ys a no_action).kind ≡ (get_or xs a no_action).kind → (get_or ys b no_action).kind ≡ (get_or xs b no_action).kind → can_pair xs a b ≡ true → can_pair ys a b ≡ true
pair_like xs ys a b p q h = (λ i. not (eqb a b) && (is_variable (p i) && is_variable (q i))) ∙ h

pub paired_push : (xs : List Action) (x : Action) (marked : ℕ → ℕ → Bool) → Paired xs marked → Paired (xs ++ x ∷ []) marked
paired_push xs x marked p a b m =
    let pair = p a b m in
    let parts = pair_parts xs a b pair in
    let same : (i : ℕ) → i < length xs → (get_or (xs ++ x ∷ []) i no_action).kind ≡ (get_or xs i no_action).kind = λ i h. ap (λ (y : Action). y.kind) (get_or_append_left xs (x ∷ []) no_action i h) in
    pair_like xs (xs ++ x ∷ []) a b (same a (variable_entered xs a parts.1.0)) (same b (variable_entered xs b parts.1.1)) pair

-- another action in the place of one of the same kind with as many parts

pub limited_set : (room : ℕ) (xs : List Action) (i : ℕ) (x : Action) → Limited room xs → i < length xs → x.kind ≡ (get_or xs i no_action).kind → x.parts ≡ (get_or xs i no_action).parts → Limited room (set xs i x)
limited_set room xs i x k h same_kind same_parts =
    let one : Action → ℕ = λ a. cond (is_variable a.kind) 1 0 in
    let v : variables (set xs i x) + one (get_or xs i no_action) ≡ variables xs + one x = sum_by-set one xs i x no_action h in
    let p : parts_in (set xs i x) + (get_or xs i no_action).parts ≡ parts_in xs + x.parts = sum_by-set (λ a. a.parts) xs i x no_action h in
    let e : one x ≡ one (get_or xs i no_action) = ap (λ (t : Kind). cond (is_variable t) 1 0) same_kind in
    let n = length-set xs i x in
    (k.0, omega arith, omega (arith, v, e, k.2), omega (arith, p, k.3))

pub formed_set : (xs : List Action) (i : ℕ) (x : Action) → Formed xs → i < length xs → well_formed x ≡ true → Formed (set xs i x)
formed_set xs i x f within h k l =
    let n = length-set xs i x in
    ⊎_elim
    (λ (here : k ≡ i). ap (λ (j : ℕ). well_formed (get_or (set xs i x) j no_action)) here ∙ ap well_formed (get_or-set_same xs i x no_action within) ∙ h)
    (λ (other : k ≢ i). ap well_formed (get_or-set_other xs i k x no_action other) ∙ f k (omega arith))
    (cases_eq k i)

pub paired_set : (xs : List Action) (i : ℕ) (x : Action) (marked : ℕ → ℕ → Bool) → Paired xs marked → i < length xs → x.kind ≡ (get_or xs i no_action).kind → Paired (set xs i x) marked
paired_set xs i x marked p within same_kind a b m = pair_like xs (set xs i x) a b (same a) (same b) (p a b m)
  where
    same : (k : ℕ) → (get_or (set xs i x) k no_action).kind ≡ (get_or xs k no_action).kind
    same k =
        ⊎_elim
        (λ (here : k ≡ i). ap (λ (j : ℕ). (get_or (set xs i x) j no_action).kind) here ∙ ap (λ (y : Action). y.kind) (get_or-set_same xs i x no_action within) ∙ same_kind ∙ ap (λ (j : ℕ). (get_or xs j no_action).kind) (sym here))
        (λ (other : k ≢ i). ap (λ (y : Action). y.kind) (get_or-set_other xs i k x no_action other))
        (cases_eq k i)

-- a mark on a pair, or none

pub pair_swap : (xs : List Action) (a b : ℕ) → can_pair xs a b ≡ true → can_pair xs b a ≡ true
pair_swap xs a b h = let p = pair_parts xs a b h in and_from _ _ (ap not (eqb_sym b a) ∙ p.0) (and_from _ _ p.1.1 p.1.0)
  where
    eqb_sym : (m n : ℕ) → eqb m n ≡ eqb n m
    eqb_sym m n = grind (arith, nat_tests)

pub paired_mark : (xs : List Action) (a b : ℕ) (mark : Bool) (marked : ℕ → ℕ → Bool) → Paired xs marked → can_pair xs a b ≡ true → Paired xs (λ x y. cond (same_pair a b x y) mark (marked x y))
paired_mark xs a b mark marked p h x y m =
    ⊎_elim
    (λ (same : same_pair a b x y ≡ true). ⊎_elim (λ straight. as_is (and_parts _ _ straight)) (λ crossed. swapped (and_parts _ _ crossed)) (or_cases _ _ same))
    (λ (other : same_pair a b x y ≡ false). p x y (ap (λ (t : Bool). cond t mark (marked x y)) (sym other) ∙ m))
    (cases_Bool (same_pair a b x y))
  where
    as_is : (eqb x a ≡ true) × (eqb y b ≡ true) → can_pair xs x y ≡ true
    as_is e = (λ i. can_pair xs (eqb-true x a e.0 i) (eqb-true y b e.1 i)) ∙ h

    swapped : (eqb x b ≡ true) × (eqb y a ≡ true) → can_pair xs x y ≡ true
    swapped e = (λ i. can_pair xs (eqb-true x b e.0 i) (eqb-true y a e.1 i)) ∙ pair_swap xs a b h

-- an action that is not entered is in no marked pair
pub not_entered_unmarked : (xs : List Action) (marked : ℕ → ℕ → Bool) (a b : ℕ) → Paired xs marked → (length xs ≤ a) ⊎ (length xs ≤ b) → marked a b ≡ false
not_entered_unmarked xs marked a b p past =
    ⊎_elim
    (λ (m : marked a b ≡ true).
    let parts = (pair_parts xs a b (p a b m)).1 in
    absurd (⊎_elim (λ (h : length xs ≤ a). omega (arith, variable_entered xs a parts.0)) (λ (h : length xs ≤ b). omega (arith, variable_entered xs b parts.1)) past))
    (λ (m : marked a b ≡ false). m)
    (cases_Bool (marked a b))

-- a variable action with another category
pub well_formed_recast : (x : Action) (c : Category) → is_variable x.kind ≡ true → well_formed x ≡ true → well_formed (with_category c x) ≡ true
well_formed_recast x c v h = and_from _ _ (ap (λ (t : Bool). agree t true) v) (and_parts _ _ h).1
