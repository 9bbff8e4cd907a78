-- The table of marks as a relation.
use Rattle.std.proofs.Common.{◌≡◌, ℕ, zero, suc, ◌<◌, min, max, Bool, false, cond, ◌&&◌, eqb, List, [], length, get_or, set, replicate, sym, refl, ap, ◌∙◌, arith}
use Rattle.std.proofs.lemmas.List.{get_or-set_same, get_or-set_other}
use Rattle.std.proofs.lemmas.Bool.Decides.{nat_tests}
use Rattle.sheet.specs.declared.action.Action.{Action}
use Rattle.sheet.specs.Limits.{marked_in}
use Rattle.sheet.specs.Content.{Content, same_pair}

-- sheets with the same actions and marks are the same
pub same_content : {xs ys : List Action} {m n : ℕ → ℕ → Bool} → xs ≡ ys → ((a b : ℕ) → m a b ≡ n a b) → ◌≡◌ {A = Content} (record { actions = xs; marked = m }) (record { actions = ys; marked = n })
same_content e h = λ i. record { actions = e i; marked = λ a b. h a b i }

none_in_row : (n b : ℕ) → get_or (replicate n false) b false ≡ false
none_in_row zero b = refl
none_in_row (suc n) zero = refl
none_in_row (suc n) (suc b) = none_in_row n b

none_in_rows : (n m a b : ℕ) → get_or (get_or (replicate n (replicate m false)) a []) b false ≡ false
none_in_rows zero m a b = refl
none_in_rows (suc n) m zero b = none_in_row m b
none_in_rows (suc n) m (suc a) b = none_in_rows n m a b

-- a new table has no mark
pub none_marked : (a b : ℕ) → marked_in (replicate 32 (replicate 32 false)) a b ≡ false
none_marked a b = none_in_rows 32 32 (min a b) (max a b)

-- either order is one pair: the lower numbers agree and the higher numbers agree
pair_by_order : (a b x y : ℕ) → same_pair a b x y ≡ (eqb (min x y) (min a b) && eqb (max x y) (max a b))
pair_by_order a b x y = grind (arith, nat_tests)

table_set : (rows : List (List Bool)) (i j p q : ℕ) (on : Bool) → i < length rows → j < length (get_or rows i []) → get_or (get_or (set rows i (set (get_or rows i []) j on)) p []) q false ≡ cond (eqb p i && eqb q j) on (get_or (get_or rows p []) q false)
table_set rows i j p q on hi hj = grind (arith, nat_tests, get_or-set_same, get_or-set_other)

-- writing at the row of the lower number and the column of the higher changes the mark of that pair and of no other
pub mark_set : (rows : List (List Bool)) (a b : ℕ) (on : Bool) → min a b < length rows → max a b < length (get_or rows (min a b) []) → (x y : ℕ) → marked_in (set rows (min a b) (set (get_or rows (min a b) []) (max a b) on)) x y ≡ cond (same_pair a b x y) on (marked_in rows x y)
mark_set rows a b on hi hj x y =
    table_set rows (min a b) (max a b) (min x y) (max x y) on hi hj ∙ ap (λ (t : Bool). cond t on (marked_in rows x y)) (sym (pair_by_order a b x y))

-- either order has the same mark
pub marks_symmetric : (rows : List (List Bool)) (a b : ℕ) → marked_in rows a b ≡ marked_in rows b a
marks_symmetric rows a b = λ i. get_or (get_or rows (min_comm a b i) []) (max_comm a b i) false
  where
    min_comm : (m n : ℕ) → min m n ≡ min n m
    min_comm m n = omega arith

    max_comm : (m n : ℕ) → max m n ≡ max n m
    max_comm m n = omega arith
