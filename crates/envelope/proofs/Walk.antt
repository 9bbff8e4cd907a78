-- The entries of a sheet taken one after the other, for the places of the variable actions and for the numbers of all.
use Rattle.std.proofs.Common.{◌≡◌, ℕ, zero, suc, ◌+◌, ◌<◌, ◌≤◌, Bool, true, false, cond, List, [], ◌∷◌, ◌++◌, map, length, get_or, take, set, count_by, filter, sym, refl, ap, ◌∙◌, zero-add, arith}
use Rattle.std.proofs.lemmas.List.{take_all, length-take-le, length-map, map_push, map_more, append-nil}
use Rattle.std.proofs.lemmas.List.Elements.{filter_more}
use Rattle.std.proofs.lemmas.List.Sums.{sum_by-cons, sum_by_more, sum_by-take-le, length-filter}
use Rattle.basis.specs.Vocabulary.{is_variable}
use Rattle.sheet.specs.declared.action.Action.{Action}
use Rattle.sheet.specs.Content.{Content}
use Rattle.sheet.specs.Limits.{no_action, variables}
use Rattle.envelope.specs.Places.{places}
use Rattle.envelope.specs.declared.entry.Entry.{Entry}
use Rattle.envelope.specs.Entries.{entries_from, entries, nowhere}
use Rattle.envelope.proofs.Variables.{varies}
use Rattle.envelope.proofs.Numbering.{entries_length}
use Rattle.envelope.proofs.LaidOut.{places_more, entry_is}

-- as many variable entries as variable actions
entries_variables : (i k p : ℕ) (list : List Action) (j : ℕ) → count_by varies (take j (entries_from i k p list)) ≡ variables (take j list)
entries_variables i k p list zero = refl
entries_variables i k p [] (suc j) = refl
entries_variables i k p (a ∷ rest) (suc j) =
    let k' : ℕ = k + cond (is_variable a.kind) 1 0 in
    let e : Entry = record { number = i; place = k; first = p; action = a } in
    sum_by-cons (λ (d : Entry). cond (varies d) 1 0) e (take j (entries_from (i + 1) k' (p + a.parts) rest))
    ∙ ap (λ (m : ℕ). cond (is_variable a.kind) 1 0 + m) (entries_variables (i + 1) k' (p + a.parts) rest j)
    ∙ sym (sum_by-cons (λ (x : Action). cond (is_variable x.kind) 1 0) a (take j rest))

module _ (s : Content) (list : List Entry) (is : list ≡ entries s) where
  pub as_many : length list ≡ length s.actions
  as_many = ap length is ∙ entries_length 0 0 0 s.actions

  module _ (i : ℕ) (l : i < length list) where
    within : i < length s.actions
    within = omega (arith, as_many)

    pub number_at : (get_or list i nowhere).number ≡ i
    number_at = ap (λ (xs : List Entry). (get_or xs i nowhere).number) is ∙ ap (λ (e : Entry). e.number) (entry_is 0 0 0 s.actions i within) ∙ zero-add i

    pub place_at : (get_or list i nowhere).place ≡ variables (take i s.actions)
    place_at = ap (λ (xs : List Entry). (get_or xs i nowhere).place) is ∙ ap (λ (e : Entry). e.place) (entry_is 0 0 0 s.actions i within) ∙ zero-add (variables (take i s.actions))

    pub action_of : (get_or list i nowhere).action ≡ get_or s.actions i no_action
    action_of = ap (λ (xs : List Entry). (get_or xs i nowhere).action) is ∙ ap (λ (e : Entry). e.action) (entry_is 0 0 0 s.actions i within)

    more_variables : variables (take i s.actions) + cond (varies (get_or list i nowhere)) 1 0 ≤ variables s.actions
    more_variables =
        let v : ◌≡◌ {A = ℕ} (cond (varies (get_or list i nowhere)) 1 0) (cond (is_variable (get_or s.actions i no_action).kind) 1 0) = ap (λ (a : Action). cond (is_variable a.kind) 1 0) action_of in
        let m : variables (take (i + 1) s.actions) ≡ variables (take i s.actions) + cond (is_variable (get_or s.actions i no_action).kind) 1 0 = sum_by_more (λ (x : Action). cond (is_variable x.kind) 1 0) s.actions i no_action within in
        let t : variables (take (i + 1) s.actions) ≤ variables s.actions = sum_by-take-le (λ (x : Action). cond (is_variable x.kind) 1 0) s.actions (i + 1) in
        omega arith

    -- a place is at most 12, that of a variable action below
    pub place_most : variables s.actions ≤ 12 → (get_or list i nowhere).place ≤ 12
    place_most few = omega (arith, place_at, more_variables)

    pub place_below : variables s.actions ≤ 12 → varies (get_or list i nowhere) ≡ true → (get_or list i nowhere).place < 12
    place_below few v =
        let one : ◌≡◌ {A = ℕ} (cond (varies (get_or list i nowhere)) 1 0) 1 = ap (λ (b : Bool). cond b 1 0) v in
        omega (arith, place_at, more_variables)

  kept_at : (i : ℕ) → length (filter varies (take i list)) ≡ variables (take i s.actions)
  kept_at i = length-filter varies (take i list) ∙ ap (λ (xs : List Entry). count_by varies (take i xs)) is ∙ entries_variables 0 0 0 s.actions i

-- what stands at the places after the first i entries
abbrev pub Placed : {B : Type 0} → (Entry → B) → B → List Entry → ℕ → List B → Type 0
Placed f z list i out = out ≡ places 12 (map f (filter varies (take i list))) z

-- what stands at the numbers after the first i entries
abbrev pub NumberedSo : {B : Type 0} → (Entry → B) → B → List Entry → ℕ → List B → Type 0
NumberedSo f z list i out = out ≡ places 32 (map f (take i list)) z

module _ {B : Type 0} (f : Entry → B) (z : B) (s : Content) (list : List Entry) (is : list ≡ entries s) (i : ℕ) (out : List B) where
  pub placed_yes : variables s.actions ≤ 12 → i < length list → varies (get_or list i nowhere) ≡ true → (b : B) → b ≡ f (get_or list i nowhere) → Placed f z list i out
      → Placed f z list (i + 1) (set out (get_or list i nowhere).place b)
  placed_yes few l v b value so =
      let e = get_or list i nowhere in
      let kept = filter varies (take i list) in
      let n : length (map f kept) ≡ e.place = length-map kept f ∙ kept_at s list is i ∙ sym (place_at s list is i l) in
      let more : filter varies (take (i + 1) list) ≡ kept ++ e ∷ [] = filter_more varies list i nowhere l ∙ ap (λ (t : Bool). kept ++ cond t (e ∷ []) []) v in
      ap (λ (ws : List B). set ws e.place b) so
      ∙ places_more 12 (map f kept) z b e.place n (place_below s list is i l few v)
      ∙ ap (λ (x : B). places 12 (map f kept ++ x ∷ []) z) value
      ∙ ap (λ (ws : List B). places 12 ws z) (sym (map_push f kept e))
      ∙ ap (λ (es : List Entry). places 12 (map f es) z) (sym more)

  pub placed_no : i < length list → varies (get_or list i nowhere) ≡ false → Placed f z list i out → Placed f z list (i + 1) out
  placed_no l v so =
      let e = get_or list i nowhere in
      let kept = filter varies (take i list) in
      let same : filter varies (take (i + 1) list) ≡ kept = filter_more varies list i nowhere l ∙ ap (λ (t : Bool). kept ++ cond t (e ∷ []) []) v ∙ append-nil kept in
      so ∙ ap (λ (es : List Entry). places 12 (map f es) z) (sym same)

  pub placed_all : length list ≤ i → Placed f z list i out → out ≡ places 12 (map f (filter varies (entries s))) z
  placed_all l so = so ∙ ap (λ (es : List Entry). places 12 (map f (filter varies es)) z) (take_all i list l ∙ is)

  pub numbered_more : length s.actions ≤ 32 → i < length list → (b : B) → b ≡ f (get_or list i nowhere) → NumberedSo f z list i out
      → NumberedSo f z list (i + 1) (set out (get_or list i nowhere).number b)
  numbered_more few l b value so =
      let at = number_at s list is i l in
      let n : length (map f (take i list)) ≡ (get_or list i nowhere).number = length-map (take i list) f ∙ length-take-le i list (omega arith) ∙ sym at in
      ap (λ (ws : List B). set ws (get_or list i nowhere).number b) so
      ∙ places_more 32 (map f (take i list)) z b (get_or list i nowhere).number n (omega (arith, as_many s list is))
      ∙ ap (λ (x : B). places 32 (map f (take i list) ++ x ∷ []) z) value
      ∙ ap (λ (ws : List B). places 32 ws z) (sym (map_more f list i nowhere l))

  pub numbered_all : length list ≤ i → NumberedSo f z list i out → out ≡ places 32 (map f (entries s)) z
  numbered_all l so = so ∙ ap (λ (es : List Entry). places 32 (map f es) z) (take_all i list l ∙ is)
