-- The entries of a sheet as they are laid out, one after the other.
use Rattle.std.proofs.Common.{◌≡◌, ℕ, zero, suc, ◌+◌, ◌<◌, ◌≤◌, cond, List, [], ◌∷◌, ◌++◌, length, get_or, take, set, sym, refl, ap, ◌∙◌, subst, add-zero, zero-add, arith}
use Rattle.std.proofs.lemmas.List.{take_more, take_all, length-take-le}
use Rattle.std.proofs.lemmas.List.Sums.{sum_by-cons, sum_by_more, sum_by-take-le}
use Rattle.basis.specs.Vocabulary.{is_variable}
use Rattle.sheet.specs.declared.action.Action.{Action}
use Rattle.sheet.specs.Content.{Content}
use Rattle.sheet.specs.Limits.{no_action, parts_in, variables}
use Rattle.envelope.specs.Places.{places}
use Rattle.envelope.specs.declared.entry.Entry.{Entry}
use Rattle.envelope.specs.Entries.{entries_from, entries, nowhere}
use Rattle.envelope.proofs.Numbering.{entries_length}

-- the values alone
pub take_places : {A : Type 0} (n : ℕ) (vs : List A) (z : A) → length vs ≤ n → take (length vs) (places n vs z) ≡ vs
take_places zero [] z h = refl
take_places zero (v ∷ vs) z h = absurd (omega arith)
take_places (suc n) [] z h = refl
take_places (suc n) (v ∷ vs) z h = ap (λ ws. v ∷ ws) (take_places n vs z (omega arith))

-- one value more
pub places_more : {A : Type 0} (n : ℕ) (vs : List A) (z v : A) (i : ℕ) → length vs ≡ i → i < n → set (places n vs z) i v ≡ places n (vs ++ v ∷ []) z
places_more zero vs z v i e h = absurd (omega arith)
places_more (suc n) [] z v zero e h = refl
places_more (suc n) [] z v (suc i) e h = absurd (omega arith)
places_more (suc n) (w ∷ vs) z v zero e h = absurd (omega arith)
places_more (suc n) (w ∷ vs) z v (suc i) e h = ap (λ ws. w ∷ ws) (places_more n vs z v i (omega arith) (omega arith))

abbrev pub entry_of : ℕ → ℕ → ℕ → Action → Entry
entry_of i k p a = record { number = i; place = k; first = p; action = a }

-- an entry's place and first part count the variable actions and the parts before it
pub entry_is : (i k p : ℕ) (list : List Action) (j : ℕ) → j < length list
    → get_or (entries_from i k p list) j nowhere ≡ entry_of (i + j) (k + variables (take j list)) (p + parts_in (take j list)) (get_or list j no_action)
entry_is i k p [] j l = absurd (omega arith)
entry_is i k p (a ∷ rest) zero l = λ t. entry_of (sym (add-zero i) t) (sym (add-zero k) t) (sym (add-zero p) t) a
entry_is i k p (a ∷ rest) (suc j) l =
    let v : variables (a ∷ take j rest) ≡ cond (is_variable a.kind) 1 0 + variables (take j rest) = sum_by-cons (λ (x : Action). cond (is_variable x.kind) 1 0) a (take j rest) in
    let q : parts_in (a ∷ take j rest) ≡ a.parts + parts_in (take j rest) = sum_by-cons (λ (x : Action). x.parts) a (take j rest) in
    let n : (i + 1) + j ≡ i + suc j = omega arith in
    let m : (k + cond (is_variable a.kind) 1 0) + variables (take j rest) ≡ k + variables (a ∷ take j rest) = omega arith in
    let f : (p + a.parts) + parts_in (take j rest) ≡ p + parts_in (a ∷ take j rest) = omega arith in
    entry_is (i + 1) (k + cond (is_variable a.kind) 1 0) (p + a.parts) rest j (omega arith) ∙ (λ t. entry_of (n t) (m t) (f t) (get_or rest j no_action))

-- one action more is laid out
pub laid_more : (list : List Action) (i place first : ℕ) (slots : List Entry) → i < length list → length list ≤ 32
    → place ≡ variables (take i list) → first ≡ parts_in (take i list) → slots ≡ places 32 (take i (entries_from 0 0 0 list)) nowhere
    → set slots i (entry_of i place first (get_or list i no_action)) ≡ places 32 (take (i + 1) (entries_from 0 0 0 list)) nowhere
laid_more list i place first slots l few ep ef es =
    let all = entries_from 0 0 0 list in
    let n : length all ≡ length list = entries_length 0 0 0 list in
    let within : i < length all = omega arith in
    let a = get_or list i no_action in
    let is : entry_of i place first a ≡ get_or all i nowhere =
    (λ t. entry_of (sym (zero-add i) t) ((ep ∙ sym (zero-add (variables (take i list)))) t) ((ef ∙ sym (zero-add (parts_in (take i list)))) t) a) ∙ sym (entry_is 0 0 0 list i l) in
    ap (λ (ws : List Entry). set ws i (entry_of i place first a)) es
    ∙ places_more 32 (take i all) nowhere (entry_of i place first a) i (length-take-le i all (omega arith)) (omega arith)
    ∙ ap (λ (e : Entry). places 32 (take i all ++ e ∷ []) nowhere) is
    ∙ ap (λ (ws : List Entry). places 32 ws nowhere) (sym (take_more all i nowhere within))

-- the counters and the slots after the first i actions
pub record Laid (list : List Action) (i place first : ℕ) (slots : List Entry) : Type 0 where
  pub places_so : place ≡ variables (take i list)
  pub parts_so : first ≡ parts_in (take i list)
  pub slots_so : slots ≡ places 32 (take i (entries_from 0 0 0 list)) nowhere

-- each action in its turn, read from items
pub laid_turn : (list items : List Action) (i place then_place first : ℕ) (slots : List Entry) → items ≡ list → i < length items → length list ≤ 32
    → then_place ≡ place + cond (is_variable (get_or items i no_action).kind) 1 0 → Laid list i place first slots
    → Laid list (i + 1) then_place (first + (get_or items i no_action).parts) (set slots i (entry_of i place first (get_or items i no_action)))
laid_turn list items i place then_place first slots same l few next laid =
    let here : get_or items i no_action ≡ get_or list i no_action = ap (λ (xs : List Action). get_or xs i no_action) same in
    let within : i < length list = subst (λ (xs : List Action). i < length xs) same l in
    let v : ◌≡◌ {A = ℕ} (cond (is_variable (get_or items i no_action).kind) 1 0) (cond (is_variable (get_or list i no_action).kind) 1 0) = ap (λ (a : Action). cond (is_variable a.kind) 1 0) here in
    let q : (get_or items i no_action).parts ≡ (get_or list i no_action).parts = ap (λ (a : Action). a.parts) here in
    let p = laid.places_so in
    let f = laid.parts_so in
    record {
      places_so = omega (arith, sum_by_more (λ (x : Action). cond (is_variable x.kind) 1 0) list i no_action within);
      parts_so = omega (arith, sum_by_more (λ (x : Action). x.parts) list i no_action within);
      slots_so = ap (λ (a : Action). set slots i (entry_of i place first a)) here ∙ laid_more list i place first slots within few p f laid.slots_so;
    }

-- all of them
pub laid_all : (list items : List Action) (i place first : ℕ) (slots : List Entry) → items ≡ list → length items ≤ i → Laid list i place first slots → slots ≡ places 32 (entries_from 0 0 0 list) nowhere
laid_all list items i place first slots same l laid =
    let n : length (entries_from 0 0 0 list) ≡ length list = entries_length 0 0 0 list in
    let m : length items ≡ length list = ap length same in
    laid.slots_so ∙ ap (λ (ws : List Entry). places 32 ws nowhere) (take_all i (entries_from 0 0 0 list) (omega arith))

-- the slots of the actions alone are the entries
pub laid_entries : (s : Content) (slots : List Entry) → length s.actions ≤ 32 → slots ≡ places 32 (entries s) nowhere → take (length s.actions) slots ≡ entries s
laid_entries s slots few is =
    let n : length (entries s) ≡ length s.actions = entries_length 0 0 0 s.actions in
    ap (take (length s.actions)) is ∙ ap (λ (k : ℕ). take k (places 32 (entries s) nowhere)) (sym n) ∙ take_places 32 (entries s) nowhere (omega arith)

-- the counters stay small
pub few_variables : (list : List Action) (i : ℕ) → variables (take i list) ≤ variables list
few_variables list i = sum_by-take-le (λ (x : Action). cond (is_variable x.kind) 1 0) list i

pub few_parts : (list items : List Action) (i : ℕ) → items ≡ list → i < length items → parts_in (take i list) + (get_or items i no_action).parts ≤ parts_in list
few_parts list items i same l =
    let within : i < length list = subst (λ (xs : List Action). i < length xs) same l in
    let q : (get_or items i no_action).parts ≡ (get_or list i no_action).parts = ap (λ (xs : List Action). (get_or xs i no_action).parts) same in
    omega (arith, sum_by_more (λ (x : Action). x.parts) list i no_action within, sum_by-take-le (λ (x : Action). x.parts) list (i + 1))
