-- The entries of a sheet by number and by place.
use Rattle.std.proofs.Common.{◌≡◌, ℕ, zero, suc, ◌+◌, ◌^◌, ◌<◌, ◌≤◌, Bool, true, false, cond, T, List, [], ◌∷◌, map, length, get_or, fold, sym, refl, ap, ◌∙◌, inl, inr, add-zero, zero-add, arith}
use native.Mathlib.Nat.{two-pow-succ}
use Rattle.std.proofs.lemmas.List.{get_or-map}
use Rattle.std.proofs.lemmas.List.Sums.{sum_by-cons}
use Rattle.std.proofs.ByRecursion.{All-get_or, All-from_get_or, All-weaker}
use Rattle.std.proofs.lemmas.Bool.{cases_Bool}
use Rattle.std.specs.List.{AllByRecursion as All}
use Rattle.basis.specs.Vocabulary.{is_variable}
use Rattle.sheet.specs.declared.action.Action.{Action}
use Rattle.sheet.specs.Content.{Content, action_at}
use Rattle.sheet.specs.Limits.{no_action, parts_in}
use Rattle.envelope.specs.Places.{places}
use Rattle.envelope.specs.declared.entry.Entry.{Entry}
use Rattle.envelope.specs.Entries.{entries_from, entries, nowhere, has}
use Rattle.envelope.proofs.Bits.{has_more}

pub entries_length : (i k p : ℕ) (list : List Action) → length (entries_from i k p list) ≡ length list
entries_length i k p [] = refl
entries_length i k p (a ∷ rest) = ap suc (entries_length (i + 1) (k + cond (is_variable a.kind) 1 0) (p + a.parts) rest)

pub entry_number : (i k p : ℕ) (list : List Action) (j : ℕ) → j < length list → (get_or (entries_from i k p list) j nowhere).number ≡ i + j
entry_number i k p [] j l = absurd (omega arith)
entry_number i k p (a ∷ rest) zero l = sym (add-zero i)
entry_number i k p (a ∷ rest) (suc j) l = entry_number (i + 1) (k + cond (is_variable a.kind) 1 0) (p + a.parts) rest j (omega arith) ∙ omega arith

pub entry_action : (i k p : ℕ) (list : List Action) (j : ℕ) → j < length list → (get_or (entries_from i k p list) j nowhere).action ≡ get_or list j no_action
entry_action i k p [] j l = absurd (omega arith)
entry_action i k p (a ∷ rest) zero l = refl
entry_action i k p (a ∷ rest) (suc j) l = entry_action (i + 1) (k + cond (is_variable a.kind) 1 0) (p + a.parts) rest j (omega arith)

-- the parts of an action end within the parts of the sheet
pub entry_parts : (i k p : ℕ) (list : List Action) → All (λ e. e.first + e.action.parts ≤ p + parts_in list) (entries_from i k p list)
entry_parts i k p [] = tt
entry_parts i k p (a ∷ rest) =
    let s : parts_in (a ∷ rest) ≡ a.parts + parts_in rest = sum_by-cons (λ (x : Action). x.parts) a rest in
    (omega arith, All-weaker _ _ (λ e h. omega arith) (entries_from (i + 1) (k + cond (is_variable a.kind) 1 0) (p + a.parts) rest) (entry_parts (i + 1) (k + cond (is_variable a.kind) 1 0) (p + a.parts) rest))

pub places_length : {A : Type 0} (n : ℕ) (vs : List A) (z : A) → length (places n vs z) ≡ n
places_length zero vs z = refl
places_length (suc n) [] z = ap suc (places_length n [] z)
places_length (suc n) (v ∷ vs) z = ap suc (places_length n vs z)

pub places_at : (n : ℕ) (vs : List ℕ) (i : ℕ) → i < n → get_or (places n vs 0) i 0 ≡ get_or vs i 0
places_at zero vs i l = absurd (omega arith)
places_at (suc n) [] zero l = refl
places_at (suc n) [] (suc i) l = places_at n [] i (omega arith)
places_at (suc n) (v ∷ vs) zero l = refl
places_at (suc n) (v ∷ vs) (suc i) l = places_at n vs i (omega arith)

module _ (s : Content) where
  -- the entry of an action's number
  abbrev pub entry_at : ℕ → Entry
  entry_at i = get_or (entries s) i nowhere

  pub at_number : (i : ℕ) → i < length s.actions → (entry_at i).number ≡ i
  at_number i l = entry_number 0 0 0 s.actions i l ∙ zero-add i

  pub at_action : (i : ℕ) → i < length s.actions → (entry_at i).action ≡ action_at s i
  at_action i l = entry_action 0 0 0 s.actions i l

  pub of_number : (P : Entry → Type 0) (i : ℕ) → i < length s.actions → All P (entries s) → P (entry_at i)
  of_number P i l each = All-get_or P (entries s) i nowhere (rw (entries_length 0 0 0 s.actions) l) each

  pub each_number : (P : Entry → Type 0) → ((i : ℕ) → i < length s.actions → P (entry_at i)) → All P (entries s)
  each_number P at = All-from_get_or P (entries s) nowhere (λ i l. at i (rw (entries_length 0 0 0 s.actions) at l))

  -- an entry's number is an action's, and its action is the one of that number
  pub record Numbered (e : Entry) : Type 0 where
    pub within : e.number < length s.actions
    pub action : e.action ≡ action_at s e.number
    pub same : entry_at e.number ≡ e

  pub numbered : All Numbered (entries s)
  numbered = each_number Numbered (λ i l.
      let n = at_number i l in
      record {
        within = rw n l;
        action = at_action i l ∙ ap (action_at s) (sym n);
        same = ap entry_at n;
      })

  -- a value for each entry, looked up by number
  pub looked_up : (g : Entry → ℕ) → length s.actions ≤ 32 → All (λ e. get_or (places 32 (map g (entries s)) 0) e.number 0 ≡ g e) (entries s)
  looked_up g few = each_number (λ e. get_or (places 32 (map g (entries s)) 0) e.number 0 ≡ g e) (λ i l.
      let n = at_number i l in
      let m : i < length (entries s) = rw (entries_length 0 0 0 s.actions) l in
      ap (λ j. get_or (places 32 (map g (entries s)) 0) j 0) n ∙ places_at 32 (map g (entries s)) i (omega arith) ∙ get_or-map g (entries s) i nowhere 0 m)

-- 2^k for each variable action that a test takes
abbrev pub sum_of : (Entry → Bool) → ℕ → List Entry → ℕ
sum_of test start list = fold (λ a e. a + cond (test e) (2 ^ e.place) 0) start list

more_below : (start k : ℕ) (t : Bool) → start < 2 ^ k → start + cond t (2 ^ k) 0 < 2 ^ (k + 1)
more_below start k true h = omega (arith, two-pow-succ k, ap (λ n. 2 ^ n) (native.Mathlib.Numerals.add-one k))
more_below start k false h = omega (arith, two-pow-succ k, ap (λ n. 2 ^ n) (native.Mathlib.Numerals.add-one k))

-- its bits are those at the start, and then the test of the variable action at each place
pub record BitsOf (test : Entry → Bool) (start i k p : ℕ) (list : List Action) : Type 0 where
  pub before : (j : ℕ) → j < k → has (sum_of test start (entries_from i k p list)) j ≡ has start j
  pub each : All (λ e. T (is_variable e.action.kind) → has (sum_of test start (entries_from i k p list)) e.place ≡ test e) (entries_from i k p list)

pub bits_of : (test : Entry → Bool) (start i k p : ℕ) (list : List Action) → start < 2 ^ k → All (λ e. is_variable e.action.kind ≡ false → test e ≡ false) (entries_from i k p list) → BitsOf test start i k p list
bits_of test start i k p [] low off = record { before = λ j l. refl; each = tt }
bits_of test start i k p (a ∷ rest) low (off, offs) =
    let e : Entry = record { number = i; place = k; first = p; action = a } in
    let k' : ℕ = k + cond (is_variable a.kind) 1 0 in
    let start' : ℕ = start + cond (test e) (2 ^ k) 0 in
    elim (cases_Bool (is_variable a.kind)) [
      | inl v ↦
          let kv : k' ≡ k + 1 = ap (λ t. k + cond t 1 0) v in
          let low' : start' < 2 ^ k' = rw kv (more_below start k (test e) low) in
          let rest_bits = bits_of test start' (i + 1) k' (p + a.parts) rest low' offs in
          record {
            before = λ j l. rest_bits.before j (omega arith) ∙ (has_more start k j (test e) low (omega arith)).0 l;
            each = (λ _. rest_bits.before k (omega arith) ∙ (has_more start k k (test e) low (omega arith)).1 refl, rest_bits.each);
          }
      | inr v ↦
          let kv : k' ≡ k + 0 = ap (λ t. k + cond t 1 0) v in
          let same : start' ≡ start = ap (λ t. start + cond t (2 ^ k) 0) (off v) ∙ add-zero start in
          let kk : k' ≡ k = kv ∙ add-zero k in
          let low' : start' < 2 ^ k' = rw (same, kk) low in
          let rest_bits = bits_of test start' (i + 1) k' (p + a.parts) rest low' offs in
          record {
            before = λ j l. rest_bits.before j (omega arith) ∙ ap (λ m. has m j) same;
            each = (λ t. absurd (rw v at t), rest_bits.each);
          }
    ]
