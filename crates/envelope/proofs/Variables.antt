-- The variable actions of a sheet by place.
use Rattle.std.proofs.Common.{◌≡◌, ℕ, zero, suc, ◌+◌, ◌<◌, ◌≤◌, Bool, true, cond, List, [], ◌∷◌, length, get_or, count_by, filter, sym, refl, ap, ◌∙◌, inl, inr, add-zero, zero-add, arith}
use Rattle.std.proofs.lemmas.List.Sums.{length-filter, sum_by-cons}
use Rattle.std.proofs.ByRecursion.{All-get_or, All-weaker, all_kept_by, kept_by_passes}
use Rattle.std.proofs.lemmas.Bool.{cases_Bool}
use Rattle.std.specs.List.{AllByRecursion as All}
use Rattle.basis.specs.Vocabulary.{is_variable}
use Rattle.sheet.specs.declared.action.Action.{Action}
use Rattle.sheet.specs.Content.{Content}
use Rattle.sheet.specs.Limits.{variables}
use Rattle.envelope.specs.declared.entry.Entry.{Entry}
use Rattle.envelope.specs.Entries.{entries_from, entries, nowhere}
use Rattle.envelope.proofs.Numbering.{entry_at, entries_length, each_number}
use Rattle.envelope.proofs.Totals.{numbers_from}
use Rattle.envelope.proofs.Events.{kept_place}

abbrev pub varies : Entry → Bool
varies e = is_variable e.action.kind

abbrev pub varying_from : ℕ → ℕ → ℕ → List Action → List Entry
varying_from i k p list = filter varies (entries_from i k p list)

count_entries : (i k p : ℕ) (list : List Action) → count_by varies (entries_from i k p list) ≡ variables list
count_entries i k p [] = refl
count_entries i k p (a ∷ rest) =
    let k' : ℕ = k + cond (is_variable a.kind) 1 0 in
    sum_by-cons (λ (e : Entry). cond (varies e) 1 0) (record { number = i; place = k; first = p; action = a }) (entries_from (i + 1) k' (p + a.parts) rest)
    ∙ ap (λ m. cond (is_variable a.kind) 1 0 + m) (count_entries (i + 1) k' (p + a.parts) rest)
    ∙ sym (sum_by-cons (λ (x : Action). cond (is_variable x.kind) 1 0) a rest)

pub varying_length : (i k p : ℕ) (list : List Action) → length (varying_from i k p list) ≡ variables list
varying_length i k p list = length-filter varies (entries_from i k p list) ∙ count_entries i k p list

-- the j-th variable action has the place k + j
here_place : (e : Entry) (list : List Entry) (k : ℕ) → e.place ≡ k → ((j : ℕ) → j < length list → (get_or list j nowhere).place ≡ (k + 1) + j) → (j : ℕ) → j < length (e ∷ list) → (get_or (e ∷ list) j nowhere).place ≡ k + j
here_place e list k is rest zero l = is ∙ sym (add-zero k)
here_place e list k is rest (suc j) l = rest j (omega arith) ∙ omega arith

pub varying_place : (i k p : ℕ) (list : List Action) (j : ℕ) → j < length (varying_from i k p list) → (get_or (varying_from i k p list) j nowhere).place ≡ k + j
varying_place i k p [] j l = absurd (omega arith)
varying_place i k p (a ∷ rest) j l =
    let e : Entry = record { number = i; place = k; first = p; action = a } in
    elim (cases_Bool (is_variable a.kind)) [
      | inl v ↦ rw v (here_place e (varying_from (i + 1) (k + 1) (p + a.parts) rest) k refl (varying_place (i + 1) (k + 1) (p + a.parts) rest) j (rw v at l))
      | inr v ↦ rw v (varying_place (i + 1) (k + 0) (p + a.parts) rest j (rw v at l) ∙ omega arith)
    ]

-- their numbers ascend
here_number : (e : Entry) (list : List Entry) → All (λ d. e.number < d.number) list → ((j m : ℕ) → j < m → m < length list → (get_or list j nowhere).number < (get_or list m nowhere).number) → (j m : ℕ) → j < m → m < length (e ∷ list) → (get_or (e ∷ list) j nowhere).number < (get_or (e ∷ list) m nowhere).number
here_number e list above rest j zero l h = absurd (omega arith)
here_number e list above rest zero (suc m) l h = All-get_or (λ d. e.number < d.number) list m nowhere (omega arith) above
here_number e list above rest (suc j) (suc m) l h = rest j m (omega arith) (omega arith)

pub varying_ascends : (i k p : ℕ) (list : List Action) (j m : ℕ) → j < m → m < length (varying_from i k p list) → (get_or (varying_from i k p list) j nowhere).number < (get_or (varying_from i k p list) m nowhere).number
varying_ascends i k p [] j m l h = absurd (omega arith)
varying_ascends i k p (a ∷ rest) j m l h =
    let e : Entry = record { number = i; place = k; first = p; action = a } in
    let others : (q : ℕ) → All (λ d. i < d.number) (varying_from (i + 1) q (p + a.parts) rest) =
    λ q. all_kept_by varies (λ d. i < d.number) (entries_from (i + 1) q (p + a.parts) rest) (All-weaker (λ d. i + 1 ≤ d.number) (λ d. i < d.number) (λ d w. omega arith) (entries_from (i + 1) q (p + a.parts) rest) (numbers_from (i + 1) q (p + a.parts) rest)) in
    elim (cases_Bool (is_variable a.kind)) [
      | inl v ↦ rw v (here_number e (varying_from (i + 1) (k + 1) (p + a.parts) rest) (others (k + 1)) (varying_ascends (i + 1) (k + 1) (p + a.parts) rest) j m l (rw v at h))
      | inr v ↦ rw v (varying_ascends (i + 1) (k + 0) (p + a.parts) rest j m l (rw v at h))
    ]

module _ (s : Content) where
  -- the variable actions, in order
  abbrev pub varying : List Entry
  varying = filter varies (entries s)

  -- the variable action at a place
  abbrev pub at_place : ℕ → Entry
  at_place j = get_or varying j nowhere

  pub places_of : length varying ≡ variables s.actions
  places_of = varying_length 0 0 0 s.actions

  pub place_is : (j : ℕ) → j < variables s.actions → (at_place j).place ≡ j
  place_is j l = varying_place 0 0 0 s.actions j (rw places_of l) ∙ zero-add j

  pub number_ascends : (j m : ℕ) → j < m → m < variables s.actions → (at_place j).number < (at_place m).number
  number_ascends j m l h = varying_ascends 0 0 0 s.actions j m l (rw places_of h)

  pub of_place : (P : Entry → Type 0) → All P (entries s) → (j : ℕ) → j < variables s.actions → P (at_place j)
  of_place P each j l = All-get_or P varying j nowhere (rw places_of l) (all_kept_by varies P (entries s) each)

  pub varies_at : (j : ℕ) → j < variables s.actions → varies (at_place j) ≡ true
  varies_at j l = All-get_or (λ e. varies e ≡ true) varying j nowhere (rw places_of l) (kept_by_passes varies (entries s))

  -- a variable action stands at its place
  pub record Placed (e : Entry) : Type 0 where
    pub within : e.place < variables s.actions
    pub same : at_place e.place ≡ e

  pub placed : All (λ e. varies e ≡ true → Placed e) (entries s)
  placed = each_number s (λ e. varies e ≡ true → Placed e) (λ i l v.
      let k = kept_place varies (entries s) i nowhere (rw (entries_length 0 0 0 s.actions) l) v in
      let low : k.0 < variables s.actions = rw (← places_of) k.1 in
      let q : (entry_at s i).place ≡ k.0 = ap (λ (e : Entry). e.place) (sym k.2) ∙ place_is k.0 low in
      record { within = rw q low; same = ap at_place q ∙ k.2 })
