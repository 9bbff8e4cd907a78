-- What the code finds by place, and what it fills the strip with, in the words of the definitions.
use Rattle.std.proofs.Common.{◌≡◌, ℕ, zero, suc, ◌-◌, ◌^◌, ◌<◌, ◌≤◌, Bool, true, false, cond, not, ◌&&◌, eqb, List, [], ◌∷◌, ◌++◌, map, length, get_or, ℤ, None, filter, Option, sym, refl, ap, ◌∙◌, inl, inr, arith}
use lib.ListN.{length-map}
use Rattle.std.proofs.lemmas.List.{get_or-map}
use Rattle.std.proofs.lemmas.Bool.{cases_Bool}
use Rattle.std.proofs.ByRecursion.{All-weaker}
use Rattle.std.specs.List.{AllByRecursion as All}
use Rattle.basis.specs.declared.action.Kind.TheVariants.{Variable}
use Rattle.basis.specs.Vocabulary.{is_variable}
use Rattle.effects.specs.Components.{zeros, exact_multiple}
use Rattle.effects.specs.Laws.{Closed, Laws}
use Rattle.effects.specs.Lists.{zeros_multiple}
use Rattle.rulebooks.specs.Books.{Form, Book}
use Rattle.sheet.specs.Content.{Content}
use Rattle.sheet.specs.Limits.{variables}
use Rattle.envelope.specs.declared.strip.Role.TheVariants.{Leading, Accompanying}
use Rattle.envelope.specs.Places.{places}
use Rattle.envelope.specs.declared.entry.Entry.{Entry}
use Rattle.envelope.specs.Entries.{entries, parts_of, has, nowhere}
use Rattle.envelope.specs.Combinations.{weighted, at}
use Rattle.envelope.specs.Choices.{choice}
use Rattle.envelope.specs.Reported.{with_chosen, chosen_mask, kind_mask}
use Rattle.envelope.specs.Answers.{contribution, half, strip_after}
use Rattle.envelope.specs.Search.{Clear}
use Rattle.envelope.specs.Layout.{numbers_at, clash_rows, choice_set, has_choice, mask_in, role_factor, contribution_by, half_by, role_half, both_halves}
use Rattle.envelope.proofs.Bits.{has_whole, has_none}
use Rattle.envelope.proofs.Numbering.{Numbered, numbered, bits_of, looked_up, places_length}
use Rattle.envelope.proofs.Totals.{all_both}
use Rattle.envelope.proofs.Weights.{weighted_none}
use Rattle.envelope.proofs.Setting.{Setting, Own, owned}
use Rattle.envelope.proofs.Admitted.{variable_is}
use Rattle.envelope.proofs.Variables.{varies, varying, at_place, places_of, place_is, of_place, varies_at, Placed, placed}
use Rattle.envelope.proofs.Choosable.{choice_below, row_has}
use Rattle.envelope.proofs.ByPlace.{ByPlace, full_mask}
use Rattle.envelope.proofs.Contributions.{mask_same}
use Rattle.envelope.proofs.Worth.{leading, accompanying}

-- what stands at a place
pub places_get : {A : Type 0} (n : ℕ) (vs : List A) (z d : A) (i : ℕ) → i < n → i < length vs → get_or (places n vs z) i d ≡ get_or vs i d
places_get zero vs z d i l h = absurd (omega arith)
places_get (suc n) [] z d i l h = absurd (omega arith)
places_get (suc n) (v ∷ vs) z d zero l h = refl
places_get (suc n) (v ∷ vs) z d (suc i) l h = places_get n vs z d i (omega arith) (omega arith)

pub places_past : {A : Type 0} (n : ℕ) (vs : List A) (z d : A) (i : ℕ) → i < n → length vs ≤ i → get_or (places n vs z) i d ≡ z
places_past zero vs z d i l h = absurd (omega arith)
places_past (suc n) [] z d zero l h = refl
places_past (suc n) [] z d (suc i) l h = places_past n [] z d i (omega arith) (omega arith)
places_past (suc n) (v ∷ vs) z d zero l h = absurd (omega arith)
places_past (suc n) (v ∷ vs) z d (suc i) l h = places_past n vs z d i (omega arith) (omega arith)

map_same : {A B : Type 0} (f g : A → B) (list : List A) → All (λ a. f a ≡ g a) list → map f list ≡ map g list
map_same f g [] h = refl
map_same f g (a ∷ list) (h, hs) = ap (λ y. y ∷ map f list) h ∙ ap (λ ys. g a ∷ ys) (map_same f g list hs)

module _ {E : Type 0} {components : E → List ℤ} {count : ℕ} {reaches : List ℤ → List ℤ → Bool} (kind : Closed components count) (laws : Laws components count reaches)
    (s : Content) (b : Book) (xss : List (List ℤ)) (set : Setting kind laws s b xss) (few : variables s.actions ≤ 12) where
  -- the masks with every variable action present that has a choice
  abbrev pub full_masks : List ℕ
  full_masks = (with_chosen count reaches s b xss 0 None 4095).masks

  abbrev n : ℕ
  n = variables s.actions

  full_looked : All (λ e. get_or full_masks e.number 0 ≡ full_mask kind laws s b xss set e) (entries s)
  full_looked = looked_up s (chosen_mask count reaches s b xss 4095) set.short

  -- the set of places with a choice
  pub choice_low : choice_set full_masks s < 2 ^ variables s.actions
  choice_low = choice_below full_masks s

  choice_has : (j : ℕ) → j < n → has (choice_set full_masks s) j ≡ not (eqb (full_mask kind laws s b xss set (at_place s j)) 0)
  choice_has j h =
      let off : All (λ e. is_variable e.action.kind ≡ false → has_choice full_masks e ≡ false) (entries s) =
      All-weaker (Numbered s) _ (λ e m v. ap (λ (u : Bool). u && not (eqb (get_or full_masks e.number 0) 0)) v) (entries s) (numbered s) in
      let bits = (bits_of (has_choice full_masks) 0 0 0 0 s.actions (omega arith) off).each in
      ap (has (choice_set full_masks s)) (sym (place_is s j h)) ∙ of_place s _ bits j h (rw (varies_at s j h) tt)
      ∙ ap (λ (u : Bool). u && not (eqb (get_or full_masks (at_place s j).number 0) 0)) (varies_at s j h)
      ∙ ap (λ m. not (eqb m 0)) (of_place s _ full_looked j h)

  abbrev pub rows : List ℕ
  rows = clash_rows s.marked (numbers_at s)

  pub numbers_get : (j : ℕ) → j < n → get_or (numbers_at s) j 0 ≡ (at_place s j).number
  numbers_get j h =
      let l : j < length (varying s) = rw (places_of s) h in
      places_get 12 (map (λ (e : Entry). e.number) (varying s)) 0 0 j (omega arith) (omega (arith, length-map (varying s) (λ (e : Entry). e.number)))
      ∙ get_or-map (λ (e : Entry). e.number) (varying s) j nowhere 0 l

  numbers_long : length (numbers_at s) ≡ 12
  numbers_long = places_length 12 (map (λ (e : Entry). e.number) (varying s)) 0

  -- what the code finds by place
  pub by_place : ((i j : ℕ) → s.marked i j ≡ s.marked j i) → ((i : ℕ) → s.marked i i ≡ false) → ByPlace kind laws s b xss set (choice_set full_masks s) rows
  by_place symmetric irreflexive = record {
    few = few;
    low = choice_low;
    chooses = choice_has;
    rows_mean = λ i j hi hj.
        row_has s.marked (numbers_at s) i j (omega arith) (omega arith) numbers_long
        ∙ ap (λ k. s.marked k (get_or (numbers_at s) j 0)) (numbers_get i hi) ∙ ap (s.marked (at_place s i).number) (numbers_get j hj);
    symmetric = symmetric;
    irreflexive = irreflexive;
  }

  -- a contribution by the full masks is the contribution of the chosen parts
  contribution_same : (factor_of : Entry → ℕ) (e : Entry) → Own kind laws xss e → e.action.kind ≡ Variable → has 4095 e.place ≡ true → get_or full_masks e.number 0 ≡ full_mask kind laws s b xss set e
      → contribution_by count xss full_masks factor_of e ≡ contribution count reaches s b xss factor_of e
  contribution_same factor_of e own v all looked =
      let parts = parts_of xss e in
      let C = choice count reaches e.action.spread parts in
      let sum : ℕ → List ℤ = λ m. exact_multiple (factor_of e) (weighted count (λ p. cond (has m p) 1 0) parts) in
      let present : kind_mask count reaches s b xss 4095 e e.action.kind ≡ C = ap (kind_mask count reaches s b xss 4095 e) v ∙ ap (λ (t : Bool). cond t C 0) all in
      let none : sum 0 ≡ zeros count = ap (exact_multiple (factor_of e)) (weighted_none kind laws (λ p. cond (has 0 p) 1 0) parts (λ p l. ap (λ (t : Bool). cond t 1 0) (has_none p)) own.parts) ∙ zeros_multiple (factor_of e) count in
      ap sum (looked ∙ ap (λ m. cond e.action.active m 0) present) ∙ by_active e.action.active sum C (zeros count) none
    where
      by_active : (t : Bool) (sum : ℕ → List ℤ) (m : ℕ) (z : List ℤ) → sum 0 ≡ z → sum (cond t m 0) ≡ cond t (sum m) z
      by_active true sum m z h = refl
      by_active false sum m z h = h

  pub record VariableEntry (e : Entry) : Type 0 where
    pub own : Own kind laws xss e
    pub looked : get_or full_masks e.number 0 ≡ full_mask kind laws s b xss set e
    pub placed : varies e ≡ true → Placed s e

  variable_entries : All VariableEntry (entries s)
  variable_entries =
      All-weaker (λ e. Own kind laws xss e × ((get_or full_masks e.number 0 ≡ full_mask kind laws s b xss set e) × (varies e ≡ true → Placed s e))) _
      (λ e h. record { own = h.0; looked = h.1.0; placed = h.1.1 }) (entries s)
      (all_both (Own kind laws xss) (λ e. (get_or full_masks e.number 0 ≡ full_mask kind laws s b xss set e) × (varies e ≡ true → Placed s e)) (entries s) (owned kind laws s b xss set)
      (all_both (λ e. get_or full_masks e.number 0 ≡ full_mask kind laws s b xss set e) (λ e. varies e ≡ true → Placed s e) (entries s) full_looked (placed s)))

  same_here : (factor_of : Entry → ℕ) (e : Entry) → VariableEntry e → varies e ≡ true → contribution_by count xss full_masks factor_of e ≡ contribution count reaches s b xss factor_of e
  same_here factor_of e h v =
      let p = h.placed v in
      contribution_same factor_of e h.own (variable_is e.action.kind v) (has_whole 12 e.place (let w = p.within in omega arith)) h.looked

  kept_same : (factor_of : Entry → ℕ) (list : List Entry) → All VariableEntry list → All (λ e. contribution_by count xss full_masks factor_of e ≡ contribution count reaches s b xss factor_of e) (filter varies list)
  kept_same factor_of [] h = tt
  kept_same factor_of (e ∷ list) (h, hs) =
      elim (cases_Bool (varies e)) [
        | inl v ↦ rw v (same_here factor_of e h v, kept_same factor_of list hs)
        | inr v ↦ rw v (kept_same factor_of list hs)
      ]

  -- a half of the strip
  pub half_is : (factor_of : Entry → ℕ) → half_by count xss full_masks factor_of s ≡ half count reaches s b xss factor_of
  half_is factor_of = ap (λ vs. places 12 vs (zeros count)) (map_same (contribution_by count xss full_masks factor_of) (contribution count reaches s b xss factor_of) (varying s) (kept_same factor_of (entries s) variable_entries))

  pub strip_is : both_halves count xss full_masks (b.form (b.forms - 1)) s ≡ strip_after count reaches s b xss
  strip_is =
      let f : Form = b.form (b.forms - 1) in
      ap (λ h. h ++ role_half count xss full_masks f Accompanying s) (half_is (λ e. role_factor f Leading e.action.category))
      ∙ ap (λ h. half count reaches s b xss (λ e. role_factor f Leading e.action.category) ++ h) (half_is (λ e. role_factor f Accompanying e.action.category))

  half_get : (factor_of : Entry → ℕ) (j : ℕ) → j < n → get_or (half_by count xss full_masks factor_of s) j [] ≡ contribution count reaches s b xss factor_of (at_place s j)
  half_get factor_of j h =
      let l : j < length (varying s) = rw (places_of s) h in
      places_get 12 (map (contribution_by count xss full_masks factor_of) (varying s)) (zeros count) [] j (omega arith) (omega (arith, length-map (varying s) (contribution_by count xss full_masks factor_of)))
      ∙ get_or-map (contribution_by count xss full_masks factor_of) (varying s) j nowhere [] l
      ∙ of_place s (λ e. varies e ≡ true → contribution_by count xss full_masks factor_of e ≡ contribution count reaches s b xss factor_of e) (All-weaker VariableEntry _ (same_here factor_of) (entries s) variable_entries) j h (varies_at s j h)

  pub half_past : (factor_of : Entry → ℕ) (j : ℕ) → j < 12 → n ≤ j → get_or (half_by count xss full_masks factor_of s) j [] ≡ zeros count
  half_past factor_of j h l =
      places_past 12 (map (contribution_by count xss full_masks factor_of) (varying s)) (zeros count) [] j h (omega (arith, length-map (varying s) (contribution_by count xss full_masks factor_of), places_of s))

  pub half_long : (factor_of : Entry → ℕ) → length (half_by count xss full_masks factor_of s) ≡ 12
  half_long factor_of = places_length 12 (map (contribution_by count xss full_masks factor_of) (varying s)) (zeros count)

  -- the halves of a form
  pub accompanying_at : (f j : ℕ) → j < variables s.actions → get_or (role_half count xss full_masks (b.form f) Accompanying s) j [] ≡ accompanying kind laws s b xss set f (at_place s j)
  accompanying_at f j h = half_get (λ e. role_factor (b.form f) Accompanying e.action.category) j h

  pub leading_at : (f j : ℕ) → (b.form f).leader ≡ true → j < variables s.actions → get_or (role_half count xss full_masks (b.form f) Leading s) j [] ≡ leading kind laws s b xss set f (at_place s j)
  leading_at f j e h =
      half_get (λ d. role_factor (b.form f) Leading d.action.category) j h
      ∙ ap (λ (u : Bool). contribution count reaches s b xss (λ d. cond u (at d.action.category (b.form f).leading) 0) (at_place s j)) e

  -- the masks of a set
  present_mask : (on all here : Bool) (C : ℕ) → all ≡ true → cond here (cond on (cond all C 0) 0) 0 ≡ cond on (cond here C 0) 0
  present_mask on all true C h = ap (λ (t : Bool). cond on (cond t C 0) 0) h
  present_mask true all false C h = refl
  present_mask false all false C h = refl

  mask_in_same : (t : ℕ) (e : Entry) → VariableEntry e → mask_in full_masks t e ≡ chosen_mask count reaches s b xss t e
  mask_in_same t e h =
      let C = choice count reaches e.action.spread (parts_of xss e) in
      let by_kind : ℕ → ℕ = λ u. kind_mask count reaches s b xss u e e.action.kind in
      elim (cases_Bool (varies e)) [
        | inl v ↦
            let p = h.placed v in
            let k : (u : ℕ) → by_kind u ≡ cond (has u e.place) C 0 = λ u. ap (kind_mask count reaches s b xss u e) (variable_is e.action.kind v) in
            let all : has 4095 e.place ≡ true = has_whole 12 e.place (let w = p.within in omega arith) in
            ap (λ (u : Bool). cond u (cond (has t e.place) (get_or full_masks e.number 0) 0) (get_or full_masks e.number 0)) v
            ∙ ap (λ m. cond (has t e.place) m 0) (h.looked ∙ ap (λ m. cond e.action.active m 0) (k 4095))
            ∙ present_mask e.action.active (has 4095 e.place) (has t e.place) C all
            ∙ ap (λ m. cond e.action.active m 0) (sym (k t))
        | inr v ↦
            ap (λ (u : Bool). cond u (cond (has t e.place) (get_or full_masks e.number 0) 0) (get_or full_masks e.number 0)) v
            ∙ h.looked ∙ ap (λ m. cond e.action.active m 0) (mask_same kind laws s b xss set 4095 t e e.action.kind v)
      ]

  pub masks_of_set : (f : ℕ) (l : Option ℕ) (t : ℕ) → places 32 (map (mask_in full_masks t) (entries s)) 0 ≡ (with_chosen count reaches s b xss f l t).masks
  masks_of_set f l t = ap (λ ms. places 32 ms 0) (map_same (mask_in full_masks t) (chosen_mask count reaches s b xss t) (entries s) (All-weaker VariableEntry _ (mask_in_same t) (entries s) variable_entries))

  -- no two places with a choice exclude each other
  pub clear_below : (rows' : List ℕ) (t : ℕ) → Clear rows' 12 t → Clear rows' (variables s.actions) t
  clear_below rows' t c i l = c i (omega arith)
