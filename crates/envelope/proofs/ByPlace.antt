-- Combinations with chosen parts by the places of their variable actions.
use Rattle.std.proofs.Common.{◌≡◌, ℕ, ◌^◌, ◌<◌, ◌≤◌, Bool, true, false, cond, not, ◌&&◌, eqb, List, ℤ, Option, sym, refl, ap, ◌∙◌, inl, inr, arith}
use Rattle.std.proofs.lemmas.Bool.{cases_Bool, cases_order, both_ways}
use Rattle.std.proofs.ByRecursion.{All-weaker}
use Rattle.std.specs.List.{AllByRecursion as All}
use Rattle.basis.specs.declared.action.Kind.TheVariants.{Variable}
use Rattle.basis.specs.Vocabulary.{is_variable}
use Rattle.effects.specs.Laws.{Closed, Laws}
use Rattle.rulebooks.specs.Books.{Book}
use Rattle.sheet.specs.declared.action.Action.{Action}
use Rattle.sheet.specs.Content.{Content, variable_at}
use Rattle.sheet.specs.Limits.{variables}
use Rattle.envelope.specs.declared.combination.Combination.{Combination}
use Rattle.envelope.specs.declared.entry.Entry.{Entry}
use Rattle.envelope.specs.Entries.{entries, parts_of, has}
use Rattle.envelope.specs.Combinations.{mask, present, set_number}
use Rattle.envelope.specs.Choices.{choice}
use Rattle.envelope.specs.Reported.{with_chosen, chosen_mask, kind_mask}
use Rattle.envelope.specs.Search.{row, Clear}
use Rattle.envelope.proofs.Bits.{has_whole, has_none}
use Rattle.envelope.proofs.Members.{same_bits, empty_bits}
use Rattle.envelope.proofs.Numbering.{Numbered, numbered, entry_at, at_number, at_action, of_number, bits_of}
use Rattle.envelope.proofs.Variables.{varies, at_place, place_is, of_place, varies_at, Placed, placed}
use Rattle.envelope.proofs.Setting.{Setting}
use Rattle.envelope.proofs.Admitted.{variable_is}
use Rattle.envelope.proofs.Candidates.{Known, known, present_within, set_below}

-- a part of a pair
both : (x y : Bool) → (x && y) ≡ true → (x ≡ true) × (y ≡ true)
both true y h = (refl, h)
both false y h = absurd (both_ways false refl h)

module _ {E : Type 0} {components : E → List ℤ} {count : ℕ} {reaches : List ℤ → List ℤ → Bool} (kind : Closed components count) (laws : Laws components count reaches)
    (s : Content) (b : Book) (xss : List (List ℤ)) (set : Setting kind laws s b xss) where
  abbrev picked : ℕ → Option ℕ → ℕ → Combination
  picked = with_chosen count reaches s b xss

  abbrev n : ℕ
  n = variables s.actions

  abbrev number : ℕ → ℕ
  number j = (at_place s j).number

  -- the mask of a variable action when it is present
  abbrev pub full_mask : Entry → ℕ
  full_mask e = chosen_mask count reaches s b xss 4095 e

  -- the places with a choice, and the rows of exclusions by place
  pub record ByPlace (C : ℕ) (rows : List ℕ) : Type 0 where
    pub few : variables s.actions ≤ 12
    pub low : C < 2 ^ variables s.actions
    pub chooses : (j : ℕ) → j < variables s.actions → has C j ≡ not (eqb (full_mask (at_place s j)) 0)
    pub rows_mean : (i j : ℕ) → i < variables s.actions → j < variables s.actions → has (row rows i) j ≡ s.marked (at_place s i).number (at_place s j).number
    pub symmetric : (i j : ℕ) → s.marked i j ≡ s.marked j i
    pub irreflexive : (i : ℕ) → s.marked i i ≡ false

  module _ (few : variables s.actions ≤ 12) where
    twice : (u v : Bool) (m : ℕ) → v ≡ true → cond u m 0 ≡ cond u (cond v m 0) 0
    twice u true m h = refl
    twice u false m h = absurd (both_ways false refl h)

    nothing : (u : Bool) → 0 ≡ cond {A = ℕ} u 0 0
    nothing true = refl
    nothing false = refl

    -- a variable action has its full mask where its place is in the set, else none
    pub mask_at : (f : ℕ) (l : Option ℕ) (t j : ℕ) → j < n → mask (picked f l t) (number j) ≡ cond (has t j) (full_mask (at_place s j)) 0
    mask_at f l t j h =
        let e : Entry = at_place s j in
        let k = of_place s (Known kind laws s b xss set t) (known kind laws s b xss set t) j h in
        let p : e.place ≡ j = place_is s j h in
        let v : e.action.kind ≡ Variable = variable_is e.action.kind (varies_at s j h) in
        let w = choice count reaches e.action.spread (parts_of xss e) in
        let all : has 4095 e.place ≡ true = ap (has 4095) p ∙ has_whole 12 j (omega arith) in
        let on : (u : ℕ) → e.action.active ≡ true → chosen_mask count reaches s b xss u e ≡ cond (has u e.place) w 0 =
        λ u q. ap (λ (a : Bool). cond a (kind_mask count reaches s b xss u e e.action.kind) 0) q ∙ ap (kind_mask count reaches s b xss u e) v in
        let off : (u : ℕ) → e.action.active ≡ false → chosen_mask count reaches s b xss u e ≡ 0 =
        λ u q. ap (λ (a : Bool). cond a (kind_mask count reaches s b xss u e e.action.kind) 0) q in
        k.looked ∙ elim (cases_Bool e.action.active) [
          | inl q ↦ on t q ∙ ap (λ m. cond (has t m) w 0) p ∙ twice (has t j) (has 4095 e.place) w all ∙ ap (λ m. cond (has t j) m 0) (sym (on 4095 q))
          | inr q ↦ off t q ∙ nothing (has t j) ∙ ap (λ m. cond (has t j) m 0) (sym (off 4095 q))
        ]

    variable_here : (j : ℕ) → j < n → variable_at s (number j) ≡ true
    variable_here j h =
        let k = of_place s (Numbered s) (numbered s) j h in
        ap (λ (a : Action). is_variable a.kind) (sym k.action) ∙ varies_at s j h

    -- the place of a present action
    pub place_of : (x : Combination) (i : ℕ) → present s x i ≡ true → (j : ℕ) × (j < n) × (number j ≡ i)
    place_of x i h =
        let l = present_within kind laws s b xss set x i h in
        let v : varies (entry_at s i) ≡ true = ap (λ (a : Action). is_variable a.kind) (at_action s i l) ∙ (both (variable_at s i) _ h).0 in
        let p = of_number s (λ e. varies e ≡ true → Placed s e) i l (placed s) v in
        ((entry_at s i).place, p.within, ap (λ (e : Entry). e.number) p.same ∙ at_number s i l)

    -- the members of a set number
    pub number_has : (x : Combination) (j : ℕ) → j < n → has (set_number s x) j ≡ present s x (number j)
    number_has x j h =
        let off : All (λ e. is_variable e.action.kind ≡ false → present s x e.number ≡ false) (entries s) =
        All-weaker (Numbered s) _ (λ e m v. ap (λ (u : Bool). u && not (eqb (mask x e.number) 0)) (ap (λ (a : Action). is_variable a.kind) (sym m.action) ∙ v)) (entries s) (numbered s) in
        let bits = (bits_of (λ e. present s x e.number) 0 0 0 0 s.actions (omega arith) off).each in
        ap (has (set_number s x)) (sym (place_is s j h)) ∙ of_place s _ bits j h (rw (varies_at s j h) tt)

    module _ (C : ℕ) (rows : List ℕ) (known_places : ByPlace C rows) where
      -- an action is present if its place is in the set and it has a choice
      pub present_at : (f : ℕ) (l : Option ℕ) (t j : ℕ) → j < n → present s (picked f l t) (number j) ≡ (has t j && has C j)
      present_at f l t j h =
          let m = mask_at f l t j h in
          let F = full_mask (at_place s j) in
          ap (λ (u : Bool). u && not (eqb (mask (picked f l t) (number j)) 0)) (variable_here j h)
          ∙ ap (λ k. not (eqb k 0)) m
          ∙ elim (cases_Bool (has t j)) [
            | inl q ↦ rw q (sym (known_places.chooses j h))
            | inr q ↦ rw q refl
          ]

      abbrev pub Within : ℕ → Type 0
      Within t = (j : ℕ) → j < n → has t j ≡ true → has C j ≡ true

      narrow : (x y : Bool) → (x ≡ true → y ≡ true) → (x && y) ≡ x
      narrow true y h = h refl
      narrow false y h = refl

      -- the set number fits: the set is of places with a choice
      pub fits_from : (f : ℕ) (l : Option ℕ) (t : ℕ) → t ≡ set_number s (picked f l t) → (t < 2 ^ n) × Within t
      fits_from f l t e = (
        rw e (set_below kind laws s b xss set (picked f l t)),
        λ j h on.
            (both (has t j) (has C j) (sym (present_at f l t j h) ∙ sym (number_has (picked f l t) j h) ∙ ap (λ m. has m j) (sym e) ∙ on)).1,
      )

      pub fits_to : (f : ℕ) (l : Option ℕ) (t : ℕ) → t < 2 ^ n → Within t → t ≡ set_number s (picked f l t)
      fits_to f l t low within =
          same_bits t (set_number s (picked f l t)) n low (set_below kind laws s b xss set (picked f l t))
          (λ j h. sym (number_has (picked f l t) j h ∙ present_at f l t j h ∙ narrow (has t j) (has C j) (within j h)))

      pub present_in : (f : ℕ) (l : Option ℕ) (t j : ℕ) → Within t → j < n → present s (picked f l t) (number j) ≡ has t j
      present_in f l t j within h = present_at f l t j h ∙ narrow (has t j) (has C j) (within j h)

      abbrev Apart : Combination → Type 0
      Apart x = (i j : ℕ) → present s x i ≡ true → present s x j ≡ true → s.marked i j ≡ false

      -- no two present actions are excluded: the rows say so
      pub clear_from : (f : ℕ) (l : Option ℕ) (t : ℕ) → Within t → Apart (picked f l t) → Clear rows n t
      clear_from f l t within apart i h on j m on' =
          known_places.rows_mean i j h (omega arith) ∙ apart (number i) (number j) (present_in f l t i within h ∙ on) (present_in f l t j within (omega arith) ∙ on')

      pub clear_to : (f : ℕ) (l : Option ℕ) (t : ℕ) → Within t → Clear rows n t → Apart (picked f l t)
      clear_to f l t within clear i j p q =
          let a = place_of (picked f l t) i p in
          let c = place_of (picked f l t) j q in
          let on : has t a.0 ≡ true = sym (present_in f l t a.0 within a.1) ∙ ap (present s (picked f l t)) a.2 ∙ p in
          let on' : has t c.0 ≡ true = sym (present_in f l t c.0 within c.1) ∙ ap (present s (picked f l t)) c.2 ∙ q in
          let back : s.marked i j ≡ s.marked (number a.0) (number c.0) = ap (λ k. s.marked k j) (sym a.2) ∙ ap (s.marked (number a.0)) (sym c.2) in
          back ∙ elim (cases_order a.0 c.0) [
            | inl e ↦ ap (λ k. s.marked (number k) (number c.0)) e ∙ known_places.irreflexive (number c.0)
            | inr (inl l) ↦ known_places.symmetric (number a.0) (number c.0) ∙ sym (known_places.rows_mean c.0 a.0 c.1 a.1) ∙ clear c.0 c.1 on' a.0 l on
            | inr (inr l) ↦ sym (known_places.rows_mean a.0 c.0 a.1 c.1) ∙ clear a.0 a.1 on c.0 l on'
          ]

      -- none present
      pub absent_from : (f : ℕ) (l : Option ℕ) (t : ℕ) → t < 2 ^ n → Within t → ((i : ℕ) → present s (picked f l t) i ≡ false) → t ≡ 0
      absent_from f l t low within none = empty_bits t n low (λ j h. sym (present_in f l t j within h) ∙ none (number j))

      pub absent_to : (f : ℕ) (l : Option ℕ) → (i : ℕ) → present s (picked f l 0) i ≡ false
      absent_to f l i =
          elim (cases_Bool (present s (picked f l 0) i)) [
            | inr q ↦ q
            | inl q ↦
                let p = place_of (picked f l 0) i q in
                absurd (both_ways (has 0 p.0) (has_none p.0) (both (has 0 p.0) (has C p.0) (sym (present_at f l 0 p.0 p.1) ∙ ap (present s (picked f l 0)) p.2 ∙ q)).0)
          ]
