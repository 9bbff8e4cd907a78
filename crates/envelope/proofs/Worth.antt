-- The effect of a combination with chosen parts, by the places of its variable actions.
use Rattle.std.proofs.Common.{◌≡◌, ℕ, zero, suc, ◌+◌, ◌*◌, ◌^◌, ◌<◌, ◌≤◌, Bool, true, false, cond, ◌||◌, eqb, List, [], ◌∷◌, map, length, get_or, drop, ℤ, Some, None, Option, sym, refl, ap, ◌∙◌, subst, inl, inr, zero-add, add-one, arith, length-drop, length-take}
use Rattle.std.proofs.lemmas.List.Sums.{sum_by-cons}
use Rattle.std.proofs.lemmas.Bool.{cases_Bool, cases_order, both_ways, eq-eqb, ne_eqb, eqb-true}
use Rattle.std.proofs.ByRecursion.{All-weaker, All-take, All-drop}
use Rattle.std.specs.List.{AllByRecursion as All}
use Rattle.basis.specs.Vocabulary.{is_variable}
use Rattle.effects.specs.Components.{zeros, exact_sum, exact_multiple}
use Rattle.effects.specs.Supplies.{exact_total}
use Rattle.effects.specs.Laws.{Closed, Laws, IsFactor}
use Rattle.effects.proofs.Totals.{sum_assoc, sum_zeros, length_exact_sum}
use Rattle.rulebooks.specs.Books.{Book}
use Rattle.sheet.specs.declared.action.Action.{Action}
use Rattle.sheet.specs.Content.{Content}
use Rattle.sheet.specs.Limits.{variables}
use Rattle.envelope.specs.declared.entry.Entry.{Entry}
use Rattle.envelope.specs.Entries.{entries_from, entries, parts_of, has}
use Rattle.envelope.specs.Combinations.{named, weighted, at, effect_of}
use Rattle.envelope.specs.Choices.{choice}
use Rattle.envelope.specs.Reported.{with_chosen, base_share}
use Rattle.envelope.specs.Answers.{contribution}
use Rattle.envelope.specs.Search.{summed, reached}
use Rattle.envelope.proofs.Values.{Value, sum_comm, long, zero_value}
use Rattle.envelope.proofs.Members.{has_with}
use Rattle.envelope.proofs.ByKind.{role, role_fits}
use Rattle.envelope.proofs.Weights.{Parts, weighted_value}
use Rattle.envelope.proofs.Variables.{varies, at_place, number_ascends, Placed, placed}
use Rattle.envelope.proofs.Setting.{Setting}
use Rattle.envelope.proofs.Contributions.{added, effect_in_parts, weighted_factor}

-- `summed` over a function of the place
abbrev added_up : (ℕ → List ℤ) → (ℕ → Bool) → List ℤ → ℕ → List ℤ
added_up value taken c zero = c
added_up value taken c (suc k) = cond (taken k) (exact_sum (added_up value taken c k) (value k)) (added_up value taken c k)

up_summed : (gains : List (List ℤ)) (taken : ℕ → Bool) (c : List ℤ) (k : ℕ) → added_up (λ j. get_or gains j []) taken c k ≡ summed gains taken c k
unfolding summed
up_summed gains taken c zero = refl
up_summed gains taken c (suc k) = ap (λ x. cond (taken k) (exact_sum x (get_or gains k [])) x) (up_summed gains taken c k)

up_same : (v w : ℕ → List ℤ) (f g : ℕ → Bool) (c : List ℤ) (k : ℕ) → ((j : ℕ) → j < k → (v j ≡ w j) × (f j ≡ g j)) → added_up v f c k ≡ added_up w g c k
up_same v w f g c zero same = refl
up_same v w f g c (suc k) same =
    let h = same k (omega arith) in
    let low = up_same v w f g c k (λ j l. same j (omega arith)) in
    ap (λ (t : Bool). cond t (exact_sum (added_up v f c k) (v k)) (added_up v f c k)) h.1
    ∙ ap (λ x. cond (g k) (exact_sum (added_up v f c k) x) (added_up v f c k)) h.0
    ∙ ap (λ x. cond (g k) (exact_sum x (w k)) x) low

-- what is there at the start may come at the end
up_start : (v : ℕ → List ℤ) (f : ℕ → Bool) (c x : List ℤ) (k : ℕ) → added_up v f (exact_sum c x) k ≡ exact_sum (added_up v f c k) x
up_start v f c x zero = refl
up_start v f c x (suc k) =
    let low = up_start v f c x k in
    let s = added_up v f c k in
    elim (cases_Bool (f k)) [
      | inl e ↦ rw e (ap (λ y. exact_sum y (v k)) low ∙ sum_assoc s x (v k) ∙ ap (exact_sum s) (sum_comm x (v k)) ∙ sym (sum_assoc s (v k) x))
      | inr e ↦ rw e low
    ]

-- one place is taken at another value: it may as well be there at the start
up_forced : (v w : ℕ → List ℤ) (f g : ℕ → Bool) (c : List ℤ) (q k : ℕ) → q < k → f q ≡ true → g q ≡ false → ((j : ℕ) → j < k → (j ≡ q → ⊥) → (v j ≡ w j) × (f j ≡ g j))
    → added_up v f c k ≡ added_up w g (exact_sum c (v q)) k
up_forced v w f g c q zero l on off same = absurd (omega arith)
up_forced v w f g c q (suc k) l on off same =
    elim (cases_order q k) [
      | inr (inr m) ↦ absurd (omega arith)
      | inr (inl m) ↦
          let low = up_forced v w f g c q k m on off (λ j h. same j (omega arith)) in
          let h = same k (omega arith) (λ e. omega arith) in
          ap (λ (t : Bool). cond t (exact_sum (added_up v f c k) (v k)) (added_up v f c k)) h.1
          ∙ ap (λ x. cond (g k) (exact_sum (added_up v f c k) x) (added_up v f c k)) h.0
          ∙ ap (λ x. cond (g k) (exact_sum x (w k)) x) low
      | inl e ↦
          let low = up_same v w f g c k (λ j h. same j (omega arith) (λ i. omega arith)) in
          let fk : f k ≡ true = ap f (sym e) ∙ on in
          let gk : g k ≡ false = ap g (sym e) ∙ off in
          ap (λ (t : Bool). cond t (exact_sum (added_up v f c k) (v k)) (added_up v f c k)) fk
          ∙ ap (λ x. exact_sum x (v k)) low
          ∙ ap (λ j. exact_sum (added_up w g c k) (v j)) (sym e)
          ∙ sym (up_start w g c (v q) k)
          ∙ sym (ap (λ (t : Bool). cond t (exact_sum (added_up w g (exact_sum c (v q)) k) (w k)) (added_up w g (exact_sum c (v q)) k)) gk)
    ]

-- from place k on
abbrev run : (ℕ → List ℤ) → (ℕ → Bool) → List ℤ → ℕ → ℕ → List ℤ
run value taken c k zero = c
run value taken c k (suc m) = run value taken (cond (taken k) (exact_sum c (value k)) c) (k + 1) m

run_up : (v : ℕ → List ℤ) (f : ℕ → Bool) (c : List ℤ) (k m : ℕ) → run v f (added_up v f c k) k m ≡ added_up v f c (k + m)
run_up v f c k zero = ap (added_up v f c) (omega arith)
run_up v f c k (suc m) =
    ap (λ j. run v f (added_up v f c (suc k)) j m) (add-one k) ∙ run_up v f c (suc k) m ∙ ap (added_up v f c) (omega arith)

back : {A : Type 0} {x y z : A} → y ≡ z → x ≡ z → x ≡ y
back p q = q ∙ sym p

-- a sum over the actions of which only the variable ones of a set add something
module _ (n : ℕ) (value : Entry → List ℤ) (wide : (e : Entry) → length (value e) ≡ n) (v : ℕ → List ℤ) (t : ℕ) where
  abbrev of_set : Entry → List ℤ
  of_set e = cond (is_variable e.action.kind) (cond (has t e.place) (value e) (zeros n)) (zeros n)

  total_run : (i k p : ℕ) (list : List Action) (c : List ℤ) → length c ≡ n → All (λ e. varies e ≡ true → v e.place ≡ value e) (entries_from i k p list)
      → exact_sum c (exact_total n (map of_set (entries_from i k p list))) ≡ run v (has t) c k (variables list)
  total_run i k p [] c lc each = sum_zeros n c lc
  total_run i k p (a ∷ rest) c lc (here, each) =
      let e : Entry = record { number = i; place = k; first = p; action = a } in
      let count : variables (a ∷ rest) ≡ cond (is_variable a.kind) 1 0 + variables rest = sum_by-cons (λ (x : Action). cond (is_variable x.kind) 1 0) a rest in
      let others : ℕ → List ℤ = λ j. exact_total n (map of_set (entries_from (i + 1) j (p + a.parts) rest)) in
      elim (cases_Bool (is_variable a.kind)) [
        | inr w ↦
            let m : variables (a ∷ rest) ≡ variables rest = count ∙ ap (λ (u : Bool). cond u 1 0 + variables rest) w ∙ zero-add (variables rest) in
            let k' : k + 0 ≡ k = omega arith in
            let tail = total_run (i + 1) (k + 0) (p + a.parts) rest c lc (rw w at each) in
            let drop_zero : exact_sum c (exact_sum (zeros n) (others (k + 0))) ≡ exact_sum c (others (k + 0)) = sym (sum_assoc c (zeros n) (others (k + 0))) ∙ ap (λ x. exact_sum x (others (k + 0))) (sum_zeros n c lc) in
            back (ap (run v (has t) c k) m) (rw w (drop_zero ∙ tail ∙ ap (λ j. run v (has t) c j (variables rest)) k'))
        | inl w ↦
            let m : variables (a ∷ rest) ≡ suc (variables rest) = count ∙ ap (λ (u : Bool). cond u 1 0 + variables rest) w ∙ omega arith in
            let d : List ℤ = cond (has t k) (exact_sum c (v k)) c in
            let vk : v k ≡ value e = here w in
            let ld : length d ≡ n = elim (cases_Bool (has t k)) [ inl h ↦ rw h (length_exact_sum c (v k) (lc ∙ sym (ap length vk ∙ wide e)) ∙ lc) | inr h ↦ rw h lc ] in
            let tail = total_run (i + 1) (k + 1) (p + a.parts) rest d ld (rw w at each) in
            let joined : exact_sum c (exact_sum (cond (has t k) (value e) (zeros n)) (others (k + 1))) ≡ exact_sum d (others (k + 1)) =
            sym (sum_assoc c (cond (has t k) (value e) (zeros n)) (others (k + 1)))
            ∙ ap (λ x. exact_sum x (others (k + 1))) (elim (cases_Bool (has t k)) [ inl h ↦ rw h (ap (exact_sum c) (sym vk)) | inr h ↦ rw h (sum_zeros n c lc) ]) in
            back (ap (run v (has t) c k) m) (rw w (joined ∙ tail))
      ]

module _ {E : Type 0} {components : E → List ℤ} {count : ℕ} {reaches : List ℤ → List ℤ → Bool} (kind : Closed components count) (laws : Laws components count reaches)
    (s : Content) (b : Book) (xss : List (List ℤ)) (set : Setting kind laws s b xss) where
  abbrev n : ℕ
  n = variables s.actions

  -- what a contribution adds up to at most
  pub contribution_value : (factor_of : Entry → ℕ) (e : Entry) → IsFactor (factor_of e) → Value kind laws (length (parts_of xss e) * 1_000_000_000_000_000) (contribution count reaches s b xss factor_of e)
  contribution_value factor_of e fits =
      let k : ℕ = factor_of e in
      let parts = parts_of xss e in
      let few : length parts ≤ 192 = let c = set.complete in let f = set.few in omega (arith, length-take e.action.parts (drop e.first xss), length-drop e.first xss) in
      let ps : Parts kind laws parts = All-take _ e.action.parts (drop e.first xss) (All-drop _ e.first xss set.parts) in
      let C = choice count reaches e.action.spread parts in
      let is = weighted_factor count k (has C) parts in
      let small : (p : ℕ) → IsFactor (cond (has C p) k 0) = λ p. elim (cases_Bool (has C p)) [ inl h ↦ rw h fits | inr h ↦ rw h (omega arith) ] in
      let bound : ℕ = length parts * 1_000_000_000_000_000 in
      let sum : List ℤ = exact_multiple k (weighted count (λ p. cond (has C p) 1 0) parts) in
      elim e.action.active as (λ (u : Bool). Value kind laws bound (cond u sum (zeros count))) [
        | true ↦ subst (Value kind laws bound) is (weighted_value kind laws (λ p. cond (has C p) k 0) parts small few ps)
        | false ↦ zero_value kind laws bound
      ]

  module _ (f : ℕ) where
    -- what an action adds as the leader, beside one, and by the leader's number
    abbrev pub leading : Entry → List ℤ
    leading = contribution count reaches s b xss (λ e. at e.action.category (b.form f).leading)

    abbrev pub accompanying : Entry → List ℤ
    accompanying = contribution count reaches s b xss (λ e. at e.action.category (b.form f).accompanying)

    abbrev by_role : Option ℕ → Entry → List ℤ
    by_role l = contribution count reaches s b xss (λ e. role (b.form f) (set.forms f) e.action.category (named l e.number))

    wide : (l : Option ℕ) (e : Entry) → length (by_role l e) ≡ count
    wide l e = long kind laws (contribution_value (λ d. role (b.form f) (set.forms f) d.action.category (named l d.number)) e (role_fits (b.form f) (set.forms f) e.action.category (named l e.number)))

    as_leader : (l : Option ℕ) (e : Entry) → named l e.number ≡ true → by_role l e ≡ leading e
    as_leader l e h = ap (λ (u : Bool). contribution count reaches s b xss (λ _. role (b.form f) (set.forms f) e.action.category u) e) h

    beside : (l : Option ℕ) (e : Entry) → named l e.number ≡ false → by_role l e ≡ accompanying e
    beside l e h = ap (λ (u : Bool). contribution count reaches s b xss (λ _. role (b.form f) (set.forms f) e.action.category u) e) h

    module _ (A : List (List ℤ)) (base : List ℤ) (base_is : base ≡ exact_total count (map (base_share count reaches s b xss f) (entries s))) (base_long : length base ≡ count)
        (A-is : (j : ℕ) → j < variables s.actions → get_or A j [] ≡ accompanying (at_place s j)) where
      at_places : (l : Option ℕ) (t : ℕ) (v : ℕ → List ℤ) → ((j : ℕ) → j < n → v j ≡ by_role l (at_place s j)) → effect_of count s b xss (with_chosen count reaches s b xss f l t) ≡ added_up v (has t) base n
      at_places l t v is =
          effect_in_parts kind laws s b xss set f l t
          ∙ ap (λ x. exact_sum x (exact_total count (map (added kind laws s b xss set f l t) (entries s)))) (sym base_is)
          ∙ total_run count (by_role l) (wide l) v t 0 0 0 s.actions base base_long
          (All-weaker (λ e. varies e ≡ true → Placed s e) _ (λ e p w. let h = p w in is e.place h.within ∙ ap (by_role l) h.same) (entries s) (placed s))
          ∙ run_up v (has t) base 0 n
          ∙ ap (added_up v (has t) base) (zero-add n)

      -- no leader
      pub worth_alone : (t : ℕ) → effect_of count s b xss (with_chosen count reaches s b xss f None t) ≡ reached A base n t
      worth_alone t = at_places None t (λ j. get_or A j []) (λ j h. A-is j h) ∙ up_summed A (has t) base n

      -- the action at place q leads, and is not counted among those beside it
      pub worth_led : (x : List ℤ) (q u : ℕ) → q < n → x ≡ leading (at_place s q) → u < 2 ^ n → has u q ≡ false → effect_of count s b xss (with_chosen count reaches s b xss f (Some (at_place s q).number) (u + 2 ^ q)) ≡ reached A (exact_sum base x) n u
      worth_led x q u h x_is low off =
          let l : Option ℕ = Some (at_place s q).number in
          let v : ℕ → List ℤ = λ j. cond (eqb j q) x (get_or A j []) in
          let apart : (j : ℕ) → j < n → (j ≡ q → ⊥) → named l (at_place s j).number ≡ false =
          λ j k ne. ne_eqb (at_place s q).number (at_place s j).number (λ e.
          elim (cases_order j q) [ inl i ↦ ne i | inr (inl m) ↦ omega (arith, number_ascends s j q m h) | inr (inr m) ↦ omega (arith, number_ascends s q j m k) ]) in
          let v_is : (j : ℕ) → j < n → v j ≡ by_role l (at_place s j) =
          λ j k. elim (cases_Bool (eqb j q)) [
            | inl e ↦
                let same : j ≡ q = eqb-true j q e in
                ap (λ (t : Bool). cond t x (get_or A j [])) e ∙ x_is ∙ sym (ap (λ i. by_role l (at_place s i)) same ∙ as_leader l (at_place s q) (eq-eqb (at_place s q).number (at_place s q).number refl))
            | inr e ↦ ap (λ (t : Bool). cond t x (get_or A j [])) e ∙ A-is j k ∙ sym (beside l (at_place s j) (apart j k (λ i. both_ways (eqb j q) e (eq-eqb j q i))))
          ] in
          let here : v q ≡ x = ap (λ (t : Bool). cond t x (get_or A q [])) (eq-eqb q q refl) in
          at_places l (u + 2 ^ q) v v_is
          ∙ up_forced v (λ j. get_or A j []) (has (u + 2 ^ q)) (has u) base q n h
          (has_with u q n low h off q h ∙ ap (λ (t : Bool). t || has u q) (eq-eqb q q refl)) off
          (λ j k ne. (ap (λ (t : Bool). cond t x (get_or A j [])) (ne_eqb j q ne), has_with u q n low h off j k ∙ ap (λ (t : Bool). t || has u j) (ne_eqb j q ne)))
          ∙ ap (λ y. added_up (λ j. get_or A j []) (has u) (exact_sum base y) n) here
          ∙ up_summed A (has u) (exact_sum base x) n
