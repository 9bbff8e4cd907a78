-- A walk over the actions that keeps the best event so far finds the first of greatest effect.
use Rattle.std.proofs.Common.{◌≡◌, ℕ, zero, suc, ◌+◌, Bool, true, false, cond, List, [], ◌∷◌, map, length, drop, ℤ, Some, None, filter, Option, sym, refl, ap, ◌∙◌, inl, inr, arith}
use Rattle.std.proofs.lemmas.List.{drop-drop}
use Rattle.std.proofs.lemmas.Bool.{cases_Bool}
use Rattle.std.specs.List.{slice_get}
use Rattle.std.specs.Option.{option_map}
use Rattle.basis.specs.declared.action.Kind.{Kind}
use Rattle.effects.specs.Supplies.{greatest_from}
use Rattle.sheet.specs.Content.{Content}
use Rattle.envelope.specs.declared.masks.Ranked.{Ranked}
use Rattle.envelope.specs.declared.entry.Entry.{Entry}
use Rattle.envelope.specs.Entries.{entries, parts_of, acts}
use Rattle.envelope.specs.Choices.{first_greatest, event_effect, event_of}

nth_here : {A : Type 0} (full : List A) (i : ℕ) (x : A) (rest : List A) → drop i full ≡ x ∷ rest → slice_get full i ≡ Some x
nth_here [] zero x rest e = absurd (omega (arith, ap length e))
nth_here [] (suc i) x rest e = absurd (omega (arith, ap length e))
nth_here (y ∷ full) zero x rest e = cc
nth_here (y ∷ full) (suc i) x rest e = nth_here full i x rest e

-- the number and the effect of the best so far
abbrev pub shown : {E : Type 0} → (E → List ℤ) → Option (Ranked E) → Option (ℕ × List ℤ)
shown components None = None
shown components (Some r) = Some (r.number, components r.effect)

-- the greater of the best so far, if any, and the next; the best so far where they are level
abbrev pub better : (List ℤ → List ℤ → Bool) → Option (ℕ × List ℤ) → ℕ × List ℤ → ℕ × List ℤ
better reaches None y = y
better reaches (Some x) y = cond (reaches x.1 y.1) x y

pub shown_better : {E : Type 0} (components : E → List ℤ) (reaches : List ℤ → List ℤ → Bool) (best : Option (Ranked E)) (next : Ranked E)
    → shown components (Some (elim best [ None ↦ next | Some b ↦ cond (reaches (components b.effect) (components next.effect)) b next ])) ≡ Some (better reaches (shown components best) (next.number, components next.effect))
shown_better components reaches None next = refl
shown_better components reaches (Some b) next =
    elim (cases_Bool (reaches (components b.effect) (components next.effect))) [ inl t ↦ rw t refl | inr t ↦ rw t refl ]

module _ (count : ℕ) (reaches : List ℤ → List ℤ → Bool) (test : Entry → Bool) (worth : Entry → List ℤ) where
  -- what the actions that are left give, after the best so far
  abbrev pub left_gives : Option (ℕ × List ℤ) → List Entry → Option ℕ
  left_gives best [] = elim best [ None ↦ None | Some x ↦ Some x.0 ]
  left_gives best (e ∷ rest) = cond (test e) (left_gives (Some (better reaches best (e.number, worth e))) rest) (left_gives best rest)

  winner : Entry → List Entry → Entry
  winner e [] = e
  winner e (x ∷ rest) = cond (reaches (worth e) (worth x)) (winner e rest) (winner x rest)

  at_greatest : (full rest : List Entry) (b i : ℕ) (a : Entry) → slice_get full b ≡ Some a → drop i full ≡ rest → slice_get full (greatest_from reaches (worth a) b i (map worth rest)) ≡ Some (winner a rest)
  unfolding winner
  at_greatest full [] b i a at from = at
  at_greatest full (x ∷ rest) b i a at from =
      let next : drop (i + 1) full ≡ rest = sym (drop-drop 1 i full) ∙ ap (drop 1) from in
      elim (cases_Bool (reaches (worth a) (worth x))) [
        | inl t ↦ rw t (at_greatest full rest b (i + 1) a at next)
        | inr t ↦ rw t (at_greatest full rest i (i + 1) x (nth_here full i x rest from) next)
      ]

  after : (e : Entry) (list : List Entry) → left_gives (Some (e.number, worth e)) list ≡ Some (winner e (filter test list)).number
  unfolding winner
  after e [] = refl
  after e (x ∷ rest) =
      elim (cases_Bool (test x)) [
        | inl t ↦
            rw t (elim (cases_Bool (reaches (worth e) (worth x))) [
              | inl r ↦ rw r (after e rest)
              | inr r ↦ rw r (after x rest)
            ])
        | inr t ↦ rw t (after e rest)
      ]

  abbrev number_of : Option Entry → Option ℕ
  number_of o = elim o [ None ↦ None | Some e ↦ Some e.number ]

  -- all of them
  pub all_give : (list : List Entry) → left_gives None list ≡ elim (first_greatest count reaches worth (filter test list)) [ None ↦ None | Some e ↦ Some e.number ]
  all_give [] = refl
  all_give (x ∷ rest) =
      let kept : List Entry = filter test rest in
      let tested = λ (u : Bool). cond u (left_gives (Some (x.number, worth x)) rest) (left_gives None rest) in
      let ranked = λ (u : Bool). number_of (first_greatest count reaches worth (cond u (x ∷ kept) kept)) in
      elim (cases_Bool (test x)) [
        | inl t ↦ ap tested t ∙ after x rest ∙ sym (ap number_of (at_greatest (x ∷ kept) kept 0 1 x refl refl)) ∙ sym (ap ranked t)
        | inr t ↦ ap tested t ∙ all_give rest ∙ sym (ap ranked t)
      ]

-- the walk over the actions of a sheet
module _ {E : Type 0} (components : E → List ℤ) (count : ℕ) (reaches : List ℤ → List ℤ → Bool) (k : Kind) (xss : List (List ℤ)) where
  -- what an event adds
  abbrev pub worth_of : Entry → List ℤ
  worth_of e = event_effect count reaches e.action.spread (parts_of xss e)

  abbrev pub events_left : Option (Ranked E) → List Entry → Option ℕ
  events_left best list = left_gives count reaches (λ e. acts k e.action) worth_of (shown components best) list

  -- a loop's turn
  module _ (e : Entry) (rest : List Entry) (best next : Option (Ranked E)) (r : Option ℕ) (so : events_left best (e ∷ rest) ≡ r) where
    abbrev from_here : Option (ℕ × List ℤ) → Option ℕ
    from_here b = left_gives count reaches (λ (d : Entry). acts k d.action) worth_of b rest

    abbrev with_it : Option ℕ
    with_it = from_here (Some (better reaches (shown components best) (e.number, worth_of e)))

    -- the action is of the kind, with the effect x of its parts ps, and the best after it is w
    pub event_taken : (x : E) (ps : List (List ℤ)) (w : Ranked E) → acts k e.action ≡ true → ps ≡ parts_of xss e → components x ≡ event_effect count reaches e.action.spread ps
        → w ≡ elim best [ None ↦ record { number = e.number; effect = x } | Some b ↦ cond (reaches (components b.effect) (components x)) b (record { number = e.number; effect = x }) ]
        → next ≡ Some w → events_left next rest ≡ r
    event_taken x ps w t own worth is then =
        ap (λ (o : Option (Ranked E)). events_left o rest) (then ∙ ap Some is)
        ∙ ap from_here (shown_better components reaches best (record { number = e.number; effect = x }))
        ∙ ap (λ (ys : List ℤ). from_here (Some (better reaches (shown components best) (e.number, ys)))) (worth ∙ ap (event_effect count reaches e.action.spread) own)
        ∙ sym (ap (λ (u : Bool). cond u with_it (from_here (shown components best))) t)
        ∙ so

    -- it is not
    pub event_passed : acts k e.action ≡ false → next ≡ best → events_left next rest ≡ r
    event_passed t then =
        ap (λ (o : Option (Ranked E)). events_left o rest) then
        ∙ sym (ap (λ (u : Bool). cond u with_it (from_here (shown components best))) t)
        ∙ so

  number_found : (best : Option (Ranked E)) → option_map (λ r. r.number) best ≡ events_left best []
  number_found None = refl
  number_found (Some r) = refl

  -- the best after the last action
  pub event_found : (s : Content) (kind : Option Kind) (list : List Entry) (best : Option (Ranked E)) → kind ≡ Some k → list ≡ entries s
      → events_left best [] ≡ events_left None list → option_map (λ r. r.number) best ≡ event_of count reaches kind s xss
  event_found s kind list best is laid so =
      number_found best
      ∙ so
      ∙ ap (events_left None) laid
      ∙ all_give count reaches (λ (d : Entry). acts k d.action) worth_of (entries s)
      ∙ ap (λ (a : Option Kind). event_of count reaches a s xss) (sym is)
