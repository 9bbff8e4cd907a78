-- The event with the greatest effect.
use Rattle.std.proofs.Common.{◌≡◌, ℕ, zero, suc, ◌<◌, ◌≤◌, Bool, true, false, List, [], ◌∷◌, map, length, get_or, ℤ, Some, None, filter, Option, refl, ap, subst, inl, inr, arith}
use lib.ListN.{length-map}
use Rattle.std.proofs.lemmas.List.{get_or-map}
use Rattle.std.proofs.lemmas.Bool.{cases_Bool}
use Rattle.std.proofs.ByRecursion.{All-get_or, All-weaker, All-map, all_kept_by, kept_by_passes}
use Rattle.std.specs.List.{AllByRecursion as All, slice_get}
use Rattle.basis.specs.declared.action.Kind.{Kind}
use Rattle.effects.specs.Laws.{Closed, Laws}
use Rattle.rulebooks.specs.Books.{Book}
use Rattle.sheet.specs.Content.{Content}
use Rattle.envelope.specs.declared.entry.Entry.{Entry}
use Rattle.envelope.specs.Entries.{entries, nowhere, parts_of, acts}
use Rattle.envelope.specs.Choices.{greatest_part, first_greatest, event_effect, event_of}
use Rattle.envelope.proofs.Values.{Reaches, Lg, wider}
use Rattle.envelope.proofs.Tops.{Larges, top_of}
use Rattle.envelope.proofs.ByKind.{event_small}
use Rattle.envelope.proofs.Numbering.{entry_at, Numbered, numbered, entries_length}
use Rattle.envelope.proofs.Totals.{all_both}
use Rattle.envelope.proofs.Setting.{Setting, Own, owned}

nth_at : {A : Type 0} (list : List A) (i : ℕ) (d : A) → i < length list → slice_get list i ≡ Some (get_or list i d)
nth_at [] i d l = absurd (omega arith)
nth_at (a ∷ list) zero d l = refl
nth_at (a ∷ list) (suc i) d l = nth_at list i d (omega arith)

-- where an element that passes stands among those that pass
pub kept_place : {A : Type 0} (test : A → Bool) (list : List A) (i : ℕ) (d : A) → i < length list → test (get_or list i d) ≡ true → (k : ℕ) × (k < length (filter test list)) × (get_or (filter test list) k d ≡ get_or list i d)
kept_place test [] i d l t = absurd (omega arith)
kept_place test (a ∷ list) zero d l t = rw t (0, omega arith, refl)
kept_place test (a ∷ list) (suc i) d l t =
    let h = kept_place test list i d (omega arith) t in
    elim (cases_Bool (test a)) [
      | inl e ↦ rw e (suc h.0, (let m = h.1 in omega arith), h.2)
      | inr e ↦ rw e h
    ]

module _ {E : Type 0} {components : E → List ℤ} {count : ℕ} {reaches : List ℤ → List ℤ → Bool} (kind : Closed components count) (laws : Laws components count reaches) where
  -- the first greatest of a list that is not empty
  pub record Best {A : Type 0} (value : A → List ℤ) (list : List A) (d : A) : Type 0 where
    pub place : ℕ
    pub within : place < length list
    pub is : first_greatest count reaches value list ≡ Some (get_or list place d)
    pub over : (k : ℕ) → k < length list → Reaches kind laws (value (get_or list place d)) (value (get_or list k d))
    pub first : (k : ℕ) → k < place → reaches (value (get_or list k d)) (value (get_or list place d)) ≡ false

  pub best_of : {A : Type 0} (value : A → List ℤ) (list : List A) (d : A) → 0 < length list → Larges kind laws (map value list) → Best value list d
  best_of value [] d l large = absurd (omega arith)
  best_of value (a ∷ list) d l large =
      let g : ℕ = greatest_part count reaches (map value (a ∷ list)) in
      let t = top_of kind laws (map value (a ∷ list)) large (omega arith) in
      let n : length (map value (a ∷ list)) ≡ length (a ∷ list) = length-map (a ∷ list) value in
      let gl : g < length (a ∷ list) = omega (arith, t.within) in
      record {
        place = g;
        within = gl;
        is = nth_at (a ∷ list) g d gl;
        over = λ k m.
            let x : get_or (map value (a ∷ list)) g [] ≡ value (get_or (a ∷ list) g d) = get_or-map value (a ∷ list) g d [] gl in
            let y : get_or (map value (a ∷ list)) k [] ≡ value (get_or (a ∷ list) k d) = get_or-map value (a ∷ list) k d [] m in
            rw (← x, ← y) (t.over k (omega arith));
        first = λ k m.
            let x : get_or (map value (a ∷ list)) g [] ≡ value (get_or (a ∷ list) g d) = get_or-map value (a ∷ list) g d [] gl in
            let y : get_or (map value (a ∷ list)) k [] ≡ value (get_or (a ∷ list) k d) = get_or-map value (a ∷ list) k d [] (omega arith) in
            rw (← x, ← y) (t.first k m);
      }

  module _ (s : Content) (b : Book) (xss : List (List ℤ)) (set : Setting kind laws s b xss) where
    abbrev pub event_worth : Entry → List ℤ
    event_worth e = event_effect count reaches e.action.spread (parts_of xss e)

    pub own_some : (e : Entry) → Own kind laws xss e → 1 ≤ e.action.parts → 0 < length (parts_of xss e)
    own_some e own l = omega (arith, own.size)

    -- an action with its parts
    abbrev pub Proper : Entry → Type 0
    Proper e = Numbered s e × (Own kind laws xss e × (1 ≤ e.action.parts))

    pub proper : All Proper (entries s)
    proper =
        all_both (Numbered s) (λ e. Own kind laws xss e × (1 ≤ e.action.parts)) (entries s) (numbered s)
        (all_both (Own kind laws xss) (λ e. 1 ≤ e.action.parts) (entries s) (owned kind laws s b xss set)
        (All-weaker (Numbered s) (λ e. 1 ≤ e.action.parts) (λ e n. rw n.action (All-get_or (λ a. 1 ≤ a.parts) s.actions e.number _ n.within set.some)) (entries s) (numbered s)))

    pub worth_large : (e : Entry) → Proper e → Lg kind laws (event_worth e)
    worth_large e (n, (own, l)) = wider kind laws 200_000_000_000_000_000 (omega arith) (event_small kind laws (parts_of xss e) own.few own.parts (own_some e own l) e.action.spread)

    -- the chosen event, where there is one at number j
    pub record Chosen (k : Kind) (j : ℕ) : Type 0 where
      pub entry : Entry
      pub proper : Proper entry
      pub acts_so : acts k entry.action ≡ true
      pub is : event_of count reaches (Some k) s xss ≡ Some entry.number
      pub over : Reaches kind laws (event_worth entry) (event_worth (entry_at s j))

    pub chosen : (k : Kind) (j : ℕ) → j < length s.actions → acts k (entry_at s j).action ≡ true → Chosen k j
    chosen k j l t =
        let evs : List Entry = filter (λ e. acts k e.action) (entries s) in
        let here = kept_place (λ (e : Entry). acts k e.action) (entries s) j nowhere (rw (entries_length 0 0 0 s.actions) l) t in
        let props : All Proper evs = all_kept_by (λ e. acts k e.action) Proper (entries s) proper in
        let some : 0 < length evs = (let m = here.1 in omega arith) in
        let best = best_of event_worth evs nowhere some (All-map (Lg kind laws) event_worth evs (All-weaker Proper _ worth_large evs props)) in
        record {
          entry = get_or evs best.place nowhere;
          proper = All-get_or Proper evs best.place nowhere best.within props;
          acts_so = All-get_or (λ (e : Entry). acts k e.action ≡ true) evs best.place nowhere best.within (kept_by_passes (λ (e : Entry). acts k e.action) (entries s));
          is = ap (λ (o : Option Entry). elim o [ None ↦ None | Some e ↦ Some e.number ]) best.is;
          over = subst (λ (e : Entry). Reaches kind laws (event_worth (get_or evs best.place nowhere)) (event_worth e)) here.2 (best.over here.0 here.1);
        }
