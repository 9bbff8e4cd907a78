-- A sheet with effects for its parts, and what each action adds.
use Rattle.std.proofs.Common.{◌≡◌, ℕ, ◌+◌, ◌≤◌, Bool, true, false, cond, List, [], ◌∷◌, map, length, drop, ℤ, sum_by, sym, refl, ap, ◌∙◌, subst, inl, inr, arith, length-drop, length-take}
use Rattle.std.proofs.ByRecursion.{All-take, All-drop, All-weaker}
use Rattle.std.proofs.lemmas.List.Sums.{sum_by-cons}
use Rattle.std.proofs.lemmas.Bool.{cases_Bool}
use Rattle.std.specs.List.{AllByRecursion as All}
use Rattle.basis.specs.declared.action.Kind.{Kind}
use Rattle.basis.specs.declared.action.Kind.TheVariants.{Permanent, Prestress, Variable, Accidental, Seismic}
use Rattle.effects.specs.Components.{zeros, exact_sum}
use Rattle.effects.specs.Supplies.{exact_total}
use Rattle.effects.specs.Laws.{Closed, Laws, IsFactor}
use Rattle.effects.specs.Lists.{zeros_sum}
use Rattle.effects.proofs.Totals.{sum_zeros}
use Rattle.rulebooks.specs.Books.{Form, Book}
use Rattle.sheet.specs.Content.{Content}
use Rattle.sheet.specs.Limits.{parts_in}
use Rattle.envelope.specs.declared.combination.Combination.{Combination}
use Rattle.envelope.specs.declared.entry.Entry.{Entry}
use Rattle.envelope.specs.Entries.{entries, parts_of, has}
use Rattle.envelope.specs.Combinations.{mask, named, weighted, factor, coefficient, share}
use Rattle.envelope.proofs.Values.{long, zero_value}
use Rattle.envelope.proofs.Weights.{Parts, weighted_value, weighted_none, weighted_same}
use Rattle.envelope.proofs.Numbering.{entry_parts}
use Rattle.envelope.proofs.Totals.{Share, total_split, total_same}
use Rattle.envelope.proofs.ByKind.{FormLaws, factor_fits}

abbrev pub is_event : Kind → Bool
is_event Permanent = false
is_event Prestress = false
is_event Variable = false
is_event Accidental = true
is_event Seismic = true

module _ {E : Type 0} {components : E → List ℤ} {count : ℕ} {reaches : List ℤ → List ℤ → Bool} (kind : Closed components count) (laws : Laws components count reaches) where
  -- a sheet with as many effects as parts, none too large, and a rulebook with its laws
  pub record Setting (s : Content) (b : Book) (xss : List (List ℤ)) : Type 0 where
    pub complete : length xss ≡ parts_in s.actions
    pub few : parts_in s.actions ≤ 192
    pub short : length s.actions ≤ 32
    pub some : All (λ a. 1 ≤ a.parts) s.actions
    pub parts : Parts kind laws xss
    pub forms : (i : ℕ) → FormLaws (b.form i)

  -- the parts of one action
  pub record Own (xss : List (List ℤ)) (e : Entry) : Type 0 where
    pub size : length (parts_of xss e) ≡ e.action.parts
    pub few : length (parts_of xss e) ≤ 192
    pub parts : Parts kind laws (parts_of xss e)

  pub owned : (s : Content) (b : Book) (xss : List (List ℤ)) → Setting s b xss → All (Own xss) (entries s)
  owned s b xss set =
      All-weaker (λ e. e.first + e.action.parts ≤ 0 + parts_in s.actions) (Own xss)
      (λ e h.
      let c = set.complete in
      let f = set.few in
      let l : length (parts_of xss e) ≡ e.action.parts = length-take e.action.parts (drop e.first xss) ∙ omega (arith, length-drop e.first xss) in
      record {
        size = l;
        few = omega arith;
        parts = All-take _ e.action.parts (drop e.first xss) (All-drop _ e.first xss set.parts);
      })
      (entries s) (entry_parts 0 0 0 s.actions)

  module _ (f : Form) (ok : FormLaws f) (xss : List (List ℤ)) where
    fits : (c : Combination) (e : Entry) (p : ℕ) → IsFactor (coefficient f c e p)
    fits c e p =
        elim (cases_Bool e.action.active) [
          | inl t ↦ rw t (factor_fits f ok e.action.kind e.action.category (named c.leader e.number) (has (mask c e.number) p))
          | inr t ↦ rw t (omega arith)
        ]

    pub share_value : (c : Combination) (e : Entry) → Own xss e → Share kind laws e.action.parts (share count f xss c e)
    share_value c e own = subst (λ m. Share kind laws m (share count f xss c e)) own.size (weighted_value kind laws (coefficient f c e) (parts_of xss e) (fits c e) own.few own.parts)

    -- of an active and of a suspended action
    pub share_active : (c : Combination) (e : Entry) → Own xss e → e.action.active ≡ true
        → share count f xss c e ≡ weighted count (λ p. factor f e.action.kind e.action.category (named c.leader e.number) (has (mask c e.number) p)) (parts_of xss e)
    share_active c e own t = weighted_same count _ _ (parts_of xss e) (λ p l. ap (λ (on : Bool). cond on (factor f e.action.kind e.action.category (named c.leader e.number) (has (mask c e.number) p)) 0) t)

    pub share_none : (c : Combination) (e : Entry) → Own xss e → e.action.active ≡ false → share count f xss c e ≡ zeros count
    share_none c e own t = weighted_none kind laws (coefficient f c e) (parts_of xss e) (λ p l. ap (λ (on : Bool). cond on (factor f e.action.kind e.action.category (named c.leader e.number) (has (mask c e.number) p)) 0) t) own.parts

    -- an action's part in the sum, events apart
    abbrev pub rest_share : Combination → Entry → List ℤ
    rest_share c e = cond (is_event e.action.kind) (zeros count) (share count f xss c e)

    abbrev pub event_share : Combination → Entry → List ℤ
    event_share c e = cond (is_event e.action.kind) (share count f xss c e) (zeros count)

    split : (c : Combination) (e : Entry) → Own xss e → share count f xss c e ≡ exact_sum (rest_share c e) (event_share c e)
    split c e own =
        let l : length (share count f xss c e) ≡ count = long kind laws (share_value c e own) in
        elim (cases_Bool (is_event e.action.kind)) [
          | inl t ↦ rw t (sym (zeros_sum count (share count f xss c e) l))
          | inr t ↦ rw t (sym (sum_zeros count (share count f xss c e) l))
        ]

    pub effect_split : (c : Combination) (list : List Entry) → All (Own xss) list
        → exact_total count (map (share count f xss c) list) ≡ exact_sum (exact_total count (map (rest_share c) list)) (exact_total count (map (event_share c) list))
    effect_split c list own =
        total_same count (share count f xss c) (λ e. exact_sum (rest_share c e) (event_share c e)) list (All-weaker (Own xss) _ (λ e o. split c e o) list own)
        ∙ total_split count (rest_share c) (event_share c) list

    -- the parts that each sum is of
    abbrev pub rest_parts : Entry → ℕ
    rest_parts e = cond (is_event e.action.kind) 0 e.action.parts

    abbrev pub event_parts : Entry → ℕ
    event_parts e = cond (is_event e.action.kind) e.action.parts 0

    both_parts : (e : Entry) → rest_parts e + event_parts e ≡ e.action.parts
    both_parts e = elim (cases_Bool (is_event e.action.kind)) [ inl t ↦ rw t (omega arith) | inr t ↦ rw t (omega arith) ]

    pub parts_split : (list : List Entry) → sum_by rest_parts list + sum_by event_parts list ≡ sum_by (λ e. e.action.parts) list
    parts_split [] = refl
    parts_split (e ∷ list) =
        let a = sum_by-cons rest_parts e list in
        let b = sum_by-cons event_parts e list in
        let d = sum_by-cons (λ (x : Entry). x.action.parts) e list in
        let t = parts_split list in
        let o = both_parts e in
        omega arith

    pub rest_value : (c : Combination) (e : Entry) → Own xss e → Share kind laws (rest_parts e) (rest_share c e)
    rest_value c e own = elim (cases_Bool (is_event e.action.kind)) [ inl t ↦ rw t (zero_value kind laws 0) | inr t ↦ rw t (share_value c e own) ]

    pub event_value : (c : Combination) (e : Entry) → Own xss e → Share kind laws (event_parts e) (event_share c e)
    event_value c e own = elim (cases_Bool (is_event e.action.kind)) [ inl t ↦ rw t (share_value c e own) | inr t ↦ rw t (zero_value kind laws 0) ]
