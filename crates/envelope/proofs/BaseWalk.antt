-- A walk over the actions that adds what those that are not variable add in a form.
use Rattle.std.proofs.Common.{◌≡◌, ℕ, ◌*◌, ◌≤◌, Bool, true, false, cond, List, [], ◌∷◌, ◌++◌, map, get_or, take, ℤ, None, sum_by, sym, ap, ◌∙◌, subst, inl, inr, arith}
use Rattle.std.proofs.ByRecursion.{All-take, All-weaker}
use Rattle.std.proofs.lemmas.List.{map_push}
use Rattle.std.proofs.lemmas.List.Sums.{sum_by-take-le}
use Rattle.std.proofs.lemmas.Bool.{cases_Bool}
use Rattle.basis.specs.Vocabulary.{is_variable}
use Rattle.effects.specs.Components.{zeros, sum, exact_sum}
use Rattle.effects.specs.Laws.{Closed, Laws, Large}
use Rattle.effects.specs.Supplies.{exact_total}
use Rattle.effects.specs.Lists.{large_sum}
use Rattle.effects.proofs.Totals.{sum_assoc}
use Rattle.rulebooks.specs.Books.{Book}
use Rattle.sheet.specs.Content.{Content}
use Rattle.envelope.specs.declared.combination.Combination.{Combination}
use Rattle.envelope.specs.declared.entry.Entry.{Entry}
use Rattle.envelope.specs.Entries.{entries, parts_of, has}
use Rattle.envelope.specs.Combinations.{mask, weighted, factor, share}
use Rattle.envelope.specs.Reported.{with_chosen, base_share}
use Rattle.envelope.specs.Walks.{fixed_share}
use Rattle.envelope.proofs.Values.{zero_value, sum_comm}
use Rattle.envelope.proofs.Totals.{Share, total_share, entries_sum}
use Rattle.envelope.proofs.Setting.{Setting, Own, owned, share_value, share_active, share_none}
use Rattle.envelope.proofs.Candidates.{Known}
use Rattle.envelope.proofs.Contributions.{share_base}

-- one effect more
pub total_push : (n : ℕ) (xss : List (List ℤ)) (x : List ℤ) → exact_total n (xss ++ x ∷ []) ≡ exact_sum (exact_total n xss) x
total_push n [] x = sum_comm x (zeros n)
total_push n (xs ∷ xss) x = ap (exact_sum xs) (total_push n xss x) ∙ sym (sum_assoc xs (exact_total n xss) x)

module _ {E : Type 0} {components : E → List ℤ} {count : ℕ} {reaches : List ℤ → List ℤ → Bool} (kind : Closed components count) (laws : Laws components count reaches)
    (s : Content) (b : Book) (xss : List (List ℤ)) (set : Setting kind laws s b xss) (f : ℕ) where
  abbrev adds : Entry → List ℤ
  adds = base_share count reaches s b xss f

  -- what an action adds with its mask in the set of all places
  pub share_is_base : (e : Entry) → Known kind laws s b xss set 4095 e → Known kind laws s b xss set 0 e
      → fixed_share count (b.form f) e (mask (with_chosen count reaches s b xss 0 None 4095) e.number) (parts_of xss e) ≡ base_share count reaches s b xss f e
  share_is_base e fe fz =
      let x : Combination = with_chosen count reaches s b xss f None 4095 in
      let z : Combination = with_chosen count reaches s b xss f None 0 in
      let form = b.form f in
      let W = weighted count (λ p. factor form e.action.kind e.action.category false (has (mask x e.number) p)) (parts_of xss e) in
      let V = share count form xss z e in
      let mine = λ (on : Bool) (v : Bool). cond on (cond v (zeros count) W) (zeros count) in
      elim (cases_Bool (is_variable e.action.kind)) [
        | inl v ↦
            let none : mine e.action.active true ≡ zeros count = elim (cases_Bool e.action.active) [ inl q ↦ ap (λ (on : Bool). mine on true) q | inr q ↦ ap (λ (on : Bool). mine on true) q ] in
            ap (mine e.action.active) v ∙ none ∙ sym (ap (λ (u : Bool). cond u (zeros count) V) v)
        | inr v ↦
            let same : share count form xss x e ≡ V = share_base kind laws s b xss set f None 4095 e fe fz v in
            let is : mine e.action.active false ≡ share count form xss x e =
            elim (cases_Bool e.action.active) [
              | inl q ↦ ap (λ (on : Bool). mine on false) q ∙ sym (share_active kind laws form (set.forms f) xss x e fe.own q)
              | inr q ↦ ap (λ (on : Bool). mine on false) q ∙ sym (share_none kind laws form (set.forms f) xss x e fe.own q)
            ] in
            ap (mine e.action.active) v ∙ is ∙ same ∙ sym (ap (λ (u : Bool). cond u (zeros count) V) v)
      ]

  base_value : (e : Entry) → Own kind laws xss e → Share kind laws e.action.parts (adds e)
  base_value e own =
      elim (cases_Bool (is_variable e.action.kind)) [
        | inl v ↦ rw v (zero_value kind laws (e.action.parts * 1_000_000_000_000_000))
        | inr v ↦ rw v (share_value kind laws (b.form f) (set.forms f) xss (with_chosen count reaches s b xss f None 0) e own)
      ]

  -- no sum of them stops
  base_large : (e : Entry) → Own kind laws xss e → Large (adds e)
  base_large e own = let v = (base_value e own).bound in omega (arith, own.few, own.size)

  total_large : (i : ℕ) → Large (exact_total count (map adds (take i (entries s))))
  total_large i =
      let w : Entry → ℕ = λ e. e.action.parts in
      let few : sum_by w (take i (entries s)) ≤ 192 = omega (arith, sum_by-take-le w (entries s) i, entries_sum 0 0 0 s.actions, set.few) in
      let v = total_share kind laws w adds (take i (entries s)) few (All-take _ i (entries s) (All-weaker (Own kind laws xss) _ base_value (entries s) (owned kind laws s b xss set))) in
      omega (arith, v.bound)

  -- a loop's turn: `total` is the sum of the first i, and `more` what the next action adds
  pub share_added : (list : List Entry) (i : ℕ) (e : Entry) (total more next : List ℤ) → list ≡ entries s → Own kind laws xss e → total ≡ exact_total count (map adds (take i list))
      → more ≡ adds e → next ≡ sum total more → next ≡ exact_total count (map adds (take i list ++ e ∷ []))
  share_added list i e total more next laid own so is then =
      let done = take i list in
      let large : Large (exact_total count (map adds done)) = subst (λ (d : List Entry). Large (exact_total count (map adds (take i d)))) (sym laid) (total_large i) in
      then
      ∙ (λ j. sum (so j) (is j))
      ∙ large_sum (exact_total count (map adds done)) (adds e) large (base_large e own)
      ∙ sym (total_push count (map adds done) (adds e))
      ∙ ap (exact_total count) (sym (map_push adds done e))

  -- the share of an action, as the code has it
  pub share_read : (e : Entry) (ps : List (List ℤ)) (masks : List ℕ) (r : List ℤ) → Known kind laws s b xss set 4095 e → Known kind laws s b xss set 0 e
      → masks ≡ (with_chosen count reaches s b xss 0 None 4095).masks → ps ≡ parts_of xss e → r ≡ fixed_share count (b.form f) e (get_or masks e.number 0) ps → r ≡ adds e
  share_read e ps masks r fe fz full own is = is ∙ (λ j. fixed_share count (b.form f) e (get_or (full j) e.number 0) (own j)) ∙ share_is_base e fe fz
