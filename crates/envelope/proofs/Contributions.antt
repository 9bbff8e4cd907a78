-- What a variable action adds in a combination with chosen parts is its contribution.
use Rattle.std.proofs.Common.{◌≡◌, ℕ, suc, Bool, true, false, cond, List, [], ◌∷◌, map, length, ℤ, pos, ◌*ℤ◌, None, Option, sym, refl, ap, ◌∙◌, inl, inr}
use lib.IntN.{*ℤ-one, *ℤ_comm, *ℤ-zero, zero-*ℤ}
use Rattle.std.proofs.lemmas.Bool.{cases_Bool, both_ways}
use Rattle.std.proofs.ByRecursion.{All-weaker}
use Rattle.basis.specs.declared.action.Kind.{Kind}
use Rattle.basis.specs.declared.action.Kind.TheVariants.{Permanent, Prestress, Variable, Accidental, Seismic}
use Rattle.basis.specs.Vocabulary.{is_variable}
use Rattle.effects.specs.Components.{zeros, exact_sum, exact_multiple}
use Rattle.effects.specs.Supplies.{exact_total}
use Rattle.effects.specs.Laws.{Closed, Laws}
use Rattle.effects.specs.Lists.{zeros_multiple, zeros_sum}
use Rattle.effects.proofs.Totals.{sum_zeros}
use Rattle.rulebooks.specs.Books.{Form, Book}
use Rattle.sheet.specs.Content.{Content}
use Rattle.envelope.specs.declared.entry.Entry.{Entry}
use Rattle.envelope.specs.Entries.{entries, parts_of, has}
use Rattle.envelope.specs.Combinations.{mask, named, weighted, share, factor, effect_of, by_mask}
use Rattle.envelope.specs.Choices.{choice}
use Rattle.envelope.specs.Reported.{with_chosen, kind_mask, base_share}
use Rattle.envelope.specs.Answers.{contribution}
use Rattle.envelope.proofs.Values.{multiple_sum, long}
use Rattle.envelope.proofs.Weights.{weighted_same}
use Rattle.envelope.proofs.Totals.{total_same, total_split, all_both}
use Rattle.envelope.proofs.Admitted.{variable_is}
use Rattle.envelope.proofs.Choose.{no_part}
use Rattle.envelope.proofs.ByKind.{role}
use Rattle.envelope.proofs.Setting.{Setting, share_active, share_none, share_value}
use Rattle.envelope.proofs.Candidates.{Known, known, mask_on}

pub once : (xs : List ℤ) → exact_multiple 1 xs ≡ xs
unfolding lib.IntN.one
once [] = refl
once (x ∷ xs) =
    let e : pos 1 *ℤ x ≡ x = *ℤ_comm (pos 1) x ∙ *ℤ-one x in
    let t = once xs in cc

pub times_one : (k : ℕ) (xs : List ℤ) → exact_multiple k (exact_multiple 1 xs) ≡ exact_multiple k xs
times_one k xs = ap (exact_multiple k) (once xs)

pub times_none : (k : ℕ) (xs : List ℤ) → exact_multiple k (exact_multiple 0 xs) ≡ exact_multiple 0 xs
times_none k [] = refl
times_none k (x ∷ xs) =
    let e : pos k *ℤ (pos 0 *ℤ x) ≡ pos 0 *ℤ x = ap (λ y. pos k *ℤ y) (zero-*ℤ x) ∙ *ℤ-zero (pos k) ∙ sym (zero-*ℤ x) in
    let t = times_none k xs in cc

-- a sum of parts at one factor is the factor times their sum
pub weighted_factor : (n k : ℕ) (taken : ℕ → Bool) (xss : List (List ℤ)) → weighted n (λ p. cond (taken p) k 0) xss ≡ exact_multiple k (weighted n (λ p. cond (taken p) 1 0) xss)
weighted_factor n k taken [] = sym (zeros_multiple k n)
weighted_factor n k taken (xs ∷ xss) =
    let W = weighted n (λ p. cond (taken (suc p)) 1 0) xss in
    let head : exact_multiple (cond (taken 0) k 0) xs ≡ exact_multiple k (exact_multiple (cond (taken 0) 1 0) xs) =
    elim (cases_Bool (taken 0)) [ inl t ↦ rw t (sym (times_one k xs)) | inr t ↦ rw t (sym (times_none k xs)) ] in
    ap (λ y. exact_sum y (weighted n (λ p. cond (taken (suc p)) k 0) xss)) head
    ∙ ap (exact_sum (exact_multiple k (exact_multiple (cond (taken 0) 1 0) xs))) (weighted_factor n k (λ p. taken (suc p)) xss)
    ∙ sym (multiple_sum k (exact_multiple (cond (taken 0) 1 0) xs) W)

module _ {E : Type 0} {components : E → List ℤ} {count : ℕ} {reaches : List ℤ → List ℤ → Bool} (kind : Closed components count) (laws : Laws components count reaches)
    (s : Content) (b : Book) (xss : List (List ℤ)) (set : Setting kind laws s b xss) where
  -- of a variable action in the set, at the factor of its role; of one that is not, nothing
  pub share_in : (f : ℕ) (l : Option ℕ) (t : ℕ) (e : Entry) → Known kind laws s b xss set t e → e.action.active ≡ true → e.action.kind ≡ Variable → has t e.place ≡ true
      → share count (b.form f) xss (with_chosen count reaches s b xss f l t) e ≡ contribution count reaches s b xss (λ d. role (b.form f) (set.forms f) d.action.category (named l d.number)) e
  share_in f l t e fe q r h =
      let x = with_chosen count reaches s b xss f l t in
      let form = b.form f in
      let ok = set.forms f in
      let C = choice count reaches e.action.spread (parts_of xss e) in
      let k = role form ok e.action.category (named l e.number) in
      let m : mask x e.number ≡ C = mask_on kind laws s b xss set t e Variable fe q r ∙ ap (λ (u : Bool). cond u C 0) h in
      share_active kind laws form ok xss x e fe.own q
      ∙ ap (λ y. weighted count (λ p. factor form y e.action.category (named l e.number) (has (mask x e.number) p)) (parts_of xss e)) r
      ∙ ap (λ y. weighted count (by_mask k 0 y) (parts_of xss e)) m
      ∙ weighted_factor count k (has C) (parts_of xss e)
      ∙ sym (ap (λ (u : Bool). cond u (exact_multiple k (weighted count (λ p. cond (has C p) 1 0) (parts_of xss e))) (zeros count)) q)

  pub share_out : (f : ℕ) (l : Option ℕ) (t : ℕ) (e : Entry) → Known kind laws s b xss set t e → e.action.active ≡ true → e.action.kind ≡ Variable → has t e.place ≡ false
      → share count (b.form f) xss (with_chosen count reaches s b xss f l t) e ≡ zeros count
  share_out f l t e fe q r h =
      let x = with_chosen count reaches s b xss f l t in
      let form = b.form f in
      let ok = set.forms f in
      let C = choice count reaches e.action.spread (parts_of xss e) in
      let m : mask x e.number ≡ 0 = mask_on kind laws s b xss set t e Variable fe q r ∙ ap (λ (u : Bool). cond u C 0) h in
      share_active kind laws form ok xss x e fe.own q
      ∙ ap (λ y. weighted count (λ p. factor form y e.action.category (named l e.number) (has (mask x e.number) p)) (parts_of xss e)) r
      ∙ no_part kind laws (parts_of xss e) fe.own.few fe.own.parts (role form ok e.action.category (named l e.number)) (mask x e.number) m

  -- the share of an action that is not variable depends on the form alone
  factor_same : (form : Form) (k : Kind) (c : Option _) (u v in_mask : Bool) → is_variable k ≡ false → factor form k c u in_mask ≡ factor form k c v in_mask
  factor_same form Permanent c u v i h = refl
  factor_same form Prestress c u v i h = refl
  factor_same form Variable c u v i h = absurd (both_ways true h refl)
  factor_same form Accidental c u v i h = refl
  factor_same form Seismic c u v i h = refl

  pub mask_same : (t u : ℕ) (e : Entry) (k : Kind) → is_variable k ≡ false → kind_mask count reaches s b xss t e k ≡ kind_mask count reaches s b xss u e k
  mask_same t u e Permanent h = refl
  mask_same t u e Prestress h = refl
  mask_same t u e Variable h = absurd (both_ways true h refl)
  mask_same t u e Accidental h = refl
  mask_same t u e Seismic h = refl

  pub share_base : (f : ℕ) (l : Option ℕ) (t : ℕ) (e : Entry) → Known kind laws s b xss set t e → Known kind laws s b xss set 0 e → is_variable e.action.kind ≡ false
      → share count (b.form f) xss (with_chosen count reaches s b xss f l t) e ≡ share count (b.form f) xss (with_chosen count reaches s b xss f None 0) e
  share_base f l t e fe fz v =
      let x = with_chosen count reaches s b xss f l t in
      let z = with_chosen count reaches s b xss f None 0 in
      let form = b.form f in
      let m : mask x e.number ≡ mask z e.number =
      fe.looked ∙ ap (λ (w : ℕ). cond e.action.active w 0) (mask_same t 0 e e.action.kind v) ∙ sym fz.looked in
      weighted_same count _ _ (parts_of xss e) (λ p r.
      ap (λ (w : ℕ). cond e.action.active w 0)
      (factor_same form e.action.kind e.action.category (named l e.number) (named None e.number) (has (mask x e.number) p) v
      ∙ ap (λ (w : ℕ). factor form e.action.kind e.action.category (named None e.number) (has w p)) m))

  -- what the variable actions of the set add
  abbrev pub added : ℕ → Option ℕ → ℕ → Entry → List ℤ
  added f l t e =
      cond (is_variable e.action.kind)
      (cond (has t e.place) (contribution count reaches s b xss (λ d. role (b.form f) (set.forms f) d.action.category (named l d.number)) e) (zeros count))
      (zeros count)

  in_two : (f : ℕ) (l : Option ℕ) (t : ℕ) (e : Entry) → Known kind laws s b xss set t e → Known kind laws s b xss set 0 e
      → share count (b.form f) xss (with_chosen count reaches s b xss f l t) e ≡ exact_sum (base_share count reaches s b xss f e) (added f l t e)
  in_two f l t e fe fz =
      let x = with_chosen count reaches s b xss f l t in
      let z = with_chosen count reaches s b xss f None 0 in
      let ok = set.forms f in
      let lx : length (share count (b.form f) xss x e) ≡ count = long kind laws (share_value kind laws (b.form f) ok xss x e fe.own) in
      let lz : length (share count (b.form f) xss z e) ≡ count = long kind laws (share_value kind laws (b.form f) ok xss z e fe.own) in
      let K = contribution count reaches s b xss (λ d. role (b.form f) ok d.action.category (named l d.number)) e in
      elim (cases_Bool (is_variable e.action.kind)) [
        | inr v ↦ rw v (share_base f l t e fe fz v ∙ sym (sum_zeros count (share count (b.form f) xss z e) lz))
        | inl v ↦
            let is : share count (b.form f) xss x e ≡ cond (has t e.place) K (zeros count) =
            elim (cases_Bool e.action.active) [
              | inl q ↦
                  elim (cases_Bool (has t e.place)) [
                    | inl h ↦ share_in f l t e fe q (variable_is e.action.kind v) h ∙ sym (ap (λ (u : Bool). cond u K (zeros count)) h)
                    | inr h ↦ share_out f l t e fe q (variable_is e.action.kind v) h ∙ sym (ap (λ (u : Bool). cond u K (zeros count)) h)
                  ]
              | inr q ↦
                  let none : share count (b.form f) xss x e ≡ zeros count = share_none kind laws (b.form f) ok xss x e fe.own q in
                  let k_none : K ≡ zeros count = ap (λ (u : Bool). cond u (exact_multiple (role (b.form f) ok e.action.category (named l e.number)) (weighted count (λ p. cond (has (choice count reaches e.action.spread (parts_of xss e)) p) 1 0) (parts_of xss e))) (zeros count)) q in
                  elim (cases_Bool (has t e.place)) [
                    | inl h ↦ none ∙ sym k_none ∙ sym (ap (λ (u : Bool). cond u K (zeros count)) h)
                    | inr h ↦ none ∙ sym (ap (λ (u : Bool). cond u K (zeros count)) h)
                  ]
            ] in
            let zs : exact_sum (zeros count) (share count (b.form f) xss x e) ≡ share count (b.form f) xss x e = zeros_sum count (share count (b.form f) xss x e) lx in
            let y : exact_sum (base_share count reaches s b xss f e) (added f l t e) ≡ exact_sum (zeros count) (cond (has t e.place) K (zeros count)) =
            ap (λ (u : Bool). exact_sum (cond u (zeros count) (share count (b.form f) xss z e)) (cond u (cond (has t e.place) K (zeros count)) (zeros count))) v in
            sym (y ∙ ap (exact_sum (zeros count)) (sym is) ∙ zs)
      ]

  -- the effect of a combination with chosen parts: a base for the form, and a contribution for each member of the set
  pub effect_in_parts : (f : ℕ) (l : Option ℕ) (t : ℕ) → effect_of count s b xss (with_chosen count reaches s b xss f l t) ≡ exact_sum (exact_total count (map (base_share count reaches s b xss f) (entries s))) (exact_total count (map (added f l t) (entries s)))
  effect_in_parts f l t =
      total_same count (share count (b.form f) xss (with_chosen count reaches s b xss f l t)) (λ e. exact_sum (base_share count reaches s b xss f e) (added f l t e)) (entries s)
      (All-weaker (λ e. Known kind laws s b xss set t e × Known kind laws s b xss set 0 e) _ (λ e h. in_two f l t e h.0 h.1) (entries s)
      (all_both (Known kind laws s b xss set t) (Known kind laws s b xss set 0) (entries s) (known kind laws s b xss set t) (known kind laws s b xss set 0)))
      ∙ total_split count (base_share count reaches s b xss f) (added f l t) (entries s)
