-- An admissible combination with its parts replaced by the chosen ones.
use Rattle.std.proofs.Common.{◌≡◌, ℕ, ◌^◌, Bool, true, false, cond, not, ◌&&◌, ◌||◌, T, eqb, ◌⊎◌, List, [], ◌∷◌, ℤ, Some, None, sum_by, Option, refl, ap, ◌∙◌, inl, inr, arith}
use Rattle.std.proofs.lemmas.Bool.{cases_Bool, eqb-true, eq-eqb, both_ways}
use Rattle.std.specs.List.{AllByRecursion as All}
use Rattle.basis.specs.declared.action.Kind.{Kind}
use Rattle.basis.specs.declared.action.Kind.TheVariants.{Permanent, Prestress, Variable, Accidental, Seismic}
use Rattle.basis.specs.Vocabulary.{is_variable}
use Rattle.effects.specs.Laws.{Closed, Laws}
use Rattle.rulebooks.specs.Books.{Form, Book}
use Rattle.sheet.specs.declared.action.Action.{Action}
use Rattle.sheet.specs.Content.{Content}
use Rattle.envelope.specs.declared.combination.Combination.{Combination}
use Rattle.envelope.specs.declared.entry.Entry.{Entry}
use Rattle.envelope.specs.Entries.{entries, parts_of, acts, has, whole}
use Rattle.envelope.specs.Combinations.{mask, named, share}
use Rattle.envelope.specs.Admissible.{Admissible, SpreadKept, EventMask}
use Rattle.envelope.specs.Choices.{choice}
use Rattle.envelope.specs.Reported.{with_chosen, chosen_mask, kind_mask}
use Rattle.envelope.proofs.Values.{Reaches, zero_value, level}
use Rattle.envelope.proofs.Numbering.{entry_at, Numbered, numbered, of_number, each_number, looked_up, bits_of}
use Rattle.envelope.proofs.Totals.{Improves}
use Rattle.envelope.proofs.ByKind.{Rule, kind_best}
use Rattle.envelope.proofs.Setting.{Setting, Own, owned, is_event, rest_share, rest_parts, rest_value, share_active, share_none}

pub everywhere : {A : Type 0} (P : A → Type 0) → ((a : A) → P a) → (list : List A) → All P list
everywhere P h [] = tt
everywhere P h (a ∷ list) = (h a, everywhere P h list)

pub acts_of : (k : Kind) (a : Action) → a.active ≡ true → a.kind ≡ k → T (acts k a)
acts_of Permanent a t e = rw (t, e) tt
acts_of Prestress a t e = rw (t, e) tt
acts_of Variable a t e = rw (t, e) tt
acts_of Accidental a t e = rw (t, e) tt
acts_of Seismic a t e = rw (t, e) tt

pub named_is : (l : Option ℕ) (i : ℕ) → named l i ≡ true → l ≡ Some i
named_is None i e = absurd (both_ways false refl e)
named_is (Some j) i e = ap Some (eqb-true j i e)

module _ {E : Type 0} {components : E → List ℤ} {count : ℕ} {reaches : List ℤ → List ℤ → Bool} (kind : Closed components count) (laws : Laws components count reaches)
    (s : Content) (b : Book) (xss : List (List ℤ)) (set : Setting kind laws s b xss) (c : Combination) (adm : Admissible s b c) where
  abbrev chosen_of : Entry → ℕ
  chosen_of e = choice count reaches e.action.spread (parts_of xss e)

  -- the variable actions that stay: present, and with a choice
  abbrev pub keep : Entry → Bool
  keep e = is_variable e.action.kind && (e.action.active && (not (eqb (mask c e.number) 0) && not (eqb (chosen_of e) 0)))

  abbrev pub set' : ℕ
  set' = sum_by (λ e. cond (keep e) (2 ^ e.place) 0) (entries s)

  -- the lead is handed on where the leader is dropped
  abbrev pub first-kept : List Entry → Option ℕ
  first-kept [] = None
  first-kept (e ∷ list) = cond (keep e) (Some e.number) (first-kept list)

  abbrev pub leader_from : Option ℕ → Option ℕ
  leader_from None = None
  leader_from (Some i) = cond (keep (entry_at s i)) (Some i) (first-kept (entries s))

  abbrev pub mended : Combination
  mended = with_chosen count reaches s b xss c.form (leader_from c.leader) set'

  abbrev form : Form
  form = b.form c.form

  -- what is known of each action
  pub record Facts (e : Entry) : Type 0 where
    pub num : Numbered s e
    pub own : Own kind laws xss e
    pub looked : mask mended e.number ≡ chosen_mask count reaches s b xss set' e
    pub bit : T (is_variable e.action.kind) → has set' e.place ≡ keep e
    pub permanent : T (acts Permanent e.action) → T b.splits ⊎ ((mask c e.number ≡ 0) ⊎ (mask c e.number ≡ whole e.action.parts))
    pub variable : T (acts Variable e.action) → SpreadKept e.action.spread e.action.parts (mask c e.number)
    pub event : T (acts Accidental e.action || acts Seismic e.action) → EventMask (named c.event e.number) e.action.spread e.action.parts (mask c e.number)

  pub facts : All Facts (entries s)
  facts = each_number s Facts (λ i l. record {
    num = of_number s (Numbered s) i l (numbered s);
    own = of_number s (Own kind laws xss) i l (owned kind laws s b xss set);
    looked = of_number s _ i l (looked_up s (chosen_mask count reaches s b xss set') set.short);
    bit = of_number s _ i l (bits_of keep 0 0 0 0 s.actions (omega arith) (everywhere _ (λ e v. rw v refl) (entries s))).each;
    permanent = of_number s _ i l adm.permanent;
    variable = of_number s _ i l adm.variable;
    event = of_number s _ i l adm.event_parts;
  })

  -- the new mask, by kind
  pub mask_by : (e : Entry) (k : Kind) → Facts e → e.action.active ≡ true → e.action.kind ≡ k → mask mended e.number ≡ kind_mask count reaches s b xss set' e k
  mask_by e k fe t q = fe.looked ∙ ap (λ (on : Bool). cond on (kind_mask count reaches s b xss set' e e.action.kind) 0) t ∙ ap (kind_mask count reaches s b xss set' e) q

  leads_on : (e : Entry) → Facts e → keep e ≡ true → named c.leader e.number ≡ true → named (leader_from c.leader) e.number ≡ true
  leads_on e fe k n =
      let is : c.leader ≡ Some e.number = named_is c.leader e.number n in
      let same : keep (entry_at s e.number) ≡ true = ap keep fe.num.same ∙ k in
      ap (λ l. named (leader_from l) e.number) is ∙ ap (λ (on : Bool). named (cond on (Some e.number) (first-kept (entries s))) e.number) same ∙ eq-eqb e.number e.number refl

  dropped : (e : Entry) → e.action.active ≡ true → e.action.kind ≡ Variable → keep e ≡ false → (mask c e.number ≡ 0) ⊎ (chosen_of e ≡ 0)
  dropped e t q k =
      elim (cases_Bool (eqb (mask c e.number) 0)) [
        | inl z ↦ inl (eqb-true (mask c e.number) 0 z)
        | inr z ↦
            elim (cases_Bool (eqb (chosen_of e) 0)) [
              | inl w ↦ inr (eqb-true (chosen_of e) 0 w)
              | inr w ↦
                  let on : keep e ≡ true = ap (λ (x : Kind). is_variable x && (e.action.active && (not (eqb (mask c e.number) 0) && not (eqb (chosen_of e) 0)))) q ∙ ap (λ (x : Bool). x && (not (eqb (mask c e.number) 0) && not (eqb (chosen_of e) 0))) t ∙ ap (λ (x : Bool). not x && not (eqb (chosen_of e) 0)) z ∙ ap not w in
                  absurd (both_ways (keep e) k on)
            ]
      ]

  rule : (e : Entry) (fe : Facts e) (k : Kind) → e.action.active ≡ true → e.action.kind ≡ k → is_event k ≡ false
      → Rule form (set.forms c.form) kind laws (parts_of xss e) fe.own.few fe.own.parts k b.splits e.action.spread (named c.leader e.number) (named mended.leader e.number) (mask c e.number) (mask mended e.number)
  rule e fe Permanent t q n = (mask_by e Permanent fe t q, rw fe.own.size (fe.permanent (acts_of Permanent e.action t q)))
  rule e fe Prestress t q n = tt
  rule e fe Variable t q n =
      let m' : mask mended e.number ≡ cond (has set' e.place) (chosen_of e) 0 = mask_by e Variable fe t q in
      let bit : has set' e.place ≡ keep e = fe.bit (rw q tt) in
      let now : mask mended e.number ≡ cond (keep e) (chosen_of e) 0 = m' ∙ ap (λ (x : Bool). cond x (chosen_of e) 0) bit in (
        rw fe.own.size (fe.variable (acts_of Variable e.action t q)),
        elim (cases_Bool (keep e)) [
          | inl k ↦ inl (now ∙ ap (λ (x : Bool). cond x (chosen_of e) 0) k, leads_on e fe k)
          | inr k ↦ inr (now ∙ ap (λ (x : Bool). cond x (chosen_of e) 0) k, dropped e t q k)
        ],
      )
  rule e fe Accidental t q n = absurd (both_ways true n refl)
  rule e fe Seismic t q n = absurd (both_ways true n refl)

  -- each action but the events adds at least as much as before
  rest_over : (e : Entry) → Facts e → is_event e.action.kind ≡ false → Reaches kind laws (share count form xss mended e) (share count form xss c e)
  rest_over e fe n =
      let ok = set.forms c.form in
      elim (cases_Bool e.action.active) [
        | inl t ↦
            rw (share_active kind laws form ok xss mended e fe.own t, share_active kind laws form ok xss c e fe.own t)
            (kind_best form ok kind laws (parts_of xss e) fe.own.few fe.own.parts e.action.kind e.action.category b.splits e.action.spread (named c.leader e.number) (named mended.leader e.number) (mask c e.number) (mask mended e.number) (rule e fe e.action.kind t refl n))
        | inr t ↦
            rw (share_none kind laws form ok xss mended e fe.own t, share_none kind laws form ok xss c e fe.own t) (level kind laws (zero_value kind laws 200_000_000_000_000_000))
      ]

  pub rest_improves : (e : Entry) → Facts e → Improves kind laws (rest_parts kind laws form (set.forms c.form) xss e) (rest_share kind laws form (set.forms c.form) xss mended e) (rest_share kind laws form (set.forms c.form) xss c e)
  rest_improves e fe =
      let ok = set.forms c.form in
      record {
        new = rest_value kind laws form ok xss mended e fe.own;
        old = rest_value kind laws form ok xss c e fe.own;
        over =
            elim (cases_Bool (is_event e.action.kind)) [
              | inl t ↦ rw t (level kind laws (zero_value kind laws 200_000_000_000_000_000))
              | inr t ↦ rw t (rest_over e fe t)
            ];
      }
