-- The combination with chosen parts is admissible again.
use Rattle.std.proofs.Common.{◌≡◌, ℕ, ◌+◌, ◌^◌, ◌<◌, ◌≤◌, Bool, true, false, cond, not, ◌&&◌, ◌||◌, T, eqb, ◌⊎◌, List, [], ◌∷◌, map, length, get_or, ℤ, Some, None, fold, Option, sym, refl, ap, ◌∙◌, subst, inl, inr, arith}
use lib.Ieee.Bits.{is_true}
use lib.ListN.{length-map}
use Rattle.std.proofs.lemmas.Nat.{pow_pos, pow_below}
use Rattle.std.proofs.lemmas.List.{get_or_past}
use Rattle.std.proofs.lemmas.Bool.{cases_Bool, cases_lt, both_ways, and_parts}
use Rattle.std.proofs.ByRecursion.{All-weaker}
use Rattle.std.specs.List.{AllByRecursion as All}
use Rattle.basis.specs.declared.action.Kind.{Kind}
use Rattle.basis.specs.declared.action.Kind.TheVariants.{Permanent, Prestress, Variable, Accidental, Seismic}
use Rattle.basis.specs.declared.action.Spread.{Spread}
use Rattle.basis.specs.declared.action.Spread.TheVariants.{Fixed, Free, Alternative}
use Rattle.basis.specs.Vocabulary.{is_variable, event_kind}
use Rattle.effects.specs.Supplies.{exact_total}
use Rattle.effects.specs.Laws.{Closed, Laws}
use Rattle.rulebooks.specs.Books.{Book}
use Rattle.sheet.specs.declared.action.Action.{Action}
use Rattle.sheet.specs.Content.{Content, action_at, variable_at}
use Rattle.sheet.specs.Limits.{no_action}
use Rattle.envelope.specs.declared.combination.Combination.{Combination}
use Rattle.envelope.specs.declared.entry.Entry.{Entry}
use Rattle.envelope.specs.Entries.{entries, parts_of, acts, has, whole}
use Rattle.envelope.specs.Combinations.{mask, named, present}
use Rattle.envelope.specs.Admissible.{Admissible, SpreadKept, Led, EventNamed, EventMask, active_parts}
use Rattle.envelope.specs.Choices.{above_zero, greatest_part, choice, at_upper, event_choice, event_of}
use Rattle.envelope.specs.Reported.{chosen_mask, kind_mask}
use Rattle.envelope.proofs.Bits.{mask_below}
use Rattle.envelope.proofs.Weights.{Parts}
use Rattle.envelope.proofs.Choose.{large}
use Rattle.envelope.proofs.Tops.{top_of}
use Rattle.envelope.proofs.Numbering.{entry_at, at_number, at_action, of_number, places_length, places_at, entries_length}
use Rattle.envelope.proofs.Setting.{Setting, is_event}
use Rattle.envelope.proofs.Mended.{Facts, facts, mended, mask_by, keep, first-kept, leader_from, set'}
use Rattle.envelope.proofs.Events.{Proper, proper, own_some}
use Rattle.envelope.proofs.Dominance.{acts_parts, best, quiet_by}

pub variable_is : (k : Kind) → is_variable k ≡ true → k ≡ Variable
variable_is Permanent e = absurd (both_ways false refl e)
variable_is Prestress e = absurd (both_ways false refl e)
variable_is Variable e = refl
variable_is Accidental e = absurd (both_ways false refl e)
variable_is Seismic e = absurd (both_ways false refl e)

pub either_event_of : (a : Action) → T (acts Accidental a || acts Seismic a) → (a.active ≡ true) × (is_event a.kind ≡ true)
either_event_of a h =
    elim (cases_Bool (acts Accidental a)) [
      | inl t ↦ let p = acts_parts Accidental a t in (p.0, ap is_event p.1)
      | inr t ↦ let p = acts_parts Seismic a (is_true (acts Seismic a) (rw t at h)) in (p.0, ap is_event p.1)
    ]

pub absent_kept : (spread : Spread) (n : ℕ) → SpreadKept spread n 0
absent_kept Fixed n = inl refl
absent_kept Free n = tt
absent_kept Alternative n = inl refl

pub same_sum : {A : Type 0} (f g : A → ℕ) (list : List A) (start : ℕ) → All (λ a. f a ≡ g a) list → fold (λ a e. a + f e) start list ≡ fold (λ a e. a + g e) start list
same_sum f g [] start same = refl
same_sum f g (a ∷ list) start (e, same) = ap (λ n. fold (λ a e. a + f e) (start + n) list) e ∙ same_sum f g list (start + g a) same

module _ {E : Type 0} {components : E → List ℤ} {count : ℕ} {reaches : List ℤ → List ℤ → Bool} (kind : Closed components count) (laws : Laws components count reaches)
    (xss : List (List ℤ)) (few : length xss ≤ 192) (ps : Parts kind laws xss) where
  fixed_kept : (choice count reaches Fixed xss ≡ 0) ⊎ (choice count reaches Fixed xss ≡ whole (length xss))
  fixed_kept =
      elim (cases_Bool (above_zero count reaches (exact_total count xss))) [
        | inl e ↦ inr (ap (λ (t : Bool). cond t (whole (length xss)) 0) e)
        | inr e ↦ inl (ap (λ (t : Bool). cond t (whole (length xss)) 0) e)
      ]

  pub upper_kept : (splits : Bool) → T splits ⊎ ((at_upper count reaches splits xss ≡ 0) ⊎ (at_upper count reaches splits xss ≡ whole (length xss)))
  upper_kept true = inl tt
  upper_kept false = inr fixed_kept

  pub choice_kept : (spread : Spread) → 0 < length xss → SpreadKept spread (length xss) (choice count reaches spread xss)
  choice_kept Fixed l = fixed_kept
  choice_kept Free l = tt
  choice_kept Alternative l =
      let g : ℕ = greatest_part count reaches xss in
      let t = top_of kind laws xss (large kind laws xss few ps) l in
      elim (cases_Bool (above_zero count reaches (get_or xss g []))) [
        | inl e ↦ inr (g, t.within, ap (λ (t : Bool). cond t (2 ^ g) 0) e)
        | inr e ↦ inl (ap (λ (t : Bool). cond t (2 ^ g) 0) e)
      ]

  pub event_kept : (spread : Spread) → 0 < length xss → EventMask true spread (length xss) (event_choice count reaches spread xss)
  event_kept Fixed l = refl
  event_kept Free l = refl
  event_kept Alternative l = let t = top_of kind laws xss (large kind laws xss few ps) l in (greatest_part count reaches xss, t.within, refl)

  pub cond_below : (t : Bool) (m n : ℕ) → m < 2 ^ n → cond t m 0 < 2 ^ n
  cond_below true m n h = h
  cond_below false m n h = pow_pos n

  power_below : (n : ℕ) → 0 < length xss → 2 ^ greatest_part count reaches xss < 2 ^ length xss
  power_below n l = let t = top_of kind laws xss (large kind laws xss few ps) l in pow_below (greatest_part count reaches xss) (length xss) t.within

  pub choice_below : (spread : Spread) → 0 < length xss → choice count reaches spread xss < 2 ^ length xss
  choice_below Fixed l = cond_below (above_zero count reaches (exact_total count xss)) (whole (length xss)) (length xss) (mask_below (λ _. true) (length xss))
  choice_below Free l = mask_below (λ p. above_zero count reaches (get_or xss p [])) (length xss)
  choice_below Alternative l = cond_below (above_zero count reaches (get_or xss (greatest_part count reaches xss) [])) (2 ^ greatest_part count reaches xss) (length xss) (power_below 0 l)

  pub upper_below : (splits : Bool) → 0 < length xss → at_upper count reaches splits xss < 2 ^ length xss
  upper_below true l = choice_below Free l
  upper_below false l = choice_below Fixed l

  pub event_below : (spread : Spread) → 0 < length xss → event_choice count reaches spread xss < 2 ^ length xss
  event_below Fixed l = mask_below (λ _. true) (length xss)
  event_below Free l = mask_below (λ _. true) (length xss)
  event_below Alternative l = power_below 0 l

module _ {E : Type 0} {components : E → List ℤ} {count : ℕ} {reaches : List ℤ → List ℤ → Bool} (kind : Closed components count) (laws : Laws components count reaches)
    (s : Content) (b : Book) (xss : List (List ℤ)) (set : Setting kind laws s b xss) (c : Combination) (adm : Admissible s b c) where
  abbrev new : Combination
  new = mended kind laws s b xss set c adm

  abbrev Known : Entry → Type 0
  Known = Facts kind laws s b xss set c adm

  abbrev kept : Entry → Bool
  kept = keep kind laws s b xss set c adm

  abbrev t' : ℕ
  t' = set' kind laws s b xss set c adm

  known : (i : ℕ) → i < length s.actions → Known (entry_at s i)
  known i l = of_number s Known i l (facts kind laws s b xss set c adm)

  some_at : (e : Entry) → Known e → 0 < length (parts_of xss e)
  some_at e fe =
      let pe : Proper kind laws s b xss set (entry_at s e.number) = of_number s _ e.number fe.num.within (proper kind laws s b xss set) in
      let qe : Proper kind laws s b xss set e = subst (Proper kind laws s b xss set) fe.num.same pe in
      own_some kind laws s b xss set e qe.1.0 qe.1.1

  chosen_of : Entry → ℕ
  chosen_of e = choice count reaches e.action.spread (parts_of xss e)

  -- the mask of a suspended action, and of an active variable one
  mask_off : (e : Entry) → Known e → e.action.active ≡ false → mask new e.number ≡ 0
  mask_off e fe t = fe.looked ∙ ap (λ (on : Bool). cond on (kind_mask count reaches s b xss t' e e.action.kind) 0) t

  mask_variable : (e : Entry) → Known e → e.action.active ≡ true → e.action.kind ≡ Variable → mask new e.number ≡ cond (kept e) (choice count reaches e.action.spread (parts_of xss e)) 0
  mask_variable e fe t q = mask_by kind laws s b xss set c adm e Variable fe t q ∙ ap (λ (x : Bool). cond x (choice count reaches e.action.spread (parts_of xss e)) 0) (fe.bit (rw q tt))

  -- what staying says
  pub record Stays (e : Entry) : Type 0 where
    pub variable : is_variable e.action.kind ≡ true
    pub active : e.action.active ≡ true
    pub was : eqb (mask c e.number) 0 ≡ false
    pub some : eqb (choice count reaches e.action.spread (parts_of xss e)) 0 ≡ false

  not-true : (x : Bool) → not x ≡ true → x ≡ false
  not-true true h = absurd (both_ways false refl h)
  not-true false h = refl

  stays : (e : Entry) → kept e ≡ true → Stays e
  stays e k =
      let a = and_parts (is_variable e.action.kind) _ k in
      let d = and_parts e.action.active _ a.1 in
      let f = and_parts (not (eqb (mask c e.number) 0)) _ d.1 in
      record { variable = a.0; active = d.0; was = not-true _ f.0; some = not-true _ f.1 }

  at_entry : (e : Entry) → Known e → variable_at s e.number ≡ is_variable e.action.kind
  at_entry e fe = ap (λ (a : Action). is_variable a.kind) (sym fe.num.action)

  -- present is what stays
  present_new : (e : Entry) → Known e → present s new e.number ≡ kept e
  present_new e fe =
      elim (cases_Bool (is_variable e.action.kind)) [
        | inr v ↦ ap (λ (x : Bool). x && not (eqb (mask new e.number) 0)) (at_entry e fe ∙ v) ∙ sym (ap (λ (x : Bool). x && (e.action.active && (not (eqb (mask c e.number) 0) && not (eqb (choice count reaches e.action.spread (parts_of xss e)) 0)))) v)
        | inl v ↦
            let front : present s new e.number ≡ not (eqb (mask new e.number) 0) = ap (λ (x : Bool). x && not (eqb (mask new e.number) 0)) (at_entry e fe ∙ v) in
            elim (cases_Bool e.action.active) [
              | inr t ↦
                  front ∙ ap (λ m. not (eqb m 0)) (mask_off e fe t)
                  ∙ sym (ap (λ (x : Bool). x && (e.action.active && (not (eqb (mask c e.number) 0) && not (eqb (choice count reaches e.action.spread (parts_of xss e)) 0)))) v ∙ ap (λ (x : Bool). x && (not (eqb (mask c e.number) 0) && not (eqb (choice count reaches e.action.spread (parts_of xss e)) 0))) t)
              | inl t ↦
                  let m = mask_variable e fe t (variable_is e.action.kind v) in
                  elim (cases_Bool (kept e)) [
                    | inl k ↦ front ∙ ap (λ n. not (eqb n 0)) (m ∙ ap (λ (x : Bool). cond x (choice count reaches e.action.spread (parts_of xss e)) 0) k) ∙ ap not (stays e k).some ∙ sym k
                    | inr k ↦ front ∙ ap (λ n. not (eqb n 0)) (m ∙ ap (λ (x : Bool). cond x (choice count reaches e.action.spread (parts_of xss e)) 0) k) ∙ sym k
                  ]
            ]
      ]

  present_old : (e : Entry) → Known e → kept e ≡ true → present s c e.number ≡ true
  present_old e fe k =
      let st = stays e k in
      ap (λ (x : Bool). x && not (eqb (mask c e.number) 0)) (at_entry e fe ∙ st.variable) ∙ ap not st.was

  -- by number
  present_past : (x : Combination) (i : ℕ) → length s.actions ≤ i → present s x i ≡ false
  present_past x i l = ap (λ (a : Action). is_variable a.kind && not (eqb (mask x i) 0)) (get_or_past s.actions i no_action l)

  present_at : (i : ℕ) → i < length s.actions → present s new i ≡ kept (entry_at s i)
  present_at i l = ap (present s new) (sym (at_number s i l)) ∙ present_new (entry_at s i) (known i l)

  present_was : (i : ℕ) → present s new i ≡ true → present s c i ≡ true
  present_was i h =
      elim (cases_lt i (length s.actions)) [
        | inl l ↦ ap (present s c) (sym (at_number s i l)) ∙ present_old (entry_at s i) (known i l) (sym (present_at i l) ∙ h)
        | inr l ↦ absurd (both_ways (present s new i) (present_past new i l) h)
      ]

  -- the leader
  none_kept : (list : List Entry) → first-kept kind laws s b xss set c adm list ≡ None → All (λ e. kept e ≡ false) list
  none_kept [] h = tt
  none_kept (e ∷ list) h =
      elim (cases_Bool (kept e)) [
        | inl k ↦ absurd (let g : Some e.number ≡ None = sym (ap (λ (x : Bool). cond x (Some e.number) (first-kept kind laws s b xss set c adm list)) k) ∙ h in let z : ◌≡◌ {A = ℕ} 0 1 = cc in omega arith)
        | inr k ↦ (k, none_kept list (sym (ap (λ (x : Bool). cond x (Some e.number) (first-kept kind laws s b xss set c adm list)) k) ∙ h))
      ]

  some_kept : (list : List Entry) (i : ℕ) → All Known list → first-kept kind laws s b xss set c adm list ≡ Some i → present s new i ≡ true
  some_kept [] i fs h = absurd (let z : ◌≡◌ {A = ℕ} 0 1 = cc in omega arith)
  some_kept (e ∷ list) i (fe, fs) h =
      elim (cases_Bool (kept e)) [
        | inl k ↦
            let g : Some e.number ≡ Some i = sym (ap (λ (x : Bool). cond x (Some e.number) (first-kept kind laws s b xss set c adm list)) k) ∙ h in
            let n : e.number ≡ i = cc in
            ap (present s new) (sym n) ∙ present_new e fe ∙ k
        | inr k ↦ some_kept list i fs (sym (ap (λ (x : Bool). cond x (Some e.number) (first-kept kind laws s b xss set c adm list)) k) ∙ h)
      ]

  none_present : All (λ e. kept e ≡ false) (entries s) → (i : ℕ) → present s new i ≡ false
  none_present none i =
      elim (cases_lt i (length s.actions)) [
        | inl l ↦ present_at i l ∙ of_number s (λ e. kept e ≡ false) i l none
        | inr l ↦ present_past new i l
      ]

  led_rest : (o : Option ℕ) → first-kept kind laws s b xss set c adm (entries s) ≡ o → Led true (present s new) o
  led_rest None h = none_present (none_kept (entries s) h)
  led_rest (Some j) h = some_kept (entries s) j (facts kind laws s b xss set c adm) h

  led_by : (leader : Bool) (l : Option ℕ) → Led leader (present s c) l → Led leader (present s new) (leader_from kind laws s b xss set c adm l)
  led_by false l h = ap (leader_from kind laws s b xss set c adm) h
  led_by true None h = λ i.
      elim (cases_Bool (present s new i)) [
        | inl p ↦ absurd (both_ways (present s c i) (h i) (present_was i p))
        | inr p ↦ p
      ]
  led_by true (Some i) h =
      elim (cases_Bool (kept (entry_at s i))) [
        | inl k ↦
            let l : i < length s.actions = elim (cases_lt i (length s.actions)) [ inl m ↦ m | inr m ↦ absurd (both_ways (present s c i) (present_past c i m) h) ] in
            rw k (present_at i l ∙ k)
        | inr k ↦ rw k (led_rest (first-kept kind laws s b xss set c adm (entries s)) refl)
      ]

  -- the event
  event_by_kind : (o : Option Kind) → event_kind b.situation ≡ o → (ev : Option ℕ) → c.event ≡ ev → EventNamed o s ev → EventNamed o s (event_of count reaches o s xss)
  event_by_kind None q ev is h = refl
  event_by_kind (Some k) q None is h = absurd h
  event_by_kind (Some k) q (Some j) is h =
      let ch = best kind laws s b xss set c adm k q j is h in
      let on : acts k (action_at s ch.entry.number) ≡ true = ap (acts k) (sym ch.proper.0.action) ∙ ch.acts_so in
      rw (ch.is, on) tt

  event_parts_by : (e : Entry) → Known e → T (acts Accidental e.action || acts Seismic e.action) → EventMask (named new.event e.number) e.action.spread e.action.parts (mask new e.number)
  event_parts_by e fe h =
      let on = either_event_of e.action h in
      let m = quiet_by kind laws s b xss set c adm e e.action.kind fe on.0 refl on.1 in
      let w = event_choice count reaches e.action.spread (parts_of xss e) in
      elim (cases_Bool (named new.event e.number)) [
        | inl t ↦
            let is : mask new e.number ≡ w = m ∙ ap (λ (x : Bool). cond x w 0) t in
            rw (t, is) (subst (λ (n : ℕ). EventMask true e.action.spread n w) fe.own.size (event_kept kind laws (parts_of xss e) fe.own.few fe.own.parts e.action.spread (some_at e fe)))
        | inr t ↦ rw t (m ∙ ap (λ (x : Bool). cond x w 0) t)
      ]

  -- a mask has no bit past its action's parts
  kind_below : (e : Entry) (k : Kind) → Known e → kind_mask count reaches s b xss t' e k < 2 ^ e.action.parts
  kind_below e Permanent fe = subst (λ (n : ℕ). at_upper count reaches b.splits (parts_of xss e) < 2 ^ n) fe.own.size (upper_below kind laws (parts_of xss e) fe.own.few fe.own.parts b.splits (some_at e fe))
  kind_below e Prestress fe = mask_below (λ _. true) e.action.parts
  kind_below e Variable fe = cond_below kind laws (parts_of xss e) fe.own.few fe.own.parts (has t' e.place) (choice count reaches e.action.spread (parts_of xss e)) e.action.parts (subst (λ (n : ℕ). choice count reaches e.action.spread (parts_of xss e) < 2 ^ n) fe.own.size (choice_below kind laws (parts_of xss e) fe.own.few fe.own.parts e.action.spread (some_at e fe)))
  kind_below e Accidental fe = cond_below kind laws (parts_of xss e) fe.own.few fe.own.parts (named new.event e.number) (event_choice count reaches e.action.spread (parts_of xss e)) e.action.parts (subst (λ (n : ℕ). event_choice count reaches e.action.spread (parts_of xss e) < 2 ^ n) fe.own.size (event_below kind laws (parts_of xss e) fe.own.few fe.own.parts e.action.spread (some_at e fe)))
  kind_below e Seismic fe = cond_below kind laws (parts_of xss e) fe.own.few fe.own.parts (named new.event e.number) (event_choice count reaches e.action.spread (parts_of xss e)) e.action.parts (subst (λ (n : ℕ). event_choice count reaches e.action.spread (parts_of xss e) < 2 ^ n) fe.own.size (event_below kind laws (parts_of xss e) fe.own.few fe.own.parts e.action.spread (some_at e fe)))

  entry_below : (e : Entry) → Known e → mask new e.number < 2 ^ active_parts e.action
  entry_below e fe =
      elim (cases_Bool e.action.active) [
        | inl t ↦
            let p : active_parts e.action ≡ e.action.parts = ap (λ (on : Bool). cond on e.action.parts 0) t in
            let m = mask_by kind laws s b xss set c adm e e.action.kind fe t refl in
            subst (λ (n : ℕ). mask new e.number < 2 ^ n) (sym p) (subst (λ (k : ℕ). k < 2 ^ e.action.parts) (sym m) (kind_below e e.action.kind fe))
        | inr t ↦ rw (mask_off e fe t) (pow_pos (active_parts e.action))
      ]

  mask_past : (i : ℕ) → length s.actions ≤ i → mask new i ≡ 0
  mask_past i l =
      let list : List ℕ = map (chosen_mask count reaches s b xss t') (entries s) in
      let n : length list ≤ i = omega (arith, length-map (entries s) (chosen_mask count reaches s b xss t'), entries_length 0 0 0 s.actions) in
      elim (cases_lt i 32) [
        | inl m ↦ places_at 32 list i m ∙ get_or_past list i 0 n
        | inr m ↦ get_or_past new.masks i 0 (omega (arith, places_length 32 list 0))
      ]

  parts_by : (i : ℕ) → mask new i < 2 ^ active_parts (action_at s i)
  parts_by i =
      elim (cases_lt i (length s.actions)) [
        | inl l ↦ rw (at_number s i l, at_action s i l) at (entry_below (entry_at s i) (known i l))
        | inr l ↦ rw (mask_past i l) (pow_pos (active_parts (action_at s i)))
      ]

  by_facts : (P : Entry → Type 0) → ((e : Entry) → Known e → P e) → All P (entries s)
  by_facts P h = All-weaker Known P h (entries s) (facts kind laws s b xss set c adm)

  pub admitted : Admissible s b new
  admitted = record {
    form = adm.form;
    permanent = by_facts _ (λ e fe h.
        let p = acts_parts Permanent e.action (is_true _ h) in
        let U = at_upper count reaches b.splits (parts_of xss e) in
        rw (mask_by kind laws s b xss set c adm e Permanent fe p.0 p.1) (subst (λ (n : ℕ). T b.splits ⊎ ((U ≡ 0) ⊎ (U ≡ whole n))) fe.own.size (upper_kept kind laws (parts_of xss e) fe.own.few fe.own.parts b.splits)));
    prestress = by_facts _ (λ e fe h.
        let p = acts_parts Prestress e.action (is_true _ h) in
        mask_by kind laws s b xss set c adm e Prestress fe p.0 p.1);
    variable = by_facts _ (λ e fe h.
        let p = acts_parts Variable e.action (is_true _ h) in
        let m = mask_variable e fe p.0 p.1 in
        let w = choice count reaches e.action.spread (parts_of xss e) in
        elim (cases_Bool (kept e)) [
          | inl k ↦ rw (m ∙ ap (λ (x : Bool). cond x w 0) k) (subst (λ (n : ℕ). SpreadKept e.action.spread n w) fe.own.size (choice_kept kind laws (parts_of xss e) fe.own.few fe.own.parts e.action.spread (some_at e fe)))
          | inr k ↦ rw (m ∙ ap (λ (x : Bool). cond x w 0) k) (absent_kept e.action.spread e.action.parts)
        ]);
    pairs = λ i j p q. adm.pairs i j (present_was i p) (present_was j q);
    leader = led_by (b.form c.form).leader c.leader adm.leader;
    event = event_by_kind (event_kind b.situation) refl c.event refl adm.event;
    event_parts = by_facts _ event_parts_by;
    number = same_sum (λ (e : Entry). cond (kept e) (2 ^ e.place) 0) (λ e. cond (present s new e.number) (2 ^ e.place) 0) (entries s) 0 (by_facts _ (λ e fe. ap (λ (x : Bool). cond x (2 ^ e.place) 0) (sym (present_new e fe))));
    masks = places_length 32 (map (chosen_mask count reaches s b xss t') (entries s)) 0;
    parts = parts_by;
  }
