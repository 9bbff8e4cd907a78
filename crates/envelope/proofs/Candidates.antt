-- The combinations with chosen parts, and the reported one among them.
use Rattle.std.proofs.Common.{◌≡◌, ℕ, zero, suc, ◌+◌, ◌^◌, ◌<◌, ◌≤◌, Bool, true, false, cond, not, ◌&&◌, ◌||◌, T, eqb, ◌⊎◌, List, [], ◌∷◌, map, length, get_or, ℤ, Some, None, fold, filter, Option, sym, refl, ap, ◌∙◌, subst, inl, inr, add-zero, zero-add, add-one, arith}
use native.Mathlib.Nat.{two-pow-succ}
use lib.Ieee.Bits.{is_true}
use lib.ListN.{length-map}
use Rattle.std.proofs.lemmas.Nat.{pow_pos}
use Rattle.std.proofs.lemmas.List.{get_or_past}
use Rattle.std.proofs.lemmas.List.Sums.{sum_by-cons}
use Rattle.std.proofs.lemmas.Bool.{cases_Bool, cases_lt, eqb-true, eq-eqb, both_ways, and_parts}
use Rattle.std.proofs.ByRecursion.{All-weaker, All-append, All-get_or, All-map, all_kept_by, kept_by_passes, has_append_left, has_append_right}
use Rattle.std.specs.List.{range_with_len, ContainsAt as Has, AllByRecursion as All}
use Rattle.basis.specs.declared.action.Kind.{Kind}
use Rattle.basis.specs.declared.action.Kind.TheVariants.{Permanent, Prestress, Variable, Accidental, Seismic}
use Rattle.basis.specs.Vocabulary.{is_variable, event_kind}
use Rattle.effects.specs.Laws.{Closed, Laws}
use Rattle.rulebooks.specs.Books.{Book}
use Rattle.sheet.specs.declared.action.Action.{Action}
use Rattle.sheet.specs.Content.{Content, action_at, variable_at}
use Rattle.sheet.specs.Limits.{no_action, variables}
use Rattle.envelope.specs.declared.combination.Combination.{Combination}
use Rattle.envelope.specs.declared.entry.Entry.{Entry}
use Rattle.envelope.specs.Entries.{entries_from, entries, nowhere, parts_of, acts, has, whole}
use Rattle.envelope.specs.Combinations.{mask, named, present, set_number, share, effect_of}
use Rattle.envelope.specs.Admissible.{Admissible, SpreadKept, Led, EventNamed, EventMask, active_parts}
use Rattle.envelope.specs.Choices.{choice, at_upper, event_choice, event_of}
use Rattle.envelope.specs.Reported.{with_chosen, chosen_mask, kind_mask, chosen_event, numbers, led, fits, candidates, reported, joined, every}
use Rattle.envelope.specs.Answers.{event_at_hand}
use Rattle.envelope.proofs.Bits.{mask_below, has_none}
use Rattle.envelope.proofs.Values.{Reaches, Lg, wider, chain}
use Rattle.envelope.proofs.Numbering.{entry_at, at_number, at_action, Numbered, numbered, of_number, each_number, looked_up, places_length, places_at, entries_length}
use Rattle.envelope.proofs.Totals.{total_share, entries_sum}
use Rattle.envelope.proofs.Setting.{Setting, Own, owned, is_event, share_value}
use Rattle.envelope.proofs.Events.{Proper, proper, own_some, Best, best_of, event_worth, worth_large}
use Rattle.envelope.proofs.Dominance.{acts_parts, effect_over}
use Rattle.envelope.proofs.Admitted.{absent_kept, upper_kept, choice_kept, event_kept, cond_below, choice_below, upper_below, event_below, either_event_of, admitted, variable_is, same_sum}
use Rattle.envelope.proofs.Mended.{mended, everywhere}

-- lists
every_counting : (test : ℕ → Bool) (a n : ℕ) → every test (range_with_len a n) ≡ true → (i : ℕ) → a ≤ i → i < a + n → test i ≡ true
every_counting test a zero h i l m = absurd (omega arith)
every_counting test a (suc n) h i l m =
    let p = and_parts (test a) (every test (range_with_len (a + 1) n)) h in
    elim (cases_lt a i) [
      | inl lt ↦ every_counting test (a + 1) n p.1 i (omega arith) (omega arith)
      | inr ge ↦ let e : a ≡ i = omega arith in ap test (sym e) ∙ p.0
    ]

counting_every : (test : ℕ → Bool) (a n : ℕ) → ((i : ℕ) → test i ≡ true) → every test (range_with_len a n) ≡ true
counting_every test a zero h = refl
counting_every test a (suc n) h = ap (λ (x : Bool). x && every test (range_with_len (a + 1) n)) (h a) ∙ counting_every test (a + 1) n h

all_counting : (a n : ℕ) → All (λ i. i < a + n) (range_with_len a n)
all_counting a zero = tt
all_counting a (suc n) = (omega arith, All-weaker (λ i. i < (a + 1) + n) _ (λ i l. omega arith) (range_with_len (a + 1) n) (all_counting (a + 1) n))

has_here : {A : Type 0} (a : A) (list : List A) → Has (a ∷ list) a
has_here a list = (0, omega arith, λ d. refl)

has_later : {A : Type 0} (x a : A) (list : List A) → Has list x → Has (a ∷ list) x
has_later x a list (k, l, at) = (suc k, omega arith, at)

has_counting : (a n i : ℕ) → a ≤ i → i < a + n → Has (range_with_len a n) i
has_counting a zero i l m = absurd (omega arith)
has_counting a (suc n) i l m =
    elim (cases_lt a i) [
      | inl lt ↦ has_later i a (range_with_len (a + 1) n) (has_counting (a + 1) n i (omega arith) (omega arith))
      | inr ge ↦ let e : a ≡ i = omega arith in subst (λ (j : ℕ). Has (a ∷ range_with_len (a + 1) n) j) e (has_here a (range_with_len (a + 1) n))
    ]

has_map : {A B : Type 0} (f : A → B) (list : List A) (x : A) → Has list x → Has (map f list) (f x)
has_map f [] x (k, l, at) = absurd (omega arith)
has_map f (a ∷ list) x (zero, l, at) = subst (λ b. Has (f a ∷ map f list) b) (ap f (at x)) (has_here (f a) (map f list))
has_map f (a ∷ list) x (suc k, l, at) = has_later (f x) (f a) (map f list) (has_map f list x (k, omega arith, at))

has_joined : {A B : Type 0} (f : A → List B) (list : List A) (a : A) (x : B) → Has list a → Has (f a) x → Has (joined f list) x
has_joined f [] a x (k, l, at) h = absurd (omega arith)
has_joined f (b ∷ list) a x (zero, l, at) h = has_append_left (f b) (joined f list) x (subst (λ c. Has (f c) x) (sym (at a)) h)
has_joined f (b ∷ list) a x (suc k, l, at) h = has_append_right (f b) (joined f list) x (has_joined f list a x (k, omega arith, at) h)

pub all_joined : {A B : Type 0} (P : B → Type 0) (f : A → List B) (list : List A) → All (λ a. All P (f a)) list → All P (joined f list)
all_joined P f [] h = tt
all_joined P f (a ∷ list) (h, hs) = All-append P (f a) (joined f list) h (all_joined P f list hs)

kept_some : {A : Type 0} (test : A → Bool) (list : List A) → every (λ a. cond (test a) false true) list ≡ false → 0 < length (filter test list)
kept_some test [] h = absurd (both_ways true h refl)
kept_some test (a ∷ list) h =
    elim (cases_Bool (test a)) [
      | inl t ↦ rw t (omega arith)
      | inr t ↦ rw t (kept_some test list (sym (ap (λ (x : Bool). cond x false true && every (λ a. cond (test a) false true) list) t) ∙ h))
    ]

nothing_summed : {A : Type 0} (list : List A) → fold (λ a (e : A). a + 0) 0 list ≡ 0
nothing_summed [] = refl
nothing_summed (a ∷ list) = nothing_summed list

-- the number of a set of variable actions is below 2 to their number
pub sum_below : (test : Entry → Bool) (start i k p : ℕ) (list : List Action) → start < 2 ^ k → All (λ e. is_variable e.action.kind ≡ false → test e ≡ false) (entries_from i k p list) → fold (λ a e. a + cond (test e) (2 ^ e.place) 0) start (entries_from i k p list) < 2 ^ (k + variables list)
sum_below test start i k p [] low off = rw (add-zero k) low
sum_below test start i k p (a ∷ rest) low (o, off) =
    let e : Entry = record { number = i; place = k; first = p; action = a } in
    let v : variables (a ∷ rest) ≡ cond (is_variable a.kind) 1 0 + variables rest = sum_by-cons (λ (x : Action). cond (is_variable x.kind) 1 0) a rest in
    let k' : ℕ = k + cond (is_variable a.kind) 1 0 in
    let start' : ℕ = start + cond (test e) (2 ^ k) 0 in
    let low' : start' < 2 ^ k' =
    elim (cases_Bool (is_variable a.kind)) [
      | inl t ↦
          let kk : k' ≡ suc k = ap (λ (x : Bool). k + cond x 1 0) t ∙ add-one k in
          let d = two-pow-succ k in
          rw kk (elim (cases_Bool (test e)) [
            | inl q ↦ let z : cond (test e) (2 ^ k) 0 ≡ 2 ^ k = ap (λ (x : Bool). cond x (2 ^ k) 0) q in omega arith
            | inr q ↦ let z : cond (test e) (2 ^ k) 0 ≡ 0 = ap (λ (x : Bool). cond x (2 ^ k) 0) q in omega arith
          ])
      | inr t ↦
          let kk : k' ≡ k = ap (λ (x : Bool). k + cond x 1 0) t ∙ add-zero k in
          let z : cond (test e) (2 ^ k) 0 ≡ 0 = ap (λ (x : Bool). cond x (2 ^ k) 0) (o t) in
          rw kk (omega arith)
    ] in
    let n : k + variables (a ∷ rest) ≡ k' + variables rest = omega arith in
    rw n (sum_below test start' (i + 1) k' (p + a.parts) rest low' off)

module _ {E : Type 0} {components : E → List ℤ} {count : ℕ} {reaches : List ℤ → List ℤ → Bool} (kind : Closed components count) (laws : Laws components count reaches)
    (s : Content) (b : Book) (xss : List (List ℤ)) (set : Setting kind laws s b xss) where
  abbrev picked : ℕ → Option ℕ → ℕ → Combination
  picked = with_chosen count reaches s b xss

  abbrev event : Option ℕ
  event = chosen_event count reaches s b xss

  -- what is known of each action under the set number t
  pub record Known (t : ℕ) (e : Entry) : Type 0 where
    pub num : Numbered s e
    pub own : Own kind laws xss e
    pub some : 0 < length (parts_of xss e)
    pub looked : mask (picked 0 None t) e.number ≡ chosen_mask count reaches s b xss t e

  pub known : (t : ℕ) → All (Known t) (entries s)
  known t = each_number s (Known t) (λ i l.
      let pe : Proper kind laws s b xss set (entry_at s i) = of_number s _ i l (proper kind laws s b xss set) in
      record {
        num = pe.0;
        own = pe.1.0;
        some = own_some kind laws s b xss set (entry_at s i) pe.1.0 pe.1.1;
        looked = of_number s _ i l (looked_up s (chosen_mask count reaches s b xss t) set.short);
      })

  by_known : (t : ℕ) (P : Entry → Type 0) → ((e : Entry) → Known t e → P e) → All P (entries s)
  by_known t P h = All-weaker (Known t) P h (entries s) (known t)

  pub mask_on : (t : ℕ) (e : Entry) (k : Kind) → Known t e → e.action.active ≡ true → e.action.kind ≡ k → mask (picked 0 None t) e.number ≡ kind_mask count reaches s b xss t e k
  mask_on t e k fe q r = fe.looked ∙ ap (λ (on : Bool). cond on (kind_mask count reaches s b xss t e e.action.kind) 0) q ∙ ap (kind_mask count reaches s b xss t e) r

  mask_off : (t : ℕ) (e : Entry) → Known t e → e.action.active ≡ false → mask (picked 0 None t) e.number ≡ 0
  mask_off t e fe q = fe.looked ∙ ap (λ (on : Bool). cond on (kind_mask count reaches s b xss t e e.action.kind) 0) q

  kind_below : (t : ℕ) (e : Entry) (k : Kind) → Known t e → kind_mask count reaches s b xss t e k < 2 ^ e.action.parts
  kind_below t e Permanent fe = subst (λ (n : ℕ). at_upper count reaches b.splits (parts_of xss e) < 2 ^ n) fe.own.size (upper_below kind laws (parts_of xss e) fe.own.few fe.own.parts b.splits fe.some)
  kind_below t e Prestress fe = mask_below (λ _. true) e.action.parts
  kind_below t e Variable fe = cond_below kind laws (parts_of xss e) fe.own.few fe.own.parts (has t e.place) (choice count reaches e.action.spread (parts_of xss e)) e.action.parts (subst (λ (n : ℕ). choice count reaches e.action.spread (parts_of xss e) < 2 ^ n) fe.own.size (choice_below kind laws (parts_of xss e) fe.own.few fe.own.parts e.action.spread fe.some))
  kind_below t e Accidental fe = cond_below kind laws (parts_of xss e) fe.own.few fe.own.parts (named event e.number) (event_choice count reaches e.action.spread (parts_of xss e)) e.action.parts (subst (λ (n : ℕ). event_choice count reaches e.action.spread (parts_of xss e) < 2 ^ n) fe.own.size (event_below kind laws (parts_of xss e) fe.own.few fe.own.parts e.action.spread fe.some))
  kind_below t e Seismic fe = cond_below kind laws (parts_of xss e) fe.own.few fe.own.parts (named event e.number) (event_choice count reaches e.action.spread (parts_of xss e)) e.action.parts (subst (λ (n : ℕ). event_choice count reaches e.action.spread (parts_of xss e) < 2 ^ n) fe.own.size (event_below kind laws (parts_of xss e) fe.own.few fe.own.parts e.action.spread fe.some))

  entry_below : (t : ℕ) (e : Entry) → Known t e → mask (picked 0 None t) e.number < 2 ^ active_parts e.action
  entry_below t e fe =
      elim (cases_Bool e.action.active) [
        | inl q ↦
            let p : active_parts e.action ≡ e.action.parts = ap (λ (on : Bool). cond on e.action.parts 0) q in
            subst (λ (n : ℕ). mask (picked 0 None t) e.number < 2 ^ n) (sym p) (subst (λ (k : ℕ). k < 2 ^ e.action.parts) (sym (mask_on t e e.action.kind fe q refl)) (kind_below t e e.action.kind fe))
        | inr q ↦ rw (mask_off t e fe q) (pow_pos (active_parts e.action))
      ]

  mask_past : (t i : ℕ) → length s.actions ≤ i → mask (picked 0 None t) i ≡ 0
  mask_past t i l =
      let list : List ℕ = map (chosen_mask count reaches s b xss t) (entries s) in
      let n : length list ≤ i = omega (arith, length-map (entries s) (chosen_mask count reaches s b xss t), entries_length 0 0 0 s.actions) in
      elim (cases_lt i 32) [
        | inl m ↦ places_at 32 list i m ∙ get_or_past list i 0 n
        | inr m ↦ get_or_past (picked 0 None t).masks i 0 (omega (arith, places_length 32 list 0))
      ]

  parts_kept : (t i : ℕ) → mask (picked 0 None t) i < 2 ^ active_parts (action_at s i)
  parts_kept t i =
      elim (cases_lt i (length s.actions)) [
        | inl l ↦ rw (at_number s i l, at_action s i l) at (entry_below t (entry_at s i) (of_number s (Known t) i l (known t)))
        | inr l ↦ rw (mask_past t i l) (pow_pos (active_parts (action_at s i)))
      ]

  event_masks : (t : ℕ) (e : Entry) (k : Kind) → Known t e → e.action.active ≡ true → e.action.kind ≡ k → is_event k ≡ true → mask (picked 0 None t) e.number ≡ cond (named event e.number) (event_choice count reaches e.action.spread (parts_of xss e)) 0
  event_masks t e Permanent fe q r n = absurd (both_ways false refl n)
  event_masks t e Prestress fe q r n = absurd (both_ways false refl n)
  event_masks t e Variable fe q r n = absurd (both_ways false refl n)
  event_masks t e Accidental fe q r n = mask_on t e Accidental fe q r
  event_masks t e Seismic fe q r n = mask_on t e Seismic fe q r

  event_kept_by : (t : ℕ) (e : Entry) → Known t e → T (acts Accidental e.action || acts Seismic e.action) → EventMask (named event e.number) e.action.spread e.action.parts (mask (picked 0 None t) e.number)
  event_kept_by t e fe h =
      let on = either_event_of e.action h in
      let m = event_masks t e e.action.kind fe on.0 refl on.1 in
      let w = event_choice count reaches e.action.spread (parts_of xss e) in
      elim (cases_Bool (named event e.number)) [
        | inl q ↦
            let is : mask (picked 0 None t) e.number ≡ w = m ∙ ap (λ (x : Bool). cond x w 0) q in
            rw (q, is) (subst (λ (n : ℕ). EventMask true e.action.spread n w) fe.own.size (event_kept kind laws (parts_of xss e) fe.own.few fe.own.parts e.action.spread fe.some))
        | inr q ↦ rw q (m ∙ ap (λ (x : Bool). cond x w 0) q)
      ]

  -- the event that is chosen, where one is at hand
  event_found : (o : Option Kind) → event_at_hand o s ≡ true → EventNamed o s (event_of count reaches o s xss)
  event_found None h = refl
  event_found (Some k) h =
      let evs : List Entry = filter (λ e. acts k e.action) (entries s) in
      let not_none : every (λ e. cond (acts k e.action) false true) (entries s) ≡ false =
      elim (cases_Bool (every (λ e. cond (acts k e.action) false true) (entries s))) [
        | inl a ↦ absurd (both_ways false refl (sym (ap (λ (x : Bool). cond x false true) a) ∙ h))
        | inr a ↦ a
      ] in
      let some : 0 < length evs = kept_some (λ (e : Entry). acts k e.action) (entries s) not_none in
      let props : All (Proper kind laws s b xss set) evs = all_kept_by (λ e. acts k e.action) (Proper kind laws s b xss set) (entries s) (proper kind laws s b xss set) in
      let best = best_of kind laws (event_worth kind laws s b xss set) evs nowhere some (All-map (Lg kind laws) (event_worth kind laws s b xss set) evs (All-weaker (Proper kind laws s b xss set) _ (worth_large kind laws s b xss set) evs props)) in
      let e : Entry = get_or evs best.place nowhere in
      let num = (All-get_or (Proper kind laws s b xss set) evs best.place nowhere best.within props).0 in
      let on : acts k e.action ≡ true = All-get_or (λ (e : Entry). acts k e.action ≡ true) evs best.place nowhere best.within (kept_by_passes (λ (e : Entry). acts k e.action) (entries s)) in
      let is : event_of count reaches (Some k) s xss ≡ Some e.number = ap (λ (o : Option Entry). elim o [ None ↦ None | Some e ↦ Some e.number ]) best.is in
      let acting : acts k (action_at s e.number) ≡ true = ap (acts k) (sym num.action) ∙ on in
      rw (is, acting) tt

  -- with chosen parts, what is left to ask is the set number, the pairs and the leader
  pub chosen_admissible : (f : ℕ) (l : Option ℕ) (t : ℕ) → f < b.forms → event_at_hand (event_kind b.situation) s ≡ true → t ≡ set_number s (picked f l t)
      → ((i j : ℕ) → present s (picked f l t) i ≡ true → present s (picked f l t) j ≡ true → s.marked i j ≡ false) → Led (b.form f).leader (present s (picked f l t)) l → Admissible s b (picked f l t)
  chosen_admissible f l t lf hand num prs lead = record {
    form = lf;
    permanent = by_known t _ (λ e fe h.
        let p = acts_parts Permanent e.action (is_true _ h) in
        let U = at_upper count reaches b.splits (parts_of xss e) in
        rw (mask_on t e Permanent fe p.0 p.1) (subst (λ (n : ℕ). T b.splits ⊎ ((U ≡ 0) ⊎ (U ≡ whole n))) fe.own.size (upper_kept kind laws (parts_of xss e) fe.own.few fe.own.parts b.splits)));
    prestress = by_known t _ (λ e fe h. let p = acts_parts Prestress e.action (is_true _ h) in mask_on t e Prestress fe p.0 p.1);
    variable = by_known t _ (λ e fe h.
        let p = acts_parts Variable e.action (is_true _ h) in
        let m = mask_on t e Variable fe p.0 p.1 in
        let w = choice count reaches e.action.spread (parts_of xss e) in
        elim (cases_Bool (has t e.place)) [
          | inl k ↦ rw (m ∙ ap (λ (x : Bool). cond x w 0) k) (subst (λ (n : ℕ). SpreadKept e.action.spread n w) fe.own.size (choice_kept kind laws (parts_of xss e) fe.own.few fe.own.parts e.action.spread fe.some))
          | inr k ↦ rw (m ∙ ap (λ (x : Bool). cond x w 0) k) (absent_kept e.action.spread e.action.parts)
        ]);
    pairs = prs;
    leader = lead;
    event = event_found (event_kind b.situation) hand;
    event_parts = by_known t _ (event_kept_by t);
    number = num;
    masks = places_length 32 (map (chosen_mask count reaches s b xss t) (entries s)) 0;
    parts = parts_kept t;
  }

  -- by number
  present_past : (x : Combination) (i : ℕ) → length s.actions ≤ i → present s x i ≡ false
  present_past x i l = ap (λ (a : Action). is_variable a.kind && not (eqb (mask x i) 0)) (get_or_past s.actions i no_action l)

  pub present_within : (x : Combination) (i : ℕ) → present s x i ≡ true → i < length s.actions
  present_within x i h = elim (cases_lt i (length s.actions)) [ inl l ↦ l | inr l ↦ absurd (both_ways (present s x i) (present_past x i l) h) ]

  not_both : (x y z : Bool) → not (x && (y && z)) ≡ true → x ≡ true → y ≡ true → z ≡ false
  not_both x y true h p q = absurd (both_ways false refl (sym (ap (λ (u : Bool). not (u && (y && true))) p ∙ ap (λ (u : Bool). not (u && true)) q) ∙ h))
  not_both x y false h p q = refl

  both_not : (x y z : Bool) → (x ≡ true → y ≡ true → z ≡ false) → not (x && (y && z)) ≡ true
  both_not false y z h = refl
  both_not true false z h = refl
  both_not true true z h = ap not (h refl refl)

  not-true : (x : Bool) → not x ≡ true → x ≡ false
  not-true true h = absurd (both_ways false refl h)
  not-true false h = refl

  led_from : (leader : Bool) (x : Combination) (l : Option ℕ) → led s leader x l ≡ true → Led leader (present s x) l
  led_from true x None h = λ i.
      elim (cases_lt i (length s.actions)) [
        | inl m ↦ not-true (present s x i) (every_counting (λ i. not (present s x i)) 0 (length s.actions) h i (omega arith) (omega arith))
        | inr m ↦ present_past x i m
      ]
  led_from true x (Some i) h = h
  led_from false x None h = refl
  led_from false x (Some i) h = absurd (both_ways false refl h)

  led_to : (leader : Bool) (x : Combination) (l : Option ℕ) → Led leader (present s x) l → led s leader x l ≡ true
  led_to true x None h = counting_every (λ i. not (present s x i)) 0 (length s.actions) (λ i. ap not (h i))
  led_to true x (Some i) h = h
  led_to false x None h = refl
  led_to false x (Some i) h = absurd (let z : ◌≡◌ {A = ℕ} 0 1 = cc in omega arith)

  abbrev clear : Combination → Bool
  clear x = every (λ i. every (λ j. not (present s x i && (present s x j && s.marked i j))) (numbers s)) (numbers s)

  clear_from : (x : Combination) → clear x ≡ true → (i j : ℕ) → present s x i ≡ true → present s x j ≡ true → s.marked i j ≡ false
  clear_from x h i j p q =
      let row = every_counting (λ i. every (λ j. not (present s x i && (present s x j && s.marked i j))) (numbers s)) 0 (length s.actions) h i (omega arith) (omega (arith, present_within x i p)) in
      let cell = every_counting (λ j. not (present s x i && (present s x j && s.marked i j))) 0 (length s.actions) row j (omega arith) (omega (arith, present_within x j q)) in
      not_both (present s x i) (present s x j) (s.marked i j) cell p q

  clear_to : (x : Combination) → ((i j : ℕ) → present s x i ≡ true → present s x j ≡ true → s.marked i j ≡ false) → clear x ≡ true
  clear_to x h =
      counting_every (λ i. every (λ j. not (present s x i && (present s x j && s.marked i j))) (numbers s)) 0 (length s.actions)
      (λ i. counting_every (λ j. not (present s x i && (present s x j && s.marked i j))) 0 (length s.actions) (λ j. both_not (present s x i) (present s x j) (s.marked i j) (h i j)))

  -- a set number is below 2 to the number of variable actions
  pub set_below : (x : Combination) → set_number s x < 2 ^ variables s.actions
  set_below x =
      let off : All (λ e. is_variable e.action.kind ≡ false → present s x e.number ≡ false) (entries s) =
      All-weaker (Numbered s) _ (λ e n v. ap (λ (u : Bool). u && not (eqb (mask x e.number) 0)) (ap (λ (a : Action). is_variable a.kind) (sym n.action) ∙ v)) (entries s) (numbered s) in
      let h = sum_below (λ e. present s x e.number) 0 0 0 0 s.actions (omega arith) off in
      rw (zero-add (variables s.actions)) at h

  -- every effect of a combination is within the laws
  pub effect_large : (x : Combination) → Lg kind laws (effect_of count s b xss x)
  effect_large x =
      let sum = entries_sum 0 0 0 s.actions in
      let few = set.few in
      wider kind laws 200_000_000_000_000_000 (omega arith)
      (total_share kind laws (λ (e : Entry). e.action.parts) (share count (b.form x.form) xss x) (entries s) (omega arith)
      (All-weaker (Own kind laws xss) _ (λ e own. share_value kind laws (b.form x.form) (set.forms x.form) xss x e own) (entries s) (owned kind laws s b xss set)))

  and_both : (x y : Bool) → x ≡ true → y ≡ true → (x && y) ≡ true
  and_both x y p q = ap (λ (u : Bool). u && y) p ∙ q

  module _ (hand : event_at_hand (event_kind b.situation) s ≡ true) where
    from_fits : (f : ℕ) (l : Option ℕ) (t : ℕ) → f < b.forms → fits s b (picked f l t) ≡ true → Admissible s b (picked f l t)
    from_fits f l t lf h =
        let x = picked f l t in
        let p = and_parts (eqb t (set_number s x)) (clear x && led s (b.form f).leader x l) h in
        let q = and_parts (clear x) (led s (b.form f).leader x l) p.1 in
        chosen_admissible f l t lf hand (eqb-true t (set_number s x) p.0) (clear_from x q.0) (led_from (b.form f).leader x l q.1)

    to_fits : (f : ℕ) (l : Option ℕ) (t : ℕ) → Admissible s b (picked f l t) → fits s b (picked f l t) ≡ true
    to_fits f l t a =
        let x = picked f l t in
        and_both (eqb t (set_number s x)) (clear x && led s (b.form f).leader x l) (eq-eqb t (set_number s x) a.number)
        (and_both (clear x) (led s (b.form f).leader x l) (clear_to x a.pairs) (led_to (b.form f).leader x l a.leader))

    abbrev one : ℕ → Option ℕ → ℕ → List Combination
    one f l t = cond (fits s b (picked f l t)) (picked f l t ∷ []) []

    -- each candidate is admissible
    abbrev pub Good : Combination → Type 0
    Good x = Admissible s b x × (x ≡ picked x.form x.leader x.set)

    pub all_good : All Good (candidates count reaches s b xss)
    all_good =
        all_joined Good (λ f. joined (λ l. joined (one f l) (range_with_len 0 (2 ^ variables s.actions))) (None ∷ map Some (numbers s))) (range_with_len 0 b.forms)
        (All-weaker (λ f. f < 0 + b.forms) _ (λ f lf.
        all_joined Good (λ l. joined (one f l) (range_with_len 0 (2 ^ variables s.actions))) (None ∷ map Some (numbers s))
        (everywhere _ (λ l.
        all_joined Good (one f l) (range_with_len 0 (2 ^ variables s.actions))
        (everywhere _ (λ t.
        elim (cases_Bool (fits s b (picked f l t))) [
          | inl h ↦ rw h ((from_fits f l t (omega arith) h, refl), tt)
          | inr h ↦ rw h tt
        ]) (range_with_len 0 (2 ^ variables s.actions))))
        (None ∷ map Some (numbers s))))
        (range_with_len 0 b.forms) (all_counting 0 b.forms))

    -- each admissible combination with chosen parts is a candidate
    led_listed : (leader : Bool) (x : Combination) (l : Option ℕ) → Led leader (present s x) l → Has (None ∷ map Some (numbers s)) l
    led_listed leader x None h = has_here None (map Some (numbers s))
    led_listed true x (Some i) h = has_later (Some i) None (map Some (numbers s)) (has_map Some (numbers s) i (has_counting 0 (length s.actions) i (omega arith) (omega (arith, present_within x i h))))
    led_listed false x (Some i) h = absurd (let z : ◌≡◌ {A = ℕ} 0 1 = cc in omega arith)

    pub listed : (f : ℕ) (l : Option ℕ) (t : ℕ) → Admissible s b (picked f l t) → Has (candidates count reaches s b xss) (picked f l t)
    listed f l t a =
        let sets = range_with_len 0 (2 ^ variables s.actions) in
        let x = picked f l t in
        let low : t < 2 ^ variables s.actions = rw a.number (set_below x) in
        has_joined (λ f. joined (λ l. joined (one f l) sets) (None ∷ map Some (numbers s))) (range_with_len 0 b.forms) f x (has_counting 0 b.forms f (omega arith) (omega (arith, a.form)))
        (has_joined (λ l. joined (one f l) sets) (None ∷ map Some (numbers s)) l x (led_listed (b.form f).leader x l a.leader)
        (has_joined (one f l) sets t x (has_counting 0 (2 ^ variables s.actions) t (omega arith) (omega arith))
        (subst (λ (u : Bool). Has (cond u (x ∷ []) []) x) (sym (to_fits f l t a)) (has_here x []))))

    module _ (forms : 0 < b.forms) where
      abbrev base : Combination
      base = picked 0 None 0

      base_mask : (e : Entry) → Known 0 e → is_variable e.action.kind ≡ true → mask base e.number ≡ 0
      base_mask e fe v =
          elim (cases_Bool e.action.active) [
            | inl q ↦ mask_on 0 e Variable fe q (variable_is e.action.kind v) ∙ ap (λ (u : Bool). cond u (choice count reaches e.action.spread (parts_of xss e)) 0) (has_none e.place)
            | inr q ↦ mask_off 0 e fe q
          ]

      base_entry : (e : Entry) → Known 0 e → present s base e.number ≡ false
      base_entry e fe =
          let at : variable_at s e.number ≡ is_variable e.action.kind = ap (λ (a : Action). is_variable a.kind) (sym fe.num.action) in
          elim (cases_Bool (is_variable e.action.kind)) [
            | inl v ↦ ap (λ (u : Bool). u && not (eqb (mask base e.number) 0)) (at ∙ v) ∙ ap (λ m. not (eqb m 0)) (base_mask e fe v)
            | inr v ↦ ap (λ (u : Bool). u && not (eqb (mask base e.number) 0)) (at ∙ v)
          ]

      base_present : (i : ℕ) → present s base i ≡ false
      base_present i =
          elim (cases_lt i (length s.actions)) [
            | inl l ↦ ap (present s base) (sym (at_number s i l)) ∙ base_entry (entry_at s i) (of_number s (Known 0) i l (known 0))
            | inr l ↦ present_past base i l
          ]

      base_led : (leader : Bool) → Led leader (present s base) None
      base_led true = base_present
      base_led false = refl

      base_number : 0 ≡ set_number s base
      base_number =
          sym (same_sum (λ (e : Entry). cond (present s base e.number) (2 ^ e.place) 0) (λ e. 0) (entries s) 0 (everywhere _ (λ e. ap (λ (u : Bool). cond u (2 ^ e.place) 0) (base_present e.number)) (entries s)) ∙ nothing_summed (entries s))

      base_admissible : Admissible s b base
      base_admissible = chosen_admissible 0 None 0 forms hand base_number (λ i j p q. absurd (both_ways (present s base i) (base_present i) p)) (base_led (b.form 0).leader)

      abbrev list : List Combination
      list = candidates count reaches s b xss

      some_candidate : 0 < length list
      some_candidate = let h = listed 0 None 0 base_admissible in let l = h.1 in omega arith

      pub best : Best kind laws (effect_of count s b xss) list base
      best = best_of kind laws (effect_of count s b xss) list base some_candidate (All-map (Lg kind laws) (effect_of count s b xss) list (everywhere _ effect_large list))

      pub reported_is : reported count reaches s b xss ≡ get_or list best.place base
      reported_is = ap (λ (o : Option Combination). elim o [ None ↦ base | Some c ↦ c ]) best.is

      -- the reported combination is admissible with chosen parts, and no admissible combination ranks above it
      pub reported_good : Admissible s b (reported count reaches s b xss)
      reported_good = rw reported_is (All-get_or Good list best.place base best.within all_good).0

      pub reported_over : (c : Combination) → Admissible s b c → Reaches kind laws (effect_of count s b xss (reported count reaches s b xss)) (effect_of count s b xss c)
      reported_over c adm =
          let m = mended kind laws s b xss set c adm in
          let h = listed m.form m.leader m.set (admitted kind laws s b xss set c adm) in
          let k = h.0 in
          let first : Reaches kind laws (effect_of count s b xss (get_or list best.place base)) (effect_of count s b xss m) =
          subst (λ (x : Combination). Reaches kind laws (effect_of count s b xss (get_or list best.place base)) (effect_of count s b xss x)) (h.2 base) (best.over k h.1) in
          rw reported_is (chain kind laws (effect_large (get_or list best.place base)) (effect_large m) (effect_large c) first (effect_over kind laws s b xss set c adm))
