-- A combination stays admissible, with the same effect, on a sheet that has only grown.
use Rattle.std.proofs.Common.{◌≡◌, ℕ, zero, suc, ◌+◌, ◌^◌, ◌<◌, ◌≤◌, Bool, true, false, cond, not, ◌&&◌, T, eqb, List, [], ◌∷◌, ◌++◌, map, length, get_or, take, drop, ℤ, Some, None, fold, sum_by, Option, sym, refl, ap, ◌∙◌, subst, inl, inr, add-zero, arith, length-drop}
use lib.Ieee.Bits.{is_true}
use Rattle.std.proofs.lemmas.Nat.{pow_pos}
use Rattle.std.proofs.lemmas.List.{get_or_past, take-append-le, drop-append-le}
use Rattle.std.proofs.lemmas.Bool.{cases_Bool, cases_lt, ne_eqb, both_ways}
use Rattle.std.proofs.ByRecursion.{All-weaker}
use Rattle.std.specs.List.{AllByRecursion as All}
use Rattle.basis.specs.declared.action.Kind.{Kind}
use Rattle.basis.specs.declared.action.Kind.TheVariants.{Permanent, Prestress, Variable, Accidental, Seismic}
use Rattle.basis.specs.Vocabulary.{is_variable, event_kind}
use Rattle.effects.specs.Components.{zeros, exact_sum}
use Rattle.effects.specs.Supplies.{exact_total}
use Rattle.effects.specs.Laws.{Closed, Laws}
use Rattle.effects.specs.Lists.{zeros_sum}
use Rattle.rulebooks.specs.Books.{Form, Book}
use Rattle.sheet.specs.declared.action.Action.{Action}
use Rattle.sheet.specs.Content.{Content, action_at, variable_at}
use Rattle.sheet.specs.Limits.{no_action}
use Rattle.sheet.specs.Calls.{switched}
use Rattle.envelope.specs.declared.combination.Combination.{Combination}
use Rattle.envelope.specs.declared.entry.Entry.{Entry}
use Rattle.envelope.specs.Entries.{entries_from, entries, parts_of, acts, has}
use Rattle.envelope.specs.Combinations.{mask, named, present, set_number, factor, coefficient, weighted, share, effect_of}
use Rattle.envelope.specs.Admissible.{Admissible, Led, EventNamed, active_parts}
use Rattle.envelope.proofs.Growth.{gains, Resumed, Grown, Extends}
use Rattle.envelope.proofs.Bits.{has_none}
use Rattle.envelope.proofs.Weights.{weighted_none}
use Rattle.envelope.proofs.Numbering.{Numbered, numbered, entry_parts}
use Rattle.envelope.proofs.Setting.{Setting, Own, owned}
use Rattle.envelope.proofs.Admitted.{absent_kept}
use Rattle.envelope.proofs.Dominance.{acts_parts}
use Rattle.envelope.proofs.Mended.{everywhere}

pub grown_length : (list list' : List Action) → Grown list list' → length list ≤ length list'
grown_length [] list' g = omega arith
grown_length (a ∷ list) [] g = absurd g
grown_length (a ∷ list) (a' ∷ list') (r, g) = let h = grown_length list list' g in omega arith

pub grown_at : (list list' : List Action) → Grown list list' → (i : ℕ) → i < length list → Resumed (get_or list i no_action) (get_or list' i no_action)
grown_at [] list' g i l = absurd (omega arith)
grown_at (a ∷ list) [] g i l = absurd g
grown_at (a ∷ list) (a' ∷ list') (r, g) zero l = r
grown_at (a ∷ list) (a' ∷ list') (r, g) (suc i) l = grown_at list list' g i (omega arith)

-- numbers at which nothing acts
pub record Fresh (c : Combination) (i : ℕ) : Type 0 where
  pub none : mask c i ≡ 0
  pub unnamed : named c.event i ≡ false

module _ (c : Combination) where
  -- what holds of the actions as they were, and of those at which nothing acted
  pub all_grown : (P : Entry → Type 0) → ((e : Entry) → gains e.action.kind ≡ true → Fresh c e.number → P e)
      → (i k p : ℕ) (list list' : List Action) → Grown list list'
      → All (λ e. e.action.active ≡ false → Fresh c e.number) (entries_from i k p list) → ((j : ℕ) → i + length list ≤ j → Fresh c j)
      → All P (entries_from i k p list) → All P (entries_from i k p list')
  all_grown P fresh i k p [] [] g off past old = tt
  all_grown P fresh i k p [] (a ∷ rest) (n, g) off past old = (
    fresh (record { number = i; place = k; first = p; action = a }) n (past i (omega arith)),
    all_grown P fresh (i + 1) (k + cond (is_variable a.kind) 1 0) (p + a.parts) [] rest g tt (λ j l. past j (omega arith)) tt,
  )
  all_grown P fresh i k p (a ∷ list) [] g off past old = absurd g
  all_grown P fresh i k p (a ∷ list) (a' ∷ list') (inl same, g) (o, off) past (h, old) =
      rw same (h, all_grown P fresh (i + 1) (k + cond (is_variable a.kind) 1 0) (p + a.parts) list list' g off (λ j l. past j (omega arith)) old)
  all_grown P fresh i k p (a ∷ list) (a' ∷ list') (inr (t, n, is), g) (o, off) past (h, old) =
      rw is (
        fresh (record { number = i; place = k; first = p; action = switched true a }) n (o t),
        all_grown P fresh (i + 1) (k + cond (is_variable a.kind) 1 0) (p + a.parts) list list' g off (λ j l. past j (omega arith)) old,
      )

  -- a sum over the actions to which nothing new adds
  pub sum_grown : (f : Entry → ℕ) → ((e : Entry) → Fresh c e.number → f e ≡ 0) → ((e e' : Entry) → e.number ≡ e'.number → e.place ≡ e'.place → e.action.kind ≡ e'.action.kind → f e ≡ f e')
      → (i k p start : ℕ) (list list' : List Action) → Grown list list'
      → All (λ e. e.action.active ≡ false → Fresh c e.number) (entries_from i k p list) → ((j : ℕ) → i + length list ≤ j → Fresh c j)
      → fold (λ a e. a + f e) start (entries_from i k p list') ≡ fold (λ a e. a + f e) start (entries_from i k p list)
  sum_grown f fresh same i k p start [] [] g off past = refl
  sum_grown f fresh same i k p start [] (a ∷ rest) (n, g) off past =
      let e : Entry = record { number = i; place = k; first = p; action = a } in
      ap (λ m. fold (λ a e. a + f e) (start + m) (entries_from (i + 1) (k + cond (is_variable a.kind) 1 0) (p + a.parts) rest)) (fresh e (past i (omega arith)))
      ∙ ap (λ m. fold (λ a e. a + f e) m (entries_from (i + 1) (k + cond (is_variable a.kind) 1 0) (p + a.parts) rest)) (add-zero start)
      ∙ sum_grown f fresh same (i + 1) (k + cond (is_variable a.kind) 1 0) (p + a.parts) start [] rest g tt (λ j l. past j (omega arith))
  sum_grown f fresh same i k p start (a ∷ list) [] g off past = absurd g
  sum_grown f fresh same i k p start (a ∷ list) (a' ∷ list') (inl is, g) (o, off) past =
      let e : Entry = record { number = i; place = k; first = p; action = a } in
      rw is (sum_grown f fresh same (i + 1) (k + cond (is_variable a.kind) 1 0) (p + a.parts) (start + f e) list list' g off (λ j l. past j (omega arith)))
  sum_grown f fresh same i k p start (a ∷ list) (a' ∷ list') (inr (t, n, is), g) (o, off) past =
      let e : Entry = record { number = i; place = k; first = p; action = a } in
      let e' : Entry = record { number = i; place = k; first = p; action = switched true a } in
      rw is
      (ap (λ m. fold (λ a e. a + f e) (start + m) (entries_from (i + 1) (k + cond (is_variable a.kind) 1 0) (p + a.parts) list')) (same e' e refl refl refl)
      ∙ sum_grown f fresh same (i + 1) (k + cond (is_variable a.kind) 1 0) (p + a.parts) (start + f e) list list' g off (λ j l. past j (omega arith)))

factor_fresh : (f : Form) (k : Kind) (cat : _) (leads : Bool) → gains k ≡ true → factor f k cat leads false ≡ 0
factor_fresh f Permanent cat leads g = absurd (both_ways false refl g)
factor_fresh f Prestress cat leads g = absurd (both_ways false refl g)
factor_fresh f Variable cat leads g = refl
factor_fresh f Accidental cat leads g = refl
factor_fresh f Seismic cat leads g = refl

and_none : (x : Bool) → (x && false) ≡ false
and_none true = refl
and_none false = refl

module _ {E : Type 0} {components : E → List ℤ} {count : ℕ} {reaches : List ℤ → List ℤ → Bool} (kind : Closed components count) (laws : Laws components count reaches)
    (f : Form) (c : Combination) (xss more : List (List ℤ)) where
  share_fresh : (e : Entry) → Own kind laws (xss ++ more) e → gains e.action.kind ≡ true → Fresh c e.number → share count f (xss ++ more) c e ≡ zeros count
  share_fresh e own g fr =
      weighted_none kind laws (coefficient f c e) (parts_of (xss ++ more) e)
      (λ p l.
      let h : has (mask c e.number) p ≡ false = ap (λ m. has m p) fr.none ∙ has_none p in
      let z : factor f e.action.kind e.action.category (named c.leader e.number) (has (mask c e.number) p) ≡ 0 =
      ap (factor f e.action.kind e.action.category (named c.leader e.number)) h ∙ factor_fresh f e.action.kind e.action.category (named c.leader e.number) g in
      elim (cases_Bool e.action.active) [ inl t ↦ rw t z | inr t ↦ rw t refl ])
      own.parts

  parts_same : (e : Entry) → e.first + e.action.parts ≤ length xss → parts_of (xss ++ more) e ≡ parts_of xss e
  parts_same e l =
      ap (take e.action.parts) (drop-append-le e.first xss more (omega arith))
      ∙ take-append-le e.action.parts (drop e.first xss) more (omega (arith, length-drop e.first xss))

  share_off : (e : Entry) → Own kind laws xss e → e.action.active ≡ false → share count f xss c e ≡ zeros count
  share_off e own t = weighted_none kind laws (coefficient f c e) (parts_of xss e) (λ p l. ap (λ (on : Bool). cond on (factor f e.action.kind e.action.category (named c.leader e.number) (has (mask c e.number) p)) 0) t) own.parts

  shares_grown : (i k p : ℕ) (list list' : List Action) → Grown list list'
      → All (λ e. e.action.active ≡ false → Fresh c e.number) (entries_from i k p list) → ((j : ℕ) → i + length list ≤ j → Fresh c j)
      → All (Own kind laws xss) (entries_from i k p list) → All (Own kind laws (xss ++ more)) (entries_from i k p list') → All (λ e. e.first + e.action.parts ≤ length xss) (entries_from i k p list)
      → exact_total count (map (share count f (xss ++ more) c) (entries_from i k p list')) ≡ exact_total count (map (share count f xss c) (entries_from i k p list))
  shares_grown i k p [] [] g off past own own' in_all = refl
  shares_grown i k p [] (a ∷ rest) (n, g) off past own (o', own') in_all =
      let e : Entry = record { number = i; place = k; first = p; action = a } in
      let others = entries_from (i + 1) (k + cond (is_variable a.kind) 1 0) (p + a.parts) rest in
      ap (λ x. exact_sum x (exact_total count (map (share count f (xss ++ more) c) others))) (share_fresh e o' n (past i (omega arith)))
      ∙ ap (exact_sum (zeros count)) (shares_grown (i + 1) (k + cond (is_variable a.kind) 1 0) (p + a.parts) [] rest g tt (λ j l. past j (omega arith)) tt own' tt)
      ∙ zeros_sum count (zeros count) (lib.ListN.length-replicate count _)
  shares_grown i k p (a ∷ list) [] g off past own own' in_all = absurd g
  shares_grown i k p (a ∷ list) (a' ∷ list') (inl is, g) (o, off) past (w, own) own' (l, in_all) =
      let e : Entry = record { number = i; place = k; first = p; action = a } in
      let k' : ℕ = k + cond (is_variable a.kind) 1 0 in
      let own'' : All (Own kind laws (xss ++ more)) (entries_from i k p (a ∷ list')) = subst (λ (x : Action). All (Own kind laws (xss ++ more)) (entries_from i k p (x ∷ list'))) is own' in
      ap (λ (x : Action). exact_total count (map (share count f (xss ++ more) c) (entries_from i k p (x ∷ list')))) is
      ∙ ap (λ y. exact_sum (weighted count (coefficient f c e) y) (exact_total count (map (share count f (xss ++ more) c) (entries_from (i + 1) k' (p + a.parts) list')))) (parts_same e l)
      ∙ ap (exact_sum (share count f xss c e)) (shares_grown (i + 1) k' (p + a.parts) list list' g off (λ j m. past j (omega arith)) own own''.1 in_all)
  shares_grown i k p (a ∷ list) (a' ∷ list') (inr (t, n, is), g) (o, off) past (w, own) own' (l, in_all) =
      let e : Entry = record { number = i; place = k; first = p; action = a } in
      let e' : Entry = record { number = i; place = k; first = p; action = switched true a } in
      let k' : ℕ = k + cond (is_variable a.kind) 1 0 in
      let own'' : All (Own kind laws (xss ++ more)) (entries_from i k p (switched true a ∷ list')) = subst (λ (x : Action). All (Own kind laws (xss ++ more)) (entries_from i k p (x ∷ list'))) is own' in
      ap (λ (x : Action). exact_total count (map (share count f (xss ++ more) c) (entries_from i k p (x ∷ list')))) is
      ∙ ap (λ y. exact_sum y (exact_total count (map (share count f (xss ++ more) c) (entries_from (i + 1) k' (p + a.parts) list')))) (share_fresh e' own''.0 n (o t) ∙ sym (share_off e w t))
      ∙ ap (exact_sum (share count f xss c e)) (shares_grown (i + 1) k' (p + a.parts) list list' g off (λ j m. past j (omega arith)) own own''.1 in_all)

-- the admissible combination c of the sheet s, on the sheet s'
module _ (s s' : Content) (b : Book) (c : Combination) (ext : Extends s s') (adm : Admissible s b c) where
  unnamed_by : (o : Option Kind) (ev : Option ℕ) (i : ℕ) → EventNamed o s ev → (action_at s i).active ≡ false → named ev i ≡ false
  unnamed_by o None i h t = refl
  unnamed_by None (Some j) i h t = absurd (let z : ◌≡◌ {A = ℕ} 0 1 = cc in omega arith)
  unnamed_by (Some k) (Some j) i h t =
      ne_eqb j i (λ e.
      let on : (action_at s i).active ≡ true = (acts_parts k (action_at s i) (is_true (acts k (action_at s i)) (subst (λ (m : ℕ). T (acts k (action_at s m))) e h))).0 in
      both_ways (action_at s i).active t on)

  pub fresh_at : (i : ℕ) → (action_at s i).active ≡ false → Fresh c i
  fresh_at i t = record {
    none = (let p : active_parts (action_at s i) ≡ 0 = ap (λ (on : Bool). cond on (action_at s i).parts 0) t in
        let m : mask c i < 2 ^ 0 = subst (λ (n : ℕ). mask c i < 2 ^ n) p (adm.parts i) in omega arith);
    unnamed = unnamed_by (event_kind b.situation) c.event i adm.event t;
  }

  pub past : (i : ℕ) → length s.actions ≤ i → Fresh c i
  past i l = fresh_at i (ap (λ (a : Action). a.active) (get_or_past s.actions i no_action l))

  pub off : All (λ e. e.action.active ≡ false → Fresh c e.number) (entries s)
  off = All-weaker (Numbered s) _ (λ e n t. fresh_at e.number (sym (ap (λ (a : Action). a.active) n.action) ∙ t)) (entries s) (numbered s)

  past₀ : (j : ℕ) → 0 + length s.actions ≤ j → Fresh c j
  past₀ j l = past j (omega arith)

  resumed_at : (i : ℕ) → i < length s.actions → Resumed (action_at s i) (action_at s' i)
  resumed_at i l = grown_at s.actions s'.actions ext.actions i l

  kind_same : (i : ℕ) → i < length s.actions → (action_at s' i).kind ≡ (action_at s i).kind
  kind_same i l = elim (resumed_at i l) [ inl e ↦ ap (λ (a : Action). a.kind) e | inr (t, n, e) ↦ ap (λ (a : Action). a.kind) e ]

  present_same : (i : ℕ) → present s' c i ≡ present s c i
  present_same i =
      elim (cases_lt i (length s.actions)) [
        | inl l ↦ ap (λ (k : Kind). is_variable k && not (eqb (mask c i) 0)) (kind_same i l)
        | inr l ↦
            let z : not (eqb (mask c i) 0) ≡ false = ap (λ m. not (eqb m 0)) (past i l).none in
            ap (λ (x : Bool). variable_at s' i && x) z ∙ and_none (variable_at s' i) ∙ sym (ap (λ (x : Bool). variable_at s i && x) z ∙ and_none (variable_at s i))
      ]

  led_same : (leader : Bool) (l : Option ℕ) → Led leader (present s c) l → Led leader (present s' c) l
  led_same false l h = h
  led_same true None h = λ i. present_same i ∙ h i
  led_same true (Some i) h = present_same i ∙ h

  event_same : (o : Option Kind) (ev : Option ℕ) → EventNamed o s ev → EventNamed o s' ev
  event_same None ev h = h
  event_same (Some k) None h = h
  event_same (Some k) (Some j) h =
      let on = acts_parts k (action_at s j) (is_true (acts k (action_at s j)) h) in
      let l : j < length s.actions =
      elim (cases_lt j (length s.actions)) [
        | inl m ↦ m
        | inr m ↦ absurd (both_ways (action_at s j).active (ap (λ (a : Action). a.active) (get_or_past s.actions j no_action m)) on.0)
      ] in
      elim (resumed_at j l) [
        | inl e ↦ rw e h
        | inr (t, n, e) ↦ absurd (both_ways (action_at s j).active t on.0)
      ]

  parts_still : (i : ℕ) → mask c i < 2 ^ active_parts (action_at s' i)
  parts_still i =
      elim (cases_lt i (length s.actions)) [
        | inl l ↦ elim (resumed_at i l) [
          | inl e ↦ rw e (adm.parts i)
          | inr (t, n, e) ↦ rw (fresh_at i t).none (pow_pos (active_parts (action_at s' i)))
        ]
        | inr l ↦ rw (past i l).none (pow_pos (active_parts (action_at s' i)))
      ]

  gains_not : (k k' : Kind) → gains k ≡ true → k ≡ k' → gains k' ≡ false → ⊥
  gains_not k k' g e h = both_ways (gains k') h (ap gains (sym e) ∙ g)

  pub persists : Admissible s' b c
  persists = record {
    form = adm.form;
    permanent = all_grown c _ (λ e g fr h. absurd (gains_not e.action.kind Permanent g (acts_parts Permanent e.action (is_true _ h)).1 refl)) 0 0 0 s.actions s'.actions ext.actions off past₀ adm.permanent;
    prestress = all_grown c _ (λ e g fr h. absurd (gains_not e.action.kind Prestress g (acts_parts Prestress e.action (is_true _ h)).1 refl)) 0 0 0 s.actions s'.actions ext.actions off past₀ adm.prestress;
    variable = all_grown c _ (λ e g fr h. rw fr.none (absent_kept e.action.spread e.action.parts)) 0 0 0 s.actions s'.actions ext.actions off past₀ adm.variable;
    pairs = λ i j p q.
        elim (cases_Bool (s'.marked i j)) [
          | inl m ↦ absurd (both_ways (s.marked i j) (adm.pairs i j (sym (present_same i) ∙ p) (sym (present_same j) ∙ q)) (ext.lifted i j m))
          | inr m ↦ m
        ];
    leader = led_same (b.form c.form).leader c.leader adm.leader;
    event = event_same (event_kind b.situation) c.event adm.event;
    event_parts = all_grown c _ (λ e g fr h. rw fr.unnamed fr.none) 0 0 0 s.actions s'.actions ext.actions off past₀ adm.event_parts;
    number = adm.number ∙ ap (λ (x : ℕ). x) (sym (sum_grown c (λ e. cond (present s c e.number) (2 ^ e.place) 0) (λ e fr. ap (λ (x : Bool). cond x (2 ^ e.place) 0) (ap (λ m. variable_at s e.number && not (eqb m 0)) fr.none ∙ and_none (variable_at s e.number))) (λ e e' n k q. ap (λ m. cond (present s c m) (2 ^ e.place) 0) n ∙ ap (λ m. cond (present s c e'.number) (2 ^ m) 0) k) 0 0 0 0 s.actions s'.actions ext.actions off past₀)) ∙ sums_same;
    masks = adm.masks;
    parts = parts_still;
  }
    where
      sums_same : sum_by (λ e. cond (present s c e.number) (2 ^ e.place) 0) (entries s') ≡ set_number s' c
      sums_same = Rattle.envelope.proofs.Admitted.same_sum (λ (e : Entry). cond (present s c e.number) (2 ^ e.place) 0) (λ e. cond (present s' c e.number) (2 ^ e.place) 0) (entries s') 0 (everywhere _ (λ e. ap (λ (x : Bool). cond x (2 ^ e.place) 0) (sym (present_same e.number))) (entries s'))

-- the effect stays
pub effect_persists : {E : Type 0} {components : E → List ℤ} {count : ℕ} {reaches : List ℤ → List ℤ → Bool} (kind : Closed components count) (laws : Laws components count reaches)
    (s s' : Content) (b : Book) (c : Combination) (xss more : List (List ℤ)) → Extends s s' → Admissible s b c → Setting kind laws s b xss → Setting kind laws s' b (xss ++ more)
    → effect_of count s' b (xss ++ more) c ≡ effect_of count s b xss c
effect_persists kind laws s s' b c xss more ext adm set set' =
    shares_grown kind laws (b.form c.form) c xss more 0 0 0 s.actions s'.actions ext.actions (off s s' b c ext adm) (λ j l. past s s' b c ext adm j (omega arith))
    (owned kind laws s b xss set) (owned kind laws s' b (xss ++ more) set')
    (All-weaker _ _ (λ e h. (let n = set.complete in omega arith)) (entries s) (entry_parts 0 0 0 s.actions))
