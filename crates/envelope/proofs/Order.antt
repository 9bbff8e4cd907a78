-- The order of combinations, and the reported one as the first greatest.
use Rattle.std.proofs.Common.{◌≡◌, ℕ, zero, suc, ◌+◌, ◌^◌, ◌<◌, ◌≤◌, Bool, true, false, cond, ◌&&◌, ◌||◌, T, eqb, ltb, ◌⊎◌, List, [], ◌∷◌, ◌++◌, map, length, get_or, ℤ, Some, None, Option, sym, refl, ap, ◌∙◌, subst, inl, inr, arith, T_not}
use lib.Dec.{not_T}
use lib.Ieee.Bits.{is_true}
use Rattle.std.proofs.lemmas.Bool.{cases_Bool, cases_order, eq-eqb, ne_eqb, lt-ltb, le-ltb, both_ways}
use Rattle.std.proofs.ByRecursion.{All-weaker, All-append, All-get_or}
use Rattle.std.specs.List.{range_with_len, AllByRecursion as All}
use Rattle.effects.specs.Laws.{Closed, Laws}
use Rattle.rulebooks.specs.Books.{Book}
use Rattle.sheet.specs.Content.{Content}
use Rattle.sheet.specs.Limits.{variables}
use Rattle.envelope.specs.declared.combination.Combination.{Combination}
use Rattle.envelope.specs.Combinations.{effect_of}
use Rattle.envelope.specs.Admissible.{Admissible}
use Rattle.basis.specs.Vocabulary.{event_kind}
use Rattle.envelope.specs.Reported.{before, leader_order, joined, with_chosen, fits, candidates, numbers, reported, Reported}
use Rattle.envelope.specs.Answers.{event_at_hand}
use Rattle.envelope.proofs.Setting.{Setting}
use Rattle.envelope.proofs.Mended.{everywhere}
use Rattle.envelope.proofs.Candidates.{all_good, Good, listed, best, reported_is, reported_good, reported_over, all_joined}

-- the order
or-not : (x y : Bool) → x ≡ false → y ≡ false → (x || y) ≡ false
or-not x y p q = ap (λ (u : Bool). u || y) p ∙ q

and-not : (x y : Bool) → x ≡ false → (x && y) ≡ false
and-not x y p = ap (λ (u : Bool). u && y) p

and_then : (x y : Bool) → y ≡ false → (x && y) ≡ false
and_then true y q = q
and_then false y q = refl

-- y does not come before x: by form, by leader, by set number
pub by_form : (x y : Combination) → x.form < y.form → before y x ≡ false
by_form x y l = or-not (ltb y.form x.form) _ (le-ltb y.form x.form (omega arith)) (and-not (eqb y.form x.form) _ (ne_eqb y.form x.form (λ e. omega arith)))

by_leader : (x y : Combination) → x.form ≡ y.form → leader_order x.leader < leader_order y.leader → before y x ≡ false
by_leader x y f l =
    or-not (ltb y.form x.form) _ (le-ltb y.form x.form (omega arith))
    (and_then (eqb y.form x.form) _ (or-not (ltb (leader_order y.leader) (leader_order x.leader)) _ (le-ltb (leader_order y.leader) (leader_order x.leader) (omega arith)) (and-not (eqb (leader_order y.leader) (leader_order x.leader)) _ (ne_eqb (leader_order y.leader) (leader_order x.leader) (λ e. omega arith)))))

by_set : (x y : Combination) → x.form ≡ y.form → leader_order x.leader ≡ leader_order y.leader → x.set ≤ y.set → before y x ≡ false
by_set x y f l t =
    or-not (ltb y.form x.form) _ (le-ltb y.form x.form (omega arith))
    (and_then (eqb y.form x.form) _ (or-not (ltb (leader_order y.leader) (leader_order x.leader)) _ (le-ltb (leader_order y.leader) (leader_order x.leader) (omega arith)) (and_then (eqb (leader_order y.leader) (leader_order x.leader)) _ (le-ltb y.set x.set (omega arith)))))

pub leader_same : (l m : Option ℕ) → leader_order l ≡ leader_order m → l ≡ m
leader_same None None e = refl
leader_same None (Some j) e = absurd (omega arith)
leader_same (Some i) None e = absurd (omega arith)
leader_same (Some i) (Some j) e = let n : i ≡ j = omega arith in ap Some n

-- one comes before the other, or they agree in form, leader and set number
in_order : (x y : Combination) → (before x y ≡ true) ⊎ ((before y x ≡ true) ⊎ ((x.form ≡ y.form) × (x.leader ≡ y.leader) × (x.set ≡ y.set)))
in_order x y =
    elim (cases_order x.form y.form) [
      | inr (inl l) ↦ inl (form_first x y l)
      | inr (inr l) ↦ inr (inl (form_first y x l))
      | inl f ↦
          elim (cases_order (leader_order x.leader) (leader_order y.leader)) [
            | inr (inl l) ↦ inl (leader_first x y f l)
            | inr (inr l) ↦ inr (inl (leader_first y x (sym f) l))
            | inl k ↦
                elim (cases_order x.set y.set) [
                  | inr (inl l) ↦ inl (set_first x y f k l)
                  | inr (inr l) ↦ inr (inl (set_first y x (sym f) (sym k) l))
                  | inl t ↦ inr (inr (f, leader_same x.leader y.leader k, t))
                ]
          ]
    ]
  where
    form_first : (x y : Combination) → x.form < y.form → before x y ≡ true
    form_first x y l = rw (lt-ltb x.form y.form l) refl

    leader_first : (x y : Combination) → x.form ≡ y.form → leader_order x.leader < leader_order y.leader → before x y ≡ true
    leader_first x y f l = rw (le-ltb x.form y.form (omega arith), eq-eqb x.form y.form f, lt-ltb (leader_order x.leader) (leader_order y.leader) l) refl

    set_first : (x y : Combination) → x.form ≡ y.form → leader_order x.leader ≡ leader_order y.leader → x.set < y.set → before x y ≡ true
    set_first x y f k l = rw (le-ltb x.form y.form (omega arith), eq-eqb x.form y.form f, le-ltb (leader_order x.leader) (leader_order y.leader) (omega arith), eq-eqb (leader_order x.leader) (leader_order y.leader) k) (lt-ltb x.set y.set l)

-- lists in order
abbrev Ordered : {A : Type 0} → (A → A → Type 0) → List A → Type 0
Ordered R [] = Unit {0}
Ordered R (a ∷ rest) = All (R a) rest × Ordered R rest

abbrev After : Combination → Combination → Type 0
After x y = before y x ≡ false

ordered_append : {A : Type 0} (R : A → A → Type 0) (xs ys : List A) → Ordered R xs → Ordered R ys → All (λ x. All (R x) ys) xs → Ordered R (xs ++ ys)
ordered_append R [] ys o p h = p
ordered_append R (x ∷ xs) ys (a, o) p (h, hs) = (All-append (R x) xs ys a h, ordered_append R xs ys o p hs)

-- lists whose elements carry the mark of what they came from
ordered_joined : {A B : Type 0} (S : A → A → Type 0) (R : B → B → Type 0) (Q : A → B → Type 0) (g : A → List B) → ((a a' : A) (x y : B) → S a a' → Q a x → Q a' y → R x y) → (list : List A) → Ordered S list → ((a : A) → Ordered R (g a)) → ((a : A) → All (Q a) (g a)) → Ordered R (joined g list)
ordered_joined S R Q g apart [] o inner marks = tt
ordered_joined S R Q g apart (a ∷ list) (s, o) inner marks =
    ordered_append R (g a) (joined g list) (inner a) (ordered_joined S R Q g apart list o inner marks)
    (All-weaker (Q a) _ (λ x q. all_joined (R x) g list (All-weaker (S a) _ (λ a' h. All-weaker (Q a') (R x) (λ y r. apart a a' x y h q r) (g a') (marks a')) list s)) (g a) (marks a))

above_counting : (i a n : ℕ) → i < a → All (λ j. i < j) (range_with_len a n)
above_counting i a zero l = tt
above_counting i a (suc n) l = (l, above_counting i (a + 1) n (omega arith))

ordered_counting : (a n : ℕ) → Ordered (λ i j. i < j) (range_with_len a n)
ordered_counting a zero = tt
ordered_counting a (suc n) = (above_counting a (a + 1) n (omega arith), ordered_counting (a + 1) n)

all_some : (P : Option ℕ → Type 0) (list : List ℕ) → All (λ i. P (Some i)) list → All P (map Some list)
all_some P [] h = tt
all_some P (i ∷ list) (h, hs) = (h, all_some P list hs)

ordered_some : (list : List ℕ) → Ordered (λ i j. i < j) list → Ordered (λ l m. leader_order l < leader_order m) (map Some list)
ordered_some [] o = tt
ordered_some (i ∷ list) (a, o) = (all_some (λ m. i + 1 < leader_order m) list (All-weaker (λ j. i < j) _ (λ j l. omega arith) list a), ordered_some list o)

ordered_at : {A : Type 0} (R : A → A → Type 0) (list : List A) (d : A) → Ordered R list → (i j : ℕ) → i < j → j < length list → R (get_or list i d) (get_or list j d)
ordered_at R [] d o i j l m = absurd (omega arith)
ordered_at R (a ∷ list) d (h, o) zero zero l m = absurd (omega arith)
ordered_at R (a ∷ list) d (h, o) zero (suc j) l m = All-get_or (R a) list j d (omega arith) h
ordered_at R (a ∷ list) d (h, o) (suc i) zero l m = absurd (omega arith)
ordered_at R (a ∷ list) d (h, o) (suc i) (suc j) l m = ordered_at R list d o i j (omega arith) (omega arith)

module _ {E : Type 0} {components : E → List ℤ} {count : ℕ} {reaches : List ℤ → List ℤ → Bool} (kind : Closed components count) (laws : Laws components count reaches)
    (s : Content) (b : Book) (xss : List (List ℤ)) (set : Setting kind laws s b xss) where
  abbrev sets : List ℕ
  sets = range_with_len 0 (2 ^ variables s.actions)

  abbrev leaders : List (Option ℕ)
  leaders = None ∷ map Some (numbers s)

  abbrev single : ℕ → Option ℕ → ℕ → List Combination
  single f l t = cond (fits s b (with_chosen count reaches s b xss f l t)) (with_chosen count reaches s b xss f l t ∷ []) []

  single_all : (P : Combination → Type 0) (f : ℕ) (l : Option ℕ) (t : ℕ) → P (with_chosen count reaches s b xss f l t) → All P (single f l t)
  single_all P f l t h = elim (cases_Bool (fits s b (with_chosen count reaches s b xss f l t))) [ inl e ↦ rw e (h, tt) | inr e ↦ rw e tt ]

  single_ordered : (f : ℕ) (l : Option ℕ) (t : ℕ) → Ordered After (single f l t)
  single_ordered f l t = elim (cases_Bool (fits s b (with_chosen count reaches s b xss f l t))) [ inl e ↦ rw e (tt, tt) | inr e ↦ rw e tt ]

  -- the candidates stand in order
  pub candidates_ordered : Ordered After (candidates count reaches s b xss)
  candidates_ordered =
      ordered_joined (λ f f'. f < f') After (λ f x. x.form ≡ f) (λ f. joined (λ l. joined (single f l) sets) leaders)
      (λ f f' x y lt p q. by_form x y (omega arith))
      (range_with_len 0 b.forms) (ordered_counting 0 b.forms)
      (λ f.
      ordered_joined (λ l m. leader_order l < leader_order m) After (λ l x. (x.form ≡ f) × (x.leader ≡ l)) (λ l. joined (single f l) sets)
      (λ l m x y lt p q. by_leader x y (p.0 ∙ sym q.0) (let u = ap leader_order p.1 in let v = ap leader_order q.1 in omega arith))
      leaders (all_some (λ m. 0 < leader_order m) (numbers s) (everywhere _ (λ i. omega arith) (numbers s)), ordered_some (numbers s) (ordered_counting 0 (length s.actions)))
      (λ l.
      ordered_joined (λ t u. t < u) After (λ t x. (x.form ≡ f) × (x.leader ≡ l) × (x.set ≡ t)) (single f l)
      (λ t u x y lt p q. by_set x y (p.0 ∙ sym q.0) (ap leader_order (p.1 ∙ sym q.1)) (let e = p.2 in let d = q.2 in omega arith))
      sets (ordered_counting 0 (2 ^ variables s.actions)) (single_ordered f l) (λ t. single_all (λ x. (x.form ≡ f) × (x.leader ≡ l) × (x.set ≡ t)) f l t (refl, refl, refl)))
      (λ l. all_joined (λ x. (x.form ≡ f) × (x.leader ≡ l)) (single f l) sets (everywhere _ (λ t. single_all (λ x. (x.form ≡ f) × (x.leader ≡ l)) f l t (refl, refl)) sets)))
      (λ f. all_joined (λ x. x.form ≡ f) (λ l. joined (single f l) sets) leaders (everywhere _ (λ l. all_joined (λ x. x.form ≡ f) (single f l) sets (everywhere _ (λ t. single_all (λ x. x.form ≡ f) f l t refl) sets)) leaders))

  module _ (hand : event_at_hand (event_kind b.situation) s ≡ true) (forms : 0 < b.forms) where
    -- the value has the relation
    pub is_reported : Reported count reaches s b xss (reported count reaches s b xss)
    is_reported =
        let B = best kind laws s b xss set hand forms in
        let cs = candidates count reaches s b xss in
        let d₀ = with_chosen count reaches s b xss 0 None 0 in
        let is = reported_is kind laws s b xss set hand forms in
        let mine = All-get_or (Good kind laws s b xss set hand) cs B.place d₀ B.within (all_good kind laws s b xss set hand) in
        record {
          admissible = reported_good kind laws s b xss set hand forms;
          chosen = rw is mine.1;
          greatest = λ d adm _. reported_over kind laws s b xss set hand forms d adm;
          first = λ d adm so earlier.
              let h = listed kind laws s b xss set hand d.form d.leader d.set (subst (Admissible s b) so adm) in
              let k = h.0 in
              let at : get_or cs k d₀ ≡ d = h.2 d₀ ∙ sym so in
              let sooner : before d (get_or cs B.place d₀) ≡ true = ap (before d) (sym is) ∙ is_true _ earlier in
              elim (cases_order k B.place) [
                | inl e ↦ absurd (both_ways (before d (get_or cs B.place d₀)) (ap (λ (x : Combination). before d x) (ap (λ m. get_or cs m d₀) (sym e) ∙ at) ∙ by_set d d refl refl (omega arith)) sooner)
                | inr (inl l) ↦ rw is (not_T _ (λ r. both_ways _ (B.first k l) (is_true _ (subst (λ (x : Combination). T (reaches (effect_of count s b xss x) (effect_of count s b xss (get_or cs B.place d₀)))) (sym at) r))))
                | inr (inr l) ↦ absurd (both_ways (before d (get_or cs B.place d₀)) (ap (λ (x : Combination). before x (get_or cs B.place d₀)) (sym at) ∙ ordered_at After cs d₀ candidates_ordered B.place k l h.1) sooner)
              ];
        }

  -- there is one at most
  pub reported_once : (c d : Combination) → Reported count reaches s b xss c → Reported count reaches s b xss d → c ≡ d
  reported_once c d rc rd =
      elim (in_order c d) [
        | inl l ↦ absurd (T_not _ (rd.first c rc.admissible rc.chosen (rw l tt)) (rc.greatest d rd.admissible rd.chosen))
        | inr (inl l) ↦ absurd (T_not _ (rc.first d rd.admissible rd.chosen (rw l tt)) (rd.greatest c rc.admissible rc.chosen))
        | inr (inr (f, l, t)) ↦
            rc.chosen
            ∙ ap (λ n. with_chosen count reaches s b xss n c.leader c.set) f
            ∙ ap (λ n. with_chosen count reaches s b xss d.form n c.set) l
            ∙ ap (λ n. with_chosen count reaches s b xss d.form d.leader n) t
            ∙ sym rd.chosen
      ]
