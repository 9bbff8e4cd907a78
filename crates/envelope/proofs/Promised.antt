-- What the answer promises.
use Rattle.std.proofs.Common.{◌≡◌, ℕ, ◌+◌, ◌<◌, ◌≤◌, Bool, true, false, cond, ◌&&◌, T, eqb, leb, List, [], ◌∷◌, ◌++◌, map, length, get_or, ℤ, is_some, Some, None, Option, sym, refl, ap, ◌∙◌, subst, inl, inr, arith}
use Rattle.std.proofs.lemmas.List.{map-append}
use Rattle.std.proofs.lemmas.List.Sums.{sum_by-cons}
use Rattle.std.proofs.lemmas.Bool.{cases_Bool, eqb-true, leb-true, le-leb, lt-leb, eq-eqb, ne_eqb, and_parts}
use Rattle.std.specs.List.{AllByRecursion as All}
use Rattle.effects.specs.Components.{size}
use Rattle.effects.specs.Laws.{Closed, Laws}
use Rattle.rulebooks.specs.Books.{Book, BookLaws}
use Rattle.sheet.specs.declared.action.Action.{Action}
use Rattle.sheet.specs.Content.{Content}
use Rattle.sheet.specs.Limits.{no_action, parts_in, agree, parts_allowed, Formed}
use Rattle.basis.specs.Vocabulary.{is_variable, allows}
use Rattle.std.proofs.ByRecursion.{All-from_get_or}
use Rattle.envelope.specs.declared.combination.Combination.{Combination}
use Rattle.envelope.specs.Combinations.{effect_of}
use Rattle.envelope.specs.Admissible.{Admissible}
use Rattle.basis.specs.Vocabulary.{event_kind}
use Rattle.envelope.specs.Reported.{effect, reported, Reported}
use Rattle.envelope.specs.Answers.{Reply, found, refused, refused_at, ask, answer, too_large, event_at_hand}
use Rattle.envelope.proofs.Growth.{Grown, Extends}
use Rattle.envelope.specs.Promise.{OfFound, NothingOutranks, BreaksNoRule, AsReported, NoOtherIsReported}
use Rattle.envelope.proofs.ByKind.{FormLaws}
use Rattle.envelope.proofs.Values.{Reaches}
use Rattle.envelope.proofs.Weights.{parts_of_values}
use Rattle.envelope.proofs.Setting.{Setting}
use Rattle.envelope.proofs.Order.{is_reported, reported_once}
use Rattle.envelope.proofs.Candidates.{reported_good, reported_over}
use Rattle.envelope.proofs.Persist.{persists, effect_persists, grown_length}

-- what every sheet keeps
pub record Sound (list : List Action) : Type 0 where
  pub short : length list ≤ 32
  pub few : parts_in list ≤ 192
  pub some : All (λ a. 1 ≤ a.parts) list

pub formed_all : (list : List Action) → Formed list → All (λ a. 1 ≤ a.parts) list
formed_all list formed =
    All-from_get_or (λ a. 1 ≤ a.parts) list no_action (λ i h.
    let a = get_or list i no_action in
    let whole = and_parts (agree (is_variable a.kind) (is_some a.category)) (allows a.kind a.spread && parts_allowed a.parts) (formed i h) in
    let counted = and_parts (allows a.kind a.spread) (parts_allowed a.parts) whole.1 in
    leb-true 1 a.parts (and_parts (leb 1 a.parts) (leb a.parts 16) counted.1).0)

-- the laws of a rulebook, form by form
pub form_laws : (b : Book) → BookLaws b → (i : ℕ) → FormLaws (b.form i)
form_laws b bl i = record { permanent = bl.permanent i; variable = bl.variable i; upper = bl.uppers i; prestress = bl.prestresses i; leading = bl.leadings i }

-- an effect is found only where all questions were answered yes
module _ (n : ℕ) (reaches : List ℤ → List ℤ → Bool) (s : Content) (b : Book) (xss : List (List ℤ)) (P : List ℤ → Combination → Type 0) where
  abbrev reply : Reply
  reply = found (effect n reaches s b xss (reported n reaches s b xss)) (reported n reaches s b xss)

  last_question : (hand : Bool) → (hand ≡ true → OfFound reply P) → OfFound (ask 13 hand reply) P
  last_question true h = h refl
  last_question false h = tt

  size_question : (o : Option ℕ) → (o ≡ None → OfFound (ask 13 (event_at_hand (event_kind b.situation) s) reply) P)
      → OfFound (elim o [ Some p ↦ refused_at 12 p | None ↦ ask 13 (event_at_hand (event_kind b.situation) s) reply ]) P
  size_question None h = h refl
  size_question (Some p) h = tt

  asked : (q : ℕ) (yes : Bool) (r : Reply) → (yes ≡ true → OfFound r P) → OfFound (ask q yes r) P
  asked q true r h = h refl
  asked q false r h = tt

  pub answered_yes : (room : ℕ) → (length xss ≡ parts_in s.actions → too_large 0 xss ≡ None → event_at_hand (event_kind b.situation) s ≡ true → P (effect_of n s b xss (reported n reaches s b xss)) (reported n reaches s b xss)) → OfFound (answer n reaches s b xss room) P
  answered_yes room h =
      asked 10 (eqb (length xss) (parts_in s.actions)) _ (λ e.
      asked 11 (leb 24 room) _ (λ r.
      size_question (too_large 0 xss) (λ l.
      last_question (event_at_hand (event_kind b.situation) s) (λ a. h (eqb-true (length xss) (parts_in s.actions) e) l a))))

pub small_all : (p : ℕ) (xss : List (List ℤ)) → too_large p xss ≡ None → All (λ xs. size xs ≤ 1_000_000_000) xss
small_all p [] h = tt
small_all p (xs ∷ rest) h =
    elim (cases_Bool (leb (size xs) 1_000_000_000)) [
      | inl t ↦ (leb-true (size xs) 1_000_000_000 t, small_all (p + 1) rest (sym (ap (λ (u : Bool). cond u (too_large (p + 1) rest) (Some p)) t) ∙ h))
      | inr t ↦ absurd (let g : Some p ≡ None = sym (ap (λ (u : Bool). cond u (too_large (p + 1) rest) (Some p)) t) ∙ h in let z : ◌≡◌ {A = ℕ} 0 1 = cc in omega arith)
    ]

-- the actions of the earlier sheet are as sound
pub grown_sound : (list list' : List Action) → Grown list list' → (parts_in list ≤ parts_in list') × (All (λ a. 1 ≤ a.parts) list' → All (λ a. 1 ≤ a.parts) list)
grown_sound [] list' g = (omega arith, λ h. tt)
grown_sound (a ∷ list) [] g = absurd g
grown_sound (a ∷ list) (a' ∷ list') (r, g) =
    let same : a'.parts ≡ a.parts = elim r [ inl e ↦ ap (λ (x : Action). x.parts) e | inr (t, n, e) ↦ ap (λ (x : Action). x.parts) e ] in
    let h = grown_sound list list' g in
    let l = h.0 in
    let u : parts_in (a ∷ list) ≡ a.parts + parts_in list = sum_by-cons (λ (x : Action). x.parts) a list in
    let v : parts_in (a' ∷ list') ≡ a'.parts + parts_in list' = sum_by-cons (λ (x : Action). x.parts) a' list' in
    (omega arith, λ all. ((let one = all.0 in omega arith), h.1 all.1))

pub sound_before : (s s' : Content) → Extends s s' → Sound s'.actions → Sound s.actions
sound_before s s' ext so =
    let g = grown_sound s.actions s'.actions ext.actions in
    let l = grown_length s.actions s'.actions ext.actions in
    record {
      short = (let m = so.short in omega arith);
      few = (let m = so.few in let n = g.0 in omega arith);
      some = g.1 so.some;
    }

module _ {E : Type 0} {components : E → List ℤ} {count : ℕ} {reaches : List ℤ → List ℤ → Bool} (kind : Closed components count) (laws : Laws components count reaches) where
  pub setting : (s : Content) (b : Book) (es : List E) → Sound s.actions → BookLaws b → length (map components es) ≡ parts_in s.actions → too_large 0 (map components es) ≡ None → Setting kind laws s b (map components es)
  setting s b es so bl complete small = record {
    complete = complete;
    few = so.few;
    short = so.short;
    some = so.some;
    parts = parts_of_values kind laws es (small_all 0 (map components es) small);
    forms = form_laws b bl;
  }

  module _ (s : Content) (b : Book) (es : List E) (so : Sound s.actions) (bl : BookLaws b) where
    pub nothing_outranks : (room : ℕ) → NothingOutranks count reaches s b (map components es) (answer count reaches s b (map components es) room)
    nothing_outranks room = answered_yes count reaches s b (map components es) _ room (λ complete small hand d adm. reported_over kind laws s b (map components es) (setting s b es so bl complete small) hand bl.some d adm)

    pub breaks_no_rule : (room : ℕ) → BreaksNoRule count reaches s b (map components es) (answer count reaches s b (map components es) room)
    breaks_no_rule room = answered_yes count reaches s b (map components es) _ room (λ complete small hand. (reported_good kind laws s b (map components es) (setting s b es so bl complete small) hand bl.some, refl))

    pub as_reported : (room : ℕ) → AsReported count reaches s b (map components es) (answer count reaches s b (map components es) room)
    as_reported room = answered_yes count reaches s b (map components es) _ room (λ complete small hand. is_reported kind laws s b (map components es) (setting s b es so bl complete small) hand bl.some)

    pub no_other_is_reported : (room : ℕ) → NoOtherIsReported count reaches s b (map components es) (answer count reaches s b (map components es) room)
    no_other_is_reported room = answered_yes count reaches s b (map components es) _ room (λ complete small hand d rd.
        let set = setting s b es so bl complete small in
        reported_once kind laws s b (map components es) set d (reported count reaches s b (map components es)) rd (is_reported kind laws s b (map components es) set hand bl.some))

  -- an earlier answer, on a sheet that has only grown since, under the same rulebook, with effects that begin with the earlier ones
  pub not_sunk : (s₀ s : Content) (b : Book) (earlier more : List E) (room₀ room : ℕ) → Extends s₀ s → Sound s.actions → BookLaws b
      → OfFound (answer count reaches s₀ b (map components earlier) room₀) (λ ys d. OfFound (answer count reaches s b (map components (earlier ++ more)) room) (λ xs c. T (reaches xs ys)))
  not_sunk s₀ s b earlier more room₀ room ext so bl =
      let so₀ = sound_before s₀ s ext so in
      answered_yes count reaches s₀ b (map components earlier) _ room₀ (λ complete₀ small₀ hand₀.
      answered_yes count reaches s b (map components (earlier ++ more)) _ room (λ complete small hand.
      let set₀ = setting s₀ b earlier so₀ bl complete₀ small₀ in
      let set = setting s b (earlier ++ more) so bl complete small in
      let joined : map components (earlier ++ more) ≡ map components earlier ++ map components more = map-append components earlier more in
      let set' : Setting kind laws s b (map components earlier ++ map components more) = subst (Setting kind laws s b) joined set in
      let old = reported count reaches s₀ b (map components earlier) in
      let adm₀ = reported_good kind laws s₀ b (map components earlier) set₀ hand₀ bl.some in
      let same : effect_of count s b (map components earlier ++ map components more) old ≡ effect_of count s₀ b (map components earlier) old = effect_persists kind laws s₀ s b old (map components earlier) (map components more) ext adm₀ set₀ set' in
      let over = reported_over kind laws s b (map components (earlier ++ more)) set hand bl.some old (persists s₀ s b old ext adm₀) in
      let now_same : effect_of count s b (map components (earlier ++ more)) old ≡ effect_of count s₀ b (map components earlier) old = ap (λ xss. effect_of count s b xss old) joined ∙ same in
      subst (λ ys. Reaches kind laws (effect_of count s b (map components (earlier ++ more)) (reported count reaches s b (map components (earlier ++ more)))) ys) now_same over))

  -- a combination that was admissible before is admissible after, with the same effect
  pub stays_admissible : (s₀ s : Content) (b : Book) (earlier more : List E) (room₀ room : ℕ) → Extends s₀ s → Sound s.actions → BookLaws b
      → OfFound (answer count reaches s₀ b (map components earlier) room₀) (λ ys c₀. OfFound (answer count reaches s b (map components (earlier ++ more)) room) (λ xs c. (d : Combination) → Admissible s₀ b d
      → Admissible s b d × (effect_of count s b (map components (earlier ++ more)) d ≡ effect_of count s₀ b (map components earlier) d)))
  stays_admissible s₀ s b earlier more room₀ room ext so bl =
      let so₀ = sound_before s₀ s ext so in
      answered_yes count reaches s₀ b (map components earlier) _ room₀ (λ complete₀ small₀ hand₀.
      answered_yes count reaches s b (map components (earlier ++ more)) _ room (λ complete small hand d adm.
      let set₀ = setting s₀ b earlier so₀ bl complete₀ small₀ in
      let joined : map components (earlier ++ more) ≡ map components earlier ++ map components more = map-append components earlier more in
      let set : Setting kind laws s b (map components earlier ++ map components more) = subst (Setting kind laws s b) joined (setting s b (earlier ++ more) so bl complete small) in
      (persists s₀ s b d ext adm, ap (λ xss. effect_of count s b xss d) joined ∙ effect_persists kind laws s₀ s b d (map components earlier) (map components more) ext adm set₀ set)))

  -- how code comes by the answer: the questions, and a combination that has the relation
  module _ (s : Content) (b : Book) (es : List E) (so : Sound s.actions) (bl : BookLaws b) (room : ℕ) where
    pub found_answer : (c : Combination) → length (map components es) ≡ parts_in s.actions → 24 ≤ room → too_large 0 (map components es) ≡ None → event_at_hand (event_kind b.situation) s ≡ true
        → Reported count reaches s b (map components es) c → found (effect_of count s b (map components es) c) c ≡ answer count reaches s b (map components es) room
    found_answer c complete long small hand rc =
        let set = setting s b es so bl complete small in
        let same : reported count reaches s b (map components es) ≡ c = reported_once kind laws s b (map components es) set (reported count reaches s b (map components es)) c (is_reported kind laws s b (map components es) set hand bl.some) rc in
        rw (eq-eqb (length (map components es)) (parts_in s.actions) complete, le-leb 24 room long, small, hand, same) refl

    pub answer_10 : (length (map components es) ≡ parts_in s.actions → ⊥) → answer count reaches s b (map components es) room ≡ refused 10
    answer_10 other = rw (ne_eqb (length (map components es)) (parts_in s.actions) other) refl

    pub answer_11 : length (map components es) ≡ parts_in s.actions → room < 24 → answer count reaches s b (map components es) room ≡ refused 11
    answer_11 complete short = rw (eq-eqb (length (map components es)) (parts_in s.actions) complete, lt-leb 24 room short) refl

    pub answer_12 : (p : ℕ) → length (map components es) ≡ parts_in s.actions → 24 ≤ room → too_large 0 (map components es) ≡ Some p → answer count reaches s b (map components es) room ≡ refused_at 12 p
    answer_12 p complete long large = rw (eq-eqb (length (map components es)) (parts_in s.actions) complete, le-leb 24 room long, large) refl

    pub answer_13 : length (map components es) ≡ parts_in s.actions → 24 ≤ room → too_large 0 (map components es) ≡ None → event_at_hand (event_kind b.situation) s ≡ false → answer count reaches s b (map components es) room ≡ refused 13
    answer_13 complete long small none = rw (eq-eqb (length (map components es)) (parts_in s.actions) complete, le-leb 24 room long, small, none) refl
