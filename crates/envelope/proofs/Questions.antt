-- The questions of an envelope, as the code puts them.
use Rattle.std.proofs.Common.{◌≡◌, ℕ, zero, suc, ◌+◌, ◌<◌, ◌≤◌, Bool, true, false, cond, ◌&&◌, List, [], ◌∷◌, map, length, ℤ, Some, None, Option, sym, refl, ap, ◌∙◌, add-zero, zero-add, arith}
use Rattle.std.specs.Bool.{MatchBool}
use Rattle.std.specs.List.{AllWithin, HoldsAt}
use Rattle.std.specs.Option.{MatchOption}
use Rattle.std.proofs.lemmas.Bool.{le-leb, lt-leb, and_right}
use Rattle.basis.specs.declared.action.Kind.{Kind}
use Rattle.basis.specs.Vocabulary.{is_variable}
use Rattle.effects.specs.Components.{size}
use Rattle.sheet.specs.declared.action.Action.{Action}
use Rattle.sheet.specs.Content.{Content}
use Rattle.envelope.specs.Entries.{entries_from, acts}
use Rattle.envelope.specs.Reported.{every}
use Rattle.envelope.specs.Answers.{too_large, event_at_hand}

-- ---- the first effect that is too large
module _ {E : Type 0} (components : E → List ℤ) where
  abbrev pub IsLarge : E → Type 0
  IsLarge x = 1_000_000_000 < size (components x)

  abbrev pub IsSmall : E → Type 0
  IsSmall x = size (components x) ≤ 1_000_000_000

  one_small : (p : ℕ) (x : E) (es : List E) → IsSmall x → too_large p (map components (x ∷ es)) ≡ too_large (p + 1) (map components es)
  one_small p x es h = ap (λ (t : Bool). cond t (too_large (p + 1) (map components es)) (Some p)) (le-leb (size (components x)) 1_000_000_000 h)

  none_large : (p : ℕ) (es : List E) → AllWithin IsSmall es 0 (length es) → too_large p (map components es) ≡ None
  none_large p [] h = refl
  none_large p (x ∷ es) h = one_small p x es (h 0 x (omega arith) (omega arith)) ∙ none_large (p + 1) es (λ k d low high. h (suc k) d (omega arith) (omega arith))

  first_large : (p i : ℕ) (es : List E) → i < length es → HoldsAt IsLarge es i → AllWithin IsSmall es 0 i → too_large p (map components es) ≡ Some (p + i)
  first_large p i [] l here before = absurd (omega arith)
  first_large p zero (x ∷ es) l here before = ap (λ (t : Bool). cond t (too_large (p + 1) (map components es)) (Some p)) (lt-leb (size (components x)) 1_000_000_000 (here x)) ∙ ap Some (sym (add-zero p))
  first_large p (suc i) (x ∷ es) l here before =
      let n : (p + 1) + i ≡ p + suc i = omega arith in
      one_small p x es (before 0 x (omega arith) (omega arith))
      ∙ first_large (p + 1) i es (omega arith) (λ d. here d) (λ k d low high. before (suc k) d (omega arith) (omega arith))
      ∙ ap Some n

  -- the place that a search found
  pub found_large : (es : List E) (r : Option ℕ) → MatchOption r (AllWithin IsSmall es 0 (length es)) (λ i. (i < length es) × HoldsAt IsLarge es i × AllWithin IsSmall es 0 i) → r ≡ too_large 0 (map components es)
  found_large es None h = sym (none_large 0 es h)
  found_large es (Some i) h = sym (first_large 0 i es h.0 h.1 h.2 ∙ ap Some (zero-add i))

-- ---- an active action of a kind
abbrev pub lacks : Kind → List Action → Bool
lacks k = every (λ a. cond (acts k a) false true)

every_entry : (f : Action → Bool) (i p q : ℕ) (list : List Action) → every (λ e. f e.action) (entries_from i p q list) ≡ every f list
every_entry f i p q [] = refl
every_entry f i p q (a ∷ rest) = ap (λ (t : Bool). f a && t) (every_entry f (i + 1) (p + cond (is_variable a.kind) 1 0) (q + a.parts) rest)

at_hand : (k : Kind) (s : Content) → event_at_hand (Some k) s ≡ cond (lacks k s.actions) false true
at_hand k s = ap (λ (t : Bool). cond t false true) (every_entry (λ a. cond (acts k a) false true) 0 0 0 s.actions)

some_acts : (k : Kind) (list : List Action) (i : ℕ) → i < length list → HoldsAt (λ a. acts k a ≡ true) list i → lacks k list ≡ false
some_acts k [] i l here = absurd (omega arith)
some_acts k (a ∷ list) zero l here = ap (λ (t : Bool). cond t false true && lacks k list) (here a)
some_acts k (a ∷ list) (suc i) l here = and_right (cond (acts k a) false true) (lacks k list) (some_acts k list i (omega arith) (λ d. here d))

none_acts : (k : Kind) (list : List Action) → AllWithin (λ a. acts k a ≡ false) list 0 (length list) → lacks k list ≡ true
none_acts k [] h = refl
none_acts k (a ∷ list) h =
    ap (λ (t : Bool). cond t false true && lacks k list) (h 0 a (omega arith) (omega arith)) ∙ none_acts k list (λ i d low high. h (suc i) d (omega arith) (omega arith))

-- whether a search found one
pub found_acting : (k : Kind) (s : Content) (list : List Action) (r : Bool) → list ≡ s.actions
    → MatchBool r ((i : ℕ) × (i < length list) × HoldsAt (λ a. acts k a ≡ true) list i) (AllWithin (λ a. acts k a ≡ false) list 0 (length list)) → r ≡ event_at_hand (Some k) s
found_acting k s list true is h = sym (at_hand k s ∙ ap (λ xs. cond (lacks k xs) false true) (sym is) ∙ ap (λ (t : Bool). cond t false true) (some_acts k list h.0 h.1 h.2))
found_acting k s list false is h =
    sym (at_hand k s ∙ ap (λ xs. cond (lacks k xs) false true) (sym is)
    ∙ ap (λ (t : Bool). cond t false true) (none_acts k list h))
