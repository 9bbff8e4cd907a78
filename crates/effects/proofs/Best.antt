-- The greatest effect of a list, at its lowest place.
use Rattle.std.proofs.Common.{◌≡◌, ℕ, zero, suc, ◌+◌, ◌<◌, ◌≤◌, Bool, true, false, cond, not, T, ◌⊎◌, List, [], ◌∷◌, map, length, get_or, drop, length-drop, MatchOption, ℤ, Some, None, Option, Bor, fold, sym, refl, ap, ◌∙◌, subst, ⊎_elim, arith, T_not, below_more}
use denote.Param.Members.{Mut}
use lib.Dec.{not_T}
use lib.ListN.{length-map}
use Rattle.std.specs.List.{AllByRecursion as All}
use Rattle.std.specs.Fn.{Called}
use Rattle.std.specs.Iterator.{Drains, ReducesItems}
use Rattle.std.specs.Iterator.Adapters.{enumerate_count, enumerate_source, enumerate_steps}
use Rattle.std.specs.Slice.Iter.{iter_rest}
use Rattle.std.specs.List.{enumerate_from, reduce}
use Rattle.std.specs.Option.{option_map}
use Rattle.std.specs.declared.slice.Iter.{Iter}
use Rattle.std.specs.declared.iter.Enumerate.{Enumerate}
use Rattle.std.proofs.lemmas.Fn.{fold_same, fronts}
use Rattle.std.proofs.lemmas.Iterator.{YieldsList, YieldsList-from_slice}
use Rattle.std.proofs.lemmas.Iterator.Consumers.{YieldsList-end, YieldsList-from_enumerate}
use Rattle.std.proofs.lemmas.List.{map_push, drop_more}
use Rattle.std.proofs.lemmas.List.Sums.{fold_push}
use Rattle.std.proofs.ByRecursion.{All-get_or}
use Rattle.effects.specs.Laws.{Laws, Large}
use Rattle.effects.specs.Supplies.{Greatest, greatest_from, greatest_of}

-- the value at a place of a supply
pub value_at : {E : Type 0} (components : E → List ℤ) (es : List E) (i : ℕ) → i < length es → (e : E) × (get_or (map components es) i [] ≡ components e)
value_at components [] i h = absurd (omega arith)
value_at components (e ∷ es) zero h = (e, refl)
value_at components (e ∷ es) (suc i) h = value_at components es i (omega arith)

module _ {E : Type 0} {components : E → List ℤ} {count : ℕ} {reaches : List ℤ → List ℤ → Bool} (laws : Laws components count reaches) (es : List E) (large : All Large (map components es)) where
  abbrev xss : List (List ℤ)
  xss = map components es

  abbrev Reaches : ℕ → ℕ → Type 0
  Reaches i j = T (reaches (get_or xss i []) (get_or xss j []))

  large_at : (i : ℕ) (h : i < length es) → Large (components (value_at components es i h).0)
  large_at i h = subst Large (value_at components es i h).1 (All-get_or Large xss i [] (omega (arith, length-map es components)) large)

  total_at : (i j : ℕ) → i < length es → j < length es → Reaches i j ⊎ Reaches j i
  total_at i j h k =
      let a = value_at components es i h in
      let b = value_at components es j k in
      rw (a.1, b.1) (laws.total a.0 b.0 (large_at i h) (large_at j k))

  same_at : (i : ℕ) → i < length es → Reaches i i
  same_at i h = ⊎_elim (λ r. r) (λ r. r) (total_at i i h h)

  chain_at : (i j k : ℕ) → i < length es → j < length es → k < length es → Reaches i j → Reaches j k → Reaches i k
  chain_at i j k p q r h g =
      let a = value_at components es i p in
      let b = value_at components es j q in
      let e = value_at components es k r in
      rw (a.1, e.1) (laws.transitive a.0 b.0 e.0 (large_at i p) (large_at j q) (large_at k r) (rw (a.1, b.1) at h) (rw (b.1, e.1) at g))

  pub greatest_none : 0 < length es → Greatest reaches xss 1 0
  greatest_none h = record {
    within = omega arith;
    none_above = λ k l. let e : k ≡ 0 = omega arith in rw e (same_at 0 h);
    none_before = λ k l. absurd (omega arith);
  }

  pub greatest_keeps : (i b : ℕ) → i < length es → Greatest reaches xss i b → Reaches b i → Greatest reaches xss (i + 1) b
  greatest_keeps i b h so r = record {
    within = omega (arith, so.within);
    none_above = below_more _ _ so.none_above r;
    none_before = so.none_before;
  }

  pub greatest_takes : (i b : ℕ) → i < length es → Greatest reaches xss i b → T (not (reaches (get_or xss b []) (get_or xss i []))) → Greatest reaches xss (i + 1) i
  greatest_takes i b h so n =
      let bi : b < i = so.within in
      let up : Reaches i b = ⊎_elim (λ r. absurd (T_not _ n r)) (λ r. r) (total_at b i (omega arith) h) in
      record {
        within = omega arith;
        none_above = below_more _ _ (λ k l. chain_at i b k h (omega arith) (omega arith) up (so.none_above k l)) (same_at i h);
        none_before = λ k l. not_T _ (λ r. T_not _ n (chain_at b k i (omega arith) (omega arith) h (so.none_above k l) r));
      }

  -- b is the greatest of the first i, and the rest begins at place i
  greatest_on : (rest : List (List ℤ)) (i b : ℕ) → drop i xss ≡ rest → i ≤ length es → Greatest reaches xss i b → Greatest reaches xss (length es) (greatest_from reaches (get_or xss b []) b i rest)
  greatest_on [] i b e h so = let all : i ≡ length es = omega (arith, ap length e, length-drop i xss, length-map es components) in subst (λ n. Greatest reaches xss n b) all so
  greatest_on (xs ∷ rest) i b e h so =
      let more : i < length es = omega (arith, ap length e, length-drop i xss, length-map es components) in
      let parts : get_or xss i [] ∷ drop (i + 1) xss ≡ xs ∷ rest = sym (drop_more xss i [] (omega (arith, length-map es components))) ∙ e in
      let here : get_or xss i [] ≡ xs = cc in
      let on : drop (i + 1) xss ≡ rest = cc in
      let step : (t : Bool) → t ≡ reaches (get_or xss b []) xs → Greatest reaches xss (length es) (cond t (greatest_from reaches (get_or xss b []) b (i + 1) rest) (greatest_from reaches xs i (i + 1) rest)) =
      elim [
        | true ↦ λ t. greatest_on rest (i + 1) b on (omega arith) (greatest_keeps i b more so (rw (here, ← t) tt))
        | false ↦ λ t. rw (← here) (greatest_on rest (i + 1) i on (omega arith) (greatest_takes i b more so (rw (here, ← t) tt)))
      ] in
      step (reaches (get_or xss b []) xs) refl

-- the place as it is defined is that of the greatest
pub greatest_first : {E : Type 0} {components : E → List ℤ} {count : ℕ} {reaches : List ℤ → List ℤ → Bool} (laws : Laws components count reaches) (es : List E)
    → All Large (map components es) → MatchOption (greatest_of reaches (map components es)) (length es ≡ 0) (Greatest reaches (map components es) (length es))
greatest_first laws [] large = refl
greatest_first {components} laws (x ∷ es) large = greatest_on laws (x ∷ es) large (map components es) 1 0 refl (omega arith) (greatest_none laws (x ∷ es) large (omega arith))

-- The chain of `greatest`: `reduce` over the effects with their places.

-- an item's place and its effect
abbrev pub read : {E : Type 0} → ℕ × Bor E → ℕ × E
read p = (p.0, p.1.now)

drained : {S A B : Type 0} {steps : S → Option A → S → Type 0} {v : A → B} {s : S} {all : List B} (xs : List A) → YieldsList steps v s all → Drains steps s xs → map v xs ≡ all
drained xs yields d = (YieldsList-end yields xs d.1.0 d.1.1 None d.0 refl d.1.2).0

-- what `reduce` gives, where h is read of each call
reduced : {E F : Type 0} (h : ℕ × E → ℕ × E → ℕ × E) {g : Mut F ((ℕ × Bor E) × ((ℕ × Bor E) × Unit {0})) (ℕ × Bor E)} {f : F} {s : Enumerate (Iter E)} {all : List (ℕ × E)} (r : Option (ℕ × Bor E))
    → ReducesItems (enumerate_steps fronts) g s f r → YieldsList (enumerate_steps fronts) read s all
    → ((b n t : ℕ × Bor E) (f' : F) → Called g f (b, (n, tt)) t f' → (read t ≡ h (read b) (read n)) × (f' ≡ f))
    → option_map read r ≡ reduce h all
reduced h None ran yields acts = ap (reduce h) (drained [] yields ran)
reduced {E} h {g} {f} (Some y) ran yields acts =
    let x = ran.0 in
    let total : read y ≡ fold h (read x) (map read ran.1) =
    fold_same g (λ ps b. read b ≡ fold h (read x) (map read ps)) f (λ ps b n t f' so call. let one = acts b n t f' call in (simp (map_push, fold_push) (cc), one.1)) ran.1 x y ran.2 refl ran.4 in
    ap Some total ∙ ap (reduce h) (drained (x ∷ ran.1) yields ran.3)

place_of : {E : Type 0} (r : Option (ℕ × Bor E)) → option_map (λ p. p.0) r ≡ option_map (λ p. p.0) (option_map read r)
place_of None = refl
place_of (Some p) = refl

module _ {E : Type 0} (components : E → List ℤ) (reaches : List ℤ → List ℤ → Bool) where
  -- of the greatest so far and the next
  abbrev pub pick : ℕ × E → ℕ × E → ℕ × E
  pick best next = cond (reaches (components best.1) (components next.1)) best next

  picked : (es : List E) (i : ℕ) (b : ℕ × E) → (fold pick b (enumerate_from i es)).0 ≡ greatest_from reaches (components b.1) b.0 i (map components es)
  picked [] i b = refl
  picked (x ∷ es) i b = grind (arith, picked es (i + 1) b, picked es (i + 1) (i, x))

  reduced_place : (es : List E) → option_map (λ p. p.0) (reduce pick (enumerate_from 0 es)) ≡ greatest_of reaches (map components es)
  reduced_place [] = refl
  reduced_place (x ∷ es) = ap Some (picked es 1 (0, x))

  pub greatest_place : {F : Type 0} (es : List E) (s : Enumerate (Iter E)) (r : Option (ℕ × Bor E)) {g : Mut F ((ℕ × Bor E) × ((ℕ × Bor E) × Unit {0})) (ℕ × Bor E)} {f : F}
      → ReducesItems (enumerate_steps fronts) g s f r → iter_rest (enumerate_source s) ≡ es → enumerate_count s ≡ 0
      → ((b n t : ℕ × Bor E) (f' : F) → Called g f (b, (n, tt)) t f' → (read t ≡ pick (read b) (read n)) × (f' ≡ f))
      → option_map (λ p. p.0) r ≡ greatest_of reaches (map components es)
  greatest_place es s r ran rest start acts =
      place_of r ∙ ap (option_map (λ p. p.0)) (reduced pick r ran (YieldsList-from_enumerate (YieldsList-from_slice es rest) start) acts) ∙ reduced_place es
