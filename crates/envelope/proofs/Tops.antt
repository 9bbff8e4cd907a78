-- The first greatest of a list of effects.
use Rattle.std.proofs.Common.{◌≡◌, ℕ, zero, suc, ◌+◌, ◌<◌, ◌≤◌, Bool, false, List, [], ◌∷◌, length, get_or, drop, ℤ, refl, ap, subst, inl, inr, ⊎_elim, arith, length-drop, below_more}
use Rattle.std.proofs.lemmas.List.{drop_more}
use Rattle.std.proofs.lemmas.Bool.{cases_Bool, cases_lt}
use Rattle.std.specs.List.{AllByRecursion as All}
use Rattle.effects.specs.Supplies.{greatest_from}
use Rattle.effects.specs.Laws.{Closed, Laws}
use Rattle.envelope.specs.Choices.{greatest_part}
use Rattle.envelope.proofs.Values.{Reaches, Lg, total, level, chain}

module _ {E : Type 0} {components : E → List ℤ} {count : ℕ} {reaches : List ℤ → List ℤ → Bool} (kind : Closed components count) (laws : Laws components count reaches) where
  abbrev pub Larges : List (List ℤ) → Type 0
  Larges = All (Lg kind laws)

  pub large_at : (xss : List (List ℤ)) (p : ℕ) → p < length xss → Larges xss → Lg kind laws (get_or xss p [])
  large_at [] p l ps = absurd (omega arith)
  large_at (xs ∷ xss) zero l (v, ps) = v
  large_at (xs ∷ xss) (suc p) l (v, ps) = large_at xss p (omega arith) ps

  -- of the first n, none ranks above the one at place b
  pub record Top (xss : List (List ℤ)) (n b : ℕ) : Type 0 where
    pub within : b < n
    pub over : (k : ℕ) → k < n → Reaches kind laws (get_or xss b []) (get_or xss k [])
    pub first : (k : ℕ) → k < b → reaches (get_or xss k []) (get_or xss b []) ≡ false

  module _ (xss : List (List ℤ)) (large : Larges xss) where
    ended : (i : ℕ) → [] ≡ drop i xss → length xss ≤ i
    ended i e = omega (arith, ap length e, length-drop i xss)

    top_from : (rest : List (List ℤ)) (i b : ℕ) (top : List ℤ) → top ≡ get_or xss b [] → rest ≡ drop i xss → i ≤ length xss → Top xss i b → Top xss (length xss) (greatest_from reaches top b i rest)
    top_from [] i b top is from l t =
        let e : i ≡ length xss = omega (arith, ended i from) in
        subst (λ n. Top xss n b) e t
    top_from (x ∷ rest) i b top is from l t =
        let more : i < length xss =
        elim (cases_lt i (length xss)) [ inl h ↦ h | inr h ↦ omega (arith, ap length from, length-drop i xss) ] in
        let d : drop i xss ≡ get_or xss i [] ∷ drop (i + 1) xss = drop_more xss i [] more in
        let x_is : x ≡ get_or xss i [] = cc in
        let rest-is : rest ≡ drop (i + 1) xss = cc in
        let bi : b < i = t.within in
        let vb = large_at xss b (omega arith) large in
        let vi = large_at xss i more large in
        elim (cases_Bool (reaches top x)) [
          | inl e ↦
              let r : Reaches kind laws (get_or xss b []) (get_or xss i []) = rw (← is, ← x_is, e) tt in
              rw e (top_from rest (i + 1) b top is rest-is (omega arith) (record { within = omega arith; over = below_more (λ k. Reaches kind laws (get_or xss b []) (get_or xss k [])) i t.over r; first = t.first }))
          | inr e ↦
              let r : Reaches kind laws (get_or xss i []) (get_or xss b []) =
              ⊎_elim (λ h. absurd (rw e at (rw (← is, ← x_is) at h))) (λ h. h) (total kind laws vb vi) in
              rw e (top_from rest (i + 1) i x x_is rest-is (omega arith) (record {
                within = omega arith;
                over = below_more (λ k. Reaches kind laws (get_or xss i []) (get_or xss k [])) i (λ k l. chain kind laws vi vb (large_at xss k (omega arith) large) r (t.over k l)) (level kind laws vi);
                first = λ k l.
                    elim (cases_Bool (reaches (get_or xss k []) (get_or xss i []))) [
                      | inl h ↦
                          let up : Reaches kind laws (get_or xss b []) (get_or xss i []) = chain kind laws vb (large_at xss k (omega arith) large) vi (t.over k l) (rw h tt) in
                          absurd (rw e at (rw (← is, ← x_is) at up))
                      | inr h ↦ h
                    ];
              }))
        ]

  pub top_of : (xss : List (List ℤ)) → Larges xss → 0 < length xss → Top xss (length xss) (greatest_part count reaches xss)
  top_of [] large l = absurd (omega arith)
  top_of (xs ∷ rest) large l =
      top_from (xs ∷ rest) large rest 1 0 xs refl refl (omega arith) (record { within = omega arith; over = λ k h. let e : k ≡ 0 = omega arith in rw e (level kind laws large.0); first = λ k h. absurd (omega arith) })
