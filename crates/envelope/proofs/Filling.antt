-- A half of the strip, filled place by place.
use Rattle.std.proofs.Common.{◌≡◌, ℕ, cond, List, [], ◌∷◌, ◌++◌, map, length, get_or, take, drop, replicate, ℤ, refl, sym, ap, ◌∙◌}
use Rattle.std.proofs.lemmas.List.{drop-map, map-append, length-map, take_at, drop_at, drop-drop, append_assoc}
use Rattle.std.specs.List.{FoldsTo}
use Rattle.effects.specs.Components.{exact_multiple}
use Rattle.envelope.specs.declared.entry.Entry.{Entry}
use Rattle.envelope.specs.Entries.{parts_of, has}
use Rattle.envelope.specs.Combinations.{weighted}
use Rattle.envelope.specs.Layout.{contribution_by}

-- what as many calls wrote, each of which gives the same
pub made_alike : {A P : Type 0} (f : A → List ℤ) (z : List ℤ) (step : P → A → P → Type 0) → ((p : P) (x : A) (q : P) → step p x q → f x ≡ z)
    → (p q : P) (xs : List A) (n : ℕ) → FoldsTo step p xs q → length xs ≡ n → map f xs ≡ replicate n z
made_alike f z step each p q xs n calls long = rw (← long) (alike p q xs calls)
  where
    alike : (p q : _) (xs : List _) → FoldsTo step p xs q → map f xs ≡ replicate (length xs) z
    alike p q [] done = refl
    alike p q (x ∷ xs) (j, first, rest) = λ i. each p x j first i ∷ alike j q xs rest i

-- what is written is the contribution
pub contributed : (n : ℕ) (xss : List (List ℤ)) (masks : List ℕ) (factor_of : Entry → ℕ) (e : Entry) (parts : List (List ℤ)) (units : ℕ) (r : List ℤ)
    → parts ≡ parts_of xss e → units ≡ factor_of e → r ≡ exact_multiple units (weighted n (λ p. cond (has (get_or masks e.number 0) p) 1 0) parts)
    → r ≡ contribution_by n xss masks factor_of e
contributed n xss masks factor_of e parts units r own factor value =
    value ∙ (λ t. exact_multiple (factor t) (weighted n (λ p. cond (has (get_or masks e.number 0) p) 1 0) (own t)))

-- a half has twelve places
half_long : {E : Type 0} (components : E → List ℤ) (half : List E) (xss : List (List ℤ)) → map components half ≡ xss → length xss ≡ 12 → length half ≡ 12
half_long components half xss is long = sym (length-map half components) ∙ ap length is ∙ long

-- what a write to the first twelve places and one to the next twelve leave: by components, and past them by value
module _ {E : Type 0} (components : E → List ℤ) (strip p q : List E) (leading accompanying : List (List ℤ)) (first : map components p ≡ leading) (second : map components q ≡ accompanying)
    (long : length leading ≡ 12) (also : length accompanying ≡ 12) where
  abbrev written : List E
  written = take 12 (p ++ drop 12 strip) ++ (q ++ drop 12 (drop 12 (p ++ drop 12 strip)))

  written_is : written ≡ p ++ (q ++ drop 24 strip)
  written_is =
      let twelve : length p ≡ 12 = half_long components p leading first long in
      let front : take 12 (p ++ drop 12 strip) ≡ p = take_at p (drop 12 strip) 12 twelve in
      let back : drop 12 (p ++ drop 12 strip) ≡ drop 12 strip = drop_at p (drop 12 strip) 12 twelve in
      let rest : drop 12 (drop 12 (p ++ drop 12 strip)) ≡ drop 24 strip = ap (λ (t : List E). drop 12 t) back ∙ drop-drop 12 12 strip in
      λ j. front j ++ (q ++ rest j)

  pub halves_filled : map components written ≡ (leading ++ accompanying) ++ drop 24 (map components strip)
  halves_filled =
      ap (map components) written_is
      ∙ map-append components p (q ++ drop 24 strip)
      ∙ ap (λ (t : List (List ℤ)). map components p ++ t) (map-append components q (drop 24 strip))
      ∙ (λ j. first j ++ (second j ++ sym (drop-map components 24 strip) j))
      ∙ sym (append_assoc leading accompanying (drop 24 (map components strip)))

  pub rest_kept : drop 24 written ≡ drop 24 strip
  rest_kept =
      ap (drop 24) written_is
      ∙ sym (drop-drop 12 12 (p ++ (q ++ drop 24 strip)))
      ∙ ap (λ (t : List E). drop 12 t) (drop_at p (q ++ drop 24 strip) 12 (half_long components p leading first long))
      ∙ drop_at q (drop 24 strip) 12 (half_long components q accompanying second also)
