-- One action with chosen parts against the same action in any admissible combination.
use Rattle.std.proofs.Common.{◌≡◌, ℕ, ◌^◌, ◌<◌, ◌≤◌, Bool, true, false, cond, T, ◌⊎◌, List, length, ℤ, Some, None, Option, refl, inl, inr, arith}
use Rattle.basis.specs.declared.category.Category.{Category}
use Rattle.basis.specs.declared.action.Kind.{Kind}
use Rattle.basis.specs.declared.action.Kind.TheVariants.{Permanent, Prestress, Variable, Accidental, Seismic}
use Rattle.basis.specs.declared.action.Spread.{Spread}
use Rattle.basis.specs.declared.action.Spread.TheVariants.{Fixed, Free, Alternative}
use Rattle.effects.specs.Components.{exact_multiple}
use Rattle.effects.specs.Laws.{Closed, Laws, IsFactor}
use Rattle.basis.specs.Factors.{most}
use Rattle.rulebooks.specs.Books.{Form}
use Rattle.envelope.specs.Entries.{has, whole}
use Rattle.envelope.specs.Combinations.{weighted, factor, at, by_mask}
use Rattle.envelope.specs.Admissible.{SpreadKept, EventMask}
use Rattle.envelope.specs.Choices.{greatest_part, choice, at_upper, event_choice, event_effect}
use Rattle.envelope.proofs.Values.{Reaches, Sm, wider, level, zero_value, multiple_value, multiples}
use Rattle.envelope.proofs.Tops.{top_of}
use Rattle.envelope.proofs.Weights.{Parts, part_at, small_part, total_small, weighted_large}
use Rattle.envelope.proofs.Choose.{choice_best, upper_best, no_part, one_part, all_or_none, large}

-- the laws of a form
pub record FormLaws (f : Form) : Type 0 where
  pub permanent : f.lower ≤ f.upper
  pub variable : (c : Category) → f.accompanying c ≤ f.leading c
  pub upper : f.upper ≤ most
  pub prestress : f.prestress ≤ most
  pub leading : (c : Category) → f.leading c ≤ most

module _ (f : Form) (ok : FormLaws f) where
  pub at_over : (c : Option Category) → at c f.accompanying ≤ at c f.leading
  at_over None = omega arith
  at_over (Some c) = ok.variable c

  pub at_fits : (c : Option Category) → at c f.leading ≤ most
  at_fits None = omega arith
  at_fits (Some c) = ok.leading c

  -- the factor of a variable action
  abbrev pub role : Option Category → Bool → ℕ
  role c leads = cond leads (at c f.leading) (at c f.accompanying)

  pub role_fits : (c : Option Category) (leads : Bool) → IsFactor (role c leads)
  role_fits c true = at_fits c
  role_fits c false = omega (arith, at_over c, at_fits c)

  pub role_over : (c : Option Category) (leads leads' : Bool) → (leads ≡ true → leads' ≡ true) → role c leads ≤ role c leads'
  role_over c true leads' h = rw (h refl) (omega arith)
  role_over c false true h = at_over c
  role_over c false false h = omega arith

  pub factor_fits : (k : Kind) (c : Option Category) (leads b : Bool) → IsFactor (factor f k c leads b)
  factor_fits Permanent c leads true = ok.upper
  factor_fits Permanent c leads false = omega (arith, ok.permanent, ok.upper)
  factor_fits Prestress c leads b = ok.prestress
  factor_fits Variable c leads true = role_fits c leads
  factor_fits Variable c leads false = omega arith
  factor_fits Accidental c leads true = omega arith
  factor_fits Accidental c leads false = omega arith
  factor_fits Seismic c leads true = omega arith
  factor_fits Seismic c leads false = omega arith

  module _ {E : Type 0} {components : E → List ℤ} {count : ℕ} {reaches : List ℤ → List ℤ → Bool} (kind : Closed components count) (laws : Laws components count reaches)
      (xss : List (List ℤ)) (few : length xss ≤ 192) (ps : Parts kind laws xss) where
    -- What is known of the old mask m and the new one m'. A variable action either takes its chosen parts, and leads if it did,
    -- or is dropped, where it was absent or has no choice.
    abbrev pub Rule : Kind → Bool → Spread → Bool → Bool → ℕ → ℕ → Type 0
    Rule Permanent splits spread leads leads' m m' = (m' ≡ at_upper count reaches splits xss) × (T splits ⊎ ((m ≡ 0) ⊎ (m ≡ whole (length xss))))
    Rule Prestress splits spread leads leads' m m' = Unit {0}
    Rule Variable splits spread leads leads' m m' =
        SpreadKept spread (length xss) m
        × (((m' ≡ choice count reaches spread xss) × (leads ≡ true → leads' ≡ true)) ⊎ ((m' ≡ 0) × ((m ≡ 0) ⊎ (choice count reaches spread xss ≡ 0))))
    Rule Accidental splits spread leads leads' m m' = ⊥
    Rule Seismic splits spread leads leads' m m' = ⊥

    abbrev pub acting : Kind → Option Category → Bool → ℕ → List ℤ
    acting k c leads m = weighted count (λ p. factor f k c leads (has m p)) xss

    pub kind_best : (k : Kind) (c : Option Category) (splits : Bool) (spread : Spread) (leads leads' : Bool) (m m' : ℕ) → Rule k splits spread leads leads' m m' → Reaches kind laws (acting k c leads' m') (acting k c leads m)
    kind_best Permanent c splits spread leads leads' m m' (e, kept) =
        rw e (upper_best kind laws xss few ps splits f.upper f.lower m ok.permanent ok.upper kept)
    kind_best Prestress c splits spread leads leads' m m' rule = level kind laws (weighted_large kind laws (λ p. f.prestress) xss (λ p. ok.prestress) few ps)
    kind_best Variable c splits spread leads leads' m m' (kept, inl (e, lead)) =
        rw e (choice_best kind laws xss few ps spread (role c leads') (role c leads) m (role_over c leads leads' lead) (role_fits c leads') kept)
    kind_best Variable c splits spread leads leads' m m' (kept, inr (e, inl absent)) =
        rw (no_part kind laws xss few ps (role c leads') m' e, no_part kind laws xss few ps (role c leads) m absent) (level kind laws (zero_value kind laws 200_000_000_000_000_000))
    kind_best Variable c splits spread leads leads' m m' (kept, inr (e, inr none)) =
        rw (no_part kind laws xss few ps (role c leads') m' e, ← no_part kind laws xss few ps (role c leads) (choice count reaches spread xss) none)
        (choice_best kind laws xss few ps spread (role c leads) (role c leads) m (omega arith) (role_fits c leads) kept)
    kind_best Accidental c splits spread leads leads' m m' rule = absurd rule
    kind_best Seismic c splits spread leads leads' m m' rule = absurd rule

-- an event, with its chosen parts and with any that it may act with
module _ {E : Type 0} {components : E → List ℤ} {count : ℕ} {reaches : List ℤ → List ℤ → Bool} (kind : Closed components count) (laws : Laws components count reaches)
    (xss : List (List ℤ)) (few : length xss ≤ 192) (ps : Parts kind laws xss) (some : 0 < length xss) where
  pub event_small : (spread : Spread) → Sm kind laws (event_effect count reaches spread xss)
  event_small Fixed = total_small kind laws xss few ps
  event_small Free = total_small kind laws xss few ps
  event_small Alternative =
      let t = top_of kind laws xss (large kind laws xss few ps) some in
      small_part kind laws (part_at kind laws xss (greatest_part count reaches xss) t.within ps)

  pub event_acting : (spread : Spread) (k : ℕ) → IsFactor k → weighted count (by_mask k 0 (event_choice count reaches spread xss)) xss ≡ exact_multiple k (event_effect count reaches spread xss)
  event_acting Fixed k f = all_or_none kind laws xss few ps k 0 (whole (length xss)) true refl
  event_acting Free k f = all_or_none kind laws xss few ps k 0 (whole (length xss)) true refl
  event_acting Alternative k f =
      let t = top_of kind laws xss (large kind laws xss few ps) some in
      one_part kind laws xss few ps k (greatest_part count reaches xss) (2 ^ greatest_part count reaches xss) f t.within refl

  pub event_best : (spread : Spread) (k m : ℕ) → IsFactor k → EventMask true spread (length xss) m → Reaches kind laws (exact_multiple k (event_effect count reaches spread xss)) (weighted count (by_mask k 0 m) xss)
  event_best Fixed k m f e = rw (all_or_none kind laws xss few ps k 0 m true e) (level kind laws (wider kind laws 200_000_000_000_000_000 (omega arith) (multiple_value kind laws k f (omega arith) (event_small Fixed))))
  event_best Free k m f e = rw (all_or_none kind laws xss few ps k 0 m true e) (level kind laws (wider kind laws 200_000_000_000_000_000 (omega arith) (multiple_value kind laws k f (omega arith) (event_small Fixed))))
  event_best Alternative k m f (q, ql, e) =
      let t = top_of kind laws xss (large kind laws xss few ps) some in
      rw (one_part kind laws xss few ps k q m f ql e) (multiples kind laws k f (event_small Alternative) (small_part kind laws (part_at kind laws xss q ql ps)) (t.over q ql))
