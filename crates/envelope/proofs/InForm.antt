-- The best combination of a form, from what the code has at hand.
use Rattle.std.proofs.Common.{◌≡◌, ℕ, ◌+◌, ◌-◌, ◌^◌, ◌<◌, ◌≤◌, Bool, true, false, ◌||◌, T, List, [], ◌++◌, map, length, get_or, take, drop, ℤ, Some, None, Option, sym, refl, ap, ◌∙◌, subst, inl, inr, arith, length-append, pow_mono}
use lib.Bits.{bit_or}
use Rattle.std.proofs.lemmas.List.{take-map, drop-map, take-append-le, drop-append-le, take_all, drop_all}
use Rattle.std.proofs.lemmas.Bool.{cases_lt}
use Rattle.std.specs.Option.{option_map}
use Rattle.basis.specs.Vocabulary.{event_kind}
use Rattle.effects.specs.Components.{zeros, size}
use Rattle.effects.specs.Lists.{exact_sum_size}
use Rattle.effects.specs.Supplies.{exact_total}
use Rattle.effects.specs.Laws.{Closed, Laws}
use Rattle.rulebooks.specs.Books.{Book}
use Rattle.sheet.specs.Content.{Content}
use Rattle.sheet.specs.Limits.{variables}
use Rattle.envelope.specs.declared.roster.Roster.{Roster}
use Rattle.envelope.specs.declared.combination.Combination.{Combination}
use Rattle.envelope.specs.declared.strip.Role.{Role}
use Rattle.envelope.specs.declared.strip.Role.TheVariants.{Leading, Accompanying}
use Rattle.envelope.specs.Entries.{entries, has}
use Rattle.envelope.specs.Combinations.{effect_of}
use Rattle.envelope.specs.Reported.{with_chosen, base_share}
use Rattle.envelope.specs.Answers.{event_at_hand}
use Rattle.envelope.specs.Search.{row, weight}
use Rattle.envelope.specs.Layout.{role_factor, role_half, both_halves, roster_by}
use Rattle.envelope.specs.Leaders.{Given, MayLead, banned, start, worth, leader_bit, given_by, Searchable, BestSet}
use Rattle.envelope.specs.Forms.{BestAmong}
use Rattle.envelope.proofs.Values.{level, zero_value}
use Rattle.envelope.proofs.Bits.{has_or, has_power_same}
use Rattle.envelope.proofs.Clearance.{clear_is}
use Rattle.envelope.proofs.Setting.{Setting}
use Rattle.envelope.proofs.Variables.{at_place}
use Rattle.envelope.proofs.Worth.{leading, accompanying}
use Rattle.envelope.proofs.Bounds.{base_long, room_alone, room_led, acc_up}
use Rattle.envelope.proofs.Halves.{full_masks, by_place, numbers_get, choice_low, half_past, half_long, accompanying_at, leading_at, clear_below}
use Rattle.envelope.proofs.Blocks.{Posed, number_of, best_here}

or-true : (t : Bool) → (t || true) ≡ true
or-true true = refl
or-true false = refl

-- the halves of a strip
module _ {E : Type 0} (components : E → List ℤ) (strip : List E) (p q rest : List (List ℤ)) (lp : length p ≡ 12) (lq : length q ≡ 12) (is : map components strip ≡ (p ++ q) ++ rest) where
  pub first_half : map components (take 12 strip) ≡ p
  first_half =
      sym (take-map components 12 strip) ∙ ap (take 12) is ∙ take-append-le 12 (p ++ q) rest (omega (arith, length-append p q)) ∙ take-append-le 12 p q (omega arith) ∙ take_all 12 p (omega arith)

  pub second_half : map components (take 12 (drop 12 strip)) ≡ q
  second_half =
      sym (take-map components 12 (drop 12 strip)) ∙ ap (take 12) (sym (drop-map components 12 strip) ∙ ap (drop 12) is ∙ drop-append-le 12 (p ++ q) rest (omega (arith, length-append p q)) ∙ ap (λ v. v ++ rest) (drop-append-le 12 p q (omega arith) ∙ ap (λ v. v ++ q) (drop_all 12 p (omega arith))))
      ∙ take-append-le 12 q rest (omega arith) ∙ take_all 12 q (omega arith)

module _ {E : Type 0} {components : E → List ℤ} {count : ℕ} {reaches : List ℤ → List ℤ → Bool} (kind : Closed components count) (laws : Laws components count reaches)
    (s : Content) (b : Book) (xss : List (List ℤ)) (set : Setting kind laws s b xss) (few : variables s.actions ≤ 12) (f : ℕ)
    (ls bs : List E) (leads : Bool) (base : E)
    (leads_is : leads ≡ (b.form f).leader)
    (ls_is : map components ls ≡ role_half count xss (full_masks kind laws s b xss set few) (b.form f) Leading s)
    (bs_is : map components bs ≡ role_half count xss (full_masks kind laws s b xss set few) (b.form f) Accompanying s)
    (base_is : components base ≡ exact_total count (map (base_share count reaches s b xss f) (entries s))) where
  abbrev n : ℕ
  n = variables s.actions

  abbrev roster : Roster
  roster = roster_by (full_masks kind laws s b xss set few) s

  abbrev x : Given
  x = given_by components roster ls bs leads base

  beside : (j : ℕ) → j < n → get_or (map components bs) j [] ≡ accompanying kind laws s b xss set f (at_place s j)
  beside j h = ap (λ v. get_or v j []) bs_is ∙ accompanying_at kind laws s b xss set few f j h

  ahead : leads ≡ true → (j : ℕ) → j < n → get_or (map components ls) j [] ≡ leading kind laws s b xss set f (at_place s j)
  ahead e j h = ap (λ v. get_or v j []) ls_is ∙ leading_at kind laws s b xss set few f j (sym leads_is ∙ e) h

  bs_long : length (map components bs) ≡ 12
  bs_long = ap length bs_is ∙ half_long kind laws s b xss set few (λ e. role_factor (b.form f) Accompanying e.action.category)

  ls_long : length (map components ls) ≡ 12
  ls_long = ap length ls_is ∙ half_long kind laws s b xss set few (λ e. role_factor (b.form f) Leading e.action.category)

  up : (j : ℕ) → j < length (map components bs) → T (reaches (get_or (map components bs) j []) (zeros count))
  up j h =
      elim (cases_lt j n) [
        | inl l ↦ acc_up kind laws s b xss set f (map components bs) (map components ls) (components base) base_is beside j l
        | inr l ↦
            let z : get_or (map components bs) j [] ≡ zeros count = ap (λ v. get_or v j []) bs_is ∙ half_past kind laws s b xss set few (λ e. role_factor (b.form f) Accompanying e.action.category) j (let w = bs_long in omega arith) l in
            subst (λ y. T (reaches y (zeros count))) (sym z) (level kind laws (zero_value kind laws 200_000_000_000_000_000))
      ]

  room : (l : Option ℕ) → MayLead x l → size (start x l) + weight (map components bs) (banned x l) n ≤ 200_000_000_000_000_000
  room None m = room_alone kind laws s b xss set f (map components bs) (map components ls) (components base) base_is beside (banned x None)
  room (Some q) (e, h, c) =
      let on : has (banned x (Some q)) q ≡ true = has_or (bit_or (4095 - roster.choosable) (row roster.rows q)) (2 ^ q) q ∙ ap (λ (t : Bool). has (bit_or (4095 - roster.choosable) (row roster.rows q)) q || t) (has_power_same q) ∙ or-true (has (bit_or (4095 - roster.choosable) (row roster.rows q)) q) in
      let r = room_led kind laws s b xss set f (map components bs) (map components ls) (components base) base_is beside q h (ahead e q h) (banned x (Some q)) on in
      omega (arith, exact_sum_size (components base) (get_or (map components ls) q []))

  sums : (q : ℕ) → MayLead x (Some q) → size (components base) + size (get_or (map components ls) q []) ≤ 200_000_000_000_000_000
  sums q (e, h, c) =
      let on : has (2 ^ q) q ≡ true = has_power_same q in
      let r = room_led kind laws s b xss set f (map components bs) (map components ls) (components base) base_is beside q h (ahead e q h) (2 ^ q) on in
      omega arith

  pub searchable_by : Searchable count reaches roster.apart x
  searchable_by = record {
    ready = record { few = (let l = bs_long in omega arith); matched = sym bs_long; up = up };
    wide = ls_long ∙ sym bs_long;
    depth = (let l = bs_long in omega arith);
    within = (let p : 2 ^ n ≤ 2 ^ 12 = pow_mono few in let c = choice_low kind laws s b xss set few in omega arith);
    sums = sums;
    room = room;
    clear = λ e. clear_below kind laws s b xss set few roster.rows roster.choosable (clear_is roster.rows 12 roster.choosable e);
  }

  module _ (hand : event_at_hand (event_kind b.situation) s ≡ true) (one : f < b.forms) (symmetric : (i j : ℕ) → s.marked i j ≡ s.marked j i) (irreflexive : (i : ℕ) → s.marked i i ≡ false) where
    posed : Posed kind laws s b xss set hand f x
    posed = record {
      form = one;
      leads = leads_is;
      places = refl;
      by_place = by_place kind laws s b xss set few symmetric irreflexive;
      base = base_is;
      base_long = ap length base_is ∙ base_long kind laws s b xss set f;
      beside = beside;
      ahead = ahead;
    }

    number_same : (l : Option ℕ) → MayLead x l → option_map (λ q. get_or roster.numbers q 0) l ≡ number_of kind laws s b xss set hand l
    number_same None m = refl
    number_same (Some q) (e, h, c) = ap Some (numbers_get kind laws s b xss set few q h)

    pub best_of_form : (l : Option ℕ) (u : ℕ) → BestSet reaches x l u
        → BestAmong count reaches s b xss (λ g. g ≡ f) (with_chosen count reaches s b xss f (option_map (λ q. get_or roster.numbers q 0) l) (u + leader_bit l))
        × (worth x l u ≡ effect_of count s b xss (with_chosen count reaches s b xss f (option_map (λ q. get_or roster.numbers q 0) l) (u + leader_bit l)))
    best_of_form l u best =
        let h = best_here kind laws s b xss set hand f leads (map components bs) (map components ls) roster.rows roster.choosable (components base) posed l u best in
        let e = number_same l best.may_lead in (
          subst (λ m. BestAmong count reaches s b xss (λ g. g ≡ f) (with_chosen count reaches s b xss f m (u + leader_bit l))) (sym e) h.0,
          h.1 ∙ ap (λ m. effect_of count s b xss (with_chosen count reaches s b xss f m (u + leader_bit l))) (sym e),
        )

-- the same from the strip, the masks and the roster as the code has them
module _ {E : Type 0} {components : E → List ℤ} {count : ℕ} {reaches : List ℤ → List ℤ → Bool} (kind : Closed components count) (laws : Laws components count reaches)
    (s : Content) (b : Book) (xss : List (List ℤ)) (set : Setting kind laws s b xss) (few : variables s.actions ≤ 12) (f : ℕ)
    (strip : List E) (rest : List (List ℤ)) (masks : List ℕ) (r : Roster) (leads : Bool) (base : E)
    (full : masks ≡ (with_chosen count reaches s b xss 0 None 4095).masks) (placed : r ≡ roster_by masks s)
    (filled : map components strip ≡ both_halves count xss masks (b.form f) s ++ rest) (leads_is : leads ≡ (b.form f).leader)
    (base_is : components base ≡ exact_total count (map (base_share count reaches s b xss f) (entries s))) where
  abbrev M : List ℕ
  M = full_masks kind laws s b xss set few

  halves_are : map components strip ≡ both_halves count xss M (b.form f) s ++ rest
  halves_are = filled ∙ ap (λ m. both_halves count xss m (b.form f) s ++ rest) full

  roster_is : r ≡ roster_by M s
  roster_is = placed ∙ ap (λ m. roster_by m s) full

  half_of : (role : Role) → length (role_half count xss M (b.form f) role s) ≡ 12
  half_of role = half_long kind laws s b xss set few (λ e. role_factor (b.form f) role e.action.category)

  ahead_is : map components (take 12 strip) ≡ role_half count xss M (b.form f) Leading s
  ahead_is = first_half components strip (role_half count xss M (b.form f) Leading s) (role_half count xss M (b.form f) Accompanying s) rest (half_of Leading) (half_of Accompanying) halves_are

  beside_is : map components (take 12 (drop 12 strip)) ≡ role_half count xss M (b.form f) Accompanying s
  beside_is = second_half components strip (role_half count xss M (b.form f) Leading s) (role_half count xss M (b.form f) Accompanying s) rest (half_of Leading) (half_of Accompanying) halves_are

  abbrev handed : Roster → Given
  handed q = given_by components q (take 12 strip) (take 12 (drop 12 strip)) leads base

  pub form_searchable : Searchable count reaches r.apart (handed r)
  form_searchable = subst (λ q. Searchable count reaches q.apart (handed q)) (sym roster_is) (searchable_by kind laws s b xss set few f (take 12 strip) (take 12 (drop 12 strip)) leads base leads_is ahead_is beside_is base_is)

  pub form_best : event_at_hand (event_kind b.situation) s ≡ true → f < b.forms → ((i j : ℕ) → s.marked i j ≡ s.marked j i) → ((i : ℕ) → s.marked i i ≡ false)
      → (l m : Option ℕ) (u t : ℕ) (d : List ℤ) → BestSet reaches (handed r) l u → d ≡ worth (handed r) l u → m ≡ option_map (λ q. get_or r.numbers q 0) l → t ≡ u + leader_bit l
      → BestAmong count reaches s b xss (λ g. g ≡ f) (with_chosen count reaches s b xss f m t) × (d ≡ effect_of count s b xss (with_chosen count reaches s b xss f m t))
  form_best hand one symmetric irreflexive l m u t d best is m_is t_is =
      let h = best_of_form kind laws s b xss set few f (take 12 strip) (take 12 (drop 12 strip)) leads base leads_is ahead_is beside_is base_is hand one symmetric irreflexive l u (subst (λ q. BestSet reaches (handed q) l u) roster_is best) in
      let m' : m ≡ option_map (λ q. get_or (roster_by M s).numbers q 0) l = m_is ∙ ap (λ (q : Roster). option_map (λ i. get_or q.numbers i 0) l) roster_is in
      let C : Option ℕ → ℕ → Combination = with_chosen count reaches s b xss f in
      let same : C m t ≡ C (option_map (λ q. get_or (roster_by M s).numbers q 0) l) (u + leader_bit l) = ap (λ y. C y t) m' ∙ ap (C (option_map (λ q. get_or (roster_by M s).numbers q 0) l)) t_is in
      (subst (BestAmong count reaches s b xss (λ g. g ≡ f)) (sym same) h.0, is ∙ ap (λ (q : Roster). worth (handed q) l u) roster_is ∙ h.1 ∙ ap (effect_of count s b xss) (sym same))
