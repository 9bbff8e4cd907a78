-- The reported combination, as a relation and as the value that has it.
use Rattle.std.specs.Prelude.{◌≡◌, ℕ, ◌+◌, ◌^◌, Bool, true, false, cond, not, ◌&&◌, ◌||◌, T, List, [], ◌∷◌, ◌++◌, map, length, ℤ, Some, None, Option, ◌==◌, nat_lt}
use Rattle.std.specs.List.{range_with_len}
use Rattle.basis.specs.declared.action.Kind.{Kind}
use Rattle.basis.specs.declared.action.Kind.TheVariants.{Permanent, Prestress, Variable, Accidental, Seismic}
use Rattle.rulebooks.specs.Books.{Book}
use Rattle.sheet.specs.Content.{Content}
use Rattle.sheet.specs.Limits.{variables}
use Rattle.envelope.specs.Places.{places}
use Rattle.envelope.specs.declared.combination.Combination.{Combination}
use Rattle.envelope.specs.declared.entry.Entry.{Entry}
use Rattle.envelope.specs.Entries.{entries, parts_of, has, whole}
use Rattle.envelope.specs.Combinations.{named, present, set_number, share, effect_of}
use Rattle.envelope.specs.Admissible.{Admissible}
use Rattle.basis.specs.Vocabulary.{is_variable, event_kind}
use Rattle.effects.specs.Components.{zeros}
use Rattle.envelope.specs.Choices.{choice, at_upper, event_choice, event_of, first_greatest}

-- no leader comes before action 0
abbrev pub leader_order : Option ℕ → ℕ
leader_order None = 0
leader_order (Some i) = i + 1

-- the lower form, then no leader, else the lower one, then the lower set number
abbrev pub before : Combination → Combination → Bool
before c d =
    nat_lt c.form d.form
    || (c.form == d.form && (nat_lt (leader_order c.leader) (leader_order d.leader)
    || (leader_order c.leader == leader_order d.leader && nat_lt c.set d.set)))

-- each of the list's, one list after the other
abbrev pub joined : {A B : Type 0} → (A → List B) → List A → List B
joined f [] = []
joined f (a ∷ rest) = f a ++ joined f rest

-- the test holds of each
abbrev pub every : {A : Type 0} → (A → Bool) → List A → Bool
every test [] = true
every test (a ∷ rest) = test a && every test rest

-- the numbers of the actions
abbrev pub numbers : Content → List ℕ
numbers s = range_with_len 0 (length s.actions)

-- the rule for the leader, as a test
abbrev pub led : Content → Bool → Combination → Option ℕ → Bool
led s true c None = every (λ i. not (present s c i)) (numbers s)
led s true c (Some i) = present s c i
led s false c None = true
led s false c (Some i) = false

-- The rules that a combination with chosen parts may still break, as a test: the set number fits, no two present actions
-- exclude each other, and the leader is present.
abbrev pub fits : Content → Book → Combination → Bool
fits s b c =
    (c.set == set_number s c)
    && (every (λ i. every (λ j. not (present s c i && (present s c j && s.marked i j))) (numbers s)) (numbers s)
    && led s (b.form c.form).leader c c.leader)

module _ (n : ℕ) (reaches : List ℤ → List ℤ → Bool) (s : Content) (b : Book) (xss : List (List ℤ)) where
  -- the effect of a combination
  abbrev pub effect : Combination → List ℤ
  effect = effect_of n s b xss

  -- the event that is chosen, if the situation has one
  abbrev pub chosen_event : Option ℕ
  chosen_event = event_of n reaches (event_kind b.situation) s xss

  -- the mask of an active action of the kind, in a combination with chosen parts whose set number is t
  abbrev pub kind_mask : ℕ → Entry → Kind → ℕ
  kind_mask t e Permanent = at_upper n reaches b.splits (parts_of xss e)
  kind_mask t e Prestress = whole e.action.parts
  kind_mask t e Variable = cond (has t e.place) (choice n reaches e.action.spread (parts_of xss e)) 0
  kind_mask t e Accidental = cond (named chosen_event e.number) (event_choice n reaches e.action.spread (parts_of xss e)) 0
  kind_mask t e Seismic = cond (named chosen_event e.number) (event_choice n reaches e.action.spread (parts_of xss e)) 0

  -- the mask of an action, 0 if suspended
  abbrev pub chosen_mask : ℕ → Entry → ℕ
  chosen_mask t e = cond e.action.active (kind_mask t e e.action.kind) 0

  -- the combination of the form, leader and set number with chosen parts
  abbrev pub with_chosen : ℕ → Option ℕ → ℕ → Combination
  with_chosen f l t =
      record { form = f; leader = l; event = chosen_event; set = t; masks = places 32 (map (chosen_mask t) (entries s)) 0 }

  -- what an action that is not variable adds in the form, whatever leads and is present
  abbrev pub base_share : ℕ → Entry → List ℤ
  base_share f e = cond (is_variable e.action.kind) (zeros n) (share n (b.form f) xss (with_chosen f None 0) e)

  -- a combination with chosen parts
  abbrev pub Chosen : Combination → Type 0
  Chosen c = c ≡ with_chosen c.form c.leader c.set

  -- The reported combination is admissible and has chosen parts; none such ranks above it, and none that comes before it is
  -- level with it.
  pub record Reported (c : Combination) : Type 0 where
    pub admissible : Admissible s b c
    pub chosen : Chosen c
    pub greatest : (d : Combination) → Admissible s b d → Chosen d → T (reaches (effect c) (effect d))
    pub first : (d : Combination) → Admissible s b d → Chosen d → T (before d c) → T (not (reaches (effect d) (effect c)))

  -- all admissible combinations with chosen parts, in the order of form, leader and set number
  abbrev pub candidates : List Combination
  candidates =
      joined (λ f. joined (λ l. joined (λ t. cond (fits s b (with_chosen f l t)) (with_chosen f l t ∷ []) [])
      (range_with_len 0 (2 ^ variables s.actions))) (None ∷ map Some (numbers s))) (range_with_len 0 b.forms)

  -- the first of the greatest
  abbrev pub reported : Combination
  reported = elim (first_greatest n reaches effect candidates) [ None ↦ with_chosen 0 None 0 | Some c ↦ c ]
