-- From the best candidate to the record that is reported.
use Rattle.std.proofs.Common.{◌≡◌, ℕ, ◌-◌, ◌<◌, ◌≤◌, Bool, true, false, List, ◌++◌, map, length, take, ℤ, IfSome, Some, None, Option, sym, ap, ◌∙◌, subst, inl, inr, arith}
use lib.Ieee.Bits.{is_true}
use Rattle.std.proofs.lemmas.List.{get_or_past}
use Rattle.std.proofs.lemmas.Bool.{cases_lt, both_ways, and_parts}
use Rattle.basis.specs.declared.action.Kind.{Kind}
use Rattle.basis.specs.Vocabulary.{same_kind, event_kind}
use Rattle.effects.specs.Laws.{Closed, Laws}
use Rattle.rulebooks.specs.Books.{Book}
use Rattle.sheet.specs.declared.action.Action.{Action}
use Rattle.sheet.specs.Content.{Content, action_at}
use Rattle.sheet.specs.Limits.{no_action, variables}
use Rattle.envelope.specs.declared.combination.Combination.{Combination}
use Rattle.envelope.specs.Places.{places}
use Rattle.envelope.specs.declared.entry.Entry.{Entry}
use Rattle.envelope.specs.Entries.{entries, nowhere}
use Rattle.envelope.specs.Combinations.{present}
use Rattle.envelope.specs.Admissible.{Led, EventNamed}
use Rattle.envelope.specs.Reported.{with_chosen, chosen_event, Reported}
use Rattle.envelope.specs.Answers.{strip_after}
use Rattle.envelope.specs.Layout.{mask_in, both_halves}
use Rattle.envelope.specs.Forms.{BestAmong}
use Rattle.envelope.proofs.LaidOut.{laid_entries}
use Rattle.envelope.proofs.Setting.{Setting}
use Rattle.envelope.proofs.Candidates.{present_within}
use Rattle.envelope.proofs.Halves.{full_masks, masks_of_set, strip_is}
use Rattle.envelope.proofs.Forms.{all_forms}

-- the entries that the code reads
pub laid_here : (s : Content) (slots : List Entry) (list : List Action) → list ≡ s.actions → length s.actions ≤ 32 → slots ≡ places 32 (entries s) nowhere → take (length list - 0) slots ≡ entries s
laid_here s slots list e short is = ap (λ n. take n slots) (let l = ap length e in omega arith) ∙ laid_entries s slots short is

-- the event that is at hand is an action's number
event_low : (s : Content) (o : Option Kind) (e : Option ℕ) → length s.actions ≤ 32 → EventNamed o s e → IfSome e (λ i. i < 32)
event_low s o None short h = tt
event_low s None (Some i) short h = absurd (let z : ◌≡◌ {A = ℕ} 0 1 = cc in omega arith)
event_low s (Some k) (Some i) short h =
    elim (cases_lt i (length s.actions)) [
      | inl l ↦ omega arith
      | inr l ↦ absurd (both_ways (action_at s i).active (ap (λ (a : Action). a.active) (get_or_past s.actions i no_action l)) (and_parts (action_at s i).active (same_kind (action_at s i).kind k) (is_true _ h)).0)
    ]

module _ {E : Type 0} {components : E → List ℤ} {count : ℕ} {reaches : List ℤ → List ℤ → Bool} (kind : Closed components count) (laws : Laws components count reaches)
    (s : Content) (b : Book) (xss : List (List ℤ)) (set : Setting kind laws s b xss) (few : variables s.actions ≤ 12) where
  leader_low : (x : Combination) (leads : Bool) (l : Option ℕ) → Led leads (present s x) l → IfSome l (λ i. i < 32)
  leader_low x leads None h = tt
  leader_low x true (Some i) h = let n = set.short in omega (arith, present_within kind laws s b xss set x i h)
  leader_low x false (Some i) h = absurd (let z : ◌≡◌ {A = ℕ} 0 1 = cc in omega arith)

  module _ (f : ℕ) (l : Option ℕ) (t : ℕ) (best : BestAmong count reaches s b xss (λ g. g < b.forms) (with_chosen count reaches s b xss f l t)) where
    abbrev x : Combination
    x = with_chosen count reaches s b xss f l t

    pub leader_fits : IfSome l (λ i. i < 32)
    leader_fits = leader_low x (b.form f).leader l best.admissible.leader

    pub event_fits : (e : Option ℕ) → e ≡ chosen_event count reaches s b xss → IfSome e (λ i. i < 32)
    event_fits e is = subst (λ (o : Option ℕ). IfSome o (λ i. i < 32)) (sym is) (event_low s (event_kind b.situation) (chosen_event count reaches s b xss) set.short best.admissible.event)

    -- the record is the best combination, and so the reported one
    pub recorded : (l' e : Option ℕ) (masks ms : List ℕ) → l' ≡ l → e ≡ chosen_event count reaches s b xss → masks ≡ full_masks kind laws s b xss set few → ms ≡ places 32 (map (mask_in masks t) (entries s)) 0
        → ◌≡◌ {A = Combination} (record { form = f; leader = l'; event = e; set = t; masks = ms }) x
    recorded l' e masks ms p q r m =
        let same : ms ≡ x.masks = m ∙ ap (λ (y : List ℕ). places 32 (map (mask_in y t) (entries s)) 0) r ∙ masks_of_set kind laws s b xss set few f l t in
        cc

    pub reported_so : (c : Combination) → c ≡ x → Reported count reaches s b xss c
    reported_so c e = subst (Reported count reaches s b xss) (sym e) (all_forms kind laws s b xss set x best)

  -- the strip after the last form
  pub strip_left : (masks : List ℕ) (strip rest : List (List ℤ)) → masks ≡ full_masks kind laws s b xss set few → strip ≡ both_halves count xss masks (b.form (b.forms - 1)) s ++ rest → strip ≡ strip_after count reaches s b xss ++ rest
  strip_left masks strip rest e h = h ∙ ap (λ m. both_halves count xss m (b.form (b.forms - 1)) s ++ rest) e ∙ ap (λ y. y ++ rest) (strip_is kind laws s b xss set few)
