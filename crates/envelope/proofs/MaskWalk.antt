-- The mask of an action as the code has it.
use Rattle.std.proofs.Common.{◌≡◌, ℕ, ◌≤◌, Bool, true, cond, List, length, ℤ, Option, sym, refl, ap, ◌∙◌, arith}
use Rattle.basis.specs.declared.action.Kind.{Kind}
use Rattle.basis.specs.declared.action.Kind.TheVariants.{Permanent, Prestress, Variable, Accidental, Seismic}
use Rattle.basis.specs.Vocabulary.{is_variable}
use Rattle.rulebooks.specs.Books.{Book}
use Rattle.sheet.specs.Content.{Content}
use Rattle.sheet.specs.Limits.{variables}
use Rattle.envelope.specs.declared.entry.Entry.{Entry}
use Rattle.envelope.specs.Entries.{parts_of, has, whole}
use Rattle.envelope.specs.Combinations.{named}
use Rattle.envelope.specs.Choices.{choice, event_choice}
use Rattle.envelope.specs.Reported.{chosen_event, kind_mask, chosen_mask}
use Rattle.envelope.specs.Walks.{mask_in_kind, full_mask}
use Rattle.envelope.proofs.Bits.{has_whole}
use Rattle.envelope.proofs.Variables.{varies, Placed}

module _ (count : ℕ) (reaches : List ℤ → List ℤ → Bool) (s : Content) (b : Book) (xss : List (List ℤ)) where
  -- the mask of an action in the set of all places
  abbrev pub mask_there : Entry → ℕ
  mask_there = chosen_mask count reaches s b xss 4095

  in_kind : (event : Option ℕ) (e : Entry) (k : Kind) → event ≡ chosen_event count reaches s b xss → length (parts_of xss e) ≡ e.action.parts
      → (is_variable k ≡ true → has 4095 e.place ≡ true) → mask_in_kind count reaches b.splits event e (parts_of xss e) k ≡ kind_mask count reaches s b xss 4095 e k
  in_kind event e Permanent is size here = refl
  in_kind event e Prestress is size here = ap whole size
  in_kind event e Variable is size here = sym (ap (λ (u : Bool). cond u (choice count reaches e.action.spread (parts_of xss e)) 0) (here refl))
  in_kind event e Accidental is size here = ap (λ (o : Option ℕ). cond (named o e.number) (event_choice count reaches e.action.spread (parts_of xss e)) 0) is
  in_kind event e Seismic is size here = ap (λ (o : Option ℕ). cond (named o e.number) (event_choice count reaches e.action.spread (parts_of xss e)) 0) is

  -- a variable action has one of the places
  pub place_held : (e : Entry) → variables s.actions ≤ 12 → (varies e ≡ true → Placed s e) → varies e ≡ true → has 4095 e.place ≡ true
  place_held e few at v = has_whole 12 e.place (omega (arith, (at v).within))

  pub mask_is : (event : Option ℕ) (e : Entry) (ps : List (List ℤ)) (splits : Bool) (m : ℕ) → event ≡ chosen_event count reaches s b xss → splits ≡ b.splits
      → variables s.actions ≤ 12 → (varies e ≡ true → Placed s e) → ps ≡ parts_of xss e → length ps ≡ e.action.parts
      → m ≡ full_mask count reaches splits event e ps → m ≡ mask_there e
  mask_is event e ps splits m chosen split few at own size is =
      is
      ∙ (λ j. full_mask count reaches (split j) event e (own j))
      ∙ ap (λ m. cond e.action.active m 0) (in_kind event e e.action.kind chosen (ap length (sym own) ∙ size) (place_held e few at))
