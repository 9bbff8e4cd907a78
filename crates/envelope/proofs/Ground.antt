-- A sheet with the effects that are supplied for its parts: what a walk over its actions knows of each.
use Rattle.std.proofs.Common.{◌≡◌, ℕ, ◌+◌, ◌<◌, ◌≤◌, Bool, ◌&&◌, leb, List, map, length, get_or, take, drop, ℤ, is_some, sym, ap, ◌∙◌, arith, length-drop, length-take}
use lib.ListN.{length-map}
use Rattle.std.proofs.ByRecursion.{All-take, All-drop, All-get_or, All-from_get_or}
use Rattle.std.proofs.lemmas.List.{take-map, drop-map}
use Rattle.std.proofs.lemmas.Bool.{and_parts, leb-true}
use Rattle.std.specs.List.{AllByRecursion as All, Contains}
use Rattle.std.proofs.lemmas.List.Elements as elements
use Rattle.basis.specs.Vocabulary.{is_variable, allows}
use Rattle.effects.specs.Laws.{Closed, Laws}
use Rattle.rulebooks.specs.Books.{Book, BookLaws}
use Rattle.sheet.specs.declared.action.Action.{Action}
use Rattle.sheet.specs.declared.plain.Sheet.{Sheet}
use Rattle.sheet.specs.Content.{Content, content}
use Rattle.sheet.specs.Limits.{no_action, variables, agree, parts_allowed, Limited, Formed}
use Rattle.envelope.specs.declared.entry.Entry.{Entry}
use Rattle.envelope.specs.Entries.{entries, parts_of, nowhere}
use Rattle.envelope.specs.Supplied.{Supplied, OneAction, IsWithin}
use Rattle.envelope.proofs.Numbering.{entry_at, entries_length, entry_parts, at_number, at_action, of_number}
use Rattle.envelope.proofs.Weights.{parts_of_values}
use Rattle.envelope.proofs.Setting.{Setting}
use Rattle.envelope.proofs.Walk as walk
use Rattle.envelope.proofs.Promised.{Sound, formed_all, form_laws}

-- an action has at most 16 parts
pub few_parts : (list : List Action) → Formed list → All (λ a. a.parts ≤ 16) list
few_parts list formed =
    All-from_get_or (λ a. a.parts ≤ 16) list no_action (λ i h.
    let a = get_or list i no_action in
    let whole = and_parts (agree (is_variable a.kind) (is_some a.category)) (allows a.kind a.spread && parts_allowed a.parts) (formed i h) in
    let counted = and_parts (allows a.kind a.spread) (parts_allowed a.parts) whole.1 in
    leb-true a.parts 16 (and_parts (leb 1 a.parts) (leb a.parts 16) counted.1).1)

-- what the code's sheet keeps
pub sound_of : (room : ℕ) (list : List Action) → Limited room list → Formed list → Sound list
sound_of room list limited formed = record { short = limited.1; few = limited.3; some = formed_all list formed }

pub grounded : {E : Type 0} {components : E → List ℤ} {count : ℕ} {reaches : List ℤ → List ℤ → Bool} (kind : Closed components count) (laws : Laws components count reaches)
    (s : Content) (b : Book) (es : List E) → Sound s.actions → BookLaws b → Supplied s (map components es) → Setting kind laws s b (map components es)
grounded kind laws s b es so bl supplied = record {
  complete = supplied.complete;
  few = so.few;
  short = so.short;
  some = so.some;
  parts = parts_of_values kind laws es supplied.small;
  forms = form_laws b bl;
}

-- the code's sheet with its effects and a rulebook
pub on_sheet : {E : Type 0} {components : E → List ℤ} {count : ℕ} {reaches : List ℤ → List ℤ → Bool} (kind : Closed components count) (laws : Laws components count reaches)
    (sheet : Sheet) (b : Book) (es : List E) → BookLaws b → Supplied (content sheet) (map components es) → Setting kind laws (content sheet) b (map components es)
on_sheet kind laws sheet b es bl supplied = grounded kind laws (content sheet) b es (sound_of _ (content sheet).actions sheet.limited sheet.formed) bl supplied

-- an action's own parts among the effects
pub record AtHand {E : Type 0} (components : E → List ℤ) (es : List E) (e : Entry) : Type 0 where
  pub within : e.first + e.action.parts ≤ length es
  pub counted : length (parts_of es e) ≡ e.action.parts
  pub one : OneAction components (parts_of es e)
  pub same : map components (parts_of es e) ≡ parts_of (map components es) e

module _ {E : Type 0} (components : E → List ℤ) (s : Content) (es : List E) (formed : Formed s.actions) (supplied : Supplied s (map components es)) where
  owns : (e : Entry) → e.first + e.action.parts ≤ length es → 1 ≤ e.action.parts → e.action.parts ≤ 16 → AtHand components es e
  owns e h one few =
      let l : length (parts_of es e) ≡ e.action.parts = length-take e.action.parts (drop e.first es) ∙ omega (arith, length-drop e.first es) in
      let q : map components (parts_of es e) ≡ parts_of (map components es) e = sym (take-map components e.action.parts (drop e.first es)) ∙ ap (take e.action.parts) (sym (drop-map components e.first es)) in
      record {
        within = h;
        counted = l;
        one = record {
          some = omega arith;
          few = omega arith;
          supply = record {
            few = omega (arith, length-map (parts_of es e) components);
            small = rw q (All-take _ e.action.parts (drop e.first (map components es)) (All-drop _ e.first (map components es) supplied.small));
          };
        };
        same = q;
      }

  -- the action that a walk comes to at its turn i
  pub at_turn : (list : List Entry) (i : ℕ) → list ≡ entries s → i < length list → AtHand components es (get_or list i nowhere)
  at_turn list i laid l =
      let m : i < length s.actions = omega (arith, ap length laid, entries_length 0 0 0 s.actions) in
      let here : get_or list i nowhere ≡ entry_at s i = ap (λ (d : List Entry). get_or d i nowhere) laid in
      let a = at_action s i m in
      let one : 1 ≤ (entry_at s i).action.parts = rw a (All-get_or (λ x. 1 ≤ x.parts) s.actions i no_action m (formed_all s.actions formed)) in
      let few : (entry_at s i).action.parts ≤ 16 = rw a (All-get_or (λ x. x.parts ≤ 16) s.actions i no_action m (few_parts s.actions formed)) in
      let h = of_number s _ i m (entry_parts 0 0 0 s.actions) in
      rw here (owns (entry_at s i) (omega (arith, supplied.complete, length-map es components)) one few)

-- its number is the turn's
pub turn_number : (s : Content) (list : List Entry) (i : ℕ) → list ≡ entries s → i < length list → (get_or list i nowhere).number ≡ i
turn_number s list i laid l =
    ap (λ (d : List Entry). (get_or d i nowhere).number) laid ∙ at_number s i (omega (arith, ap length laid, entries_length 0 0 0 s.actions))

-- and below 32
pub turn_within : (s : Content) (list : List Entry) (i : ℕ) → list ≡ entries s → length s.actions ≤ 32 → i < length list → (get_or list i nowhere).number < 32
turn_within s list i laid short h = omega (arith, turn_number s list i laid h, ap length laid, entries_length 0 0 0 s.actions)

-- what holds of each action holds of the turn's
pub of_turn : (s : Content) (P : Entry → Type 0) (list : List Entry) (i : ℕ) → list ≡ entries s → i < length list → All P (entries s) → P (get_or list i nowhere)
of_turn s P list i laid l each =
    let here : get_or list i nowhere ≡ entry_at s i = ap (λ (d : List Entry). get_or d i nowhere) laid in
    rw here (of_number s P i (omega (arith, ap length laid, entries_length 0 0 0 s.actions)) each)

-- an action's parts among the effects
pub at_hand : {E : Type 0} (components : E → List ℤ) (sheet : Sheet) (list : List Entry) (es : List E) (e : Entry) → list ≡ entries (content sheet) → Supplied (content sheet) (map components es)
    → Contains list e → AtHand components es e
at_hand components sheet list es e is supplied member =
    elements.All-contains (AtHand components es) list e (elements.All-from_get_or (AtHand components es) list nowhere (λ i l. at_turn components (content sheet) es sheet.formed supplied list i is l)) member

-- what is known of the entries of a sheet that keeps its limits
pub entries_within : (s : Content) (list : List Entry) → list ≡ entries s → length s.actions ≤ 32 → variables s.actions ≤ 12 → IsWithin list
entries_within s list is short few = record {
  number = λ i l. turn_within s list i is short l;
  place = λ i l. walk.place_most s list is i l few;
  variable = λ i l. walk.place_below s list is i l few;
}
