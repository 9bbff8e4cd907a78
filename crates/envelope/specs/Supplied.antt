-- What is supplied for the parts of a sheet; only private functions rest on it.
use Rattle.std.specs.Prelude.{◌≡◌, ℕ, ◌<◌, ◌≤◌, true, List, length, ℤ, map, None, slice_index_or}
use Rattle.std.specs.List.{AllByRecursion}
use Rattle.basis.specs.Vocabulary.{event_kind, is_variable}
use Rattle.effects.specs.Components.{size}
use Rattle.effects.specs.Supplies.{Supply}
use Rattle.rulebooks.specs.Books.{Book}
use Rattle.sheet.specs.Content.{Content}
use Rattle.sheet.specs.Limits.{parts_in}
use Rattle.envelope.specs.declared.entry.Entry.{Entry}
use Rattle.envelope.specs.Entries.{nowhere}
use Rattle.envelope.specs.Answers.{too_large, event_at_hand}

-- an effect for each part of the sheet, none of size past 10^9
pub record Supplied (s : Content) (xss : List (List ℤ)) : Type 0 where
  pub complete : length xss ≡ parts_in s.actions
  pub small : AllByRecursion (λ xs. size xs ≤ 1_000_000_000) xss

-- the parts of one action: at least one, at most 16, none of size past 10^9
pub record OneAction {E : Type 0} (components : E → List ℤ) (parts : List E) : Type 0 where
  pub some : 1 ≤ length parts
  pub few : length parts ≤ 16
  pub supply : Supply (map components parts)

-- the numbers and places of entries fit their arrays
pub record IsWithin (list : List Entry) : Type 0 where
  pub number : (i : ℕ) → i < length list → (slice_index_or list i nowhere).number < 32
  pub place : (i : ℕ) → i < length list → (slice_index_or list i nowhere).place ≤ 12
  pub variable : (i : ℕ) → i < length list → is_variable (slice_index_or list i nowhere).action.kind ≡ true → (slice_index_or list i nowhere).place < 12

-- every question of an envelope is answered yes, `room` being the length of the strip
pub record Accepted (s : Content) (b : Book) (xss : List (List ℤ)) (room : ℕ) : Type 0 where
  pub complete : length xss ≡ parts_in s.actions
  pub long : 24 ≤ room
  pub small : too_large 0 xss ≡ None
  pub hand : event_at_hand (event_kind b.situation) s ≡ true
