-- The combinations that the rules admit.
use Rattle.std.specs.Prelude.{◌≡◌, ℕ, ◌^◌, ◌<◌, Bool, true, false, cond, ◌||◌, T, ◌⊎◌, length, Some, None, Option}
use Rattle.std.specs.List.{AllByRecursion}
use Rattle.basis.specs.declared.action.Kind.{Kind}
use Rattle.basis.specs.declared.action.Kind.TheVariants.{Permanent, Prestress, Variable, Accidental, Seismic}
use Rattle.basis.specs.declared.action.Spread.{Spread}
use Rattle.basis.specs.declared.action.Spread.TheVariants.{Fixed, Free, Alternative}
use Rattle.basis.specs.Vocabulary.{event_kind}
use Rattle.rulebooks.specs.Books.{Book}
use Rattle.sheet.specs.declared.action.Action.{Action}
use Rattle.sheet.specs.Content.{Content, action_at}
use Rattle.envelope.specs.declared.combination.Combination.{Combination}
use Rattle.envelope.specs.Entries.{entries, acts, whole}
use Rattle.envelope.specs.Combinations.{mask, named, present, set_number}

-- of each active action of the kind, with its mask
abbrev pub OfEach : Kind → Content → Combination → (Action → ℕ → Type 0) → Type 0
OfEach k s c P = AllByRecursion (λ e. T (acts k e.action) → P e.action (mask c e.number)) (entries s)

-- the parts of an active action, none of a suspended one or past the last
abbrev pub active_parts : Action → ℕ
active_parts a = cond a.active a.parts 0

-- exactly one of n parts
abbrev pub One : ℕ → ℕ → Type 0
One n m = (p : ℕ) × (p < n) × (m ≡ 2 ^ p)

-- absent, or present with all parts, one or more, exactly one
abbrev pub SpreadKept : Spread → ℕ → ℕ → Type 0
SpreadKept Fixed n m = (m ≡ 0) ⊎ (m ≡ whole n)
SpreadKept Free n m = Unit {0}
SpreadKept Alternative n m = (m ≡ 0) ⊎ One n m

-- Where the form has a leader, one present action leads, if any is present; otherwise none does.
abbrev pub Led : Bool → (ℕ → Bool) → Option ℕ → Type 0
Led true present_at None = (i : ℕ) → present_at i ≡ false
Led true present_at (Some i) = present_at i ≡ true
Led false present_at leader = leader ≡ None

-- an active action of the situation's kind of event, where it has one
abbrev pub EventNamed : Option Kind → Content → Option ℕ → Type 0
EventNamed None s event = event ≡ None
EventNamed (Some k) s None = ⊥
EventNamed (Some k) s (Some i) = T (acts k (action_at s i))

-- the event acts with all parts or, alternative, with one; any other accidental or seismic action does not act
abbrev pub EventMask : Bool → Spread → ℕ → ℕ → Type 0
EventMask false spread n m = m ≡ 0
EventMask true Fixed n m = m ≡ whole n
EventMask true Free n m = m ≡ whole n
EventMask true Alternative n m = One n m

-- a combination that keeps every rule
pub record Admissible (s : Content) (b : Book) (c : Combination) : Type 0 where
  -- one of the rulebook's forms
  pub form : c.form < b.forms
  -- an active permanent action is at upper or at lower with all its parts, or with each part where the rulebook splits
  pub permanent : OfEach Permanent s c (λ a m. T b.splits ⊎ ((m ≡ 0) ⊎ (m ≡ whole a.parts)))
  -- an active prestress action acts whole
  pub prestress : OfEach Prestress s c (λ a m. m ≡ whole a.parts)
  -- an active variable action is absent, or present as its spread allows
  pub variable : OfEach Variable s c (λ a m. SpreadKept a.spread a.parts m)
  -- no two present actions exclude each other
  pub pairs : (i j : ℕ) → present s c i ≡ true → present s c j ≡ true → s.marked i j ≡ false
  -- one present action leads where the form has a leader and any is present
  pub leader : Led (b.form c.form).leader (present s c) c.leader
  -- one active action of the kind of event that the situation has, none where it has none
  pub event : EventNamed (event_kind b.situation) s c.event
  -- the event acts with all parts or, alternative, with one; no other event acts
  pub event_parts : AllByRecursion (λ e. T (acts Accidental e.action || acts Seismic e.action) → EventMask (named c.event e.number) e.action.spread e.action.parts (mask c e.number)) (entries s)
  -- the set number fits, and the 32 masks hold parts of active actions only
  pub number : c.set ≡ set_number s c
  pub masks : length c.masks ≡ 32
  pub parts : (i : ℕ) → mask c i < 2 ^ active_parts (action_at s i)
