-- No admissible combination gives more than the same one with its parts replaced by the chosen ones.
use Rattle.std.proofs.Common.{◌≡◌, ℕ, ◌*◌, ◌<◌, ◌≤◌, Bool, true, false, cond, ◌||◌, T, List, map, length, ℤ, Some, None, sum_by, Option, sym, refl, ap, ◌∙◌, subst, inl, inr, arith}
use lib.Ieee.Bits.{is_true}
use Rattle.basis.specs.Vocabulary.{kind_of, kind_number, same_kind, event_kind}
use Rattle.std.proofs.lemmas.List.{get_or_past}
use Rattle.std.proofs.lemmas.Bool.{cases_Bool, cases_lt, eqb-true, eq-eqb, ne_eqb, both_ways, and_parts}
use Rattle.std.proofs.ByRecursion.{All-weaker}
use Rattle.basis.specs.declared.action.Kind.{Kind}
use Rattle.basis.specs.declared.action.Kind.TheVariants.{Permanent, Prestress, Variable, Accidental, Seismic}
use Rattle.basis.specs.declared.situation.Situation.{Situation}
use Rattle.basis.specs.declared.situation.Situation.TheVariants.{Persistent as InPersistent, Accidental as InAccidental, Seismic as InSeismic, Serviceability as InService}
use Rattle.effects.specs.Components.{zeros, exact_multiple}
use Rattle.effects.specs.Supplies.{exact_total}
use Rattle.effects.specs.Laws.{Closed, Laws}
use Rattle.rulebooks.specs.Books.{Form, Book}
use Rattle.sheet.specs.declared.action.Action.{Action}
use Rattle.sheet.specs.Content.{Content, action_at}
use Rattle.sheet.specs.Limits.{no_action}
use Rattle.envelope.specs.declared.combination.Combination.{Combination}
use Rattle.envelope.specs.declared.entry.Entry.{Entry}
use Rattle.envelope.specs.Entries.{entries, parts_of, acts, has}
use Rattle.envelope.specs.Combinations.{mask, named, share, weighted, factor, effect_of, by_mask}
use Rattle.envelope.specs.Admissible.{Admissible, EventNamed, EventMask}
use Rattle.envelope.specs.Choices.{event_choice, event_of}
use Rattle.envelope.proofs.Values.{Reaches, Lg, zero_value, level, wider, long, sums, chain, multiples, multiple_value}
use Rattle.envelope.proofs.Choose.{no_part}
use Rattle.envelope.proofs.Numbering.{entry_at, at_number, at_action, of_number}
use Rattle.envelope.proofs.Totals.{Share, total_improves, total_share, total_none, total-one, entries_sum}
use Rattle.envelope.proofs.ByKind.{event_small, event_acting, event_best}
use Rattle.envelope.proofs.Setting.{Setting, Own, is_event, share_value, share_active, share_none, rest_share, event_share, rest_parts, event_parts, effect_split, parts_split, rest_value, event_value}
use Rattle.envelope.proofs.Mended.{Facts, facts, mended, mask_by, rest_improves}
use Rattle.envelope.proofs.Events.{event_worth, own_some, Chosen, chosen, Proper, proper}

event_by : (k : Kind) (a : Action) → a.active ≡ true → a.kind ≡ k → is_event k ≡ true → T (acts Accidental a || acts Seismic a)
event_by Permanent a t q e = absurd (both_ways false refl e)
event_by Prestress a t q e = absurd (both_ways false refl e)
event_by Variable a t q e = absurd (both_ways false refl e)
event_by Accidental a t q e = rw (t, q) tt
event_by Seismic a t q e = rw (t, q) tt

pub event_acts : (a : Action) → a.active ≡ true → is_event a.kind ≡ true → T (acts Accidental a || acts Seismic a)
event_acts a t e = event_by a.kind a t refl e

kind_back : (k : Kind) → kind_of (kind_number k) ≡ Some k
kind_back Permanent = refl
kind_back Prestress = refl
kind_back Variable = refl
kind_back Accidental = refl
kind_back Seismic = refl

pub same_is : (j k : Kind) → same_kind j k ≡ true → j ≡ k
same_is j k h =
    let e : kind_number j ≡ kind_number k = eqb-true (kind_number j) (kind_number k) h in
    let both : Some j ≡ Some k = sym (kind_back j) ∙ ap kind_of e ∙ kind_back k in
    cc

-- an action that acts as one of a kind is active, and of the kind
pub acts_parts : (k : Kind) (a : Action) → acts k a ≡ true → (a.active ≡ true) × (a.kind ≡ k)
acts_parts k a t = let h = and_parts a.active (same_kind a.kind k) t in (h.0, same_is a.kind k h.1)

pub event_kind_is : (z : Situation) (k : Kind) → event_kind z ≡ Some k → is_event k ≡ true
event_kind_is InPersistent k e = absurd (let z : ◌≡◌ {A = ℕ} 0 1 = cc in omega arith)
event_kind_is InAccidental k e = let q : Accidental ≡ k = cc in ap is_event (sym q)
event_kind_is InSeismic k e = let q : Seismic ≡ k = cc in ap is_event (sym q)
event_kind_is InService k e = absurd (let z : ◌≡◌ {A = ℕ} 0 1 = cc in omega arith)

module _ {E : Type 0} {components : E → List ℤ} {count : ℕ} {reaches : List ℤ → List ℤ → Bool} (kind : Closed components count) (laws : Laws components count reaches)
    (s : Content) (b : Book) (xss : List (List ℤ)) (set : Setting kind laws s b xss) (c : Combination) (adm : Admissible s b c) where
  abbrev form : Form
  form = b.form c.form

  abbrev new : Combination
  new = mended kind laws s b xss set c adm

  abbrev evt : Combination → Entry → List ℤ
  evt = event_share kind laws form (set.forms c.form) xss

  -- an event's share
  weigh_by : (x : Combination) (e : Entry) (k : Kind) → e.action.kind ≡ k → is_event k ≡ true
      → weighted count (λ p. factor form e.action.kind e.action.category (named x.leader e.number) (has (mask x e.number) p)) (parts_of xss e) ≡ weighted count (by_mask 100000 0 (mask x e.number)) (parts_of xss e)
  weigh_by x e Permanent q t = absurd (both_ways false refl t)
  weigh_by x e Prestress q t = absurd (both_ways false refl t)
  weigh_by x e Variable q t = absurd (both_ways false refl t)
  weigh_by x e Accidental q t = ap (λ (k : Kind). weighted count (λ p. factor form k e.action.category (named x.leader e.number) (has (mask x e.number) p)) (parts_of xss e)) q
  weigh_by x e Seismic q t = ap (λ (k : Kind). weighted count (λ p. factor form k e.action.category (named x.leader e.number) (has (mask x e.number) p)) (parts_of xss e)) q

  weigh : (x : Combination) (e : Entry) → Own kind laws xss e → e.action.active ≡ true → is_event e.action.kind ≡ true → share count form xss x e ≡ weighted count (by_mask 100000 0 (mask x e.number)) (parts_of xss e)
  weigh x e own t q = share_active kind laws form (set.forms c.form) xss x e own t ∙ weigh_by x e e.action.kind refl q

  -- an event that does not act adds nothing
  silent : (x : Combination) (e : Entry) → Own kind laws xss e → (e.action.active ≡ true → is_event e.action.kind ≡ true → mask x e.number ≡ 0) → evt x e ≡ zeros count
  silent x e own none =
      elim (cases_Bool (is_event e.action.kind)) [
        | inl q ↦
            elim (cases_Bool e.action.active) [
              | inl t ↦ rw q (weigh x e own t q ∙ no_part kind laws (parts_of xss e) own.few own.parts 100000 (mask x e.number) (none t q))
              | inr t ↦ rw q (share_none kind laws form (set.forms c.form) xss x e own t)
            ]
        | inr q ↦ rw q refl
      ]

  -- the masks of the events other than the one named
  abbrev Quiet : Combination → Entry → Type 0
  Quiet x e = e.action.active ≡ true → is_event e.action.kind ≡ true → named x.event e.number ≡ false → mask x e.number ≡ 0

  quiet_old : (e : Entry) → Facts kind laws s b xss set c adm e → Quiet c e
  quiet_old e fe t q n = rw n at (fe.event (event_acts e.action t q))

  pub quiet_by : (e : Entry) (k : Kind) → Facts kind laws s b xss set c adm e → e.action.active ≡ true → e.action.kind ≡ k → is_event k ≡ true → mask new e.number ≡ cond (named new.event e.number) (event_choice count reaches e.action.spread (parts_of xss e)) 0
  quiet_by e Permanent fe t q n = absurd (both_ways false refl n)
  quiet_by e Prestress fe t q n = absurd (both_ways false refl n)
  quiet_by e Variable fe t q n = absurd (both_ways false refl n)
  quiet_by e Accidental fe t q n = mask_by kind laws s b xss set c adm e Accidental fe t q
  quiet_by e Seismic fe t q n = mask_by kind laws s b xss set c adm e Seismic fe t q

  quiet_new : (e : Entry) → Facts kind laws s b xss set c adm e → Quiet new e
  quiet_new e fe t q n = quiet_by e e.action.kind fe t refl q ∙ ap (λ (on : Bool). cond on (event_choice count reaches e.action.spread (parts_of xss e)) 0) n

  -- no event
  total_silent : (x : Combination) → x.event ≡ None → ((e : Entry) → Facts kind laws s b xss set c adm e → Quiet x e) → exact_total count (map (evt x) (entries s)) ≡ zeros count
  total_silent x none quiet =
      total_none count (evt x) (entries s)
      (All-weaker (Facts kind laws s b xss set c adm) _ (λ e fe. silent x e fe.own (λ t q. quiet e fe t q (ap (λ l. named l e.number) none))) (entries s) (facts kind laws s b xss set c adm))

  -- the event of number j
  total_sounding : (x : Combination) (j : ℕ) → x.event ≡ Some j → j < length s.actions → is_event (entry_at s j).action.kind ≡ true → ((e : Entry) → Facts kind laws s b xss set c adm e → Quiet x e)
      → exact_total count (map (evt x) (entries s)) ≡ share count form xss x (entry_at s j)
  total_sounding x j named-so l q quiet =
      let own = (of_number s _ j l (facts kind laws s b xss set c adm)).own in
      total-one count (evt x) j (share count form xss x (entry_at s j)) 0 0 0 s.actions (long kind laws (share_value kind laws form (set.forms c.form) xss x (entry_at s j) own)) (omega arith) (omega arith)
      (All-weaker (Facts kind laws s b xss set c adm) _ (λ e fe. record {
        here = λ same.
            let is : entry_at s j ≡ e = ap (entry_at s) (sym same) ∙ fe.num.same in
            let qe : is_event e.action.kind ≡ true = subst (λ (d : Entry). is_event d.action.kind ≡ true) is q in
            ap (λ (on : Bool). cond on (share count form xss x e) (zeros count)) qe ∙ ap (share count form xss x) (sym is);
        elsewhere = λ other. silent x e fe.own (λ t k. quiet e fe t k (ap (λ l. named l e.number) named-so ∙ ne_eqb j e.number (λ h. other (sym h))));
      }) (entries s) (facts kind laws s b xss set c adm))

  -- the event named in c, against the chosen one
  module _ (k : Kind) (at_hand : event_kind b.situation ≡ Some k) (j : ℕ) (is_j : c.event ≡ Some j) (acting : T (acts k (action_at s j))) where
    q_event : is_event k ≡ true
    q_event = event_kind_is b.situation k at_hand

    j_within : j < length s.actions
    j_within =
        elim (cases_lt j (length s.actions)) [
          | inl l ↦ l
          | inr l ↦ let past : action_at s j ≡ no_action = get_or_past s.actions j no_action l in absurd (subst (λ (a : Action). T (acts k a)) past acting)
        ]

    acts_j : acts k (entry_at s j).action ≡ true
    acts_j = ap (acts k) (at_action s j j_within) ∙ is_true (acts k (action_at s j)) acting

    pub best : Chosen kind laws s b xss set k j
    best = chosen kind laws s b xss set k j j_within acts_j

    -- one that acts as an event of the kind
    of_kind : (e : Entry) → acts k e.action ≡ true → (e.action.active ≡ true) × (is_event e.action.kind ≡ true)
    of_kind e t = let h = acts_parts k e.action t in (h.0, ap is_event h.1 ∙ q_event)

    fact_of : (i : ℕ) → i < length s.actions → Facts kind laws s b xss set c adm (entry_at s i)
    fact_of i l = of_number s (Facts kind laws s b xss set c adm) i l (facts kind laws s b xss set c adm)

    old_under : Reaches kind laws (exact_multiple 100000 (event_worth kind laws s b xss set (entry_at s j))) (exact_total count (map (evt c) (entries s)))
    old_under =
        let e : Entry = entry_at s j in
        let fe = fact_of j j_within in
        let on = of_kind e acts_j in
        let pe : Proper kind laws s b xss set e = of_number s _ j j_within (proper kind laws s b xss set) in
        let some = own_some kind laws s b xss set e fe.own pe.1.1 in
        let mine : named c.event e.number ≡ true = ap (λ l. named l e.number) is_j ∙ eq-eqb j e.number (sym (at_number s j j_within)) in
        let kept : EventMask true e.action.spread (length (parts_of xss e)) (mask c e.number) = rw fe.own.size (rw mine at (fe.event (event_acts e.action on.0 on.1))) in
        rw (total_sounding c j is_j j_within on.1 quiet_old, weigh c e fe.own on.0 on.1)
        (event_best kind laws (parts_of xss e) fe.own.few fe.own.parts some e.action.spread 100000 (mask c e.number) (omega arith) kept)

    new_is : exact_total count (map (evt new) (entries s)) ≡ exact_multiple 100000 (event_worth kind laws s b xss set best.entry)
    new_is =
        let i : ℕ = best.entry.number in
        let num = best.proper.0 in
        let e : Entry = entry_at s i in
        let same : e ≡ best.entry = num.same in
        let fe = fact_of i num.within in
        let on = of_kind e (ap (λ (d : Entry). acts k d.action) same ∙ best.acts_so) in
        let pe : Proper kind laws s b xss set e = of_number s _ i num.within (proper kind laws s b xss set) in
        let some = own_some kind laws s b xss set e fe.own pe.1.1 in
        let ev : new.event ≡ Some i = ap (λ (o : Option Kind). event_of count reaches o s xss) at_hand ∙ best.is in
        let mine : named new.event e.number ≡ true = ap (λ l. named l e.number) ev ∙ eq-eqb i e.number (sym (at_number s i num.within)) in
        let masked : mask new e.number ≡ event_choice count reaches e.action.spread (parts_of xss e) =
        quiet_by e e.action.kind fe on.0 refl on.1 ∙ ap (λ (t : Bool). cond t (event_choice count reaches e.action.spread (parts_of xss e)) 0) mine in
        total_sounding new i ev num.within on.1 quiet_new
        ∙ weigh new e fe.own on.0 on.1
        ∙ ap (λ m. weighted count (by_mask 100000 0 m) (parts_of xss e)) masked
        ∙ event_acting kind laws (parts_of xss e) fe.own.few fe.own.parts some e.action.spread 100000 (omega arith)
        ∙ ap (λ (d : Entry). exact_multiple 100000 (event_worth kind laws s b xss set d)) same

    worth_small : (e : Entry) → Proper kind laws s b xss set e → Rattle.envelope.proofs.Values.Sm kind laws (event_worth kind laws s b xss set e)
    worth_small e (n, (own, l)) = event_small kind laws (parts_of xss e) own.few own.parts (own_some kind laws s b xss set e own l) e.action.spread

    pub named_over : Reaches kind laws (exact_total count (map (evt new) (entries s))) (exact_total count (map (evt c) (entries s)))
    named_over =
        let ok = set.forms c.form in
        let sj = worth_small (entry_at s j) (of_number s _ j j_within (proper kind laws s b xss set)) in
        let sb = worth_small best.entry best.proper in
        let step : Reaches kind laws (exact_multiple 100000 (event_worth kind laws s b xss set best.entry)) (exact_multiple 100000 (event_worth kind laws s b xss set (entry_at s j))) = multiples kind laws 100000 (omega arith) sb sj best.over in
        let e = entry_at s j in
        let fe = fact_of j j_within in
        let few = set.few in
        let sized : Lg kind laws (exact_total count (map (evt c) (entries s))) =
        let split = parts_split kind laws form ok xss (entries s) in
        let sum = entries_sum 0 0 0 s.actions in
        wider kind laws 200_000_000_000_000_000 (omega arith) (total_share kind laws (event_parts kind laws form ok xss) (evt c) (entries s) (omega arith) (All-weaker (Facts kind laws s b xss set c adm) _ (λ d fd. event_value kind laws form ok xss c d fd.own) (entries s) (facts kind laws s b xss set c adm))) in
        rw new_is
        (chain kind laws (wider kind laws 200_000_000_000_000_000 (omega arith) (multiple_value kind laws 100000 (omega arith) (omega arith) sb)) (wider kind laws 200_000_000_000_000_000 (omega arith) (multiple_value kind laws 100000 (omega arith) (omega arith) sj)) sized step old_under)

  events_by : (o : Option Kind) → event_kind b.situation ≡ o → (ev : Option ℕ) → c.event ≡ ev → EventNamed o s ev → Reaches kind laws (exact_total count (map (evt new) (entries s))) (exact_total count (map (evt c) (entries s)))
  events_by None q ev is none =
      let ev_new : new.event ≡ None = ap (λ (o : Option Kind). event_of count reaches o s xss) q in
      rw (total_silent new ev_new quiet_new, total_silent c (is ∙ none) quiet_old) (level kind laws (zero_value kind laws 200_000_000_000_000_000))
  events_by (Some k) q None is acting = absurd acting
  events_by (Some k) q (Some j) is acting = named_over k q j is acting

  -- the whole effect
  pub effect_over : Reaches kind laws (effect_of count s b xss new) (effect_of count s b xss c)
  effect_over =
      let ok = set.forms c.form in
      let all = facts kind laws s b xss set c adm in
      let own = All-weaker (Facts kind laws s b xss set c adm) (Own kind laws xss) (λ e fe. fe.own) (entries s) all in
      let few = set.few in
      let split = parts_split kind laws form ok xss (entries s) in
      let sum = entries_sum 0 0 0 s.actions in
      let W : ℕ = sum_by (rest_parts kind laws form ok xss) (entries s) in
      let V : ℕ = sum_by (event_parts kind laws form ok xss) (entries s) in
      let rw_few : W ≤ 192 = omega arith in
      let rv_few : V ≤ 192 = omega arith in
      let rest : (x : Combination) → Share kind laws W (exact_total count (map (rest_share kind laws form ok xss x) (entries s))) =
      λ x. total_share kind laws (rest_parts kind laws form ok xss) (rest_share kind laws form ok xss x) (entries s) rw_few (All-weaker (Own kind laws xss) _ (λ e o. rest_value kind laws form ok xss x e o) (entries s) own) in
      let evs : (x : Combination) → Share kind laws V (exact_total count (map (evt x) (entries s))) =
      λ x. total_share kind laws (event_parts kind laws form ok xss) (evt x) (entries s) rv_few (All-weaker (Own kind laws xss) _ (λ e o. event_value kind laws form ok xss x e o) (entries s) own) in
      let over : Reaches kind laws (exact_total count (map (rest_share kind laws form ok xss new) (entries s))) (exact_total count (map (rest_share kind laws form ok xss c) (entries s))) =
      total_improves kind laws (rest_parts kind laws form ok xss) (rest_share kind laws form ok xss new) (rest_share kind laws form ok xss c) (entries s) rw_few
      (All-weaker (Facts kind laws s b xss set c adm) _ (λ e fe. rest_improves kind laws s b xss set c adm e fe) (entries s) all) in
      rw (effect_split kind laws form ok xss new (entries s) own, effect_split kind laws form ok xss c (entries s) own)
      (sums kind laws {j = W * 1_000_000_000_000_000} {k = V * 1_000_000_000_000_000} (omega arith) (rest new) (rest c) (evs new) (evs c) over (events_by (event_kind b.situation) refl c.event refl adm.event))
