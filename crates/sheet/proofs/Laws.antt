-- The laws of the calls, from their definitions.
use Rattle.std.proofs.Common.{◌≡◌, ℕ, ◌<◌, Bool, true, false, cond, not, ◌&&◌, eqb, ◌≢◌, List, [], ◌∷◌, ◌++◌, length, sym, refl, ap, ◌∙◌, subst, ⊎_elim, arith, lit≤, length-set}
use Rattle.std.proofs.lemmas.List.{get_or-set_same, get_or-set_other, get_or_append_left, set-set, set-get_or}
use Rattle.std.proofs.lemmas.Bool.{and_parts, and_from, not-true, cases_Bool, cases_eq, true≢false, or_cases, eqb-true, eq-eqb, or_left, ltb-true, lt-ltb}
use Rattle.std.proofs.lemmas.Bool.Decides.{nat_tests}
use Rattle.basis.specs.declared.category.Category.{Category}
use Rattle.sheet.specs.declared.action.Action.{Action}
use Rattle.sheet.specs.Limits.{in_limits, well_formed, no_action, can_pair, Limited, Formed, Paired}
use Rattle.sheet.specs.Content.{Content, blank, action_at, entered, variable_at, with_entry, with_action, with_mark, same_pair}
use Rattle.sheet.specs.Answers.{Answer, granted, denied}
use Rattle.sheet.specs.Calls.{Outcome, ask, settled, described, admitted, entering, pair_to_mark, excluding, lifting, new_category, with_category, recasting, to_switch, switched, suspending, resuming}
use Rattle.sheet.specs.Histories.{Edit, enter, exclude, lift, recast, suspend, resume, Call, State, draft, held, is_granted, accepted, edited, Runs, ends, edits, issues, reopens, asks, Leaves}
use Rattle.sheet.specs.Laws.{Sound, UndoneBy, Laws, OnlyAction, SameButCategory, SameButActive, OnlyPair}
use Rattle.sheet.proofs.Marks.{same_content}
use Rattle.sheet.proofs.Keeping.{limited, formed_push, paired_push, limited_set, formed_set, paired_set, paired_mark, pair_parts, well_formed_recast}
use Rattle.sheet.proofs.Questions.{ask_yes, described_yes}

-- a refused call leaves the sheet, and an accepted one leaves what its answer says
settled_keeps : {X Y : Type 0} (P : Content → Type 0) (s : Content) (x : Answer X) (answer : X → Y) (after : X → Content) → P s → ((y : X) → granted y ≡ x → P (after y)) → P (settled s x answer after).1
settled_keeps P s (granted y) answer after h k = k y refl
settled_keeps P s (denied q) answer after h k = h

settled_refused : {X Y : Type 0} (s : Content) (x : Answer X) (answer : X → Y) (after : X → Content) → is_granted (settled s x answer after).0 ≡ false → (settled s x answer after).1 ≡ s
settled_refused s (granted y) answer after h = absurd (true≢false h)
settled_refused s (denied q) answer after h = refl

refused_calls_change_nothing : (s : Content) (e : Edit) → accepted s e ≡ false → edited s e ≡ s
refused_calls_change_nothing s (enter k c d p) h = settled_refused s (admitted s (described k c d p)) _ _ h
refused_calls_change_nothing s (exclude a b) h = settled_refused s (pair_to_mark s a b (not (s.marked a b))) _ _ h
refused_calls_change_nothing s (lift a b) h = settled_refused s (pair_to_mark s a b (s.marked a b)) _ _ h
refused_calls_change_nothing s (recast a c) h = settled_refused s (new_category s a c) _ _ h
refused_calls_change_nothing s (suspend a) h = settled_refused s (to_switch s a (action_at s a).active) _ _ h
refused_calls_change_nothing s (resume a) h = settled_refused s (to_switch s a (not (action_at s a).active)) _ _ h

-- what the questions of each call say of the sheet when they are all answered yes

pub admitted_yes : (s : Content) (a : Answer Action) (x : Action) → granted x ≡ admitted s a → (granted x ≡ a) × (in_limits (s.actions ++ x ∷ []) ≡ true)
admitted_yes s (denied q) x e = absurd (let z : ◌≡◌ {A = ℕ} 0 1 = cc in omega arith)
admitted_yes s (granted y) x e =
    let yes' = ask_yes 5 (in_limits (s.actions ++ y ∷ [])) (granted y) x e in
    (yes'.1, (let same : x ≡ y = (let q = yes'.1 in cc) in ap (λ (z : Action). in_limits (s.actions ++ z ∷ [])) same ∙ yes'.0))

pair_yes : (s : Content) (a b : ℕ) (changes : Bool) → granted tt ≡ pair_to_mark s a b changes → (entered s a && entered s b ≡ true) × (can_pair s.actions a b ≡ true) × (changes ≡ true)
pair_yes s a b changes e =
    let one = ask_yes 6 (entered s a && entered s b) _ tt e in
    let two = ask_yes 7 (can_pair s.actions a b) _ tt one.1 in
    let three = ask_yes 8 changes _ tt two.1 in
    (one.0, two.0, three.0)

pub switch_yes : (s : Content) (a : ℕ) (changes : Bool) → granted tt ≡ to_switch s a changes → (a < length s.actions) × (changes ≡ true)
switch_yes s a changes e =
    let one = ask_yes 6 (entered s a) _ tt e in
    let two = ask_yes 9 changes _ tt one.1 in
    (ltb-true _ _ one.0, two.0)

recast_yes : (s : Content) (a letter : ℕ) (c : Category) → granted c ≡ new_category s a letter → (a < length s.actions) × (variable_at s a ≡ true)
recast_yes s a letter c e =
    let one = ask_yes 6 (entered s a) _ c e in
    let two = ask_yes 7 (variable_at s a) _ c one.1 in
    (ltb-true _ _ one.0, two.0)

-- soundness in the form that the calls keep

limits_of : (s : Content) → Sound s → Limited 32 s.actions
limits_of s h = (lit≤ tt, h.few_actions, h.few_variable, h.few_parts)

pairs_of : (s : Content) → Sound s → Paired s.actions s.marked
pairs_of s h a b m =
    ⊎_elim
    (λ (same : a ≡ b). absurd (true≢false (sym m ∙ ap (λ (x : ℕ). s.marked x b) same ∙ h.irreflexive b)))
    (λ (apart : a ≢ b). let v = h.only_variable a b m in and_from _ _ (grind (arith, nat_tests)) (and_from _ _ v.0 v.1))
    (cases_eq a b)

pub sound_from : {room : ℕ} (s : Content) → Limited room s.actions → Formed s.actions → Paired s.actions s.marked → ((a b : ℕ) → s.marked a b ≡ s.marked b a) → Sound s
sound_from {room} s l f p m = record {
  few_actions = l.1;
  few_variable = l.2;
  few_parts = l.3;
  each_well_formed = f;
  symmetric = m;
  irreflexive = λ a. ⊎_elim (λ (h : s.marked a a ≡ true). absurd (true≢false (sym (pair_parts s.actions a a (p a a h)).0 ∙ ap not (eq-eqb a a refl)))) (λ (h : s.marked a a ≡ false). h) (cases_Bool (s.marked a a));
  only_variable = λ a b h. (pair_parts s.actions a b (p a b h)).1;
}

sound_entry : (s : Content) (x : Action) → Sound s → in_limits (s.actions ++ x ∷ []) ≡ true → well_formed x ≡ true → Sound (with_entry s x)
sound_entry s x h room formed =
    sound_from (with_entry s x) (limited 32 _ (lit≤ tt) room) (formed_push s.actions x h.each_well_formed formed) (paired_push s.actions x s.marked (pairs_of s h)) h.symmetric

sound_action : (s : Content) (a : ℕ) (x : Action) → Sound s → a < length s.actions → x.kind ≡ (action_at s a).kind → x.parts ≡ (action_at s a).parts → well_formed x ≡ true → Sound (with_action s a x)
sound_action s a x h within kind parts formed =
    sound_from (with_action s a x) (limited_set 32 s.actions a x (limits_of s h) within kind parts) (formed_set s.actions a x h.each_well_formed within formed) (paired_set s.actions a x s.marked (pairs_of s h) within kind) h.symmetric

pair_either_order : (a b x y : ℕ) → same_pair a b x y ≡ same_pair a b y x
pair_either_order a b x y = grind (arith, nat_tests)

sound_mark : (s : Content) (a b : ℕ) (mark : Bool) → Sound s → can_pair s.actions a b ≡ true → Sound (with_mark s a b mark)
sound_mark s a b mark h pair =
    sound_from (with_mark s a b mark) (limits_of s h) h.each_well_formed (paired_mark s.actions a b mark s.marked (pairs_of s h) pair) (λ x y i. cond (pair_either_order a b x y i) mark (h.symmetric x y i))

sound_edited : (s : Content) (e : Edit) → Sound s → Sound (edited s e)
sound_edited s (enter k c d p) h =
    settled_keeps Sound s (admitted s (described k c d p)) _ _ h (λ x yes'.
    let a = admitted_yes s (described k c d p) x yes' in
    sound_entry s x h a.1 (described_yes k c d p x a.0).formed)
sound_edited s (exclude a b) h =
    settled_keeps Sound s (pair_to_mark s a b (not (s.marked a b))) _ _ h (λ _ yes'. sound_mark s a b true h (pair_yes s a b _ yes').1)
sound_edited s (lift a b) h =
    settled_keeps Sound s (pair_to_mark s a b (s.marked a b)) _ _ h (λ _ yes'. sound_mark s a b false h (pair_yes s a b _ yes').1)
sound_edited s (recast a letter) h =
    settled_keeps Sound s (new_category s a letter) _ _ h (λ c yes'.
    let v = recast_yes s a letter c yes' in
    sound_action s a (with_category c (action_at s a)) h v.0 refl refl (well_formed_recast (action_at s a) c v.1 (h.each_well_formed a v.0)))
sound_edited s (suspend a) h =
    settled_keeps Sound s (to_switch s a (action_at s a).active) _ _ h (λ _ yes'.
    let v = switch_yes s a _ yes' in
    sound_action s a (switched false (action_at s a)) h v.0 refl refl (h.each_well_formed a v.0))
sound_edited s (resume a) h =
    settled_keeps Sound s (to_switch s a (not (action_at s a).active)) _ _ h (λ _ yes'.
    let v = switch_yes s a _ yes' in
    sound_action s a (switched true (action_at s a)) h v.0 refl refl (h.each_well_formed a v.0))

sound_runs : {Allowed : Content → Edit → Type 0} (x : State) (h : List Call) (y : State) → Runs Allowed x h y → Sound (held x) → Sound (held y)
sound_runs x h y ends k = k
sound_runs x h y (edits {s} {e} allowed rest) k = sound_runs _ _ y rest (sound_edited s e k)
sound_runs x h y (issues rest) k = sound_runs _ _ y rest k
sound_runs x h y (reopens rest) k = sound_runs _ _ y rest k
sound_runs x h y (asks rest) k = sound_runs _ _ y rest k

sound_blank : Sound blank
sound_blank = sound_from {room = 32} blank (lit≤ tt, lit≤ tt, lit≤ tt, lit≤ tt) (λ i h. absurd (omega arith)) (λ a b m. absurd (true≢false (sym m))) (λ a b. refl)

reachable_sheets_are_sound : (h : List Call) (x : State) → Leaves h x → Sound (held x)
reachable_sheets_are_sound h x leaves = sound_runs (draft blank) h x leaves sound_blank

-- each call leaves every other entry alone

only_with_action : (Same : Action → Action → Type 0) (s : Content) (a : ℕ) (x : Action) → a < length s.actions → Same (action_at s a) x → OnlyAction Same a s (with_action s a x)
only_with_action Same s a x within same =
    let P : Action → Type 0 = λ y. Same (action_at s a) y in
    record {
      count = length-set s.actions a x;
      others = λ i apart. get_or-set_other s.actions a i x no_action apart;
      itself = subst P (sym (get_or-set_same s.actions a x no_action within)) same;
      marks = refl;
    }

unchanged_action : (Same : Action → Action → Type 0) (s : Content) (a : ℕ) → Same (action_at s a) (action_at s a) → OnlyAction Same a s s
unchanged_action Same s a same = record { count = refl; others = λ i apart. refl; itself = same; marks = refl }

only_recast : (s : Content) (a letter : ℕ) → OnlyAction SameButCategory a s (recasting s a letter).1
only_recast s a letter =
    settled_keeps (OnlyAction SameButCategory a s) s (new_category s a letter) _ _ (unchanged_action SameButCategory s a (refl, refl, refl, refl)) (λ c yes'.
    only_with_action SameButCategory s a (with_category c (action_at s a)) (recast_yes s a letter c yes').0 (refl, refl, refl, refl))

only_switched : (s : Content) (a : ℕ) (changes on : Bool) → OnlyAction SameButActive a s (settled s (to_switch s a changes) (λ (u : Unit). u) (λ _. with_action s a (switched on (action_at s a)))).1
only_switched s a changes on =
    settled_keeps (OnlyAction SameButActive a s) s (to_switch s a changes) _ _ (unchanged_action SameButActive s a (refl, refl, refl, refl)) (λ _ yes'.
    only_with_action SameButActive s a (switched on (action_at s a)) (switch_yes s a changes yes').0 (refl, refl, refl, refl))

only_suspended : (s : Content) (a : ℕ) → OnlyAction SameButActive a s (suspending s a).1
only_suspended s a = only_switched s a (action_at s a).active false

only_resumed : (s : Content) (a : ℕ) → OnlyAction SameButActive a s (resuming s a).1
only_resumed s a = only_switched s a (not (action_at s a).active) true

only_marked : (s : Content) (a b : ℕ) (changes mark : Bool) → OnlyPair a b s (settled s (pair_to_mark s a b changes) (λ (u : Unit). u) (λ _. with_mark s a b mark)).1
only_marked s a b changes mark =
    settled_keeps (OnlyPair a b s) s (pair_to_mark s a b changes) _ _ (record { actions = refl; others = λ x y h. refl }) (λ _ yes'.
    record { actions = refl; others = λ x y h. ap (λ (t : Bool). cond t mark (s.marked x y)) h })

only_excluded : (s : Content) (a b : ℕ) → OnlyPair a b s (excluding s a b).1
only_excluded s a b = only_marked s a b (not (s.marked a b)) true

only_lifted : (s : Content) (a b : ℕ) → OnlyPair a b s (lifting s a b).1
only_lifted s a b = only_marked s a b (s.marked a b) false

-- calls that undo each other

settled_yes : (s : Content) (x : Answer Unit) (after : Unit → Content) → granted tt ≡ (settled s x (λ (u : Unit). u) after).0 → granted tt ≡ x
settled_yes s (granted tt) after e = refl
settled_yes s (denied q) after e = absurd (let z : ◌≡◌ {A = ℕ} 0 1 = cc in omega arith)

-- a mark put back, on a sheet whose marks are symmetric
mark_back : (s : Content) (a b : ℕ) (old new : Bool) → ((x y : ℕ) → s.marked x y ≡ s.marked y x) → s.marked a b ≡ old → with_mark (with_mark s a b new) a b old ≡ s
mark_back s a b old new symmetric was = same_content refl (λ x y. ⊎_elim (same x y) (other x y) (cases_Bool (same_pair a b x y)))
  where
    same : (x y : ℕ) → same_pair a b x y ≡ true → cond (same_pair a b x y) old (cond (same_pair a b x y) new (s.marked x y)) ≡ s.marked x y
    same x y h =
        let straight : (eqb x a && eqb y b) ≡ true → s.marked x y ≡ old = λ e. let p = and_parts _ _ e in (λ i. s.marked (eqb-true x a p.0 i) (eqb-true y b p.1 i)) ∙ was in
        let crossed : (eqb x b && eqb y a) ≡ true → s.marked x y ≡ old = λ e. let p = and_parts _ _ e in (λ i. s.marked (eqb-true x b p.0 i) (eqb-true y a p.1 i)) ∙ symmetric b a ∙ was in
        ap (λ (t : Bool). cond t old (cond t new (s.marked x y))) h ∙ sym (⊎_elim straight crossed (or_cases _ _ h))

    other : (x y : ℕ) → same_pair a b x y ≡ false → cond (same_pair a b x y) old (cond (same_pair a b x y) new (s.marked x y)) ≡ s.marked x y
    other x y h = ap (λ (t : Bool). cond t old (cond t new (s.marked x y))) h

pair_again : (s : Content) (a b : ℕ) (changes : Bool) → (entered s a && entered s b) ≡ true → can_pair s.actions a b ≡ true → changes ≡ true → pair_to_mark s a b changes ≡ granted tt
pair_again s a b changes p q r = λ i. ask 6 (p i) (ask 7 (q i) (ask 8 (r i) (granted tt)))

same_pair_self : (a b : ℕ) → same_pair a b a b ≡ true
same_pair_self a b = or_left _ _ (and_from _ _ (eq-eqb a a refl) (eq-eqb b b refl))

-- the same questions and the other mark, asked of the sheet that the first call left
marked_again : (s : Content) (a b : ℕ) (changes : Bool) (again : Content → Bool) (old new : Bool) → ((x y : ℕ) → s.marked x y ≡ s.marked y x) → (changes ≡ true → (s.marked a b ≡ old) × (again (with_mark s a b new) ≡ true)) → UndoneBy s (settled s (pair_to_mark s a b changes) (λ (u : Unit). u) (λ _. with_mark s a b new)) (λ t. settled t (pair_to_mark t a b (again t)) (λ (u : Unit). u) (λ _. with_mark t a b old))
marked_again s a b changes again old new symmetric facts ok =
    let told = settled_yes s (pair_to_mark s a b changes) (λ _. with_mark s a b new) ok in
    let all = pair_yes s a b changes told in
    let was = facts all.2 in
    let after = with_mark s a b new in
    let left : (settled s (pair_to_mark s a b changes) (λ (u : Unit). u) (λ _. with_mark s a b new)).1 ≡ after = ap (λ (x : Answer Unit). (settled s x (λ (u : Unit). u) (λ _. with_mark s a b new)).1) (sym told) in
    let second : Content → Outcome Unit = λ t. settled t (pair_to_mark t a b (again t)) (λ (u : Unit). u) (λ _. with_mark t a b old) in
    let asked : pair_to_mark after a b (again after) ≡ granted tt = pair_again after a b (again after) all.0 all.1 was.1 in
    ap second left ∙ ap (λ (x : Answer Unit). settled after x (λ (u : Unit). u) (λ _. with_mark after a b old)) asked ∙ ap (λ (t : Content). (granted tt, t)) (mark_back s a b old new symmetric was.0)

lift_undoes_exclude : (s : Content) (a b : ℕ) → ((x y : ℕ) → s.marked x y ≡ s.marked y x) → UndoneBy s (excluding s a b) (λ t. lifting t a b)
lift_undoes_exclude s a b symmetric =
    marked_again s a b (not (s.marked a b)) (λ t. t.marked a b) false true symmetric (λ h. (not-true _ h, ap (λ (t : Bool). cond t true (s.marked a b)) (same_pair_self a b)))

exclude_undoes_lift : (s : Content) (a b : ℕ) → ((x y : ℕ) → s.marked x y ≡ s.marked y x) → UndoneBy s (lifting s a b) (λ t. excluding t a b)
exclude_undoes_lift s a b symmetric =
    marked_again s a b (s.marked a b) (λ t. not (t.marked a b)) true false symmetric (λ h. (h, ap (λ (t : Bool). not (cond t false (s.marked a b))) (same_pair_self a b)))

-- switched there and back
switched_again : (s : Content) (a : ℕ) (changes : Bool) (again : Content → Bool) (old new : Bool) → (changes ≡ true → (action_at s a).active ≡ old) → ((x : Action) → action_at (with_action s a (switched new (action_at s a))) a ≡ switched new (action_at s a) → again (with_action s a (switched new (action_at s a))) ≡ true) → UndoneBy s (settled s (to_switch s a changes) (λ (u : Unit). u) (λ _. with_action s a (switched new (action_at s a)))) (λ t. settled t (to_switch t a (again t)) (λ (u : Unit). u) (λ _. with_action t a (switched old (action_at t a))))
switched_again s a changes again old new facts ready ok =
    let x = action_at s a in
    let xs = s.actions in
    let after = with_action s a (switched new x) in
    let first : Unit → Content = λ _. after in
    let told = settled_yes s (to_switch s a changes) first ok in
    let all = switch_yes s a changes told in
    let read : action_at after a ≡ switched new x = get_or-set_same xs a (switched new x) no_action all.0 in
    let left : (settled s (to_switch s a changes) (λ (u : Unit). u) first).1 ≡ after = ap (λ (y : Answer Unit). (settled s y (λ (u : Unit). u) first).1) (sym told) in
    let second : Content → Outcome Unit = λ t. settled t (to_switch t a (again t)) (λ (u : Unit). u) (λ _. with_action t a (switched old (action_at t a))) in
    let there : entered after a ≡ true = lt-ltb _ _ (omega (arith, all.0, length-set xs a (switched new x))) in
    let asked : to_switch after a (again after) ≡ granted tt = λ i. ask 6 (there i) (ask 9 (ready x read i) (granted tt)) in
    let same : switched old (action_at after a) ≡ x = ap (switched old) read ∙ (λ i. switched (sym (facts all.1) i) x) in
    let back : with_action after a (switched old (action_at after a)) ≡ s = ap (λ (y : Action). with_action after a y) same ∙ ap (λ (ys : List Action). record { actions = ys; marked = s.marked }) (set-set xs a (switched new x) x ∙ set-get_or xs a no_action) in
    ap second left ∙ ap (λ (y : Answer Unit). settled after y (λ (u : Unit). u) (λ _. with_action after a (switched old (action_at after a)))) asked ∙ ap (λ (t : Content). (granted tt, t)) back

resume_undoes_suspend : (s : Content) (a : ℕ) → UndoneBy s (suspending s a) (λ t. resuming t a)
resume_undoes_suspend s a = switched_again s a (action_at s a).active (λ t. not (action_at t a).active) true false (λ h. h) (λ x read. ap (λ (y : Action). not y.active) read)

suspend_undoes_resume : (s : Content) (a : ℕ) → UndoneBy s (resuming s a) (λ t. suspending t a)
suspend_undoes_resume s a = switched_again s a (not (action_at s a).active) (λ t. (action_at t a).active) false true (λ h. not-true _ h) (λ x read. ap (λ (y : Action). y.active) read)

entry_kept : (s : Content) (k c d p i : ℕ) → i < length s.actions → action_at (entering s k c d p).1 i ≡ action_at s i
entry_kept s k c d p i within =
    settled_keeps (λ t. action_at t i ≡ action_at s i) s (admitted s (described k c d p)) (λ _. length s.actions) (with_entry s) refl (λ x _. get_or_append_left s.actions (x ∷ []) no_action i within)

marks_kept : (s : Content) (k c d p : ℕ) → (entering s k c d p).1.marked ≡ s.marked
marks_kept s k c d p =
    settled_keeps (λ t. t.marked ≡ s.marked) s (admitted s (described k c d p)) (λ _. length s.actions) (with_entry s) refl (λ x _. refl)

pub laws : Laws
laws = record {
  reachable_sheets_are_sound = reachable_sheets_are_sound;
  refused_calls_change_nothing = refused_calls_change_nothing;
  enter_keeps_every_entry = entry_kept;
  enter_keeps_every_mark = marks_kept;
  recast_changes_one_category = only_recast;
  suspend_switches_one_action = only_suspended;
  resume_switches_one_action = only_resumed;
  exclude_marks_one_pair = only_excluded;
  lift_unmarks_one_pair = only_lifted;
  lift_undoes_exclude = λ s h a b. lift_undoes_exclude s a b h.symmetric;
  exclude_undoes_lift = λ s h a b. exclude_undoes_lift s a b h.symmetric;
  resume_undoes_suspend = resume_undoes_suspend;
  suspend_undoes_resume = suspend_undoes_resume;
}
