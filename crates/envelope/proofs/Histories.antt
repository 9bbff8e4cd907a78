-- A run of which only growing calls were accepted leaves a sheet that has only grown.
use Rattle.std.proofs.Common.{◌≡◌, ℕ, zero, suc, ◌≤◌, Bool, true, false, cond, not, ◌||◌, T, eqb, leb, ◌⊎◌, List, [], ◌∷◌, ◌++◌, length, get_or, set, Some, None, Option, sym, refl, ap, ◌∙◌, subst, inl, inr, arith}
use lib.Ieee.Bits.{is_true}
use Rattle.std.proofs.lemmas.Bool.{cases_Bool, eqb-true, leb-true, not-true, both_ways}
use Rattle.basis.specs.declared.action.Kind.{Kind}
use Rattle.basis.specs.declared.action.Kind.TheVariants.{Permanent, Prestress, Variable, Accidental, Seismic}
use Rattle.basis.specs.Vocabulary.{kind_of, kind_number}
use Rattle.sheet.specs.declared.action.Action.{Action}
use Rattle.sheet.specs.Answers.{Answer, granted, denied}
use Rattle.sheet.specs.Limits.{no_action}
use Rattle.sheet.specs.Content.{Content, action_at, with_entry, with_mark, with_action, same_pair}
use Rattle.sheet.specs.Calls.{settled, described, admitted, pair_to_mark, to_switch, switched}
use Rattle.sheet.proofs.Questions.{described_yes}
use Rattle.sheet.proofs.Laws.{laws, admitted_yes, switch_yes}
use Rattle.envelope.proofs.Growth.{gains, Resumed, Grown, Extends}
use Rattle.sheet.specs.Histories.{Edit, enter, exclude, lift, recast, suspend, resume, Call, State, draft, issued, held, accepted, edited, ends, edits, issues, reopens, asks}
use Rattle.envelope.specs.Histories.{growing, Grows}

-- growth is a preorder
grown_same : (list : List Action) → Grown list list
grown_same [] = tt
grown_same (a ∷ list) = (inl refl, grown_same list)

pub extends-same : (s : Content) → Extends s s
extends-same s = record { actions = grown_same s.actions; lifted = λ i j h. h }

resumed_chain : (a a' a'' : Action) → Resumed a a' → Resumed a' a'' → Resumed a a''
resumed_chain a a' a'' (inl e) (inl f) = inl (f ∙ e)
resumed_chain a a' a'' (inl e) (inr (t, n, f)) = inr (ap (λ (x : Action). x.active) (sym e) ∙ t, ap (λ (x : Action). gains x.kind) (sym e) ∙ n, f ∙ ap (switched true) e)
resumed_chain a a' a'' (inr (t, n, e)) (inl f) = inr (t, n, f ∙ e)
resumed_chain a a' a'' (inr (t, n, e)) (inr (u, m, f)) = absurd (both_ways a'.active u (ap (λ (x : Action). x.active) e))

gains_kept : (a a' : Action) → gains a.kind ≡ true → Resumed a a' → gains a'.kind ≡ true
gains_kept a a' g (inl e) = ap (λ (x : Action). gains x.kind) e ∙ g
gains_kept a a' g (inr (t, n, e)) = ap (λ (x : Action). gains x.kind) e ∙ n

grown_chain : (xs ys zs : List Action) → Grown xs ys → Grown ys zs → Grown xs zs
grown_chain [] [] zs g h = h
grown_chain [] (y ∷ ys) [] g h = absurd h
grown_chain [] (y ∷ ys) (z ∷ zs) (n, g) (r, h) = (gains_kept y z n r, grown_chain [] ys zs g h)
grown_chain (x ∷ xs) [] zs g h = absurd g
grown_chain (x ∷ xs) (y ∷ ys) [] g h = absurd h
grown_chain (x ∷ xs) (y ∷ ys) (z ∷ zs) (r, g) (q, h) = (resumed_chain x y z r q, grown_chain xs ys zs g h)

pub extends_chain : (s t u : Content) → Extends s t → Extends t u → Extends s u
extends_chain s t u e f = record {
  actions = grown_chain s.actions t.actions u.actions e.actions f.actions;
  lifted = λ i j h. e.lifted i j (f.lifted i j h);
}

-- the edits
grown_push : (list : List Action) (a : Action) → gains a.kind ≡ true → Grown list (list ++ a ∷ [])
grown_push [] a g = (g, tt)
grown_push (x ∷ list) a g = (inl refl, grown_push list a g)

grown_set : (list : List Action) (i : ℕ) → (get_or list i no_action).active ≡ false → gains (get_or list i no_action).kind ≡ true → Grown list (set list i (switched true (get_or list i no_action)))
grown_set [] i t g = tt
grown_set (a ∷ list) zero t g = (inr (t, g, refl), grown_same list)
grown_set (a ∷ list) (suc i) t g = (inl refl, grown_set list i t g)

number_gains : (k : Kind) → leb 3 (kind_number k) ≡ true → gains k ≡ true
number_gains Permanent h = absurd (both_ways false refl h)
number_gains Prestress h = absurd (both_ways false refl h)
number_gains Variable h = refl
number_gains Accidental h = refl
number_gains Seismic h = refl

pick : (t : Bool) (x : Kind) (o : Option Kind) (k : Kind) → cond t (Some x) o ≡ Some k → ((t ≡ true) × (x ≡ k)) ⊎ (o ≡ Some k)
pick true x o k h = inl (refl, cc)
pick false x o k h = inr h

gains_of : (n : ℕ) (k : Kind) → kind_of n ≡ Some k → leb 3 n ≡ true → gains k ≡ true
gains_of n k h l =
    let three : 3 ≤ n = leb-true 3 n l in
    elim (pick (eqb n 1) Permanent _ k h) [
      | inl (t, e) ↦ absurd (let q = eqb-true n 1 t in omega arith)
      | inr h2 ↦ elim (pick (eqb n 2) Prestress _ k h2) [
        | inl (t, e) ↦ absurd (let q = eqb-true n 2 t in omega arith)
        | inr h3 ↦ elim (pick (eqb n 3) Variable _ k h3) [
          | inl (t, e) ↦ ap gains (sym e)
          | inr h4 ↦ elim (pick (eqb n 4) Accidental _ k h4) [
            | inl (t, e) ↦ ap gains (sym e)
            | inr h5 ↦ elim (pick (eqb n 5) Seismic None k h5) [
              | inl (t, e) ↦ ap gains (sym e)
              | inr none ↦ absurd (let z : ◌≡◌ {A = ℕ} 0 1 = cc in omega arith)
            ]
          ]
        ]
      ]
    ]

-- what a settled call leaves grows where its yes does
settled_extends : {X Y : Type 0} (s : Content) (x : Answer X) (answer : X → Y) (after : X → Content) → ((y : X) → granted y ≡ x → Extends s (after y)) → Extends s (settled s x answer after).1
settled_extends s (granted y) answer after h = h y refl
settled_extends s (denied q) answer after h = extends-same s

grows_by : (s : Content) (e : Edit) → growing s e ≡ true → Extends s (edited s e)
grows_by s (enter k c d p) g =
    settled_extends s (admitted s (described k c d p)) (λ _. length s.actions) (with_entry s) (λ x ok. record {
      actions = grown_push s.actions x (gains_of k x.kind (described_yes k c d p x (admitted_yes s (described k c d p) x ok).0).kind g);
      lifted = λ i j h. h;
    })
grows_by s (exclude a b) g = absurd (both_ways false refl g)
grows_by s (lift a b) g =
    settled_extends s (pair_to_mark s a b (s.marked a b)) (λ (u : Unit). u) (λ _. with_mark s a b false) (λ _ ok. record {
      actions = grown_same s.actions;
      lifted = λ i j h. unmarked (same_pair a b i j) (s.marked i j) h;
    })
  where
    unmarked : (t m : Bool) → cond t false m ≡ true → m ≡ true
    unmarked true m h = absurd (both_ways false refl h)
    unmarked false m h = h
grows_by s (recast a c) g = absurd (both_ways false refl g)
grows_by s (suspend a) g = absurd (both_ways false refl g)
grows_by s (resume a) g =
    settled_extends s (to_switch s a (not (action_at s a).active)) (λ (u : Unit). u) (λ _. with_action s a (switched true (action_at s a))) (λ _ ok. record {
      actions = grown_set s.actions a (not-true (action_at s a).active (switch_yes s a (not (action_at s a).active) ok).1) (number_gains (action_at s a).kind g);
      lifted = λ i j h. h;
    })

edit_extends : (s : Content) (e : Edit) → T (not (accepted s e) || growing s e) → Extends s (edited s e)
edit_extends s e h =
    elim (cases_Bool (accepted s e)) [
      | inl a ↦ grows_by s e (is_true (growing s e) (rw a at h))
      | inr a ↦ subst (Extends s) (sym (laws.refused_calls_change_nothing s e a)) (extends-same s)
    ]

pub grows_extends : (x y : State) (h : List Call) → Grows x h y → Extends (held x) (held y)
grows_extends x y [] ends = extends-same (held x)
grows_extends x y h (edits {s} {e} a r) = extends_chain s (edited s e) (held y) (edit_extends s e a) (grows_extends (draft (edited s e)) y _ r)
grows_extends x y h (issues {s} r) = grows_extends (issued s) y _ r
grows_extends x y h (reopens {s} r) = grows_extends (draft s) y _ r
grows_extends x y h (asks {s} r) = grows_extends (issued s) y _ r
