-- What an envelope promises, from what its code does.
use Rattle.std.proofs.Common.{◌≡◌, ℕ, Bool, T, List, ◌∷◌, ◌++◌, map, length, drop, ℤ, Err, sym, refl, ap, ◌∙◌, subst}
use lib.ListN.{length-map}
use Rattle.effects.specs.Laws.{Closed, Laws}
use Rattle.rulebooks.specs.Books.{Book, BookLaws}
use Rattle.sheet.specs.Content.{Content}
use Rattle.sheet.specs.Histories.{Edit, Call, edit, issue, reopen, envelope, State, issued, Runs, ends, edits, issues, reopens, asks, Leaves}
use Rattle.sheet.specs.Laws.{Sound as SoundSheet}
use Rattle.sheet.proofs.Laws.{laws as sheet_laws}
use Rattle.envelope.specs.declared.combination.Combination.{Combination}
use Rattle.envelope.specs.declared.combination.Refusal.{Refusal}
use Rattle.envelope.specs.declared.combination.Refusal.TheVariants.{NotAsManyEffects, ShortStrip, TooLarge, NoEvent}
use Rattle.envelope.specs.Combinations.{effect_of}
use Rattle.envelope.specs.Admissible.{Admissible}
use Rattle.envelope.specs.Reported.{Reported}
use Rattle.envelope.specs.Answers.{Reply, found, reply_of, answer, strip_after}
use Rattle.envelope.specs.Supplied.{Supplied, Accepted}
use Rattle.envelope.specs.Promise.{OfFound, NothingOutranks, BreaksNoRule, AsReported, NoOtherIsReported, strip_by, Unchanged, WholePromise}
use Rattle.envelope.specs.Runs as run
use Rattle.envelope.specs.Runs.{Step, Run, Any, Growing, RunLaw}
use Rattle.envelope.proofs.Promised.{Sound, small_all, formed_all, as_reported, no_other_is_reported, nothing_outranks, breaks_no_rule, not_sunk, stays_admissible, found_answer}
use Rattle.envelope.proofs.Histories.{grows_extends}

-- ---- runs as histories
forget : {E : Type 0} → Step E → Call
forget (run.edit e) = edit e
forget run.issue = issue
forget run.reopen = reopen
forget run.other = envelope
forget (run.ask es strip r) = envelope

module _ {E : Type 0} {components : E → List ℤ} {n : ℕ} {reaches : List ℤ → List ℤ → Bool} {b : Book} {Allowed : Content → Edit → Type 0} where
  as_history : {x y : State} {h : List (Step E)} → Run components n reaches b Allowed x h y → Runs Allowed x (map forget h) y
  unfolding forget
  as_history run.ends = ends
  as_history (run.edits a r) = edits a (as_history r)
  as_history (run.issues r) = issues (as_history r)
  as_history (run.reopens r) = reopens (as_history r)
  as_history (run.others r) = asks (as_history r)
  as_history (run.asks e r) = asks (as_history r)

  answered_so : {s : Content} {y : State} {es strip : List E} {r : Reply} {h : List (Step E)} → Run components n reaches b Allowed (issued s) (run.ask es strip r ∷ h) y → r ≡ answer n reaches s b (map components es) (length strip)
  answered_so (run.asks e rest) = e

  after_ask : {s : Content} {y : State} {es strip : List E} {r : Reply} {h : List (Step E)} → Run components n reaches b Allowed (issued s) (run.ask es strip r ∷ h) y → Run components n reaches b Allowed (issued s) h y
  after_ask (run.asks e rest) = rest

-- one run of calls after another, and calls of some sort as any calls
runs_on : {Allowed : Content → Edit → Type 0} {x y z : State} {h g : List Call} → Runs Allowed x h y → Runs Allowed y g z → Runs Allowed x (h ++ g) z
runs_on ends r = r
runs_on (edits a q) r = edits a (runs_on q r)
runs_on (issues q) r = issues (runs_on q r)
runs_on (reopens q) r = reopens (runs_on q r)
runs_on (asks q) r = asks (runs_on q r)

any_calls : {Allowed : Content → Edit → Type 0} {x y : State} {h : List Call} → Runs Allowed x h y → Runs Any x h y
any_calls ends = ends
any_calls (edits a q) = edits tt (any_calls q)
any_calls (issues q) = issues (any_calls q)
any_calls (reopens q) = reopens (any_calls q)
any_calls (asks q) = asks (any_calls q)

-- a sheet with a history is sound
reached_sound : (s : Content) (h : List Call) → Leaves h (issued s) → Sound s.actions
reached_sound s h l =
    let so : SoundSheet s = sheet_laws.reachable_sheets_are_sound h (issued s) l in
    record { short = so.few_actions; few = so.few_parts; some = formed_all s.actions so.each_well_formed }

module _ {E : Type 0} {components : E → List ℤ} {count : ℕ} {reaches : List ℤ → List ℤ → Bool} (kind : Closed components count) (laws : Laws components count reaches) (b : Book) (bl : BookLaws b) where
  pub run_law : RunLaw components count reaches b
  run_law = record {
    each_is_greatest = λ before after s y es strip r from here.
        let so = reached_sound s (map forget before) (as_history from) in
        let e = answered_so here in (
          subst (NothingOutranks count reaches s b (map components es)) (sym e) (nothing_outranks kind laws s b es so bl (length strip)),
          subst (BreaksNoRule count reaches s b (map components es)) (sym e) (breaks_no_rule kind laws s b es so bl (length strip)),
        );
    none_sinks = λ before between after s₀ s y es₀ strip₀ more strip r₀ r from first second.
        let grown = as_history (after_ask first) in
        let so = reached_sound s (map forget before ++ map forget between) (runs_on (as_history from) (any_calls grown)) in
        let e₀ = answered_so first in
        let e = answered_so second in
        subst (λ q₀. OfFound q₀ (λ ys d. OfFound r (λ xs c. T (reaches xs ys)))) (sym e₀)
        (subst (λ q. OfFound (answer count reaches s₀ b (map components es₀) (length strip₀)) (λ ys d. OfFound q (λ xs c. T (reaches xs ys)))) (sym e)
        (not_sunk kind laws s₀ s b es₀ more (length strip₀) (length strip) (grows_extends (issued s₀) (issued s) (map forget between) grown) so bl));
  }

  module _ (s : Content) (es : List E) (so : Sound s.actions) where
    abbrev xss : List (List ℤ)
    xss = map components es

    -- whatever the answer is, it is as defined, and the strip is as defined
    pub promised : (before after : List E) (r : Reply) → r ≡ answer count reaches s b xss (length before) → map components after ≡ strip_by r (strip_after count reaches s b xss) (map components before) → drop 24 after ≡ drop 24 before
        → Unchanged r before after → WholePromise components count reaches s b es before after r
    promised before after r e strip rest same = record {
      envelope = record {
        answered = e;
        filled = strip ∙ ap (λ q. strip_by q (strip_after count reaches s b xss) (map components before)) (e ∙ ap (answer count reaches s b xss) (sym (length-map before components)));
        untouched = rest;
        reported = subst (AsReported count reaches s b xss) (sym e) (as_reported kind laws s b es so bl (length before));
        greatest = subst (NothingOutranks count reaches s b xss) (sym e) (nothing_outranks kind laws s b es so bl (length before));
        sound = subst (BreaksNoRule count reaches s b xss) (sym e) (breaks_no_rule kind laws s b es so bl (length before));
        kept = λ h calls s₀ earlier more room₀ leaves grows begins.
            subst (λ q. OfFound (answer count reaches s₀ b (map components earlier) room₀) (λ ys d. OfFound q (λ xs c. T (reaches xs ys)))) (sym e)
            (subst (λ all. OfFound (answer count reaches s₀ b (map components earlier) room₀) (λ ys d. OfFound (answer count reaches s b (map components all) (length before)) (λ xs c. T (reaches xs ys)))) (sym begins)
            (not_sunk kind laws s₀ s b earlier more room₀ (length before) (grows_extends (issued s₀) (issued s) calls grows) so bl));
      };
      no_other_is_reported = subst (NoOtherIsReported count reaches s b xss) (sym e) (no_other_is_reported kind laws s b es so bl (length before));
      refusal_changes_nothing = same;
      stays_admissible = λ h calls s₀ earlier more room₀ leaves grows begins.
          let Lasting : List E → Reply → Type 0 = λ all q.
          OfFound (answer count reaches s₀ b (map components earlier) room₀) (λ ys c₀. OfFound q (λ xs c. (d : Combination) → Admissible s₀ b d
          → Admissible s b d × (effect_of count s b (map components all) d ≡ effect_of count s₀ b (map components earlier) d))) in
          subst (Lasting es) (sym e)
          (subst (λ all. Lasting all (answer count reaches s b (map components all) (length before))) (sym begins)
          (stays_admissible kind laws s₀ s b earlier more room₀ (length before) (grows_extends (issued s₀) (issued s) calls grows) so bl));
    }

    refused_strip : (q : Refusal) (filled strip : List (List ℤ)) → strip ≡ strip_by (reply_of components (Err q)) filled strip
    refused_strip NotAsManyEffects filled strip = refl
    refused_strip ShortStrip filled strip = refl
    refused_strip (TooLarge p) filled strip = refl
    refused_strip NoEvent filled strip = refl

    refused_same : (q : Refusal) (strip : List E) → Unchanged (reply_of components (Err q)) strip strip
    refused_same NotAsManyEffects strip = refl
    refused_same ShortStrip strip = refl
    refused_same (TooLarge p) strip = refl
    refused_same NoEvent strip = refl

    pub promised_refusal : (strip : List E) (q : Refusal) → answer count reaches s b xss (length strip) ≡ reply_of components (Err q) → WholePromise components count reaches s b es strip strip (reply_of components (Err q))
    promised_refusal strip q e = promised strip strip (reply_of components (Err q)) (sym e) (refused_strip q (strip_after count reaches s b xss) (map components strip)) refl (refused_same q strip)

    pub supplied_so : (room : ℕ) → Accepted s b xss room → Supplied s xss
    supplied_so room a = record { complete = a.complete; small = small_all 0 xss a.small }

    pub promised_answer : (before after : List E) (x : E) (c : Combination) → Accepted s b xss (length before) → Reported count reaches s b xss c → components x ≡ effect_of count s b xss c
        → map components after ≡ strip_after count reaches s b xss ++ drop 24 (map components before) → drop 24 after ≡ drop 24 before → WholePromise components count reaches s b es before after (found (components x) c)
    promised_answer before after x c a reported is strip rest =
        promised before after (found (components x) c) (ap (λ v. found v c) is ∙ found_answer kind laws s b es so bl (length before) c a.complete a.long a.small a.hand reported) strip rest tt
