-- The worked figures, by computation.
use Rattle.std.proofs.Common.{◌≡◌, ℕ, zero, suc, ◌^◌, ◌<◌, false, get_or, replicate, refl, inr, arith}
use Rattle.std.proofs.lemmas.Bool.{both_ways}
use Rattle.sheet.specs.Content.{action_at}
use Rattle.envelope.specs.Combinations.{mask}
use Rattle.envelope.specs.Admissible.{active_parts}
use Rattle.sheet.specs.Histories.{ends, edits, issues, reopens, asks}
use Rattle.envelope.specs.Figures.{Figures, ToldApart, frame, both_present}

pub figures : Figures
figures = record {
  frame_str = refl;
  frame_turned = refl;
  frame_pair = refl;
  split = refl;
  not_split = refl;
  free = refl;
  fixed = refl;
  alternative = refl;
  event = refl;
  no_event = refl;
  empty = refl;
}

zero_at : (n i : ℕ) → ◌≡◌ {A = ℕ} (get_or (replicate n 0) i 0) 0
zero_at zero i = refl
zero_at (suc n) zero = refl
zero_at (suc n) (suc i) = zero_at n i

held : (i : ℕ) → mask both_present i < 2 ^ active_parts (action_at frame i)
held zero = omega arith
held (suc zero) = omega arith
held (suc (suc zero)) = omega arith
held (suc (suc (suc i))) = let z : mask both_present (suc (suc (suc i))) ≡ 0 = zero_at 29 i in rw z (omega arith)

pub told_apart : ToldApart
told_apart = record {
  yes = record {
    form = omega arith;
    permanent = (λ _. inr (inr refl), (λ h. absurd h, (λ h. absurd h, tt)));
    prestress = (λ h. absurd h, (λ h. absurd h, (λ h. absurd h, tt)));
    variable = (λ h. absurd h, (λ _. inr refl, (λ _. inr refl, tt)));
    pairs = λ i j p q. refl;
    leader = refl;
    event = refl;
    event_parts = (λ h. absurd h, (λ h. absurd h, (λ h. absurd h, tt)));
    number = refl;
    masks = refl;
    parts = held;
  };
  effect = refl;
  nay = λ a. both_ways false refl a.leader;
  history = edits tt (issues ends);
  growth = asks (reopens (edits tt (edits tt (edits tt (issues ends)))));
}
