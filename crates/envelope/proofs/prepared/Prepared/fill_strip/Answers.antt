use Rattle.std.proofs.Common.{List, map, ℤ}
use Rattle.effects.specs.Components.{zeros}
use Rattle.sheet.specs.Content.{content}
use Rattle.envelope.specs.declared.strip.Role.{Role}
use Rattle.envelope.specs.declared.strip.Role.TheVariants.{Leading, Accompanying}
use Rattle.envelope.specs.Layout.{role_half}
use Rattle.envelope.proofs.Numbering.{places_length}
use Rattle.envelope.proofs.Filling.{halves_filled, rest_kept}
use Rattle.envelope.proofs.prepared.Prepared.fill_strip.Goals as goal

pub returns : goal.returns
returns g c =
    let k = g.E.Effect in
    let strip = c.args.strip.now in
    let p = c.fill.new.half in
    let q = c.fill-2.new.half in
    let half : Role → List (List ℤ) = λ role. role_half k.count (map k.components c.args.self.now.case.now.effects.now) c.args.self.now.masks.now ((g.R.Rulebook.meaning c.args.self.now.case.now.book.now).form c.args.form) role (content c.args.self.now.case.now.sheet.now) in
    record {
      halves = halves_filled k.components strip p q (half Leading) (half Accompanying) c.fill.ensures c.fill-2.ensures (places_length 12 _ (zeros k.count)) (places_length 12 _ (zeros k.count));
      rest = rest_kept k.components strip p q (half Leading) (half Accompanying) c.fill.ensures c.fill-2.ensures (places_length 12 _ (zeros k.count)) (places_length 12 _ (zeros k.count));
    }
