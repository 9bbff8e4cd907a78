use Rattle.std.proofs.Common.{◌≡◌, map, rules}
use Rattle.effects.specs.Supplies.{greatest_of}
use Rattle.effects.proofs.Best.{greatest_place, greatest_first}
use Rattle.effects.proofs.supply.greatest.Goals as goal

pub returns : goal.returns
returns g c =
    let place = greatest_place g.E.Effect.components g.E.Effect.reaches c.args.effects.now c.enumerate.result c.reduce.result c.reduce.ensures.ran (cc) c.enumerate.ensures.count (λ b n t f' call. search rules) in
    let value : c.map.result ≡ greatest_of g.E.Effect.reaches (map g.E.Effect.components c.args.effects.now) = search rules in
    record { value = value; first = λ large. rw value (greatest_first g.met.E.Effect.laws c.args.effects.now large) }
