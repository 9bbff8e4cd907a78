use Rattle.std.proofs.Common.{rules}
use Rattle.effects.specs.Numbers.{product_fits}
use Rattle.effects.proofs.component.component_multiple.Goals as goal

pub returns : goal.returns
returns c = search (rules, product_fits)
