use Rattle.std.proofs.Common.{rules}
use Rattle.readings.proofs.Patterns.{if_negative}
use Rattle.readings.proofs.number.nearest_whole.Goals as goal

pub returns-then-is_negative : goal.returns-then-is_negative
returns-then-is_negative c = search (rules, if_negative)
