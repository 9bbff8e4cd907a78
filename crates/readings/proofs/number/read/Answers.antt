use Rattle.std.proofs.Common.{rules}
use Rattle.readings.proofs.Nearness.{read_rounded}
use Rattle.readings.proofs.number.read.Goals as goal

pub returns-clause-rounded : goal.returns-clause-rounded
returns-clause-rounded c = search (rules, read_rounded)
