use Rattle.std.proofs.Common.{rules}
use Rattle.sheet.proofs.Laws.{laws}
use Rattle.sheet.proofs.states.Draft.new.Goals as goal

pub returns-in_err-blank : goal.returns-in_err-blank
returns-in_err-blank c = record { draft = search rules; laws = laws }

pub returns : goal.returns
returns c = record { draft = search rules; laws = laws }
