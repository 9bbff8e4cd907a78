use Rattle.envelope.proofs.Figures.{figures, told_apart}
use Rattle.envelope.proofs.worked_figures_hold.Goals as goal

pub returns : goal.returns
returns c = record { figures = figures; told = told_apart }
