-- `counting::count_decoys` meets its contract: a decoy is a label that is −1 (`decoys_are`).
use mathlib.Core.Path.{◌∙◌}
use Rattle.counting.proofs.Labels.{decoys_are}
use Rattle.counting.proofs.count_decoys.Goals as goal

pub returns : goal.returns
returns c = c.how_many.ensures ∙ decoys_are c.args.labels.now
