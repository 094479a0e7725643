-- `linear_discriminant::fit::fit` meets its contract: the passes one after the other. A count of rows is exact as an
-- f64.
use Rattle.linear_discriminant.proofs.Fits.{fitted}
use Rattle.linear_discriminant.proofs.fit.fit.Goals as goal

pub returns : goal.returns
returns c =
    fitted c.args.rows.now.features.now c.args.rows.now.labels.now c.requires.counts.0 c.requires.counts.1 c.class_sums-sums.ensures c.mean_of-decoy.ensures c.mean_of-target.ensures
    c.class_scatters-tables.ensures c.scatter_within-left.ensures c.subtract_rows-right.ensures c.solve.ensures
