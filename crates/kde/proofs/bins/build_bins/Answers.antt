-- `kde::bins::build_bins` meets its contract: the bins of `mix`, raised where the builder is monotonic.
use Rattle.kde.specs.Bins.{bins_of}
use Rattle.kde.proofs.bins.build_bins.Goals as goal

pub returns-then-builder : goal.returns-then-builder
unfolding bins_of
returns-then-builder c = rw (c.if-builder.true, c.raise.ensures, c.mix.ensures, c.requires.bins_length)

pub returns-else-builder : goal.returns-else-builder
unfolding bins_of
returns-else-builder c = rw (c.if-builder.false, c.mix.ensures, c.requires.bins_length)
