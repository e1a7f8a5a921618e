-- The tables hold the axes that are read. Assumes nothing.
use Rattle.std.proofs.Common.{◌-◌}
use Rattle.layout.specs.Axes.{PLACES}
use Rattle.jobs.proofs.Stepping.{AxesRead}
use Rattle.jobs.proofs.reading.read_job.Given as goal

abbrev pub invariant-loop-sizes : goal.invariant-loop-sizes
invariant-loop-sizes l = AxesRead l.bytes l.sizes l.strides l.count l.at

abbrev pub decreases-loop-sizes : goal.decreases-loop-sizes
decreases-loop-sizes l = PLACES - l.count
