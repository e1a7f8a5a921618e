-- The statement of specs/Theorems holds.
use Rattle.kernels.specs.Theorems.{Agreement}
use Rattle.kernels.proofs.Agreement.{agreement}

pub the-agreement : Agreement
the-agreement = agreement
