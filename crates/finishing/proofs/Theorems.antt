-- The statements of specs/Theorems hold.
use Rattle.finishing.specs.Theorems.{RoundedOnceLaw, FinishedLaw}
use Rattle.finishing.proofs.Once.{once_is}
use Rattle.finishing.proofs.Answers.{finished-by}

pub rounded-once-law : RoundedOnceLaw
rounded-once-law f N = once_is f N

pub finished-law : FinishedLaw
finished-law E gives code numbers answer result h = finished-by gives code numbers answer result h
