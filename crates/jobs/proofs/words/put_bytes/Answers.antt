-- Four stores, one for each byte. Assumes nothing.
use Rattle.std.proofs.Common.{ℕ, List, ◌∙◌, ap}
use Rattle.std.proofs.lemmas.List.Edits.{sets}
use Rattle.jobs.proofs.Laying.{sets-four, bytes-are}
use Rattle.jobs.proofs.words.put_bytes.Goals as goal

pub returns : goal.returns
returns c =
    let out = c.args.out.now in
    rw c.to_le_bytes.ensures (sets-four out c.args.at _ _ _ _ ∙ ap (λ (l : List ℕ). sets out c.args.at l) (bytes-are c.args.w c.ranges.w.fits))
