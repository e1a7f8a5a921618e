-- One vector more, of the eight rates behind the whole vectors.
use Rattle.std.proofs.Common.{◌≡◌, ◌∙◌, ap, rules, false, ◌*◌, pos, replicate}
use Rattle.kernels.specs.Lanes.{feed}
use Rattle.kernels.specs.InnerStrided.{strided}
use Rattle.vectors.specs.InnerWaiting.{one, wait_step, start_waiting}
use Rattle.windows.proofs.Sharing.{one_more}
use Rattle.windows.proofs.eight.lanes_from.Goals as goal

pub returns-clause-more : goal.returns-clause-more
returns-clause-more c =
    let lanes = c.short_beside-r.result.lanes in
    let full : lanes ≡ feed (wait_step false) 0 (start_waiting (replicate 8 one)) (strided c.args.values.now (pos c.args.at) (pos 1) (8 * c.args.vectors)) =
    search rules in
    c.wait_vector-more.ensures
    ∙ ap (feed (wait_step false) 0 lanes) c.vector_at-vector.ensures
    ∙ one_more c.args.values.now c.args.at c.args.vectors lanes c.requires full
