-- The product of the lanes, if they pass both tests, is the piece's.
use Rattle.std.proofs.Common.{◌≡◌, ◌∙◌, ap, sym, subst, rules, ℕ, ℤ, Float, true, false, to_z-of_z, w64, SFits}
use Rattle.laws.proofs.Tests.{and_both}
use Rattle.floats.specs.Splitting.{split}
use Rattle.floats.specs.InnerKinds.{is_subnormal}
use Rattle.kernels.specs.declared.lanes.Lanes.{Lanes}
use Rattle.kernels.specs.Lanes.{feed}
use Rattle.kernels.specs.InnerStrided.{strided}
use Rattle.kernels.proofs.Striding.{length-strided, strided-values}
use Rattle.vectors.specs.declared.vector.Waiting.{Waiting}
use Rattle.vectors.specs.InnerWaiting.{padded, wait_step, start_waiting, not_past}
use Rattle.vectors.specs.InnerShort.{ShortLeast}
use Rattle.vectors.proofs.Shorts.{short-product}
use Rattle.vectors.proofs.piece.middle_piece.Goals as goal

pub returns-then-not_past-none_below : goal.returns-then-not_past-none_below
returns-then-not_past-none_below c =
    let xs = c.args.values.now in
    let piece = strided xs c.args.start c.args.stride c.args.len in
    let q = c.split_fields-q.result in
    let fits : SFits w64 c.split_fields-q.result.e = search rules in
    let t = and_both c.not_past.result c.none_below.result c.if-not_past-none_below.true in
    let begun = c.start_waiting-t.ensures ∙ ap (λ (s : Lanes). start_waiting s.m) c.start_lanes.ensures in
    ap (λ (z : ℤ). record { m = q.m; e = z; bad = false }) (to_z-of_z fits)
    ∙ short-product true piece (strided-values xs c.type_inv.values c.args.start c.args.stride c.args.len) c.short_least-least.result
    (subst (λ (n : ℕ). ShortLeast true n c.short_least-least.result) (sym (length-strided xs c.args.start c.args.stride c.args.len))
    (c.short_least-least.ensures c.if-len-gt-MOST_SHORT.false))
    c.wait_values-r.result.lanes
    (simp (to_z-of_z c.ranges.start, to_z-of_z c.ranges.stride) at c.wait_values-r.ensures.lanes_value
    ∙ ap (λ (w : Waiting). feed (wait_step true) 0 w (padded piece)) begun)
    q
    (subst (λ (y : Float). is_subnormal y ≡ false → q ≡ split y) c.chain-p.ensures c.split_fields-q.ensures)
    (sym c.none_below.ensures ∙ t.1) (ap not_past (sym c.chain-p.ensures) ∙ sym c.not_past.ensures ∙ t.0)
