-- The product of the lanes, if they pass both tests, is the piece's.
use Rattle.std.proofs.Common.{◌≡◌, ◌∙◌, ap, sym, subst, rules, ℕ, ℤ, Float, false, to_z-of_z, w64, SFits}
use Rattle.laws.proofs.Tests.{and_both}
use Rattle.floats.specs.Splitting.{split}
use Rattle.floats.specs.InnerKinds.{is_subnormal}
use Rattle.kernels.specs.InnerStrided.{strided}
use Rattle.kernels.proofs.Striding.{length-strided, strided-values}
use Rattle.vectors.specs.InnerWaiting.{not_past}
use Rattle.vectors.specs.InnerShort.{ShortLeast}
use Rattle.vectors.proofs.Shorts.{short-product}
use Rattle.vectors.proofs.piece.short_piece.Goals as goal

pub returns-then-none_below-not_past : goal.returns-then-none_below-not_past
returns-then-none_below-not_past c =
    let xs = c.args.values.now in
    let q = c.split_fields-q.result in
    let fits : SFits w64 c.split_fields-q.result.e = search rules in
    let t = and_both c.none_below.result c.not_past.result c.if-none_below-not_past.true in
    ap (λ (z : ℤ). record { m = q.m; e = z; bad = false }) (to_z-of_z fits)
    ∙ short-product false (strided xs c.args.start c.args.stride c.args.len) (strided-values xs c.type_inv.values c.args.start c.args.stride c.args.len)
    c.args.least
    (subst (λ (n : ℕ). ShortLeast false n c.args.least) (sym (length-strided xs c.args.start c.args.stride c.args.len)) c.requires.1)
    c.short_lanes-w.result (simp (to_z-of_z c.ranges.start, to_z-of_z c.ranges.stride) at c.short_lanes-w.ensures) q
    (subst (λ (y : Float). is_subnormal y ≡ false → q ≡ split y) c.chain-p.ensures c.split_fields-q.ensures)
    (sym c.none_below.ensures ∙ t.0) (ap not_past (sym c.chain-p.ensures) ∙ sym c.not_past.ensures ∙ t.1)
