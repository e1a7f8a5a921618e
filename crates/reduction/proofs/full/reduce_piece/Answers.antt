-- `reduction::full::reduce_piece`: at stride 1 the piece is a part of the slice.
use Rattle.std.proofs.Common.{◌≡◌, sym, ◌∙◌, ap, subst, ℕ, ◌+◌, ◌-◌, ℤ, pos, nat_abs, Bool, length, take, drop, w64, to_z, of_z, FitsSigned, rules, arith}
use mir.Facts.{to_z-of_z}
use Rattle.integers.specs.Integers.{eq_z}
use Rattle.integers.proofs.Machine.{ne-eq_z}
use Rattle.kernels.specs.InnerStrided.{strided, PlacesInside}
use Rattle.kernels.specs.Blocks.{contiguous}
use Rattle.kernels.specs.Pieces.{worked}
use Rattle.kernels.proofs.Striding.{strided-window, at_first, at_last}
use Rattle.reduction.proofs.Pieces.{handed}
use Rattle.reduction.proofs.full.reduce_piece.Goals as goal

pub returns-then-stride-eq1 : goal.returns-then-stride-eq1
unfolding eq_z
returns-then-stride-eq1 c =
    let one : c.args.stride ≡ pos 1 = search rules in
    let at = nat_abs (to_z w64 (of_z w64 c.args.first)) in
    let n = length c.args.values.now in
    let inside = subst (λ (z : ℤ). PlacesInside n c.args.first z c.args.len) one c.requires.1 in
    let place = sym (ap nat_abs (to_z-of_z c.ranges.first)) in
    let ends = at_last n at c.args.first c.args.len inside c.requires.0 place in
    let fits : FitsSigned w64 c.stable_float_contiguous-a.result.e = search rules in
    handed c.stable_float_contiguous-a.result fits
    ∙ c.stable_float_contiguous-a.ensures
    ∙ ap (λ (n : ℕ). contiguous (take n (drop at c.args.values.now))) (count at c.args.len)
    ∙ ap contiguous (strided-window c.args.values.now at c.args.len ends)
    ∙ ap (λ (z : ℤ). contiguous (strided c.args.values.now z (pos 1) c.args.len)) (sym (at_first n at c.args.first c.args.len inside c.requires.0 place))
    ∙ ap (λ (z : ℤ). worked (eq_z z (pos 1)) (strided c.args.values.now c.args.first z c.args.len)) (sym one)
  where
    count : (a n : ℕ) → a + n - a ≡ n
    count a n = omega arith

pub returns : goal.returns
returns c =
    let fits : FitsSigned w64 c.lanes_strided-a.result.e = search rules in
    let other : c.args.stride ≡ pos 1 → ⊥ = search rules in
    handed c.lanes_strided-a.result fits
    ∙ simp (to_z-of_z c.ranges.first, to_z-of_z c.ranges.stride) at c.lanes_strided-a.ensures
    ∙ ap (λ (b : Bool). worked b (strided c.args.values.now c.args.first c.args.stride c.args.len)) (sym (ne-eq_z _ _ other))
