-- From an exponent near 0 no join is refused.
use Rattle.std.proofs.Common.{rules, ℕ, ◌≡◌, sym, ◌∙◌, ap, ◌-◌, ◌^◌, ◌≤◌, arith, length, nat_abs, FitsSigned, w64}
use mir.Facts.{to_z-of_z}
use Rattle.std.specs.Prelude.{Ok}
use Rattle.offsets.specs.declared.pieces.RangeCursor.{RangeCursor}
use Rattle.offsets.specs.InnerPieces.{range_at}
use Rattle.accumulator.specs.declared.StableProductFloatAcc.{StableProductFloatAcc}
use Rattle.accumulator.specs.Joining.{answer_of}
use Rattle.accumulator.proofs.Answers.{in-limits-unit}
use Rattle.kernels.specs.InnerStepped.{Sound}
use Rattle.kernels.specs.Pieces.{joined_onto, rates_of}
use Rattle.reduction.specs.Ranges.{pieces_of}
use Rattle.reduction.proofs.Demand.{values-fit, full-pieces, length-rates, range-rates}
use Rattle.bookmarks.proofs.Joins.{joined-near}
use Rattle.bookmarks.proofs.join_portion.Goals as goal

pub join_pieces-requires : goal.join_pieces-requires
unfolding range_at
join_pieces-requires c =
    let began : c.begin-from.result ≡ range_at c.args.l c.args.base c.args.k = simp (to_z-of_z c.ranges.base) at c.begin-from.ensures in
    let at : c.begin-from.result.at ≡ c.args.k = ap (λ (x : RangeCursor). x.at) began in
    let cursor_is = began ∙ ap (range_at c.args.l c.args.base) (sym at) in
    let exact : FitsSigned w64 c.args.acc.e = search rules in
    let near : nat_abs c.args.acc.e ≤ 2 ^ 51 = simp (to_z-of_z exact) at (c.is_near.ensures c.if-is_near.true) in
    let sound : Sound c.args.acc = record { value = search rules; in_unit = in-limits-unit c.args.acc c.requires.6 } in
    simp (to_z-of_z c.ranges.base) (
      c.requires.0,
      c.requires.1,
      omega (arith, at, c.requires.2),
      c.requires.3,
      c.requires.4,
      c.requires.5,
      λ h. cursor_is,
      omega (arith, near),
      sound,
    )

pub returns-then-is_near : goal.returns-then-is_near
unfolding range_at
returns-then-is_near c =
    let began : c.begin-from.result ≡ range_at c.args.l c.args.base c.args.k = simp (to_z-of_z c.ranges.base) at c.begin-from.ensures in
    let at : c.begin-from.result.at ≡ c.args.k = ap (λ (x : RangeCursor). x.at) began in
    let exact : FitsSigned w64 c.args.acc.e = search rules in
    let near : nat_abs c.args.acc.e ≤ 2 ^ 51 = simp (to_z-of_z exact) at (c.is_near.ensures c.if-is_near.true) in
    let few : c.args.end ≤ 2 ^ 40 = omega (arith, c.requires.3, c.requires.4) in
    let v = values-fit c.args.values.now c.type_inv.values in
    let ps = pieces_of c.args.l c.args.base c.args.values.now c.args.k c.args.end in
    let rates : length (rates_of ps) ≡ c.args.end - c.args.k
    = ap length (range-rates c.args.l c.requires.0 c.args.base c.requires.1 c.args.values.now v c.args.end c.args.k c.requires.2 few)
    ∙ length-rates c.args.l c.args.base c.args.values.now c.args.k (c.args.end - c.args.k) in
    ap (λ (a : StableProductFloatAcc). answer_of (Ok a))
    ((simp (to_z-of_z c.ranges.base) at c.join_pieces.ensures)
    ∙ ap (λ (k : ℕ). joined_onto c.args.acc (pieces_of c.args.l c.args.base c.args.values.now k c.args.end)) at)
    ∙ sym (joined-near c.args.acc
    (full-pieces c.args.l c.requires.0 c.args.base c.requires.1 c.args.values.now v c.args.end (c.args.end - c.args.k) c.args.k)
    (omega (arith, near, rates, c.requires.3, c.requires.4)))

pub join_each-requires : goal.join_each-requires
join_each-requires c =
    let sound : Sound c.args.acc = record { value = search rules; in_unit = in-limits-unit c.args.acc c.requires.6 } in
    simp (to_z-of_z c.ranges.base) (c.requires.0, c.requires.1, c.requires.2, c.requires.3, c.requires.4, c.requires.5, c.requires.6, sound)
