use Rattle.std.proofs.Common.{refl, sym, ◌∙◌, ap, ℕ, ◌+◌, drop, arith}
use Rattle.integers.proofs.Machine.{narrow_u64-some, narrow_u64-none}
use Rattle.layout.specs.Compile.{total_from, total_of}
use Rattle.layout.proofs.Compiling.{total-more, total-over, total-all}
use Rattle.layout.proofs.traversal.checked_total.Goals as goal

pub loop-size-init : goal.loop-size-init
unfolding total_of
loop-size-init c = refl

pub returns-in_err-total : goal.returns-in_err-total
returns-in_err-total c =
    c.from_residual.ensures
    ∙ sym (sym c.loop-size.invariant
    ∙ total-over c.args.sizes.now c.loop-size.total c.loop-size.size-index (omega arith) (narrow_u64-none _ (sym c.in_err-total.ensures)))

pub loop-size-preserved : goal.loop-size-preserved
loop-size-preserved c =
    let k = narrow_u64-some _ _ (sym c.in_ok-total.ensures) in
    ap (λ (t : ℕ). total_from t (drop (c.loop-size.size-index + 1) c.args.sizes.now)) k.0
    ∙ sym (total-more c.args.sizes.now c.loop-size.total c.loop-size.size-index (omega arith) k.1)
    ∙ c.loop-size.invariant

pub returns : goal.returns
returns c = sym (total-all c.args.sizes.now c.loop-size.total c.loop-size.size-index (omega arith)) ∙ c.loop-size.invariant
