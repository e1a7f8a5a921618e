-- Inner: a stepped piece with a bad value, by its lanes.
use Rattle.std.specs.Prelude.{ℕ, true, ℤ, pos, ◌+ℤ◌, Float}
use Rattle.floats.specs.Product.{product_of}
use Rattle.floats.specs.Splitting.{split}
use Rattle.accumulator.specs.declared.StableProductFloatAcc.{StableProductFloatAcc}
use Rattle.kernels.specs.declared.lanes.Lanes.{Lanes}
use Rattle.kernels.specs.Lanes.{in_order}
use Rattle.kernels.specs.Blocks.{m_of, e_of}
use Rattle.vectors.specs.InnerWaiting.{one}

-- the lanes before lane n, multiplied in lane order and brought back, with the mark
unfoldable pub product_before : Lanes → ℕ → StableProductFloatAcc
product_before s n =
    let p = in_order (λ (k : ℕ) (p : Float). product_of 11 52 p (m_of s k)) n one in
    record { m = (split p).m; e = in_order (λ (k : ℕ) (e : ℤ). e +ℤ e_of s k) n (pos 0) +ℤ (split p).e; bad = true }
