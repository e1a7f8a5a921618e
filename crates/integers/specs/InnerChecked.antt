-- Inner: what a checked step answers: the whole number where the machine's type holds it.
use Rattle.std.specs.Prelude.{ℕ, ◌^◌, cond, ltb, ℤ, Option, Some, None}
use Rattle.integers.specs.Integers.{fits_i64}

unfoldable pub narrow_u64 : ℕ → Option ℕ
narrow_u64 n = cond (ltb n (2 ^ 64)) (Some n) None

unfoldable pub narrow_i64 : ℤ → Option ℤ
narrow_i64 z = cond (fits_i64 z) (Some z) None
