-- Two factors below 2^32 have a product below 2^64.
use Rattle.std.proofs.Common.{sym, ℕ, ◌*◌, ◌^◌, ◌<◌, ◌≤◌, arith}
use Rattle.std.proofs.Math.Nat.{mul-le-mul}
use Rattle.integers.proofs.Machine.{narrow_u64-yes, narrow_u64-is}
use Rattle.integers.proofs.checked_mul_u64.Goals as goal

halves-fit : (a b : ℕ) → a ≤ 4294967295 → b ≤ 4294967295 → a * b < 2 ^ 64
halves-fit a b h k = let m = mul-le-mul h k in omega arith

pub returns-then-b-le-HALF_MAX : goal.returns-then-b-le-HALF_MAX
returns-then-b-le-HALF_MAX c = sym (narrow_u64-yes _ (halves-fit c.args.a c.args.b c.if-a-le-HALF_MAX.true c.if-b-le-HALF_MAX.true))

pub returns-else-a-le-HALF_MAX : goal.returns-else-a-le-HALF_MAX
returns-else-a-le-HALF_MAX c = narrow_u64-is _ _ c.checked_mul.ensures
