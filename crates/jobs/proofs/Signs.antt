-- Signed numbers as they are sent, and back.
-- Assumes nothing.
use Prim.Native.Nat.{ℕ, ◌+◌, ◌/◌, ◌%◌, ◌^◌, ◌<◌}
use mathlib.Core.Path.{◌≡◌}
use mathlib.Core.Bool.{true}
use native.Mathlib.Omega.{arith}
use lib.Dec.{eqb}
use lib.IntN.{ℤ, pos, negsuc}
use borrow.Author.Tests.{ltb-true, eqb-true, eqb-false, eq-eqb, ne_eqb}
use Rattle.integers.specs.Integers.{fits_i64}
use Rattle.jobs.specs.Words.{sent_of, signed_of}
use Rattle.laws.proofs.Tests.{by-test}

pub signed_sent : (z : ℤ) → signed_of (sent_of z) ≡ z
unfolding signed_of sent_of
signed_sent (pos n) =
    let h : (n + n) % 2 ≡ 0 = omega arith in
    let k : (n + n) / 2 ≡ n = omega arith in
    rw (eq-eqb ((n + n) % 2) 0 h, k)
signed_sent (negsuc n) =
    let h : (n + n + 1) % 2 ≡ 0 → ⊥ = omega arith in
    let k : (n + n + 1) / 2 ≡ n = omega arith in
    rw (ne_eqb ((n + n + 1) % 2) 0 h, k)

pub sent-signed : (n : ℕ) → sent_of (signed_of n) ≡ n
unfolding signed_of sent_of
sent-signed n =
    by-test (λ (z : ℤ). sent_of z ≡ n) (eqb (n % 2) 0) (λ t. let h = eqb-true (n % 2) 0 t in omega arith)
    (λ t. let h = eqb-false (n % 2) 0 t in omega arith)

pub sent-fits : (z : ℤ) → fits_i64 z ≡ true → sent_of z < 2 ^ 64
unfolding fits_i64 sent_of
sent-fits (pos n) e = let h = ltb-true n (2 ^ 63) e in omega arith
sent-fits (negsuc n) e = let h = ltb-true n (2 ^ 63) e in omega arith
