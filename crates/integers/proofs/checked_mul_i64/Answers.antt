-- By the sign of a, and by the product p of the magnitudes.
use Rattle.std.proofs.Common.{◌≡◌, ◌*◌, ◌<◌, ◌^◌, nat_abs, sym, ◌∙◌, ap, ℕ, arith}
use mir.Facts.{to_z-of_z}
use Rattle.integers.proofs.Machine.{narrow_u64-some, narrow_u64-none, signed-neg, signed-pos, signed-least, signed-over, unsigned-over, far-over}
use Rattle.integers.proofs.Machine.{negated_fits, to_z-small}
use Rattle.integers.proofs.checked_mul_i64.Goals as goal
use Rattle.integers.proofs.checked_mul_i64.Goals.{else-a-lt0-2-via-then-a-lt0-2+else-p, else-a-lt0-2-via-else-a-lt0-2}

pub returns-in_err-p : goal.returns-in_err-p
returns-in_err-p c =
    let f = c.ranges.a in
    let m : c.unsigned_abs.result ≡ nat_abs c.args.a = simp (to_z-of_z f) at c.unsigned_abs.ensures.value in
    c.from_residual.ensures
    ∙ sym (far-over c.args.a c.args.n _ (ap (λ (k : ℕ). k * c.args.n) m) (narrow_u64-none _ (sym c.in_err-p.ensures)))

pub returns-then-a-lt0 : goal.returns-then-a-lt0
returns-then-a-lt0 c =
    let f = c.ranges.a in
    let m : c.unsigned_abs.result ≡ nat_abs c.args.a = simp (to_z-of_z f) at c.unsigned_abs.ensures.value in
    let q : c.in_ok-p.p ≡ nat_abs c.args.a * c.args.n = (narrow_u64-some _ _ (sym c.in_ok-p.ensures)).0 ∙ ap (λ (k : ℕ). k * c.args.n) m in
    let h : c.in_ok-p.p < 2 ^ 63 = omega arith in
    simp (to_z-small c.in_ok-p.p h, to_z-of_z (negated_fits c.in_ok-p.p (omega arith)))
    (sym (signed-neg c.args.a c.args.n c.in_ok-p.p q (simp (to_z-of_z f) at c.if-a-lt0.true) h))

pub returns-else-a-lt0 : goal.returns-else-a-lt0
returns-else-a-lt0 c =
    let f = c.ranges.a in
    let m : c.unsigned_abs.result ≡ nat_abs c.args.a = simp (to_z-of_z f) at c.unsigned_abs.ensures.value in
    let q : c.in_ok-p.p ≡ nat_abs c.args.a * c.args.n = (narrow_u64-some _ _ (sym c.in_ok-p.ensures)).0 ∙ ap (λ (k : ℕ). k * c.args.n) m in
    let h : c.in_ok-p.p < 2 ^ 63 = omega arith in
    simp (to_z-small c.in_ok-p.p h) (sym (signed-pos c.args.a c.args.n c.in_ok-p.p q (simp (to_z-of_z f) at c.if-a-lt0.false) h))

pub returns-then-p : goal.returns-then-p
returns-then-p c =
    let f = c.ranges.a in
    let m : c.unsigned_abs.result ≡ nat_abs c.args.a = simp (to_z-of_z f) at c.unsigned_abs.ensures.value in
    let q : c.in_ok-p.p ≡ nat_abs c.args.a * c.args.n = (narrow_u64-some _ _ (sym c.in_ok-p.ensures)).0 ∙ ap (λ (k : ℕ). k * c.args.n) m in
    sym (signed-least c.args.a c.args.n c.in_ok-p.p q (simp (to_z-of_z f) at c.if-a-lt0-2.true) c.if-p.true)

pub returns-else-a-lt0-2 : goal.returns-else-a-lt0-2
returns-else-a-lt0-2 c =
    let f = c.ranges.a in
    let m : c.unsigned_abs.result ≡ nat_abs c.args.a = simp (to_z-of_z f) at c.unsigned_abs.ensures.value in
    let q : c.in_ok-p.p ≡ nat_abs c.args.a * c.args.n = (narrow_u64-some _ _ (sym c.in_ok-p.ensures)).0 ∙ ap (λ (k : ℕ). k * c.args.n) m in
    elim c.else-a-lt0-2.branch [
      | else-a-lt0-2-via-then-a-lt0-2+else-p w ↦ sym (signed-over c.args.a c.args.n c.in_ok-p.p q (simp (to_z-of_z f) at w.if-a-lt0-2.true) (omega arith))
      | else-a-lt0-2-via-else-a-lt0-2 w ↦ sym (unsigned-over c.args.a c.args.n c.in_ok-p.p q (simp (to_z-of_z f) at w.if-a-lt0-2.false) (omega arith))
    ]
