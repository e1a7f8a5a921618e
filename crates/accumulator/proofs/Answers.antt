-- The cases of `joined`. Assumes nothing.
use mathlib.Core.Path.{◌≡◌, refl, sym, ap, ◌∙◌}
use mathlib.Core.Bool.{Bool, true, false, not, cond, ◌&&◌, ◌||◌, true≢false, and-false}
use Prim.Native.Nat.{◌^◌, ◌≤◌}
use native.Mathlib.Nat.{le_trans}
use lib.IntN.{nat_abs}
use lib.Dec.{lit≤}
use borrow.Author.Tests.{leb-true}
use Rattle.laws.proofs.Tests.{and_both}
use Rattle.floats.specs.Magnitude.{in_unit}
use Rattle.accumulator.specs.declared.StableProductFloatAcc.{StableProductFloatAcc}
use Rattle.accumulator.specs.Joining.{combined, within_limit, in_limits, Answer, accumulator, refusal, answered, joined}
use Rattle.accumulator.proofs.Combining.{combined-bad}

-- ---- what it is to stand
pub in-limits-unit : (a : StableProductFloatAcc) → in_limits a ≡ true → in_unit a.m ≡ true
unfolding in_limits
in-limits-unit a h = (and_both (in_unit a.m) (within_limit a.e) h).0

pub in-limits-exponent : (a : StableProductFloatAcc) → in_limits a ≡ true → within_limit a.e ≡ true
unfolding in_limits
in-limits-exponent a h = (and_both (in_unit a.m) (within_limit a.e) h).1

pub in-limits-small : (a : StableProductFloatAcc) → in_limits a ≡ true → nat_abs a.e ≤ 2 ^ 61
in-limits-small a h = le_trans (leb-true (nat_abs a.e) (2 ^ 52) (in-limits-exponent a h)) (lit≤ tt)

-- ---- the answer
module _ (a b : StableProductFloatAcc) where
  abbrev whole : Answer
  whole = accumulator (combined a b).m (combined a b).e (combined a b).bad

  abbrev second : Bool → Answer
  second t = cond (not (a.bad || b.bad) && not t) (refusal 10) whole

  pub refused-left : in_limits a ≡ false → refusal 9 ≡ joined a b
  unfolding joined
  refused-left h = ap (λ (t : Bool). cond (not (t && in_limits b)) (refusal 9) (answered a b)) (sym h)

  pub refused-right : in_limits a ≡ true → in_limits b ≡ false → refusal 9 ≡ joined a b
  unfolding joined
  refused-right h k =
      ap (λ (t : Bool). cond (not (true && t)) (refusal 9) (answered a b)) (sym k)
      ∙ ap (λ (t : Bool). cond (not (t && in_limits b)) (refusal 9) (answered a b)) (sym h)

  pub answered-joined : in_limits a ≡ true → in_limits b ≡ true → answered a b ≡ joined a b
  unfolding joined
  answered-joined h k =
      ap (λ (t : Bool). cond (not (true && t)) (refusal 9) (answered a b)) (sym k)
      ∙ ap (λ (t : Bool). cond (not (t && in_limits b)) (refusal 9) (answered a b)) (sym h)

  pub accepted : in_limits a ≡ true → in_limits b ≡ true → within_limit (combined a b).e ≡ true → whole ≡ joined a b
  unfolding answered
  accepted h k l =
      ap (λ (t : Bool). cond t (refusal 10) whole) (sym (and-false (not (a.bad || b.bad))))
      ∙ ap second (sym l)
      ∙ answered-joined h k

  -- a bad one keeps the left e, which is within the limit
  good : in_limits a ≡ true → within_limit (combined a b).e ≡ false → (a.bad || b.bad) ≡ false
  good h l = go (a.bad || b.bad) refl
    where
      go : (t : Bool) → (a.bad || b.bad) ≡ t → (a.bad || b.bad) ≡ false
      go true e = absurd (true≢false (sym (in-limits-exponent a h) ∙ ap (λ (r : StableProductFloatAcc). within_limit r.e) (sym (combined-bad a b e)) ∙ l))
      go false e = e

  pub refused-joined : in_limits a ≡ true → in_limits b ≡ true → within_limit (combined a b).e ≡ false → refusal 10 ≡ joined a b
  unfolding answered
  refused-joined h k l =
      ap (λ (t : Bool). cond (not t && true) (refusal 10) whole) (sym (good h l))
      ∙ ap second (sym l)
      ∙ answered-joined h k

  -- a bad one gives the left m and e and the mark
  pub joined-bad : in_limits a ≡ true → in_limits b ≡ true → (a.bad || b.bad) ≡ true → joined a b ≡ accumulator a.m a.e true
  joined-bad h k q =
      sym (accepted h k (ap (λ (r : StableProductFloatAcc). within_limit r.e) (combined-bad a b q) ∙ in-limits-exponent a h))
      ∙ ap (λ (r : StableProductFloatAcc). accumulator r.m r.e r.bad) (combined-bad a b q)
