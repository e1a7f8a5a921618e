-- What joining gives, in whole numbers. If neither is bad, the joined factor is `times` of the two; 1 <= |m| < 2 and |e| <= 2^52 hold of every accepted
-- answer, so that answers can be joined again. That m is a value of binary64 holds of every f64. Assumes nothing.
use mathlib.Core.Path.{◌≡◌, refl, sym, ap, ◌∙◌, subst}
use mathlib.Core.Bool.{Bool, true, false, ◌||◌}
use Prim.Native.Nat.{ℕ, zero, suc, ◌^◌, ◌≤◌}
use native.Mathlib.Nat.{not-suc-le-zero, le_of_suc-le-suc}
use native.Mathlib.Omega.{arith}
use lib.IntN.{ℤ, pos, nat_abs, ◌+ℤ◌, +ℤ_idr}
use lib.Dec.{T, lit<}
use lib.Ieee.{Float, binary64, fits}
use Rattle.floats.specs.Product.{product_of}
use Rattle.floats.specs.Factor.{Factor, Normalised, unit, times, float_of}
use Rattle.floats.specs.Magnitude.{in_unit, two_or_more, factor_at, with_exponent}
use Rattle.floats.proofs.Bridge.{float_of-fits}
use Rattle.floats.proofs.Magnitude.{unit-float, below_two, from-two, factor-at-float}
use Rattle.floats.proofs.Units.{both, up, both-normal, up_le, unit-product, halved-unit}
use borrow.Author.Tests.{leb-true}
use Rattle.accumulator.specs.declared.StableProductFloatAcc.{StableProductFloatAcc}
use Rattle.accumulator.specs.Joining.{identity_acc, factor_of_acc, half, multiplied, combined, within_limit, in_limits, accumulator, refusal, joined}
use Rattle.accumulator.proofs.Combining.{multiplied-two, multiplied-less, combined-bad, combined-good}
use Rattle.accumulator.proofs.Answers.{in-limits-unit, refused-left, refused-right, accepted, refused-joined}

-- ---- joining two that are not bad
-- m is the float of `times` at the exponent 0, and e the sum of the exponents with the carry
pub record Settled (h : Factor) (c : ℕ) (e d : ℤ) (r : StableProductFloatAcc) : Type 0 where
  pub m_is : r.m ≡ float_of 11 52 (with_exponent h (pos 0))
  pub e_is : r.e ≡ e +ℤ d +ℤ pos c
  pub mark : r.bad ≡ false

module _ (a b : StableProductFloatAcc) (fa : T (fits binary64 a.m)) (fb : T (fits binary64 b.m)) (ua : in_unit a.m ≡ true)
    (ub : in_unit b.m ≡ true) where
  N : Normalised 52 (both a.m b.m fa fb ua ub)
  N = both-normal a.m b.m fa fb ua ub

  pub settled : Settled (both a.m b.m fa fb ua ub) (up a.m b.m fa fb ua ub) a.e b.e (multiplied a b)
  settled = go (up a.m b.m fa fb ua ub) (up_le a.m b.m fa fb ua ub) (unit-product a.m b.m fa fb ua ub)
    where
      k : Factor
      k = both a.m b.m fa fb ua ub

      two_is : (c : Bool) (z : ℤ) → product_of 11 52 a.m b.m ≡ float_of 11 52 (with_exponent k z) → two_or_more (float_of 11 52 (with_exponent k z)) ≡ c
          → two_or_more (product_of 11 52 a.m b.m) ≡ c
      two_is c z p q = ap two_or_more p ∙ q

      go : (c : ℕ) → c ≤ 1 → product_of 11 52 a.m b.m ≡ float_of 11 52 (with_exponent k (pos c)) → Settled k c a.e b.e (multiplied a b)
      go zero l p =
          let w = multiplied-less a b (two_is false (pos 0) p (below_two binary64 11 52 refl refl (lit< tt) k N)) in
          record {
            m_is = ap (λ (r : StableProductFloatAcc). r.m) w ∙ p;
            e_is = ap (λ (r : StableProductFloatAcc). r.e) w ∙ sym (+ℤ_idr (a.e +ℤ b.e));
            mark = ap (λ (r : StableProductFloatAcc). r.bad) w;
          }
      go (suc zero) l p =
          let w = multiplied-two a b (two_is true (pos 1) p (from-two binary64 11 52 refl refl (lit< tt) k N)) in
          record {
            m_is = ap (λ (r : StableProductFloatAcc). r.m) w ∙ ap (λ (x : Float). product_of 11 52 x half) p ∙ halved-unit k N;
            e_is = ap (λ (r : StableProductFloatAcc). r.e) w;
            mark = ap (λ (r : StableProductFloatAcc). r.bad) w;
          }
      go (suc (suc c)) l p = absurd (not-suc-le-zero (le_of_suc-le-suc l))

  pub multiplied-unit : in_unit (multiplied a b).m ≡ true
  multiplied-unit = ap in_unit settled.m_is ∙ unit-float binary64 11 52 refl refl (lit< tt) (both a.m b.m fa fb ua ub) N

  pub multiplied-fits : T (fits binary64 (multiplied a b).m)
  multiplied-fits =
      subst (λ (x : Float). T (fits binary64 x)) (sym settled.m_is)
      (float_of-fits binary64 11 52 refl refl (with_exponent (both a.m b.m fa fb ua ub) (pos 0)))

  -- the joined factor is `times` of the two
  pub multiplied-times : factor_of_acc (multiplied a b) ≡ times 52 (factor_of_acc a) (factor_of_acc b)
  unfolding up times factor_at
  multiplied-times =
      let k = both a.m b.m fa fb ua ub in
      let e = (multiplied a b).e in
      ap (λ (x : Float). factor_at 52 x e) settled.m_is
      ∙ factor-at-float binary64 11 52 refl refl (lit< tt) k e N
      ∙ ap (with_exponent k) settled.e_is

-- ---- every accepted answer
pub record Accepted (a b : StableProductFloatAcc) (m : Float) (e : ℤ) (q : Bool) : Type 0 where
  pub left : in_limits a ≡ true
  pub right : in_limits b ≡ true
  pub m_is : m ≡ (combined a b).m
  pub e_is : e ≡ (combined a b).e
  pub q_is : q ≡ (combined a b).bad
  pub limit : within_limit e ≡ true

refusal-no : (n : ℕ) (m : Float) (e : ℤ) (q : Bool) → refusal n ≡ accumulator m e q → ⊥
refusal-no n m e q p = let z : ◌≡◌ {A = ℕ} 0 1 = cc in omega arith

-- an answer that is an accumulator is the combined one, of two that stand
pub accepted-is : (a b : StableProductFloatAcc) (m : Float) (e : ℤ) (q : Bool) → joined a b ≡ accumulator m e q → Accepted a b m e q
accepted-is a b m e q p = first (in_limits a) refl
  where
    r : StableProductFloatAcc
    r = combined a b

    m-same : accumulator r.m r.e r.bad ≡ accumulator m e q → m ≡ r.m
    m-same w = cc

    e-same : accumulator r.m r.e r.bad ≡ accumulator m e q → e ≡ r.e
    e-same w = cc

    q-same : accumulator r.m r.e r.bad ≡ accumulator m e q → q ≡ r.bad
    q-same w = cc

    third : in_limits a ≡ true → in_limits b ≡ true → (t : Bool) → within_limit r.e ≡ t → Accepted a b m e q
    third h k true l =
        let w = accepted a b h k l ∙ p in
        record { left = h; right = k; m_is = m-same w; e_is = e-same w; q_is = q-same w; limit = ap (λ (z : ℤ). within_limit z) (e-same w) ∙ l }
    third h k false l = absurd (refusal-no 10 m e q (refused-joined a b h k l ∙ p))

    second : in_limits a ≡ true → (t : Bool) → in_limits b ≡ t → Accepted a b m e q
    second h true k = third h k (within_limit r.e) refl
    second h false k = absurd (refusal-no 9 m e q (refused-right a b h k ∙ p))

    first : (t : Bool) → in_limits a ≡ t → Accepted a b m e q
    first true h = second h (in_limits b) refl
    first false h = absurd (refusal-no 9 m e q (refused-left a b h ∙ p))

module _ (a b : StableProductFloatAcc) (fa : T (fits binary64 a.m)) (fb : T (fits binary64 b.m)) (m : Float) (e : ℤ) (q : Bool)
    (p : joined a b ≡ accumulator m e q) where
  A : Accepted a b m e q
  A = accepted-is a b m e q p

  ua : in_unit a.m ≡ true
  ua = in-limits-unit a A.left

  ub : in_unit b.m ≡ true
  ub = in-limits-unit b A.right

  -- by the marks
  module _ (P : Float → Type 0) (left : P a.m) (product : P (multiplied a b).m) where
    of-m : (t : Bool) → (a.bad || b.bad) ≡ t → P m
    of-m true h = subst P (sym (A.m_is ∙ ap (λ (r : StableProductFloatAcc). r.m) (combined-bad a b h))) left
    of-m false h = subst P (sym (A.m_is ∙ ap (λ (r : StableProductFloatAcc). r.m) (combined-good a b h))) product

  -- 1 <= |m| < 2
  pub joined-unit : in_unit m ≡ true
  joined-unit = of-m (λ (x : Float). in_unit x ≡ true) ua (multiplied-unit a b fa fb ua ub) (a.bad || b.bad) refl

  -- |e| <= 2^52
  pub joined-limit : nat_abs e ≤ 2 ^ 52
  joined-limit = leb-true (nat_abs e) (2 ^ 52) A.limit

  -- m is a value of binary64 again
  pub joined-fits : T (fits binary64 m)
  joined-fits = of-m (λ (x : Float). T (fits binary64 x)) fa (multiplied-fits a b fa fb ua ub) (a.bad || b.bad) refl

  -- neither bad: the joined factor is `times` of the two, and is not bad
  pub joined-times : (a.bad || b.bad) ≡ false → factor_at 52 m e ≡ times 52 (factor_of_acc a) (factor_of_acc b)
  joined-times h =
      let w = combined-good a b h in
      ap (λ (x : Float). factor_at 52 x e) (A.m_is ∙ ap (λ (r : StableProductFloatAcc). r.m) w)
      ∙ ap (factor_at 52 (multiplied a b).m) (A.e_is ∙ ap (λ (r : StableProductFloatAcc). r.e) w)
      ∙ multiplied-times a b fa fb ua ub

  -- the mark is set exactly if one of the two is bad
  pub joined-bad-mark : q ≡ (a.bad || b.bad)
  joined-bad-mark = go (a.bad || b.bad) refl
    where
      go : (t : Bool) → (a.bad || b.bad) ≡ t → q ≡ (a.bad || b.bad)
      go true h = A.q_is ∙ ap (λ (r : StableProductFloatAcc). r.bad) (combined-bad a b h) ∙ sym h
      go false h = A.q_is ∙ ap (λ (r : StableProductFloatAcc). r.bad) (combined-good a b h) ∙ (settled a b fa fb ua ub).mark ∙ sym h

-- ---- the identity: plus, 2^52, 0; it can be joined
pub identity-factor : factor_of_acc identity_acc ≡ unit 52
unfolding factor_at
identity-factor = refl

pub identity-in-limits : in_limits identity_acc ≡ true
unfolding in_limits in_unit
identity-in-limits = refl
