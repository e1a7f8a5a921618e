-- Joining two of size 1 to 2: to split the product brings m back as halving does, and gives e the same. Assumes nothing.
use mathlib.Core.Path.{◌≡◌, refl, sym, ap, ◌∙◌}
use mathlib.Core.Bool.{true, false, ◌||◌}
use Prim.Native.Nat.{ℕ, ◌^◌, ◌≤◌}
use lib.IntN.{pos, nat_abs, ◌+ℤ◌}
use lib.Dec.{T, lit<}
use lib.Ieee.{Float, binary64, fits, mul}
use mir.Syntax.{w64}
use mir.Val.{SFits, to_z, of_z}
use mir.ValLaws.{to_z-of_z}
use Rattle.floats.specs.declared.Split.{Split}
use Rattle.floats.specs.Factor.{Factor, float_of}
use Rattle.floats.specs.Magnitude.{in_unit, with_exponent}
use Rattle.floats.specs.Splitting.{rate_factor, split}
use Rattle.floats.specs.InnerKinds.{is_subnormal}
use Rattle.floats.proofs.Product.{mul-binary64}
use Rattle.floats.proofs.Magnitude.{near-range, moved-normal}
use Rattle.floats.proofs.Splitting.{split-m, split-e, float-rate, float-other}
use Rattle.floats.proofs.Units.{both, up, both-normal, up_le, unit-product}
use Rattle.accumulator.specs.declared.StableProductFloatAcc.{StableProductFloatAcc}
use Rattle.accumulator.specs.Joining.{multiplied, combined}
use Rattle.accumulator.proofs.Exponents.{sum, near_fits, near-exact}
use Rattle.accumulator.proofs.Combining.{acc-same, combined-good}
use Rattle.accumulator.proofs.Joins.{settled}

module _ (a b : StableProductFloatAcc) (fa : T (fits binary64 a.m)) (fb : T (fits binary64 b.m)) (ua : in_unit a.m ≡ true)
    (ub : in_unit b.m ≡ true) where
  abbrev k : Factor
  k = both a.m b.m fa fb ua ub

  abbrev c : ℕ
  c = up a.m b.m fa fb ua ub

  c-le : c ≤ 1
  c-le = up_le a.m b.m fa fb ua ub

  -- the product of the floats, as the machine has it, and the factor that it is
  abbrev raw : Float
  raw = mul binary64 a.m b.m

  raw-rate : rate_factor raw ≡ with_exponent k (pos c)
  raw-rate =
      ap rate_factor (mul-binary64 a.m b.m ∙ unit-product a.m b.m fa fb ua ub)
      ∙ float-rate (with_exponent k (pos c)) (moved-normal 52 k (pos c) (both-normal a.m b.m fa fb ua ub))
      (near-range binary64 11 52 refl refl (lit< tt) k c c-le)

  raw-other : is_subnormal raw ≡ false
  raw-other =
      ap is_subnormal (mul-binary64 a.m b.m ∙ unit-product a.m b.m fa fb ua ub)
      ∙ float-other (with_exponent k (pos c)) (moved-normal 52 k (pos c) (both-normal a.m b.m fa fb ua ub))
      (near-range binary64 11 52 refl refl (lit< tt) k c c-le)

  -- the code's way, from what it holds of the fields of a product that is not subnormal
  module _ (p : Split) (fields : is_subnormal raw ≡ false → p ≡ split raw) (hx : nat_abs a.e ≤ 2 ^ 61) (hy : nat_abs b.e ≤ 2 ^ 61) (pe : SFits w64 p.e) where
    is : p ≡ split raw
    is = fields raw-other

    m_is : p.m ≡ (multiplied a b).m
    m_is =
        ap (λ (s : Split). s.m) is ∙ split-m raw ∙ ap (λ (f : Factor). float_of 11 52 (with_exponent f (pos 0))) raw-rate ∙ sym (settled a b fa fb ua ub).m_is

    e_is : to_z w64 (of_z w64 p.e) ≡ pos c
    e_is = to_z-of_z w64 p.e pe ∙ ap (λ (s : Split). s.e) is ∙ split-e raw ∙ ap (λ (f : Factor). f.exp) raw-rate

    pub split-fits : SFits w64 (to_z w64 (of_z w64 (sum a.e b.e hx hy)) +ℤ to_z w64 (of_z w64 p.e))
    split-fits = near_fits a.e b.e hx hy c (to_z w64 (of_z w64 p.e)) c-le e_is

    pub code-split : (a.bad || b.bad) ≡ false
        → ◌≡◌ {A = StableProductFloatAcc}
        (record { m = p.m; e = to_z w64 (of_z w64 (to_z w64 (of_z w64 (sum a.e b.e hx hy)) +ℤ to_z w64 (of_z w64 p.e))); bad = false }) (combined a b)
    code-split h =
        let r = multiplied a b in
        let s = settled a b fa fb ua ub in
        let e = to_z w64 (of_z w64 (to_z w64 (of_z w64 (sum a.e b.e hx hy)) +ℤ to_z w64 (of_z w64 p.e))) in
        acc-same p.m r.m e r.e false r.bad m_is (near-exact a.e b.e hx hy c (to_z w64 (of_z w64 p.e)) c-le e_is ∙ sym s.e_is)
        (sym s.mark)
        ∙ sym (combined-good a b h)
