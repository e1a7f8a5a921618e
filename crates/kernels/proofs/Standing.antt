-- Products of lanes that stand for factors stand for `times`, as long as m stays a normal number. Assumes nothing.
use Prim.Native.Nat.{ℕ, zero, suc, ◌+◌, ◌-◌, ◌*◌, ◌≤◌}
use mathlib.Core.Path.{◌≡◌, refl, sym, ap, ◌∙◌}
use mathlib.Core.Bool.{false}
use native.Mathlib.Nat.{le_refl, le_trans, add-le-add}
use native.Mathlib.Omega.{arith}
use lib.IntN.{ℤ, pos, negsuc, nat_abs, ◌+ℤ◌, +ℤ_idr, +ℤ_idl}
use lib.Dec.{T}
use lib.Ieee.{Float, fin, binary64, fits}
use Rattle.integers.proofs.Places.{exponents}
use Rattle.integers.proofs.Difference.{is-diff, at-pos}
use Rattle.floats.specs.Product.{product_of}
use Rattle.floats.specs.Factor.{Factor, Normalised, NormalExponent, unit, carry, times, float_of}
use Rattle.floats.specs.Magnitude.{with_exponent}
use Rattle.floats.specs.Splitting.{is_bad, rate_factor, split}
use Rattle.floats.proofs.Factor.{factor-same, unit-normal, times-normal, carry-le, add-size}
use Rattle.floats.proofs.Bridge.{product-times}
use Rattle.floats.proofs.Magnitude.{moved-normal}
use Rattle.floats.specs.InnerKinds.{is_subnormal}
use Rattle.floats.proofs.Splitting.{split-m, split-e, rate-normal, rate-float, float-rate, float-other}
use Rattle.accumulator.specs.declared.StableProductFloatAcc.{StableProductFloatAcc}
use Rattle.accumulator.proofs.Combining.{acc-same}
use Rattle.kernels.specs.Pieces.{acc_of}
use Rattle.kernels.specs.InnerLanes.{Represents}

pub represents-more : (B C : ℕ) (m : Float) (e : ℤ) (f : Factor) → B ≤ C → Represents B m e f → Represents C m e f
represents-more B C m e f h s = record { off = s.off; near = le_trans s.near h; m_is = s.m_is; e_is = s.e_is; normal = s.normal }

-- exponents of -1022 to 1022 are those of normal numbers
pub near-in : (f : Factor) (z : ℤ) → nat_abs z ≤ 1022 → NormalExponent 11 (with_exponent f z)
near-in f (pos n) h = record { place = n + 1022; above = refl; below = omega arith }
near-in f (negsuc n) h = record { place = 1022 - suc n; above = is-diff 1022 (suc n) ∙ at-pos 1022 (suc n) (1022 - suc n) (omega arith); below = omega arith }

-- ---- the product
module _ (B C : ℕ) (m x : Float) (e d : ℤ) (f g : Factor) (F : Represents B m e f) (G : Represents C x d g) (room : B + C + 1 ≤ 1022) where
  c : ℕ
  c = carry 52 (f.sig * g.sig)

  z : ℤ
  z = F.off +ℤ G.off +ℤ pos c

  size : nat_abs z ≤ B + C + 1
  unfolding z c
  size =
      le_trans (add-size (F.off +ℤ G.off) (pos c))
      (add-le-add (le_trans (add-size F.off G.off) (add-le-add F.near G.near)) (carry-le 52 f g F.normal G.normal))

  pub represents-times : Represents (B + C + 1) (product_of 11 52 m x) (e +ℤ d) (times 52 f g)
  unfolding times z c
  represents-times = record {
    off = z;
    near = size;
    m_is =
        ap (λ (u : Float). product_of 11 52 u x) F.m_is
        ∙ ap (product_of 11 52 (float_of 11 52 (with_exponent f F.off))) G.m_is
        ∙ product-times (with_exponent f F.off) (with_exponent g G.off) (moved-normal 52 f F.off F.normal) (moved-normal 52 g G.off G.normal)
        (near-in f F.off (le_trans F.near (omega arith))) (near-in g G.off (le_trans G.near (omega arith)))
        (near-in (times 52 f g) z (le_trans size room));
    e_is = exponents e d F.off G.off f.exp g.exp c F.e_is G.e_is;
    normal = times-normal 52 f g F.normal G.normal;
  }

-- ---- bringing back
-- a lane whose m is normal, split, stands for the same factor with m in [1, 2)
pub range_split : (m : Float) (e : ℤ) (f : Factor) (off : ℤ) → NormalExponent 11 (with_exponent f off) → m ≡ float_of 11 52 (with_exponent f off)
    → f.exp ≡ e +ℤ off → Normalised 52 f → Represents 0 (split m).m (e +ℤ (split m).e) f
range_split m e f off R is at N =
    let g = with_exponent f off in
    let r : rate_factor m ≡ g = ap rate_factor is ∙ float-rate g (moved-normal 52 f off N) R in
    record {
      off = pos 0;
      near = le_refl 0;
      m_is = split-m m ∙ ap (λ (k : Factor). float_of 11 52 (with_exponent k (pos 0))) r;
      e_is = at ∙ ap (λ (y : ℤ). e +ℤ y) (sym (split-e m ∙ ap (λ (k : Factor). k.exp) r)) ∙ sym (+ℤ_idr (e +ℤ (split m).e));
      normal = N;
    }

-- such a lane is not subnormal
pub represents-other : (B : ℕ) (m : Float) (e : ℤ) (f : Factor) → B ≤ 1022 → Represents B m e f → is_subnormal m ≡ false
represents-other B m e f h s =
    ap is_subnormal s.m_is ∙ float-other (with_exponent f s.off) (moved-normal 52 f s.off s.normal) (near-in f s.off (le_trans s.near h))

pub represents-split : (B : ℕ) (m : Float) (e : ℤ) (f : Factor) → B ≤ 1022 → Represents B m e f → Represents 0 (split m).m (e +ℤ (split m).e) f
represents-split B m e f h s = range_split m e f s.off (near-in f s.off (le_trans s.near h)) s.m_is s.e_is s.normal

-- ---- rates
-- a rate, split
pub represents-rate : (x : Float) → Represents 0 (split x).m (split x).e (rate_factor x)
represents-rate x = record { off = pos 0; near = le_refl 0; m_is = split-m x; e_is = sym (split-e x) ∙ sym (+ℤ_idr (split x).e); normal = rate-normal x }

-- a rate as it is, at the exponent 0
pub represents-whole : (C : ℕ) (x : Float) → T (fits binary64 x) → is_bad x ≡ false → nat_abs (rate_factor x).exp ≤ C → Represents C x (pos 0) (rate_factor x)
represents-whole C x b h k =
    let f = rate_factor x in
    record {
      off = f.exp;
      near = k;
      m_is = sym (rate-float x b h) ∙ ap (float_of 11 52) (factor-same f.sign f.sign f.sig f.sig f.exp f.exp refl refl refl);
      e_is = sym (+ℤ_idl f.exp);
      normal = rate-normal x;
    }

-- 1.0 and 0
pub represents-one : Represents 0 (fin false 1 (pos 0)) (pos 0) (unit 52)
unfolding float_of
represents-one = record { off = pos 0; near = le_refl 0; m_is = refl; e_is = refl; normal = unit-normal 52 }

-- ---- the end
none-off : (z : ℤ) → nat_abs z ≤ 0 → z ≡ pos 0
none-off (pos zero) h = refl
none-off (pos (suc n)) h = absurd (omega arith)
none-off (negsuc n) h = absurd (omega arith)

-- brought back, m and e are those of the factor
pub represents-acc : (m : Float) (e : ℤ) (f : Factor) → Represents 0 m e f → ◌≡◌ {A = StableProductFloatAcc} (record { m = m; e = e; bad = false }) (acc_of f)
represents-acc m e f s =
    let z = none-off s.off s.near in
    acc-same m (float_of 11 52 (with_exponent f (pos 0))) e f.exp false false
    (s.m_is ∙ ap (λ (y : ℤ). float_of 11 52 (with_exponent f y)) z)
    (sym (s.e_is ∙ ap (λ (y : ℤ). e +ℤ y) z ∙ +ℤ_idr e))
    refl
