-- A float that waits for a factor: it is the factor's float at an exponent that may have fallen by n, and has not passed the largest. The product of two such
-- floats waits for the product of their factors, or is an infinity. Assumes nothing.
use Prim.Native.Nat.{ℕ, suc, ◌+◌, ◌-◌, ◌*◌, ◌≤◌, ◌<◌, zero-le}
use mathlib.Core.Path.{◌≡◌, refl, sym, ap, ◌∙◌}
use mathlib.Core.Bool.{Bool, true, false}
use mathlib.Core.List.{List}
use mathlib.Core.Logic.{◌⊎◌, inl, inr}
use native.Mathlib.Nat.{le_trans}
use native.Mathlib.Omega.{arith}
use lib.IntN.{ℤ, pos, negsuc, nat_abs, ◌+ℤ◌, +ℤ_idl}
use lib.Dec.{T, ltb}
use lib.Signed.{le_z, lt_z}
use lib.Ieee.{Float, binary64, fits}
use borrow.Author.Tests.{ltb-true, ltb-false}
use Rattle.integers.proofs.Difference.{ints, atoms}
use Rattle.floats.specs.Product.{product_of}
use Rattle.floats.specs.Factor.{Factor, Normalised, NormalExponent, carry, times, float_of}
use Rattle.floats.specs.Magnitude.{with_exponent}
use Rattle.floats.specs.Splitting.{is_bad, rate_factor, split}
use Rattle.floats.specs.InnerKinds.{is_subnormal}
use Rattle.floats.proofs.Factor.{factor-same, times-normal}
use Rattle.floats.proofs.Bridge.{product-times}
use Rattle.floats.proofs.Magnitude.{moved-normal}
use Rattle.floats.proofs.Overflow.{is_lost, product-above}
use Rattle.floats.proofs.Splitting.{rate-normal, rate-range, rate-float, high-rate, float-other}
use Rattle.kernels.specs.declared.lanes.Lanes.{Lanes}
use Rattle.kernels.specs.InnerLanes.{Represents, LanesAre, LanesRepresent, zeros}
use Rattle.kernels.proofs.Lanewise.{lanes-map}
use Rattle.integers.proofs.Places.{exponents}
use Rattle.kernels.proofs.Standing.{near-in, range_split}

pub record Waits (n : ℕ) (m : Float) (e : ℤ) (f : Factor) : Type 0 where
  pub off : ℤ
  pub range : NormalExponent 11 (with_exponent f off)
  pub low : 1022 ≤ range.place + n
  pub m_is : m ≡ float_of 11 52 (with_exponent f off)
  pub e_is : f.exp ≡ e +ℤ off
  pub normal : Normalised 52 f

pub waits-more : (n l : ℕ) (m : Float) (e : ℤ) (f : Factor) → n ≤ l → Waits n m e f → Waits l m e f
waits-more n l m e f h w = record { off = w.off; range = w.range; low = let z = w.low in omega arith; m_is = w.m_is; e_is = w.e_is; normal = w.normal }

-- eight lanes that wait
abbrev pub WaitLanes : (ℕ → ℕ) → List Float → List ℤ → List Factor → Type 0
WaitLanes b ms es fs = LanesAre Waits b ms es fs

-- ---- places
place_of : (z y : ℤ) (p q c r : ℕ) → z +ℤ pos 1022 ≡ pos p → y +ℤ pos 1022 ≡ pos q → r + 1022 ≡ p + q + c → z +ℤ y +ℤ pos c +ℤ pos 1022 ≡ pos r
place_of z y p q c r = simp ints (simp atoms (omega arith))

past : (z : ℤ) (r : ℕ) → z +ℤ pos 1022 ≡ pos r → 2046 ≤ r → lt_z (pos 1023) z ≡ true
past z r = simp ints (simp atoms (omega arith))

-- ---- the product
module _ (n l : ℕ) (m x : Float) (e d : ℤ) (f g : Factor) (F : Waits n m e f) (G : Waits l x d g) (room : n + l ≤ 1022) where
  c : ℕ
  c = carry 52 (f.sig * g.sig)

  z : ℤ
  z = F.off +ℤ G.off +ℤ pos c

  r : ℕ
  r = F.range.place + G.range.place + c - 1022

  sum : r + 1022 ≡ F.range.place + G.range.place + c
  unfolding r
  sum = let a = F.low in let b = G.low in omega arith

  product_is : times 52 (with_exponent f F.off) (with_exponent g G.off) ≡ with_exponent (times 52 f g) z
  unfolding times z c
  product_is = refl

  at-r : z +ℤ pos 1022 ≡ pos r
  unfolding z c
  at-r = place_of F.off G.off F.range.place G.range.place c r F.range.above G.range.above sum

  -- the product of the two floats as they are
  whole : Float
  whole = product_of 11 52 (float_of 11 52 (with_exponent f F.off)) (float_of 11 52 (with_exponent g G.off))

  whole_is : product_of 11 52 m x ≡ whole
  unfolding whole
  whole_is = ap (λ (u : Float). product_of 11 52 u x) F.m_is ∙ ap (product_of 11 52 (float_of 11 52 (with_exponent f F.off))) G.m_is

  inside : r < 2046 → Waits (n + l) (product_of 11 52 m x) (e +ℤ d) (times 52 f g)
  unfolding times z c whole
  inside h =
      let R : NormalExponent 11 (with_exponent (times 52 f g) z) = record { place = r; above = at-r; below = h } in
      record {
        off = z;
        range = R;
        low = let a = F.low in let b = G.low in omega (arith, sum);
        m_is =
            whole_is
            ∙ product-times (with_exponent f F.off) (with_exponent g G.off) (moved-normal 52 f F.off F.normal)
            (moved-normal 52 g G.off G.normal) F.range G.range R;
        e_is = exponents e d F.off G.off f.exp g.exp c F.e_is G.e_is;
        normal = times-normal 52 f g F.normal G.normal;
      }

  outside : 2046 ≤ r → is_lost (product_of 11 52 m x) ≡ true
  unfolding whole
  outside h =
      ap is_lost
      (whole_is
      ∙ product-above (with_exponent f F.off) (with_exponent g G.off) (moved-normal 52 f F.off F.normal) (moved-normal 52 g G.off G.normal)
      F.range G.range
      (ap (λ (u : Factor). lt_z (pos 1023) u.exp) product_is ∙ past z r at-r h))

  pub waits-times : Waits (n + l) (product_of 11 52 m x) (e +ℤ d) (times 52 f g) ⊎ (is_lost (product_of 11 52 m x) ≡ true)
  waits-times = go (ltb r 2046) refl
    where
      go : (b : Bool) → ltb r 2046 ≡ b → Waits (n + l) (product_of 11 52 m x) (e +ℤ d) (times 52 f g) ⊎ (is_lost (product_of 11 52 m x) ≡ true)
      go true k = inl (inside (ltb-true r 2046 k))
      go false k = inr (outside (ltb-false r 2046 k))

-- ---- a rate as it is, from 2^-(k + 1) on
low-place : (e : ℤ) (p k : ℕ) → e +ℤ pos 1022 ≡ pos p → le_z (negsuc k) e ≡ true → 1022 ≤ p + suc k
low-place e p k = simp ints (simp atoms (omega arith))

pub waits-rate : (k : ℕ) (x : Float) → k ≤ 1021 → T (fits binary64 x) → is_bad x ≡ false → le_z (negsuc k) (rate_factor x).exp ≡ true
    → Waits (suc k) x (pos 0) (rate_factor x)
waits-rate k x few v h l =
    let f = rate_factor x in
    let R = rate-range x (high-rate k x few h l) in
    record {
      off = f.exp;
      range = record { place = R.place; above = R.above; below = R.below };
      low = low-place f.exp R.place k R.above l;
      m_is = sym (rate-float x v h) ∙ ap (float_of 11 52) (factor-same f.sign f.sign f.sig f.sig f.exp f.exp refl refl refl);
      e_is = sym (+ℤ_idl f.exp);
      normal = rate-normal x;
    }

-- ---- from and to lanes in [1, 2)
pub represents-waits : (m : Float) (e : ℤ) (f : Factor) → Represents 0 m e f → Waits 0 m e f
represents-waits m e f s =
    let R = near-in f s.off (le_trans s.near (let h : 0 ≤ 1022 = omega arith in h)) in
    record { off = s.off; range = R; low = at-0 s.off R.place s.near R.above; m_is = s.m_is; e_is = s.e_is; normal = s.normal }
  where
    place : (k p : ℕ) → pos k +ℤ pos 1022 ≡ pos p → 1022 ≤ p + 0
    place k p = simp ints (simp atoms (omega arith))

    at-0 : (y : ℤ) (p : ℕ) → nat_abs y ≤ 0 → y +ℤ pos 1022 ≡ pos p → 1022 ≤ p + 0
    at-0 (pos k) p h a = place k p a
    at-0 (negsuc k) p h a = absurd (omega arith)

pub lanes-wait : (b : ℕ → ℕ) (s : Lanes) (fs : List Factor) → LanesRepresent zeros s fs → WaitLanes b s.m s.e fs
lanes-wait b s fs = lanes-map Represents Waits zeros b (λ k i m e f S. waits-more 0 (b k) m e f zero-le (represents-waits m e f S))

-- a lane that waits is normal
pub waits-other : (n : ℕ) (m : Float) (e : ℤ) (f : Factor) → Waits n m e f → is_subnormal m ≡ false
waits-other n m e f w = ap is_subnormal w.m_is ∙ float-other (with_exponent f w.off) (moved-normal 52 f w.off w.normal) w.range

pub waits-split : (n : ℕ) (m : Float) (e : ℤ) (f : Factor) → Waits n m e f → Represents 0 (split m).m (e +ℤ (split m).e) f
waits-split n m e f w = range_split m e f w.off w.range w.m_is w.e_is w.normal
