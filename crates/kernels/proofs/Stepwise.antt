-- What the code of a step on the lanes works out. Assumes nothing.
use Prim.Native.Nat.{ℕ, ◌+◌, ◌^◌, ◌≤◌, ◌<◌}
use mathlib.Core.Path.{◌≡◌, sym, ap, ◌∙◌, subst}
use mathlib.Core.Bool.{◌||◌}
use native.Mathlib.Nat.{le_trans, mod-eq_of_lt}
use lib.Dec.{lit≤}
use lib.ListN.{get_or, set}
use lib.IntN.{ℤ, nat_abs, ◌+ℤ◌}
use lib.Ieee.{Float, nan, mul, binary64}
use mir.Syntax.{w64}
use mir.Val.{SFits, to_z, of_z}
use Rattle.floats.specs.Product.{product_of}
use Rattle.floats.specs.Splitting.{split}
use Rattle.floats.specs.declared.Split.{Split}
use Rattle.floats.proofs.Product.{mul-binary64}
use Rattle.kernels.specs.declared.lanes.Lanes.{Lanes}
use Rattle.kernels.specs.Lanes.{lane_of}
use Rattle.kernels.specs.Blocks.{m_of, e_of, unsplit_step, split_step, renorm_lane}
use Rattle.kernels.specs.InnerLanes.{SmallLanes, split_into}
use Rattle.accumulator.proofs.Exponents.{sum_fits, sum-exact}
use Rattle.kernels.proofs.Factors.{lane-again}
use Rattle.kernels.proofs.Sizes.{split-size}

lane-is : (k : ℕ) → k < 8 → lane_of k ≡ k
lane-is k h = mod-eq_of_lt h

-- value k of a vector goes to lane k
pub unsplit-lane : (s : Lanes) (k : ℕ) (x : Float) → k < 8
    → ◌≡◌ {A = Lanes} (record { m = set s.m k (mul binary64 (get_or s.m k nan) x); e = s.e; bad = s.bad }) (unsplit_step k s x)
unfolding unsplit_step
unsplit-lane s k x h =
    ap (λ (y : Float). record { m = set s.m k y; e = s.e; bad = s.bad }) (mul-binary64 (m_of s k) x)
    ∙ ap (λ (j : ℕ). record { m = set s.m j (product_of 11 52 (m_of s j) x); e = s.e; bad = s.bad }) (sym (lane-is k h))

pub unsplit-again : (i : ℕ) (s : Lanes) (x : Float) → unsplit_step (i + 8) s x ≡ unsplit_step i s x
unfolding unsplit_step
unsplit-again i s x = ap (λ (j : ℕ). record { m = set s.m j (product_of 11 52 (m_of s j) x); e = s.e; bad = s.bad }) (lane-again i)

-- ---- exponents, as the machine adds them
module _ (s : Lanes) (h : SmallLanes (2 ^ 61) s) (p : Split) (small : nat_abs p.e ≤ 2 ^ 61) where
  pub added-fits : (j : ℕ) → SFits w64 (to_z w64 (of_z w64 (e_of s j)) +ℤ to_z w64 (of_z w64 p.e))
  added-fits j = sum_fits (e_of s j) p.e (h.at j) small

  added_is : (j : ℕ) → to_z w64 (of_z w64 (to_z w64 (of_z w64 (e_of s j)) +ℤ to_z w64 (of_z w64 p.e))) ≡ e_of s j +ℤ p.e
  added_is j = sum-exact (e_of s j) p.e (h.at j) small

  -- a split value, put into a lane
  pub split-into : (j : ℕ)
      → ◌≡◌ {A = Lanes}
      (record {
        m = set s.m j (mul binary64 (get_or s.m j nan) p.m);
        e = set s.e j (to_z w64 (of_z w64 (to_z w64 (of_z w64 (e_of s j)) +ℤ to_z w64 (of_z w64 p.e))));
        bad = s.bad || p.bad;
      }) (split_into j s p)
  split-into j =
      ap (λ (z : ℤ). record { m = set s.m j (mul binary64 (m_of s j) p.m); e = set s.e j z; bad = s.bad || p.bad }) (added_is j)
      ∙ ap (λ (y : Float). record { m = set s.m j y; e = set s.e j (e_of s j +ℤ p.e); bad = s.bad || p.bad }) (mul-binary64 (m_of s j) p.m)

-- the split of a value is small
pub split-near : (x : Float) (p : Split) → p ≡ split x → nat_abs p.e ≤ 2 ^ 61
split-near x p e = subst (λ (q : Split). nat_abs q.e ≤ 2 ^ 61) (sym e) (le_trans (split-size x) (lit≤ tt))

-- value i in its lane, and value k of a vector in lane k
pub split-lane : (i : ℕ) (s : Lanes) (x : Float) (p : Split) → p ≡ split x → split_into (lane_of i) s p ≡ split_step i s x
unfolding split_step
split-lane i s x p e = ap (split_into (lane_of i) s) e

pub split-own : (k : ℕ) (s : Lanes) (x : Float) (p : Split) → k < 8 → p ≡ split x → split_into k s p ≡ split_step k s x
split-own k s x p h e = ap (λ (j : ℕ). split_into j s p) (sym (lane-is k h)) ∙ split-lane k s x p e

-- lane j, brought back
pub renorm-one : (s : Lanes) (h : SmallLanes (2 ^ 61) s) (j : ℕ) (p : Split) (e : p ≡ split (m_of s j))
    → ◌≡◌ {A = Lanes}
    (record { m = set s.m j p.m; e = set s.e j (to_z w64 (of_z w64 (to_z w64 (of_z w64 (e_of s j)) +ℤ to_z w64 (of_z w64 p.e)))); bad = s.bad })
    (renorm_lane j s)
unfolding renorm_lane
renorm-one s h j p e =
    ap (λ (z : ℤ). record { m = set s.m j p.m; e = set s.e j z; bad = s.bad }) (added_is s h p (split-near (m_of s j) p e) j)
    ∙ ap (λ (q : Split). record { m = set s.m j q.m; e = set s.e j (e_of s j +ℤ q.e); bad = s.bad }) e
