-- How far the exponents of lanes can be from 0 after values and after being brought back; and that there are always eight. Assumes nothing.
use Prim.Native.Nat.{ℕ, zero, suc, ◌+◌, ◌*◌, ◌≤◌}
use mathlib.Core.Path.{◌≡◌, refl, ◌∙◌, subst}
use mathlib.Core.List.{List, [], ◌∷◌}
use native.Mathlib.Nat.{le_trans, add-le-add}
use native.Mathlib.Omega.{arith}
use lib.ListN.{length, get_or, set, length-set}
use lib.IntN.{ℤ, pos, nat_abs, ◌+ℤ◌}
use lib.Ieee.{Float, nan}
use lib.Seq.{get_or-set_other}
use Rattle.floats.specs.Product.{product_of}
use Rattle.floats.specs.Splitting.{split}
use Rattle.floats.proofs.Splitting.{farthest}
use Rattle.floats.proofs.Factor.{add-size}
use Rattle.kernels.specs.declared.lanes.Lanes.{Lanes}
use Rattle.kernels.specs.Lanes.{feed, lane_of, in_order}
use Rattle.kernels.specs.Blocks.{m_of, e_of, unsplit_step, split_step, renorm_lane}
use Rattle.kernels.specs.InnerLanes.{SmallLanes}
use Rattle.kernels.proofs.Feeding.{feed-holds, order-keeps}
use Rattle.kernels.proofs.Sizes.{set-either, split-size}

pub lanes-le : (n m : ℕ) (s : Lanes) → n ≤ m → SmallLanes n s → SmallLanes m s
lanes-le n m s h l = record { at = λ k. le_trans (l.at k) h }

-- ---- one lane's exponent with a split one added
module _ (n : ℕ) (s : Lanes) (h : SmallLanes n s) where
  added : (j k : ℕ) (x : Float) → nat_abs (get_or (set s.e j (e_of s j +ℤ (split x).e)) k (pos 0)) ≤ n + farthest
  added j k x =
      set-either (λ (z : ℤ). nat_abs z ≤ n + farthest) s.e j k (e_of s j +ℤ (split x).e) (pos 0)
      (le_trans (add-size (e_of s j) (split x).e) (add-le-add (h.at j) (split-size x))) (le_trans (h.at k) (omega arith))

  pub step_small : (i : ℕ) (x : Float) → SmallLanes (n + farthest) (split_step i s x)
  unfolding split_step
  step_small i x = record { at = λ k. added (lane_of i) k x }

  pub renorm-lane-small : (j : ℕ) → SmallLanes (n + farthest) (renorm_lane j s)
  unfolding renorm_lane
  renorm-lane-small j = record { at = λ k. added j k (m_of s j) }

-- ---- values
pub split-small : (n i : ℕ) (s : Lanes) (xs : List Float) → SmallLanes n s → SmallLanes (n + farthest * length xs) (feed split_step i s xs)
unfolding feed
split-small n i s [] h = lanes-le n (n + farthest * 0) s (omega arith) h
split-small n i s (x ∷ xs) h =
    subst (λ (m : ℕ). SmallLanes m (feed split_step (suc i) (split_step i s x) xs)) (omega arith)
    (split-small (n + farthest) (suc i) (split_step i s x) xs (step_small n s h i x))

pub unsplit-small : (n i : ℕ) (s : Lanes) (xs : List Float) → SmallLanes n s → SmallLanes n (feed unsplit_step i s xs)
unfolding unsplit_step
unsplit-small n = feed-holds unsplit_step (SmallLanes n) (λ i s x h. record { at = λ k. h.at k })

-- k lanes brought back
-- and what they leave of the later lanes
pub renormed-left : (k j : ℕ) (s : Lanes) → k ≤ j → m_of (in_order renorm_lane k s) j ≡ m_of s j
unfolding renorm_lane in_order
renormed-left zero j s h = refl
renormed-left (suc k) j s h =
    get_or-set_other (in_order renorm_lane k s).m k j (split (m_of (in_order renorm_lane k s) k)).m nan (λ (e : j ≡ k). omega arith) ∙ renormed-left k j s (omega arith)

pub renormed-small : (n k : ℕ) (s : Lanes) → SmallLanes n s → SmallLanes (n + farthest * k) (in_order renorm_lane k s)
renormed-small n k s h =
    order-keeps renorm_lane (λ (k : ℕ) (t : Lanes). SmallLanes (n + farthest * k) t) k
    (λ j t l r. subst (λ (m : ℕ). SmallLanes m (renorm_lane j t)) (omega arith) (renorm-lane-small (n + farthest * j) t r j)) s
    (lanes-le n (n + farthest * 0) s (omega arith) h)

-- ---- there are always eight lanes
abbrev pub Eight : Lanes → Type 0
Eight s = length s.m ≡ 8

pub unsplit-eight : (i : ℕ) (s : Lanes) (xs : List Float) → Eight s → Eight (feed unsplit_step i s xs)
unfolding unsplit_step
unsplit-eight = feed-holds unsplit_step Eight (λ i s x h. length-set s.m (lane_of i) (product_of 11 52 (m_of s (lane_of i)) x) ∙ h)

pub split-eight : (i : ℕ) (s : Lanes) (xs : List Float) → Eight s → Eight (feed split_step i s xs)
unfolding split_step
split-eight = feed-holds split_step Eight (λ i s x h. length-set s.m (lane_of i) (product_of 11 52 (m_of s (lane_of i)) (split x).m) ∙ h)
