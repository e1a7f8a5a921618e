-- Inner: eight windows side by side, by lanes that begin at sixteen rates in a row.
use Rattle.std.specs.Prelude.{ℕ, ◌+◌, ◌≤◌, ◌<◌, ◌≡◌, false, List, length, get_or, Float}
use Rattle.std.specs.Float.{nan}
use Rattle.floats.specs.Product.{product_of}
use Rattle.floats.specs.Splitting.{split}
use Rattle.accumulator.specs.declared.StableProductFloatAcc.{StableProductFloatAcc}
use Rattle.kernels.specs.Lanes.{in_order}
use Rattle.kernels.specs.Blocks.{contiguous}
use Rattle.kernels.specs.InnerLanes.{window}
use Rattle.vectors.specs.InnerWaiting.{one}

-- eight lanes, and eight behind them
pub record Beside (a b r : List Float) : Type 0 where
  pub long : length r ≡ 16
  pub low : (k : ℕ) → k < 8 → get_or r k nan ≡ get_or a k nan
  pub high : (k : ℕ) → k < 8 → get_or r (8 + k) nan ≡ get_or b k nan

-- the product of window t times the lane k of window t, which is lane t + k of the sixteen
pub record TimesLane (c lanes : List Float) (k : ℕ) (r : List Float) : Type 0 where
  pub long : length r ≡ 8
  pub at : (t : ℕ) → t < 8 → get_or r t nan ≡ product_of 11 52 (get_or c t nan) (get_or lanes (t + k) nan)

-- if the products c are those of the lanes before `first` in any order f of products, and f goes on with these lanes, the products r are those of the lanes
-- before n
pub record TimesLanes (c lanes : List Float) (first n : ℕ) (r : List Float) : Type 0 where
  pub long : length r ≡ 8
  pub at : (t : ℕ) → t < 8 → (f : ℕ → Float → Float)
      → ((k : ℕ) → first ≤ k → k < n → (p : Float) → f k p ≡ product_of 11 52 p (get_or lanes (t + k) nan))
      → get_or c t nan ≡ in_order f first one → get_or r t nan ≡ in_order f n one

-- c has the products of windows `at` to `at + 7`: split, each is its window's, and none is bad
abbrev pub EightWindows : List Float → ℕ → ℕ → List Float → Type 0
EightWindows values w at c =
    (t : ℕ) → t < 8
    → ◌≡◌ {A = StableProductFloatAcc} (record { m = (split (get_or c t nan)).m; e = (split (get_or c t nan)).e; bad = false }) (contiguous (window values (at + t) w))
