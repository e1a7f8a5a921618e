-- A part of a slice: n values from `at` on. Assumes nothing.
use Prim.Native.Nat.{ℕ, ◌+◌, ◌≤◌, ◌<◌}
use mathlib.Core.Path.{◌≡◌, ap, ◌∙◌}
use mathlib.Core.List.{List, ◌++◌}
use native.Mathlib.Omega.{arith}
use lib.ListN.{length, get_or, take, drop, length-take, length-drop}
use lib.Seq.{take-add, drop-drop, get_or-take, get_or-drop}
use Rattle.kernels.specs.InnerLanes.{window}

module _ {X : Type 0} (xs : List X) (at n : ℕ) where
  pub window-length : at + n ≤ length xs → length (window xs at n) ≡ n
  window-length h = simp (length-take, length-drop) (omega arith)

  pub window-at : (i : ℕ) (d : X) → i < n → get_or (window xs at n) i d ≡ get_or xs (at + i) d
  window-at i d h = get_or-take n (drop at xs) i d h ∙ get_or-drop at xs i d

  -- the part after it
  pub window-append : (m : ℕ) → window xs at (n + m) ≡ window xs at n ++ window xs (at + n) m
  window-append m = take-add n m (drop at xs) ∙ ap (λ (l : List X). window xs at n ++ take m l) (drop-drop n at xs)
