-- The products of the windows of a slice, written into a buffer one after another.
-- Assumes nothing.
use Prim.Native.Nat.{ℕ, zero, suc, ◌+◌, ◌≤◌, ◌<◌}
use mathlib.Core.Path.{◌≡◌, refl, sym, ◌∙◌, ap}
use mathlib.Core.List.{List, [], ◌∷◌, map}
use native.Mathlib.Omega.{arith}
use lib.ListN.{length, get_or, set, take, drop, length-map, get_or-map}
use lib.Seq.{paste, drop-nil}
use lib.Ieee.{Float}
use Rattle.refusals.specs.Refusals.{buffer_after}
use Rattle.refusals.proofs.Buffers.{pasted-more, pasted_length, pasted-all}
use Rattle.accumulator.specs.declared.StableProductFloatAcc.{StableProductFloatAcc}
use Rattle.kernels.specs.Blocks.{contiguous}
use Rattle.ranges.proofs.Lists.{at-any}
use Rattle.windows.specs.Windows.{windows_of, window_count}

-- ---- the windows, place by place
count-windows : (w n : ℕ) (xs : List Float) → length (windows_of w n xs) ≡ n
unfolding windows_of
count-windows w zero xs = refl
count-windows w (suc n) xs = ap suc (count-windows w n (drop 1 xs))

drop_more : (i : ℕ) (xs : List Float) → drop i (drop 1 xs) ≡ drop (suc i) xs
drop_more i [] = drop-nil i
drop_more i (x ∷ xs) = refl

window-is : (w n : ℕ) (xs : List Float) (i : ℕ) → i < n → (d : List Float) → get_or (windows_of w n xs) i d ≡ take w (drop i xs)
unfolding windows_of
window-is w zero xs i h d = absurd (omega arith)
window-is w (suc n) xs zero h d = refl
window-is w (suc n) xs (suc i) h d = window-is w n (drop 1 xs) i (omega arith) d ∙ ap (take w) (drop_more i xs)

-- ---- what is written of their products, by one of acc-m, acc-e and acc-byte
module _ {X : Type 0} (f : StableProductFloatAcc → X) (values : List Float) (w : ℕ) where
  module _ (n : ℕ) where
    pub length-windows : length (map f (map contiguous (windows_of w n values))) ≡ n
    length-windows =
        length-map (map contiguous (windows_of w n values)) f
        ∙ length-map (windows_of w n values) contiguous
        ∙ count-windows w n values

    pub window-product : (i : ℕ) → i < n → (d : X)
        → get_or (map f (map contiguous (windows_of w n values))) i d ≡ f (contiguous (take w (drop i values)))
    window-product i h d =
        at-any (map f (map contiguous (windows_of w n values))) i (rw length-windows h) d (f (contiguous []))
        ∙ get_or-map f (map contiguous (windows_of w n values)) i (contiguous [])
        ∙ ap f (get_or-map contiguous (windows_of w n values) i [] ∙ ap contiguous (window-is w n values i h []))

  abbrev count : ℕ
  count = window_count (length values) w

  abbrev all : List X
  all = map f (map contiguous (windows_of w count values))

  module _ (out : List X) where
    -- the buffer with i of them written
    abbrev pub wrote : ℕ → List X
    wrote i = paste out 0 all i

    module _ (room : window_count (length values) w ≤ length out) where
      fits : length all ≤ length out
      fits = rw (length-windows count) room

      pub wrote-more : (i : ℕ) → i < window_count (length values) w → (r : List X) → r ≡ wrote i → (x : X)
          → x ≡ f (contiguous (take w (drop i values))) → set r i x ≡ wrote (i + 1)
      wrote-more i h r e x q = pasted-more all out fits i (rw (length-windows count) h) r e x (q ∙ sym (window-product count i h x))

      pub length-wrote : (i : ℕ) → i ≤ window_count (length values) w → (r : List X) → r ≡ wrote i → length r ≡ length out
      length-wrote i h r e = pasted_length all out fits i (rw (length-windows count) h) r e

      pub wrote-all : (i : ℕ) → i ≡ window_count (length values) w → (r : List X) → r ≡ wrote i → r ≡ buffer_after 0 all out
      wrote-all i h r e = pasted-all all out fits i (h ∙ sym (length-windows count)) r e
