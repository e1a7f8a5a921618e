-- The statements of specs/Theorems hold. Assumes nothing beyond what they say.
use Prim.Native.Nat.{ℕ, ◌+◌, ◌^◌, ◌≤◌, ◌<◌}
use mathlib.Core.Path.{◌≡◌, sym, ◌∙◌, ap}
use mathlib.Core.List.{List, map}
use native.Mathlib.Omega.{arith}
use lib.ListN.{length, get_or, take, drop}
use lib.Dec.{T, eqb}
use lib.IntN.{ℤ, pos}
use lib.Ieee.{Float, nan, binary64, fits}
use Rattle.refusals.specs.Refusals.{buffer_after}
use Rattle.refusals.proofs.Buffers.{buffer-at}
use Rattle.accumulator.specs.declared.StableProductFloatAcc.{StableProductFloatAcc}
use Rattle.accumulator.specs.Joining.{accumulator}
use Rattle.laws.specs.Lists.{Each}
use Rattle.kernels.specs.Blocks.{contiguous}
use Rattle.ranges.specs.Many.{bad_byte}
use Rattle.ranges.proofs.Writing.{acc-m, acc-e, acc-byte}
use Rattle.ranges.proofs.Theorems.{byte_one, byte-few}
use Rattle.windows.specs.Windows.{window_count, windows_answer, window_products, window_ms, window_es, window_bads}
use Rattle.windows.specs.Theorems.{RuleN1, RuleN1Law, BadWithin, RuleN2Law}
use Rattle.windows.proofs.OneAxis.{one-axis}
use Rattle.windows.proofs.Marks.{window-marked}
use Rattle.windows.proofs.Writing.{length-windows, window-product}
use Rattle.windows.proofs.Codes.{Accepted, accepted}

module _ (values : List Float) (w : ℕ) (ms : List Float) (es : List ℤ) (bads : List ℕ) (z : windows_answer values w ms es bads ≡ 0)
    (i : ℕ) (h : i < window_count (length values) w) where
  -- ---- what stands at place i: the window's own product
  abbrev own : StableProductFloatAcc
  own = contiguous (take w (drop i values))

  abbrev m-here : Float
  m-here = get_or (window_ms values w ms es bads) i nan

  abbrev e-here : ℤ
  e-here = get_or (window_es values w ms es bads) i (pos 0)

  abbrev bad-here : ℕ
  bad-here = get_or (window_bads values w ms es bads) i 0

  written : {X : Type 0} (f : StableProductFloatAcc → X) (out : List X) (d : X)
      → get_or (buffer_after (windows_answer values w ms es bads) (map f (window_products values w ms es bads)) out) i d ≡ f own
  written f out d =
      let n = window_count (length values) w in
      buffer-at (windows_answer values w ms es bads) (map f (window_products values w ms es bads)) out z i (rw (length-windows f values w n) h) d
      ∙ window-product f values w n i h d

  m-at : m-here ≡ own.m
  unfolding window_ms
  m-at = written acc-m ms nan

  e-at : e-here ≡ own.e
  unfolding window_es
  e-at = written acc-e es (pos 0)

  bad-at : bad-here ≡ bad_byte own.bad
  unfolding window_bads
  bad-at = written acc-byte bads 0

  mark-at : eqb bad-here 1 ≡ own.bad
  mark-at = ap (λ (n : ℕ). eqb n 1) bad-at ∙ byte_one own.bad

  -- ---- the window lies in the slice
  allowed : Accepted (length values) w (length ms) (length es) (length bads)
  unfolding windows_answer
  allowed = accepted (length values) w (length ms) (length es) (length bads) z

  inside : i + w ≤ length values
  inside = omega (arith, h, allowed.fits)

  -- ---- rule N1
  place-rule : length values ≤ 2 ^ 63 → RuleN1 values w i m-here e-here bad-here
  place-rule short =
      record {
        own =
            one-axis values w i allowed.some allowed.few inside short
            ∙ ap (λ (m : Float). accumulator m own.e own.bad) (sym m-at)
            ∙ ap (λ (e : ℤ). accumulator m-here e own.bad) (sym e-at)
            ∙ ap (accumulator m-here e-here) (sym mark-at);
        byte = omega (arith, bad-at, byte-few own.bad);
      }

  -- ---- rule N2
  marked : Each (λ (x : Float). T (fits binary64 x)) values → (bad-here ≡ 1 → BadWithin values w i) × (BadWithin values w i → bad-here ≡ 1)
  marked v =
      let r = window-marked values w i v inside in (
        λ e. r.0 (sym mark-at ∙ ap (λ (n : ℕ). eqb n 1) e),
        λ b. bad-at ∙ ap bad_byte (r.1 b),
      )

pub rule-N1 : RuleN1Law
rule-N1 values w ms es bads short z i h = place-rule values w ms es bads z i h short

pub rule-N2 : RuleN2Law
rule-N2 values w ms es bads v z i h = marked values w ms es bads z i h v
