-- What a call over the windows of a slice tells: its code, and the three buffers after it. Assumes nothing.
use Prim.Native.Nat.{ℕ}
use mathlib.Core.Path.{◌≡◌, ◌∙◌, ap}
use mathlib.Core.List.{List, map}
use lib.IntN.{ℤ}
use lib.Ieee.{Float}
use Rattle.refusals.specs.Refusals.{buffer_after}
use Rattle.refusals.proofs.Buffers.{buffer-kept}
use Rattle.accumulator.specs.declared.StableProductFloatAcc.{StableProductFloatAcc}
use Rattle.ranges.proofs.Writing.{acc-m, acc-e, acc-byte}
use Rattle.windows.specs.Windows.{windows_answer, window_products, window_ms, window_es, window_bads}

module _ (values : List Float) (w : ℕ) (ms : List Float) (es : List ℤ) (bads : List ℕ) where
  abbrev code : ℕ
  code = windows_answer values w ms es bads

  abbrev all : List StableProductFloatAcc
  all = window_products values w ms es bads

  -- the answer r, and the buffers after it
  abbrev pub Told : ℕ → List Float → List ℤ → List ℕ → Type 0
  Told r m e b = (r ≡ code) × ((m ≡ window_ms values w ms es bads) × ((e ≡ window_es values w ms es bads) × (b ≡ window_bads values w ms es bads)))

  pub told-refused : (r : ℕ) → r ≡ code → (r ≡ 0 → ⊥) → Told r ms es bads
  unfolding window_ms window_es window_bads
  told-refused r e n =
      let k : code ≡ 0 → ⊥ = λ z. n (e ∙ z) in
      (e, (buffer-kept code (map acc-m all) ms k, (buffer-kept code (map acc-e all) es k, buffer-kept code (map acc-byte all) bads k)))

  over : {X : Type 0} (f : StableProductFloatAcc → X) (out : List X) → 0 ≡ code → buffer_after 0 (map f all) out ≡ buffer_after code (map f all) out
  over f out e = ap (λ (n : ℕ). buffer_after n (map f all) out) e

  pub told-accepted : 0 ≡ code → (m : List Float) (e : List ℤ) (b : List ℕ) → m ≡ buffer_after 0 (map acc-m all) ms → e ≡ buffer_after 0 (map acc-e all) es
      → b ≡ buffer_after 0 (map acc-byte all) bads → Told 0 m e b
  unfolding window_ms window_es window_bads
  told-accepted z m e b p q r = (z, (p ∙ over acc-m ms z, (q ∙ over acc-e es z, r ∙ over acc-byte bads z)))
