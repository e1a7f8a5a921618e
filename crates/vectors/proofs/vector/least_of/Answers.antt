-- Assumes nothing.
use Prim.Native.Nat.{ℕ, zero, suc, ◌+◌, ◌-◌, ◌*◌, ◌%◌, ◌^◌, ◌≤◌}
use mathlib.Core.Path.{◌≡◌, sym, ap, ◌∙◌}
use mathlib.Core.Bool.{Bool, true, false, not}
use mathlib.Core.Logic.{◌⊎◌, inl, inr}
use native.Mathlib.Omega.{arith}
use lib.Dec.{T}
use lib.Ieee.{binary64, of_bits, nan_bits}
use Rattle.floats.proofs.Patterns.{power_below, below-number}
use Rattle.vectors.specs.InnerWaiting.{least_of}
use Rattle.vectors.proofs.vector.least_of.Goals.{then-signs, else-signs}
use Rattle.vectors.proofs.vector.least_of.Goals as goal

-- the field of the exponent, by the way that it was taken
abbrev Field : Bool → ℕ → ℕ → Type 0
Field signs d f = ((signs ≡ true) × (f ≡ 1024 - 2 * d)) ⊎ ((signs ≡ false) × (f ≡ 1023 - d))

pattern : (signs : Bool) (d f : ℕ) → 1 ≤ d → d ≤ 511 → Field signs d f
    → (of_bits binary64 (f * 2 ^ 52 % 2 ^ 64) ≡ least_of signs d) × T (not (nan_bits binary64 (f * 2 ^ 52 % 2 ^ 64)))
pattern signs zero f h l c = absurd (omega arith)
pattern signs (suc k) f h l (inl c) =
    let e : f ≡ 1024 - 2 * suc k = c.1 in (
      power_below f (k + k) (omega arith) (omega arith) ∙ sym (ap (λ (b : Bool). least_of b (suc k)) c.0),
      below-number f (k + k) (omega arith) (omega arith),
    )
pattern signs (suc k) f h l (inr c) =
    let e : f ≡ 1023 - suc k = c.1 in (
      power_below f k (omega arith) (omega arith) ∙ sym (ap (λ (b : Bool). least_of b (suc k)) c.0),
      below-number f k (omega arith) (omega arith),
    )

pub float_from_bits-result : goal.float_from_bits-result
float_from_bits-result c =
    let f : Field c.args.signs c.args.depth c.if-signs.field =
    elim c.if-signs.branch [ then-signs w ↦ inl (w.if-signs.true, w.field-is) | else-signs w ↦ inr (w.if-signs.false, w.field-is) ] in
    (pattern c.args.signs c.args.depth c.if-signs.field c.requires.0 c.requires.1 f).1

pub returns : goal.returns
returns c =
    let f : Field c.args.signs c.args.depth c.if-signs.field =
    elim c.if-signs.branch [ then-signs w ↦ inl (w.if-signs.true, w.field-is) | else-signs w ↦ inr (w.if-signs.false, w.field-is) ] in
    (pattern c.args.signs c.args.depth c.if-signs.field c.requires.0 c.requires.1 f).0
