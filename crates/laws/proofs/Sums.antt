-- Sums of integers. Assumes nothing.
use mathlib.Core.Path.{◌≡◌, sym, ap, ◌∙◌}
use lib.IntN.{ℤ, ◌+ℤ◌, +ℤ_assoc, +ℤ_comm}

pub sum-swap : (x y z : ℤ) → x +ℤ y +ℤ z ≡ x +ℤ z +ℤ y
sum-swap x y z = +ℤ_assoc x y z ∙ ap (λ (u : ℤ). x +ℤ u) (+ℤ_comm y z) ∙ sym (+ℤ_assoc x z y)
