-- Places a stride apart, and the exponents of a product. Assumes nothing.
use Prim.Native.Nat.{ℕ, suc, ◌+◌, ◌*◌, ◌≤◌, ◌<◌}
use mathlib.Core.Path.{◌≡◌, sym, ap, ◌∙◌, subst}
use native.Mathlib.Omega.{arith}
use lib.IntN.{ℤ, pos, ◌+ℤ◌, ◌*ℤ◌}
use mir.Val.{SFits}
use mir.Syntax.{w64}
use Rattle.integers.specs.InnerPlaces.{PlacesFit}
use Rattle.integers.proofs.Difference.{ints, atoms}

pub place-first : (z s : ℤ) → z ≡ z +ℤ s *ℤ pos 0
place-first z s = simp ints (simp atoms (omega arith))

pub place-next : (z s : ℤ) (n : ℕ) → z +ℤ s *ℤ pos n +ℤ s ≡ z +ℤ s *ℤ pos (n + 1)
place-next z s n = simp ints (simp atoms (omega arith))

pub place-later : (z s : ℤ) (n : ℕ) → z +ℤ s +ℤ s *ℤ pos n ≡ z +ℤ s *ℤ pos (suc n)
place-later z s n = simp ints (simp atoms (omega arith))

pub place-sum : (z s : ℤ) (a b : ℕ) → z +ℤ s *ℤ pos a +ℤ s *ℤ pos b ≡ z +ℤ s *ℤ pos (a + b)
place-sum z s a b = simp ints (simp atoms (omega arith))

-- the first places of vectors of eight
pub place-eighth : (z s : ℤ) (i : ℕ) → z +ℤ s *ℤ pos 8 *ℤ pos i ≡ z +ℤ s *ℤ pos (8 * i)
place-eighth z s i = simp ints (simp atoms (omega arith))

-- ---- places that fit
place-one : (z s : ℤ) → z +ℤ s *ℤ pos 1 ≡ z +ℤ s
place-one z s = simp ints (simp atoms (omega arith))

-- the next, if there is one
pub next_fits : (z s : ℤ) (n : ℕ) → 0 < n → PlacesFit z s (n + 1) → SFits w64 (z +ℤ s)
next_fits z s n l h = subst (SFits w64) (place-one z s) (h 1 (omega arith))

-- from number j on
pub fit-later : (z s at : ℤ) (n j m : ℕ) → at ≡ z +ℤ s *ℤ pos j → j + m ≤ n → PlacesFit z s n → PlacesFit at s m
fit-later z s at n j m e l h i b = subst (SFits w64) (sym (ap (λ (y : ℤ). y +ℤ s *ℤ pos i) e ∙ place-sum z s j i)) (h (j + i) (omega arith))

-- every eighth
pub fit-eighths : (z s : ℤ) (n m : ℕ) → 8 * m < n + 8 → PlacesFit z s n → PlacesFit z (s *ℤ pos 8) m
fit-eighths z s n m l h i b = subst (SFits w64) (sym (place-eighth z s i)) (h (8 * i) (omega arith))

-- two exponents, each written as another and a shift, and the carry of the product
pub exponents : (e d z y p q : ℤ) (c : ℕ) → p ≡ e +ℤ z → q ≡ d +ℤ y → p +ℤ q +ℤ pos c ≡ e +ℤ d +ℤ (z +ℤ y +ℤ pos c)
exponents e d z y p q c = simp ints (simp atoms (omega arith))
