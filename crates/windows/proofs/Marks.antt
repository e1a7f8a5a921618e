-- The mark of a window's product: it is set exactly if a rate of the window is bad. Assumes nothing.
use Prim.Native.Nat.{ℕ, zero, suc, ◌+◌, ◌-◌, ◌≤◌, ◌<◌}
use mathlib.Core.Path.{◌≡◌, refl, sym, ◌∙◌, ap}
use mathlib.Core.Bool.{Bool, true, false, ◌||◌, or-true, true≢false}
use mathlib.Core.List.{List, [], ◌∷◌}
use native.Mathlib.Omega.{arith}
use lib.ListN.{length, get_or, take, drop}
use lib.Dec.{T}
use lib.Ieee.{Float, nan, binary64, fits}
use Rattle.floats.specs.Splitting.{is_bad}
use Rattle.laws.specs.Lists.{Each}
use Rattle.kernels.specs.Lanes.{some}
use Rattle.kernels.specs.Blocks.{contiguous}
use Rattle.kernels.proofs.Blocking.{Value, contiguous-mark}
use Rattle.kernels.proofs.Feeding.{each_take, each-drop}
use Rattle.kernels.proofs.Windows.{window-length, window-at}
use Rattle.windows.specs.Theorems.{BadWithin}

-- ---- some value of a list, by its position
record Found {X : Type 0} (p : X → Bool) (d : X) (xs : List X) : Type 0 where
  position : ℕ
  below : position < length xs
  holds : p (get_or xs position d) ≡ true

module _ {X : Type 0} (p : X → Bool) (d : X) where
  some-found : (xs : List X) → some p xs ≡ true → Found p d xs
  unfolding some
  some-found [] e = absurd (true≢false (sym e))
  some-found (x ∷ xs) e = go (p x) refl e (some-found xs)
    where
      go : (b : Bool) → p x ≡ b → (b || some p xs) ≡ true → (some p xs ≡ true → Found p d xs) → Found p d (x ∷ xs)
      go true q e f = record { position = 0; below = omega arith; holds = q }
      go false q e f = let r = f e in record { position = suc r.position; below = omega (arith, r.below); holds = r.holds }

  found_some : (xs : List X) (k : ℕ) → k < length xs → p (get_or xs k d) ≡ true → some p xs ≡ true
  unfolding some
  found_some [] k h e = absurd (omega arith)
  found_some (x ∷ xs) zero h e = ap (λ (b : Bool). b || some p xs) e
  found_some (x ∷ xs) (suc k) h e = ap (λ (b : Bool). p x || b) (found_some xs k (omega arith) e) ∙ or-true (p x)

-- ---- a window
module _ (values : List Float) (w i : ℕ) (v : Each (λ (x : Float). T (fits binary64 x)) values) (inside : i + w ≤ length values) where
  abbrev rates : List Float
  rates = take w (drop i values)

  mark : (contiguous rates).bad ≡ some is_bad rates
  mark = contiguous-mark rates (each_take Value w (each-drop Value i v))

  found_within : Found is_bad nan rates → BadWithin values w i
  found_within f =
      let l = window-length values i w inside in
      let h : f.position < w = omega (arith, l, f.below) in
      record {
        position = i + f.position;
        from = omega arith;
        to = omega arith;
        bad = sym (ap is_bad (window-at values i w f.position nan h)) ∙ f.holds;
      }

  within-some : BadWithin values w i → some is_bad rates ≡ true
  within-some b =
      let l = window-length values i w inside in
      let h : b.position - i < w = omega (arith, b.from, b.to) in
      let e : i + (b.position - i) ≡ b.position = omega (arith, b.from) in
      found_some is_bad nan rates (b.position - i) (omega (arith, l, h))
      (ap is_bad (window-at values i w (b.position - i) nan h ∙ ap (λ (k : ℕ). get_or values k nan) e) ∙ b.bad)

pub window-marked : (values : List Float) (w i : ℕ) → Each (λ (x : Float). T (fits binary64 x)) values → i + w ≤ length values
    → ((contiguous (take w (drop i values))).bad ≡ true → BadWithin values w i) × (BadWithin values w i → (contiguous (take w (drop i values))).bad ≡ true)
window-marked values w i v inside = (
  (λ e. found_within values w i v inside (some-found is_bad nan (take w (drop i values)) (sym (mark values w i v inside) ∙ e))),
  (λ b. mark values w i v inside ∙ within-some values w i v inside b),
)
