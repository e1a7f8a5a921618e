-- A loop over the vectors of a piece that carries the places of the last vector and of the next: no place is formed but that of a vector. Assumes nothing.
use Prim.Native.Nat.{ℕ, ◌+◌, ◌-◌, ◌*◌, ◌/◌, ◌%◌, ◌^◌, ◌≤◌, ◌<◌}
use mathlib.Core.Path.{◌≡◌, refl, sym, ap, ◌∙◌, subst}
use mathlib.Core.Bool.{Bool, true, false}
use mathlib.Core.List.{List}
use native.Mathlib.Omega.{arith}
use lib.ListN.{length}
use lib.IntN.{ℤ, pos, ◌+ℤ◌, ◌*ℤ◌}
use lib.Dec.{ltb}
use lib.Ieee.{Float}
use borrow.Author.Tests.{ltb-true, ltb-false}
use Rattle.integers.specs.InnerPlaces.{PlacesFit}
use Rattle.integers.proofs.Places.{place-first, place-sum, fit-eighths}
use Rattle.kernels.specs.Lanes.{feed}
use Rattle.kernels.specs.InnerStrided.{strided, PlacesInside}
use Rattle.kernels.proofs.Striding.{inside-part, length-strided}
use Rattle.vectors.specs.declared.vector.Waiting.{Waiting}
use Rattle.vectors.specs.InnerWaiting.{vector_of, wait_step, padded}
use Rattle.vectors.specs.InnerVectors.{last_vector}
use Rattle.vectors.proofs.Vectorwise.{fits-from}
use Rattle.vectors.proofs.Vectors.{vectors-then, vectors-more, wait-again, rest-padded}

-- of v vectors `left` are left: t has the others, the last of which is at `at`; the next is at `next`, if there is one
pub record Walk (signs : Bool) (w : Waiting) (xs : List Float) (s d : ℤ) (v : ℕ) (t : Waiting) (at next : ℤ) (left : ℕ) : Type 0 where
  pub upto : left ≤ v
  pub fed : t ≡ feed (wait_step signs) 0 w (strided xs s d (8 * (v - left)))
  pub last : at ≡ last_vector s d (8 * (v - left))
  pub here : 0 < left → next ≡ s +ℤ d *ℤ pos (8 * (v - left))

module _ (signs : Bool) (w : Waiting) (xs : List Float) (s d : ℤ) (v : ℕ) where
  pub walk-begin : Walk signs w xs s d v w s s v
  unfolding feed strided
  walk-begin = record {
    upto = omega arith;
    fed = ap (λ (n : ℕ). feed (wait_step signs) 0 w (strided xs s d n)) (let e : 0 ≡ 8 * (v - v) = omega arith in e);
    last = place-first s d ∙ ap (λ (n : ℕ). s +ℤ d *ℤ pos n) (let e : 0 ≡ 8 * ((8 * (v - v) - 1) / 8) = omega arith in e);
    here = λ h. place-first s d ∙ ap (λ (n : ℕ). s +ℤ d *ℤ pos n) (let e : 0 ≡ 8 * (v - v) = omega arith in e);
  }

  module _ (t : Waiting) (at next : ℤ) (left : ℕ) (W : Walk signs w xs s d v t at next left) where
    -- the next vector lies inside, and its place and those of the vectors behind it fit
    pub walk_inside : 0 < left → PlacesInside (length xs) s d (8 * v) → PlacesInside (length xs) next d 8
    walk_inside l h =
        subst (λ (z : ℤ). PlacesInside (length xs) z d 8) (sym (W.here l))
        (inside-part (length xs) s d (8 * v) (8 * (v - left)) 8 h (omega (arith, W.upto)))

    pub walk-fits : 0 < left → PlacesInside (length xs) s d (8 * v) → length xs < 2 ^ 63 → PlacesFit next (d *ℤ pos 8) left
    walk-fits l h m =
        fit-eighths next d (8 * left) left (omega arith)
        (fits-from (length xs) s d (8 * v) h m next (8 * (v - left)) (8 * left) (W.here l) (omega (arith, W.upto)))

    -- one vector more
    pub walk_step : (u : Waiting) (after : ℤ) → 0 < left → u ≡ feed (wait_step signs) 0 t (strided xs next d 8)
        → (0 < left - 1 → after ≡ next +ℤ d *ℤ pos 8) → Walk signs w xs s d v u next after (left - 1)
    walk_step u after l q a = record {
      upto = omega (arith, W.upto);
      fed =
          vectors-more (wait_step signs) (wait-again signs) w t u xs s d (v - left) W.fed
          (q ∙ ap (λ (z : ℤ). feed (wait_step signs) 0 t (strided xs z d 8)) (W.here l))
          ∙ ap (λ (n : ℕ). feed (wait_step signs) 0 w (strided xs s d (8 * n))) more;
      last =
          W.here l
          ∙ ap (λ (n : ℕ). s +ℤ d *ℤ pos n) (let e : 8 * (v - left) ≡ 8 * ((8 * (v - (left - 1)) - 1) / 8) = omega (arith, W.upto) in e);
      here = λ h.
          a h
          ∙ ap (λ (z : ℤ). z +ℤ d *ℤ pos 8) (W.here l)
          ∙ place-sum s d (8 * (v - left)) 8
          ∙ ap (λ (n : ℕ). s +ℤ d *ℤ pos n) (let e : 8 * (v - left) + 8 ≡ 8 * (v - (left - 1)) = omega (arith, W.upto) in e);
    }
      where
        more : v - left + 1 ≡ v - (left - 1)
        more = omega (arith, W.upto)

    -- all are in
    pub walk-fed : left ≡ 0 → t ≡ feed (wait_step signs) 0 w (strided xs s d (8 * v))
    walk-fed e = W.fed ∙ ap (λ (n : ℕ). feed (wait_step signs) 0 w (strided xs s d (8 * n))) (let z : v - left ≡ v = omega arith in z)

    pub walk-last : left ≡ 0 → at ≡ last_vector s d (8 * v)
    walk-last e = W.last ∙ ap (λ (n : ℕ). last_vector s d (8 * n)) (let z : v - left ≡ v = omega arith in z)

-- ---- behind m values, which are whole vectors
module _ (s d at eight : ℤ) (m : ℕ) (whole : m % 8 ≡ 0) (last : at ≡ last_vector s d m) where
  -- the place is that of a value, if one is left
  pub behind-fits : (len n : ℕ) → PlacesInside len s d n → len < 2 ^ 63 → m < n → 0 < m → eight ≡ d *ℤ pos 8 → PlacesFit at eight 2
  behind-fits len n h f l some e =
      subst (λ (z : ℤ). PlacesFit at z 2) (sym e)
      (fit-eighths at d 9 2 (omega arith) (fits-from len s d n h f at (8 * ((m - 1) / 8)) 9 last (omega (arith, whole))))

  pub behind-is : (r : ℤ) → (m ≡ 0 → r ≡ at) → (0 < m → r ≡ at +ℤ eight) → (0 < m → eight ≡ d *ℤ pos 8) → r ≡ s +ℤ d *ℤ pos m
  behind-is r none some e = go (ltb 0 m) refl
    where
      go : (b : Bool) → ltb 0 m ≡ b → r ≡ s +ℤ d *ℤ pos m
      go true t =
          let l = ltb-true 0 m t in
          some l
          ∙ ap (λ (z : ℤ). z +ℤ eight) last
          ∙ ap (λ (z : ℤ). last_vector s d m +ℤ z) (e l)
          ∙ place-sum s d (8 * ((m - 1) / 8)) 8
          ∙ ap (λ (n : ℕ). s +ℤ d *ℤ pos n) (let z : 8 * ((m - 1) / 8) + 8 ≡ m = omega (arith, whole) in z)
      go false t =
          let l = ltb-false 0 m t in
          none (omega arith) ∙ last ∙ ap (λ (n : ℕ). s +ℤ d *ℤ pos n) (let z : 8 * ((m - 1) / 8) ≡ m = omega arith in z)

-- ---- the values that fill no vector, behind those that do
module _ (signs : Bool) (w : Waiting) (xs : List Float) (s d : ℤ) (n : ℕ) (t u : Waiting) where
  pub rest-fed : (n % 8 ≡ 0 → ⊥) → t ≡ feed (wait_step signs) 0 w (strided xs s d (8 * (n / 8)))
      → u ≡ feed (wait_step signs) 0 t (vector_of (strided xs (s +ℤ d *ℤ pos (8 * (n / 8))) d (n % 8))) → u ≡ feed (wait_step signs) 0 w (padded (strided xs s d n))
  rest-fed h p q =
      vectors-then (wait_step signs) (wait-again signs) w t u (strided xs s d (8 * (n / 8)))
      (vector_of (strided xs (s +ℤ d *ℤ pos (8 * (n / 8))) d (n % 8)))
      (n / 8)
      (length-strided xs s d (8 * (n / 8)))
      p
      q
      ∙ ap (feed (wait_step signs) 0 w) (rest-padded xs s d n h)
