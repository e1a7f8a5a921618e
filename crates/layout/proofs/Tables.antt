-- Laws of a table of axes: what its first places hold, and what a store does to it.
-- Assumes nothing.
use Prim.Native.Nat.{ℕ, suc, ◌+◌, ◌-◌, ◌≤◌, ◌<◌}
use mathlib.Core.Path.{◌≡◌, refl, sym, ◌∙◌, ap}
use mathlib.Core.List.{List, [], ◌∷◌, ◌++◌, append_assoc}
use native.Mathlib.Omega.{arith}
use native.Mathlib.Numerals.{add-one}
use lib.ListN.{length, take, drop, get_or, set, replicate, length-append, length-take, length-drop, length-replicate, drop_of_length-le}
use lib.Seq.{take-suc, length-take-le, set_at, drop-cons, get_or-take, take-take, take_at}
use lib.IntN.{ℤ}
use Rattle.std.specs.List.{copy_within}
use Rattle.std.proofs.lemmas.List.{drop-take}
use Rattle.layout.specs.declared.axis.ReduceOuterAxis.{ReduceOuterAxis}
use Rattle.layout.specs.Axes.{PLACES, no_axis, padded, places_of, axes_in}

-- ---- a table with some of its places taken
module _ {A : Type 0} (places : ℕ) (z : A) (xs : List A) where
  pub length-padded : length xs ≤ places → length (padded places z xs) ≡ places
  length-padded h = simp (length-append, length-replicate) (omega arith)

  -- the store behind those that it holds
  pub pushed : (a : A) → length xs < places → set (padded places z xs) (length xs) a ≡ padded places z (xs ++ a ∷ [])
  pushed a k =
      ap (λ (m : ℕ). set (xs ++ replicate m z) (length xs) a) e
      ∙ set_at xs z (replicate (places - suc (length xs)) z) a (length xs) refl
      ∙ sym (append_assoc xs (a ∷ []) (replicate (places - suc (length xs)) z))
      ∙ ap (λ (m : ℕ). xs ++ a ∷ [] ++ replicate (places - m) z) (sym longer)
    where
      e : places - length xs ≡ suc (places - suc (length xs))
      e = omega arith

      longer : length (xs ++ a ∷ []) ≡ suc (length xs)
      longer = simp length-append (omega arith)

pub length-places_of : (xs : List ReduceOuterAxis) → length xs ≤ PLACES → length (places_of PLACES xs) ≡ PLACES
unfolding places_of
length-places_of = length-padded PLACES no_axis

-- ---- the first n places of a list: none is past them, and those before the n-th are inside
module _ {A : Type 0} (l : List A) (n : ℕ) where
  pub take_past : (i : ℕ) → n ≤ i → drop i (take n l) ≡ []
  take_past i h = drop_of_length-le (take n l) (let s : length (take n l) ≤ i = simp length-take (omega arith) in s)

  take-inside : (i : ℕ) → i < n → n ≤ length l → i < length (take n l)
  take-inside i h k = simp length-take (omega arith)

  -- the one at i, and those after it
  pub take-from : (d : A) (i : ℕ) → i < n → n ≤ length l → drop i (take n l) ≡ get_or l i d ∷ drop (i + 1) (take n l)
  take-from d i h k =
      drop-cons (take n l) i d (take-inside i h k)
      ∙ ap (λ (x : A). x ∷ drop (suc i) (take n l)) (get_or-take n l i d h)
      ∙ ap (λ (m : ℕ). get_or l i d ∷ drop m (take n l)) (sym (add-one i))

-- ---- one more among the first n places: those from `at` on move up by one, and x takes the place
module _ {A : Type 0} (l : List A) (n at : ℕ) (x : A) (h : at ≤ n) (k : n < length l) where
  behind : List A
  behind = take (n - at) (drop at l)

  moved-up : copy_within l at n (at + 1) ≡ take at l ++ get_or l at x ∷ (behind ++ drop (n + 1) l)
  unfolding behind
  moved-up =
      ap (λ (p : List A). p ++ behind ++ drop (at + 1 + (n - at)) l) (ap (λ (m : ℕ). take m l) (add-one at) ∙ take-suc l at x (omega arith))
      ∙ ap (λ (m : ℕ). take at l ++ get_or l at x ∷ [] ++ behind ++ drop m l) end
      ∙ simp append_assoc
    where
      end : at + 1 + (n - at) ≡ n + 1
      end = omega arith

  pub take-opened : take (n + 1) (set (copy_within l at n (at + 1)) at x) ≡ take at (take n l) ++ x ∷ drop at (take n l)
  unfolding behind
  take-opened =
      ap (λ (r : List A). take (n + 1) (set r at x)) moved-up
      ∙ ap (take (n + 1)) (set_at (take at l) (get_or l at x) (behind ++ drop (n + 1) l) x at (length-take-le at l (omega arith)))
      ∙ ap (take (n + 1)) (sym (append_assoc (take at l) (x ∷ behind) (drop (n + 1) l)))
      ∙ take_at (take at l ++ x ∷ behind) (drop (n + 1) l) (n + 1) longer
      ∙ ap (λ (p : List A). p ++ x ∷ behind) (sym (take-take at n l h))
      ∙ ap (λ (p : List A). take at (take n l) ++ x ∷ p) (sym (drop-take at (n - at) l) ∙ ap (λ (m : ℕ). drop at (take m l)) whole)
    where
      longer : length (take at l ++ x ∷ behind) ≡ n + 1
      longer = simp (length-append, length-take, length-drop) (omega arith)

      whole : at + (n - at) ≡ n
      whole = omega arith

-- ---- axes of two lists
pub length-axes_in : (ns : List ℕ) (ss : List ℤ) → length ns ≡ length ss → length (axes_in ns ss) ≡ length ns
unfolding axes_in
length-axes_in [] ss e = refl
length-axes_in (n ∷ ns) [] e = absurd (omega arith)
length-axes_in (n ∷ ns) (s ∷ ss) e = ap suc (length-axes_in ns ss (omega arith))
