-- Two lists as a list of ranges, place by place.
-- Assumes nothing.
use Prim.Native.Nat.{ℕ, zero, suc, ◌<◌}
use mathlib.Core.Path.{◌≡◌, refl, ◌∙◌, ap}
use mathlib.Core.List.{List, [], ◌∷◌}
use native.Mathlib.Omega.{arith}
use lib.ListN.{length, get_or, drop}
use lib.Seq.{drop-cons}
use Rattle.ranges.specs.Many.{ranges_of}

-- what stands in for a value that is not there does not matter where there is one
pub at-any : {X : Type 0} (xs : List X) (i : ℕ) → i < length xs → (c d : X) → get_or xs i c ≡ get_or xs i d
at-any [] i h c d = absurd (omega arith)
at-any (x ∷ xs) zero h c d = refl
at-any (x ∷ xs) (suc i) h c d = at-any xs i (omega arith) c d

pub length-ranges : (ss ns : List ℕ) → length ss ≡ length ns → length (ranges_of ss ns) ≡ length ss
unfolding ranges_of
length-ranges [] ns e = refl
length-ranges (s ∷ ss) [] e = absurd (omega arith)
length-ranges (s ∷ ss) (n ∷ ns) e = ap suc (length-ranges ss ns (omega arith))

pub range_at : (ss ns : List ℕ) → length ss ≡ length ns → (i : ℕ) → i < length ss → (d : ℕ × ℕ) → get_or (ranges_of ss ns) i d ≡ (get_or ss i 0, get_or ns i 0)
unfolding ranges_of
range_at [] ns e i h d = absurd (omega arith)
range_at (s ∷ ss) [] e i h d = absurd (omega arith)
range_at (s ∷ ss) (n ∷ ns) e zero h d = refl
range_at (s ∷ ss) (n ∷ ns) e (suc i) h d = range_at ss ns (omega arith) i (omega arith) d

-- the ranges from number i on
pub ranges-from : (ss ns : List ℕ) → length ss ≡ length ns → (i : ℕ) → i < length ss
    → ranges_of (drop i ss) (drop i ns) ≡ (get_or ss i 0, get_or ns i 0) ∷ ranges_of (drop (suc i) ss) (drop (suc i) ns)
unfolding ranges_of
ranges-from ss ns e i h =
    ap (λ (l : List ℕ). ranges_of l (drop i ns)) (drop-cons ss i 0 h)
    ∙ ap (ranges_of (get_or ss i 0 ∷ drop (suc i) ss)) (drop-cons ns i 0 (omega arith))
