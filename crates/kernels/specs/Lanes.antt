-- Eight lanes: how the values of a piece are fed to them, and how they are worked one after another. For rules A4 and A5.
use Rattle.std.specs.Prelude.{ℕ, zero, suc, ◌%◌, List, [], ◌∷◌, Bool, true, false, ◌&&◌, ◌||◌}

-- The values from number i on, each with its number, one after another.
unfoldable pub feed : {S X : Type 0} → (ℕ → S → X → S) → ℕ → S → List X → S
feed step i s [] = s
feed step i s (x ∷ xs) = feed step (suc i) (step i s x) xs

-- value i goes to lane i mod 8
abbrev pub lane_of : ℕ → ℕ
lane_of i = i % 8

-- Lanes 0 to n - 1 in lane order.
unfoldable pub in_order : {S : Type 0} → (ℕ → S → S) → ℕ → S → S
in_order f zero s = s
in_order f (suc n) s = f n (in_order f n s)

-- every one, and some one, of a list
unfoldable pub every : {X : Type 0} → (X → Bool) → List X → Bool
every p [] = true
every p (x ∷ xs) = p x && every p xs

unfoldable pub some : {X : Type 0} → (X → Bool) → List X → Bool
some p [] = false
some p (x ∷ xs) = p x || some p xs
