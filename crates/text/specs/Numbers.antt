-- What a word of a case line says as a number. Bytes are ASCII codes: 48 to 57 are 0 to 9, 97 to 102 are a to f,
-- 45 is the minus.
use Rattle.std.specs.Prelude.{ℕ, ◌+◌, ◌*◌, ◌-◌, ◌^◌, Bool, true, false, not, List, [], ◌∷◌, length, ltb, leb, eqb, ℤ, pos, neg_ℤ, Option, Some, None}

abbrev pub pick : {A : Type 0} → Bool → A → A → A
pick true a b = a
pick false a b = b

-- The number, where 64 bits hold it.
abbrev pub fitting : ℕ → Option ℕ
fitting n = pick (ltb n (2 ^ 64)) (Some n) None

-- The value of a digit's byte.
abbrev pub digit_of : ℕ → Option ℕ
digit_of b =
    pick (ltb b 48) None
    (pick (leb b 57) (Some (b - 48)) (pick (ltb b 97) None (pick (leb b 102) (Some (b - 87)) None)))

-- A number with a digit behind it, if the digit is one of the base.
abbrev pub digit_behind : ℕ → ℕ → Option ℕ → Option ℕ
digit_behind base n (Some d) = pick (ltb d base) (fitting (n * base + d)) None
digit_behind base n None = None

abbrev pub digit_step : ℕ → ℕ → ℕ → Option ℕ
digit_step base n b = digit_behind base n (digit_of b)

-- The bytes one after the other behind a number, by such a step; None as soon as one step says so.
abbrev pub read_on : (ℕ → ℕ → Option ℕ) → Option ℕ → List ℕ → Option ℕ
read_on step n [] = n
read_on step None (b ∷ bs) = None
read_on step (Some n) (b ∷ bs) = read_on step (step n b) bs

-- Not empty, and no zero in front of another byte.
abbrev pub plain : List ℕ → Bool
plain [] = false
plain (b ∷ []) = true
plain (b ∷ (d ∷ ds)) = not (eqb b 48)

abbrev pub number_of : List ℕ → Option ℕ
number_of w = pick (plain w) (read_on (digit_step 10) (Some 0) w) None

abbrev pub positive : Option ℕ → Option ℤ
positive (Some n) = pick (ltb n (2 ^ 63)) (Some (pos n)) None
positive None = None

abbrev pub negative_of : ℕ → Option ℤ
negative_of n = pick (eqb n 0) None (pick (leb n (2 ^ 63)) (Some (neg_ℤ (pos n))) None)

abbrev pub negative : Option ℕ → Option ℤ
negative (Some n) = negative_of n
negative None = None

abbrev pub signed_of : List ℕ → Option ℤ
signed_of [] = None
signed_of (b ∷ bs) = pick (eqb b 45) (negative (number_of bs)) (positive (number_of (b ∷ bs)))

-- Exactly 16 hex digits.
abbrev pub hex_of : List ℕ → Option ℕ
hex_of w = pick (eqb (length w) 16) (read_on (digit_step 16) (Some 0) w) None

-- A number that is below m.
abbrev pub below : ℕ → Option ℕ → Option ℕ
below m (Some n) = pick (ltb n m) (Some n) None
below m None = None

-- A mark is 0 or 1.
abbrev pub mark_of : Option ℕ → Option Bool
mark_of (Some n) = pick (eqb n 0) (Some false) (pick (eqb n 1) (Some true) None)
mark_of None = None
