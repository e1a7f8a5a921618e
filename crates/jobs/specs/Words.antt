-- Rules J1 and J2: words of 32 bits and their bytes, and the numbers that words carry.
use Rattle.std.specs.Prelude.{ℕ, zero, suc, ◌+◌, ◌*◌, ◌/◌, ◌%◌, ◌^◌, cond, List, [], ◌∷◌, ◌++◌, ltb, eqb, ℤ, pos, negsuc}

-- rule J1: the kinds of words
abbrev pub MORE : ℕ
MORE = 0

abbrev pub SIZE : ℕ
SIZE = 1

abbrev pub STRIDE : ℕ
STRIDE = 2

abbrev pub BASE : ℕ
BASE = 3

abbrev pub START : ℕ
START = 4

abbrev pub END : ℕ
END = 5

abbrev pub FINISH : ℕ
FINISH = 6

-- rule J1: a word holds its kind above a payload of 29 bits
unfoldable pub word_of : ℕ → ℕ → ℕ
word_of kind payload = kind * 2 ^ 29 + payload

-- rule J1: the bytes of a word, the lowest first
unfoldable pub bytes_of : ℕ → List ℕ
bytes_of w = w % 2 ^ 8 ∷ w / 2 ^ 8 % 2 ^ 8 ∷ w / 2 ^ 16 % 2 ^ 8 ∷ w / 2 ^ 24 ∷ []

-- rule J2: the number that payloads carry, each the next higher 29 bits
unfoldable pub carried : List ℕ → ℕ
carried [] = 0
carried (p ∷ ps) = p + 2 ^ 29 * carried ps

-- rule J2: the bytes of a number with these payloads: the first word has its kind, the others are of kind 0
unfoldable pub number_bytes : ℕ → List ℕ → List ℕ
number_bytes kind [] = []
number_bytes kind (p ∷ ps) = bytes_of (word_of kind p) ++ number_bytes MORE ps

-- rule J2: the fewest payloads that carry a number, with at most this many behind the first
unfoldable pub fewest : ℕ → ℕ → List ℕ
fewest zero n = n ∷ []
fewest (suc more) n = cond (ltb n (2 ^ 29)) (n ∷ []) (n % 2 ^ 29 ∷ fewest more (n / 2 ^ 29))

-- a number of 64 bits has at most two words behind the first
abbrev pub payloads_of : ℕ → List ℕ
payloads_of n = fewest 2 n

-- rule J2: a signed number n is sent as 2n, and as -2n - 1 if it is negative (`negsuc k` is -(k + 1))
unfoldable pub sent_of : ℤ → ℕ
sent_of (pos n) = n + n
sent_of (negsuc k) = k + k + 1

-- and back
unfoldable pub signed_of : ℕ → ℤ
signed_of n = cond (eqb (n % 2) 0) (pos (n / 2)) (negsuc (n / 2))
