-- Words and their bytes, both ways.
-- Assumes nothing.
use Prim.Native.Nat.{ℕ, ◌+◌, ◌*◌, ◌/◌, ◌%◌, ◌^◌, ◌<◌}
use mathlib.Core.Path.{◌≡◌, refl, ◌∙◌, ap}
use mathlib.Core.List.{List, [], ◌∷◌, ◌++◌}
use native.Mathlib.Omega.{arith}
use lib.ListN.{length, drop}
use borrow.Author.Tests.{le-ltb}
use Rattle.laws.specs.Lists.{Each, none, more}
use Rattle.jobs.specs.Words.{word_of, bytes_of}
use Rattle.jobs.specs.Reading.{first_word, first_kind, first_payload}

abbrev pub Byte : ℕ → Type 0
Byte b = b < 2 ^ 8

abbrev pub Payload : ℕ → Type 0
Payload p = p < 2 ^ 29

-- the word of four bytes
pub word-of-four : (a b c d : ℕ) (rest : List ℕ) → first_word (a ∷ b ∷ c ∷ d ∷ rest) ≡ a + 2 ^ 8 * b + 2 ^ 16 * c + 2 ^ 24 * d
unfolding first_word
word-of-four a b c d rest = rw (le-ltb (length (a ∷ b ∷ c ∷ d ∷ rest)) 4 (omega arith))

-- ---- a word in front of other bytes
pub first-word : (w : ℕ) (rest : List ℕ) → w < 2 ^ 32 → first_word (bytes_of w ++ rest) ≡ w
unfolding bytes_of
first-word w rest h = word-of-four _ _ _ _ rest ∙ omega arith

pub behind-word : (w : ℕ) (rest : List ℕ) → drop 4 (bytes_of w ++ rest) ≡ rest
unfolding bytes_of
behind-word w rest = refl

module _ (kind p : ℕ) (rest : List ℕ) (k : kind < 8) (h : Payload p) where
  pub kind-word : first_kind (bytes_of (word_of kind p) ++ rest) ≡ kind
  unfolding word_of
  kind-word = rw (first-word (word_of kind p) rest (omega arith)) (omega arith)

  pub payload-word : first_payload (bytes_of (word_of kind p) ++ rest) ≡ p
  unfolding word_of
  payload-word = rw (first-word (word_of kind p) rest (omega arith)) (omega arith)

-- ---- bytes that begin with a word
pub each-behind : {bytes : List ℕ} → Each Byte bytes → Each Byte (drop 4 bytes)
each-behind none = none
each-behind (more a none) = none
each-behind (more a (more b none)) = none
each-behind (more a (more b (more c none))) = none
each-behind (more a (more b (more c (more d e)))) = e

low_byte : (n b m : ℕ) → Byte b → n ≡ b + 2 ^ 8 * m → b ≡ n % 2 ^ 8
low_byte n b m h e = omega arith

-- four bytes are those of the word that they make
bytes-of-four : (a b c d w : ℕ) → Byte a → Byte b → Byte c → w ≡ a + 2 ^ 8 * b + 2 ^ 16 * c + 2 ^ 24 * d → a ∷ b ∷ c ∷ d ∷ [] ≡ bytes_of w
unfolding bytes_of
bytes-of-four a b c d w ha hb hc e =
    let p = low_byte w a (b + 2 ^ 8 * c + 2 ^ 16 * d) ha (omega arith) in
    let q = low_byte (w / 2 ^ 8) b (c + 2 ^ 8 * d) hb (omega arith) in
    let r = low_byte (w / 2 ^ 16) c d hc (omega arith) in
    let s : d ≡ w / 2 ^ 24 = omega arith in
    cc

pub word-in-front : {bytes : List ℕ} → Each Byte bytes → first_word bytes < 2 ^ 32 → bytes ≡ bytes_of (first_word bytes) ++ drop 4 bytes
unfolding first_word
word-in-front none k = absurd (omega arith)
word-in-front (more a none) k = absurd (omega arith)
word-in-front (more a (more b none)) k = absurd (omega arith)
word-in-front (more a (more b (more c none))) k = absurd (omega arith)
word-in-front (more {x = a} ha (more {x = b} hb (more {x = c} hc (more {x = d} {xs = rest} hd e)))) k =
    ap (λ (l : List ℕ). l ++ rest) (bytes-of-four a b c d (first_word (a ∷ b ∷ c ∷ d ∷ rest)) ha hb hc (word-of-four a b c d rest))

-- by kind and payload
pub word-of-kind : {bytes : List ℕ} → Each Byte bytes → (kind : ℕ) → kind < 8 → first_kind bytes ≡ kind
    → bytes ≡ bytes_of (word_of kind (first_payload bytes)) ++ drop 4 bytes
unfolding word_of
word-of-kind {bytes} e kind k h = word-in-front e (omega arith) ∙ ap (λ (w : ℕ). bytes_of w ++ drop 4 bytes) w
  where
    w : first_word bytes ≡ word_of kind (first_payload bytes)
    w = omega arith
