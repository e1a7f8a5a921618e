-- The first word of bytes from a place on, as the code puts it together.
-- Assumes nothing.
use Prim.Native.Nat.{ℕ, ◌+◌, ◌-◌, ◌*◌, ◌^◌, ◌≤◌, ◌<◌}
use mathlib.Core.Path.{◌≡◌}
use mathlib.Core.List.{List}
use native.Mathlib.Omega.{arith}
use lib.ListN.{length, drop, get_or, length-drop}
use lib.Seq.{get_or-drop}
use native.Mathlib.Nat.{add-zero}
use borrow.Author.Tests.{lt-ltb, le-ltb}
use Rattle.jobs.specs.Reading.{first_word}

module _ (bytes : List ℕ) (at : ℕ) where
  pub no_word : length bytes - at < 4 → 2 ^ 32 ≡ first_word (drop at bytes)
  unfolding first_word
  no_word h = simp (length-drop, lt-ltb (length bytes - at) 4 h)

  -- four bytes are left
  pub word-is : at + 4 ≤ length bytes
      → get_or bytes at 0 + get_or bytes (at + 1) 0 * 2 ^ 8 + get_or bytes (at + 2) 0 * 2 ^ 16 + get_or bytes (at + 3) 0 * 2 ^ 24 ≡ first_word (drop at bytes)
  unfolding first_word
  word-is h =
      let l : 4 ≤ length bytes - at = omega arith in
      simp (length-drop, le-ltb (length bytes - at) 4 l, get_or-drop, add-zero) (omega arith)
