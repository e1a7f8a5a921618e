-- Inner: where the vectors of a piece begin.
use Rattle.std.specs.Prelude.{ℕ, ◌-◌, ◌*◌, ◌/◌, ◌<◌, ◌≡◌, ℤ, pos, ◌+ℤ◌, ◌*ℤ◌}

-- the stride of eight values, if a piece of n values has more than eight
abbrev pub EightApart : ℤ → ℕ → ℤ → Type 0
EightApart stride n eight = 8 < n → eight ≡ stride *ℤ pos 8

-- where the last vector of n values begins; their start, if there are none
abbrev pub last_vector : ℤ → ℤ → ℕ → ℤ
last_vector start stride n = start +ℤ stride *ℤ pos (8 * ((n - 1) / 8))
