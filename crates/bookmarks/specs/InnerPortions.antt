-- Inner: how far at most n pieces go, by division.
use Rattle.std.specs.Prelude.{ℕ, ◌+◌, ◌-◌, ◌*◌, ◌/◌, cond, leb}

-- how many pieces are left from element k to the end
abbrev pub pieces_left : ℕ → ℕ → ℕ → ℕ
pieces_left len end k = (end - 1) / len - k / len + 1

-- the element number behind at most n of them
unfoldable pub stop_at : ℕ → ℕ → ℕ → ℕ → ℕ
stop_at len end n k = cond (leb (pieces_left len end k) n) end ((k / len + n) * len)
