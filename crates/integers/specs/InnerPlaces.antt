-- Inner: the places of a piece's values, as numbers of the machine.
use Rattle.std.specs.Prelude.{ℕ, ◌<◌, ℤ, pos, ◌+ℤ◌, ◌*ℤ◌}
use Rattle.std.proofs.Common.{SFits}
use Rattle.std.specs.Int.{w64}

-- each of the n places at, at + step, at + 2 × step and so on fits an i64; nothing is said of the one behind them
abbrev pub PlacesFit : ℤ → ℤ → ℕ → Type 0
PlacesFit at step n = (i : ℕ) → i < n → SFits w64 (at +ℤ step *ℤ pos i)
