-- The constants of a binary format, from which f64's are an instance: the widths w of its exponent field and t of its fraction (IEEE 754-2019, 3.6), and
-- for rule A4 how many values of a block go to each lane, and the bound of their magnitudes, 2^-bound to 2^bound.
use Rattle.std.specs.Prelude.{ℕ}

pub record FormatConstants : Type 0 where
  pub w : ℕ
  pub t : ℕ
  pub each : ℕ
  pub bound : ℕ

abbrev pub f64_format : FormatConstants
f64_format = record { w = 11; t = 52; each = 8; bound = 120 }
