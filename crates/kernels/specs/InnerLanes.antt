-- Inner: what it is for a float and an exponent, or for eight lanes of them, to represent factors of the whole-number rule (W1), whatever way they came.
use Rattle.std.specs.Prelude.{ℕ, ◌≤◌, ◌<◌, List, map, Bool, false, ◌||◌, length, get_or, set, take, drop, ℤ, pos, nat_abs, ◌+ℤ◌, Float, ◌≡◌}
use Rattle.std.specs.Float.{nan}
use Rattle.floats.specs.declared.Split.{Split}
use Rattle.floats.specs.Product.{product_of}
use Rattle.floats.specs.Splitting.{is_bad, rate_factor}
use Rattle.floats.specs.InnerKinds.{is_subnormal}
use Rattle.kernels.specs.declared.lanes.Lanes.{Lanes}
use Rattle.kernels.specs.Lanes.{feed, some}
use Rattle.floats.specs.Factor.{Factor, Normalised, unit, float_of}
use Rattle.floats.specs.Magnitude.{with_exponent}
use Rattle.kernels.specs.InnerPlain.{lane_times}
use Rattle.kernels.specs.Blocks.{m_of, e_of, in_range}
use Rattle.floats.specs.Formats.{f64_format}

-- the bounds of a block of f64
abbrev pub in_bounds : Float → Bool
in_bounds = in_range f64_format.bound

-- a value that is split as p, put into lane k
abbrev pub split_into : ℕ → Lanes → Split → Lanes
split_into k s p = record { m = set s.m k (product_of 11 52 (m_of s k) p.m); e = set s.e k (e_of s k +ℤ p.e); bad = s.bad || p.bad }

-- no lane's m is subnormal
abbrev pub NoneSubnormal : Lanes → Type 0
NoneSubnormal s = (k : ℕ) → k < 8 → is_subnormal (m_of s k) ≡ false

-- no lane's exponent is past n, either way
pub record SmallLanes (n : ℕ) (s : Lanes) : Type 0 where
  pub at : (k : ℕ) → nat_abs (e_of s k) ≤ n

-- n values of a list, from number `at` on
abbrev pub window : {X : Type 0} → List X → ℕ → ℕ → List X
window xs at n = take n (drop at xs)

-- m is the factor's float at an exponent `off`, at most B either way, and e and `off` make up the factor's exponent
pub record Represents (B : ℕ) (m : Float) (e : ℤ) (f : Factor) : Type 0 where
  pub off : ℤ
  pub near : nat_abs off ≤ B
  pub m_is : m ≡ float_of 11 52 (with_exponent f off)
  pub e_is : f.exp ≡ e +ℤ off
  pub normal : Normalised 52 f

-- eight floats and exponents beside eight factors, those of lane k related within b k
pub record LanesAre (R : ℕ → Float → ℤ → Factor → Type 0) (b : ℕ → ℕ) (ms : List Float) (es : List ℤ) (fs : List Factor) : Type 0 where
  pub m_long : length ms ≡ 8
  pub e_long : length es ≡ 8
  pub f_long : length fs ≡ 8
  pub at : (k : ℕ) → k < 8 → R (b k) (get_or ms k nan) (get_or es k (pos 0)) (get_or fs k (unit 52))

-- eight lanes stand for eight factors, lane k within b k of [1, 2)
abbrev pub LanesRepresent : (ℕ → ℕ) → Lanes → List Factor → Type 0
LanesRepresent b s fs = LanesAre Represents b s.m s.e fs

-- the bound of lanes in [1, 2)
abbrev pub zeros : ℕ → ℕ
zeros k = 0

-- what the rates xs make of the factors of eight plain lanes
abbrev pub plain_after : List Factor → List Float → List Factor
plain_after fs xs = feed (lane_times 52) 0 fs (map rate_factor xs)

-- r is what lanes s in [1, 2) become by the values xs, in whatever way: the factors are the plain lanes', in [1, 2) again, and every bad value sets the mark
pub record LanesAfter (s : Lanes) (xs : List Float) (r : Lanes) : Type 0 where
  pub represent : (fs : List Factor) → LanesRepresent zeros s fs → LanesRepresent zeros r (plain_after fs xs)
  pub mark : (fs : List Factor) → LanesRepresent zeros s fs → r.bad ≡ (s.bad || some is_bad xs)
