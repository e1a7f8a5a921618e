-- What is proved about the windows of a slice, as types that a proof inhabits (proofs/Theorems).
use Rattle.std.specs.Prelude.{ℕ, ◌+◌, ◌^◌, ◌≤◌, ◌<◌, ◌≡◌, true, List, [], ◌∷◌, length, get_or, T, eqb, ℤ, pos, Float}
use Rattle.std.specs.Float.{nan, binary64}
use Rattle.std.specs.Float.Ieee.{fits}
use Rattle.floats.specs.Splitting.{is_bad}
use Rattle.accumulator.specs.Joining.{accumulator}
use Rattle.laws.specs.Lists.{Each}
use Rattle.reduction.specs.Ranges.{reduce_of}
use Rattle.windows.specs.Windows.{window_count, windows_answer, window_ms, window_es, window_bads}

-- what rule N1 says of place i after a call: the reduction of one axis of w elements at stride 1, from base i on, answers with just what is written there, and
-- the byte is 0 or 1
pub record RuleN1 (values : List Float) (w i : ℕ) (m : Float) (e : ℤ) (bad : ℕ) : Type 0 where
  pub own : reduce_of (w ∷ []) (pos 1 ∷ []) (pos i) 0 w values ≡ accumulator m e (eqb bad 1)
  pub byte : bad ≤ 1

-- over no more than 2^63 values: a slice has no more
abbrev pub RuleN1Law : Type 0
RuleN1Law =
    (values : List Float) (w : ℕ) (ms : List Float) (es : List ℤ) (bads : List ℕ) → length values ≤ 2 ^ 63
    → windows_answer values w ms es bads ≡ 0 → (i : ℕ) → i < window_count (length values) w
    → RuleN1 values w i (get_or (window_ms values w ms es bads) i nan) (get_or (window_es values w ms es bads) i (pos 0)) (get_or (window_bads values w ms es bads) i 0)

-- a bad rate at one of the positions i to i + w - 1
pub record BadWithin (values : List Float) (w i : ℕ) : Type 0 where
  pub position : ℕ
  pub from : i ≤ position
  pub to : position < i + w
  pub bad : is_bad (get_or values position nan) ≡ true

-- rule N2: a bad rate marks just the windows that hold it. Over values of binary64, as every f64 is.
abbrev pub RuleN2Law : Type 0
RuleN2Law =
    (values : List Float) (w : ℕ) (ms : List Float) (es : List ℤ) (bads : List ℕ) → Each (λ (x : Float). T (fits binary64 x)) values
    → windows_answer values w ms es bads ≡ 0 → (i : ℕ) → i < window_count (length values) w
    → (get_or (window_bads values w ms es bads) i 0 ≡ 1 → BadWithin values w i) × (BadWithin values w i → get_or (window_bads values w ms es bads) i 0 ≡ 1)
