-- Rules N1, R4, R16, R17 and C14: a moving stretch of days.
use Rattle.std.specs.Prelude.{ℕ, zero, suc, ◌-◌, ◌^◌, ◌||◌, List, [], ◌∷◌, map, length, take, drop, ltb, eqb, ℤ, Float}
use Rattle.refusals.specs.Refusals.{first_of, buffer_after, TOO_MANY_ELEMENTS, ANSWER_BUFFER_TOO_SHORT, NO_WINDOW}
use Rattle.accumulator.specs.declared.StableProductFloatAcc.{StableProductFloatAcc}
use Rattle.kernels.specs.Blocks.{contiguous}
use Rattle.ranges.specs.Many.{bad_byte}

-- rule N1, the first n windows of a slice: w rates in a row, each window a rate further than the one before
unfoldable pub windows_of : ℕ → ℕ → List Float → List (List Float)
windows_of w zero xs = []
windows_of w (suc n) xs = take w xs ∷ windows_of w n (drop 1 xs)

-- how many windows of w rates a slice of so many has, if it has one
abbrev pub window_count : ℕ → ℕ → ℕ
window_count len w = suc (len - w)

-- rules C14, R17, R4 and R16, in this order: the code, by the lengths of the slice and of the three buffers
unfoldable pub windows_code : ℕ → ℕ → ℕ → ℕ → ℕ → ℕ
windows_code len w ms es bads =
    let n = window_count len w in
    first_of ((NO_WINDOW, eqb w 0 || ltb len w) ∷ (TOO_MANY_ELEMENTS, ltb (2 ^ 40) w)
    ∷ (ANSWER_BUFFER_TOO_SHORT, ltb ms n || ltb es n || ltb bads n) ∷ [])

-- what a call is given: the rates, a width and three buffers
module _ (values : List Float) (w : ℕ) (ms : List Float) (es : List ℤ) (bads : List ℕ) where
  unfoldable pub windows_answer : ℕ
  windows_answer = windows_code (length values) w (length ms) (length es) (length bads)

  -- rule N1: each window's own product, in order: that of blocks of 64, its lanes counted from the window's first rate
  abbrev pub window_products : List StableProductFloatAcc
  window_products = map contiguous (windows_of w (window_count (length values) w) values)

  -- rules N1 and R0, the three buffers after the call
  unfoldable pub window_ms : List Float
  window_ms = buffer_after windows_answer (map (λ (a : StableProductFloatAcc). a.m) window_products) ms

  unfoldable pub window_es : List ℤ
  window_es = buffer_after windows_answer (map (λ (a : StableProductFloatAcc). a.e) window_products) es

  unfoldable pub window_bads : List ℕ
  window_bads = buffer_after windows_answer (map (λ (a : StableProductFloatAcc). bad_byte a.bad) window_products) bads
