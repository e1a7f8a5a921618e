-- What is proved about compiling, each statement as a type that a proof inhabits (proofs/Theorems).
use Rattle.std.specs.Prelude.{ℕ, ◌+◌, ◌≤◌, ◌≡◌, Bool, List, [], ◌∷◌, ◌++◌, length, replicate, ℤ, pos}
use Rattle.layout.specs.declared.axis.ReduceOuterAxis.{ReduceOuterAxis}
use Rattle.layout.specs.declared.traversal.FullTraversal.{FullTraversal}
use Rattle.layout.specs.Axes.{PLACES, axis_of, no_axis}
use Rattle.layout.specs.Order.{kept_axes, axes_of}
use Rattle.layout.specs.Sorting.{Sorted, count, of_stride}
use Rattle.layout.specs.Reordered.{NoZeroSize, Reordered, SameAxes}
use Rattle.layout.specs.Compile.{compile_of}

-- Rule L2: the axes are those that were kept, sorted, and those of one stride stand in input order.
abbrev pub SortedAxes : Type 0
SortedAxes =
    (ns : List ℕ) (ss : List ℤ) → ((p : ReduceOuterAxis → Bool) → count p (axes_of ns ss) ≡ count p (kept_axes ns ss)) × Sorted (axes_of ns ss)
    × ((s : ℤ) → of_stride s (axes_of ns ss) ≡ of_stride s (kept_axes ns ss))

-- Rules L1 to L5: inputs that have the same axes in another order, those of one stride in one order among themselves, compile to one record, refused or not.
abbrev pub OneRecord : Type 0
OneRecord = (ns ns' : List ℕ) (ss ss' : List ℤ) → SameAxes ns ss ns' ss' → compile_of PLACES ns ss ≡ compile_of PLACES ns' ss'

-- Where no two axes longer than 1 have one stride, any order of the same axes is such a one.
abbrev pub StridesApart : Type 0
StridesApart =
    (ns ns' : List ℕ) (ss ss' : List ℤ) → Reordered ns ss ns' ss' → ((s : ℤ) → length (of_stride s (kept_axes ns ss)) ≤ 1) → SameAxes ns ss ns' ss'

-- And wherever two neighbours of different strides change places, as a forward and a backward one of equal |stride|.
abbrev pub NeighboursSwapped : Type 0
NeighboursSwapped =
    (ms : List ℕ) (ts : List ℤ) (m n : ℕ) (s t : ℤ) (ns : List ℕ) (ss : List ℤ) → length ms ≡ length ts → length ns ≡ length ss
    → (s ≡ t → ⊥) → NoZeroSize (ms ++ m ∷ n ∷ ns) (ts ++ s ∷ t ∷ ss)
    → SameAxes (ms ++ m ∷ n ∷ ns) (ts ++ s ∷ t ∷ ss) (ms ++ n ∷ m ∷ ns) (ts ++ t ∷ s ∷ ss)

-- Rule L5, a record whole: a run of 2 by 1, one outer axis, and zeros in the fifteen places that are left.
abbrev pub outer_by3 : FullTraversal
outer_by3 = record { total = 4; run_len = 2; run_stride = pos 1; axis_count = 1; run_axes = axis_of 2 (pos 3) ∷ replicate 15 no_axis }

abbrev pub WholeRecord : Type 0
WholeRecord = compile_of PLACES (2 ∷ 2 ∷ []) (pos 1 ∷ pos 3 ∷ []) ≡ record { code = 0; traversal = outer_by3 }

-- a layout with n more places, zeros in them, and every other field as it is
abbrev pub with_places : ℕ → FullTraversal → FullTraversal
with_places n l =
    record {
      total = l.total;
      run_len = l.run_len;
      run_stride = l.run_stride;
      axis_count = l.axis_count;
      run_axes = l.run_axes ++ replicate n no_axis;
    }

-- Rules L5 and R2: with n places more than p, a layout of at most p axes has the code that it has with p, and the record that it has with p, with
-- zeros in the n places.
abbrev pub MorePlaces : Type 0
MorePlaces =
    (p n : ℕ) (ns : List ℕ) (ss : List ℤ) → length ns ≤ p
    → compile_of (p + n) ns ss ≡ record { code = (compile_of p ns ss).code; traversal = with_places n (compile_of p ns ss).traversal }

-- The engine had eight places once: a layout of at most eight axes compiles as it does with eight.
abbrev pub EightPlaces : Type 0
EightPlaces =
    (ns : List ℕ) (ss : List ℤ) → length ns ≤ 8
    → compile_of PLACES ns ss ≡ record { code = (compile_of 8 ns ss).code; traversal = with_places 8 (compile_of 8 ns ss).traversal }
