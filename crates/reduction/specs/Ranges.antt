-- Rules A6 and C3: the pieces of a range, and the full reduction.
use Rattle.std.specs.Prelude.{ℕ, zero, suc, ◌+◌, ◌-◌, cond, List, [], ◌∷◌, length, ltb, eqb, ℤ, pos, Float}
use Rattle.integers.specs.Integers.{eq_z}
use Rattle.layout.specs.declared.traversal.FullTraversal.{FullTraversal}
use Rattle.offsets.specs.Pieces.{piece_length}
use Rattle.offsets.specs.Values.{rates_from}
use Rattle.layout.specs.Axes.{PLACES}
use Rattle.layout.specs.Compile.{compile_of}
use Rattle.offsets.specs.Lists.{range_code}
use Rattle.accumulator.specs.declared.StableProductFloatAcc.{StableProductFloatAcc}
use Rattle.accumulator.specs.Joining.{Answer, accumulator, refusal}
use Rattle.kernels.specs.Pieces.{Piece, joined_pieces}

-- the piece at element k: in blocks of 64 exactly if the run's stride is 1
abbrev pub piece_at : FullTraversal → ℤ → List Float → ℕ → ℕ → Piece
piece_at l base values end k = record { in_blocks = eq_z l.run_stride (pos 1); rates = rates_from l base values k (piece_length l.run_len end k) }

-- the pieces from element k on, at most n of them
unfoldable pub pieces_from : FullTraversal → ℤ → List Float → ℕ → ℕ → ℕ → List Piece
pieces_from l base values end zero k = []
pieces_from l base values end (suc n) k =
    cond (ltb k end) (piece_at l base values end k ∷ pieces_from l base values end n (k + piece_length l.run_len end k)) []

-- the pieces of a range: it has no more of them than elements
abbrev pub pieces_of : FullTraversal → ℤ → List Float → ℕ → ℕ → List Piece
pieces_of l base values start end = pieces_from l base values end (end - start) start

-- an accepted range's product: the pieces left to right, the first as it is
abbrev pub range_product : List ℕ → List ℤ → ℤ → ℕ → ℕ → List Float → StableProductFloatAcc
range_product sizes strides base start end values = joined_pieces (pieces_of (compile_of PLACES sizes strides).traversal base values start end)

-- rule C3, the full reduction: the number of the refusal, 1 to 7, or the range's product
unfoldable pub reduce_of : List ℕ → List ℤ → ℤ → ℕ → ℕ → List Float → Answer
reduce_of sizes strides base start end values =
    let code = range_code sizes strides base start end (length values) in
    let r = range_product sizes strides base start end values in
    cond (eqb code 0) (accumulator r.m r.e r.bad) (refusal code)
