-- What is proved about lists of pieces (rule D3), as a type that a proof inhabits (proofs/Theorems).
use Rattle.std.specs.Prelude.{◌≡◌, List}
use Rattle.kernels.specs.Plain.{plain_product}
use Rattle.kernels.specs.Pieces.{Piece, joined_pieces, Admitted, patterns_of, acc_of}

-- The three ways agree: whichever pieces are worked in blocks of 64 and whichever in stepped lanes, the results joined left to right are the plain product's
-- m and e, with no bad mark.
abbrev pub Agreement : Type 0
Agreement = (ps : List Piece) → Admitted ps → joined_pieces ps ≡ acc_of (plain_product 11 52 (patterns_of ps))
