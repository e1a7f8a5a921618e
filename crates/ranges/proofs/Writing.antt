-- The products of many ranges, written into a buffer one after another.
-- Assumes nothing.
use Prim.Native.Nat.{ℕ, ◌+◌, ◌≤◌, ◌<◌}
use mathlib.Core.Path.{◌≡◌, sym, ◌∙◌, ap}
use mathlib.Core.List.{List, map}
use lib.ListN.{length, get_or, set, length-map, get_or-map}
use lib.Seq.{paste}
use lib.IntN.{ℤ}
use lib.Ieee.{Float}
use Rattle.refusals.specs.Refusals.{buffer_after}
use Rattle.refusals.proofs.Buffers.{pasted-more, pasted_length, pasted-all}
use Rattle.layout.specs.declared.traversal.FullTraversal.{FullTraversal}
use Rattle.accumulator.specs.declared.StableProductFloatAcc.{StableProductFloatAcc}
use Rattle.kernels.specs.Pieces.{joined_pieces}
use Rattle.reduction.specs.Ranges.{pieces_of}
use Rattle.ranges.specs.Many.{ranges_of, bad_byte}
use Rattle.ranges.proofs.Lists.{at-any, length-ranges, range_at}

-- the product of one range over a compiled layout, and of each
abbrev pub product_over : FullTraversal → ℤ → List Float → ℕ × ℕ → StableProductFloatAcc
product_over l base values r = joined_pieces (pieces_of l base values r.0 r.1)

abbrev pub products_over : FullTraversal → ℤ → List Float → List (ℕ × ℕ) → List StableProductFloatAcc
products_over l base values rs = map (product_over l base values) rs

-- what is written of a product
abbrev pub acc-m : StableProductFloatAcc → Float
acc-m a = a.m

abbrev pub acc-e : StableProductFloatAcc → ℤ
acc-e a = a.e

abbrev pub acc-byte : StableProductFloatAcc → ℕ
acc-byte a = bad_byte a.bad

-- what is written of them all, by one of these
module _ (l : FullTraversal) (base : ℤ) (values : List Float) (starts ends : List ℕ) {X : Type 0} (f : StableProductFloatAcc → X) where
  abbrev all : List X
  all = map f (products_over l base values (ranges_of starts ends))

  module _ (same : length starts ≡ length ends) where
    pub length-all : length all ≡ length starts
    length-all =
        length-map (products_over l base values (ranges_of starts ends)) f
        ∙ length-map (ranges_of starts ends) (product_over l base values)
        ∙ length-ranges starts ends same

    pub product_at : (i : ℕ) → i < length starts → (d : X) → get_or all i d ≡ f (product_over l base values (get_or starts i 0, get_or ends i 0))
    product_at i h d =
        at-any all i (rw length-all h) d (f (product_over l base values (0, 0)))
        ∙ get_or-map f (products_over l base values (ranges_of starts ends)) i (product_over l base values (0, 0))
        ∙ ap f (get_or-map (product_over l base values) (ranges_of starts ends) i (0, 0) ∙ ap (product_over l base values) (range_at starts ends same i h (0, 0)))

  module _ (out : List X) where
    -- the buffer with i of them written
    abbrev pub wrote : ℕ → List X
    wrote i = paste out 0 all i

    module _ (same : length starts ≡ length ends) (room : length starts ≤ length out) where
      fits : length all ≤ length out
      fits = rw (length-all same) room

      pub wrote-more : (i : ℕ) → i < length starts → (r : List X) → r ≡ wrote i → (x : X)
          → x ≡ f (product_over l base values (get_or starts i 0, get_or ends i 0)) → set r i x ≡ wrote (i + 1)
      wrote-more i h r e x q = pasted-more all out fits i (rw (length-all same) h) r e x (q ∙ sym (product_at same i h x))

      pub length-wrote : (i : ℕ) → i ≤ length starts → (r : List X) → r ≡ wrote i → length r ≡ length out
      length-wrote i h r e = pasted_length all out fits i (rw (length-all same) h) r e

      pub wrote-all : (i : ℕ) → i ≡ length starts → (r : List X) → r ≡ wrote i → r ≡ buffer_after 0 all out
      wrote-all i h r e = pasted-all all out fits i (h ∙ sym (length-all same)) r e
