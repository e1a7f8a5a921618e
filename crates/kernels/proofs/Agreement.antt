-- The agreement of the three ways, one claim about a whole list of pieces. Whichever pieces are worked in blocks of 64 and whichever in stepped lanes, with
-- no bad rate the results joined left to right are the plain product's m and e. The mark is set exactly if some rate of some piece is bad. Assumes nothing.
use Prim.Native.Nat.{ℕ, ◌^◌}
use native.Mathlib.Nat.{le_trans}
use native.Mathlib.Omega.{arith}
use lib.IntN.{nat_abs}
use borrow.Author.Tests.{le-leb}
use mathlib.Core.Path.{◌≡◌, refl, sym, ap, ◌∙◌, subst}
use mathlib.Core.Bool.{Bool, true, false, ◌&&◌, ◌||◌, or-false, or_assoc}
use mathlib.Core.List.{List, [], ◌∷◌, map, map-map, foldl}
use lib.Dec.{T}
use lib.Ieee.{Float, binary64, fits}
use Rattle.floats.specs.Factor.{Factor, Normalised, times}
use Rattle.floats.specs.Fields.{factor_of}
use Rattle.floats.specs.Splitting.{bits_of, is_bad, rate_factor}
use Rattle.floats.proofs.Factor.{times-normal}
use Rattle.floats.proofs.PatternFactor.{factor-normal}
use Rattle.accumulator.specs.declared.StableProductFloatAcc.{StableProductFloatAcc}
use Rattle.accumulator.specs.Joining.{combined, within_limit, in_limits}
use Rattle.laws.specs.Lists.{Each, none, more}
use Rattle.kernels.specs.Lanes.{some}
use Rattle.kernels.specs.Plain.{plain_piece, list_product, plain_product}
use Rattle.kernels.specs.InnerPlain.{piece_product}
use Rattle.kernels.proofs.Plain.{plain-piece}
use Rattle.kernels.specs.Pieces.{GoodRate, Piece, worked, worked_piece, joined_pieces, GoodPiece, Admitted, patterns_of, acc_of}
use Rattle.kernels.proofs.Feeding.{each_map}
use Rattle.kernels.proofs.Factors.{piece-normal}
use Rattle.kernels.proofs.Joining.{combined-mark, combined-times, identity-is}
use Rattle.kernels.proofs.Stepping.{stepped-agrees, stepped-mark}
use Rattle.kernels.proofs.Blocking.{contiguous-agrees, contiguous-mark}
use Rattle.kernels.proofs.Bounded.{ValuePiece, FullPiece, joined-within}

-- the factors of a piece's rates, by their bit patterns
abbrev factors : List Float → List Factor
factors xs = map (factor_of 11 52) (map bits_of xs)

factors-is : (xs : List Float) → map rate_factor xs ≡ factors xs
unfolding rate_factor
factors-is xs = sym (map-map (factor_of 11 52) bits_of xs)

abbrev piece : List Float → Factor
piece xs = plain_piece 52 (factors xs)

normal : (xs : List Float) → Normalised 52 (piece xs)
normal xs = subst (Normalised 52) (sym (plain-piece 52 (factors xs))) (piece-normal 52 (all (map bits_of xs)))
  where
    all : (bs : List ℕ) → Each (Normalised 52) (map (factor_of 11 52) bs)
    all [] = none
    all (b ∷ bs) = more (factor-normal 11 52 b) (all bs)

-- one piece, in either way
pub worked-agrees : (in_blocks : Bool) {xs : List Float} → Each GoodRate xs → worked in_blocks xs ≡ acc_of (plain_piece 52 (factors xs))
worked-agrees in_blocks {xs} R =
    each in_blocks ∙ ap acc_of (ap (piece_product 52) (factors-is xs) ∙ sym (plain-piece 52 (factors xs)))
  where
    each : (b : Bool) → worked b xs ≡ acc_of (piece_product 52 (map rate_factor xs))
    each true = contiguous-agrees R
    each false = stepped-agrees R

joined-on : (f : Factor) → Normalised 52 f → {ps : List Piece} → Each GoodPiece ps
    → foldl combined (acc_of f) (map worked_piece ps) ≡ acc_of (foldl (times 52) f (map (plain_piece 52) (map (map (factor_of 11 52)) (patterns_of ps))))
joined-on f F none = refl
joined-on f F (more {x = p} {xs = ps} R Rs) =
    let g = piece p.rates in
    ap (λ (a : StableProductFloatAcc). foldl combined a (map worked_piece ps))
    (ap (combined (acc_of f)) (worked-agrees p.in_blocks R.good) ∙ combined-times f g F (normal p.rates))
    ∙ joined-on (times 52 f g) (times-normal 52 f g F (normal p.rates)) Rs

joined-agree : {ps : List Piece} → Each GoodPiece ps → joined_pieces ps ≡ acc_of (plain_product 11 52 (patterns_of ps))
unfolding joined_pieces plain_product list_product
joined-agree none = identity-is
joined-agree (more {x = p} {xs = ps} R Rs) =
    ap (λ (a : StableProductFloatAcc). foldl combined a (map worked_piece ps)) (worked-agrees p.in_blocks R.good)
    ∙ joined-on (piece p.rates) (normal p.rates) Rs

-- The agreement: the results joined left to right are the plain product's m and e, with no bad mark.
pub agreement : (ps : List Piece) → Admitted ps → joined_pieces ps ≡ acc_of (plain_product 11 52 (patterns_of ps))
agreement ps a = joined-agree a.pieces

-- and they are an accumulator that can be joined and finished: 1 <= |m| < 2, |e| <= 2^52
pub agreement-in-limits : (ps : List Piece) → Admitted ps → in_limits (joined_pieces ps) ≡ true
unfolding in_limits
agreement-in-limits ps a =
    let r = joined-within
    (each_map GoodPiece FullPiece
    (λ p g. record { some_rate = g.some_rate; values = each_map GoodRate (λ (x : Float). T (fits binary64 x)) (λ x v. v.value) g.good })
    a.pieces) in
    ap (λ (t : Bool). t && within_limit (joined_pieces ps).e) r.0.in_unit
    ∙ le-leb (nat_abs (joined_pieces ps).e) (2 ^ 52) (le_trans r.1 (let z = a.few in omega arith))

-- ---- the mark

abbrev pub bad_piece : Piece → Bool
bad_piece p = some is_bad p.rates

pub worked-mark : (p : Piece) → ValuePiece p → (worked_piece p).bad ≡ bad_piece p
worked-mark p v = go p.in_blocks
  where
    go : (b : Bool) → (worked b p.rates).bad ≡ bad_piece p
    go true = contiguous-mark p.rates v
    go false = stepped-mark p.rates

marked-on : (a : StableProductFloatAcc) {ps : List Piece} → Each ValuePiece ps → (foldl combined a (map worked_piece ps)).bad ≡ (a.bad || some bad_piece ps)
unfolding some
marked-on a none = sym (or-false a.bad)
marked-on a (more {x = p} {xs = ps} v vs) =
    marked-on (combined a (worked_piece p)) vs
    ∙ ap (λ (b : Bool). b || some bad_piece ps) (combined-mark a (worked_piece p) ∙ ap (λ (b : Bool). a.bad || b) (worked-mark p v))
    ∙ or_assoc a.bad (bad_piece p) (some bad_piece ps)

pub joined-mark : {ps : List Piece} → Each ValuePiece ps → (joined_pieces ps).bad ≡ some bad_piece ps
unfolding joined_pieces some
joined-mark none = refl
joined-mark (more {x = p} {xs = ps} v vs) = marked-on (worked_piece p) vs ∙ ap (λ (b : Bool). b || some bad_piece ps) (worked-mark p v)
