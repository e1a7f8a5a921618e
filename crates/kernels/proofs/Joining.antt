-- Joining accumulators of factors, and the mark of a joining. Assumes nothing.
use mathlib.Core.Path.{◌≡◌, refl, sym, ap, ◌∙◌}
use mathlib.Core.Bool.{Bool, true, false, ◌||◌}
use lib.IntN.{pos}
use lib.Dec.{T, lit<}
use lib.Ieee.{Float, binary64, fits}
use Rattle.floats.specs.Product.{product_of}
use Rattle.floats.specs.Factor.{Factor, Normalised, unit, times, float_of}
use Rattle.floats.specs.Magnitude.{in_unit, two_or_more, factor_at, with_exponent}
use Rattle.floats.specs.Splitting.{is_bad, rate_factor, split}
use Rattle.floats.proofs.Bridge.{float_of-fits}
use Rattle.floats.proofs.Magnitude.{unit-float, factor-at-float, float_at}
use Rattle.floats.proofs.Splitting.{split-bad}
use Rattle.accumulator.specs.declared.StableProductFloatAcc.{StableProductFloatAcc}
use Rattle.accumulator.specs.Joining.{identity_acc, factor_of_acc, multiplied, combined}
use Rattle.accumulator.proofs.Combining.{acc-same, combined-bad, combined-good, multiplied-two, multiplied-less}
use Rattle.accumulator.proofs.Joins.{multiplied-unit, multiplied-fits, multiplied-times}
use Rattle.kernels.specs.Stepped.{rate_acc}
use Rattle.kernels.specs.Pieces.{GoodRate, acc_of}
use Rattle.kernels.proofs.Standing.{represents-rate, represents-one, represents-acc}

-- ---- the mark
multiplied-mark : (a b : StableProductFloatAcc) → (multiplied a b).bad ≡ false
multiplied-mark a b = go (two_or_more (product_of 11 52 a.m b.m)) refl
  where
    go : (t : Bool) → two_or_more (product_of 11 52 a.m b.m) ≡ t → (multiplied a b).bad ≡ false
    go true h = ap (λ (r : StableProductFloatAcc). r.bad) (multiplied-two a b h)
    go false h = ap (λ (r : StableProductFloatAcc). r.bad) (multiplied-less a b h)

-- joining is bad exactly if one of the two is
pub combined-mark : (a b : StableProductFloatAcc) → (combined a b).bad ≡ (a.bad || b.bad)
combined-mark a b = go (a.bad || b.bad) refl
  where
    go : (t : Bool) → (a.bad || b.bad) ≡ t → (combined a b).bad ≡ (a.bad || b.bad)
    go true h = ap (λ (r : StableProductFloatAcc). r.bad) (combined-bad a b h) ∙ sym h
    go false h = ap (λ (r : StableProductFloatAcc). r.bad) (combined-good a b h) ∙ multiplied-mark a b ∙ sym h

-- ---- accumulators of factors
acc-is : (a : StableProductFloatAcc) (f : Factor) → a.m ≡ float_of 11 52 (with_exponent f (pos 0)) → a.e ≡ f.exp → a.bad ≡ false → a ≡ acc_of f
acc-is a f p q r = acc-same a.m (float_of 11 52 (with_exponent f (pos 0))) a.e f.exp a.bad false p q r

-- two that are not bad join to their product
pub combined-times : (f g : Factor) → Normalised 52 f → Normalised 52 g → combined (acc_of f) (acc_of g) ≡ acc_of (times 52 f g)
unfolding factor_at
combined-times f g F G =
    combined-good (acc_of f) (acc_of g) refl
    ∙ acc-is r (times 52 f g)
    (sym (float_at binary64 11 52 refl refl (lit< tt) r.m (multiplied-fits a b fa fb ua ub) (multiplied-unit a b fa fb ua ub))
    ∙ ap (λ (h : Factor). float_of 11 52 (with_exponent h (pos 0))) product)
    (ap (λ (h : Factor). h.exp) product)
    (multiplied-mark a b)
  where
    a : StableProductFloatAcc
    a = acc_of f

    b : StableProductFloatAcc
    b = acc_of g

    r : StableProductFloatAcc
    r = multiplied a b

    fa : T (fits binary64 a.m)
    fa = float_of-fits binary64 11 52 refl refl (with_exponent f (pos 0))

    fb : T (fits binary64 b.m)
    fb = float_of-fits binary64 11 52 refl refl (with_exponent g (pos 0))

    ua : in_unit a.m ≡ true
    ua = unit-float binary64 11 52 refl refl (lit< tt) f F

    ub : in_unit b.m ≡ true
    ub = unit-float binary64 11 52 refl refl (lit< tt) g G

    product : factor_at 52 r.m r.e ≡ times 52 f g
    product =
        multiplied-times a b fa fb ua ub
        ∙ ap (λ (h : Factor). times 52 h (factor_of_acc b)) (factor-at-float binary64 11 52 refl refl (lit< tt) f f.exp F)
        ∙ ap (times 52 f) (factor-at-float binary64 11 52 refl refl (lit< tt) g g.exp G)

pub identity-is : identity_acc ≡ acc_of (unit 52)
identity-is = represents-acc identity_acc.m identity_acc.e (unit 52) represents-one

-- a rate that is not bad is the accumulator of its factor
pub rate-is : (x : Float) → GoodRate x → rate_acc x ≡ acc_of (rate_factor x)
unfolding rate_acc
rate-is x r =
    ap (λ (b : Bool). record { m = (split x).m; e = (split x).e; bad = b }) (split-bad x ∙ r.good)
    ∙ represents-acc (split x).m (split x).e (rate_factor x) (represents-rate x)

pub rate-mark : (x : Float) → (rate_acc x).bad ≡ is_bad x
unfolding rate_acc
rate-mark x = split-bad x
