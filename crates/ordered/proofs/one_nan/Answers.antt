use Rattle.std.proofs.Common.{◌≡◌, refl, sym, ◌∙◌, true}
use Rattle.std.specs.Float.Ieee.{Float, nan, inf, fin, is_nan, of_bits}
use Rattle.ordered.proofs.one_nan.Goals as goal

the_nan : (x : Float) → is_nan x ≡ true → nan ≡ x
unfolding is_nan
the_nan nan e = refl
the_nan (inf s) e = cc
the_nan (fin s m k) e = cc

pub returns-then-is_nan : goal.returns-then-is_nan
unfolding of_bits
returns-then-is_nan c = the_nan c.args.x (sym c.is_nan.ensures.value ∙ c.if-is_nan.true)
