-- What every call over a range begins with: a layout compiled, and the code of the range. All that is known of an accepted range's layout.
-- Assumes nothing.
use Prim.Native.Nat.{ℕ, ◌^◌, ◌≤◌, ◌<◌}
use mathlib.Core.Path.{◌≡◌, refl, sym, ◌∙◌, ap, subst}
use mathlib.Core.Bool.{true}
use mathlib.Core.List.{List, ◌∷◌}
use Rattle.std.specs.Prelude.{Ok, Err}
use Rattle.refusals.specs.declared.Refusal.{Refusal}
use Rattle.refusals.specs.Codes.{number}
use Rattle.refusals.proofs.Numbers.{some-number}
use lib.IntN.{ℤ}
use Rattle.layout.specs.declared.traversal.FullTraversal.{FullTraversal}
use Rattle.layout.specs.Axes.{PLACES}
use Rattle.layout.specs.Order.{axes_of}
use Rattle.layout.specs.Compile.{Compiled, compile_of, told}
use Rattle.offsets.specs.Elements.{all_inside}
use Rattle.offsets.specs.InnerCursors.{Bounded, Traversal}
use Rattle.offsets.specs.Pieces.{run_of, outer_of}
use Rattle.offsets.specs.Lists.{range_code, offsets_from}
use Rattle.offsets.proofs.Ranges.{Ranged, ranged as all_of, ranged-accepted, ranged-bounded, ranged-inside, ranged-few, offsets-same, range-compile}

-- an accepted range, with its compiled layout
pub record Checked (ns : List ℕ) (ss : List ℤ) (base : ℤ) (start end len : ℕ) (l : FullTraversal) : Type 0 where
  pub code : range_code ns ss base start end len ≡ 0
  pub ranged : Ranged ns ss base start end len
  pub is : l ≡ (compile_of PLACES ns ss).traversal
  pub traversal : Traversal l
  pub bounded : Bounded (run_of l ∷ outer_of l) base
  pub forward : start < end
  pub inside : end ≤ l.total
  pub few : l.total ≤ 2 ^ 40
  pub within : all_inside (run_of l ∷ outer_of l) l.total base len ≡ true
  pub offsets : (n k : ℕ) → offsets_from (run_of l ∷ outer_of l) base k n ≡ offsets_from (axes_of ns ss) base k n

module _ (ns : List ℕ) (ss : List ℤ) (base : ℤ) (start end len : ℕ) where
  pub accepted-range : range_code ns ss base start end len ≡ 0 → Checked ns ss base start end len (compile_of PLACES ns ss).traversal
  accepted-range e =
      let r = all_of ns ss base start end len e in
      let a = ranged-accepted ns ss base start end len r in
      record {
        code = e;
        ranged = r;
        is = refl;
        traversal = a.traversal;
        bounded = ranged-bounded ns ss base start end len r;
        forward = r.forward;
        inside = r.inside;
        few = ranged-few ns ss base start end len r;
        within = ranged-inside ns ss base start end len r;
        offsets = offsets-same (axes_of ns ss) _ base a.same;
      }

-- ---- what the code's answers tell
module _ (ns : List ℕ) (ss : List ℤ) where
  -- compiling gave a layout
  module _ (l : FullTraversal) (t : told (Ok l) ≡ compile_of PLACES ns ss) where
    pub code-compiled : (compile_of PLACES ns ss).code ≡ 0
    code-compiled = sym (ap (λ (c : Compiled). c.code) t)

    pub layout-compiled : l ≡ (compile_of PLACES ns ss).traversal
    layout-compiled = ap (λ (c : Compiled). c.traversal) t

    -- what `check_range` asks for
    pub compiled : ((compile_of PLACES ns ss).code ≡ 0) × (l.total ≡ (compile_of PLACES ns ss).traversal.total)
    compiled = (code-compiled, ap (λ (x : FullTraversal). x.total) layout-compiled)

    -- and the range over it is accepted
    pub checked : (base : ℤ) (start end len : ℕ) → range_code ns ss base start end len ≡ 0 → Checked ns ss base start end len l
    checked base start end len e = subst (Checked ns ss base start end len) (sym layout-compiled) (accepted-range ns ss base start end len e)

  -- compiling gave a refusal: its number is the code of every range
  pub compile-refused : (e : Refusal) → told (Err e) ≡ compile_of PLACES ns ss → (base : ℤ) (start end len : ℕ) → number e ≡ range_code ns ss base start end len
  compile-refused e t base start end len =
      let c = ap (λ (c : Compiled). c.code) t in c ∙ range-compile ns ss base start end len (λ z. some-number e (c ∙ z))
