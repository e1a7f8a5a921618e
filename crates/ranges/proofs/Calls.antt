-- What a call tells: its code, and the three buffers after it. Assumes nothing.
use Prim.Native.Nat.{ℕ, ◌^◌, ◌≤◌, ◌<◌}
use mathlib.Core.Path.{◌≡◌, sym, ◌∙◌, ap, subst}
use mathlib.Core.Bool.{true}
use mathlib.Core.List.{List, ◌∷◌, map}
use lib.ListN.{length, get_or}
use lib.IntN.{ℤ}
use lib.Ieee.{Float}
use Rattle.refusals.specs.Refusals.{buffer_after}
use Rattle.refusals.proofs.Buffers.{buffer-kept}
use Rattle.layout.specs.declared.traversal.FullTraversal.{FullTraversal}
use Rattle.layout.specs.Axes.{PLACES}
use Rattle.layout.specs.Compile.{compile_of}
use Rattle.offsets.specs.Elements.{all_inside}
use Rattle.offsets.specs.InnerCursors.{Bounded, Traversal}
use Rattle.offsets.specs.Pieces.{run_of, outer_of}
use Rattle.offsets.proofs.Checked.{accepted-range}
use Rattle.accumulator.specs.declared.StableProductFloatAcc.{StableProductFloatAcc}
use Rattle.ranges.specs.Many.{ranges_of, many_code, products, ms_after, es_after, bads_after}
use Rattle.ranges.proofs.Codes.{Accepted, range-accepted}
use Rattle.ranges.proofs.Writing.{acc-m, acc-e, acc-byte, products_over}

-- what the reduction of a range over a compiled layout asks
pub record Ready (l : FullTraversal) (base : ℤ) (len start end : ℕ) : Type 0 where
  pub traversal : Traversal l
  pub bounded : Bounded (run_of l ∷ outer_of l) base
  pub forward : start < end
  pub inside : end ≤ l.total
  pub few : l.total ≤ 2 ^ 40
  pub within : all_inside (run_of l ∷ outer_of l) l.total base len ≡ true

module _ (ns : List ℕ) (ss : List ℤ) (base : ℤ) (starts ends : List ℕ) (values ms : List Float) (es : List ℤ) (bads : List ℕ) where
  abbrev code : ℕ
  code = many_code ns ss base starts ends values ms es bads

  abbrev all : List StableProductFloatAcc
  all = products ns ss base starts ends values ms es bads

  -- the answer r, and the buffers after it
  abbrev pub Told : ℕ → List Float → List ℤ → List ℕ → Type 0
  Told r m e b =
      (r ≡ code)
      × ((m ≡ ms_after ns ss base starts ends values ms es bads)
      × ((e ≡ es_after ns ss base starts ends values ms es bads) × (b ≡ bads_after ns ss base starts ends values ms es bads)))

  pub told-refused : (r : ℕ) → r ≡ code → (r ≡ 0 → ⊥) → Told r ms es bads
  unfolding ms_after es_after bads_after
  told-refused r e n =
      let k : code ≡ 0 → ⊥ = λ z. n (e ∙ z) in
      (e, (buffer-kept code (map acc-m all) ms k, (buffer-kept code (map acc-e all) es k, buffer-kept code (map acc-byte all) bads k)))

  -- over any layout that is the compiled one
  module _ (l : FullTraversal) (is : l ≡ (compile_of PLACES ns ss).traversal) where
    over : {X : Type 0} (f : StableProductFloatAcc → X) (out : List X) → 0 ≡ code
        → buffer_after 0 (map f (products_over l base values (ranges_of starts ends))) out ≡ buffer_after code (map f all) out
    over f out e =
        ap (λ (t : FullTraversal). buffer_after 0 (map f (products_over t base values (ranges_of starts ends))) out) is
        ∙ ap (λ (n : ℕ). buffer_after n (map f all) out) e

    pub told-accepted : 0 ≡ code → (m : List Float) (e : List ℤ) (b : List ℕ)
        → m ≡ buffer_after 0 (map acc-m (products_over l base values (ranges_of starts ends))) ms
        → e ≡ buffer_after 0 (map acc-e (products_over l base values (ranges_of starts ends))) es
        → b ≡ buffer_after 0 (map acc-byte (products_over l base values (ranges_of starts ends))) bads
        → Told 0 m e b
    unfolding ms_after es_after bads_after
    told-accepted z m e b p q r =
        (z, (p ∙ over acc-m ms z, (q ∙ over acc-e es z, r ∙ over acc-byte bads z)))

    -- each range of an accepted call can be reduced
    pub ready : Accepted ns ss base starts ends values ms es bads → (i : ℕ) → i < length starts → Ready l base (length values) (get_or starts i 0) (get_or ends i 0)
    ready a i h =
        let c = accepted-range ns ss base (get_or starts i 0) (get_or ends i 0) (length values) (range-accepted ns ss base starts ends values ms es bads a i h) in
        subst (λ (t : FullTraversal). Ready t base (length values) (get_or starts i 0) (get_or ends i 0)) (sym is)
        (record { traversal = c.traversal; bounded = c.bounded; forward = c.forward; inside = c.inside; few = c.few; within = c.within })
