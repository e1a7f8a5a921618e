-- Lists whose every value has a property.
use Rattle.std.specs.Prelude.{List, [], ◌∷◌}

-- every value of a list is one of P
pub data Each {X : Type 0} (P : X → Type 0) : List X → Type 0 where
  none : Each P []
  more : {x : X} {xs : List X} → P x → Each P xs → Each P (x ∷ xs)
