-- What a call shows of its draw: the definition's draw is made of what the call returned or wrote, and of the bytes that it left.
use Rattle.std.specs.Prelude.{ℕ, suc, List, Some, None, Option}
use Rattle.std.specs.List.{swap}
use Rattle.masks.specs.Draw.{Drawn, then_draw, draw_below}

abbrev pub returned : {A : Type 0} → Option A → List ℕ → Option (Drawn A)
returned None rest = None
returned (Some value) rest = Some (record { value = value; rest = rest })

abbrev pub written : {A X : Type 0} → Option X → A → List ℕ → Option (Drawn A)
written None value rest = None
written (Some done) value rest = Some (record { value = value; rest = rest })

-- a place below i + 1 is drawn and exchanged with place i
abbrev pub draw_exchange : ℕ → List ℕ → List ℕ → Option (Drawn (List ℕ))
draw_exchange i p bytes = then_draw (draw_below (suc i) bytes) (λ place rest. Some (record { value = swap p place i; rest = rest }))
