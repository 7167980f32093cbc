-- How the call of a route is made of what its form says.
use Rattle.std.specs.Prelude.{Result, Ok}
use Rattle.lake_calls.specs.declared.reply.FormRefusal.{FormRefusal}
use Rattle.api_routes.specs.FormSteps.{in_turn}

-- a call in its variant
abbrev pub made : {X Y : Type 0} → (X → Y) → Result X FormRefusal → Result Y FormRefusal
made variant call = in_turn call (λ x. Ok (variant x))
