-- How the parts of a form are read one after the other: a value, or the refusal of the first that is wrong.
use Rattle.std.specs.Prelude.{◌≡◌, ◌⊎◌, Option, Some, None, Result, Ok, Err}
use Rattle.lake_calls.specs.declared.reply.FormRefusal.{FormRefusal}
use Rattle.api_routes.specs.declared.fault.FormFault.{FormFault}
use Rattle.api_routes.specs.declared.fault.FormFault.TheVariants.{Refused, NoMemory}

-- a fault that is this refusal, unless memory ran out
abbrev pub IsFault : FormFault → FormRefusal → Type 0
IsFault fault refusal = (fault ≡ NoMemory) ⊎ (fault ≡ Refused refusal)

-- What a reader answers: what is due, of which contracts see this much, unless memory ran out.
abbrev pub IsRead : {X Y : Type 0} → (X → Y) → Result X FormFault → Result Y FormRefusal → Type 0
IsRead seen (Ok x) due = due ≡ Ok (seen x)
IsRead seen (Err fault) due = (fault ≡ NoMemory) ⊎ ((refusal : FormRefusal) × (fault ≡ Refused refusal) × (due ≡ Err refusal))

-- the first, and then what it leads to; or the refusal of the first
abbrev pub in_turn : {X Y : Type 0} → Result X FormRefusal → (X → Result Y FormRefusal) → Result Y FormRefusal
in_turn (Ok x) next = next x
in_turn (Err refusal) next = Err refusal
