-- How the parts of a command are read one after the other: a value, or the fault of the first that is wrong.
use Rattle.std.specs.Prelude.{◌≡◌, ◌⊎◌, Result, Ok, Err}
use Rattle.lakectl_verbs.specs.declared.fault.UsageFault.{UsageFault}
use Rattle.lakectl_verbs.specs.declared.fault.UsageFault.TheVariants.{NoMemory}

-- the fault that is due, unless memory ran out
abbrev pub IsUsageFault : UsageFault → UsageFault → Type 0
IsUsageFault fault due = (fault ≡ NoMemory) ⊎ (fault ≡ due)

-- What a reader answers: what is due, of which contracts see this much, unless memory ran out.
abbrev pub IsUsed : {X Y : Type 0} → (X → Y) → Result X UsageFault → Result Y UsageFault → Type 0
IsUsed seen (Ok x) due = due ≡ Ok (seen x)
IsUsed seen (Err fault) due = (fault ≡ NoMemory) ⊎ (due ≡ Err fault)

-- the first, and then what it leads to; or the fault of the first
abbrev pub in_turn : {X Y : Type 0} → Result X UsageFault → (X → Result Y UsageFault) → Result Y UsageFault
in_turn (Ok x) next = next x
in_turn (Err fault) next = Err fault
