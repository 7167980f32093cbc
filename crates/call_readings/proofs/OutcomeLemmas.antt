-- What a step told, and what is made of it.
use Rattle.std.proofs.Common.{◌≡◌, ℕ, List, [], Option, Some, None, Result, Ok, Err, refl, sym, subst}
use Rattle.std.specs.Prelude.{option_map}
use Rattle.std.specs.FinMap.{get}
use Rattle.std.specs.Option.{option_map_or}
use Rattle.lake_values.specs.declared.settings.Note.{Note}
use Rattle.lake_model.specs.declared.fault.StepFault.{StepFault}
use Rattle.lake_model.specs.declared.fault.StepFault.TheVariants as step
use Rattle.lake_model.specs.State.{Repository, State}
use Rattle.lake_model.specs.Readings.{NoteReply, ◌then◌}
use Rattle.lake_model.specs.Refusals.{Gives}
use Rattle.lake_model.specs.Resolving.{in_repository_of}
use Rattle.lake_calls.specs.CallRefusals.{names_in}
use Rattle.call_readings.specs.ToldFaults.{AreNames, NamesValue}

-- memory that ran out is every answer
pub gives_starved : {X : Type 0} (out reply : Result X StepFault) → Gives out (Err step.NoMemory) → Gives out reply
gives_starved (Ok x) reply is = absurd cc
gives_starved (Err step.NoMemory) reply is = tt
gives_starved (Err _) reply is = absurd cc

-- what is made of an answer is made of the reply
pub gives_then : {X Y : Type 0} (answer reply : Result X StepFault) (next : X → Result Y StepFault) (out : Result Y StepFault)
    → Gives answer reply → Gives out (answer then next) → Gives out (reply then next)
gives_then (Ok x) reply next out is so = subst (λ r. Gives out (r then next)) is so
gives_then (Err step.NoMemory) reply next out is so = gives_starved out (reply then next) so
gives_then (Err _) reply next out is so = subst (λ r. Gives out (r then next)) is so

-- what is made of an answer of a repository is made in it
pub in_then : {X Y : Type 0} (state : State) (repo : List ℕ) (first : Repository → Result X StepFault) (next : X → Result Y StepFault)
    → in_repository_of state repo first then next ≡ in_repository_of state repo (λ r. first r then next)
in_then {X} {Y} state repo first next = by (get state.repositories repo)
  where
    by : (found : Option Repository) → option_map_or first found (Err step.NoRepo) then next ≡ option_map_or (λ r. first r then next) found (Err step.NoRepo)
    by (Some r) = refl
    by None = refl

-- a setting of a name, as one of its kind
pub note_then : {X Y : Type 0} (wrap : X → Note) (found : Option X) (at settings : ℕ) (next : Note → Result Y StepFault)
    → option_map_or (λ n. Ok (record { at = at; settings = settings; note = n })) (option_map wrap found) (Err step.NoNote)
    then (λ (r : NoteReply). next r.note)
    ≡ option_map_or (λ x. next (wrap x)) found (Err step.NoNote)
note_then wrap (Some x) at settings next = refl
note_then wrap None at settings next = refl

-- ---- what a call names

pub names_of_name : (given : NamesValue) (repo text named : List ℕ)
    → given ≡ record { repo = repo; named = text; expression = []; path = None; after = None } → text ≡ named → AreNames given (names_in repo named)
names_of_name given repo text named is same =
    subst (λ n. AreNames n (names_in repo named)) (sym is) (record { repo = refl; named = same; expression = refl; path = tt; after = refl })
