-- Looks for an object whose bytes are to be got.
use Rattle.std.specs.Prelude.{◌≡◌, ◌≢◌, ◌++◌, ℕ, zero, suc, Bool, List, All, length, Option, Some, None, Result, Ok, Err, if◌then◌else◌}
use Rattle.std.specs.Option.{option_map_or}
use Rattle.lake_base.specs.declared.digest.Digest.{Digest}
use Rattle.lake_values.specs.Entry.{EntryValue}
use Rattle.lake_values.specs.declared.entry.Place.{Place}
use Rattle.lake_values.specs.declared.entry.Place.TheVariants.{Own, External}
use Rattle.commit_graph.specs.Expressions.{RefExprValue}
use Rattle.lake_model.specs.declared.fault.Reference.TheVariants as reference
use Rattle.lake_model.specs.declared.fault.StepFault.{StepFault}
use Rattle.lake_model.specs.declared.fault.StepFault.TheVariants as step
use Rattle.lake_model.specs.declared.history.HistoryEntry.{HistoryEntry}
use Rattle.lake_model.specs.declared.reply.Seen.{Seen}
use Rattle.lake_model.specs.State.{State}
use Rattle.lake_model.specs.Readings.{look_reply}
use Rattle.lake_core.specs.declared.standing.LakeOrigin.{LakeOrigin}
use Rattle.turn_lock.specs.Seats.{seat_after}
use Rattle.shared_lake.specs.SeatSteps.{LakeSeat}
use Rattle.flow_steps.specs.FlowSeats.{GoesOn, state_at}
use Rattle.write_flow.specs.declared.answer.FlowFault.{FlowFault}
use Rattle.write_flow.specs.declared.answer.FlowFault.TheVariants.{Step, NoPath, Gone, NotHeld, NoMemory}
use Rattle.write_flow.specs.FlowFaults.{fault_of_step}

-- the digest that an own object is named by
abbrev pub digest_at : Place → Option Digest
digest_at (Own number digest) = Some digest
digest_at (External at checksum) = None

-- ---- one look

-- an entry whose bytes are to be got: the lake's own, whose object isn't gone
abbrev pub gettable : Place → EntryValue → (gone : Bool) → Result EntryValue FlowFault
gettable (Own number digest) entry gone = if gone then Err (Gone number) else Ok entry
gettable (External at checksum) entry gone = Err (NotHeld at)

-- what a look told: such an entry, or why there is none
abbrev pub object_of : Result Seen StepFault → Result EntryValue FlowFault
object_of (Err fault) = Err (fault_of_step fault)
object_of (Ok seen) = option_map_or (λ entry. gettable entry.place entry seen.gone) seen.found (Err NoPath)

-- WHAT A LOOK FINDS IN A STATE at a path of what an expression leads to
abbrev pub look_up : State → (repo : List ℕ) → RefExprValue → (path : List ℕ) → Result EntryValue FlowFault
look_up state repo e path = object_of (look_reply state repo e path)

-- what a look may be refused for
abbrev pub IsLookRefusal : FlowFault → Type 0
IsLookRefusal (Step step.NoRepo) = Unit {0}
IsLookRefusal (Step (step.NoRef reference.Expression)) = Unit {0}
IsLookRefusal (Step (step.NoParent number)) = Unit {0}
IsLookRefusal NoPath = Unit {0}
IsLookRefusal (Gone number) = Unit {0}
IsLookRefusal (NotHeld address) = Unit {0}
IsLookRefusal fault = ⊥

-- a look told what it found, or memory ran out
abbrev pub TellsFound : (found told : Result EntryValue FlowFault) → Type 0
TellsFound found (Err NoMemory) = Unit {0}
TellsFound found told = found ≡ told

-- ---- a seat that looks

-- behind what was seen only entries of other seats came
abbrev pub OthersCame : (seat : ℕ) → (seen now : List HistoryEntry) → Type 0
OthersCame seat seen now = (others : List HistoryEntry) × All (λ e. e.by.seat ≢ seat) others × (now ≡ seen ++ others)

-- A seat only looked: it adds nothing, and what it has seen more are entries of other seats.
pub record OnlyLooked (origin : LakeOrigin) (old new : LakeSeat) : Type 0 where
  pub goes : (call : ℕ) → GoesOn origin call old new
  pub came : OthersCame old.number old.seen new.seen
  pub adds_none : new ≡ seat_after old new.seen old.mine

-- A LOOK, between its seat before it and after it
pub record HasLooked (repo path : List ℕ) (e : RefExprValue) (old new : LakeSeat) (told : Result EntryValue FlowFault) : Type 0 where
  pub origin : LakeOrigin
  pub only : OnlyLooked origin old new
  pub tells : TellsFound (look_up (state_at origin new.seen) repo e path) told

-- LOOKS, one after the other, each behind entries of others: the last of them found this entry where so much was seen, the first
-- stood at this position, and behind the first so many looked again, each of which found another entry than the look before it.
module _ (origin : LakeOrigin) (seat : ℕ) (repo path : List ℕ) (e : RefExprValue) (from : List HistoryEntry) where
  abbrev pub HaveFound : (again first : ℕ) → EntryValue → (now : List HistoryEntry) → Type 0
  HaveFound zero first entry now =
      OthersCame seat from now × (look_up (state_at origin now) repo e path ≡ Ok entry) × (first ≡ length now)
  HaveFound (suc again) first entry now =
      (one : EntryValue) × (before : List HistoryEntry) × HaveFound again first one before × OthersCame seat before now
      × (look_up (state_at origin now) repo e path ≡ Ok entry) × (entry ≢ one)
