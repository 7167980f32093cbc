-- What a call that reads an object's bytes is told, by what its store of objects holds.
use Rattle.std.specs.Prelude.{◌≡◌, ℕ, true, List, length, Option, Some, None}
use Rattle.std.specs.FinMap.{get}
use Rattle.block_store.specs.Blocks.{HeldObjects}
use Rattle.lake_model.specs.State.{State}
use Rattle.read_flow.specs.FlowWords.{LakeOrigin, LakeSeat, state_at}
use Rattle.lake_calls.specs.CallExceptions.{FindsNumber}
use Rattle.lake_calls.specs.HeldBodies.{FitsState}
use Rattle.lake_calls.specs.declared.call.Call.{Call}
use Rattle.lake_calls.specs.declared.call.Call.TheVariants.{Objects}
use Rattle.lake_calls.specs.declared.objects.ObjectCall.TheVariants as object
use Rattle.lake_calls.specs.declared.objects.ReadCall.{ReadCall}
use Rattle.lake_calls.specs.declared.reply.CallReply.{CallReply}
use Rattle.lake_calls.specs.declared.reply.CallReply.TheVariants as reply
use Rattle.lake_calls.specs.declared.reply.Done.TheVariants as done
use Rattle.lake_calls.specs.declared.reply.Refusal.TheVariants as refusal
use Rattle.read_flow.specs.ExpiredReads.{ReadsExpired}

-- this is held under the number of the object that a call finds
abbrev pub HoldsFound : ReadCall → State → HeldObjects → Option (List ℕ) → Type 0
HoldsFound c state objects body = (number : ℕ) × FindsNumber c state number × (get objects number ≡ body)

-- ---- any seat

-- Bytes that are told are those that the store gave, and they are held under the number of the object that is found; under the number
-- of one that is lost nothing is held; and where one is told as damaged, bytes were given that are held under its number.
abbrev pub IsGivenReply : ReadCall → State → HeldObjects → (given : Option (List ℕ)) → CallReply → Type 0
IsGivenReply c state objects given (reply.Done (done.Object content_type bytes)) =
    (given ≡ Some bytes) × HoldsFound c state objects (Some bytes)
IsGivenReply c state objects given (reply.Refused (refusal.Lost path)) = HoldsFound c state objects None
IsGivenReply c state objects given (reply.Refused (refusal.Damaged path)) =
    (bytes : List ℕ) × (given ≡ Some bytes) × HoldsFound c state objects (Some bytes)
IsGivenReply c state objects given told = Unit {0}

-- SO A CALL THAT READS AN OBJECT'S BYTES IS ANSWERED where the store tells what it holds: at all that its seat has seen then.
abbrev pub ReadsGiven : (old new : LakeSeat) → (held : Option HeldObjects) → Call → (given : Option (List ℕ)) → CallReply → (position : ℕ) → Type 0
ReadsGiven old new held call given told position = (c : ReadCall) (origin : LakeOrigin) (objects : HeldObjects) → call ≡ Objects (object.Read c)
    → old.origin ≡ Some origin → held ≡ Some objects
    → (position ≡ length new.seen) × IsGivenReply c (state_at origin new.seen) objects given told

-- ---- a seat that is alone, and bodies that fit

-- Bytes are those that are held under the number of the object that is found. There are never too many tries; and bytes are lost
-- or damaged only of a commit that is expired.
abbrev pub IsHeldReply : ReadCall → State → HeldObjects → CallReply → Type 0
IsHeldReply c state objects (reply.Done (done.Object content_type bytes)) = HoldsFound c state objects (Some bytes)
IsHeldReply c state objects (reply.Refused refusal.TooManyTries) = ⊥
IsHeldReply c state objects (reply.Refused (refusal.Lost path)) = ReadsExpired state c.repo c.at.e
IsHeldReply c state objects (reply.Refused (refusal.Damaged path)) = ReadsExpired state c.repo c.at.e
IsHeldReply c state objects told = Unit {0}

-- SO A CALL THAT READS AN OBJECT'S BYTES IS ANSWERED where its seat is alone, and the store tells what it holds and its bodies fit
-- what the seat had seen: at the position of just that.
abbrev pub ReadsHeld : (old : LakeSeat) → (held : Option HeldObjects) → Call → CallReply → (position : ℕ) → Type 0
ReadsHeld old held call told position = (c : ReadCall) (origin : LakeOrigin) (objects : HeldObjects) → call ≡ Objects (object.Read c)
    → old.alone ≡ true → old.origin ≡ Some origin → held ≡ Some objects → FitsState (state_at origin old.seen) (get objects)
    → (position ≡ length old.seen) × IsHeldReply c (state_at origin old.seen) objects told
