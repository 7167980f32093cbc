-- The replies of calls that are exceptions, with their causes: what a call met that no history shows, and what the history
-- shows that was seen.
use Rattle.std.specs.Prelude.{◌≡◌, ◌≢◌, ◌⊎◌, ◌+◌, ◌<◌, ◌≤◌, ℕ, Bool, true, List, [], ◌∷◌, drop, length, take, Option, Some, None, Ok}
use Rattle.lake_base.specs.Outside.{Rose}
use Rattle.lake_values.specs.Body.{Fits}
use Rattle.lake_values.specs.Entry.{EntryValue}
use Rattle.lake_values.specs.declared.entry.Place.{Place}
use Rattle.lake_values.specs.declared.entry.Place.TheVariants.{Own, External}
use Rattle.lake_model.specs.declared.history.HistoryEntry.{HistoryEntry}
use Rattle.lake_model.specs.declared.history.Operation.{Operation}
use Rattle.lake_model.specs.declared.history.Operation.TheVariants.{Copy, Commit, Merge, Pick, Stage}
use Rattle.lake_model.specs.State.{State}
use Rattle.lake_model.specs.History.{replay}
use Rattle.lake_laws.specs.VersionGivers.{count_of, gives_branch, gives_branch_or_settings, of_other_seat}
use Rattle.lake_calls.specs.CallRefusals.{found_object}
use Rattle.lake_calls.specs.Courses.{CallPoint, Finds, Looks, Makes, Prepares}
use Rattle.lake_calls.specs.declared.objects.ReadCall.{ReadCall}
use Rattle.lake_calls.specs.declared.reply.CallReply.{CallReply}
use Rattle.lake_calls.specs.declared.reply.CallReply.TheVariants.{Refused}
use Rattle.lake_calls.specs.declared.reply.Refusal.TheVariants as refusal

-- a count before a call and after it
pub record Counts : Type 0 where
  pub before : ℕ
  pub now : ℕ

-- What a call met: the faults that the store of pairs counted, the faults and the misses that the store of objects counted
-- and the number that was missed last, the bytes that this store gave, how many guarded steps answered that versions had
-- changed, and how many times the bytes of an object were missed.
pub record CallMet : Type 0 where
  pub store_faults : Counts
  pub block_faults : Counts
  pub misses : Counts
  pub missed_last : ℕ
  pub bytes : Option (List ℕ)
  pub changed : ℕ
  pub missed : ℕ

-- nothing is counted
abbrev pub no_counts : Counts
no_counts = record { before = 0; now = 0 }

-- a call that met nothing
abbrev pub nothing_met : CallMet
nothing_met = record {
  store_faults = no_counts;
  block_faults = no_counts;
  misses = no_counts;
  missed_last = 0;
  bytes = None;
  changed = 0;
  missed = 0;
}

-- a count rose, or stands at its last value
abbrev pub HasRisen : Counts → Type 0
HasRisen counts = Rose counts.before counts.now

-- it rose by so many at least, or stands at its last value
abbrev pub HasRisenBy : (amount : ℕ) → Counts → Type 0
HasRisenBy amount counts = counts.now < 18446744073709551615 → counts.before + amount ≤ counts.now

-- ---- tries

-- the step that is guarded by versions among the points that are left, with the branch: of a new head by those of the
-- settings too
pub data Guard : Type 0 where
  ByBranch ByBoth : (repo branch : List ℕ) → Guard

abbrev pub guard_of : Operation → Option Guard
guard_of (Stage repo branch path change) = Some (ByBranch repo branch)
guard_of (Copy repo branch path source from entry) = Some (ByBranch repo branch)
guard_of (Commit repo branch about) = Some (ByBoth repo branch)
guard_of (Merge repo branch source strategy about) = Some (ByBoth repo branch)
guard_of (Pick repo branch base source strategy about) = Some (ByBoth repo branch)
guard_of operation = None

-- the guard of the last step, where no other step is left before it
abbrev pub last_guard : List CallPoint → Option Guard
last_guard (Looks repo branch ∷ Makes operation ∷ []) = guard_of operation
last_guard (Prepares repo branch kind about ∷ Makes operation ∷ []) = guard_of operation
last_guard (Makes operation ∷ []) = guard_of operation
last_guard left = None

-- whether an entry gave a version that a guard asks for
abbrev pub gives_guarded : Guard → HistoryEntry → Bool
gives_guarded (ByBranch repo branch) = gives_branch repo branch
gives_guarded (ByBoth repo branch) = gives_branch_or_settings repo branch

-- Too many tries: ten guarded steps found other versions, and behind what was seen before the call other seats made at least
-- ten entries that gave one.
pub record HasTriedEnough (seat : ℕ) (left : List CallPoint) (met : CallMet) (from : ℕ) (seen : List HistoryEntry) : Type 0 where
  pub guard : Guard
  pub guarded : last_guard left ≡ Some guard
  pub ten : met.changed ≡ 10
  pub entries : 10 ≤ count_of (of_other_seat seat (gives_guarded guard)) (drop from seen)

-- ---- an object's bytes

-- the number of an own object
abbrev pub number_at : Place → Option ℕ
number_at (Own number digest) = Some number
number_at (External at checksum) = None

-- the entry of an own object, which isn't gone, that a call finds in a state
abbrev pub FindsOwn : ReadCall → State → EntryValue → Type 0
FindsOwn c state entry = found_object c state ≡ Ok (Ok entry)

-- the number of the own object that it finds there
abbrev pub FindsNumber : ReadCall → State → ℕ → Type 0
FindsNumber c state number = (entry : EntryValue) × FindsOwn c state entry × (number_at entry.place ≡ Some number)

-- ascending positions, from one on and up to another, at each of which another entry is found than at the one before it
abbrev pub FindOthers : ReadCall → State → List HistoryEntry → (from : ℕ) → (one : EntryValue) → List ℕ → Type 0
FindOthers c opened seen from one [] = Unit {0}
FindOthers c opened seen from one (at ∷ later) =
    (from ≤ at) × (at ≤ length seen) × (other : EntryValue) × FindsOwn c (replay opened (take at seen)) other × (other ≢ one)
    × FindOthers c opened seen at other later

-- Too many tries: ten gets missed, which were counted, and at eleven ascending positions behind the beginning neighbours find other entries.
pub record HasMissedEnough (c : ReadCall) (met : CallMet) (opened : State) (from : ℕ) (seen : List HistoryEntry) : Type 0 where
  pub ten : met.missed ≡ 10
  pub counted : HasRisenBy 10 met.misses
  pub first : ℕ
  pub begins : from ≤ first
  pub ends : first ≤ length seen
  pub entry : EntryValue
  pub found : FindsOwn c (replay opened (take first seen)) entry
  pub later : List ℕ
  pub eleven : length later ≡ 10
  pub others : FindOthers c opened seen first entry later

-- Lost: a get missed, and the look after it finds the same entry as a look before it in this call, which isn't gone.
pub record IsLost (c : ReadCall) (met : CallMet) (opened : State) (from : ℕ) (seen : List HistoryEntry) : Type 0 where
  pub counted : HasRisen met.misses
  pub entry : EntryValue
  pub before : ℕ
  pub begins : from ≤ before
  pub ends : before ≤ length seen
  pub was : FindsOwn c (replay opened (take before seen)) entry
  pub same : FindsOwn c (replay opened seen) entry
  pub missed : number_at entry.place ≡ Some met.missed_last

-- Damaged: the bytes that were got don't fit the entry that was found.
pub record IsDamaged (c : ReadCall) (met : CallMet) (opened : State) (seen : List HistoryEntry) : Type 0 where
  pub entry : EntryValue
  pub found : FindsOwn c (replay opened seen) entry
  pub bytes : List ℕ
  pub got : met.bytes ≡ Some bytes
  pub other : Fits entry bytes → ⊥

-- what is told of an object's bytes
abbrev pub IsReadException : ReadCall → CallMet → State → (from : ℕ) → List HistoryEntry → CallReply → Type 0
IsReadException c met opened from seen reply =
    (HasMissedEnough c met opened from seen × (reply ≡ Refused refusal.TooManyTries))
    ⊎ (HasRisen met.block_faults × (reply ≡ Refused refusal.BlockFault))
    ⊎ (IsLost c met opened from seen × (reply ≡ Refused (refusal.Lost c.path)))
    ⊎ (IsDamaged c met opened seen × (reply ≡ Refused (refusal.Damaged c.path)))

-- ---- every call

-- the store of objects failed at an upload: no step is left but its last
pub record HasBlockFault (uploads : Bool) (left : List CallPoint) (met : CallMet) : Type 0 where
  pub is_upload : uploads ≡ true
  pub behind : last_guard left ≢ None
  pub counted : HasRisen met.block_faults

-- AN EXCEPTION while points are left: too many tries; or what the store of objects came to.
abbrev pub IsException : (seat : ℕ) → (uploads : Bool) → (left : List CallPoint) → CallMet → State → (from : ℕ) → List HistoryEntry → CallReply → Type 0
IsException seat uploads (Finds c ∷ points) met opened from seen reply = IsReadException c met opened from seen reply
IsException seat uploads left met opened from seen reply =
    (HasTriedEnough seat left met from seen × (reply ≡ Refused refusal.TooManyTries))
    ⊎ (HasBlockFault uploads left met × (reply ≡ Refused refusal.BlockFault))
