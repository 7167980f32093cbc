-- An object's bytes are asked for.
use Rattle.std.specs.Prelude.{◌≡◌, ◌≢◌, ◌⊎◌, ◌+◌, ◌≤◌, ℕ, List, length, Option, Some, None, option_map, IfSome, Result, Ok, Err, if◌then◌else◌}
use Rattle.std.specs.FinMap.{get}
use Rattle.lake_base.specs.Digest.{sha256}
use Rattle.lake_base.specs.Memory.{next_count}
use Rattle.lake_values.specs.Body.{Fits}
use Rattle.lake_values.specs.Entry.{EntryValue}
use Rattle.lake_values.specs.Sameness.{same_entry}
use Rattle.lake_values.specs.declared.entry.Place.{Place}
use Rattle.lake_values.specs.declared.entry.Place.TheVariants.{Own, External}
use Rattle.commit_graph.specs.Expressions.{RefExprValue}
use Rattle.lake_model.specs.declared.history.HistoryEntry.{HistoryEntry}
use Rattle.lake_core.specs.declared.standing.LakeOrigin.{LakeOrigin}
use Rattle.block_store.specs.Blocks.{HeldObjects}
use Rattle.shared_lake.specs.SeatSteps.{LakeSeat}
use Rattle.lake_calls.specs.CallExceptions.{HasRisen, HasRisenBy, number_at}
use Rattle.flow_steps.specs.FlowSeats.{state_at}
use Rattle.write_flow.specs.declared.answer.Done.{Done}
use Rattle.write_flow.specs.declared.answer.FlowFault.{FlowFault}
use Rattle.write_flow.specs.declared.answer.FlowFault.TheVariants.{TooManyTries, Lost, Damaged, BlockFault, NoMemory}
use Rattle.flow_steps.specs.FlowAnswers.{BlockCounts}
use Rattle.flow_steps.specs.Retries.{called_more}
use Rattle.read_flow.specs.declared.rounds.Round.{Round}
use Rattle.read_flow.specs.declared.rounds.Round.TheVariants.{Got, Missed, Refused}
use Rattle.read_flow.specs.ObjectLooks.{HasLooked, HaveFound, IsLookRefusal, OnlyLooked, OthersCame, digest_at, look_up}

-- an object that was read: its entry, and its bytes
abbrev pub ObjectRead : Type 0
ObjectRead = Done × List ℕ

-- what a store of objects counted from one moment to another
abbrev pub counted_between : (faults misses faults_now misses_now missed_last : ℕ) → BlockCounts
counted_between faults misses faults_now misses_now missed_last = record {
  faults = record { before = faults; now = faults_now };
  misses = record { before = misses; now = misses_now };
  missed_last = missed_last;
}

-- what a store holds under the number of an own object, where the store tells that
abbrev pub HoldsAt : Option HeldObjects → Place → Option (List ℕ) → Type 0
HoldsAt held (Own number digest) body = IfSome held (λ objects. get objects number ≡ body)
HoldsAt held (External at checksum) body = ⊥

-- bytes that were got of an entry, by whether they fit it: the object; or its digest, and that of the bytes
abbrev pub IsFitted : (at : ℕ) → EntryValue → (body : List ℕ) → Result ObjectRead FlowFault → Type 0
IsFitted at entry body (Ok object) = Fits entry body × (object.0 ≡ record { at = at; entry = Some entry }) × (object.1 ≡ body)
IsFitted at entry body (Err (Damaged named found)) =
    (Fits entry body → ⊥) × (digest_at entry.place ≡ Some named) × (found.0 ≡ sha256 body)
IsFitted at entry body (Err fault) = ⊥

-- ---- one round

-- what comes of a miss, by what the look after it found
abbrev pub round_after : EntryValue → (number : ℕ) → Result EntryValue FlowFault → Round
round_after entry number (Ok next) = if same_entry entry next then Refused (Lost number) else Missed next
round_after entry number (Err fault) = Refused fault

module _ (repo path : List ℕ) (e : RefExprValue) (entry : EntryValue) (old new : LakeSeat) (blocks : BlockCounts) (held : Option HeldObjects) where
  -- there was no look, and no miss
  pub record NoLook : Type 0 where
    pub seat : new ≡ old
    pub none : blocks.misses.now ≡ blocks.misses.before

  -- the entry's number was missed, and the look after that told this
  pub record LooksOn (told : Result EntryValue FlowFault) : Type 0 where
    pub look : HasLooked repo path e old new told
    pub counted : HasRisen blocks.misses
    pub number : number_at entry.place ≡ Some blocks.missed_last
    pub unheld : HoldsAt held entry.place None

  -- what came of a round
  abbrev pub RoundEnds : Round → Type 0
  RoundEnds (Got body) = NoLook × HoldsAt held entry.place (Some body)
  RoundEnds (Missed other) = LooksOn (Ok other) × (other ≢ entry)
  RoundEnds (Refused BlockFault) = NoLook × HasRisen blocks.faults
  RoundEnds (Refused NoMemory) = NoLook ⊎ LooksOn (Err NoMemory)
  RoundEnds (Refused (Lost number)) = LooksOn (Ok entry) × (number ≡ blocks.missed_last)
  RoundEnds (Refused fault) = LooksOn (Err fault)

-- A ROUND, between its seat before it and after it: its pause was called once, its get changed nothing that the store holds, and
-- it ended so.
pub record HasRound (repo path : List ℕ) (e : RefExprValue) (entry : EntryValue) (old new : LakeSeat) (blocks : BlockCounts)
    (held held_now : Option HeldObjects) (paused paused_now : Option ℕ) (round : Round) : Type 0 where
  pub ends : RoundEnds repo path e entry old new blocks held round
  pub kept : held_now ≡ held
  pub pause : paused_now ≡ option_map next_count paused
  pub faults : blocks.faults.before ≤ blocks.faults.now
  pub misses : blocks.misses.before ≤ blocks.misses.now

-- ---- all rounds

module _ (origin : LakeOrigin) (seat : ℕ) (repo path : List ℕ) (e : RefExprValue) (blocks : BlockCounts) (held : Option HeldObjects)
    (missed gets : ℕ) (from : List HistoryEntry) where
  -- an entry was found last, at the position, and its bytes were asked for: each get before that missed
  pub record AskedOf (entry : EntryValue) (now : List HistoryEntry) : Type 0 where
    pub first : ℕ
    pub found : HaveFound origin seat repo path e from missed first entry now
    pub once : gets ≡ missed + 1

  -- an entry was found last before the position, its bytes were missed, as all before, and it was looked for again
  pub record MissedOf (entry : EntryValue) (now : List HistoryEntry) : Type 0 where
    pub again : ℕ
    pub first : ℕ
    pub before : List HistoryEntry
    pub found : HaveFound origin seat repo path e from again first entry before
    pub came : OthersCame seat before now
    pub once : missed ≡ again + 1
    pub all : gets ≡ missed
    pub unheld : HoldsAt held entry.place None

  -- WHAT CAME OF A READING, at the position of its last look
  abbrev pub ReadEnds : Result ObjectRead FlowFault → (now : List HistoryEntry) → Type 0
  ReadEnds (Ok object) now = (entry : EntryValue) × AskedOf entry now × IsFitted (length now) entry object.1 (Ok object)
      × HoldsAt held entry.place (Some object.1)
  ReadEnds (Err (Damaged named found)) now = (entry : EntryValue) × AskedOf entry now × (body : List ℕ)
      × IsFitted (length now) entry body (Err (Damaged named found)) × HoldsAt held entry.place (Some body)
  ReadEnds (Err BlockFault) now = (entry : EntryValue) × AskedOf entry now × HasRisen blocks.faults
  ReadEnds (Err (Lost number)) now = (entry : EntryValue) × MissedOf entry now × (look_up (state_at origin now) repo e path ≡ Ok entry)
      × (number_at entry.place ≡ Some number) × (blocks.missed_last ≡ number)
  ReadEnds (Err (TooManyTries first last)) now = (entry : EntryValue) × HaveFound origin seat repo path e from 10 first entry now
      × (last ≡ length now) × (missed ≡ 10) × (gets ≡ 10)
  ReadEnds (Err NoMemory) now = Unit {0}
  ReadEnds (Err fault) now = IsLookRefusal fault × (look_up (state_at origin now) repo e path ≡ Err fault)
      × (((missed ≡ 0) × (gets ≡ 0)) ⊎ ((entry : EntryValue) × MissedOf entry now))

-- A READING OF AN OBJECT'S BYTES, between its seat before it and after it: its seat only looked; of so many gets, ten at most, all
-- missed but the last, which may have; as often the pause was called; no get changed what the store holds; and it ended so.
pub record HasRead (repo path : List ℕ) (e : RefExprValue) (old new : LakeSeat) (blocks : BlockCounts)
    (held held_now : Option HeldObjects) (paused paused_now : Option ℕ) (outcome : Result ObjectRead FlowFault) : Type 0 where
  pub origin : LakeOrigin
  pub only : OnlyLooked origin old new
  pub missed : ℕ
  pub gets : ℕ
  pub few : gets ≤ 10
  pub others_missed : (gets ≡ missed) ⊎ (gets ≡ missed + 1)
  pub pauses : paused_now ≡ called_more gets paused
  pub kept : held_now ≡ held
  pub counted : HasRisenBy missed blocks.misses
  pub faults : blocks.faults.before ≤ blocks.faults.now
  pub misses : blocks.misses.before ≤ blocks.misses.now
  pub ends : ReadEnds origin old.number repo path e blocks held missed gets old.seen outcome new.seen
