-- The two points of a call that makes a new head of a branch: its own seal, and the new head.
use Rattle.std.specs.Prelude.{◌≡◌, ◌⊎◌, ◌++◌, false, List, [], ◌∷◌, ℕ, length}
use Rattle.lake_base.specs.declared.digest.Digest.{Digest}
use Rattle.lake_values.specs.Commit.{AboutValue}
use Rattle.lake_values.specs.declared.commit.Strategy.TheVariants.{Refuse}
use Rattle.lake_values.specs.declared.entry.Change.{Change}
use Rattle.lake_model.specs.declared.history.HistoryEntry.{HistoryEntry}
use Rattle.lake_model.specs.declared.history.Operation.{Operation}
use Rattle.lake_model.specs.declared.history.Operation.TheVariants.{Seal}
use Rattle.lake_model.specs.declared.history.SealFor.{SealFor}
use Rattle.lake_model.specs.declared.history.SealFor.TheVariants as seal
use Rattle.lake_model.specs.declared.reply.SwapKind.{SwapKind}
use Rattle.lake_model.specs.declared.reply.SwapKind.TheVariants as kind
use Rattle.lake_model.specs.State.{State}
use Rattle.lake_model.specs.History.{accepted_entry, faulted_entry}
use Rattle.lake_model.specs.Steps.{swap_operation}
use Rattle.lake_laws.specs.OtherSeats.{AreOfOtherSeats}
use Rattle.lake_laws.specs.SealedPaths.{IsDropped}
use Rattle.call_placement.specs.Rules.{Caller}
use Rattle.call_placement.specs.Points.{AreOfOtherCalls, is_own}
use Rattle.lake_calls.specs.Calls.{CommitCall, MergeCall, PickCall}
use Rattle.lake_calls.specs.Courses.{commit_about, merge_about, pick_about, revert_about}
use Rattle.lake_calls.specs.LakeRules.{by_caller, lake_rules}
use Rattle.lake_calls.specs.Requests.{Asks, CallRequest}
use Rattle.lake_calls.specs.declared.call.Call.TheVariants.{Heads}
use Rattle.lake_calls.specs.declared.heads.HeadCall.{HeadCall}
use Rattle.lake_calls.specs.declared.reply.Refusal.{Refusal}
use Rattle.lake_calls.specs.declared.reply.Refusal.TheVariants as refusal
use Rattle.commit_laws.specs.NewestChanges.{TakesNewest}

-- the request of a head call, at a moment: a commit, a merge, a revert or a cherry-pick, or a reading of commits
abbrev pub head_request : HeadCall → (moment : ℕ) → CallRequest
head_request call moment = record { asked = Asks (Heads call); moment = moment }

-- A new head that is to be made of a branch: how it is made and what is said of it, as in `NewHead` of head_steps; and besides
-- what the branch is sealed for.
pub record AskedHead : Type 0 where
  pub repo : List ℕ
  pub branch : List ℕ
  pub why : SealFor
  pub kind : SwapKind
  pub about : AboutValue

-- the one of each call that makes one; of a merge, a revert and a cherry-pick with what its expression led to
abbrev pub commit_head : CommitCall → (moment : ℕ) → AskedHead
commit_head c moment =
    record { repo = c.repo; branch = c.branch; why = seal.Commit; kind = kind.Commit; about = commit_about c moment }

abbrev pub merge_head : MergeCall → (moment : ℕ) → (source : Digest) → AskedHead
merge_head c moment source = record {
  repo = c.repo;
  branch = c.branch;
  why = seal.Other;
  kind = kind.Merge source c.strategy;
  about = merge_about c moment;
}

abbrev pub revert_head : PickCall → (moment : ℕ) → (commit parent : Digest) → AskedHead
revert_head c moment commit parent = record {
  repo = c.repo;
  branch = c.branch;
  why = seal.Other;
  kind = kind.Pick commit parent Refuse;
  about = revert_about c moment commit;
}

abbrev pub pick_head : PickCall → (moment : ℕ) → (commit parent : Digest) → (message : List ℕ) → AskedHead
pick_head c moment commit parent message = record {
  repo = c.repo;
  branch = c.branch;
  why = seal.Other;
  kind = kind.Pick parent commit Refuse;
  about = pick_about c moment message;
}

-- the operations of its two points
abbrev pub seal_operation : AskedHead → Operation
seal_operation head = Seal head.repo head.branch head.why

abbrev pub head_operation : AskedHead → Operation
head_operation head = swap_operation head.repo head.branch head.kind head.about

-- and their entries
abbrev pub seal_entry : Caller → AskedHead → HistoryEntry
seal_entry by head = accepted_entry (by_caller by) (seal_operation head)

abbrev pub head_entry : Caller → AskedHead → HistoryEntry
head_entry by head = accepted_entry (by_caller by) (head_operation head)

-- what came behind what a caller had seen, up to its own seal
abbrev pub up_to_seal : Caller → AskedHead → (between : List HistoryEntry) → List HistoryEntry
up_to_seal by head between = between ++ seal_entry by head ∷ []

-- up to its new head, without that
abbrev pub up_to_head : Caller → AskedHead → (between meanwhile : List HistoryEntry) → List HistoryEntry
up_to_head by head between meanwhile = between ++ seal_entry by head ∷ meanwhile

-- and up to its last entries, with them
abbrev pub up_to_last : Caller → AskedHead → (between meanwhile last : List HistoryEntry) → List HistoryEntry
up_to_last by head between meanwhile last = between ++ seal_entry by head ∷ (meanwhile ++ last)

-- A CALL SEALED THE BRANCH of a new head: behind what its seat had seen before came entries of other seats, then its own seal
-- stood; again entries of other seats came, and then these last entries of its own stood, if there are any. The call's
-- position lies behind them, and so does its edge. What came later isn't of this call.
pub record HasOwnSeal (by : Caller) (before after : List HistoryEntry) (head : AskedHead) (last : List HistoryEntry) (position next_edge : ℕ) : Type 0 where
  pub between : List HistoryEntry
  pub others_between : AreOfOtherSeats by.seat between
  pub meanwhile : List HistoryEntry
  pub others_meanwhile : AreOfOtherSeats by.seat meanwhile
  pub later : List HistoryEntry
  pub apart : AreOfOtherCalls lake_rules by later
  pub whole : after ≡ before ++ (up_to_last by head between meanwhile last ++ later)
  pub place : position ≡ length (before ++ up_to_last by head between meanwhile last)
  pub edge : next_edge ≡ position

-- IT MADE THE HEAD: its last entry is the new head's
abbrev pub HasTwoPoints : Caller → (before after : List HistoryEntry) → AskedHead → (position next_edge : ℕ) → Type 0
HasTwoPoints by before after head position next_edge =
    HasOwnSeal by before after head (head_entry by head ∷ []) position next_edge

-- IT DIDN'T SEAL: entries of other seats came, and then these of its own, if there are any
pub record HasNotSealed (by : Caller) (before after last : List HistoryEntry) (position next_edge : ℕ) : Type 0 where
  pub others : List HistoryEntry
  pub are_others : AreOfOtherSeats by.seat others
  pub later : List HistoryEntry
  pub apart : AreOfOtherCalls lake_rules by later
  pub whole : after ≡ before ++ ((others ++ last) ++ later)
  pub place : position ≡ length (before ++ (others ++ last))
  pub edge : next_edge ≡ position

-- IT DIDN'T MAKE THE HEAD: it left its own seal and no other entry, or none
abbrev pub HasNotMade : Caller → (before after : List HistoryEntry) → AskedHead → (position next_edge : ℕ) → Type 0
HasNotMade by before after head position next_edge =
    HasOwnSeal by before after head [] position next_edge ⊎ HasNotSealed by before after [] position next_edge

-- the note that the store failed at an operation
abbrev pub fault_note : Caller → Operation → HistoryEntry
fault_note by operation = faulted_entry (by_caller by) operation

-- THE STORE FAILED at one of its two points: behind its own seal a note stands in the place of the new head, or one in the
-- place of the seal
abbrev pub HasFailed : Caller → (before after : List HistoryEntry) → AskedHead → (position next_edge : ℕ) → Type 0
HasFailed by before after head position next_edge =
    HasOwnSeal by before after head (fault_note by (head_operation head) ∷ []) position next_edge
    ⊎ HasNotSealed by before after (fault_note by (seal_operation head) ∷ []) position next_edge

-- Among entries a new head takes the change of the path that was the newest at the last seal before it, or an entry drops the
-- path; and that one isn't of this call.
abbrev pub IsGoneByOthers : Caller → (repo branch path : List ℕ) → Change → State → List HistoryEntry → Type 0
IsGoneByOthers by repo branch path change state entries =
    ((taken : TakesNewest repo branch path change state entries) × (is_own lake_rules by taken.entry ≡ false))
    ⊎ ((dropped : IsDropped repo branch path state entries) × (is_own lake_rules by dropped.entry ≡ false))

-- A refusal that is told only behind the seal: there is nothing to commit, merge or take; what is sealed changes the head's
-- map; paths conflict; a hook denies the head; its tries were too many; a commit is expired, or the new one clashes.
abbrev pub ComesBehindSeal : Refusal → Type 0
ComesBehindSeal refusal.NoChanges = Unit {0}
ComesBehindSeal (refusal.Dirty path) = Unit {0}
ComesBehindSeal (refusal.Conflicts total) = Unit {0}
ComesBehindSeal (refusal.HookDenied hook) = Unit {0}
ComesBehindSeal refusal.TooManyTries = Unit {0}
ComesBehindSeal (refusal.Expired id) = Unit {0}
ComesBehindSeal (refusal.NameClash name) = Unit {0}
ComesBehindSeal _ = ⊥
