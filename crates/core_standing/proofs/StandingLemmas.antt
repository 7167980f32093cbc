-- A lake that stands for its history stands for one more entry after it was made.
use Rattle.std.proofs.Common.{◌≡◌, ◌<◌, List, [], ◌∷◌, ◌++◌, refl, sym, ap, ◌∙◌, subst}
use Rattle.lake_format.specs.declared.cut.Cut.{Cut}
use Rattle.lake_laws.proofs.RepositoryLemmas.{cut_after}
use Rattle.lake_model.specs.declared.history.HistoryEntry.{HistoryEntry}
use Rattle.lake_model.specs.State.{State}
use Rattle.lake_model.specs.History.{Allows, IsLegal, after, replay}
use Rattle.lake_model.specs.Versions.{VersionsGiven, count_versions, versions_after}
use Rattle.core_state.specs.Counts.{AreCounted, HasVersions, versions_of}
use Rattle.core_state.specs.Index.{HasIndex}
use Rattle.core_state.specs.LakeStates.{LakeStateValue, state_of}
use Rattle.core_changes.specs.FreshTokens.{AreTokensBelow}
use Rattle.core_standing.specs.Standing.{Stands, versions_since}

-- an entry that may come next makes a legal history longer
legal_more : (state : State) (history : List HistoryEntry) (entry : HistoryEntry)
    → IsLegal state history → Allows (replay state history) entry → IsLegal state (history ++ entry ∷ [])
legal_more state [] entry legal allowed = (allowed, tt)
legal_more state (first ∷ later) entry legal allowed = (legal.0, legal_more (after state first) later entry legal.1 allowed)

replay_more : (state : State) (history : List HistoryEntry) (entry : HistoryEntry)
    → replay state (history ++ entry ∷ []) ≡ after (replay state history) entry
replay_more state [] entry = refl
replay_more state (first ∷ later) entry = replay_more (after state first) later entry

count_more : (given : VersionsGiven) (history : List HistoryEntry) (entry : HistoryEntry)
    → count_versions given (history ++ entry ∷ []) ≡ versions_after (count_versions given history) entry
count_more given [] entry = refl
count_more given (first ∷ later) entry = count_more (versions_after given first) later entry

-- what an entry makes of a lake, which may come next
pub record Follows (opened : LakeStateValue) (history : List HistoryEntry) (present : LakeStateValue) (entry : HistoryEntry)
    (next : LakeStateValue) : Type 0 where
  pub allowed : Allows (state_of present) entry
  pub state : state_of next ≡ after (state_of present) entry
  pub versions : HasVersions (versions_after (versions_since opened history) entry) next
  pub tokens : AreTokensBelow next
  pub counted : AreCounted next
  pub index : HasIndex next

pub stands_more : (opened : LakeStateValue) (history : List HistoryEntry) (present : LakeStateValue) (entry : HistoryEntry) (next : LakeStateValue)
    → Stands opened history present → Follows opened history present entry next → Stands opened (history ++ entry ∷ []) next
stands_more opened history present entry next stands follows = record {
  sound = stands.sound;
  fresh_start = stands.fresh_start;
  versions_below = stands.versions_below;
  legal = legal_more (state_of opened) history entry stands.legal (subst (λ s. Allows s entry) (sym stands.replayed) follows.allowed);
  replayed = replay_more (state_of opened) history entry ∙ ap (λ s. after s entry) stands.replayed ∙ sym follows.state;
  versions = subst (λ given. HasVersions given next) (sym (count_more (versions_of opened) history entry)) follows.versions;
  tokens = follows.tokens;
  counted = follows.counted;
  index = follows.index;
  modulus = subst (λ (c : Cut). 0 < c.modulus) (sym (ap (λ (s : State). s.cut) follows.state ∙ cut_after (state_of present) entry)) stands.modulus;
}
