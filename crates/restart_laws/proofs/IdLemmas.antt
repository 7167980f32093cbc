-- What a restart leaves of commit ids, and of numbers that nothing names.
use Rattle.std.proofs.Common.{◌≡◌, ◌<◌, ◌∷◌, [], ℕ, List, refl, sym, ap, ◌∙◌, subst, inl, inr}
use Rattle.std.specs.Prelude.{◌⊎◌, IsSome, Some, is_some}
use Rattle.std.specs.FinMap.{get, get-empty}
use Rattle.std.specs.Ordering.{nat_cmp}
use Rattle.lake_base.specs.declared.digest.Digest.{Digest}
use Rattle.lake_values.specs.Ancestry.{commit_of}
use Rattle.lake_values.specs.Commit.{CommitRecordValue}
use Rattle.lake_model.specs.declared.history.HistoryEntry.{HistoryEntry}
use Rattle.lake_model.specs.History.{IsLegal, accepted_entry, faulted_entry, replay}
use Rattle.lake_model.specs.Naming.{IsGarbage, IsNamedIn}
use Rattle.lake_model.specs.State.{HasRepository, Repository, State, map_of}
use Rattle.lake_laws.proofs.HistoryLemmas.{IsLegal-later, replay-append}
use Rattle.keeper.specs.Keepers.{KeptPairs}
use Rattle.core_state.specs.LakeStates.{LakeStateValue, state_of}
use Rattle.restart_laws.specs.Restarts.{IsTriedAgain, rested}

-- a state has this commit in a repository, with this map of it
abbrev pub KeepsCommit : State → (repo : List ℕ) → Repository → Digest → CommitRecordValue → Type 0
KeepsCommit s repo r id commit = HasRepository s repo (λ other. (commit_of other.commits id ≡ Some commit) × (map_of other id ≡ map_of r id))

-- what a law tells of legal histories
abbrev pub TellsOfIds : Type 0
TellsOfIds = (s : State) (entries : List HistoryEntry) (repo : List ℕ) (r : Repository) (id : Digest) (commit : CommitRecordValue)
    → IsLegal s entries → get s.repositories repo ≡ Some r → commit_of r.commits id ≡ Some commit → KeepsCommit (replay s entries) repo r id commit

module _ (ids : TellsOfIds) (opened : LakeStateValue) (history : List HistoryEntry) (pairs : KeptPairs) (again : LakeStateValue) where
  -- a commit that the lake had is there again
  pub ids_after : (state_of again ≡ rested (replay (state_of opened) history)) ⊎ IsTriedAgain opened history pairs again
      → (repo : List ℕ) (r : Repository) (id : Digest) (commit : CommitRecordValue)
      → get (replay (state_of opened) history).repositories repo ≡ Some r → commit_of r.commits id ≡ Some commit
      → KeepsCommit (state_of again) repo r id commit
  ids_after (inl same) repo r id commit at has =
      subst (λ (s : State). KeepsCommit s repo r id commit) (sym same) (r, at, (has, refl))
  ids_after (inr tried) repo r id commit at has =
      let first = state_of opened in
      let before = tried.is.before in
      let accepted = accepted_entry tried.is.by tried.is.operation in
      let faulted = faulted_entry tried.is.by tried.is.operation in
      let there = ap (λ (h : List HistoryEntry). get (replay first h).repositories repo) tried.is.faulted
      ∙ ap (λ (s : State). get s.repositories repo) (replay-append first before (faulted ∷ [])) in
      let kept = ids (replay first before) (accepted ∷ []) repo r id commit (IsLegal-later first before (accepted ∷ []) tried.is.stands.legal)
      (sym there ∙ at) has in
      subst (λ (s : State). KeepsCommit s repo r id commit) (sym tried.same)
      (subst (λ (s : State). KeepsCommit s repo r id commit) (sym (replay-append first before (accepted ∷ []))) kept)

-- a number that was given out, and that no repository names, is garbage in a state put to rest
pub number_after : (s again : State) → again ≡ rested s → (number : ℕ) → number < s.next_number
    → (IsNamedIn (λ name r. get s.repositories name ≡ Some r) number → ⊥) → IsGarbage again number
number_after s again is number given unnamed =
    subst (λ (t : State). IsGarbage t number) (sym is) (record { given_out = given; unnamed = named })
  where
    named : IsNamedIn (λ name r. get s.repositories name ≡ Some r) number ⊎ IsSome (get (rested s).tickets number) → ⊥
    named (inl names) = unnamed names
    named (inr ticket) = let none = ap is_some (get-empty {X = ℕ} nat_cmp number) in absurd (let both = sym ticket ∙ none in cc)
