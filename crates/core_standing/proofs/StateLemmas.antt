-- What a new head makes of the state that a lake stands for.
use Rattle.std.proofs.Common.{◌≡◌, ℕ, cond, List, sym, ap, ◌∙◌}
use Rattle.std.specs.Option.{option_map_or}
use Rattle.std.specs.FinMap.{empty, insert}
use Rattle.lake_base.specs.declared.digest.Digest.{Digest}
use Rattle.lake_format.specs.Spelling.{commit_id}
use Rattle.byte_map.specs.Values.{map_values}
use Rattle.byte_map.proofs.ValuesLemmas.{map_values_insert}
use Rattle.branch_record.specs.Record.{AreDistinct}
use Rattle.branch_record.specs.Tokens.{changes_under, with_each}
use Rattle.branch_record.proofs.LayersLemmas.{layers_none}
use Rattle.branch_record.proofs.TokensLemmas.{first_apart, under_changed}
use Rattle.lake_model.specs.State.{Branch, Repository}
use Rattle.lake_model.specs.Commits.{Draft, after_draft, draft_on, record_of, with_draft, with_head}
use Rattle.lake_model.specs.Parts.{changed_at}
use Rattle.core_state.specs.BranchStates.{BranchStateValue, branch_of, tokens_of}
use Rattle.core_state.specs.RepositoryStates.{repository_of}
use Rattle.core_state.specs.LakeStates.{LakeStateValue, state_of}
use Rattle.core_changes.proofs.StateLemmas.{with_one_more}
use Rattle.core_state.specs.NewCommits.{NewCommit, with_new_head}
use Rattle.core_changes.specs.LakeChanges.{after_new_head}
use Rattle.core_standing.proofs.PlaceLemmas.{IsCommitOf, Place, branch_there, changed_there, repositories_are, repository_now, repository_there}

-- The branch has the head, and nothing is sealed. What is staged stays, since its token is none of the sealed ones.
head_seen : (version : ℕ) (id : Digest) (b : BranchStateValue) → AreDistinct (tokens_of b)
    → branch_of (with_new_head version id b) ≡ with_head id (branch_of b)
head_seen version id b distinct =
    let staged = under_changed (λ _. empty) b.tokens b.sealed b.staging
    ∙ ap (λ among. cond among empty (changes_under b.tokens b.staging)) (first_apart b.staging b.sealed distinct) in
    λ i. record { head = id; sealed = layers_none (with_each b.sealed (λ _. empty) b.tokens) i; staged = staged i }

module _ (l : LakeStateValue) (repo branch : List ℕ) (place : Place l repo branch) (draft : Repository → Branch → Draft) (new : NewCommit)
    (of : IsCommitOf l.cut place.r.commits (draft (repository_of place.r) (branch_of place.b)) new)
    (distinct : AreDistinct (tokens_of place.b)) where
  -- what is drafted
  abbrev own_draft : Draft
  own_draft = draft (repository_of place.r) (branch_of place.b)

  -- its id
  abbrev draft_id : Digest
  draft_id = commit_id (record_of l.cut place.r.commits own_draft)

  -- a repository in which what is drafted of it and a branch is the head
  abbrev with_draft_on : Repository → Branch → Repository
  with_draft_on r b = with_draft l.cut branch (draft r b) r

  -- the maps of commits
  maps_seen : map_values (λ tree. tree.map) (insert place.r.trees new.id.0 new.tree)
      ≡ insert (repository_of place.r).maps draft_id.0 own_draft.objects
  maps_seen =
      map_values_insert (λ tree. tree.map) place.r.trees new.id.0 new.tree
      ∙ (λ i. insert (repository_of place.r).maps (of.id i).0 (of.map i))

  -- the branches
  branches_seen : map_values branch_of (insert place.r.branches branch (with_new_head l.next_version new.id place.b))
      ≡ changed_at branch (with_head draft_id) (repository_of place.r).branches
  branches_seen =
      map_values_insert branch_of place.r.branches branch (with_new_head l.next_version new.id place.b)
      ∙ ap (insert (repository_of place.r).branches branch)
      (head_seen l.next_version new.id place.b distinct ∙ ap (λ id. with_head id (branch_of place.b)) of.id)
      ∙ sym (changed_there (repository_of place.r).branches branch (with_head draft_id) (branch_of place.b)
      (branch_there l repo branch place))

  -- what is drafted is the head of the branch
  repository_seen : repository_of (repository_now l repo branch place new) ≡ draft_on l.cut branch draft (repository_of place.r)
  repository_seen =
      (λ i. record (repository_of place.r) {
        commits = insert place.r.commits (of.id i).0 (of.content i);
        maps = maps_seen i;
        branches = branches_seen i;
      })
      ∙ sym (ap (λ o. option_map_or (with_draft_on (repository_of place.r)) o (repository_of place.r)) (branch_there l repo branch place))

  repositories_seen : map_values repository_of (after_new_head repo branch new l).repositories
      ≡ changed_at repo (draft_on l.cut branch draft) (state_of l).repositories
  repositories_seen =
      ap (map_values repository_of) (repositories_are l repo branch place new)
      ∙ map_values_insert repository_of l.repositories repo (repository_now l repo branch place new)
      ∙ ap (insert (state_of l).repositories repo) repository_seen
      ∙ sym (changed_there (state_of l).repositories repo (draft_on l.cut branch draft) (repository_of place.r)
      (repository_there l repo branch place))

  -- and the history has one entry more
  pub new_head_seen : state_of (after_new_head repo branch new l) ≡ with_one_more (after_draft repo branch draft (state_of l))
  new_head_seen = λ i. record (with_one_more (state_of l)) { repositories = repositories_seen i }
