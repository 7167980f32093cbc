-- What a change of a repository keeps.
use Rattle.std.proofs.Common.{◌≡◌, ℕ, true, List, [], ◌∷◌, refl, subst}
use Rattle.std.specs.Prelude.{Some, None}
use Rattle.std.specs.Option.{option_map_or}
use Rattle.std.specs.FinMap.{get}
use Rattle.lake_base.specs.declared.digest.Digest.{Digest}
use Rattle.lake_format.specs.declared.cut.Cut.{Cut}
use Rattle.lake_model.specs.declared.history.RepositoryCommit.{RepositoryCommit}
use Rattle.lake_model.specs.State.{Branch, Repository, State, HasRepository}
use Rattle.lake_model.specs.Commits.{Draft, with_draft, draft_on}
use Rattle.lake_model.specs.Removal.{with_expired}
use Rattle.lake_laws.proofs.PartsLemmas.{ties, tied_stands, changed_if}
use Rattle.lake_laws.proofs.OperationLemmas.{expired_in, kept_if}

-- what each expiry keeps, expiries keep
pub kept_expired : (P : Repository → Type 0) → ((r : Repository) (id : Digest) → P r → P (with_expired id r))
    → (q : List ℕ) (commits : List RepositoryCommit) (r : Repository) → P r → P (expired_in q commits r)
kept_expired P keeps q [] r holds = holds
kept_expired P keeps q (one ∷ commits) r holds =
    kept_expired P keeps q commits (changed_if (ties q one.repo) (with_expired one.commit) r)
    (kept_if P (ties q one.repo) (with_expired one.commit) r (λ tie. keeps r one.commit holds) holds)

-- what holds with the draft on a branch that is there, and where it isn't there, holds
pub kept_draft : (P : Repository → Type 0) (cut : Cut) (branch : List ℕ) (draft : Repository → Branch → Draft) (r : Repository)
    → ((b : Branch) → get r.branches branch ≡ Some b → P (with_draft cut branch (draft r b) r)) → P r → P (draft_on cut branch draft r)
kept_draft P cut branch draft r drafted holds =
    elim (get r.branches branch) as (λ o. get r.branches branch ≡ o → P (option_map_or (λ b. with_draft cut branch (draft r b) r) o r)) [
      | None ↦ λ was. holds
      | Some b ↦ λ was. drafted b was
    ] refl

-- the repository that a condition speaks of is the one that stands under the name
pub held_there : (P : Repository → Type 0) (state : State) (q repo : List ℕ) (r : Repository) → ties q repo ≡ true
    → get state.repositories q ≡ Some r → HasRepository state repo P → P r
held_there P state q repo r tie is has =
    let there : get state.repositories repo ≡ get state.repositories q = tied_stands state.repositories q repo tie in
    let same : has.0 ≡ r = cc (has.1) in
    subst P same has.2
