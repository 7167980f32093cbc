-- The branch main of a lake that went out from the fresh one.
use Rattle.std.proofs.Common.{◌≡◌, ℕ, List, [], ◌∷◌, IsSome, Option, Some, None, refl, subst}
use Rattle.std.specs.Prelude.{codes}
use Rattle.std.specs.FinMap.{empty, get}
use Rattle.lake_format.specs.declared.cut.Cut.{Cut}
use Rattle.lake_model.specs.declared.history.HistoryEntry.{HistoryEntry}
use Rattle.lake_model.specs.declared.history.Operation.{Operation}
use Rattle.lake_model.specs.declared.history.Operation.TheVariants.{Commit, Merge, Pick, Expire}
use Rattle.lake_model.specs.Commits.{commit_draft, merge_draft, new_repository, pick_draft}
use Rattle.lake_model.specs.History.{IsLegal, after, replay}
use Rattle.lake_model.specs.Soundness.{IsSound, fresh}
use Rattle.lake_model.specs.State.{HasRepository, Repository, State}
use Rattle.lake_laws.proofs.KeepingLemmas.{kept_draft, kept_expired}
use Rattle.lake_laws.proofs.LookupLemmas.{insert_here}
use Rattle.lake_laws.proofs.OperationLemmas.{HasRepository-after, Keeps}
use Rattle.lake_laws.proofs.SoundnessLemmas.{IsSound-fresh, IsSound-replay}
use Rattle.lake_generator.specs.MainHead.{HasMain}

-- ---- a repository keeps its default branch
module _ (name : List ℕ) where
  abbrev HasDefault : Repository → Type 0
  HasDefault r = r.default_branch ≡ name

  default_by : (state : State) (seat : ℕ) (q : List ℕ) (operation : Operation) → Keeps state seat q HasDefault operation
  default_by state seat q (Commit repo branch about) r may tie is has =
      kept_draft HasDefault state.cut branch (λ s b. commit_draft s b about) r (λ b was. has) has
  default_by state seat q (Merge repo branch source strategy about) r may tie is has =
      kept_draft HasDefault state.cut branch (merge_draft source strategy about) r (λ b was. has) has
  default_by state seat q (Pick repo branch base source strategy about) r may tie is has =
      kept_draft HasDefault state.cut branch (pick_draft base source strategy about) r (λ b was. has) has
  default_by state seat q (Expire now commits) r may tie is has = kept_expired HasDefault (λ s one h. h) q commits r has
  default_by state seat q _ r may tie is has = has

  default_replay : (q : List ℕ) (entries : List HistoryEntry) (state : State) → IsLegal state entries → HasRepository state q HasDefault
      → HasRepository (replay state entries) q HasDefault
  default_replay q [] state legal has = has
  default_replay q (entry ∷ entries) state legal has =
      default_replay q entries (after state entry) legal.1
      (HasRepository-after state entry q HasDefault legal.0 (λ operation kind. default_by state entry.by.seat q operation) has)

some_of : {X : Type 0} (found : Option X) → IsSome found → (x : X) × (found ≡ Some x)
some_of (Some x) is = (x, refl)
some_of None is = absurd cc

-- the default branch of a sound repository is there
main_of : (from : State) (entries : List HistoryEntry) → IsSound (replay from entries)
    → HasRepository (replay from entries) (codes "quickstart") (λ r. r.default_branch ≡ codes "main") → HasMain (replay from entries) (λ r b. Unit {0})
main_of from entries sound (r, there, is) =
    let branch = some_of (get r.branches (codes "main"))
    (subst (λ name. IsSome (get r.branches name)) is ((sound.repositories (codes "quickstart") r there).default)) in
    (r, there, (branch.0, branch.1, tt))

-- main is there behind every legal history of the fresh lake
pub main_there : (cut : Cut) (entries : List HistoryEntry) → IsLegal (fresh cut) entries → HasMain (replay (fresh cut) entries) (λ r b. Unit {0})
main_there cut entries legal =
    let q = codes "quickstart" in
    let main = codes "main" in
    let first : HasRepository (fresh cut) q (λ r. r.default_branch ≡ main) =
    (new_repository cut 0 main, insert_here empty q (new_repository cut 0 main), refl) in
    main_of (fresh cut) entries (IsSound-replay (fresh cut) entries (IsSound-fresh cut) legal) (default_replay main q entries (fresh cut) legal first)
