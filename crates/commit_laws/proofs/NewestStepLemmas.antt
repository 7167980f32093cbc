-- What one entry makes of a change that is staged at a path, or sealed there.
use Rattle.std.proofs.Common.{◌≡◌, ℕ, Bool, true, List, [], ◌∷◌, ◌++◌, refl, sym, ap, ◌∙◌, ◌⊎◌, inl, inr, subst}
use Rattle.std.specs.Prelude.{Some, None, option_map}
use Rattle.std.specs.Option.{option_or}
use Rattle.std.specs.FinMap.{get}
use Rattle.lake_values.specs.declared.entry.Change.{Change}
use Rattle.lake_values.specs.declared.entry.Change.TheVariants.{Put}
use Rattle.lake_values.proofs.KeyMapLemmas.{get_over}
use Rattle.lake_model.specs.declared.history.EntryKind.{EntryKind}
use Rattle.lake_model.specs.declared.history.EntryKind.TheVariants.{Accepted, Faulted}
use Rattle.lake_model.specs.declared.history.HistoryEntry.{HistoryEntry}
use Rattle.lake_model.specs.declared.history.Operation.TheVariants.{Stage, Copy, Seal}
use Rattle.lake_model.specs.State.{Branch, Repository, State, HasBranch}
use Rattle.lake_model.specs.Parts.{changed_at}
use Rattle.lake_model.specs.Uncommitted.{sealed_branch, with_staged}
use Rattle.lake_model.specs.History.{Allows, after, after_kind}
use Rattle.lake_laws.specs.SealedPaths.{DropsPath, IsAccepted, SealsBranch, TakesChange, WritesPath, uncommitted_change}
use Rattle.lake_laws.proofs.LookupLemmas.{insert_here, itself}
use Rattle.lake_laws.proofs.PartsLemmas.{changed_if, get_changed_at, ties}
use Rattle.lake_laws.proofs.OperationLemmas.{changed_by, get_after, with_branches}
use Rattle.lake_laws.proofs.SealedStepLemmas.{IsCarried, step_by_kind}
use Rattle.lake_laws.proofs.SealedPathLemmas.{IsSealedWith, taken_by}
use Rattle.lake_laws.proofs.SealedFactLemmas.{IsStaged, IsThis, WritesNorSeals, WritesNot, resealed}
use Rattle.lake_laws.proofs.SealedFactLemmas.{sealed_carried, staged_carried, this, uncommitted_carried}
use Rattle.commit_laws.specs.NewestChanges.{IsNewest, IsNewestSealed, StagesChange}
use Rattle.commit_laws.proofs.NewestLemmas.{Neither, Role, Sealer, Writer, newest_on, newest_written}
use Rattle.commit_laws.proofs.NewestLemmas.{role_of, sealed_now, sealed_on, stages_writes, writes_not_seals}

module _ (repo branch path : List ℕ) where
  -- ---- the branch after an entry that stages or seals

  module _ (r : Repository) (b : Branch) (is : get r.branches branch ≡ Some b) where
    own_changed : (name : List ℕ) (f : Branch → Branch) (test : Bool) → test ≡ true → name ≡ branch
        → get (changed_if test (with_branches (changed_at name f)) r).branches branch ≡ Some (f b)
    own_changed name f test touched named =
        ap (λ t. get (changed_if t (with_branches (changed_at name f)) r).branches branch) touched
        ∙ get_changed_at name f r.branches branch
        ∙ ap (option_map (changed_if (ties branch name) f)) is
        ∙ ap (λ t. Some (changed_if t f b)) (subst (λ n. ties branch n ≡ true) (sym named) (itself branch))

    in_repo : (a : List ℕ) → a ≡ repo → ties repo a ≡ true
    in_repo a same = subst (λ n. ties repo n ≡ true) (sym same) (itself repo)

    module _ (state : State) (seat : ℕ) (stands : get state.repositories repo ≡ Some r) where
      pub staged_by : (kind : EntryKind) (put : Change) → IsAccepted (StagesChange repo branch path put) kind
          → HasBranch (after_kind seat kind state) repo branch (λ s x. x ≡ with_staged path put b)
      staged_by (Accepted (Stage a name q staged)) put stages = (
        changed_by state.cut (Stage a name q staged) repo r,
        get_after state seat (Stage a name q staged) repo ∙ ap (option_map (changed_by state.cut (Stage a name q staged) repo)) stands,
        (
          with_staged q staged b,
          own_changed name (with_staged q staged) (ties repo a) (in_repo a stages.0) stages.1,
          λ i. with_staged (stages.2 i) (stages.3 i) b,
        ),
      )
      staged_by (Accepted (Copy a name q from from_path entry)) put stages = (
        changed_by state.cut (Copy a name q from from_path entry) repo r,
        get_after state seat (Copy a name q from from_path entry) repo
            ∙ ap (option_map (changed_by state.cut (Copy a name q from from_path entry) repo)) stands,
        (
          with_staged q (Put entry) b,
          own_changed name (with_staged q (Put entry)) (ties repo a) (in_repo a stages.0) stages.1,
          λ i. with_staged (stages.2 i) (stages.3 i) b,
        ),
      )
      staged_by (Accepted _) put stages = absurd stages
      staged_by (Faulted operation) put stages = absurd stages

      pub sealed_by : (kind : EntryKind) → IsAccepted (SealsBranch repo branch) kind
          → HasBranch (after_kind seat kind state) repo branch (λ s x. x ≡ sealed_branch b)
      sealed_by (Accepted (Seal a name why)) seals = (
        changed_by state.cut (Seal a name why) repo r,
        get_after state seat (Seal a name why) repo ∙ ap (option_map (changed_by state.cut (Seal a name why) repo)) stands,
        (sealed_branch b, own_changed name sealed_branch (ties repo a) (in_repo a seals.0) seals.1, refl),
      )
      sealed_by (Accepted _) seals = absurd seals
      sealed_by (Faulted operation) seals = absurd seals

  -- ---- what is carried along

  -- what is staged isn't committed
  pub staged_is : (b : Branch) (change : Change) → get b.staged path ≡ Some change → uncommitted_change b path ≡ Some change
  staged_is b change is = get_over b.staged b.sealed path ∙ ap (λ o. option_or o (get b.sealed path)) is

  -- and where nothing is staged, what is sealed
  pub unstaged_is : (b : Branch) → get b.staged path ≡ None → get b.sealed path ≡ uncommitted_change b path
  unstaged_is b none = sym (get_over b.staged b.sealed path ∙ ap (λ o. option_or o (get b.sealed path)) none)

  -- one change is sealed, and one isn't committed
  abbrev pub IsBoth : (sealed uncommitted : Change) → Branch → Type 0
  IsBoth sealed uncommitted b = (get b.sealed path ≡ Some sealed) × (uncommitted_change b path ≡ Some uncommitted)

  both_carried : (sealed uncommitted : Change)
      → IsCarried repo branch path (WritesNorSeals repo branch path) (IsBoth sealed uncommitted)
      (IsSealedWith repo branch path (IsThis repo branch path sealed))
  both_carried sealed uncommitted =
      let Above = uncommitted_carried repo branch path (IsThis repo branch path uncommitted) (WritesNot repo branch path uncommitted)
      (λ operation spares writes c. absurd (spares writes)) in
      let Under = sealed_carried repo branch path (IsThis repo branch path sealed) (λ operation. SealsBranch repo branch operation → ⊥)
      (λ operation spares seals c. absurd (spares seals)) in
      let upon = this repo branch path uncommitted in
      let below = this repo branch path sealed in
      record {
        staged = λ operation b q put spares at has.
            (has.0, upon _ (Above.staged operation b q put spares.0 at (uncommitted, has.1, refl)));
        reset = λ b what leaves has.
            (below _ (Under.reset b what leaves (sealed, has.0, refl)), upon _ (Above.reset b what leaves (uncommitted, has.1, refl)));
        sealed = λ operation b spares seals has. absurd (spares.1 seals);
        head = λ b id has. inr (sealed, has.0, refl);
      }

  module _ (change : Change) where
    -- behind these entries the newest change is staged
    pub record IsStagedNow (done : List HistoryEntry) (state : State) : Type 0 where
      pub newest : Change
      pub is_newest : IsNewest repo branch path change done newest
      pub here : HasBranch state repo branch (λ r b. get b.staged path ≡ Some newest)

    -- behind these entries the newest of the last seal is sealed, and the newest isn't committed
    pub record IsSealedNow (done : List HistoryEntry) (state : State) : Type 0 where
      pub sealed : Change
      pub is_sealed : IsNewestSealed repo branch path change done sealed
      pub newest : Change
      pub is_newest : IsNewest repo branch path change done newest
      pub here : HasBranch state repo branch (λ r b. IsBoth sealed newest b)

    abbrev pub Drops : HistoryEntry → Type 0
    Drops entry = IsAccepted (DropsPath repo branch path) entry.kind

    -- a new head takes the newest of the last seal
    abbrev pub Takes : List HistoryEntry → State → HistoryEntry → Type 0
    Takes done state entry =
        (newest : Change) × IsNewestSealed repo branch path change done newest × TakesChange repo branch path newest state entry

    module _ (done : List HistoryEntry) (state : State) (entry : HistoryEntry) (may : Allows state entry) where
      abbrev on : List HistoryEntry
      on = done ++ entry ∷ []

      -- a seal seals what isn't committed
      pub seals_both : (newest : Change) → IsAccepted (SealsBranch repo branch) entry.kind
          → HasBranch state repo branch (λ r b. uncommitted_change b path ≡ Some newest)
          → HasBranch (after state entry) repo branch (λ r b. IsBoth newest newest b)
      seals_both newest seals has =
          let b = has.2.0 in
          let made = sealed_by has.0 b has.2.1 state entry.by.seat has.1 entry.kind seals in (
            made.0,
            made.1,
            (
              made.2.0,
              made.2.1,
              (
                ap (λ (x : Branch). get x.sealed path) made.2.2 ∙ has.2.2,
                ap (λ (x : Branch). uncommitted_change x path) made.2.2 ∙ resealed b path ∙ has.2.2,
              ),
            ),
          )

      -- so it seals the newest
      pub seals_newest : (newest : Change) → IsNewest repo branch path change done newest → IsAccepted (SealsBranch repo branch) entry.kind
          → HasBranch state repo branch (λ r b. uncommitted_change b path ≡ Some newest) → IsSealedNow on (after state entry)
      seals_newest newest is seals has = record {
        sealed = newest;
        is_sealed = sealed_now repo branch path change done entry newest seals is;
        newest = newest;
        is_newest = newest_on repo branch path change done entry newest (λ writes. writes_not_seals repo branch path entry.kind writes seals) is;
        here = seals_both newest seals has;
      }

      pub staged_step : IsStagedNow done state
          → (IsStagedNow on (after state entry) ⊎ IsSealedNow on (after state entry)) ⊎ Drops entry
      staged_step now =
          by_role (role_of repo branch path entry.kind)
        where
          by_role : Role repo branch path entry.kind → (IsStagedNow on (after state entry) ⊎ IsSealedNow on (after state entry)) ⊎ Drops entry
          by_role (Writer put stages) =
              let has = now.here in
              let b = has.2.0 in
              let made = staged_by has.0 b has.2.1 state entry.by.seat has.1 entry.kind put stages in
              inl (inl record {
                newest = put;
                is_newest = newest_written repo branch path change done entry put stages;
                here = (made.0, made.1, (made.2.0, made.2.1, ap (λ (x : Branch). get x.staged path) made.2.2 ∙ insert_here b.staged path put));
              })
          by_role (Sealer seals) =
              let has = now.here in
              inl (inr (seals_newest now.newest now.is_newest seals
              (has.0, has.1, (has.2.0, has.2.1, staged_is has.2.0 now.newest has.2.2))))
          by_role (Neither unwritten unsealed) =
              let has = now.here in
              elim (step_by_kind repo branch path (WritesNorSeals repo branch path) (IsStaged repo branch path now.newest)
              (IsSealedWith repo branch path (λ c. ⊥)) (staged_carried repo branch path now.newest) has.0 has.2.0 has.2.1 has.2.2
              state entry.by.seat entry.kind
              (λ operation kind. (
                λ writes. unwritten (subst (IsAccepted (WritesPath repo branch path)) (sym kind) writes),
                λ seals. unsealed (subst (IsAccepted (SealsBranch repo branch)) (sym kind) seals),
              )) may.possible has.1) [
                | inl still ↦ inl (inl record {
                  newest = now.newest;
                  is_newest = newest_on repo branch path change done entry now.newest unwritten now.is_newest;
                  here = still;
                })
                | inr (inl taken) ↦ absurd taken.1.2
                | inr (inr drops) ↦ inr drops
              ]

      pub sealed_step : IsSealedNow done state → IsSealedNow on (after state entry) ⊎ (Takes done state entry ⊎ Drops entry)
      sealed_step now = by_role (role_of repo branch path entry.kind)
        where
          by_role : Role repo branch path entry.kind → IsSealedNow on (after state entry) ⊎ (Takes done state entry ⊎ Drops entry)
          by_role (Writer put stages) =
              let has = now.here in
              let b = has.2.0 in
              let made = staged_by has.0 b has.2.1 state entry.by.seat has.1 entry.kind put stages in
              let writes = stages_writes repo branch path entry.kind put stages in
              inl record {
                sealed = now.sealed;
                is_sealed = sealed_on repo branch path change done entry now.sealed (writes_not_seals repo branch path entry.kind writes) now.is_sealed;
                newest = put;
                is_newest = newest_written repo branch path change done entry put stages;
                here = (
                  made.0,
                  made.1,
                  (
                    made.2.0,
                    made.2.1,
                    (
                      ap (λ (x : Branch). get x.sealed path) made.2.2 ∙ has.2.2.0,
                      staged_is made.2.0 put (ap (λ (x : Branch). get x.staged path) made.2.2 ∙ insert_here b.staged path put),
                    ),
                  ),
                );
              }
          by_role (Sealer seals) =
              let has = now.here in
              inl (seals_newest now.newest now.is_newest seals (has.0, has.1, (has.2.0, has.2.1, has.2.2.1)))
          by_role (Neither unwritten unsealed) =
              let has = now.here in
              let b = has.2.0 in
              elim (step_by_kind repo branch path (WritesNorSeals repo branch path) (IsBoth now.sealed now.newest)
              (IsSealedWith repo branch path (IsThis repo branch path now.sealed)) (both_carried now.sealed now.newest) has.0 b has.2.1 has.2.2
              state entry.by.seat entry.kind
              (λ operation kind. (
                λ writes. unwritten (subst (IsAccepted (WritesPath repo branch path)) (sym kind) writes),
                λ seals. unsealed (subst (IsAccepted (SealsBranch repo branch)) (sym kind) seals),
              )) may.possible has.1) [
                | inl still ↦ inl record {
                  sealed = now.sealed;
                  is_sealed = sealed_on repo branch path change done entry now.sealed unsealed now.is_sealed;
                  newest = now.newest;
                  is_newest = newest_on repo branch path change done entry now.newest unwritten now.is_newest;
                  here = still;
                }
                | inr (inl taken) ↦ inr (inl (
                  now.sealed,
                  now.is_sealed,
                  taken_by repo branch path state entry has.0 b now.sealed has.1 has.2.1 may.possible taken.0 has.2.2.0,
                ))
                | inr (inr drops) ↦ inr (inr drops)
              ]
