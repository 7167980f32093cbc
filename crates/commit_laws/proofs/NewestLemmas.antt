-- The newest change of a path behind entries, and behind one more; and where none is staged there.
use Rattle.std.proofs.Common.{◌≡◌, ℕ, List, [], ◌∷◌, ◌++◌, refl, ap, ◌∙◌, ◌⊎◌, inl, inr, subst, append_assoc}
use Rattle.std.specs.Prelude.{All}
use Rattle.std.proofs.lemmas.List.Elements.{All-nil, All-cons, All-head, All-tail, All-push}
use Rattle.lake_values.specs.declared.entry.Change.{Change}
use Rattle.lake_values.specs.declared.entry.Change.TheVariants.{Put}
use Rattle.lake_model.specs.declared.history.EntryKind.{EntryKind}
use Rattle.lake_model.specs.declared.history.EntryKind.TheVariants.{Accepted, Faulted}
use Rattle.lake_model.specs.declared.history.HistoryEntry.{HistoryEntry}
use Rattle.lake_model.specs.declared.history.Operation.TheVariants.{Stage, Copy, Seal}
use Rattle.lake_model.specs.State.{State}
use Rattle.lake_model.specs.History.{replay}
use Rattle.lake_laws.specs.SealedPaths.{IsAccepted, IsMet, IsTakenOrDropped, SealsBranch, TakesChange, WritesPath}
use Rattle.lake_laws.proofs.LookupLemmas.{same_or_other}
use Rattle.commit_laws.specs.NewestChanges.{IsNewest, IsNewestSealed, IsNewestTakenOrDropped, SealedAmong, SealedBefore}
use Rattle.commit_laws.specs.NewestChanges.{Staged, StagesChange, Stood, TakesNewest}

-- what holds of each of two lists holds of each of the one, and of the other
pub all_before : {X : Type 0} (P : X → Type 0) (xs ys : List X) → All P (xs ++ ys) → All P xs
all_before P [] ys all = All-nil P
all_before P (x ∷ xs) ys all = All-cons P x xs (All-head P x (xs ++ ys) all) (all_before P xs ys (All-tail P x (xs ++ ys) all))

pub all_behind : {X : Type 0} (P : X → Type 0) (xs ys : List X) → All P (xs ++ ys) → All P ys
all_behind P [] ys all = all
all_behind P (x ∷ xs) ys all = all_behind P xs ys (All-tail P x (xs ++ ys) all)

module _ (repo branch path : List ℕ) where
  three : (r b p : List ℕ) → ((r ≡ repo) × (b ≡ branch) × (p ≡ path)) ⊎ ((r ≡ repo) × (b ≡ branch) × (p ≡ path) → ⊥)
  three r b p = elim (same_or_other r repo) [
    | inl in_repo ↦ elim (same_or_other b branch) [
      | inl in_branch ↦ elim (same_or_other p path) [
        | inl at ↦ inl (in_repo, in_branch, at)
        | inr other ↦ inr (λ same. other same.2)
      ]
      | inr other ↦ inr (λ same. other same.1)
    ]
    | inr other ↦ inr (λ same. other same.0)
  ]

  two : (r b : List ℕ) → ((r ≡ repo) × (b ≡ branch)) ⊎ ((r ≡ repo) × (b ≡ branch) → ⊥)
  two r b = elim (same_or_other r repo) [
    | inl in_repo ↦ elim (same_or_other b branch) [
      | inl in_branch ↦ inl (in_repo, in_branch)
      | inr other ↦ inr (λ same. other same.1)
    ]
    | inr other ↦ inr (λ same. other same.0)
  ]

  -- what a kind of entry is to the path
  pub data Role (kind : EntryKind) : Type 0 where
    Writer : (put : Change) → IsAccepted (StagesChange repo branch path put) kind → Role kind
    Sealer : IsAccepted (SealsBranch repo branch) kind → Role kind
    Neither : (IsAccepted (WritesPath repo branch path) kind → ⊥) → (IsAccepted (SealsBranch repo branch) kind → ⊥) → Role kind

  pub role_of : (kind : EntryKind) → Role kind
  role_of (Accepted (Stage r b p put)) = elim (three r b p) [
    | inl same ↦ Writer put (same.0, same.1, same.2, refl)
    | inr other ↦ Neither other (λ seals. seals)
  ]
  role_of (Accepted (Copy r b p from from_path entry)) = elim (three r b p) [
    | inl same ↦ Writer (Put entry) (same.0, same.1, same.2, refl)
    | inr other ↦ Neither other (λ seals. seals)
  ]
  role_of (Accepted (Seal r b why)) = elim (two r b) [
    | inl same ↦ Sealer same
    | inr other ↦ Neither (λ writes. writes) other
  ]
  role_of (Accepted _) = Neither (λ writes. writes) (λ seals. seals)
  role_of (Faulted operation) = Neither (λ writes. writes) (λ seals. seals)

  -- one that stages a change there writes, and doesn't seal; and one that seals doesn't write
  pub stages_writes : (kind : EntryKind) (put : Change) → IsAccepted (StagesChange repo branch path put) kind
      → IsAccepted (WritesPath repo branch path) kind
  stages_writes (Accepted (Stage r b p staged)) put stages = (stages.0, stages.1, stages.2)
  stages_writes (Accepted (Copy r b p from from_path entry)) put stages = (stages.0, stages.1, stages.2)
  stages_writes (Accepted _) put stages = absurd stages
  stages_writes (Faulted operation) put stages = absurd stages

  pub writes_not_seals : (kind : EntryKind) → IsAccepted (WritesPath repo branch path) kind → IsAccepted (SealsBranch repo branch) kind → ⊥
  writes_not_seals (Accepted (Stage r b p staged)) writes seals = seals
  writes_not_seals (Accepted (Copy r b p from from_path entry)) writes seals = seals
  writes_not_seals (Accepted _) writes seals = absurd writes
  writes_not_seals (Faulted operation) writes seals = absurd writes

  module _ (change : Change) where
    -- ---- one entry more

    abbrev pub Newest : List HistoryEntry → Change → Type 0
    Newest = IsNewest repo branch path change

    abbrev pub NewestSealed : List HistoryEntry → Change → Type 0
    NewestSealed = IsNewestSealed repo branch path change

    abbrev Unwritten : HistoryEntry → Type 0
    Unwritten entry = IsAccepted (WritesPath repo branch path) entry.kind → ⊥

    abbrev Unsealed : HistoryEntry → Type 0
    Unsealed entry = IsAccepted (SealsBranch repo branch) entry.kind → ⊥

    pub newest_nothing : Newest [] change
    newest_nothing = Stood (All-nil Unwritten) refl

    pub newest_written : (done : List HistoryEntry) (entry : HistoryEntry) (put : Change) → IsAccepted (StagesChange repo branch path put) entry.kind
        → Newest (done ++ entry ∷ []) put
    newest_written done entry put stages = Staged done entry [] refl stages (All-nil Unwritten)

    pub newest_on : (done : List HistoryEntry) (entry : HistoryEntry) (newest : Change) → Unwritten entry → Newest done newest
        → Newest (done ++ entry ∷ []) newest
    newest_on done entry newest spares (Stood none is) = Stood (All-push Unwritten done entry none spares) is
    newest_on done entry newest spares (Staged early one late parts stages none) =
        Staged early one (late ++ entry ∷ []) (ap (λ es. es ++ entry ∷ []) parts ∙ append_assoc early (one ∷ late) (entry ∷ [])) stages
        (All-push Unwritten late entry none spares)

    pub sealed_nothing : NewestSealed [] change
    sealed_nothing = SealedBefore (All-nil Unsealed) refl

    pub sealed_now : (done : List HistoryEntry) (entry : HistoryEntry) (newest : Change) → IsAccepted (SealsBranch repo branch) entry.kind
        → Newest done newest → NewestSealed (done ++ entry ∷ []) newest
    sealed_now done entry newest seals is = SealedAmong done entry [] refl seals (All-nil Unsealed) is

    pub sealed_on : (done : List HistoryEntry) (entry : HistoryEntry) (newest : Change) → Unsealed entry → NewestSealed done newest
        → NewestSealed (done ++ entry ∷ []) newest
    sealed_on done entry newest spares (SealedBefore none is) = SealedBefore (All-push Unsealed done entry none spares) is
    sealed_on done entry newest spares (SealedAmong early seal late parts seals none is) =
        SealedAmong early seal (late ++ entry ∷ []) (ap (λ es. es ++ entry ∷ []) parts ∙ append_assoc early (seal ∷ late) (entry ∷ [])) seals
        (All-push Unsealed late entry none spares) is

    -- ---- where none is staged there

    -- the newest is the one that stood before
    pub newest_unwritten : (entries : List HistoryEntry) (newest : Change) → All Unwritten entries → Newest entries newest → newest ≡ change
    newest_unwritten entries newest unwritten (Stood none is) = is
    newest_unwritten entries newest unwritten (Staged early entry late parts stages none) =
        absurd (All-head Unwritten entry late (all_behind Unwritten early (entry ∷ late) (subst (All Unwritten) parts unwritten))
        (stages_writes entry.kind newest stages))

    pub sealed_unwritten : (entries : List HistoryEntry) (newest : Change) → All Unwritten entries → NewestSealed entries newest → newest ≡ change
    sealed_unwritten entries newest unwritten (SealedBefore none is) = is
    sealed_unwritten entries newest unwritten (SealedAmong early seal late parts seals none is) =
        newest_unwritten early newest (all_before Unwritten early (seal ∷ late) (subst (All Unwritten) parts unwritten)) is

    -- so a new head that takes the newest takes that one
    taken_same : (state : State) (entries : List HistoryEntry) (taken : TakesNewest repo branch path change state entries) → taken.newest ≡ change
        → IsMet (TakesChange repo branch path change) state entries
    taken_same state entries taken same = record {
      before = taken.before;
      entry = taken.entry;
      later = taken.later;
      parts = taken.parts;
      has = subst (λ c. TakesChange repo branch path c (replay state taken.before) taken.entry) same taken.takes;
    }

    pub gone_same : (state : State) (entries : List HistoryEntry)
        → ((taken : TakesNewest repo branch path change state entries) → taken.newest ≡ change)
        → IsNewestTakenOrDropped repo branch path change state entries
        → IsTakenOrDropped repo branch path (TakesChange repo branch path change) state entries
    gone_same state entries same (inl taken) = inl (taken_same state entries taken (same taken))
    gone_same state entries same (inr dropped) = inr dropped

    pub gone_unwritten : (state : State) (entries : List HistoryEntry) → All Unwritten entries
        → IsNewestTakenOrDropped repo branch path change state entries
        → IsTakenOrDropped repo branch path (TakesChange repo branch path change) state entries
    gone_unwritten state entries unwritten =
        gone_same state entries (λ taken. sealed_unwritten taken.before taken.newest
        (all_before Unwritten taken.before (taken.entry ∷ taken.later) (subst (All Unwritten) taken.parts unwritten)) taken.is_newest)

    -- ---- where none is staged before a seal, and no other seal comes behind it

    -- entries before a seal stand before the only one there is
    unwritten_before : (between behind early late : List HistoryEntry) (own seal : HistoryEntry)
        → between ++ own ∷ behind ≡ early ++ seal ∷ late → IsAccepted (SealsBranch repo branch) seal.kind
        → All Unwritten between → All Unsealed behind → All Unwritten early
    unwritten_before between behind [] late own seal parts seals unwritten unsealed = All-nil Unwritten
    unwritten_before [] behind (entry ∷ early) late own seal parts seals unwritten unsealed =
        let rest : behind ≡ early ++ seal ∷ late = cc in
        absurd (All-head Unsealed seal late (all_behind Unsealed early (seal ∷ late) (subst (All Unsealed) rest unsealed)) seals)
    unwritten_before (first ∷ between) behind (entry ∷ early) late own seal parts seals unwritten unsealed =
        let same : first ≡ entry = cc in
        let rest : between ++ own ∷ behind ≡ early ++ seal ∷ late = cc in
        All-cons Unwritten entry early (subst Unwritten same (All-head Unwritten first between unwritten))
        (unwritten_before between behind early late own seal rest seals (All-tail Unwritten first between unwritten) unsealed)

    newest_before_seal : (between behind before later : List HistoryEntry) (own entry : HistoryEntry) (newest : Change)
        → between ++ own ∷ behind ≡ before ++ entry ∷ later → All Unwritten between → All Unsealed behind
        → NewestSealed before newest → newest ≡ change
    newest_before_seal between behind before later own entry newest parts unwritten unsealed (SealedBefore none is) = is
    newest_before_seal between behind before later own entry newest parts unwritten unsealed (SealedAmong early seal late split seals none is) =
        newest_unwritten early newest
        (unwritten_before between behind early (late ++ entry ∷ later) own seal
        (parts ∙ ap (λ es. es ++ entry ∷ later) split ∙ append_assoc early (seal ∷ late) (entry ∷ later)) seals unwritten unsealed) is

    pub gone_one_seal : (state : State) (between behind : List HistoryEntry) (own : HistoryEntry) → All Unwritten between → All Unsealed behind
        → IsNewestTakenOrDropped repo branch path change state (between ++ own ∷ behind)
        → IsTakenOrDropped repo branch path (TakesChange repo branch path change) state (between ++ own ∷ behind)
    gone_one_seal state between behind own unwritten unsealed =
        gone_same state (between ++ own ∷ behind) (λ taken.
        newest_before_seal between behind taken.before taken.later own taken.entry taken.newest taken.parts unwritten unsealed taken.is_newest)
