-- What becomes of a change along a legal history, and that it goes into the commit behind a seal.
use Rattle.std.proofs.Common.{◌≡◌, ℕ, List, [], ◌∷◌, ◌++◌, refl, sym, ap, ◌∙◌, ◌⊎◌, inl, inr, subst}
use Rattle.std.specs.Prelude.{All, Some, IsSome, is_some}
use Rattle.std.specs.FinMap.{get}
use Rattle.std.proofs.lemmas.List.Elements.{All-nil, All-cons, All-head, All-tail}
use Rattle.lake_values.specs.Commit.{AboutValue}
use Rattle.lake_values.specs.declared.entry.Change.{Change}
use Rattle.lake_model.specs.declared.history.By.{By}
use Rattle.lake_model.specs.declared.history.EntryKind.TheVariants.{Accepted}
use Rattle.lake_model.specs.declared.history.HistoryEntry.{HistoryEntry}
use Rattle.lake_model.specs.declared.history.Operation.{Operation}
use Rattle.lake_model.specs.declared.history.Operation.TheVariants.{Commit, Seal}
use Rattle.lake_model.specs.declared.history.SealFor.{SealFor}
use Rattle.lake_model.specs.State.{Branch, State, HasBranch}
use Rattle.lake_model.specs.History.{Allows, IsLegal, accepted_entry, after, replay}
use Rattle.lake_laws.specs.SealedPaths.{uncommitted_change, WritesPath, SealsBranch, IsAccepted, NoneIsAccepted}
use Rattle.lake_laws.specs.SealedPaths.{TakesChange, TakesPath, IsTakenOrDropped, IsDropped}
use Rattle.lake_model.specs.Uncommitted.{sealed_branch}
use Rattle.lake_laws.proofs.HistoryLemmas.{IsLegal-earlier, IsLegal-later}
use Rattle.lake_laws.proofs.LookupLemmas.{of_some}
use Rattle.lake_laws.proofs.SealedStepLemmas.{IsCarried}
use Rattle.lake_laws.proofs.SealedPathLemmas.{seal_made, met_first, met_mapped, taken_by, TakesOne, IsSealedWith, Gone, SparesEntry}
use Rattle.lake_laws.proofs.SealedPathLemmas.{later, behind, before, fate}
use Rattle.lake_laws.proofs.SealedFactLemmas.{IsUncommittedWith, uncommitted_carried, sealed_carried, IsThis, WritesNot, IsSealedOver, over_carried, resealed}
use Rattle.lake_laws.proofs.SealedFactLemmas.{WritesNorSeals, IsStaged, staged_carried}

-- a branch that is there with one fact is there with another
mapped_branch : (repo branch : List ℕ) (P Q : Branch → Type 0) → ((b : Branch) → P b → Q b) → (state : State)
    → HasBranch state repo branch (λ r b. P b) → HasBranch state repo branch (λ r b. Q b)
mapped_branch repo branch P Q implies state has = (has.0, has.1, (has.2.0, has.2.1, implies has.2.0 has.2.2))

-- entries of which none passes
spared : (W : Operation → Type 0) (entries : List HistoryEntry) → NoneIsAccepted W entries
    → All (λ entry. (operation : Operation) → entry.kind ≡ Accepted operation → W operation → ⊥) entries
spared W entries none = λ k entry within operation kind has. none k entry within (subst (IsAccepted W) (sym kind) has)

module _ (repo branch path : List ℕ) where
  -- any change
  abbrev Any : Change → Type 0
  Any c = Unit {0}

  -- whatever comes
  abbrev Whatever : Operation → Type 0
  Whatever operation = Unit {0}

  -- among the entries some change is taken, or the path is dropped
  gone_some : (state : State) (entries : List HistoryEntry) → Gone repo branch path Any state entries
      → IsTakenOrDropped repo branch path (TakesPath repo branch path) state entries
  gone_some state entries gone = elim gone [
    | inl taken ↦ inl (met_mapped (TakesOne repo branch path Any) (TakesPath repo branch path) (λ s entry takes. (takes.0, takes.2)) state entries taken)
    | inr dropped ↦ inr dropped
  ]

  module _ (state : State) (entries : List HistoryEntry) (legal : IsLegal state entries) where
    uncommitted_any : HasBranch state repo branch (λ r b. IsUncommittedWith repo branch path Any Whatever b)
        → HasBranch (replay state entries) repo branch (λ r b. IsUncommittedWith repo branch path Any Whatever b) ⊎ Gone repo branch path Any state entries
    uncommitted_any = fate repo branch path Any Whatever (IsUncommittedWith repo branch path Any Whatever)
        (uncommitted_carried repo branch path Any Whatever (λ operation spares writes c. tt)) state entries legal
        (λ k entry within operation kind. tt)

    sealed_any : HasBranch state repo branch (λ r b. IsSealedWith repo branch path Any b)
        → HasBranch (replay state entries) repo branch (λ r b. IsSealedWith repo branch path Any b) ⊎ Gone repo branch path Any state entries
    sealed_any = fate repo branch path Any Whatever (IsSealedWith repo branch path Any)
        (sealed_carried repo branch path Any Whatever (λ operation spares seals c. tt)) state entries legal
        (λ k entry within operation kind. tt)

    pub uncommitted_stays_some : HasBranch state repo branch (λ r b. IsSome (uncommitted_change b path))
        → HasBranch (replay state entries) repo branch (λ r b. IsSome (uncommitted_change b path))
        ⊎ IsTakenOrDropped repo branch path (TakesPath repo branch path) state entries
    uncommitted_stays_some has =
        let some = mapped_branch repo branch (λ b. IsSome (uncommitted_change b path)) (IsUncommittedWith repo branch path Any Whatever)
        (λ b is. let c = of_some (uncommitted_change b path) is in (c.0, c.1, tt)) state has in
        elim (uncommitted_any some) [
          | inl still ↦ inl (mapped_branch repo branch (IsUncommittedWith repo branch path Any Whatever) (λ b. IsSome (uncommitted_change b path))
              (λ b is. ap is_some is.1) (replay state entries) still)
          | inr gone ↦ inr (gone_some state entries gone)
        ]

    pub sealed_stays_some : HasBranch state repo branch (λ r b. IsSome (get b.sealed path))
        → HasBranch (replay state entries) repo branch (λ r b. IsSome (get b.sealed path))
        ⊎ IsTakenOrDropped repo branch path (TakesPath repo branch path) state entries
    sealed_stays_some has =
        let some = mapped_branch repo branch (λ b. IsSome (get b.sealed path)) (IsSealedWith repo branch path Any)
        (λ b is. let c = of_some (get b.sealed path) is in (c.0, c.1, tt)) state has in
        elim (sealed_any some) [
          | inl still ↦ inl (mapped_branch repo branch (IsSealedWith repo branch path Any) (λ b. IsSome (get b.sealed path))
              (λ b is. ap is_some is.1) (replay state entries) still)
          | inr gone ↦ inr (gone_some state entries gone)
        ]

  module _ (change : Change) (state : State) (entries : List HistoryEntry) (legal : IsLegal state entries) where
    -- among the entries the change is taken, or the path is dropped
    gone_this : Gone repo branch path (IsThis repo branch path change) state entries
        → IsTakenOrDropped repo branch path (TakesChange repo branch path change) state entries
    gone_this gone = elim gone [
      | inl taken ↦ inl (met_mapped (TakesOne repo branch path (IsThis repo branch path change)) (TakesChange repo branch path change)
          (λ s entry takes. subst (λ c. TakesChange repo branch path c s entry) takes.1 takes.2) state entries taken)
      | inr dropped ↦ inr dropped
    ]

    abbrev Unc : Branch → Type 0
    Unc = IsUncommittedWith repo branch path (IsThis repo branch path change) (WritesNot repo branch path change)

    pub uncommitted_stays : NoneIsAccepted (WritesPath repo branch path) entries
        → HasBranch state repo branch (λ r b. uncommitted_change b path ≡ Some change)
        → HasBranch (replay state entries) repo branch (λ r b. uncommitted_change b path ≡ Some change)
        ⊎ IsTakenOrDropped repo branch path (TakesChange repo branch path change) state entries
    uncommitted_stays none has =
        elim (fate repo branch path (IsThis repo branch path change) (WritesNot repo branch path change) Unc
        (uncommitted_carried repo branch path (IsThis repo branch path change) (WritesNot repo branch path change)
        (λ operation spares writes c. absurd (spares writes)))
        state entries legal (spared (WritesPath repo branch path) entries none)
        (mapped_branch repo branch (λ b. uncommitted_change b path ≡ Some change) Unc (λ b is. (change, is, refl)) state has)) [
          | inl still ↦ inl (mapped_branch repo branch Unc (λ b. uncommitted_change b path ≡ Some change)
              (λ b is. is.1 ∙ ap Some is.2) (replay state entries) still)
          | inr gone ↦ inr (gone_this gone)
        ]

    abbrev Sealed : Branch → Type 0
    Sealed = IsSealedWith repo branch path (IsThis repo branch path change)

    pub sealed_stays : NoneIsAccepted (SealsBranch repo branch) entries
        → HasBranch state repo branch (λ r b. get b.sealed path ≡ Some change)
        → HasBranch (replay state entries) repo branch (λ r b. get b.sealed path ≡ Some change)
        ⊎ IsTakenOrDropped repo branch path (TakesChange repo branch path change) state entries
    sealed_stays none has =
        elim (fate repo branch path (IsThis repo branch path change) (λ operation. SealsBranch repo branch operation → ⊥) Sealed
        (sealed_carried repo branch path (IsThis repo branch path change) (λ operation. SealsBranch repo branch operation → ⊥)
        (λ operation spares seals c. absurd (spares seals)))
        state entries legal (spared (SealsBranch repo branch) entries none)
        (mapped_branch repo branch (λ b. get b.sealed path ≡ Some change) Sealed (λ b is. (change, is, refl)) state has)) [
          | inl still ↦ inl (mapped_branch repo branch Sealed (λ b. get b.sealed path ≡ Some change)
              (λ b is. is.1 ∙ ap Some is.2) (replay state entries) still)
          | inr gone ↦ inr (gone_this gone)
        ]

    pub sealed_stays_over : NoneIsAccepted (WritesPath repo branch path) entries
        → HasBranch state repo branch (λ r b. (get b.sealed path ≡ Some change) × (uncommitted_change b path ≡ Some change))
        → HasBranch (replay state entries) repo branch (λ r b. (get b.sealed path ≡ Some change) × (uncommitted_change b path ≡ Some change))
        ⊎ IsTakenOrDropped repo branch path (TakesChange repo branch path change) state entries
    sealed_stays_over none has =
        elim (fate repo branch path (IsThis repo branch path change) (WritesNot repo branch path change) (IsSealedOver repo branch path change)
        (over_carried repo branch path change) state entries legal (spared (WritesPath repo branch path) entries none) has) [
          | inl still ↦ inl still
          | inr gone ↦ inr (gone_this gone)
        ]

  -- a staged change stays staged until a seal, or the path is dropped
  pub staged_stays : (change : Change) (state : State) (entries : List HistoryEntry) → IsLegal state entries
      → NoneIsAccepted (WritesPath repo branch path) entries → NoneIsAccepted (SealsBranch repo branch) entries
      → HasBranch state repo branch (λ r b. get b.staged path ≡ Some change)
      → HasBranch (replay state entries) repo branch (λ r b. get b.staged path ≡ Some change) ⊎ IsDropped repo branch path state entries
  staged_stays change state entries legal unwritten unsealed has =
      let Never : Change → Type 0 = λ c. ⊥ in
      let Spares = WritesNorSeals repo branch path in
      elim (fate repo branch path Never Spares (IsStaged repo branch path change) (staged_carried repo branch path change) state entries legal
      (λ k entry within operation kind. (
        spared (WritesPath repo branch path) entries unwritten k entry within operation kind,
        spared (SealsBranch repo branch) entries unsealed k entry within operation kind,
      )) has) [
        | inl still ↦ inl still
        | inr (inl taken) ↦ absurd taken.has.1
        | inr (inr dropped) ↦ inr dropped
      ]

-- ---- into the commit behind a seal

-- what holds of each of two lists holds of each of the one, and of the other
all_before : {X : Type 0} (P : X → Type 0) (xs ys : List X) → All P (xs ++ ys) → All P xs
all_before P [] ys all = All-nil P
all_before P (x ∷ xs) ys all = All-cons P x xs (All-head P x (xs ++ ys) all) (all_before P xs ys (All-tail P x (xs ++ ys) all))

all_behind : {X : Type 0} (P : X → Type 0) (xs ys : List X) → All P (xs ++ ys) → All P ys
all_behind P [] ys all = all
all_behind P (x ∷ xs) ys all = all_behind P xs ys (All-tail P x (xs ++ ys) all)

module _ (repo branch path : List ℕ) (P : Change → Type 0) (Early Late : Operation → Type 0) (Unsealed Sealed : Branch → Type 0)
    (first : IsCarried repo branch path Early Unsealed (IsSealedWith repo branch path P))
    (second : IsCarried repo branch path Late Sealed (IsSealedWith repo branch path P))
    (at_seal : (b : Branch) → Unsealed b → Sealed (sealed_branch b)) (at_commit : (b : Branch) → Sealed b → IsSealedWith repo branch path P b) where
  abbrev SparedEarly : List HistoryEntry → Type 0
  SparedEarly entries = All (SparesEntry repo branch path P Early Unsealed first) entries

  abbrev SparedLate : List HistoryEntry → Type 0
  SparedLate entries = All (SparesEntry repo branch path P Late Sealed second) entries

  -- a commit takes what is sealed
  commit_takes : (state : State) (committer : By) (about : AboutValue) → Allows state (accepted_entry committer (Commit repo branch about))
      → HasBranch state repo branch (λ r b. Sealed b) → Gone repo branch path P state (accepted_entry committer (Commit repo branch about) ∷ [])
  commit_takes state committer about may has =
      let entry = accepted_entry committer (Commit repo branch about) in
      let r = has.0 in
      let b = has.2.0 in
      let taken = at_commit b has.2.2 in
      inl (met_first (TakesOne repo branch path P) state entry []
      (taken.0, taken.2, taken_by repo branch path state entry r b taken.0 has.1 has.2.1 may.possible (inl (refl, refl)) taken.1))

  -- so a commit behind other entries does, unless it was taken or dropped before
  behind_seal : (state : State) (meanwhile : List HistoryEntry) (committer : By) (about : AboutValue)
      → IsLegal state (meanwhile ++ accepted_entry committer (Commit repo branch about) ∷ []) → SparedLate meanwhile
      → HasBranch state repo branch (λ r b. Sealed b)
      → Gone repo branch path P state (meanwhile ++ accepted_entry committer (Commit repo branch about) ∷ [])
  behind_seal state meanwhile committer about legal spares has =
      let commit = accepted_entry committer (Commit repo branch about) ∷ [] in
      elim (fate repo branch path P Late Sealed second state meanwhile (IsLegal-earlier state meanwhile commit legal) spares has) [
        | inl still ↦ behind repo branch path P state meanwhile commit
            (commit_takes (replay state meanwhile) committer about (IsLegal-later state meanwhile commit legal).0 still)
        | inr gone ↦ before repo branch path P state meanwhile commit gone
      ]

  -- a seal seals it
  seal_takes : (state : State) (sealer : By) (why : SealFor) → HasBranch state repo branch (λ r b. Unsealed b)
      → HasBranch (after state (accepted_entry sealer (Seal repo branch why))) repo branch (λ r b. Sealed b)
  seal_takes state sealer why has =
      let made = seal_made state sealer.seat repo branch has.0 has.2.0 has.1 has.2.1 why in
      (made.0, made.1, (made.2.0, made.2.1, subst Sealed (sym made.2.2) (at_seal has.2.0 has.2.2)))

  -- what is seen before a seal is taken by a commit behind it, or by one in between, unless the path is dropped
  goes_into : (state : State) (between meanwhile : List HistoryEntry) (sealer committer : By) (why : SealFor) (about : AboutValue)
      → IsLegal state (between ++ accepted_entry sealer (Seal repo branch why) ∷ (meanwhile ++ accepted_entry committer (Commit repo branch about) ∷ []))
      → SparedEarly between → SparedLate meanwhile
      → HasBranch state repo branch (λ r b. Unsealed b)
      → Gone repo branch path P state
      (between ++ accepted_entry sealer (Seal repo branch why) ∷ (meanwhile ++ accepted_entry committer (Commit repo branch about) ∷ []))
  goes_into state between meanwhile sealer committer why about legal early late has =
      let seal = accepted_entry sealer (Seal repo branch why) in
      let commit = accepted_entry committer (Commit repo branch about) ∷ [] in
      let rest = seal ∷ (meanwhile ++ commit) in
      let there = replay state between in
      elim (fate repo branch path P Early Unsealed first state between (IsLegal-earlier state between rest legal) early has) [
        | inl still ↦ behind repo branch path P state between rest
            (later repo branch path P there seal (meanwhile ++ commit)
            (behind_seal (after there seal) meanwhile committer about (IsLegal-later state between rest legal).1 late (seal_takes there sealer why still)))
        | inr gone ↦ before repo branch path P state between rest gone
      ]

module _ (repo branch path : List ℕ) where
  -- what a seal and a commit stand behind
  abbrev Ordered : List HistoryEntry → List HistoryEntry → List HistoryEntry → By → By → SealFor → AboutValue → Type 0
  Ordered entries between meanwhile sealer committer why about =
      entries ≡ between ++ accepted_entry sealer (Seal repo branch why) ∷ (meanwhile ++ accepted_entry committer (Commit repo branch about) ∷ [])

  -- of entries of which none passes, those before a seal and those between it and a commit
  parted : (W : Operation → Type 0) (entries between meanwhile : List HistoryEntry) (sealer committer : By) (why : SealFor) (about : AboutValue)
      → Ordered entries between meanwhile sealer committer why about → NoneIsAccepted W entries
      → NoneIsAccepted W between × NoneIsAccepted W meanwhile
  parted W entries between meanwhile sealer committer why about is none =
      let Not : HistoryEntry → Type 0 = λ entry. IsAccepted W entry.kind → ⊥ in
      let seal = accepted_entry sealer (Seal repo branch why) in
      let commit = accepted_entry committer (Commit repo branch about) ∷ [] in
      let all = subst (All Not) is none in (
        all_before Not between (seal ∷ (meanwhile ++ commit)) all,
        all_before Not meanwhile commit (All-tail Not seal (meanwhile ++ commit) (all_behind Not between (seal ∷ (meanwhile ++ commit)) all)),
      )

  -- a change before a seal is taken by the commit behind it, where nothing is staged at the path
  pub goes_into_commit : (change : Change) (state : State) (entries between meanwhile : List HistoryEntry) (sealer committer : By) (why : SealFor)
      (about : AboutValue)
      → Ordered entries between meanwhile sealer committer why about → IsLegal state entries → NoneIsAccepted (WritesPath repo branch path) entries
      → HasBranch state repo branch (λ r b. uncommitted_change b path ≡ Some change)
      → IsTakenOrDropped repo branch path (TakesChange repo branch path change) state entries
  goes_into_commit change state entries between meanwhile sealer committer why about is legal none has =
      let This = IsThis repo branch path change in
      let Spares = WritesNot repo branch path change in
      let Unsealed = IsUncommittedWith repo branch path This Spares in
      let parts = parted (WritesPath repo branch path) entries between meanwhile sealer committer why about is none in
      gone_this repo branch path change state entries legal
      (subst (Gone repo branch path This state) (sym is)
      (goes_into repo branch path This Spares Spares Unsealed (IsSealedOver repo branch path change)
      (uncommitted_carried repo branch path This Spares (λ operation spares writes c. absurd (spares writes)))
      (over_carried repo branch path change)
      (λ b has. (has.1 ∙ ap Some has.2, resealed b path ∙ has.1 ∙ ap Some has.2))
      (λ b has. (change, has.0, refl))
      state between meanwhile sealer committer why about (subst (IsLegal state) is legal)
      (spared (WritesPath repo branch path) between parts.0) (spared (WritesPath repo branch path) meanwhile parts.1)
      (mapped_branch repo branch (λ b. uncommitted_change b path ≡ Some change) Unsealed (λ b has. (change, has, refl)) state has)))

  -- so it is where nothing is staged there before the seal, and no other seal comes between it and the commit
  pub goes_into_commit_sealed : (change : Change) (state : State) (entries between meanwhile : List HistoryEntry) (sealer committer : By)
      (why : SealFor) (about : AboutValue)
      → Ordered entries between meanwhile sealer committer why about → IsLegal state entries
      → NoneIsAccepted (WritesPath repo branch path) between → NoneIsAccepted (SealsBranch repo branch) meanwhile
      → HasBranch state repo branch (λ r b. uncommitted_change b path ≡ Some change)
      → IsTakenOrDropped repo branch path (TakesChange repo branch path change) state entries
  goes_into_commit_sealed change state entries between meanwhile sealer committer why about is legal unwritten unsealed has =
      let This = IsThis repo branch path change in
      let Early = WritesNot repo branch path change in
      let Late : Operation → Type 0 = λ operation. SealsBranch repo branch operation → ⊥ in
      let Unsealed = IsUncommittedWith repo branch path This Early in
      gone_this repo branch path change state entries legal
      (subst (Gone repo branch path This state) (sym is)
      (goes_into repo branch path This Early Late Unsealed (IsSealedWith repo branch path This)
      (uncommitted_carried repo branch path This Early (λ operation spares writes c. absurd (spares writes)))
      (sealed_carried repo branch path This Late (λ operation spares seals c. absurd (spares seals)))
      (λ b has. has)
      (λ b has. has)
      state between meanwhile sealer committer why about (subst (IsLegal state) is legal)
      (spared (WritesPath repo branch path) between unwritten) (spared (SealsBranch repo branch) meanwhile unsealed)
      (mapped_branch repo branch (λ b. uncommitted_change b path ≡ Some change) Unsealed (λ b has. (change, has, refl)) state has)))

  -- and some change is, where others are staged at the path
  pub goes_into_commit_some : (state : State) (entries between meanwhile : List HistoryEntry) (sealer committer : By) (why : SealFor) (about : AboutValue)
      → Ordered entries between meanwhile sealer committer why about → IsLegal state entries
      → HasBranch state repo branch (λ r b. IsSome (uncommitted_change b path))
      → IsTakenOrDropped repo branch path (TakesPath repo branch path) state entries
  goes_into_commit_some state entries between meanwhile sealer committer why about is legal has =
      let Some_change = Any repo branch path in
      let Spares = Whatever repo branch path in
      let Unsealed = IsUncommittedWith repo branch path Some_change Spares in
      gone_some repo branch path state entries
      (subst (Gone repo branch path Some_change state) (sym is)
      (goes_into repo branch path Some_change Spares Spares Unsealed (IsSealedWith repo branch path Some_change)
      (uncommitted_carried repo branch path Some_change Spares (λ operation spares writes c. tt))
      (sealed_carried repo branch path Some_change Spares (λ operation spares seals c. tt))
      (λ b has. has)
      (λ b has. has)
      state between meanwhile sealer committer why about (subst (IsLegal state) is legal)
      (λ k entry within operation kind. tt)
      (λ k entry within operation kind. tt)
      (mapped_branch repo branch (λ b. IsSome (uncommitted_change b path)) Unsealed
      (λ b some. let c = of_some (uncommitted_change b path) some in (c.0, c.1, tt)) state has)))
