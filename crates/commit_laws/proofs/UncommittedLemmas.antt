-- Where a call made no head, what isn't committed stays so, or is gone by entries of other calls.
use Rattle.std.proofs.Common.{◌≡◌, ℕ, false, List, [], ◌∷◌, ◌++◌, refl, sym, ap, ◌∙◌, ◌⊎◌, inl, inr, subst}
use Rattle.std.proofs.lemmas.List.Elements.{All-append, All-cons, All-head, All-nil, All-weaker}
use Rattle.std.specs.Prelude.{All, Some}
use Rattle.lake_values.specs.declared.entry.Change.{Change}
use Rattle.lake_model.specs.declared.history.HistoryEntry.{HistoryEntry}
use Rattle.lake_model.specs.declared.history.Operation.{Operation}
use Rattle.lake_model.specs.State.{State, HasBranch}
use Rattle.lake_model.specs.History.{IsLegal, replay}
use Rattle.lake_laws.specs.SealedPaths.{DropsPath, IsAccepted, TakesChange, uncommitted_change}
use Rattle.lake_laws.proofs.HistoryLemmas.{IsLegal-later, replay-append}
use Rattle.call_placement.specs.Rules.{Caller}
use Rattle.call_placement.specs.Points.{AreOfOtherCalls, is_own}
use Rattle.call_placement.proofs.WalkLemmas.{drop_front, others_apart}
use Rattle.lake_calls.specs.LakeRules.{lake_rules}
use Rattle.commit_laws.specs.NewestChanges.{IsNewest, IsNewestTakenOrDropped}
use Rattle.commit_laws.specs.OwnSeals.{AskedHead, HasFailed, HasNotMade, HasNotSealed, HasOwnSeal, IsGoneByOthers}
use Rattle.commit_laws.specs.OwnSeals.{fault_note, head_operation, seal_entry, seal_operation, up_to_last}
use Rattle.commit_laws.proofs.NewestLemmas.{all_behind}
use Rattle.commit_laws.proofs.NewestFateLemmas.{newest_stays}

-- what stands behind a front stands there once
same_behind : (before one other whole : List HistoryEntry) → whole ≡ before ++ one → whole ≡ before ++ other → one ≡ other
same_behind before one other whole is also = sym (drop_front before one whole is) ∙ drop_front before other whole also

module _ (by : Caller) (made : AskedHead) where
  -- an entry of another call, the call's seal, or its note of a fault
  abbrev IsIdle : HistoryEntry → Type 0
  IsIdle entry =
      (is_own lake_rules by entry ≡ false) ⊎ ((entry ≡ seal_entry by made) ⊎ ((operation : Operation) × (entry ≡ fault_note by operation)))

  abbrev AreIdle : List HistoryEntry → Type 0
  AreIdle entries = All IsIdle entries

  others_idle : (entries : List HistoryEntry) → AreOfOtherCalls lake_rules by entries → AreIdle entries
  others_idle = All-weaker (λ (entry : HistoryEntry). is_own lake_rules by entry ≡ false) IsIdle (λ entry is. inl is)

  note_idle : (operation : Operation) → AreIdle (fault_note by operation ∷ [])
  note_idle operation = All-cons IsIdle (fault_note by operation) [] (inr (inr (operation, refl))) (All-nil IsIdle)

  module _ (before after entries : List HistoryEntry) (position next_edge : ℕ) (whole : after ≡ before ++ entries) where
    -- so is each entry of a call that made no head
    idle_sealed : (last : List HistoryEntry) → AreIdle last → HasOwnSeal by before after made last position next_edge → AreIdle entries
    idle_sealed last idle points =
        let since = up_to_last by made points.between points.meanwhile last in
        subst AreIdle (same_behind before (since ++ points.later) entries after points.whole whole)
        (All-append IsIdle since points.later
        (All-append IsIdle points.between (seal_entry by made ∷ (points.meanwhile ++ last))
        (others_idle points.between (others_apart lake_rules by points.between points.others_between))
        (All-cons IsIdle (seal_entry by made) (points.meanwhile ++ last) (inr (inl refl))
        (All-append IsIdle points.meanwhile last
        (others_idle points.meanwhile (others_apart lake_rules by points.meanwhile points.others_meanwhile)) idle)))
        (others_idle points.later points.apart))

    idle_unsealed : (last : List HistoryEntry) → AreIdle last → HasNotSealed by before after last position next_edge → AreIdle entries
    idle_unsealed last idle not =
        subst AreIdle (same_behind before ((not.others ++ last) ++ not.later) entries after not.whole whole)
        (All-append IsIdle (not.others ++ last) not.later
        (All-append IsIdle not.others last (others_idle not.others (others_apart lake_rules by not.others not.are_others)) idle)
        (others_idle not.later not.apart))

    all_idle : HasNotMade by before after made position next_edge ⊎ HasFailed by before after made position next_edge → AreIdle entries
    all_idle (inl (inl points)) = idle_sealed [] (All-nil IsIdle) points
    all_idle (inl (inr not)) = idle_unsealed [] (All-nil IsIdle) not
    all_idle (inr (inl points)) = idle_sealed (fault_note by (head_operation made) ∷ []) (note_idle (head_operation made)) points
    all_idle (inr (inr not)) = idle_unsealed (fault_note by (seal_operation made) ∷ []) (note_idle (seal_operation made)) not

  module _ (repo branch path : List ℕ) where
    -- a seal and a note take nothing
    takes_none : (change : Change) (state : State) (entry : HistoryEntry) → IsIdle entry → TakesChange repo branch path change state entry
        → is_own lake_rules by entry ≡ false
    takes_none change state entry (inl other) takes = other
    takes_none change state entry (inr (inl same)) takes = absurd (seal (subst (TakesChange repo branch path change state) same takes))
      where
        seal : TakesChange repo branch path change state (seal_entry by made) → ⊥
        seal (inl commits) = commits.commits
        seal (inr finds) = finds.merges
    takes_none change state entry (inr (inr note)) takes = absurd (fault (subst (TakesChange repo branch path change state) note.1 takes))
      where
        fault : TakesChange repo branch path change state (fault_note by note.0) → ⊥
        fault (inl commits) = commits.commits
        fault (inr finds) = finds.merges

    -- and drop nothing
    abbrev Drops : HistoryEntry → Type 0
    Drops entry = IsAccepted (DropsPath repo branch path) entry.kind

    drops_none : (entry : HistoryEntry) → IsIdle entry → Drops entry → is_own lake_rules by entry ≡ false
    drops_none entry (inl other) drops = other
    drops_none entry (inr (inl same)) drops = absurd (subst Drops same drops)
    drops_none entry (inr (inr note)) drops = absurd (subst Drops note.1 drops)

    module _ (entries : List HistoryEntry) (idle : AreIdle entries) where
      among : (front rest : List HistoryEntry) (entry : HistoryEntry) → entries ≡ front ++ entry ∷ rest → IsIdle entry
      among front rest entry parts = All-head IsIdle entry rest (all_behind IsIdle front (entry ∷ rest) (subst AreIdle parts idle))

      by_others : (change : Change) (state : State) → IsNewestTakenOrDropped repo branch path change state entries
          → IsGoneByOthers by repo branch path change state entries
      by_others change state (inl taken) = inl (
        taken,
        takes_none taken.newest (replay state taken.before) taken.entry (among taken.before taken.later taken.entry taken.parts) taken.takes,
      )
      by_others change state (inr dropped) =
          inr (dropped, drops_none dropped.entry (among dropped.before dropped.later dropped.entry dropped.parts) dropped.has)

-- so what isn't committed stays so, or is gone by others
pub stays_or_others : (opened : State) (by : Caller) (before after entries : List HistoryEntry) (made : AskedHead) (position next_edge : ℕ)
    → HasNotMade by before after made position next_edge ⊎ HasFailed by before after made position next_edge
    → after ≡ before ++ entries → IsLegal opened after → (repo branch path : List ℕ) (change : Change)
    → HasBranch (replay opened before) repo branch (λ r b. uncommitted_change b path ≡ Some change)
    → ((newest : Change) × IsNewest repo branch path change entries newest
    × HasBranch (replay opened after) repo branch (λ r b. uncommitted_change b path ≡ Some newest))
    ⊎ IsGoneByOthers by repo branch path change (replay opened before) entries
stays_or_others opened by before after entries made position next_edge left whole legal repo branch path change has =
    let start = replay opened before in
    elim (newest_stays repo branch path change start entries (IsLegal-later opened before entries (subst (IsLegal opened) whole legal)) has) [
      | inl still ↦ inl (
        still.0,
        still.1,
        subst (λ s. HasBranch s repo branch (λ r b. uncommitted_change b path ≡ Some still.0))
            (sym (ap (replay opened) whole ∙ replay-append opened before entries)) still.2,
      )
      | inr gone ↦ inr (by_others by made repo branch path entries
          (all_idle by made before after entries position next_edge whole left) change start gone)
    ]
