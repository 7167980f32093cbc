-- What becomes of a change that isn't committed along a legal history, and that the newest goes into the head behind a seal.
use Rattle.std.proofs.Common.{◌≡◌, ℕ, List, [], ◌∷◌, ◌++◌, refl, sym, ap, ◌∙◌, ◌⊎◌, inl, inr, subst, append_assoc}
use Rattle.std.proofs.lemmas.List.{append-nil}
use Rattle.std.specs.Prelude.{Option, Some, None}
use Rattle.std.specs.FinMap.{get}
use Rattle.lake_values.specs.Commit.{AboutValue}
use Rattle.lake_values.specs.declared.entry.Change.{Change}
use Rattle.lake_model.specs.declared.history.By.{By}
use Rattle.lake_model.specs.declared.history.HistoryEntry.{HistoryEntry}
use Rattle.lake_model.specs.declared.history.Operation.TheVariants.{Seal}
use Rattle.lake_model.specs.declared.history.SealFor.{SealFor}
use Rattle.lake_model.specs.declared.reply.SwapKind.{SwapKind}
use Rattle.lake_model.specs.declared.reply.SwapKind.TheVariants as kind
use Rattle.lake_model.specs.State.{State, HasBranch}
use Rattle.lake_model.specs.History.{Allows, IsLegal, accepted_entry, after, replay}
use Rattle.lake_model.specs.Steps.{swap_operation}
use Rattle.lake_laws.specs.SealedPaths.{DropsPath, IsAccepted, IsDropped, IsMet, uncommitted_change}
use Rattle.lake_laws.proofs.HistoryLemmas.{IsLegal-earlier, IsLegal-later, replay-append}
use Rattle.lake_laws.proofs.SealedPathLemmas.{met_first, taken_by}
use Rattle.lake_laws.proofs.SealedStepLemmas.{HeadsBranch}
use Rattle.commit_laws.specs.NewestChanges.{IsNewest, IsNewestTakenOrDropped}
use Rattle.commit_laws.proofs.NewestLemmas.{newest_nothing, sealed_nothing}
use Rattle.commit_laws.proofs.NewestStepLemmas.{Drops, IsSealedNow, IsStagedNow, Takes, sealed_step}
use Rattle.commit_laws.proofs.NewestStepLemmas.{seals_both, seals_newest, staged_is, staged_step, unstaged_is}

-- ---- entries among entries

module _ (P : State → HistoryEntry → Type 0) where
  met_later : (state : State) (entry : HistoryEntry) (entries : List HistoryEntry) → IsMet P (after state entry) entries → IsMet P state (entry ∷ entries)
  met_later state entry entries met =
      record { before = entry ∷ met.before; entry = met.entry; later = met.later; parts = ap (λ es. entry ∷ es) met.parts; has = met.has }

  met_before : (state : State) (entries more : List HistoryEntry) → IsMet P state entries → IsMet P state (entries ++ more)
  met_before state entries more met = record {
    before = met.before;
    entry = met.entry;
    later = met.later ++ more;
    parts = ap (λ es. es ++ more) met.parts ∙ append_assoc met.before (met.entry ∷ met.later) more;
    has = met.has;
  }

  met_behind : (state : State) (entries more : List HistoryEntry) → IsMet P (replay state entries) more → IsMet P state (entries ++ more)
  met_behind state [] more met = met
  met_behind state (entry ∷ entries) more met = met_later state entry (entries ++ more) (met_behind (after state entry) entries more met)

module _ (repo branch path : List ℕ) (change : Change) where
  abbrev Dropped : State → HistoryEntry → Type 0
  Dropped state entry = IsAccepted (DropsPath repo branch path) entry.kind

  -- among entries behind others a new head takes the newest of the last seal
  pub record TakesBehind (done : List HistoryEntry) (state : State) (entries : List HistoryEntry) : Type 0 where
    pub before : List HistoryEntry
    pub entry : HistoryEntry
    pub later : List HistoryEntry
    pub parts : entries ≡ before ++ entry ∷ later
    pub takes : Takes repo branch path change (done ++ before) (replay state before) entry

  abbrev pub GoneBehind : List HistoryEntry → State → List HistoryEntry → Type 0
  GoneBehind done state entries = TakesBehind done state entries ⊎ IsDropped repo branch path state entries

  abbrev Staged : List HistoryEntry → State → Type 0
  Staged = IsStagedNow repo branch path change

  abbrev Sealed : List HistoryEntry → State → Type 0
  Sealed = IsSealedNow repo branch path change

  -- ---- those that go before, and those that come behind

  gone_here : (done : List HistoryEntry) (state : State) (entry : HistoryEntry) (entries : List HistoryEntry)
      → Takes repo branch path change done state entry ⊎ Drops repo branch path change entry → GoneBehind done state (entry ∷ entries)
  gone_here done state entry entries (inl takes) = inl record {
    before = [];
    entry = entry;
    later = entries;
    parts = refl;
    takes = subst (λ es. Takes repo branch path change es state entry) (sym (append-nil done)) takes;
  }
  gone_here done state entry entries (inr drops) = inr (met_first Dropped state entry entries drops)

  gone_later : (done : List HistoryEntry) (state : State) (entry : HistoryEntry) (entries : List HistoryEntry)
      → GoneBehind (done ++ entry ∷ []) (after state entry) entries → GoneBehind done state (entry ∷ entries)
  gone_later done state entry entries (inl taken) = inl record {
    before = entry ∷ taken.before;
    entry = taken.entry;
    later = taken.later;
    parts = ap (λ es. entry ∷ es) taken.parts;
    takes = subst (λ es. Takes repo branch path change es (replay (after state entry) taken.before) taken.entry)
        (append_assoc done (entry ∷ []) taken.before) taken.takes;
  }
  gone_later done state entry entries (inr dropped) = inr (met_later Dropped state entry entries dropped)

  gone_before : (done : List HistoryEntry) (state : State) (entries more : List HistoryEntry) → GoneBehind done state entries
      → GoneBehind done state (entries ++ more)
  gone_before done state entries more (inl taken) = inl record {
    before = taken.before;
    entry = taken.entry;
    later = taken.later ++ more;
    parts = ap (λ es. es ++ more) taken.parts ∙ append_assoc taken.before (taken.entry ∷ taken.later) more;
    takes = taken.takes;
  }
  gone_before done state entries more (inr dropped) = inr (met_before Dropped state entries more dropped)

  gone_behind : (done : List HistoryEntry) (state : State) (entries more : List HistoryEntry)
      → GoneBehind (done ++ entries) (replay state entries) more → GoneBehind done state (entries ++ more)
  gone_behind done state entries more (inl taken) = inl record {
    before = entries ++ taken.before;
    entry = taken.entry;
    later = taken.later;
    parts = ap (λ es. entries ++ es) taken.parts ∙ sym (append_assoc entries taken.before (taken.entry ∷ taken.later));
    takes = subst (λ s. Takes repo branch path change (done ++ (entries ++ taken.before)) s taken.entry)
        (sym (replay-append state entries taken.before))
        (subst (λ es. Takes repo branch path change es (replay (replay state entries) taken.before) taken.entry)
        (append_assoc done entries taken.before) taken.takes);
  }
  gone_behind done state entries more (inr dropped) = inr (met_behind Dropped state entries more dropped)

  -- behind nothing
  gone_all : (state : State) (entries : List HistoryEntry) → GoneBehind [] state entries → IsNewestTakenOrDropped repo branch path change state entries
  gone_all state entries (inl taken) = inl record {
    before = taken.before;
    entry = taken.entry;
    later = taken.later;
    parts = taken.parts;
    newest = taken.takes.0;
    is_newest = taken.takes.1;
    takes = taken.takes.2;
  }
  gone_all state entries (inr dropped) = inr dropped

  -- ---- along a legal history

  sealed_fate : (done : List HistoryEntry) (state : State) (entries : List HistoryEntry) → IsLegal state entries → Sealed done state
      → Sealed (done ++ entries) (replay state entries) ⊎ GoneBehind done state entries
  sealed_fate done state [] legal now = inl (subst (λ es. Sealed es state) (sym (append-nil done)) now)
  sealed_fate done state (entry ∷ entries) legal now =
      elim (sealed_step repo branch path change done state entry legal.0 now) [
        | inl next ↦ elim (sealed_fate (done ++ entry ∷ []) (after state entry) entries legal.1 next) [
          | inl still ↦ inl (subst (λ es. Sealed es (replay (after state entry) entries)) (append_assoc done (entry ∷ []) entries) still)
          | inr gone ↦ inr (gone_later done state entry entries gone)
        ]
        | inr gone ↦ inr (gone_here done state entry entries gone)
      ]

  abbrev pub Stands : List HistoryEntry → State → Type 0
  Stands done state = Staged done state ⊎ Sealed done state

  staged_fate : (done : List HistoryEntry) (state : State) (entries : List HistoryEntry) → IsLegal state entries → Staged done state
      → Stands (done ++ entries) (replay state entries) ⊎ GoneBehind done state entries
  staged_fate done state [] legal now = inl (inl (subst (λ es. Staged es state) (sym (append-nil done)) now))
  staged_fate done state (entry ∷ entries) legal now =
      let on = done ++ entry ∷ [] in
      let same = append_assoc done (entry ∷ []) entries in
      elim (staged_step repo branch path change done state entry legal.0 now) [
        | inl (inl next) ↦ elim (staged_fate on (after state entry) entries legal.1 next) [
          | inl still ↦ inl (subst (λ es. Stands es (replay (after state entry) entries)) same still)
          | inr gone ↦ inr (gone_later done state entry entries gone)
        ]
        | inl (inr next) ↦ elim (sealed_fate on (after state entry) entries legal.1 next) [
          | inl still ↦ inl (inr (subst (λ es. Sealed es (replay (after state entry) entries)) same still))
          | inr gone ↦ inr (gone_later done state entry entries gone)
        ]
        | inr drops ↦ inr (gone_here done state entry entries (inr drops))
      ]

  fate : (done : List HistoryEntry) (state : State) (entries : List HistoryEntry) → IsLegal state entries → Stands done state
      → Stands (done ++ entries) (replay state entries) ⊎ GoneBehind done state entries
  fate done state entries legal (inl now) = staged_fate done state entries legal now
  fate done state entries legal (inr now) = elim (sealed_fate done state entries legal now) [
    | inl still ↦ inl (inr still)
    | inr gone ↦ inr gone
  ]

  -- ---- the beginning, and a seal

  abbrev Has : State → Change → Type 0
  Has state newest = HasBranch state repo branch (λ r b. uncommitted_change b path ≡ Some newest)

  begins : (state : State) → Has state change → Stands [] state
  begins state has = by_staged (get has.2.0.staged path) refl
    where
      by_staged : (staged : Option Change) → get has.2.0.staged path ≡ staged → Stands [] state
      by_staged None none = inr record {
        sealed = change;
        is_sealed = sealed_nothing repo branch path change;
        newest = change;
        is_newest = newest_nothing repo branch path change;
        here = (has.0, has.1, (has.2.0, has.2.1, (unstaged_is repo branch path has.2.0 none ∙ has.2.2, has.2.2)));
      }
      by_staged (Some staged) some = inl record {
        newest = change;
        is_newest = newest_nothing repo branch path change;
        here = (has.0, has.1, (has.2.0, has.2.1, some ∙ sym (staged_is repo branch path has.2.0 staged some) ∙ has.2.2));
      }

  -- the newest isn't committed
  stands_newest : (done : List HistoryEntry) (state : State) → Stands done state
      → (newest : Change) × IsNewest repo branch path change done newest × Has state newest
  stands_newest done state (inl now) =
      let has = now.here in
      (now.newest, now.is_newest, (has.0, has.1, (has.2.0, has.2.1, staged_is repo branch path has.2.0 now.newest has.2.2)))
  stands_newest done state (inr now) =
      let has = now.here in
      (now.newest, now.is_newest, (has.0, has.1, (has.2.0, has.2.1, has.2.2.1)))

  abbrev seal_by : By → SealFor → HistoryEntry
  seal_by sealer why = accepted_entry sealer (Seal repo branch why)

  sealed_there : (done : List HistoryEntry) (state : State) (sealer : By) (why : SealFor) → Allows state (seal_by sealer why) → Stands done state
      → Sealed (done ++ seal_by sealer why ∷ []) (after state (seal_by sealer why))
  sealed_there done state sealer why may now =
      let newest = stands_newest done state now in
      seals_newest repo branch path change done state (seal_by sealer why) may newest.0 newest.1 (refl, refl) newest.2

  -- ---- what is seen at last

  pub newest_stays : (state : State) (entries : List HistoryEntry) → IsLegal state entries → Has state change
      → ((newest : Change) × IsNewest repo branch path change entries newest × Has (replay state entries) newest)
      ⊎ IsNewestTakenOrDropped repo branch path change state entries
  newest_stays state entries legal has = elim (fate [] state entries legal (begins state has)) [
    | inl still ↦ inl (stands_newest entries (replay state entries) still)
    | inr gone ↦ inr (gone_all state entries gone)
  ]

  abbrev HasSealedOne : State → Change → Type 0
  HasSealedOne state newest = HasBranch state repo branch (λ r b. get b.sealed path ≡ Some newest)

  -- a seal seals the newest
  pub newest_sealed : (state : State) (between : List HistoryEntry) (sealer : By) (why : SealFor)
      → IsLegal state (between ++ seal_by sealer why ∷ []) → Has state change
      → ((newest : Change) × IsNewest repo branch path change between newest × HasSealedOne (replay state (between ++ seal_by sealer why ∷ [])) newest)
      ⊎ IsNewestTakenOrDropped repo branch path change state between
  newest_sealed state between sealer why legal has =
      let seal = seal_by sealer why in
      elim (newest_stays state between (IsLegal-earlier state between (seal ∷ []) legal) has) [
        | inl still ↦
            let may = (IsLegal-later state between (seal ∷ []) legal).0 in
            let both = seals_both repo branch path change between (replay state between) seal may still.0 (refl, refl) still.2 in
            inl (
              still.0,
              still.1,
              subst (λ s. HasSealedOne s still.0) (sym (replay-append state between (seal ∷ [])))
                  (both.0, both.1, (both.2.0, both.2.1, both.2.2.0)),
            )
        | inr gone ↦ inr gone
      ]

  -- a commit, a merge and a pick make a new head
  pub heads : (kind : SwapKind) (about : AboutValue) → HeadsBranch repo branch (swap_operation repo branch kind about)
  heads kind.Commit about = inl (refl, refl)
  heads (kind.Merge source strategy) about = inr (refl, refl)
  heads (kind.Pick base source strategy) about = inr (refl, refl)

  abbrev head_by : By → SwapKind → AboutValue → HistoryEntry
  head_by maker kind about = accepted_entry maker (swap_operation repo branch kind about)

  head_takes : (done : List HistoryEntry) (state : State) (maker : By) (kind : SwapKind) (about : AboutValue) → Allows state (head_by maker kind about)
      → Sealed done state → GoneBehind done state (head_by maker kind about ∷ [])
  head_takes done state maker kind about may now =
      let has = now.here in
      gone_here done state (head_by maker kind about) [] (inl (
        now.sealed,
        now.is_sealed,
        taken_by repo branch path state (head_by maker kind about) has.0 has.2.0 now.sealed has.1 has.2.1 may.possible (heads kind about) has.2.2.0,
      ))

  -- behind a seal
  goes_in_sealed : (done : List HistoryEntry) (state : State) (meanwhile : List HistoryEntry) (maker : By) (kind : SwapKind) (about : AboutValue)
      → IsLegal state (meanwhile ++ head_by maker kind about ∷ []) → Sealed done state
      → GoneBehind done state (meanwhile ++ head_by maker kind about ∷ [])
  goes_in_sealed done state meanwhile maker kind about legal now =
      let head = head_by maker kind about ∷ [] in
      elim (sealed_fate done state meanwhile (IsLegal-earlier state meanwhile head legal) now) [
        | inl still ↦ gone_behind done state meanwhile head
            (head_takes (done ++ meanwhile) (replay state meanwhile) maker kind about (IsLegal-later state meanwhile head legal).0 still)
        | inr gone ↦ gone_before done state meanwhile head gone
      ]

  goes_in : (state : State) (between meanwhile : List HistoryEntry) (sealer maker : By) (why : SealFor) (kind : SwapKind) (about : AboutValue)
      → IsLegal state (between ++ seal_by sealer why ∷ (meanwhile ++ head_by maker kind about ∷ [])) → Has state change
      → GoneBehind [] state (between ++ seal_by sealer why ∷ (meanwhile ++ head_by maker kind about ∷ []))
  goes_in state between meanwhile sealer maker why kind about legal has =
      let seal = seal_by sealer why in
      let rest = meanwhile ++ head_by maker kind about ∷ [] in
      let there = replay state between in
      let legal_seal = IsLegal-later state between (seal ∷ rest) legal in
      elim (fate [] state between (IsLegal-earlier state between (seal ∷ rest) legal) (begins state has)) [
        | inl still ↦ gone_behind [] state between (seal ∷ rest)
            (gone_later between there seal rest
            (goes_in_sealed (between ++ seal ∷ []) (after there seal) meanwhile maker kind about legal_seal.1
            (sealed_there between there sealer why legal_seal.0 still)))
        | inr gone ↦ gone_before [] state between (seal ∷ rest) gone
      ]

  -- a new head behind a seal takes the newest
  pub newest_goes_in : (state : State) (entries between meanwhile : List HistoryEntry) (sealer maker : By) (why : SealFor) (kind : SwapKind)
      (about : AboutValue)
      → entries ≡ between ++ seal_by sealer why ∷ (meanwhile ++ head_by maker kind about ∷ [])
      → IsLegal state entries → Has state change → IsNewestTakenOrDropped repo branch path change state entries
  newest_goes_in state entries between meanwhile sealer maker why kind about is legal has =
      let whole = between ++ seal_by sealer why ∷ (meanwhile ++ head_by maker kind about ∷ []) in
      subst (IsNewestTakenOrDropped repo branch path change state) (sym is)
      (gone_all state whole (goes_in state between meanwhile sealer maker why kind about (subst (IsLegal state) is legal) has))
