-- What a call's own seal seals, what goes into its new head, and which entries are its own.
use Rattle.std.proofs.Common.{◌≡◌, ◌≢◌, ℕ, List, [], ◌∷◌, ◌++◌, refl, sym, ap, ◌∙◌, ◌⊎◌, inl, inr, subst, append_assoc}
use Rattle.std.proofs.lemmas.List.{append-nil}
use Rattle.std.proofs.lemmas.List.Elements.{All-append, All-cons, All-nil, filter-append}
use Rattle.std.specs.Prelude.{Some, filter}
use Rattle.std.specs.FinMap.{get}
use Rattle.lake_values.specs.Commit.{AboutValue}
use Rattle.lake_values.specs.declared.entry.Change.{Change}
use Rattle.lake_model.specs.declared.history.HistoryEntry.{HistoryEntry}
use Rattle.lake_model.specs.declared.reply.SwapKind.{SwapKind}
use Rattle.lake_model.specs.declared.reply.SwapKind.TheVariants as kind
use Rattle.lake_model.specs.State.{State, HasBranch, head_map, sealed_map}
use Rattle.lake_model.specs.History.{Allows, IsLegal, IsPossible, replay}
use Rattle.lake_model.specs.Steps.{swap_operation}
use Rattle.lake_laws.specs.SealedPaths.{CommitsBranch, FindsChange, IsAccepted, IsTakenOrDropped}
use Rattle.lake_laws.specs.SealedPaths.{NoneIsAccepted, SealsBranch, TakesChange, WritesPath, uncommitted_change}
use Rattle.lake_laws.proofs.HistoryLemmas.{IsLegal-earlier, IsLegal-later, replay-append}
use Rattle.lake_laws.proofs.SealedPathLemmas.{taken_by}
use Rattle.call_placement.specs.Rules.{Caller}
use Rattle.call_placement.specs.Points.{is_own}
use Rattle.call_placement.specs.Placed.{own_entries}
use Rattle.call_placement.proofs.WalkLemmas.{accepted_own, drop_front, filter_none, none_of_others, one_own, own_behind}
use Rattle.lake_calls.specs.LakeRules.{by_caller, lake_rules}
use Rattle.lake_calls.proofs.RuleLemmas.{lawful}
use Rattle.commit_laws.specs.NewestChanges.{IsNewest, IsNewestTakenOrDropped}
use Rattle.commit_laws.specs.OwnSeals.{HasNotSealed, HasOwnSeal, HasTwoPoints, AskedHead, head_entry}
use Rattle.commit_laws.specs.OwnSeals.{head_operation, seal_entry, seal_operation, up_to_head, up_to_last, up_to_seal}
use Rattle.commit_laws.proofs.NewestLemmas.{gone_one_seal, gone_unwritten, newest_unwritten}
use Rattle.commit_laws.proofs.NewestFateLemmas.{heads, newest_goes_in, newest_sealed}

-- a new head stages nothing, and seals nothing
head_unwritten : (repo branch path : List ℕ) (swap : SwapKind) (about : AboutValue) → WritesPath repo branch path (swap_operation repo branch swap about) → ⊥
head_unwritten repo branch path kind.Commit about writes = writes
head_unwritten repo branch path (kind.Merge source strategy) about writes = writes
head_unwritten repo branch path (kind.Pick base source strategy) about writes = writes

head_unsealed : (repo branch : List ℕ) (swap : SwapKind) (about : AboutValue) → SealsBranch repo branch (swap_operation repo branch swap about) → ⊥
head_unsealed repo branch kind.Commit about seals = seals
head_unsealed repo branch (kind.Merge source strategy) about seals = seals
head_unsealed repo branch (kind.Pick base source strategy) about seals = seals

-- one that isn't a commit doesn't commit, and comes only where what is sealed changes nothing
head_uncommitted : (repo branch : List ℕ) (swap : SwapKind) (about : AboutValue) → swap ≢ kind.Commit
    → CommitsBranch repo branch (swap_operation repo branch swap about) → ⊥
head_uncommitted repo branch kind.Commit about other commits = other refl
head_uncommitted repo branch (kind.Merge source strategy) about other commits = commits
head_uncommitted repo branch (kind.Pick base source strategy) about other commits = commits

head_clean : (state : State) (seat : ℕ) (repo branch : List ℕ) (swap : SwapKind) (about : AboutValue) → swap ≢ kind.Commit
    → IsPossible state seat (swap_operation repo branch swap about) → HasBranch state repo branch (λ r b. sealed_map r b ≡ head_map r b)
head_clean state seat repo branch kind.Commit about other may = absurd (other refl)
head_clean state seat repo branch (kind.Merge source strategy) about other may = (may.0, may.1, (may.2.0, may.2.1, may.2.2.sides.clean))
head_clean state seat repo branch (kind.Pick base source strategy) about other may = (may.0, may.1, (may.2.0, may.2.1, may.2.2.sides.clean))

module _ (by : Caller) (before after last : List HistoryEntry) (made : AskedHead) (position next_edge : ℕ)
    (points : HasOwnSeal by before after made last position next_edge) where
  abbrev seal : HistoryEntry
  seal = seal_entry by made

  abbrev since : List HistoryEntry
  since = up_to_last by made points.between points.meanwhile last

  -- ---- its own entries

  -- the seal, and the last ones
  pub own_sealed : filter (is_own lake_rules by) last ≡ last → own_entries lake_rules by before after ≡ seal ∷ last
  own_sealed own =
      let p = is_own lake_rules by in
      let behind = own_behind lake_rules by points.meanwhile last points.others_meanwhile own in
      let at_seal : filter p (seal ∷ (points.meanwhile ++ last)) ≡ seal ∷ last =
      filter-append p (seal ∷ []) (points.meanwhile ++ last)
      ∙ (λ i. one_own lake_rules by seal (accepted_own lake_rules lawful by (seal_operation made)) i ++ behind i) in
      let front : filter p since ≡ seal ∷ last =
      filter-append p points.between (seal ∷ (points.meanwhile ++ last))
      ∙ (λ i. none_of_others lake_rules by points.between points.others_between i ++ at_seal i) in
      ap (filter p) (drop_front before (since ++ points.later) after points.whole)
      ∙ filter-append p since points.later
      ∙ (λ i. front i ++ filter_none p points.later points.apart i)
      ∙ append-nil (seal ∷ last)

  module _ (opened : State) (legal : IsLegal opened after) where
    abbrev start : State
    start = replay opened before

    legal_since : IsLegal start (since ++ points.later)
    legal_since = IsLegal-later opened before (since ++ points.later) (subst (IsLegal opened) points.whole legal)

    pub legal_last : IsLegal start since
    legal_last = IsLegal-earlier start since points.later legal_since

    legal_seal : IsLegal start (up_to_seal by made points.between)
    legal_seal = IsLegal-earlier start (up_to_seal by made points.between) (points.meanwhile ++ last)
        (subst (IsLegal start) (sym (append_assoc points.between (seal ∷ []) (points.meanwhile ++ last))) legal_last)

    -- ---- its own seal

    module _ (path : List ℕ) (change : Change)
        (has : HasBranch start made.repo made.branch (λ r b. uncommitted_change b path ≡ Some change)) where
      abbrev HasSealedOne : State → Change → Type 0
      HasSealedOne state newest = HasBranch state made.repo made.branch (λ r b. get b.sealed path ≡ Some newest)

      abbrev behind_seal : State
      behind_seal = replay opened (before ++ up_to_seal by made points.between)

      pub seals_newest_own : ((newest : Change) × IsNewest made.repo made.branch path change points.between newest × HasSealedOne behind_seal newest)
          ⊎ IsNewestTakenOrDropped made.repo made.branch path change start points.between
      seals_newest_own =
          elim (newest_sealed made.repo made.branch path change start points.between (by_caller by) made.why legal_seal has) [
            | inl sealed ↦ inl (
              sealed.0,
              sealed.1,
              subst (λ s. HasSealedOne s sealed.0)
                  (sym (replay-append opened before (up_to_seal by made points.between))) sealed.2,
            )
            | inr gone ↦ inr gone
          ]

      pub seals_own : NoneIsAccepted (WritesPath made.repo made.branch path) points.between
          → HasSealedOne behind_seal change
          ⊎ IsTakenOrDropped made.repo made.branch path (TakesChange made.repo made.branch path change) start points.between
      seals_own unwritten = elim seals_newest_own [
        | inl sealed ↦ inl (subst (HasSealedOne behind_seal)
            (newest_unwritten made.repo made.branch path change points.between sealed.0 unwritten sealed.1) sealed.2)
        | inr gone ↦ inr (gone_unwritten made.repo made.branch path change start points.between unwritten gone)
      ]

module _ (opened : State) (by : Caller) (before after : List HistoryEntry) (made : AskedHead) (position next_edge : ℕ)
    (points : HasTwoPoints by before after made position next_edge) (legal : IsLegal opened after) where
  abbrev rest : List HistoryEntry
  rest = points.meanwhile ++ head_entry by made ∷ []

  -- ---- what goes into its new head

  module _ (path : List ℕ) (change : Change)
      (has : HasBranch (replay opened before) made.repo made.branch (λ r b. uncommitted_change b path ≡ Some change)) where
    abbrev Unwritten : HistoryEntry → Type 0
    Unwritten entry = IsAccepted (WritesPath made.repo made.branch path) entry.kind → ⊥

    abbrev Unsealed : HistoryEntry → Type 0
    Unsealed entry = IsAccepted (SealsBranch made.repo made.branch) entry.kind → ⊥

    abbrev whole : List HistoryEntry
    whole = points.between ++ seal_entry by made ∷ rest

    pub goes_in_newest : IsNewestTakenOrDropped made.repo made.branch path change (replay opened before) whole
    goes_in_newest =
        newest_goes_in made.repo made.branch path change (replay opened before) whole points.between points.meanwhile (by_caller by) (by_caller by)
        made.why made.kind made.about refl
        (legal_last by before after (head_entry by made ∷ []) made position next_edge points opened legal) has

    pub goes_in_unwritten : NoneIsAccepted (WritesPath made.repo made.branch path) points.between
        → NoneIsAccepted (WritesPath made.repo made.branch path) points.meanwhile
        → IsTakenOrDropped made.repo made.branch path (TakesChange made.repo made.branch path change) (replay opened before) whole
    goes_in_unwritten early late =
        let at_head = All-cons Unwritten (head_entry by made) [] (head_unwritten made.repo made.branch path made.kind made.about) (All-nil Unwritten) in
        gone_unwritten made.repo made.branch path change (replay opened before) whole
        (All-append Unwritten points.between (seal_entry by made ∷ rest) early
        (All-cons Unwritten (seal_entry by made) rest (λ writes. writes)
        (All-append Unwritten points.meanwhile (head_entry by made ∷ []) late at_head)))
        goes_in_newest

    pub goes_in_one_seal : NoneIsAccepted (WritesPath made.repo made.branch path) points.between
        → NoneIsAccepted (SealsBranch made.repo made.branch) points.meanwhile
        → IsTakenOrDropped made.repo made.branch path (TakesChange made.repo made.branch path change) (replay opened before) whole
    goes_in_one_seal early late =
        gone_one_seal made.repo made.branch path change (replay opened before) points.between rest (seal_entry by made) early
        (All-append Unsealed points.meanwhile (head_entry by made ∷ []) late
        (All-cons Unsealed (head_entry by made) [] (head_unsealed made.repo made.branch made.kind made.about) (All-nil Unsealed)))
        goes_in_newest

  -- ---- just before its new head

  abbrev ready : List HistoryEntry
  ready = before ++ up_to_head by made points.between points.meanwhile

  may_head : Allows (replay opened ready) (head_entry by made)
  may_head =
      let head = head_entry by made in
      let seal = seal_entry by made in
      let parts = points.whole
      ∙ ap (λ w. before ++ w) (append_assoc points.between (seal ∷ rest) points.later
      ∙ ap (λ w. points.between ++ seal ∷ w) (append_assoc points.meanwhile (head ∷ []) points.later)
      ∙ sym (append_assoc points.between (seal ∷ points.meanwhile) (head ∷ points.later)))
      ∙ sym (append_assoc before (up_to_head by made points.between points.meanwhile) (head ∷ points.later)) in
      (IsLegal-later opened ready (head ∷ points.later) (subst (IsLegal opened) parts legal)).0

  pub clean_before : made.kind ≢ kind.Commit → HasBranch (replay opened ready) made.repo made.branch (λ r b. sealed_map r b ≡ head_map r b)
  clean_before other = head_clean (replay opened ready) by.seat made.repo made.branch made.kind made.about other may_head.possible

  pub finds_sealed : (path : List ℕ) (change : Change) → made.kind ≢ kind.Commit
      → HasBranch (replay opened ready) made.repo made.branch (λ r b. get b.sealed path ≡ Some change)
      → FindsChange made.repo made.branch path change (replay opened ready) (head_entry by made)
  finds_sealed path change other has =
      elim (taken_by made.repo made.branch path (replay opened ready) (head_entry by made) has.0 has.2.0 change has.1 has.2.1 may_head.possible
      (heads made.repo made.branch path change made.kind made.about) has.2.2) [
        | inl commits ↦ absurd (head_uncommitted made.repo made.branch made.kind made.about other commits.commits)
        | inr finds ↦ finds
      ]

-- one that made its new head has its two entries, and no other
pub own_two : (by : Caller) (before after : List HistoryEntry) (made : AskedHead) (position next_edge : ℕ)
    → HasTwoPoints by before after made position next_edge → own_entries lake_rules by before after ≡ seal_entry by made ∷ head_entry by made ∷ []
own_two by before after made position next_edge points =
    own_sealed by before after (head_entry by made ∷ []) made position next_edge points
    (one_own lake_rules by (head_entry by made) (accepted_own lake_rules lawful by (head_operation made)))

-- one that neither sealed nor left anything has none
pub own_none : (by : Caller) (before after : List HistoryEntry) (position next_edge : ℕ) → HasNotSealed by before after [] position next_edge
    → own_entries lake_rules by before after ≡ []
own_none by before after position next_edge not =
    let p = is_own lake_rules by in
    ap (filter p) (drop_front before ((not.others ++ []) ++ not.later) after not.whole)
    ∙ filter-append p (not.others ++ []) not.later
    ∙ (λ i. own_behind lake_rules by not.others [] not.are_others refl i ++ filter_none p not.later not.apart i)
