-- What refuses a draft of what was handed out is what refuses the new head at its reading.
use Rattle.std.proofs.Common.{◌≡◌, ℕ, List, Some, None, Option, option_map, refl, sym, ap, subst, ◌∙◌}
use Rattle.std.specs.Prelude.{not, Result, Ok, Err, [], ◌∷◌, option_and_then, is_some}
use Rattle.std.specs.FinMap.{get}
use Rattle.std.specs.Option.{option_map_or, unwrap_or}
use Rattle.lake_values.specs.Commit.{AboutValue}
use Rattle.lake_values.specs.HookDecisions.{denying_rule}
use Rattle.lake_values.specs.KeyMap.{KeyMapValue, differences}
use Rattle.lake_values.specs.declared.settings.HookRule.{HookRule}
use Rattle.lake_model.specs.declared.fault.HeadRefusal.{HeadRefusal}
use Rattle.lake_model.specs.declared.fault.StepFault.{StepFault}
use Rattle.lake_model.specs.declared.fault.StepFault.TheVariants as step
use Rattle.lake_model.specs.declared.fault.Reference.TheVariants.{Named}
use Rattle.lake_model.specs.declared.reply.SwapKind.{SwapKind}
use Rattle.lake_model.specs.declared.reply.SwapKind.TheVariants as kind
use Rattle.lake_model.specs.Commits.{Draft as AnyDraft, denied_by, merge_sides, pick_sides}
use Rattle.lake_model.specs.HeadRefusals.{Head, ReadingRefusal, Step, commit_refusals, head_refusals, merge_refusals, reading_refusal}
use Rattle.lake_model.specs.Preparing.{PreparedValue, expired_source, preparation, prepare_reply}
use Rattle.lake_model.specs.Refusals.{cause_if, first_of, unless_refused}
use Rattle.lake_model.specs.State.{Branch, Repository, State, head_map, sealed_map}
use Rattle.lake_model.specs.Steps.{expired_fault, swap_rule}
use Rattle.lake_model.specs.Versions.{VersionsGiven}
use Rattle.head_drafts.specs.Drafts.{DraftedMap, drafted_map}
use Rattle.head_drafts.specs.HeadDrafts.{IsHeadReply, IsReadingReply, RefusesAs, sides_of, strategy_of}
use Rattle.head_drafts.specs.declared.fault.DraftFault.TheVariants as draft
use Rattle.head_drafts.specs.declared.fault.HeadFault.{HeadFault}
use Rattle.head_drafts.specs.declared.fault.HeadFault.TheVariants as head
use Rattle.head_drafts.specs.declared.heads.HeadDraft.{HeadDraft}

-- ---- where the branch is there

-- where no rules are set, none denies
same_denied : (rules : Option (List HookRule)) (branch : List ℕ) (old : KeyMapValue) (draft : AnyDraft)
    → denied_by rules branch old draft ≡ denying_rule (unwrap_or rules []) branch draft.about.metadata (differences draft.objects old)
same_denied None branch old draft = refl
same_denied (Some rules) branch old draft = refl

module _ (state : State) (given : VersionsGiven) (repo branch : List ℕ) (about : AboutValue) (r : Repository) (b : Branch) where
  -- what refuses what is drafted of the preparation
  pub same_refusal : (swap : SwapKind) → first_of (head_refusals swap branch about r b)
      ≡ (drafted_map (strategy_of swap) (preparation state given repo branch (sides_of swap) r b) branch about.metadata).refusal
  same_refusal kind.Commit =
      ap (λ denied. first_of (commit_refusals b.head (sealed_map r b) (head_map r b) denied))
      (same_denied r.notes.hooks branch (head_map r b) ((swap_rule kind.Commit about).draft r b))
  same_refusal (kind.Merge source strategy) =
      ap (λ denied. first_of (merge_refusals b.head (sealed_map r b) (head_map r b) (merge_sides r b source strategy) denied))
      (same_denied r.notes.hooks branch (head_map r b) ((swap_rule (kind.Merge source strategy) about).draft r b))
  same_refusal (kind.Pick base source strategy) =
      ap (λ denied. first_of (merge_refusals b.head (sealed_map r b) (head_map r b) (pick_sides r base source strategy) denied))
      (same_denied r.notes.hooks branch (head_map r b) ((swap_rule (kind.Pick base source strategy) about).draft r b))

-- the source is the one whose expiry is asked
same_source : (swap : SwapKind) (about : AboutValue) (r : Repository)
    → option_and_then (expired_fault r) (swap_rule swap about).source ≡ option_map_or (expired_source r) (sides_of swap) None
same_source kind.Commit about r = refl
same_source (kind.Merge source strategy) about r = refl
same_source (kind.Pick base source strategy) about r = refl

-- ---- in a lake

module _ (state : State) (given : VersionsGiven) (repo branch : List ℕ) (swap : SwapKind) (about : AboutValue) where
  abbrev drafted : PreparedValue → DraftedMap
  drafted p = drafted_map (strategy_of swap) p branch about.metadata

  -- of a branch that is there, whose source may be expired
  abbrev refusal_by : Repository → Branch → Option StepFault → Option ReadingRefusal
  refusal_by r b expired = first_of (option_map Step expired ∷ option_map Head (first_of (head_refusals swap branch about r b)) ∷ [])

  abbrev reply_by : Repository → Branch → Option StepFault → Result PreparedValue StepFault
  reply_by r b expired = unless_refused expired (preparation state given repo branch (sides_of swap) r b)

  last : (o : Option HeadRefusal) → first_of (option_map Head o ∷ []) ≡ option_map Head o
  last None = refl
  last (Some refusal) = refl

  by_source : (r : Repository) (b : Branch) (expired : Option StepFault) → RefusesAs (reply_by r b expired) drafted (refusal_by r b expired)
  by_source r b None = last (first_of (head_refusals swap branch about r b)) ∙ ap (option_map Head) (same_refusal state given repo branch about r b swap)
  by_source r b (Some fault) = refl

  -- of a branch that may be there
  abbrev refusal_on : Repository → Option Branch → Option ReadingRefusal
  refusal_on r found = first_of (option_map Step (cause_if (not (is_some found)) (step.NoRef Named))
      ∷ option_map Step (option_and_then (expired_fault r) (swap_rule swap about).source)
      ∷ option_map Head (option_and_then (λ b. first_of (head_refusals swap branch about r b)) found) ∷ [])

  abbrev reply_on : Repository → Option Branch → Result PreparedValue StepFault
  reply_on r found = option_map_or (λ b. reply_by r b (option_map_or (expired_source r) (sides_of swap) None)) found (Err (step.NoRef Named))

  on_branch : (r : Repository) (found : Option Branch) → RefusesAs (reply_on r found) drafted (refusal_on r found)
  on_branch r None = refl
  on_branch r (Some b) =
      subst (λ expired. RefusesAs (reply_by r b (option_map_or (expired_source r) (sides_of swap) None)) drafted (refusal_by r b expired))
      (sym (same_source swap about r))
      (by_source r b (option_map_or (expired_source r) (sides_of swap) None))

  -- of a repository that may be there
  abbrev refusal_in : Option Repository → Option ReadingRefusal
  refusal_in found = first_of (option_map Step (cause_if (not (is_some found)) step.NoRepo)
      ∷ option_map Step (cause_if (not (is_some (option_and_then (λ r. get r.branches branch) found))) (step.NoRef Named))
      ∷ option_map Step (option_and_then (λ r. option_and_then (expired_fault r) (swap_rule swap about).source) found)
      ∷ option_map Head (option_and_then (λ r. option_and_then (λ b. first_of (head_refusals swap branch about r b)) (get r.branches branch)) found) ∷ [])

  abbrev reply_in : Option Repository → Result PreparedValue StepFault
  reply_in found = option_map_or (λ r. reply_on r (get r.branches branch)) found (Err step.NoRepo)

  in_lake : (found : Option Repository) → RefusesAs (reply_in found) drafted (refusal_in found)
  in_lake None = refl
  in_lake (Some r) = on_branch r (get r.branches branch)

  pub refuses_as : RefusesAs (prepare_reply state given repo branch (sides_of swap)) drafted (reading_refusal state repo branch swap about)
  refuses_as = in_lake (get state.repositories repo)

-- ---- what is answered

module _ (drafted : PreparedValue → DraftedMap) (refusal : Option ReadingRefusal) where
  pub reading_reply : (reply : Result PreparedValue StepFault) (answer : Result HeadDraft HeadFault) → RefusesAs reply drafted refusal
      → IsHeadReply reply drafted answer → IsReadingReply refusal answer
  reading_reply (Err f) (Err (head.Step step.NoMemory)) told is = tt
  reading_reply (Err f) (Err (head.Step fault)) told is = let same : f ≡ fault = cc in told ∙ ap (λ x. Some (Step x)) same
  reading_reply (Err f) (Err (head.Draft fault)) told is = absurd is
  reading_reply (Err f) (Ok made) told is = absurd is
  reading_reply (Ok p) (Err (head.Step step.NoMemory)) told is = tt
  reading_reply (Ok p) (Err (head.Step fault)) told is = absurd cc
  reading_reply (Ok p) (Err (head.Draft draft.NoMemory)) told is = tt
  reading_reply (Ok p) (Err (head.Draft (draft.Refused cause))) told is = told ∙ ap (option_map Head) is
  reading_reply (Ok p) (Ok made) told is = told ∙ ap (option_map Head) is.draft.0
