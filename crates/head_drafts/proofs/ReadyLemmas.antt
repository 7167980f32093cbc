-- What was drafted is ready to be made the head.
use Rattle.std.proofs.Common.{◌≡◌, ℕ, List, Some, None, Option, refl, sym, ap, subst, ◌∙◌}
use Rattle.std.specs.Prelude.{Result, Ok, Err, IfSome}
use Rattle.std.specs.FinMap.{get}
use Rattle.std.specs.Result.{IsErrAnd}
use Rattle.std.specs.Option.{option_map_or}
use Rattle.lake_values.specs.Commit.{AboutValue}
use Rattle.meta_range.specs.Ranges.{TreeValue}
use Rattle.lake_model.specs.declared.fault.StepFault.{StepFault}
use Rattle.lake_model.specs.declared.fault.StepFault.TheVariants as step
use Rattle.lake_model.specs.declared.fault.Reference.TheVariants.{Named}
use Rattle.lake_model.specs.declared.reply.Sides.{Sides}
use Rattle.lake_model.specs.declared.reply.SwapKind.{SwapKind}
use Rattle.lake_model.specs.declared.reply.SwapKind.TheVariants as kind
use Rattle.lake_model.specs.Preparing.{PreparedValue, expired_source, preparation, prepare_reply}
use Rattle.lake_model.specs.Refusals.{Gives, unless_refused}
use Rattle.lake_model.specs.State.{Branch, Repository, State}
use Rattle.lake_model.specs.Steps.{swap_rule}
use Rattle.lake_model.specs.Versions.{VersionsGiven}
use Rattle.lake_laws.specs.Unrefused.{HasCommitsOf}
use Rattle.lake_laws.proofs.HeadRefusalLemmas.{worth_making}
use Rattle.core_readings.specs.Preparations.{AreCommits, HasSides}
use Rattle.lake_core.specs.HeadConditions.{IsReadyFor, IsReadyOn}
use Rattle.core_readings.specs.Trees.{IsCutTree}
use Rattle.head_drafts.specs.Drafts.{DraftedMap, IsDraft, drafted_map}
use Rattle.head_drafts.specs.HeadDrafts.{IsHeadDraft, IsHeadReply, sides_of, strategy_of}
use Rattle.head_drafts.specs.declared.fault.DraftFault.{DraftFault}
use Rattle.head_drafts.specs.declared.fault.HeadFault.{HeadFault}
use Rattle.head_drafts.specs.declared.fault.HeadFault.TheVariants.{Step, Draft}
use Rattle.head_drafts.specs.declared.heads.HeadDraft.{HeadDraft}
use Rattle.head_drafts.proofs.ReadingLemmas.{same_refusal}

-- ---- what was handed out

unless_ok : {X : Type 0} (refusal : Option StepFault) (answer given : X) → unless_refused refusal answer ≡ Ok given → answer ≡ given
unless_ok None answer given is = cc
unless_ok (Some fault) answer given is = absurd cc

-- the repository and the branch of which something was handed out
pub record HandedThere (state : State) (given : VersionsGiven) (repo branch : List ℕ) (sides : Option Sides) (p : PreparedValue) : Type 0 where
  pub r : Repository
  pub b : Branch
  pub at : get state.repositories repo ≡ Some r
  pub on : get r.branches branch ≡ Some b
  pub same : preparation state given repo branch sides r b ≡ p

module _ (state : State) (given : VersionsGiven) (repo branch : List ℕ) (sides : Option Sides) (p : PreparedValue)
    (is : prepare_reply state given repo branch sides ≡ Ok p) where
  -- what is handed out of a repository, of a branch that may be there
  abbrev of_branch : Repository → Option Branch → Result PreparedValue StepFault
  of_branch r found = option_map_or
      (λ b. unless_refused (option_map_or (expired_source r) sides None) (preparation state given repo branch sides r b)) found (Err (step.NoRef Named))

  abbrev of_lake : Option Repository → Result PreparedValue StepFault
  of_lake found = option_map_or (λ r. of_branch r (get r.branches branch)) found (Err step.NoRepo)

  handed : (r : Repository) (b : Branch) → get state.repositories repo ≡ Some r → get r.branches branch ≡ Some b
      → preparation state given repo branch sides r b ≡ p
  handed r b at on = unless_ok (option_map_or (expired_source r) sides None) (preparation state given repo branch sides r b) p
      (sym (ap (of_branch r) on) ∙ sym (ap of_lake at) ∙ is)

  on_branch : (r : Repository) → get state.repositories repo ≡ Some r → (o : Option Branch) → get r.branches branch ≡ o
      → HandedThere state given repo branch sides p
  on_branch r at (Some b) on = record { r = r; b = b; at = at; on = on; same = handed r b at on }
  on_branch r at None none = let refused : Err (step.NoRef Named) ≡ Ok p = sym (ap of_lake at ∙ ap (of_branch r) none) ∙ is in absurd cc

  in_lake : (o : Option Repository) → get state.repositories repo ≡ o → HandedThere state given repo branch sides p
  in_lake (Some r) at = on_branch r at (get r.branches branch) refl
  in_lake None none = let refused : Err step.NoRepo ≡ Ok p = sym (ap of_lake none) ∙ is in absurd cc

  pub handed_there : HandedThere state given repo branch sides p
  handed_there = in_lake (get state.repositories repo) refl

-- ---- it is ready

module _ (state : State) (given : VersionsGiven) (repo branch : List ℕ) (about : AboutValue) (tree : TreeValue) (r : Repository) (b : Branch) where
  -- of the preparation
  abbrev draft_for : SwapKind → DraftedMap
  draft_for swap = drafted_map (strategy_of swap) (preparation state given repo branch (sides_of swap) r b) branch about.metadata

  -- the commits are there
  have_commits : (swap : SwapKind) → ((sides : Sides) → sides_of swap ≡ Some sides → AreCommits r sides) → HasCommitsOf swap r
  have_commits kind.Commit are = tt
  have_commits (kind.Merge source strategy) are = are _ refl
  have_commits (kind.Pick base source strategy) are = are _ refl

  -- what is drafted is the map of the new head
  same_objects : (swap : SwapKind) → (draft_for swap).objects ≡ ((swap_rule swap about).draft r b).objects
  same_objects kind.Commit = refl
  same_objects (kind.Merge source strategy) = refl
  same_objects (kind.Pick base source strategy) = refl

  ready_on : (swap : SwapKind) → ((sides : Sides) → sides_of swap ≡ Some sides → AreCommits r sides) → (draft_for swap).refusal ≡ None
      → IsCutTree state.cut (draft_for swap).objects tree → IsReadyOn state branch swap about tree r b
  ready_on swap are none is =
      let both = worth_making branch about r b swap (have_commits swap are) (same_refusal state given repo branch about r b swap ∙ none) in
      record { worth = both.0; allowed = both.1; drafted = subst (λ objects. IsCutTree state.cut objects tree) (same_objects swap) is }

-- what was drafted of what a branch that is there handed out is ready
pub ready_there : (state : State) (given : VersionsGiven) (repo branch : List ℕ) (about : AboutValue) (swap : SwapKind) (p : PreparedValue) (tree : TreeValue)
    → ((sides : Sides) → sides_of swap ≡ Some sides → HasSides state repo sides) → (r : Repository) (b : Branch) → get state.repositories repo ≡ Some r
    → preparation state given repo branch (sides_of swap) r b ≡ p → IsDraft p.cut (drafted_map (strategy_of swap) p branch about.metadata) (Ok tree)
    → IsReadyOn state branch swap about tree r b
ready_there state given repo branch about swap p tree have r b at same made =
    let draft = subst (λ x. IsDraft x.cut (drafted_map (strategy_of swap) x branch about.metadata) (Ok tree)) (sym same) made in
    ready_on state given repo branch about tree r b swap (λ sides of. have sides of r at) draft.0 draft.1

module _ (state : State) (given : VersionsGiven) (repo branch : List ℕ) (about : AboutValue) (swap : SwapKind) (p : PreparedValue) (tree : TreeValue)
    (is : prepare_reply state given repo branch (sides_of swap) ≡ Ok p)
    (have : (sides : Sides) → sides_of swap ≡ Some sides → HasSides state repo sides) where
  -- what was drafted of the reply is ready, whatever versions guard it
  pub ready : (version settings : ℕ) → IsDraft p.cut (drafted_map (strategy_of swap) p branch about.metadata) (Ok tree)
      → IsReadyFor state given repo branch version settings swap about tree
  ready version settings made current r b at on =
      ready_there state given repo branch about swap p tree have r b at (handed state given repo branch (sides_of swap) p is r b at on) made

-- what holds of the sides, where there are some
pub some_sides : (P : Sides → Type 0) (o : Option Sides) → IfSome o P → (sides : Sides) → o ≡ Some sides → P sides
some_sides P None holds sides is = absurd cc
some_sides P (Some one) holds sides is = let same : one ≡ sides = cc in subst P same holds

-- ---- what is answered

-- a fault that is passed on
pub passed_on : {X : Type 0} (answer : Result X HeadFault) (fault : HeadFault) → IsErrAnd answer (λ e. e ≡ fault) → Err fault ≡ answer
passed_on (Ok x) fault is = absurd is
passed_on (Err e) fault is = ap Err (sym is)

module _ (reply : Result PreparedValue StepFault) (draft : PreparedValue → DraftedMap) where
  -- what the lake refuses
  pub refused_step : (fault : StepFault) → Gives {X = PreparedValue} (Err fault) reply → IsHeadReply reply draft (Err (Step fault))
  refused_step step.NoMemory gives = tt
  refused_step fault gives = sym gives

  -- what has no draft
  pub refused_draft : (p : PreparedValue) (fault : DraftFault) → reply ≡ Ok p → IsDraft p.cut (draft p) (Err fault)
      → IsHeadReply reply draft (Err (Draft fault))
  refused_draft p fault is made = subst (λ x. IsHeadReply x draft (Err (Draft fault))) (sym is) made

  -- what has one
  pub drafted : (p : PreparedValue) (head : HeadDraft) → reply ≡ Ok p → IsHeadDraft p (draft p) head → IsHeadReply reply draft (Ok head)
  drafted p head is made = subst (λ x. IsHeadReply x draft (Ok head)) (sym is) made
