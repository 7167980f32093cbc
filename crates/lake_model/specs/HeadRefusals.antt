-- What refuses a new head of a branch at its reading, before any step: the causes by their names, and the one order in which
-- they are asked.
use Rattle.std.specs.Prelude.{not, ℕ, List, [], ◌∷◌, length, take, Option, Some, None, is_some, option_and_then, option_map, if◌then◌else◌}
use Rattle.std.specs.FinMap.{contains_key, get, keys}
use Rattle.lake_base.specs.declared.digest.Digest.{Digest}
use Rattle.lake_values.specs.Commit.{AboutValue}
use Rattle.lake_values.specs.KeyMap.{KeyMapValue, differences}
use Rattle.lake_values.specs.Merging.{conflicts, is_refused}
use Rattle.lake_model.specs.declared.fault.HeadRefusal.{HeadRefusal}
use Rattle.lake_model.specs.declared.fault.HeadRefusal.TheVariants.{Dirty, NoChanges, Conflicts, HookDenied}
use Rattle.lake_model.specs.declared.fault.Reference.TheVariants.{Named}
use Rattle.lake_model.specs.declared.fault.StepFault.{StepFault}
use Rattle.lake_model.specs.declared.fault.StepFault.TheVariants.{NoRef, NoRepo}
use Rattle.lake_model.specs.declared.reply.SwapKind.{SwapKind}
use Rattle.lake_model.specs.declared.reply.SwapKind.TheVariants as kind
use Rattle.lake_model.specs.State.{Branch, Repository, State, branch_of, head_map, sealed_map}
use Rattle.lake_model.specs.Commits.{MergeSides, denied_by, merge_sides, pick_sides}
use Rattle.lake_model.specs.Refusals.{cause_if, first_of}
use Rattle.lake_model.specs.Steps.{expired_fault, in_it, swap_rule}

-- ---- the causes, of maps

-- the first of paths
abbrev pub first_path : List (List ℕ) → Option (List ℕ)
first_path [] = None
first_path (path ∷ paths) = Some path

-- the least path at which two maps differ
abbrev pub least_difference : KeyMapValue → KeyMapValue → Option (List ℕ)
least_difference new old = first_path (keys (differences new old))

-- what differs at no path changes nothing of a head
abbrev pub no_changes : Digest → Option (List ℕ) → Option HeadRefusal
no_changes head None = Some (NoChanges head)
no_changes head (Some path) = None

-- two maps that are the same
abbrev pub unchanged_refusal : Digest → KeyMapValue → KeyMapValue → Option HeadRefusal
unchanged_refusal head new old = no_changes head (least_difference new old)

-- sealed changes that change the head's map, by the least path
abbrev pub dirty_refusal : KeyMapValue → KeyMapValue → Option HeadRefusal
dirty_refusal sealed objects = option_map Dirty (least_difference sealed objects)

-- paths that conflict and that the strategy leaves open: the least 100 of them, and how many there are
abbrev pub conflicts_refusal : MergeSides → KeyMapValue → Option HeadRefusal
conflicts_refusal sides dest =
    if is_refused sides.strategy sides.base sides.source dest
    then Some (Conflicts (take 100 (conflicts sides.base sides.source dest)) (length (conflicts sides.base sides.source dest))) else None

-- ---- the order, where the branch is there

-- of a commit: its sealed changes change the head's map, and no hook denies it
abbrev pub commit_refusals : Digest → KeyMapValue → KeyMapValue → Option ℕ → List (Option HeadRefusal)
commit_refusals head sealed objects denied = unchanged_refusal head sealed objects ∷ option_map HookDenied denied ∷ []

-- Of a merge and a pick: nothing is sealed that changes the head's map, the source's map isn't the base's, no path is left
-- open, and no hook denies it.
abbrev pub merge_refusals : Digest → KeyMapValue → KeyMapValue → MergeSides → Option ℕ → List (Option HeadRefusal)
merge_refusals head sealed objects sides denied =
    dirty_refusal sealed objects ∷ unchanged_refusal head sides.source sides.base ∷ conflicts_refusal sides objects ∷ option_map HookDenied denied ∷ []

-- the first hook rule that denies a new head of a branch
abbrev pub denied_on : SwapKind → List ℕ → AboutValue → Repository → Branch → Option ℕ
denied_on swap branch about r b = denied_by r.notes.hooks branch (head_map r b) ((swap_rule swap about).draft r b)

-- by the kind of the new head
abbrev pub head_refusals : SwapKind → List ℕ → AboutValue → Repository → Branch → List (Option HeadRefusal)
head_refusals kind.Commit branch about r b =
    commit_refusals b.head (sealed_map r b) (head_map r b) (denied_on kind.Commit branch about r b)
head_refusals (kind.Merge source strategy) branch about r b =
    merge_refusals b.head (sealed_map r b) (head_map r b) (merge_sides r b source strategy) (denied_on (kind.Merge source strategy) branch about r b)
head_refusals (kind.Pick base source strategy) branch about r b =
    merge_refusals b.head (sealed_map r b) (head_map r b) (pick_sides r base source strategy) (denied_on (kind.Pick base source strategy) branch about r b)

-- ---- the order

-- why a new head is refused at its reading: as a step would be, or for what it would make
pub data ReadingRefusal : Type 0 where
  Step : StepFault → ReadingRefusal
  Head : HeadRefusal → ReadingRefusal

-- what refuses a new head on a branch that is there
abbrev pub refused_on : State → List ℕ → List ℕ → (Repository → Branch → List (Option HeadRefusal)) → Option HeadRefusal
refused_on state repo branch refusals = in_it state repo (λ r. option_and_then (λ b. first_of (refusals r b)) (get r.branches branch))

-- the repository is there, and the branch; the source of a merge or a pick isn't expired; and what is made isn't refused
abbrev pub reading_refusals : State → List ℕ → List ℕ → SwapKind → AboutValue → List (Option ReadingRefusal)
reading_refusals state repo branch swap about =
    option_map Step (cause_if (not (contains_key state.repositories repo)) NoRepo)
    ∷ option_map Step (cause_if (not (is_some (branch_of state repo branch))) (NoRef Named))
    ∷ option_map Step (in_it state repo (λ r. option_and_then (expired_fault r) (swap_rule swap about).source))
    ∷ option_map Head (refused_on state repo branch (head_refusals swap branch about))
    ∷ []

-- THE REFUSAL OF A NEW HEAD AT ITS READING: the first that holds
abbrev pub reading_refusal : State → List ℕ → List ℕ → SwapKind → AboutValue → Option ReadingRefusal
reading_refusal state repo branch swap about = first_of (reading_refusals state repo branch swap about)
