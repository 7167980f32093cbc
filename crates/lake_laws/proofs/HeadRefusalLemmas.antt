-- A new head that isn't refused at its reading is worth making, and allowed; and the other way round.
use Rattle.std.proofs.Common.{◌≡◌, ℕ, Bool, true, false, List, [], ◌∷◌, map, length, Some, None, Option, option_map, refl, sym, ap, ◌∙◌}
use Rattle.std.specs.Prelude.{IfSome, if◌then◌else◌, is_some, not, option_and_then}
use Rattle.std.specs.FinMap.{contains_key, empty, empty_of_len, entries, get, get-empty, len, len-empty, len-entries}
use Rattle.lake_base.specs.Maps.{byte_order}
use Rattle.lake_base.specs.declared.digest.Digest.{Digest}
use Rattle.lake_values.specs.Commit.{AboutValue}
use Rattle.lake_values.specs.KeyMap.{KeyMapValue, differences}
use Rattle.lake_values.specs.declared.entry.Change.{Change}
use Rattle.lake_values.proofs.KeyMapLemmas.{no_difference, same}
use Rattle.lake_model.specs.declared.fault.HeadRefusal.{HeadRefusal}
use Rattle.lake_model.specs.declared.fault.HeadRefusal.TheVariants.{Dirty, HookDenied}
use Rattle.lake_model.specs.declared.fault.StepFault.TheVariants.{Expired, NoRef, NoRepo}
use Rattle.lake_model.specs.declared.fault.Reference.TheVariants.{Named}
use Rattle.lake_model.specs.declared.reply.SwapKind.{SwapKind}
use Rattle.lake_model.specs.declared.reply.SwapKind.TheVariants as kind
use Rattle.lake_model.specs.State.{Branch, Repository, State, branch_of, head_map, is_expired, sealed_map}
use Rattle.lake_model.specs.Commits.{IsMergeable, MergeSides, merge_sides, pick_sides}
use Rattle.lake_model.specs.HeadRefusals.{Head, ReadingRefusal, Step, conflicts_refusal, denied_on, dirty_refusal, first_path, head_refusals}
use Rattle.lake_model.specs.HeadRefusals.{least_difference, merge_refusals, no_changes, reading_refusal, refused_on, unchanged_refusal}
use Rattle.lake_model.specs.Refusals.{cause_if, first_of}
use Rattle.lake_model.specs.Steps.{expired_fault, in_it, swap_rule}
use Rattle.lake_laws.specs.Prepared.{IsWorthMaking}
use Rattle.lake_laws.specs.Unrefused.{HasCommitsOf, IsUnrefused}
use Rattle.lake_laws.proofs.CauseLemmas.{cause_fails, test_fails}
use Rattle.lake_laws.proofs.PlaceLemmas.{answered, asked, branch_none, repository_none}

-- ---- none of some

-- where the first of some is nothing, the front one is, and the first of the others
pub front_none : {X : Type 0} (o : Option X) (later : List (Option X)) → first_of (o ∷ later) ≡ None → (o ≡ None) × (first_of later ≡ None)
front_none None later none = (refl, none)
front_none (Some x) later none = absurd cc

-- and the other way round
pub passes : {X : Type 0} (o : Option X) (later : List (Option X)) → o ≡ None → first_of later ≡ None → first_of (o ∷ later) ≡ None
passes None later is none = none
passes (Some x) later is none = absurd cc

-- no fault of what is no fault
pub none_under : {X Y : Type 0} (f : X → Y) (o : Option X) → option_map f o ≡ None → o ≡ None
none_under f None none = refl
none_under f (Some x) none = absurd cc

-- ---- maps that differ somewhere, and those that don't

none_first : (rows : List (List ℕ × Change)) → first_path (map (λ row. row.0) rows) ≡ None → length rows ≡ 0
none_first [] none = refl
none_first (row ∷ rows) none = absurd cc

first_none : (rows : List (List ℕ × Change)) → length rows ≡ 0 → first_path (map (λ row. row.0) rows) ≡ None
first_none [] none = refl
first_none (row ∷ rows) none = absurd cc

module _ (new old : KeyMapValue) where
  -- maps between which nothing changes are one
  no_changes_same : len (differences new old) ≡ 0 → new ≡ old
  no_changes_same none =
      same new old (λ q. (no_difference new old q).0 (ap (λ changes. get changes q) (empty_of_len (differences new old) none) ∙ get-empty byte_order q))

  same_no_changes : new ≡ old → len (differences new old) ≡ 0
  same_no_changes is =
      let none : differences new old ≡ empty =
      same (differences new old) empty (λ q. (no_difference new old q).1 (ap (λ m. get m q) is) ∙ sym (get-empty byte_order q)) in
      ap len none ∙ len-empty byte_order Change

  -- maps that differ nowhere are the same
  pub same_maps : least_difference new old ≡ None → new ≡ old
  same_maps none = no_changes_same (len-entries (differences new old) ∙ none_first (entries (differences new old)) none)

  -- and the other way round
  pub differ_nowhere : new ≡ old → least_difference new old ≡ None
  differ_nowhere is = first_none (entries (differences new old)) (sym (len-entries (differences new old)) ∙ same_no_changes is)

  -- a map that changes differs
  pub changes : (head : Digest) → unchanged_refusal head new old ≡ None → new ≡ old → ⊥
  changes head none is = let lost : no_changes head None ≡ None = sym (ap (no_changes head) (differ_nowhere is)) ∙ none in absurd cc

  by_path : (head : Digest) (o : Option (List ℕ)) → least_difference new old ≡ o → (new ≡ old → ⊥) → no_changes head o ≡ None
  by_path head None none differ = absurd (differ (same_maps none))
  by_path head (Some path) is differ = refl

  -- and one that differs changes
  pub changed : (head : Digest) → (new ≡ old → ⊥) → unchanged_refusal head new old ≡ None
  changed head differ = by_path head (least_difference new old) refl differ

-- no path is left open
pub settled : (b : Bool) (refusal : HeadRefusal) → (if b then Some refusal else None) ≡ None → b ≡ false
settled true refusal none = absurd cc
settled false refusal none = refl

settles : (b : Bool) (refusal : HeadRefusal) → b ≡ false → (if b then Some refusal else None) ≡ None
settles true refusal is = absurd cc
settles false refusal is = refl

-- ---- where the branch is there

module _ (branch : List ℕ) (about : AboutValue) (r : Repository) (b : Branch) where
  -- a merge or a pick isn't refused: its sides are mergeable, and no hook denies it
  merges : (sides : MergeSides) (denied : Option ℕ) → first_of (merge_refusals b.head (sealed_map r b) (head_map r b) sides denied) ≡ None
      → IsMergeable r b sides × (denied ≡ None)
  merges sides denied none =
      let clean = front_none _ _ none in
      let differ = front_none _ _ clean.1 in
      let open_ones = front_none _ _ differ.1 in
      let hooks = front_none (option_map HookDenied denied) [] open_ones.1 in (
        record {
          clean = same_maps (sealed_map r b) (head_map r b) (none_under Dirty _ clean.0);
          changed = changes sides.source sides.base b.head differ.0;
          settled = settled _ _ open_ones.0;
        },
        none_under HookDenied denied hooks.0,
      )

  none_merges : (sides : MergeSides) (denied : Option ℕ) → IsMergeable r b sides → denied ≡ None
      → first_of (merge_refusals b.head (sealed_map r b) (head_map r b) sides denied) ≡ None
  none_merges sides denied is allowed =
      passes (dirty_refusal (sealed_map r b) (head_map r b)) _ (ap (option_map Dirty) (differ_nowhere (sealed_map r b) (head_map r b) is.clean))
      (passes (unchanged_refusal b.head sides.source sides.base) _ (changed sides.source sides.base b.head is.changed)
      (passes (conflicts_refusal sides (head_map r b)) _ (settles _ _ is.settled)
      (passes (option_map HookDenied denied) [] (ap (option_map HookDenied) allowed) refl)))

  -- what isn't refused is worth making, and allowed
  pub worth_making : (swap : SwapKind) → HasCommitsOf swap r → first_of (head_refusals swap branch about r b) ≡ None
      → IsWorthMaking swap r b × (denied_on swap branch about r b ≡ None)
  worth_making kind.Commit have none =
      let differ = front_none (unchanged_refusal b.head (sealed_map r b) (head_map r b)) _ none in
      let hooks = front_none (option_map HookDenied (denied_on kind.Commit branch about r b)) [] differ.1 in
      (changes (sealed_map r b) (head_map r b) b.head differ.0, none_under HookDenied _ hooks.0)
  worth_making (kind.Merge source strategy) have none =
      let both = merges (merge_sides r b source strategy) (denied_on (kind.Merge source strategy) branch about r b) none in
      ((have, both.0), both.1)
  worth_making (kind.Pick base source strategy) have none =
      let both = merges (pick_sides r base source strategy) (denied_on (kind.Pick base source strategy) branch about r b) none in
      ((have.0, have.1, both.0), both.1)

  -- and the other way round
  pub unrefused : (swap : SwapKind) → IsWorthMaking swap r b → denied_on swap branch about r b ≡ None
      → first_of (head_refusals swap branch about r b) ≡ None
  unrefused kind.Commit worth allowed =
      passes (unchanged_refusal b.head (sealed_map r b) (head_map r b)) _ (changed (sealed_map r b) (head_map r b) b.head worth)
      (passes (option_map HookDenied (denied_on kind.Commit branch about r b)) [] (ap (option_map HookDenied) allowed) refl)
  unrefused (kind.Merge source strategy) worth allowed =
      none_merges (merge_sides r b source strategy) (denied_on (kind.Merge source strategy) branch about r b) worth.1 allowed
  unrefused (kind.Pick base source strategy) worth allowed =
      none_merges (pick_sides r base source strategy) (denied_on (kind.Pick base source strategy) branch about r b) worth.2 allowed

-- ---- of a lake

-- a source that is no cause isn't expired
live_source : (r : Repository) (source : Option Digest) → option_and_then (expired_fault r) source ≡ None → IfSome source (λ id. is_expired r id ≡ false)
live_source r None none = tt
live_source r (Some id) none = test_fails (is_expired r id) (Expired id) none

source_lives : (r : Repository) (source : Option Digest) → IfSome source (λ id. is_expired r id ≡ false) → option_and_then (expired_fault r) source ≡ None
source_lives r None live = refl
source_lives r (Some id) live = cause_fails (is_expired r id) (Expired id) live

module _ (state : State) (repo branch : List ℕ) (swap : SwapKind) (about : AboutValue) (r : Repository) (b : Branch)
    (at : get state.repositories repo ≡ Some r) (on : get r.branches branch ≡ Some b) where
  -- what refuses it on its branch
  pub refused_there : refused_on state repo branch (head_refusals swap branch about) ≡ first_of (head_refusals swap branch about r b)
  refused_there =
      answered state repo (λ x. option_and_then (λ c. first_of (head_refusals swap branch about x c)) (get x.branches branch)) r _ at
      (ap (option_and_then (λ c. first_of (head_refusals swap branch about r c))) on)

  -- the causes one by one
  abbrev no_repository : Option ReadingRefusal
  no_repository = option_map Step (cause_if (not (contains_key state.repositories repo)) NoRepo)

  abbrev no_branch : Option ReadingRefusal
  no_branch = option_map Step (cause_if (not (is_some (branch_of state repo branch))) (NoRef Named))

  abbrev expired_source : Option ReadingRefusal
  expired_source = option_map Step (in_it state repo (λ x. option_and_then (expired_fault x) (swap_rule swap about).source))

  abbrev refused_head : Option ReadingRefusal
  refused_head = option_map Head (refused_on state repo branch (head_refusals swap branch about))

  -- what isn't refused at its reading
  pub reading_passed : HasCommitsOf swap r → reading_refusal state repo branch swap about ≡ None → IsUnrefused swap branch about r b
  reading_passed have none =
      let repository = front_none no_repository (no_branch ∷ expired_source ∷ refused_head ∷ []) none in
      let reference = front_none no_branch (expired_source ∷ refused_head ∷ []) repository.1 in
      let expired = front_none expired_source (refused_head ∷ []) reference.1 in
      let head = front_none refused_head [] expired.1 in
      let both = worth_making branch about r b swap have (sym refused_there ∙ none_under Head _ head.0) in
      record {
        live = live_source r (swap_rule swap about).source
            (asked state repo (λ x. option_and_then (expired_fault x) (swap_rule swap about).source) r None at (none_under Step _ expired.0));
        worth = both.0;
        allowed = both.1;
      }

  -- and the other way round
  pub passes_reading : IsUnrefused swap branch about r b → reading_refusal state repo branch swap about ≡ None
  passes_reading is =
      passes no_repository _ (ap (option_map Step) (repository_none state repo r at))
      (passes no_branch _ (ap (option_map Step) (branch_none state repo branch r b at on))
      (passes expired_source _ (ap (option_map Step)
      (answered state repo (λ x. option_and_then (expired_fault x) (swap_rule swap about).source) r None at
      (source_lives r (swap_rule swap about).source is.live)))
      (passes refused_head [] (ap (option_map Head) (refused_there ∙ unrefused branch about r b swap is.worth is.allowed)) refl)))
