-- What single entries make of a scene, and where they may come.
use Rattle.std.proofs.Common.{◌≡◌, ◌<◌, ℕ, false, List, refl, sym, ap, ◌∙◌}
use Rattle.std.specs.FinMap.{get, insert, empty, get-empty}
use Rattle.std.specs.Option.{option_or}
use Rattle.lake_base.specs.Maps.{byte_order}
use Rattle.lake_base.specs.declared.digest.Digest.{Digest}
use Rattle.lake_values.specs.KeyMap.{KeyMapValue, ChangesValue, apply, over, value_after}
use Rattle.lake_values.specs.declared.entry.Change.{Change}
use Rattle.lake_values.specs.declared.entry.Change.TheVariants.{Put, Delete}
use Rattle.lake_values.proofs.KeyMapLemmas.{get_apply, get_over, same, over_one}
use Rattle.lake_format.specs.declared.cut.Cut.{Cut}
use Rattle.lake_model.specs.declared.history.Operation.{Operation}
use Rattle.lake_model.specs.declared.history.Operation.TheVariants.{Stage, Seal}
use Rattle.lake_model.specs.declared.history.SealFor.{SealFor}
use Rattle.lake_model.specs.State.{Branch, Repository, State}
use Rattle.lake_model.specs.Branches.{clean_branch}
use Rattle.lake_model.specs.Commits.{new_repository}
use Rattle.lake_model.specs.Uncommitted.{with_staged, sealed_branch, after_ticket_drop}
use Rattle.lake_model.specs.History.{Allows, IsPossible, after}
use Rattle.lake_model.specs.Soundness.{fresh}
use Rattle.law_examples.specs.HistoryWords.{quickstart, main, first, outside, own, entry_by, entry_of}
use Rattle.law_examples.proofs.SceneLemmas.{scene, counted, in_main}

-- the fresh lake is a scene
abbrev pub first_repository : Cut → Repository
first_repository cut = new_repository cut 0 main

abbrev pub first_branch : Cut → Branch
first_branch cut = clean_branch (first cut)

pub fresh_scene : (cut : Cut) → fresh cut ≡ scene (fresh cut) (first_repository cut) (first_branch cut)
fresh_scene cut = refl

-- nothing put over changes leaves them, and nothing done leaves a map
pub over_nothing : (old : ChangesValue) → over empty old ≡ old
over_nothing old = same _ _ (λ q. get_over empty old q ∙ ap (λ o. option_or o (get old q)) (get-empty byte_order q))

pub apply_nothing : (map : KeyMapValue) → apply empty map ≡ map
apply_nothing map = same _ _ (λ q. get_apply empty map q ∙ ap (λ o. value_after o (get map q)) (get-empty byte_order q))

module _ (s : State) (r : Repository) (b : Branch) where
  -- an operation that is possible may come next
  pub may : (seat : ℕ) (operation : Operation) → s.stopped ≡ false → s.entries < 4194304 → IsPossible (scene s r b) seat operation
      → Allows (scene s r b) (entry_by seat operation)
  may seat operation running room possible = record { running = running; room = room; possible = possible }

  -- an outside object, or a deletion, is staged
  pub after_put_outside : (path : List ℕ)
      → after (scene s r b) (entry_of (Stage quickstart main path (Put outside))) ≡ scene (counted s) r (with_staged path (Put outside) b)
  after_put_outside path = ap counted (in_main (with_staged path (Put outside)) s r b)

  pub after_deletion : (path : List ℕ) → after (scene s r b) (entry_of (Stage quickstart main path Delete)) ≡ scene (counted s) r (with_staged path Delete b)
  after_deletion path = ap counted (in_main (with_staged path Delete) s r b)

  -- an own object is staged, and its ticket goes
  pub after_put_own : (path : List ℕ) (digest : Digest) (number : ℕ) → after (scene s r b) (entry_of (Stage quickstart main path (Put (own digest number))))
      ≡ scene (counted (after_ticket_drop number s)) r (with_staged path (Put (own digest number)) b)
  after_put_own path digest number = ap counted (in_main (with_staged path (Put (own digest number))) (after_ticket_drop number s) r b)

  -- the branch is sealed
  pub after_sealing : (seat : ℕ) (why : SealFor) → after (scene s r b) (entry_by seat (Seal quickstart main why)) ≡ scene (counted s) r (sealed_branch b)
  after_sealing seat why = ap counted (in_main sealed_branch s r b)

  -- where nothing was staged a seal leaves what is sealed
  pub after_empty_seal : (seat : ℕ) (why : SealFor) → b.staged ≡ empty → after (scene s r b) (entry_by seat (Seal quickstart main why)) ≡ scene (counted s) r b
  after_empty_seal seat why none =
      after_sealing seat why
      ∙ ap (λ (x : ChangesValue). scene (counted s) r (record b { sealed = x; staged = empty }))
      (ap (λ (x : ChangesValue). over x b.sealed) none ∙ over_nothing b.sealed)
      ∙ ap (λ (x : ChangesValue). scene (counted s) r (record b { staged = x })) (sym none)

  -- where one change was staged, a seal puts it into the sealed ones
  pub after_seal_of_one : (seat : ℕ) (why : SealFor) (path : List ℕ) (change : Change) → b.staged ≡ insert empty path change
      → after (scene s r b) (entry_by seat (Seal quickstart main why)) ≡ scene (counted s) r (record b { sealed = insert b.sealed path change; staged = empty })
  after_seal_of_one seat why path change one =
      after_sealing seat why
      ∙ ap (λ (x : ChangesValue). scene (counted s) r (record b { sealed = x; staged = empty }))
      (ap (λ (x : ChangesValue). over x b.sealed) one ∙ over_one path change b.sealed)
