-- A new head that neither its reading nor its step refuses may be made, and the other way round.
use Rattle.std.proofs.Common.{◌≡◌, ℕ, Bool, true, false, List, refl, ◌∙◌}
use Rattle.std.proofs.lemmas.Bool.{eq-eqb}
use Rattle.std.specs.Prelude.{◌==◌, Some, None, IfSome, if◌then◌else◌, Option}
use Rattle.std.specs.FinMap.{get}
use Rattle.lake_base.specs.declared.digest.Digest.{Digest}
use Rattle.lake_values.specs.Commit.{AboutValue}
use Rattle.lake_values.proofs.AncestryLemmas.{and_of}
use Rattle.lake_model.specs.declared.fault.StepFault.TheVariants.{Changed}
use Rattle.lake_model.specs.declared.history.By.{By}
use Rattle.lake_model.specs.declared.reply.SwapKind.{SwapKind}
use Rattle.lake_model.specs.declared.reply.SwapKind.TheVariants as kind
use Rattle.lake_model.specs.State.{Branch, Repository, State, is_expired}
use Rattle.lake_model.specs.HeadRefusals.{reading_refusal}
use Rattle.lake_model.specs.History.{Allows, IsPossible, accepted_entry}
use Rattle.lake_model.specs.Refusals.{Causes, Clash, causes_of_change, first_cause, with_branch, with_current_version}
use Rattle.lake_model.specs.Steps.{IsSwapClash, SwapRule, is_current, new_head_causes, swap_causes, swap_operation, swap_rule, write_causes}
use Rattle.lake_model.specs.Versions.{VersionsGiven, branch_version, fresh_versions, settings_version}
use Rattle.lake_laws.specs.Prepared.{IsPrepared, IsWorthMaking, WhereThere}
use Rattle.lake_laws.specs.Unrefused.{HasCommitsOf, IsTheOnly, IsUnrefused}
use Rattle.lake_laws.proofs.CauseLemmas.{cause_not, no_cause, none_holds}
use Rattle.lake_laws.proofs.HeadRefusalLemmas.{passes_reading, reading_passed}
use Rattle.lake_laws.proofs.SwapRefusalLemmas.{swap_none}
use Rattle.lake_laws.proofs.SwapStepLemmas.{swap_allowed}

-- ---- versions

-- where no cause holds, none holds by the versions now
pub with_versions : (c : Causes) (current : Bool) (version settings : ℕ) → first_cause c ≡ None → current ≡ true
    → first_cause (with_current_version current version settings c) ≡ None
with_versions c current version settings none is =
    let no = no_cause c none in
    none_holds (with_current_version current version settings c) no.stopped no.full no.repository no.reference no.parent no.note no.exists no.default_branch
    no.protected (cause_not current (Changed version settings) is) no.path no.expired no.clash

-- and the other way round
pub without_versions : (c : Causes) (current : Bool) (version settings : ℕ) → c.version ≡ None
    → first_cause (with_current_version current version settings c) ≡ None → first_cause c ≡ None
without_versions c current version settings unasked none =
    let no = no_cause (with_current_version current version settings c) none in
    none_holds c no.stopped no.full no.repository no.reference no.parent no.note no.exists no.default_branch no.protected unasked no.path no.expired no.clash

module _ (state : State) (repo branch : List ℕ) where
  no_version : (protects : Bool)
      → (if protects then write_causes state repo branch else with_branch state repo branch (causes_of_change state)).version ≡ None
  no_version true = refl
  no_version false = refl

  -- the versions now are those now
  are_current : (given : VersionsGiven) → is_current given repo branch (branch_version given repo branch) (settings_version given repo) ≡ true
  are_current given =
      and_of (branch_version given repo branch == branch_version given repo branch) (settings_version given repo == settings_version given repo)
      (eq-eqb (branch_version given repo branch) (branch_version given repo branch) refl)
      (eq-eqb (settings_version given repo) (settings_version given repo) refl)

  -- ---- both lists

  pub may_be_made : (by : By) (swap : SwapKind) (about : AboutValue) → reading_refusal state repo branch swap about ≡ None
      → first_cause (new_head_causes state repo branch (swap_rule swap about) None) ≡ None
      → IsSwapClash state repo branch (swap_rule swap about) None
      → WhereThere state repo branch (λ r b. HasCommitsOf swap r × IsTheOnly state r ((swap_rule swap about).draft r b))
      → Allows state (accepted_entry by (swap_operation repo branch swap about))
  may_be_made by swap about reading step clash have =
      swap_allowed state fresh_versions by repo branch (branch_version fresh_versions repo branch) (settings_version fresh_versions repo) swap about
      (with_versions (new_head_causes state repo branch (swap_rule swap about) None) _ _ _ step (are_current fresh_versions)) clash
      (λ r b at on.
      let is = reading_passed state repo branch swap about r b at on (have r b at on).0 reading in (
        is.worth,
        record { allowed = is.allowed; same_record = (have r b at on).1.same_record; same_map = (have r b at on).1.same_map },
      ))

  -- what is possible isn't refused at its reading
  unrefused_possible : (seat : ℕ) (swap : SwapKind) (about : AboutValue) → IsPossible state seat (swap_operation repo branch swap about)
      → reading_refusal state repo branch swap about ≡ None
  unrefused_possible seat kind.Commit about may =
      passes_reading state repo branch kind.Commit about may.0 may.2.0 may.1 may.2.1
      (record { live = tt; worth = may.2.2.changed; allowed = may.2.2.head.allowed })
  unrefused_possible seat (kind.Merge source strategy) about may =
      passes_reading state repo branch (kind.Merge source strategy) about may.0 may.2.0 may.1 may.2.1
      (record { live = may.2.2.live.1; worth = (may.2.2.live.0, may.2.2.sides); allowed = may.2.2.head.allowed })
  unrefused_possible seat (kind.Pick base source strategy) about may =
      passes_reading state repo branch (kind.Pick base source strategy) about may.0 may.2.0 may.1 may.2.1
      (record { live = may.2.2.live.1; worth = (may.2.2.there, may.2.2.live.0, may.2.2.sides); allowed = may.2.2.head.allowed })

  -- nor by its step
  unrefused_step : (by : By) (swap : SwapKind) (about : AboutValue) → Allows state (accepted_entry by (swap_operation repo branch swap about))
      → IsPossible state by.seat (swap_operation repo branch swap about)
      → first_cause (new_head_causes state repo branch (swap_rule swap about) None) ≡ None
  unrefused_step by swap about may possible =
      without_versions (new_head_causes state repo branch (swap_rule swap about) None)
      (is_current fresh_versions repo branch (branch_version fresh_versions repo branch) (settings_version fresh_versions repo))
      (branch_version fresh_versions repo branch) (settings_version fresh_versions repo) (no_version (swap_rule swap about).protects)
      (swap_none state _ may fresh_versions repo branch swap about possible)

  pub neither_refuses : (by : By) (swap : SwapKind) (about : AboutValue) → Allows state (accepted_entry by (swap_operation repo branch swap about))
      → (reading_refusal state repo branch swap about ≡ None)
      × (first_cause (new_head_causes state repo branch (swap_rule swap about) None) ≡ None)
  neither_refuses by swap about may =
      (unrefused_possible by.seat swap about may.possible, unrefused_step by swap about may may.possible)
