-- A new head that no cause keeps from being made, that doesn't clash, and that is prepared, may be made.
use Rattle.std.specs.Prelude.{◌≡◌, ℕ, List, None}
use Rattle.lake_values.specs.Commit.{AboutValue}
use Rattle.lake_model.specs.declared.fault.StepFault.TheVariants.{Expired}
use Rattle.lake_model.specs.declared.history.By.{By}
use Rattle.lake_model.specs.declared.reply.SwapKind.{SwapKind}
use Rattle.lake_model.specs.declared.reply.SwapKind.TheVariants as kind
use Rattle.lake_model.specs.State.{State, is_expired}
use Rattle.lake_model.specs.Commits.{IsCommittable, IsMerge, IsPick, commit_draft, merge_draft, pick_draft}
use Rattle.lake_model.specs.History.{Allows, accepted_entry}
use Rattle.lake_model.specs.Refusals.{first_cause}
use Rattle.lake_model.specs.Steps.{IsSwapClash, swap_causes, swap_operation, swap_rule}
use Rattle.lake_model.specs.Versions.{VersionsGiven}
use Rattle.lake_laws.specs.Prepared.{IsPrepared, WhereThere}
use Rattle.lake_laws.proofs.CauseLemmas.{no_cause, allowed, test_fails}
use Rattle.lake_laws.proofs.PlaceLemmas.{branch_there, unprotected}
use Rattle.lake_laws.proofs.SwapLemmas.{becomes_head, new_live, source_live}

-- a commit, a merge, a pick
pub swap_allowed : (state : State) (given : VersionsGiven) (by : By) (repo branch : List ℕ) (version settings : ℕ) (swap : SwapKind) (about : AboutValue)
    → first_cause (swap_causes state given repo branch version settings (swap_rule swap about) None) ≡ None
    → IsSwapClash state repo branch (swap_rule swap about) None → WhereThere state repo branch (IsPrepared state branch swap about)
    → Allows state (accepted_entry by (swap_operation repo branch swap about))
swap_allowed state given by repo branch version settings kind.Commit about none clash kept =
    let rule = swap_rule kind.Commit about in
    let no = no_cause (swap_causes state given repo branch version settings rule None) none in
    allowed state _ no.stopped no.full
    (branch_there state repo branch (IsCommittable state branch about) no.reference (λ r b is has. record {
      unprotected = unprotected state repo branch r is no.protected;
      changed = (kept r b is has).0;
      head = becomes_head state r (commit_draft r b about) (clash r b is has) branch b (kept r b is has).1
          (new_live state repo branch rule r b is has no.expired);
    }))
swap_allowed state given by repo branch version settings (kind.Merge source strategy) about none clash kept =
    let rule = swap_rule (kind.Merge source strategy) about in
    let no = no_cause (swap_causes state given repo branch version settings rule None) none in
    allowed state _ no.stopped no.full
    (branch_there state repo branch (IsMerge state branch source strategy about) no.reference (λ r b is has. record {
      live = ((kept r b is has).0.0, test_fails (is_expired r source) (Expired source) (source_live state repo branch rule r b is has no.expired));
      sides = (kept r b is has).0.1;
      head = becomes_head state r (merge_draft source strategy about r b) (clash r b is has) branch b (kept r b is has).1
          (new_live state repo branch rule r b is has no.expired);
    }))
swap_allowed state given by repo branch version settings (kind.Pick base source strategy) about none clash kept =
    let rule = swap_rule (kind.Pick base source strategy) about in
    let no = no_cause (swap_causes state given repo branch version settings rule None) none in
    allowed state _ no.stopped no.full
    (branch_there state repo branch (IsPick state branch base source strategy about) no.reference (λ r b is has. record {
      there = (kept r b is has).0.0;
      live = ((kept r b is has).0.1, test_fails (is_expired r source) (Expired source) (source_live state repo branch rule r b is has no.expired));
      sides = (kept r b is has).0.2;
      head = becomes_head state r (pick_draft base source strategy about r b) (clash r b is has) branch b (kept r b is has).1
          (new_live state repo branch rule r b is has no.expired);
    }))
