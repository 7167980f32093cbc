-- The first commit of a new repository, which doesn't clash, is admissible.
use Rattle.std.proofs.Common.{ℕ, List, refl, ap}
use Rattle.std.specs.Prelude.{None, is_some}
use Rattle.std.specs.FinMap.{empty, get-empty}
use Rattle.lake_base.specs.Maps.{byte_order}
use Rattle.lake_base.specs.declared.digest.Digest.{Digest}
use Rattle.lake_format.specs.Spelling.{commit_id}
use Rattle.lake_laws.proofs.ChangeLemmas.{nothing_stands}
use Rattle.lake_model.specs.State.{State}
use Rattle.lake_model.specs.Branches.{clean_branch}
use Rattle.lake_model.specs.Commits.{IsAdmissible, bare_repository, first_draft, record_of}
use Rattle.lake_model.specs.Refusals.{IsClashOrNone}
use Rattle.lake_laws.proofs.SwapLemmas.{admissible}

module _ (state : State) (branch : List ℕ) (date : ℕ) where
  -- its id
  abbrev first_id : Digest
  first_id = commit_id (record_of state.cut (empty {R = byte_order}) (first_draft date))

  pub first_admissible : IsClashOrNone state (bare_repository date branch) (first_draft date) None
      → IsAdmissible state (bare_repository date branch) (first_draft date)
  first_admissible none =
      admissible state (bare_repository date branch) (first_draft date) none branch (clean_branch first_id)
      (record {
        allowed = refl;
        same_record = λ old is. absurd (nothing_stands first_id.0 old is);
        same_map = λ old is. absurd (nothing_stands first_id.0 old is);
      })
      (ap is_some (get-empty {X = Unit {0}} byte_order first_id.0))
