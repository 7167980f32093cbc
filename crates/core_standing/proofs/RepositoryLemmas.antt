-- Where no cause of a new repository holds, its first commit doesn't clash.
use Rattle.std.proofs.Common.{◌≡◌, ℕ, List}
use Rattle.std.specs.Prelude.{Option, Some, None}
use Rattle.lake_model.specs.Commits.{bare_repository, first_draft}
use Rattle.lake_model.specs.Refusals.{Clash, IsClashOrNone, first_cause}
use Rattle.lake_model.specs.State.{State}
use Rattle.lake_model.specs.Steps.{create_repository_causes}
use Rattle.lake_laws.proofs.CauseLemmas.{no_cause}

-- no cause holds, and there is no clash
pub record HasNoClash (state : State) (repo branch : List ℕ) (date : ℕ) : Type 0 where
  pub causes : first_cause (create_repository_causes state repo None) ≡ None
  pub none : IsClashOrNone state (bare_repository date branch) (first_draft date) None

pub no_clash : (state : State) (repo branch : List ℕ) (date : ℕ) (clash : Option Clash) → first_cause (create_repository_causes state repo clash) ≡ None
    → IsClashOrNone state (bare_repository date branch) (first_draft date) clash → HasNoClash state repo branch date
no_clash state repo branch date None causes is = record { causes = causes; none = is }
no_clash state repo branch date (Some clash) causes is =
    absurd (let none = (no_cause (create_repository_causes state repo (Some clash)) causes).clash in cc)
