-- How the reply of a page of a log comes about, cause by cause.
use Rattle.std.proofs.Common.{◌≡◌, ℕ, List, [], Some, None, Option, sym, ap, ◌∙◌}
use Rattle.std.specs.Prelude.{Result, Ok, Err}
use Rattle.std.specs.FinMap.{get}
use Rattle.lake_base.specs.declared.digest.Digest.{Digest}
use Rattle.lake_values.specs.Log.{log_page}
use Rattle.commit_graph.specs.Expressions.{RefExprValue}
use Rattle.lake_model.specs.declared.fault.StepFault.{StepFault}
use Rattle.lake_model.specs.declared.fault.StepFault.TheVariants.{NoRef}
use Rattle.lake_model.specs.declared.fault.Reference.TheVariants.{Expression}
use Rattle.lake_model.specs.Readings.{LogReply, ◌then◌, known_commit, log_page_reply, log_reply}
use Rattle.lake_model.specs.Resolving.{expression_target, moved_target, name_target}
use Rattle.lake_model.specs.State.{Repository}
use Rattle.core_state.specs.declared.repository.RepositoryState.{RepositoryState}
use Rattle.core_state.specs.LakeStates.{LakeStateValue, state_of}
use Rattle.core_state.specs.RepositoryStates.{repository_value}
use Rattle.core_readings.proofs.PlacesLemmas.{repository_at}
use Rattle.core_readings.proofs.ReplyLemmas.{in_some, then_ok, then_err}

module _ (l : LakeStateValue) (repo : List ℕ) (e : RefExprValue) (after : Option Digest) (since : Option ℕ) (amount : ℕ)
    (r : RepositoryState) (there : Some (repository_value r) ≡ get l.repositories repo) where
  abbrev page_of : Repository → Option Digest → Digest → LogReply
  page_of q other id = log_page_reply (state_of l) q (log_page q.commits id other since amount)

  abbrev pages_from : Repository → Option Digest → Result LogReply StepFault
  pages_from q other = expression_target q e then λ id. Ok (page_of q other id)

  abbrev pages_after : Repository → Result LogReply StepFault
  pages_after q = known_commit q after then pages_from q

  abbrev pages_in : Repository → Result LogReply StepFault
  pages_in q = expression_target q (record e { moves = [] }) then λ name. pages_after q

  whole : pages_in (repository_at r) ≡ log_reply (state_of l) repo e after since amount
  whole = in_some l repo pages_in r there

  -- the name leads nowhere
  pub log_nowhere : None ≡ name_target (repository_at r) e.name → Err (NoRef Expression) ≡ log_reply (state_of l) repo e after since amount
  log_nowhere none =
      then_err (expression_target (repository_at r) (record e { moves = [] })) (λ name. pages_after (repository_at r)) (NoRef Expression)
      (ap (moved_target (repository_at r) (record e { moves = [] })) none)
      ∙ whole

  module _ (at : Digest) (leads : Some at ≡ name_target (repository_at r) e.name) where
    past_name : pages_after (repository_at r) ≡ log_reply (state_of l) repo e after since amount
    past_name =
        then_ok (expression_target (repository_at r) (record e { moves = [] })) (λ name. pages_after (repository_at r)) at
        (ap (moved_target (repository_at r) (record e { moves = [] })) leads)
        ∙ whole

    -- the other commit isn't there
    pub log_unknown : (fault : StepFault) → known_commit (repository_at r) after ≡ Err fault → Err fault ≡ log_reply (state_of l) repo e after since amount
    log_unknown fault is = then_err (known_commit (repository_at r) after) (pages_from (repository_at r)) fault (sym is) ∙ past_name

    module _ (known : known_commit (repository_at r) after ≡ Ok after) where
      past_other : pages_from (repository_at r) after ≡ log_reply (state_of l) repo e after since amount
      past_other = then_ok (known_commit (repository_at r) after) (pages_from (repository_at r)) after (sym known) ∙ past_name

      -- a move finds no parent
      pub log_parentless : (fault : StepFault) → Err fault ≡ expression_target (repository_at r) e
          → Err fault ≡ log_reply (state_of l) repo e after since amount
      log_parentless fault is = then_err (expression_target (repository_at r) e) (λ id. Ok (page_of (repository_at r) after id)) fault is ∙ past_other

      -- the page
      pub log_there : (id : Digest) → Ok id ≡ expression_target (repository_at r) e
          → Ok (page_of (repository_at r) after id) ≡ log_reply (state_of l) repo e after since amount
      log_there id is = then_ok (expression_target (repository_at r) e) (λ i. Ok (page_of (repository_at r) after i)) id is ∙ past_other
