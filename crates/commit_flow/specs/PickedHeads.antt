-- What a revert or a cherry-pick makes of the commit that it is asked for.
use Rattle.std.specs.Prelude.{◌≡◌, ◌⊎◌, ◌++◌, ℕ, List, [], codes, Option, Result, Ok, Err}
use Rattle.lake_base.specs.Digest.{encode_lower}
use Rattle.lake_base.specs.declared.digest.Digest.{Digest}
use Rattle.lake_values.specs.Commit.{AboutValue}
use Rattle.lake_values.specs.declared.commit.Strategy.TheVariants.{Refuse}
use Rattle.lake_model.specs.declared.reply.Point.{Point}
use Rattle.lake_model.specs.declared.reply.SwapKind.{SwapKind}
use Rattle.lake_model.specs.declared.reply.SwapKind.TheVariants.{Pick}
use Rattle.lake_calls.specs.CallRefusals.{chosen_parent}
use Rattle.lake_calls.specs.declared.reply.Refusal.{Refusal}
use Rattle.head_steps.specs.NewHeads.{NewHead}
use Rattle.commit_flow.specs.declared.answer.CommitFault.{CommitFault}
use Rattle.commit_flow.specs.declared.answer.CommitFault.TheVariants.{NoMemory}
use Rattle.commit_flow.specs.CommitFaults.{fault_of_parent}
use Rattle.commit_flow.specs.declared.picks.Picking.{Picking}
use Rattle.commit_flow.specs.declared.picks.Picking.TheVariants.{Undo, Take}

-- how the head is made: undoing has the commit as its base and the parent as its source, taking the reverse
abbrev pub picking_kind : Picking → Point → (parent : Digest) → SwapKind
picking_kind Undo point parent = Pick point.commit parent Refuse
picking_kind Take point parent = Pick parent point.commit Refuse

-- its message: Revert ID; or that of the commit
abbrev pub picking_message : Picking → Point → List ℕ
picking_message Undo point = codes "Revert " ++ encode_lower point.commit.0
picking_message Take point = point.message

-- what is said of it, without metadata
abbrev pub said_with : AboutValue → (message : List ℕ) → AboutValue
said_with about message = record { committer = about.committer; message = message; metadata = []; date = about.date }

abbrev pub picking_head : Picking → (repo branch : List ℕ) → AboutValue → Point → (parent : Digest) → NewHead
picking_head picking repo branch about point parent = record {
  repo = repo;
  branch = branch;
  kind = picking_kind picking point parent;
  about = said_with about (picking_message picking point);
}

-- what comes of the choice: how the head is made and what is said of it, by the parent that is chosen; or there is none as it is
-- asked for; or memory ran out
abbrev pub IsPicking : Picking → Point → (number : Option ℕ) → AboutValue → Result (SwapKind × AboutValue) CommitFault → Type 0
IsPicking picking point number about (Ok chosen) = (parent : Digest) × (chosen_parent point.parents number ≡ Ok parent)
    × (chosen.0 ≡ picking_kind picking point parent) × (chosen.1 ≡ said_with about (picking_message picking point))
IsPicking picking point number about (Err fault) =
    ((refused : Refusal) × (chosen_parent point.parents number ≡ Err refused) × (fault ≡ fault_of_parent refused)) ⊎ (fault ≡ NoMemory)
