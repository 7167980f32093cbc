use Rattle.std.proofs.Common.{ap, subst}
use Rattle.std.specs.Prelude.{is_some}
use Rattle.meta_range.specs.Files.{FitsTree}
use Rattle.lake_model.specs.Steps.{swap_rule}
use Rattle.core_state.specs.BranchStates.{branch_of}
use Rattle.core_state.specs.NewCommits.{NewCommit}
use Rattle.core_state.specs.RepositoryStates.{repository_of}
use Rattle.core_keeping.proofs.PossibleLemmas.{allowed, is_admissible}
use Rattle.core_keeping.proofs.heads.laws_of_followed_heads.Goals as goal

pub returns-clause-kept : goal.returns-clause-kept
returns-clause-kept c opened history l by repo branch swap about new stands may head pairs files follow =
    let draft = (swap_rule swap about).draft (repository_of head.r) (branch_of head.b) in
    record {
      stand = c.law_of_kept_heads.ensures pairs l files repo branch head.r draft new follow.kept.stand follow.kept.apart may.few stands.index
          (c.law_of_present.ensures opened history l stands) follow.places head.in_lake (ap is_some head.on)
          (is_admissible l repo branch by swap about head.r head.b head.in_lake head.on (allowed stands may)) head.drafted head.content
          (subst FitsTree (ap (λ (n : NewCommit). n.tree.map) head.drafted) head.fits);
      apart = c.laws_of_tokens_apart.ensures.new_head l repo branch new follow.kept.apart;
    }

pub returns-clause-followed : goal.returns-clause-followed
returns-clause-followed c opened history l by repo branch swap about new stands may head pairs before after follow places =
    let draft = (swap_rule swap about).draft (repository_of head.r) (branch_of head.b) in
    record {
      kept = returns-clause-kept c opened history l by repo branch swap about new stands may head pairs before follow;
      places = c.laws_of_places.ensures.new_head before after l repo branch head.r draft new follow.places stands.index
          (c.law_of_present.ensures opened history l stands) head.in_lake
          (is_admissible l repo branch by swap about head.r head.b head.in_lake head.on (allowed stands may)) head.drafted places;
    }
