use Rattle.core_head_pairs.specs.PairWords.{branch_at}
use Rattle.core_keeping.proofs.PossibleLemmas.{allowed, has_branch, where_there}
use Rattle.core_keeping.proofs.writes.laws_of_followed_writes.Goals as goal

pub returns-clause-stage : goal.returns-clause-stage
returns-clause-stage c opened history l by repo name path change stands may spelled pairs files follow =
    let at = (allowed stands may).possible.0 in
    let there = has_branch l repo name at.0 at.2.0 at.1 at.2.1 in
    let within = spelled there in
    record {
      kept = record {
        stand = c.laws_of_kept_writes.ensures.stage pairs l repo name path change follow.kept.stand follow.kept.apart there within.0 within.1;
        apart = c.laws_of_tokens_apart.ensures.stage l repo name path change follow.kept.apart;
      };
      places = c.laws_of_places.ensures.stage files l repo name path change follow.places;
    }

pub returns-clause-copy : goal.returns-clause-copy
returns-clause-copy c opened history l by repo name path source from entry stands may spelled pairs files follow =
    let at = (allowed stands may).possible in
    let there = has_branch l repo name at.0 at.2.0 at.1 at.2.1 in
    let within = spelled there in
    record {
      kept = record {
        stand = c.laws_of_kept_writes.ensures.copy pairs l repo name path entry follow.kept.stand follow.kept.apart there within.0 within.1;
        apart = c.laws_of_tokens_apart.ensures.copy l repo name path entry follow.kept.apart;
      };
      places = c.laws_of_places.ensures.copy files l repo name path entry follow.places;
    }

pub returns-clause-reset : goal.returns-clause-reset
returns-clause-reset c opened history l by repo name what stands may pairs files follow =
    let at = (allowed stands may).possible in
    let there = has_branch l repo name at.0 at.2.0 at.1 at.2.1 in
    record {
      kept = record {
        stand = c.laws_of_kept_writes.ensures.reset pairs l repo name what follow.kept.stand follow.kept.apart may.few there;
        apart = c.laws_of_tokens_apart.ensures.reset l repo name what follow.kept.apart;
      };
      places = c.laws_of_places.ensures.reset files l repo name what follow.places;
    }

pub returns-clause-seal : goal.returns-clause-seal
returns-clause-seal c opened history l by repo name why stands may spelled pairs files follow =
    let at = (allowed stands may).possible in
    let there = has_branch l repo name at.0 at.2.0 at.1 at.2.1 in
    record {
      kept = record {
        stand = c.laws_of_kept_writes.ensures.seal pairs l repo name follow.kept.stand may.few
            (where_there (branch_at repo name l) _ there spelled);
        apart = c.laws_of_tokens_apart.ensures.seal l repo name follow.kept.apart stands.tokens;
      };
      places = c.laws_of_places.ensures.seal files l repo name follow.places;
    }
