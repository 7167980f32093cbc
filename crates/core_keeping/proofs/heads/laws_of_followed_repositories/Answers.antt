use Rattle.core_head_pairs.proofs.PairLemmas.{isnt_there}
use Rattle.core_keeping.proofs.PossibleLemmas.{allowed}
use Rattle.core_keeping.proofs.heads.laws_of_followed_repositories.Goals as goal

pub returns-clause-kept : goal.returns-clause-kept
returns-clause-kept c opened history l by repo branch date stands may spelled pairs kept =
    let new = (allowed stands may).possible in
    let none = isnt_there l repo new.fresh in
    record {
      stand = c.law_of_kept_repositories.ensures pairs l repo branch date kept.stand may.few stands.index
          (c.law_of_present.ensures opened history l stands) none new.admissible spelled.0 spelled.1.0 spelled.1.1;
      apart = c.laws_of_tokens_apart.ensures.repository_create l repo branch date kept.apart stands.tokens none;
    }

pub returns-clause-followed : goal.returns-clause-followed
returns-clause-followed c opened history l by repo branch date stands may spelled pairs before after follow places = record {
  kept = returns-clause-kept c opened history l by repo branch date stands may spelled pairs follow.kept;
  places = c.laws_of_places.ensures.repository_create before after l repo branch date follow.places
      (isnt_there l repo (allowed stands may).possible.fresh) places;
}
