use Rattle.core_head_pairs.proofs.PairLemmas.{is_there}
use Rattle.core_keeping.proofs.PossibleLemmas.{allowed, has_branch, has_no_branch, is_named}
use Rattle.core_keeping.proofs.names.laws_of_followed_names.Goals as goal

pub returns-clause-create_branch : goal.returns-clause-create_branch
returns-clause-create_branch c opened history l by repo name commit stands may spelled pairs files follow =
    let at = (allowed stands may).possible in
    record {
      kept = record {
        stand = c.laws_of_kept_names.ensures.create_branch pairs l repo name commit follow.kept.stand may.few (is_there l repo at.0 at.1)
            (has_no_branch l repo name at.0 at.1 at.2.fresh) spelled.0 spelled.1;
        apart = c.laws_of_tokens_apart.ensures.branch_create l repo name commit follow.kept.apart stands.tokens;
      };
      places = c.laws_of_places.ensures.branch_create files l repo name commit follow.places;
    }

pub returns-clause-delete_branch : goal.returns-clause-delete_branch
returns-clause-delete_branch c opened history l by repo name stands may pairs files follow =
    let at = (allowed stands may).possible in
    let there = has_branch l repo name at.0 at.2.0 at.1 at.2.1 in
    record {
      kept = record {
        stand = c.laws_of_kept_names.ensures.delete_branch pairs l repo name follow.kept.stand follow.kept.apart there;
        apart = c.laws_of_tokens_apart.ensures.branch_delete l repo name follow.kept.apart;
      };
      places = c.laws_of_places.ensures.branch_delete files l repo name follow.places;
    }

pub returns-clause-create_tag : goal.returns-clause-create_tag
returns-clause-create_tag c opened history l by repo name commit stands may spelled pairs files follow =
    let at = (allowed stands may).possible in
    record {
      kept = record {
        stand = c.laws_of_kept_names.ensures.create_tag pairs l repo name commit follow.kept.stand (is_there l repo at.0 at.1) spelled.0 spelled.1;
        apart = c.laws_of_tokens_apart.ensures.tag_create l repo name commit follow.kept.apart;
      };
      places = c.laws_of_places.ensures.tag_create files l repo name commit follow.places;
    }

pub returns-clause-delete_tag : goal.returns-clause-delete_tag
returns-clause-delete_tag c opened history l by repo name stands may spelled pairs files follow =
    let at = (allowed stands may).possible in
    record {
      kept = record {
        stand = c.laws_of_kept_names.ensures.delete_tag pairs l repo name follow.kept.stand (is_there l repo at.0 at.1) spelled;
        apart = c.laws_of_tokens_apart.ensures.tag_delete l repo name follow.kept.apart;
      };
      places = c.laws_of_places.ensures.tag_delete files l repo name follow.places;
    }

pub returns-clause-set_note : goal.returns-clause-set_note
returns-clause-set_note c opened history l by repo name note stands may spelled pairs files follow =
    let at = (allowed stands may).possible in
    let there = is_there l repo at.0 at.1 in
    record {
      kept = record {
        stand = c.laws_of_kept_names.ensures.set_note pairs l repo name note follow.kept.stand may.few there (is_named name note at.0 at.2) (spelled there);
        apart = c.laws_of_tokens_apart.ensures.note_set l repo name note follow.kept.apart;
      };
      places = c.laws_of_places.ensures.note_set files l repo name note follow.places;
    }
