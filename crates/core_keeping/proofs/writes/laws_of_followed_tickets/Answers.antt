use Rattle.std.proofs.Common.{◌≡◌, [], refl, sym, subst}
use Rattle.keeper.specs.Keepers.{KeptPairs, pairs_after}
use Rattle.core_changes.specs.LakeChanges.{after_ticket_drop}
use Rattle.core_head_pairs.specs.PairWords.{StandFor}
use Rattle.core_keeping.proofs.writes.laws_of_followed_tickets.Goals as goal

-- after no puts pairs are as they were
after_none : (pairs : KeptPairs) → pairs_after [] pairs ≡ pairs
unfolding pairs_after
after_none pairs = refl

pub returns-clause-take : goal.returns-clause-take
returns-clause-take c l seat few pairs files follow = record {
  kept = record {
    stand = c.laws_of_kept_tickets.ensures.take pairs l seat follow.kept.stand few;
    apart = c.laws_of_tokens_apart.ensures.ticket_take l seat follow.kept.apart;
  };
  places = c.laws_of_places.ensures.ticket_take files l seat follow.places;
}

pub returns-clause-drop : goal.returns-clause-drop
returns-clause-drop c l number pairs files follow = record {
  kept = record {
    stand = subst (λ ps. StandFor ps (after_ticket_drop number l)) (sym (after_none pairs))
        (c.laws_of_kept_tickets.ensures.drop pairs l number follow.kept.stand);
    apart = c.laws_of_tokens_apart.ensures.ticket_drop l number follow.kept.apart;
  };
  places = c.laws_of_places.ensures.ticket_drop files l number follow.places;
}
