use Rattle.restart_laws.proofs.RestartLemmas.{read_again}
use Rattle.restart_laws.proofs.restarts.law_of_restarts.Goals as goal

pub returns-clause-same : goal.returns-clause-same
returns-clause-same g c left view cut lake keeper again holds is parts none =
    let left_pairs = read_again left view cut lake keeper again holds (c.law_of_kept_pairs.ensures.all left lake holds) is in
    c.law_of_left_pairs.ensures.same _ _ _ _ cut again.opened left_pairs parts none

pub returns-clause-tried : goal.returns-clause-tried
returns-clause-tried g c left view cut lake keeper again holds is parts tried_parts =
    let left_pairs = read_again left view cut lake keeper again holds (c.law_of_kept_pairs.ensures.all left lake holds) is in
    c.law_of_left_pairs.ensures.tried _ _ _ _ cut again.opened left_pairs parts tried_parts
