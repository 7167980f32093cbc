use Rattle.std.proofs.Common.{sym, ◌∙◌}
use Rattle.law_examples.proofs.committing.inadmissible_commit.Goals as goal

pub returns-clause-expired : goal.returns-clause-expired
returns-clause-expired c state r draft lost admissible = let live = admissible.live in absurd (cc (sym live ∙ lost))

pub returns-clause-other_commit : goal.returns-clause-other_commit
returns-clause-other_commit c state r draft old there apart admissible = apart (admissible.same_record old there)

pub returns-clause-other_map : goal.returns-clause-other_map
returns-clause-other_map c state r draft old there apart admissible = apart (admissible.same_map old there)

pub returns-clause-clash : goal.returns-clause-clash
returns-clause-clash c state r draft new kept is_new are_kept same apart admissible = apart (admissible.apart new kept is_new are_kept same)

pub returns-clause-clash_of_new : goal.returns-clause-clash_of_new
returns-clause-clash_of_new c state r draft new kept before same apart admissible = apart (admissible.files_apart new kept before same)
