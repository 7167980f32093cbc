use Rattle.law_examples.proofs.UploadStepsLemmas.{ends_early, ends_gave, ends_kept, ends_late, ends_memory, ends_printing}
use Rattle.law_examples.proofs.uploads.upload_that_stops.Goals as goal

pub returns-clause-early : goal.returns-clause-early
returns-clause-early c opened by before found u moment met = ends_early opened by u moment before found met

pub returns-clause-late : goal.returns-clause-late
returns-clause-late c opened given by before taken tried read found u moment number tries met =
    ends_late opened by u moment given before taken tried read found number tries met

pub returns-clause-memory : goal.returns-clause-memory
returns-clause-memory c opened by before u moment met = ends_memory opened by u moment before met

pub returns-clause-kept : goal.returns-clause-kept
returns-clause-kept c opened by before taken u moment number met = ends_kept opened by u moment before taken number met

pub returns-clause-gave : goal.returns-clause-gave
returns-clause-gave c opened by before taken after u moment number met = ends_gave opened by u moment before taken after number met

pub returns-clause-printing : goal.returns-clause-printing
returns-clause-printing c opened by before taken after u moment number met =
    ends_printing opened by u moment before taken after number met
