use Rattle.law_examples.proofs.UploadStepsLemmas.{fault_giving_up, fault_stage, fault_ticket}
use Rattle.law_examples.proofs.uploads.upload_in_faults.Goals as goal

pub returns-clause-ticket : goal.returns-clause-ticket
returns-clause-ticket c opened by before after u moment number met told = fault_ticket opened by u moment before after number met told

pub returns-clause-stage : goal.returns-clause-stage
returns-clause-stage c opened given by before taken found read after u moment number tries met told =
    fault_stage opened by u moment given before taken found read after number tries met told

pub returns-clause-giving_up : goal.returns-clause-giving_up
returns-clause-giving_up c opened given by before taken found after u moment number tries met told =
    fault_giving_up opened by u moment given before taken found after number tries met told
