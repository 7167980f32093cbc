use Rattle.law_examples.proofs.UploadStepsLemmas.{gave_up, staged}
use Rattle.law_examples.proofs.uploads.upload_in_tries.Goals as goal

pub returns-clause-staged : goal.returns-clause-staged
returns-clause-staged c opened given by before taken found after u moment number tries =
    staged opened by u moment given before taken found after number tries

pub returns-clause-gave_up : goal.returns-clause-gave_up
returns-clause-gave_up c opened given by before taken found after u moment number =
    gave_up opened by u moment given before taken found after number
