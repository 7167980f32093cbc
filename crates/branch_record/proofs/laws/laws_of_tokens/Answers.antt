use Rattle.branch_record.proofs.TokensLemmas.{under_with, under_changed}
use Rattle.branch_record.proofs.laws.laws_of_tokens.Goals as goal

pub returns : goal.returns
returns c =
    record { put = λ tokens token other changes. under_with tokens token changes other; changed = λ tokens these f token. under_changed f tokens these token }
