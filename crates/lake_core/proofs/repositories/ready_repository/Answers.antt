use Rattle.std.proofs.Common.{◌≡◌, ◌⊎◌, inl, inr, refl}
use Rattle.lake_model.specs.declared.fault.StepFault.TheVariants.{NoMemory}
use Rattle.core_puts.proofs.FoundingLemmas.{at_date, dated}
use Rattle.core_state.specs.LakeStates.{lake_value, state_of}
use Rattle.lake_core.proofs.RepositoryLemmas.{asked_again, asked_well, ready_at, spelled_at, unready_asks}
use Rattle.lake_core.proofs.StepLemmas.{told_again}
use Rattle.lake_core.proofs.repositories.ready_repository.Goals as goal

pub tested_commit-requires : goal.tested_commit-requires
tested_commit-requires c = record { sound = c.requires.sound; index = c.requires.index }

pub returns-in_err-first-clause-asks : goal.returns-in_err-first-clause-asks
returns-in_err-first-clause-asks c =
    asked_again (state_of (lake_value c.args.lake.now)) c.args.repo c.args.branch c.args.date _ (c.in_err-first.ensures.asks c.args.branch)
    c.from_residual.result c.from_residual.ensures.1

pub returns-in_err-first-clause-refused : goal.returns-in_err-first-clause-refused
returns-in_err-first-clause-refused c =
    told_again (λ ready. Unit {0}) (λ f. (f ≡ NoMemory) ⊎ (c.args.lake.now ≡ c.args.lake.now)) c.from_residual.result _ c.from_residual.ensures.1 (inr refl)

pub parts_of_repository-requires-clause-few : goal.parts_of_repository-requires-clause-few
parts_of_repository-requires-clause-few c =
    let asks = c.in_ok-first.ensures.asks c.args.branch in
    c.requires.few asks.clash asks.there asks.tells

pub parts_of_repository-requires-clause-first : goal.parts_of_repository-requires-clause-first
parts_of_repository-requires-clause-first c =
    at_date (lake_value c.args.lake.now).cut c.args.date c.in_ok-first.first c.in_ok-first.ensures.first

pub returns-in_err-ready-clause-asks : goal.returns-in_err-ready-clause-asks
returns-in_err-ready-clause-asks c =
    unready_asks (state_of (lake_value c.args.lake.now)) c.args.repo c.args.branch c.args.date c.in_ok-first.first (c.in_ok-first.ensures.asks c.args.branch)
    c.from_residual-in_err-ready.result c.from_residual-in_err-ready.ensures.1

pub returns-in_err-ready-clause-refused : goal.returns-in_err-ready-clause-refused
returns-in_err-ready-clause-refused c =
    told_again (λ ready. Unit {0}) (λ f. (f ≡ NoMemory) ⊎ (c.parts_of_repository.new.lake ≡ c.args.lake.now)) c.from_residual-in_err-ready.result NoMemory
    c.from_residual-in_err-ready.ensures.1 (inl refl)

pub returns-clause-asks : goal.returns-clause-asks
returns-clause-asks c =
    asked_well (state_of (lake_value c.args.lake.now)) c.args.repo c.args.branch c.args.date c.in_ok-first.first (c.in_ok-first.ensures.asks c.args.branch) _

pub returns-clause-ready : goal.returns-clause-ready
returns-clause-ready c =
    ready_at c.args.repo c.args.branch c.in_ok-first.first.commit.date c.args.date (lake_value c.args.lake.now) _
    (dated (lake_value c.args.lake.now).cut c.args.date c.in_ok-first.first c.in_ok-first.ensures.first) c.in_ok-ready.ensures.ready

pub returns-clause-limits : goal.returns-clause-limits
returns-clause-limits c =
    spelled_at c.args.repo c.args.branch c.in_ok-first.first.commit.date c.args.date
    (dated (lake_value c.args.lake.now).cut c.args.date c.in_ok-first.first c.in_ok-first.ensures.first) c.in_ok-ready.ensures.limits
