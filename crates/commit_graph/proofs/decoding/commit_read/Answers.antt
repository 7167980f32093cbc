use Rattle.std.proofs.Common.{arith, ap, subst, sym, ◌∙◌}
use Rattle.std.proofs.lemmas.Result.{err_from_is_err_and}
use Rattle.commit_graph.specs.CommitReading.{Fails, commit_from}
use Rattle.commit_graph.proofs.ReadingLemmas.{found, again}
use Rattle.commit_graph.proofs.decoding.commit_read.Goals as goal

pub returns-clause-found : goal.returns-clause-found
returns-clause-found c = found c.args.bytes.now c.in_ok-commit.commit (λ i. omega (arith, c.type_inv.bytes i)) c.in_ok-commit.ensures

pub returns-clause-only : goal.returns-clause-only
returns-clause-only c = λ commit is h. sym (ap commit_from h ∙ again commit is) ∙ c.in_ok-commit.ensures

pub returns-in_err-commit-clause-only : goal.returns-in_err-commit-clause-only
returns-in_err-commit-clause-only c = λ commit is h.
    let p = err_from_is_err_and c.from_residual.result c.from_residual.ensures.1 in
    let fault = c.in_err-commit.field-0.0 in
    rw (p.1, p.2) (subst (Fails fault) (ap commit_from h ∙ again commit is) c.in_err-commit.ensures)
