use Rattle.std.proofs.Common.{◌≡◌, ◌∙◌, List, ℕ, length, nat_lt, take, sym, ap, subst}
use Rattle.std.specs.Prelude.{IfOk}
use Rattle.lake_base.specs.declared.digest.Digest.{Digest}
use Rattle.lake_model.specs.Readings.{names_above}
use Rattle.core_readings.proofs.PlacesLemmas.{repository_at}
use Rattle.core_readings.proofs.RowsLemmas.{tags_told, heads_told}
use Rattle.core_readings.proofs.naming.names_of.Goals as goal

pub returns-then-tags-clause-names : goal.returns-then-tags-clause-names
returns-then-tags-clause-names c =
    subst (λ (names : List (List ℕ × Digest)). IfOk c.first_told.result (λ found. found.0 ≡ take c.args.amount names))
    (tags_told c.args.repository.now c.args.after.now
    ∙ ap (λ tags. names_above (repository_at c.args.repository.now) tags c.args.after.now) (sym c.if-tags.true))
    c.first_told.ensures.rows

pub returns-then-tags-clause-more : goal.returns-then-tags-clause-more
returns-then-tags-clause-more c =
    subst (λ (names : List (List ℕ × Digest)). IfOk c.first_told.result (λ found. found.1 ≡ nat_lt c.args.amount (length names)))
    (tags_told c.args.repository.now c.args.after.now
    ∙ ap (λ tags. names_above (repository_at c.args.repository.now) tags c.args.after.now) (sym c.if-tags.true))
    c.first_told.ensures.more

pub returns-clause-names : goal.returns-clause-names
returns-clause-names c =
    subst (λ (names : List (List ℕ × Digest)). IfOk c.first_told-2.result (λ found. found.0 ≡ take c.args.amount names))
    (heads_told c.args.repository.now c.args.after.now
    ∙ ap (λ tags. names_above (repository_at c.args.repository.now) tags c.args.after.now) (sym c.if-tags.false))
    c.first_told-2.ensures.rows

pub returns-clause-more : goal.returns-clause-more
returns-clause-more c =
    subst (λ (names : List (List ℕ × Digest)). IfOk c.first_told-2.result (λ found. found.1 ≡ nat_lt c.args.amount (length names)))
    (heads_told c.args.repository.now c.args.after.now
    ∙ ap (λ tags. names_above (repository_at c.args.repository.now) tags c.args.after.now) (sym c.if-tags.false))
    c.first_told-2.ensures.more
