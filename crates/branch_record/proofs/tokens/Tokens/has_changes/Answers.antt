use Rattle.std.proofs.Common.{true, false, ap, refl, subst, ◌∙◌}
use Rattle.std.specs.Option.{is_some}
use Rattle.std.specs.FinMap.{contains_key}
use Rattle.branch_record.specs.Tokens.{TokensValue, HasNoEmptyToken}
use Rattle.branch_record.proofs.RowsLemmas.{contains_found, no_empty_token}
use Rattle.branch_record.proofs.tokens.Tokens.has_changes.Goals as goal

pub returns-in-Some-clause-there : goal.returns-in-Some-clause-there
returns-in-Some-clause-there c =
    contains_found c.self.inside.changes.entries c.self.inside.waiting c.args.token true _ (ap is_some c.in-Some.ensures) refl
    ∙ ap (λ (x : TokensValue). contains_key x.changes c.args.token) c.self.view_is

pub returns-in-None-clause-there : goal.returns-in-None-clause-there
returns-in-None-clause-there c =
    contains_found c.self.inside.changes.entries c.self.inside.waiting c.args.token false _ (ap is_some c.in-None.ensures) c.has_in_place.ensures
    ∙ ap (λ (x : TokensValue). contains_key x.changes c.args.token) c.self.view_is

pub returns-in-Some-clause-some : goal.returns-in-Some-clause-some
returns-in-Some-clause-some c =
    subst (λ (x : TokensValue). HasNoEmptyToken x.changes) c.self.view_is (no_empty_token c.self.inside.changes.entries c.self.inside.waiting)

pub returns-in-None-clause-some : goal.returns-in-None-clause-some
returns-in-None-clause-some c =
    subst (λ (x : TokensValue). HasNoEmptyToken x.changes) c.self.view_is (no_empty_token c.self.inside.changes.entries c.self.inside.waiting)
