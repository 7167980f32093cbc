use Rattle.std.proofs.Common.{◌≡◌, Some, ap, sym, ◌∙◌}
use Rattle.branch_record.specs.Tokens.{TokensValue}
use Rattle.branch_record.specs.TokenRows.{Waiting, tokens_of, with_waiting}
use Rattle.branch_record.proofs.RowsLemmas.{none_waiting, one_waiting}
use Rattle.branch_record.proofs.tokens.Tokens.make_room.Goals as goal

pub returns-in-Ok-clause-same : goal.returns-in-Ok-clause-same
returns-in-Ok-clause-same c =
    let rows = tokens_of c.self.inside.changes.entries in
    let w : Waiting = Some (c.in-Some.token, c.in-Some.path, c.in-Some.change) in
    let waits : w ≡ c.self.inside.waiting = sym c.in-Some.is ∙ c.take.ensures.value in
    ap (λ (o : Waiting). with_waiting o (tokens_of c.put_in_place.new.changes.entries)) c.take.ensures.after
    ∙ none_waiting (tokens_of c.put_in_place.new.changes.entries) ∙ c.in-Ok.ensures.put
    ∙ sym (one_waiting (c.in-Some.token, c.in-Some.path, c.in-Some.change) rows)
    ∙ ap (λ (o : Waiting). with_waiting o rows) waits ∙ ap (λ (x : TokensValue). x.changes) c.self.view_is
