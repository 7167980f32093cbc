use Rattle.std.proofs.Common.{◌≡◌, ap, sym, ◌∙◌, arith, ◌≤◌}
use Rattle.branch_record.specs.Tokens.{TokensValue, with_change}
use Rattle.branch_record.specs.TokenRows.{tokens_of, room}
use Rattle.branch_record.proofs.RowsLemmas.{none_waits, one_waiting}
use Rattle.branch_record.proofs.tokens.Tokens.put.Goals as goal

pub returns-clause-put : goal.returns-clause-put
returns-clause-put c =
    let rows = tokens_of c.self.inside.changes.entries in
    let some : room c.self.inside.waiting ≡ 1 = ap (λ (x : TokensValue). x.spare) c.self.view_is ∙ c.in_ok-make_room.ensures.room in
    let free : 1 ≤ room c.self.inside.waiting = omega (arith, some) in
    let old = sym (none_waits c.self.inside.waiting rows free) ∙ ap (λ (x : TokensValue). x.changes) c.self.view_is ∙ c.in_ok-make_room.ensures.same in
    one_waiting (c.args.token, c.args.path, c.args.change) rows ∙ ap (λ m. with_change m c.args.token c.args.path c.args.change) old
