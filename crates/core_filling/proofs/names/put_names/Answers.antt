use Rattle.std.proofs.Common.{Some, ap, ◌∙◌}
use Rattle.std.proofs.lemmas.Result.{on_ok_weaker}
use Rattle.byte_map.specs.Values.{some_values}
use Rattle.byte_map.proofs.ValuesLemmas.{some_values_insert}
use Rattle.core_filling.proofs.names.put_names.Goals as goal

pub returns-clause-names : goal.returns-clause-names
returns-clause-names c =
    let index = c.args.index.now in
    let homes =
    ap (some_values (λ home. home)) c.in_ok-insert.ensures.inserted
    ∙ some_values_insert (λ home. home) index.homes c.args.id.now.0 (Some c.in_ok-copy.field-0) c.args.repo.now (ap Some c.in_ok-copy.ensures.equal) in
    on_ok_weaker c.put_files.result (λ named. λ i. record { homes = homes i; files = named i }) c.put_files.ensures.names
