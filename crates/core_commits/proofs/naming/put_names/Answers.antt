use Rattle.std.proofs.Common.{Some, ap, ◌∙◌}
use Rattle.byte_map.specs.Values.{some_values}
use Rattle.byte_map.proofs.ValuesLemmas.{some_values_insert}
use Rattle.core_state.specs.NameIndexes.{index_value}
use Rattle.core_commits.proofs.NamingLemmas.{under_names}
use Rattle.core_commits.proofs.naming.put_names.Goals as goal

pub returns-clause-names : goal.returns-clause-names
returns-clause-names c repo files are =
    let index = c.args.index.now in
    let names = c.args.names in
    let homes =
    ap (some_values (λ home. home)) c.put_in_place.ensures
    ∙ some_values_insert (λ home. home) index.homes c.args.id.now.0 (Some names.home) repo (ap Some are.home) in
    let kept = c.put_files.ensures.named ∙ under_names names.files.items files (index_value index).files are.files in
    λ i. record { homes = homes i; files = kept i }

pub returns-clause-places : goal.returns-clause-places
returns-clause-places c = c.put_files.ensures.places
