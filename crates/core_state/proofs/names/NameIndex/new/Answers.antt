use Rattle.std.proofs.Common.{ap, ◌∙◌}
use Rattle.std.specs.FinMap.{empty}
use Rattle.byte_map.specs.Values.{some_values}
use Rattle.byte_map.proofs.ValuesLemmas.{some_values_empty}
use Rattle.core_state.specs.NameIndexes.{bytes_in}
use Rattle.core_state.proofs.names.NameIndex.new.Goals as goal

pub returns : goal.returns
returns c =
    let homes = ap (some_values (λ home. home)) c.new.ensures ∙ some_values_empty (λ home. home) in
    let files = ap (some_values bytes_in) c.new-2.ensures ∙ some_values_empty bytes_in in
    ap (λ m. record { homes = m; files = some_values bytes_in c.new-2.result }) homes ∙ ap (λ m. record { homes = empty; files = m }) files
