-- The values found so far, and those of the arguments that are left.
use Rattle.std.proofs.Common.{◌≡◌, ◌++◌, map, drop}
use Rattle.std.specs.List.{filter_map}
use Rattle.clap.specs.Words.{first_value, found_of}
use Rattle.lakectl_verbs.specs.ArgumentForms.{form_of}
use Rattle.lakectl_verbs.specs.VerbCommands.{value_found}
use Rattle.lakectl_verbs.specs.ReadWords.{value_seen}
use Rattle.lakectl_verbs.proofs.read.values_in.Given as goal

abbrev pub invariant-loop-argument : goal.invariant-loop-argument
invariant-loop-argument l =
    let found = value_found (first_value (found_of l.fn.matches)) in
    map value_seen l.values.items ++ filter_map found (map form_of (drop l.argument-index l.arguments)) ≡ filter_map found (map form_of l.fn.arguments)
