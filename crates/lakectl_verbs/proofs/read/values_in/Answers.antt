use Rattle.std.proofs.Common.{◌≡◌, ◌++◌, ℕ, ◌+◌, List, Option, Some, None, map, drop, refl, ap, sym, ◌∙◌, Bor}
use Rattle.std.specs.List.{filter_map}
use Rattle.std.specs.Option.{option_map}
use Rattle.clap.specs.Words.{first_value, found_of}
use Rattle.lakectl_verbs.specs.ArgumentForms.{form_of}
use Rattle.lakectl_verbs.specs.VerbCommands.{value_found}
use Rattle.lakectl_verbs.specs.ReadWords.{value_seen}
use Rattle.lakectl_verbs.proofs.ReadLemmas.{found_none, found_some}
use Rattle.lakectl_verbs.proofs.read.values_in.Goals as goal
use Rattle.lakectl_verbs.proofs.read.values_in.Goals.{in-Some+in_ok-push, in_default}

pub loop-argument-preserved : goal.loop-argument-preserved
loop-argument-preserved c =
    let found : List ℕ → Option (List ℕ) = first_value (found_of c.args.matches.now) in
    let seen : Option (Bor (List ℕ)) → Option (List ℕ) = option_map (λ (text : Bor (List ℕ)). text.now) in
    elim c.match-get_str.branch [
      | in-Some+in_ok-push w ↦
          rw w.values-is
          (found_some c.args.arguments.now c.loop-argument.argument-index _ found c.loop-argument.values.items _ c.loop-argument-test.true
          c.loop-argument.invariant _ _ (seen c.get_str.result) c.get_str.ensures (ap seen w.in-Some.is) refl w.in_ok-push.ensures.items)
      | in_default w ↦
          rw w.values-is
          (found_none c.args.arguments.now c.loop-argument.argument-index _ found c.loop-argument.values.items _ c.loop-argument-test.true
          c.loop-argument.invariant (seen c.get_str.result) c.get_str.ensures (ap seen w.in_default.is))
    ]
