-- The arguments that are left make of the command what all make of a bare one.
use Rattle.std.proofs.Common.{◌≡◌, map, drop}
use Rattle.std.specs.List.{fold}
use Rattle.clap.specs.Words.{app_of, with_rule}
use Rattle.lakectl_verbs.specs.ArgumentForms.{form_of}
use Rattle.lakectl_verbs.specs.VerbCommands.{rule_of_form, simple_command}
use Rattle.lakectl_verbs.proofs.command.simple_command.Given as goal

abbrev pub invariant-loop-argument : goal.invariant-loop-argument
invariant-loop-argument l =
    fold with_rule (app_of l.command) (map rule_of_form (map form_of (drop l.argument-index l.arguments))) ≡ simple_command (map form_of l.fn.arguments)
