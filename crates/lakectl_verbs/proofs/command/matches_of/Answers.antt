use Rattle.std.proofs.Common.{◌≡◌, ◌∙◌, ap, sym, List, map}
use Rattle.clap.specs.Words.{App, app_of, is_simple_and_free}
use Rattle.lakectl_verbs.specs.ArgumentForms.{ArgumentForm}
use Rattle.lakectl_verbs.specs.VerbCommands.{simple_command, command_for, words_seen}
use Rattle.lakectl_verbs.proofs.ClapLemmas.{taken, refused, is_defined}
use Rattle.lakectl_verbs.proofs.command.matches_of.Goals as goal

pub returns-in-Ok : goal.returns-in-Ok
returns-in-Ok c =
    let same : app_of c.in_ok-command.command ≡ command_for c.args.verb = c.in_ok-command.ensures ∙ ap simple_command c.arguments.ensures in
    taken c.args.verb (words_seen c.args.words.now) (app_of c.in_ok-command.command) c.in-Ok.matches same c.in-Ok.ensures.matches
    (c.in-Ok.ensures.kinds (ap is_simple_and_free same ∙ is_defined c.args.verb))

pub returns-in-Err : goal.returns-in-Err
returns-in-Err c =
    let same : app_of c.in_ok-command.command ≡ command_for c.args.verb = c.in_ok-command.ensures ∙ ap simple_command c.arguments.ensures in
    refused c.args.verb (words_seen c.args.words.now) (app_of c.in_ok-command.command) c.in-Err.error c.fault_of.result same
    (c.in-Err.ensures.kinds (ap is_simple_and_free same ∙ is_defined c.args.verb)) (λ e. c.fault_of.ensures.memory (c.kind.ensures
    ∙ e)) c.fault_of.ensures.words
