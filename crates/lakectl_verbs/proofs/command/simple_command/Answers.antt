use Rattle.lakectl_verbs.proofs.ReadLemmas.{command_step, command_done}
use Rattle.lakectl_verbs.proofs.command.simple_command.Goals as goal

pub loop-argument-preserved : goal.loop-argument-preserved
loop-argument-preserved c =
    command_step c.args.arguments.now c.loop-argument.argument-index _ _ _ _ _ c.loop-argument-test.true c.clap_argument.ensures.rule
    (c.in_ok-command.ensures.shape c.clap_argument.ensures.local) c.loop-argument.invariant

pub returns : goal.returns
returns c = command_done c.args.arguments.now c.loop-argument.argument-index _ _ c.loop-argument-test.false c.loop-argument.invariant
