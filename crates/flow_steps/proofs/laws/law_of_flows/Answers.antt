use Rattle.flow_steps.proofs.laws.law_of_flows.Goals as goal

pub returns-clause-only : goal.returns-clause-only
returns-clause-only c old new call request met told position edge flow = (flow.served, (flow.goes.added, flow.goes.seen, flow.goes.of_call))

pub returns-clause-alone : goal.returns-clause-alone
returns-clause-alone c old new call request met told position edge flow alone = (
  flow.goes.added,
  flow.goes.seen,
  λ k e within. let own = flow.goes.alone alone k e within in (own, flow.goes.of_call k e within own),
)
