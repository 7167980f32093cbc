use Rattle.std.proofs.Common.{◌∙◌, ◌+◌, length, rules, tests}
use Rattle.std.specs.Bool.{◌==◌}
use Rattle.std.proofs.lemmas.Iterator.{YieldsList-from_slice}
use Rattle.std.proofs.lemmas.Iterator.Search.{all_from_yields_List}
use Rattle.hook_rules.specs.Matching.{plain_bytes}
use Rattle.hook_rules.proofs.MatchingLemmas.{at_end}
use Rattle.hook_rules.proofs.pattern.matches.Goals as goal

pub loop-byte-preserved : goal.loop-byte-preserved
loop-byte-preserved c =
    let leads = c.in-Some-step.ensures (plain_bytes c.args.pattern.now + 1) (length c.args.name.now) c.loop-byte.invariant.going in
    record { same = leads.same ∙ c.loop-byte.invariant.same; going = leads.going }

pub returns : goal.returns
returns c =
    all_from_yields_List (λ byte. byte == 42) _ _ _ c.all.ensures.ran (YieldsList-from_slice c.loop-byte.walk.pattern.now cc) (λ x b q k. search (rules, tests))
    ∙ at_end (plain_bytes c.args.pattern.now + 1) (length c.args.name.now) c.loop-byte.walk c.loop-byte.invariant.going c.in_default.ensures.cases
    ∙ c.loop-byte.invariant.same
