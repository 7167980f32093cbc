use Rattle.std.proofs.Common.{not, ◌∙◌, rules, tests}
use Rattle.std.specs.Str.{bytes_eq}
use Rattle.std.proofs.lemmas.Iterator.{YieldsList-from_slice}
use Rattle.std.proofs.lemmas.Iterator.Search.{all_from_yields_List}
use Rattle.hook_rules.proofs.DecisionLemmas.{none_is}
use Rattle.hook_rules.proofs.decision.lacks.Goals as goal

pub returns : goal.returns
returns c =
    let key = c.args.key.now in
    all_from_yields_List (λ pair. not (bytes_eq pair.0 key)) _ _ _ c.all.ensures.ran (YieldsList-from_slice c.args.metadata.now cc)
    (λ x b q k. search (rules, tests))
    ∙ none_is key c.args.metadata.now
