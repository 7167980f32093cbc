use Rattle.lake_calls.proofs.laws.law_of_placed_calls.Goals as goal

pub returns : goal.returns
returns c = c.law_of_placement.ensures.placed c.law_of_rules.ensures.lawful
