use Rattle.std.proofs.Common.{◌∙◌}
use Rattle.program_words.proofs.NumberLemmas.{as_parsed}
use Rattle.program_words.proofs.numbers.value_in.Goals as goal

pub returns : goal.returns
returns c = c.ok.ensures.value ∙ as_parsed c.args.digits.now c.parse.result c.parse.ensures.value.0 c.requires.each c.requires.some
