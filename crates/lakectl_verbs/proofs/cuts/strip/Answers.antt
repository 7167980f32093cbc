use Rattle.std.proofs.lemmas.Str.Pattern.{strip_prefix_char}
use Rattle.lakectl_verbs.proofs.CutLemmas.{stripped}
use Rattle.lakectl_verbs.proofs.cuts.strip.Goals as goal

pub returns : goal.returns
returns c =
    stripped c.args.mark c.args.text.now c.strip_prefix.result
    (strip_prefix_char c.args.mark c.args.text.now c.strip_prefix.result c.strip_prefix.ensures.cases c.requires)
