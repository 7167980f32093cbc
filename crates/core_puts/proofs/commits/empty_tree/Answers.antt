use Rattle.std.proofs.Common.{ap, ◌∙◌}
use Rattle.lake_format.specs.Cutting.{files}
use Rattle.core_puts.proofs.FoundingLemmas.{empty_files}
use Rattle.core_puts.proofs.commits.empty_tree.Goals as goal

pub returns : goal.returns
returns c cut =
    let map = c.in_ok-tree.ensures.map ∙ c.new.ensures in
    let same = c.in_ok-tree.ensures.files ∙ ap (files _) c.new.ensures ∙ empty_files _ cut in
    λ i. record { map = map i; files = same i }
