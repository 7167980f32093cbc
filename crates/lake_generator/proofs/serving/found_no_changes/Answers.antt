use Rattle.std.proofs.Common.{◌≢◌, ◌++◌, List, ℕ, Some, None, ap, subst, ◌∙◌}
use Rattle.std.specs.Str.{bytes_eq}
use Rattle.std.proofs.lemmas.Bool.Decides.{Decides-eqb}
use Rattle.std.proofs.lemmas.Slice.Eq.{strip_prefix_is}
use Rattle.lake_generator.specs.Counting.{no_changes_text}
use Rattle.lake_generator.proofs.LineLemmas.{found_nowhere, found_there}
use Rattle.lake_generator.proofs.serving.found_no_changes.Goals as goal

pub returns-in-Some : goal.returns-in-Some
returns-in-Some c =
    let shown = c.args.shown.now in
    let rest = c.in-Some.rest.now in
    c.are_same.ensures ∙ ap (λ err. bytes_eq rest err) c.as_slice-in-Some.ensures
    ∙ found_there shown.out shown.err rest
    (strip_prefix_is Decides-eqb no_changes_text c.as_slice.result.now (Some c.in-Some.rest) c.in-Some.ensures.cases
    ∙ ap (λ out. out ++ rest) c.as_slice.ensures)

pub returns-in-None : goal.returns-in-None
returns-in-None c =
    let shown = c.args.shown.now in
    found_nowhere shown.out shown.err (subst (λ out. (rest : List ℕ) → no_changes_text ≢ out ++ rest) c.as_slice.ensures
    (strip_prefix_is Decides-eqb no_changes_text c.as_slice.result.now None c.in-None.ensures.cases))
