use Rattle.std.proofs.Common.{◌≡◌, Some, inl, inr, refl, sym, ap, subst, ◌∙◌}
use Rattle.std.specs.Prelude.{option_map}
use Rattle.std.specs.FinMap.{get}
use Rattle.meta_range.specs.Files.{FitsTree}
use Rattle.meta_range.specs.Ranges.{TreeValue}
use Rattle.byte_map.proofs.ValuesLemmas.{get_map_values}
use Rattle.core_state.specs.NewCommits.{NewCommit}
use Rattle.core_state.specs.RepositoryStates.{repository_value}
use Rattle.core_commits.specs.HeadOperations.{new_commit}
use Rattle.core_commits.proofs.StandingLemmas.{no_tree, same_commit, same_tree, some_tree}
use Rattle.core_commits.proofs.standing.law_of_standing.Goals as goal

pub returns-in_default : goal.returns-in_default
returns-in_default c l repo draft sound index at is none =
    let r = repository_value c.args.repository.now in
    let new = new_commit c.args.new.now in
    let nothing = sym c.in_default.ensures.found in
    inl (nothing, no_tree l repo r draft new sound index at is none (get r.trees new.id.0) refl nothing)

pub returns-in_default-get : goal.returns-in_default-get
returns-in_default-get c l repo draft sound index at is none =
    let r = repository_value c.args.repository.now in
    let new = new_commit c.args.new.now in
    let gone = get_map_values (λ tree. tree.value) c.args.repository.now.trees new.id.0 ∙ ap (option_map (λ tree. tree.value)) (sym c.in_default-get.ensures) in
    absurd (some_tree l repo r draft new sound index at is none c.in-Some._kept.now (sym c.in-Some.ensures.found) gone)

pub returns : goal.returns
returns c l repo draft sound index at is none =
    let r = repository_value c.args.repository.now in
    let new = new_commit c.args.new.now in
    let old = c.in-Some._kept.now in
    let there = sym c.in-Some.ensures.found in
    let same =
    same_commit l repo r draft new sound index at is none c.laws_of_commits.ensures.apart old there
    (c.in-Some.ensures.valid.names new.id old there).limits c.requires in
    let tree = c.in-Some-get.tree.now.value in
    let found : get r.trees new.id.0 ≡ Some tree =
    get_map_values (λ tree. tree.value) c.args.repository.now.trees new.id.0 ∙ ap (option_map (λ tree. tree.value)) (sym c.in-Some-get.ensures) in
    let fits = subst (λ (t : TreeValue). FitsTree t.map) c.deref-2.ensures c.law_of_limits-2.ensures in
    let new_fits = subst (λ (t : TreeValue). FitsTree t.map) c.deref.ensures c.law_of_limits.ensures in
    let draft_fits = subst (λ (n : NewCommit). FitsTree n.tree.map) is new_fits in
    let known =
    subst (λ (t : TreeValue). t.files ≡ new.tree.files → t ≡ new.tree) c.deref-3.ensures
    (subst (λ (t : TreeValue). c.deref-3.result.now.files ≡ t.files → c.deref-3.result.now ≡ t) c.deref-4.ensures c.law_of_files.ensures) in
    let trees =
    same_tree l repo r draft new sound index at is none old there same tree found
    (c.law_of_names.ensures.same l.cut tree.map draft.objects fits draft_fits) known in
    inr (there ∙ ap Some same, found ∙ ap Some trees)
