use Rattle.std.proofs.Common.{◌≡◌, None, Some, ap, sym, subst, ◌∙◌}
use Rattle.std.specs.FinMap.{insert}
use Rattle.lake_base.specs.Digest.{sha256}
use Rattle.lake_values.specs.Commit.{CommitRecordValue}
use Rattle.lake_values.specs.Ancestry.{graph_of, commit_of, id_of}
use Rattle.lake_format.specs.Spelling.{commit_id}
use Rattle.commit_graph.specs.Graphs.{IsSound}
use Rattle.commit_graph.specs.Adding.{missing_parent}
use Rattle.commit_graph.specs.declared.fault.GraphFault.TheVariants.{NoParent}
use Rattle.commit_graph.proofs.ReadingLemmas.{apart}
use Rattle.commit_graph.proofs.GraphLemmas.{insert_from, no_missing, timely, clash_none, sound_more, same_again}
use Rattle.commit_graph.proofs.graph.Graph.add.Goals as goal

pub returns-in-Some-clause-added : goal.returns-in-Some-clause-added
returns-in-Some-clause-added c =
    let graph = c.args.self.now in
    let id = c.of-id.result in
    let kept = c.in-Some.kept.now in
    let named : id ≡ commit_id c.args.commit = ap id_of (c.of-id.ensures ∙ ap sha256 (c.as_slice-2.ensures.value ∙ c.in_ok-new.ensures.spelled)) in
    let is : commit_of graph id ≡ Some kept = sym c.in-Some.ensures.found in
    let spelled = clash_none id c.in_ok-new.new.items kept c.in_ok-test_bytes.ensures ∙ c.in_ok-new.ensures.spelled in
    let same = apart kept c.args.commit (c.in-Some.ensures.valid.names id kept is).limits c.in_ok-new.ensures.limits spelled in
    (named, sym (same_again graph id c.args.commit (is ∙ ap (λ (x : CommitRecordValue). Some x) same)))

pub invariant_of-self-2 : goal.invariant_of-self-2
invariant_of-self-2 c =
    let graph = c.args.self.now in
    let id = c.of-id.result in
    let named : id ≡ commit_id c.args.commit = ap id_of (c.of-id.ensures ∙ ap sha256 (c.as_slice-2.ensures.value ∙ c.in_ok-new.ensures.spelled)) in
    let put : graph_of c.insert.new.self.entries ≡ insert graph id.0 c.args.commit =
    insert_from c.self.inside.commits.entries c.insert.new.self.entries id c.args.commit c.in_ok-insert.ensures.updates.0
    ∙ ap (λ g. insert g id.0 c.args.commit) c.self.view_is in
    let parents = c.as_slice.ensures ∙ ap (λ (x : CommitRecordValue). x.parents) c.commit.view_is in
    let whole : missing_parent graph c.args.commit.parents ≡ None =
    ap (missing_parent graph) (sym parents) ∙ no_missing NoParent (missing_parent graph c.as_slice.result.now) c.in_ok-test_parents.ensures in
    subst IsSound (sym put) (sound_more graph id c.args.commit c.in_default.ensures.valid (sym c.in_default.ensures.found)
    (record { limits = c.in_ok-new.ensures.limits; named = sym named }) whole (timely graph c.args.commit c.in_ok-test_generation.ensures))

pub returns-clause-added : goal.returns-clause-added
returns-clause-added c =
    let graph = c.args.self.now in
    let id = c.of-id.result in (
      ap id_of (c.of-id.ensures ∙ ap sha256 (c.as_slice-2.ensures.value ∙ c.in_ok-new.ensures.spelled)),
      insert_from c.self.inside.commits.entries c.insert.new.self.entries id c.args.commit c.in_ok-insert.ensures.updates.0
          ∙ ap (λ g. insert g id.0 c.args.commit) c.self.view_is,
    )
