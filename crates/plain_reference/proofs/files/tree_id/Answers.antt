use Rattle.std.proofs.Common.{ap, ◌∙◌, rules}
use Rattle.lake_base.specs.Digest.{sha256}
use Rattle.plain_reference.proofs.FilesLemmas.{named, some_file, first_file}
use Rattle.plain_reference.proofs.files.tree_id.Goals as goal

pub index-requires : goal.index-requires
index-requires c =
    let some = some_file c.args.cut.now c.args.objects.now c.in_ok-all.all.items c.in_ok-all.ensures.spelled in
    search rules

pub returns-clause-id : goal.returns-clause-id
returns-clause-id c =
    let bytes = c.as_slice.ensures ∙ c.index.ensures in
    named c.of.result _ (c.of.ensures ∙ ap sha256 bytes)
    ∙ first_file c.args.cut.now c.args.objects.now c.in_ok-all.all.items c.index.result.now c.in_ok-all.ensures.spelled
