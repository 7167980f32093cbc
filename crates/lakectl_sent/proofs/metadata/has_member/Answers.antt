use Rattle.std.proofs.Common.{ap, ◌∙◌}
use Rattle.std.specs.Prelude.{is_some, option_map}
use Rattle.serde_json.specs.View.{view}
use Rattle.serde_json.proofs.Views.{view_of_ref, view-lookup}
use Rattle.lakectl_sent.proofs.MetadataLemmas.{some_seen}
use Rattle.lakectl_sent.proofs.metadata.has_member.Goals as goal

pub returns : goal.returns
returns c =
    c.is_some.ensures ∙ some_seen c.get.result
    ∙ ap is_some (view_of_ref c.get.result ∙ ap (option_map view) c.get.ensures.value ∙ view-lookup c.args.key.now c.args.object.now.entries)
