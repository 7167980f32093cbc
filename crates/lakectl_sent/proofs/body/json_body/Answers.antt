use Rattle.std.proofs.Common.{◌≡◌, ap, sym, ◌∙◌, map}
use Rattle.serde_json.specs.Data.{Data, object}
use Rattle.serde_json.specs.View.{view, members_view}
use Rattle.serde_json.specs.Written.{has_float, members_have_float, compact_text}
use Rattle.serde_json.proofs.Views.{view-Object}
use Rattle.lakectl_verbs.specs.ReadWords.{value_seen}
use Rattle.lakectl_sent.specs.UriPlaces.{place_seen}
use Rattle.lakectl_sent.proofs.BodyLemmas.{sent_no_float}
use Rattle.lakectl_sent.proofs.body.json_body.Goals as goal

pub compact-requires : goal.compact-requires
compact-requires c =
    ap has_float (view-Object c.in_ok-object.object) ∙ ap members_have_float c.in_ok-object.ensures
    ∙ sent_no_float c.args.verb (place_seen c.args.at) (place_seen c.args.other) (map value_seen c.args.values.now)

pub returns : goal.returns
returns c = c.in_ok-text.ensures ∙ ap compact_text (view-Object c.in_ok-object.object ∙ ap object c.in_ok-object.ensures)
