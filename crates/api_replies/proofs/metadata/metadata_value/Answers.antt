use Rattle.std.proofs.Common.{ap, ◌∙◌, map, take_all, arith}
use Rattle.serde_json.proofs.Views.{view-Object}
use Rattle.serde_json.specs.Data.{object}
use Rattle.api_replies.specs.ReplyForms.{fields, pair_field}
use Rattle.api_replies.proofs.FieldLemmas.{put_next}
use Rattle.api_replies.proofs.metadata.metadata_value.Goals as goal

pub loop-key-preserved : goal.loop-key-preserved
loop-key-preserved c =
    rw (c.in_ok-put.ensures.ok, c.in_ok-value.ensures, c.as_str.ensures.bytes, c.as_str-in-loop-key.ensures.bytes, c.loop-key.invariant)
    (put_next c.as_slice-key-items.result.now c.loop-key.key-index c.loop-key-item.result
    (rw c.as_slice-key-items.ensures.pairs c.as_slice-key-items.ensures.valid.ascending) (omega arith) c.loop-key-item.is)

pub returns : goal.returns
returns c =
    view-Object c.loop-key.object
    ∙ ap object (c.loop-key.invariant
    ∙ ap (λ items. fields (map pair_field items))
    (take_all c.loop-key.key-index c.as_slice-key-items.result.now (omega arith) ∙ c.as_slice-key-items.ensures.pairs))
