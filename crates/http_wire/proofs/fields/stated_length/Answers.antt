use Rattle.std.proofs.Common.{◌+◌, ◌∷◌, sym, ◌∙◌, ap, codes, drop}
use Rattle.std.specs.List.{list_any}
use Rattle.std.proofs.lemmas.List.{drop_more}
use Rattle.http_wire.specs.declared.message.Field.{Field}
use Rattle.http_wire.specs.MessageFields.{is_named, stated_number}
use Rattle.http_wire.proofs.FieldLemmas.{filter_passed, stated_twice, stated_once}
use Rattle.http_wire.proofs.fields.stated_length.Goals as goal

pub loop-at-preserved : goal.loop-at-preserved
loop-at-preserved c =
    filter_passed (is_named (codes "content-length")) c.index-fields-at.result (drop (c.loop-at.at + 1) c.args.fields.now)
    (drop c.loop-at.at c.args.fields.now) c.args.fields.now c.loop-at.invariant
    (drop_more c.args.fields.now c.loop-at.at c.index-fields-at.result c.loop-at-test.true
    ∙ ap (λ (f : Field). f ∷ drop (c.loop-at.at + 1) c.args.fields.now) (sym c.index-fields-at.is))
    (sym c.is_named.ensures ∙ c.if-is_named.false)

pub returns-then-has_length : goal.returns-then-has_length
returns-then-has_length c =
    sym (stated_twice c.args.fields.now c.loop-at.at c.index-fields-at.result (codes "content-length") c.loop-at-test.true c.index-fields-at.is
    (sym c.is_named.ensures ∙ c.if-is_named.true) c.loop-at.invariant
    (ap (list_any (is_named (codes "content-length"))) (sym c.split_at.ensures.back) ∙ sym c.has_length.ensures ∙ c.if-has_length.true))

pub returns-then-is_named : goal.returns-then-is_named
returns-then-is_named c =
    c.stated_number.ensures ∙ ap stated_number c.as_slice.ensures
    ∙ sym (stated_once c.args.fields.now c.loop-at.at c.index-fields-at.result (codes "content-length") c.loop-at-test.true c.index-fields-at.is
    (sym c.is_named.ensures ∙ c.if-is_named.true) c.loop-at.invariant
    (ap (list_any (is_named (codes "content-length"))) (sym c.split_at.ensures.back) ∙ sym c.has_length.ensures ∙ c.if-has_length.false))
