use Rattle.std.proofs.Common.{◌+◌, [], ◌∷◌, ℕ, List, sym, ◌∙◌, ap, drop, if◌then◌else◌}
use Rattle.std.specs.Str.{is_utf8}
use Rattle.std.proofs.lemmas.List.{drop_more}
use Rattle.std.proofs.lemmas.Str.{is_utf8-from_IsUtf8, IsUtf8-nil}
use Rattle.http_wire.specs.declared.message.Field.{Field}
use Rattle.http_wire.specs.MessageFields.{is_named}
use Rattle.http_wire.proofs.FieldLemmas.{filter_passed, first_here, first_none}
use Rattle.http_wire.proofs.fields.first_text.Goals as goal

pub loop-at-preserved : goal.loop-at-preserved
loop-at-preserved c =
    filter_passed (is_named c.args.name.now) c.index-fields-at.result (drop (c.loop-at.at + 1) c.args.fields.now)
    (drop c.loop-at.at c.args.fields.now) c.args.fields.now c.loop-at.invariant
    (drop_more c.args.fields.now c.loop-at.at c.index-fields-at.result c.loop-at-test.true
    ∙ ap (λ (f : Field). f ∷ drop (c.loop-at.at + 1) c.args.fields.now) (sym c.index-fields-at.is))
    (sym c.is_named.ensures ∙ c.if-is_named.false)

pub returns-then-is_named-clause-first : goal.returns-then-is_named-clause-first
returns-then-is_named-clause-first c =
    c.text_or_empty.ensures.same ∙ ap (λ (l : List ℕ). if is_utf8 l then l else []) c.as_slice.ensures
    ∙ sym (first_here c.args.fields.now c.loop-at.at c.index-fields-at.result c.args.name.now c.loop-at-test.true c.index-fields-at.is
    (sym c.is_named.ensures ∙ c.if-is_named.true) c.loop-at.invariant)

pub returns-clause-first : goal.returns-clause-first
returns-clause-first c = sym (first_none c.args.name.now c.args.fields.now c.loop-at.at (c.loop-at-test.false) c.loop-at.invariant)

pub returns-clause-text : goal.returns-clause-text
returns-clause-text c = is_utf8-from_IsUtf8 [] IsUtf8-nil
