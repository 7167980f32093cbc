use Rattle.std.proofs.Common.{◌++◌, ◌∷◌, [], ℕ, List, Option, Bor, length, ap, sym, ◌∙◌, codes, append_assoc}
use Rattle.std.specs.Fmt.{decimal}
use Rattle.std.specs.Option.{option_map}
use Rattle.http_wire.specs.declared.message.Field.{Field}
use Rattle.lakectl_words.specs.WireRequests.{field_of, carried_fields}
use Rattle.lakectl_words.proofs.fields.push_carried.Goals as goal

pub returns : goal.returns
returns c =
    let old : List Field = c.args.fields.now.items in
    let size : List Field = field_of (codes "Content-Length") (decimal (length c.args.body.now)) ∷ [] in
    c.in_ok-push_size.ensures
    ∙ ap (λ (l : List Field). l ++ size)
    (c.in_ok-push_field.ensures ∙ ap (λ (v : List ℕ). old ++ field_of (codes "Content-Type") v ∷ []) c.as_bytes.ensures.value)
    ∙ append_assoc old (field_of (codes "Content-Type") c.in-Some.content_type.now ∷ []) size
    ∙ ap (λ (t : Option (Bor (List ℕ))). old ++ carried_fields (option_map (λ (n : Bor (List ℕ)). n.now) t) c.args.body.now) (sym c.in-Some.is)
