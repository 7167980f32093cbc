use Rattle.std.proofs.Common.{◌++◌, ◌∷◌, [], ℕ, List, ap, ◌∙◌, codes}
use Rattle.lakectl_words.specs.WireRequests.{field_of}
use Rattle.lakectl_words.proofs.fields.push_size.Goals as goal

pub returns : goal.returns
returns c =
    c.in_ok-push_field.ensures
    ∙ ap (λ (v : List ℕ). c.args.fields.now.items ++ field_of (codes "Content-Length") v ∷ []) (c.as_bytes.ensures.value ∙ c.in_ok-size.ensures)
