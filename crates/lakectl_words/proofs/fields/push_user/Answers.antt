use Rattle.std.proofs.Common.{◌++◌, ◌∷◌, [], ℕ, List, Option, Bor, ap, sym, ◌∙◌, codes}
use Rattle.std.specs.Option.{option_map}
use Rattle.lakectl_words.specs.WireRequests.{field_of, user_fields}
use Rattle.lakectl_words.proofs.fields.push_user.Goals as goal

pub returns : goal.returns
returns c =
    c.in_ok-push_field.ensures
    ∙ ap (λ (v : List ℕ). c.args.fields.now.items ++ field_of (codes "Lake-User") v ∷ []) c.as_bytes.ensures.value
    ∙ ap (λ (u : Option (Bor (List ℕ))). c.args.fields.now.items ++ user_fields (option_map (λ (n : Bor (List ℕ)). n.now) u)) (sym c.in-Some.is)
