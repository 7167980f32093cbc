-- Replies where no two contents have one name.
use Rattle.std.proofs.Common.{◌≡◌, List, [], ◌∷◌, ◌++◌, sym, ap, subst, ◌∙◌}
use Rattle.std.specs.List.{Contains}
use Rattle.std.proofs.lemmas.List.Elements.{Contains-append_left, Contains-append_right}
use Rattle.lake_values.proofs.OrderLemmas.{Contains-first}
use Rattle.lake_calls.specs.declared.reply.CallReply.{CallReply}
use Rattle.lake_calls.specs.declared.reply.CallReply.TheVariants as reply
use Rattle.lake_calls.specs.declared.reply.Done.TheVariants as done
use Rattle.seat_laws.specs.Clashes.{NoneClashes}
use Rattle.seat_laws.specs.LikeReplies.{AreLikeReplies, GiveBodies, Same, TellClashes}

-- ---- of parts of what was told

pub front_apart : (a b c d : List CallReply) → NoneClashes (a ++ b) (c ++ d) → NoneClashes a c
front_apart a b c d apart = record {
  names = λ name is. apart.names name (Contains-append_left a b _ is);
  bodies = λ body other is so like. apart.bodies body other (is.0, Contains-append_left a b _ is.1) (so.0, Contains-append_left c d _ so.1) like;
}

pub rest_apart : (a b c d : List CallReply) → NoneClashes (a ++ b) (c ++ d) → NoneClashes b d
rest_apart a b c d apart = record {
  names = λ name is. apart.names name (Contains-append_right a b _ is);
  bodies = λ body other is so like. apart.bodies body other (is.0, Contains-append_right a b _ is.1) (so.0, Contains-append_right c d _ so.1) like;
}

-- ---- of one reply

-- replies that are alike are the same
pub one_told : (told other : CallReply) → NoneClashes (told ∷ []) (other ∷ []) → AreLikeReplies told other → told ≡ other
one_told told other apart (Same is) = is
one_told told other apart (TellClashes (name, is) tells) =
    absurd (apart.names name (subst (Contains (told ∷ [])) is (Contains-first told [])))
one_told told other apart (GiveBodies content_type body other_body is so like) =
    let same : body ≡ other_body = apart.bodies body other_body (content_type, subst (Contains (told ∷ [])) is (Contains-first told []))
    (content_type, subst (Contains (other ∷ [])) so (Contains-first other [])) like in
    is ∙ (ap (λ b. reply.Done (done.Object content_type b)) same ∙ sym so)
