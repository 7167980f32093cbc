-- Where no two contents of two runs have one name.
use Rattle.std.specs.Prelude.{◌≡◌, ℕ, List}
use Rattle.std.specs.List.{Contains}
use Rattle.lake_base.specs.declared.digest.Digest.{Digest}
use Rattle.lake_calls.specs.declared.reply.CallReply.{CallReply}
use Rattle.lake_calls.specs.declared.reply.CallReply.TheVariants as reply
use Rattle.lake_calls.specs.declared.reply.Done.TheVariants as done
use Rattle.lake_calls.specs.declared.reply.Refusal.TheVariants as refusal
use Rattle.seat_laws.specs.LikeReplies.{AreLikeBodies}

-- one of the replies gives these bytes of an object
abbrev pub GiveBody : List CallReply → List ℕ → Type 0
GiveBody told body = (content_type : List ℕ) × Contains told (reply.Done (done.Object content_type body))

-- NO TWO CONTENTS HAVE ONE NAME, as far as the replies of two runs tell: those of the first tell of no name that two contents share; and of
-- the bodies that the first give and the others give, no two differ that are as long and have one SHA-256
pub record NoneClashes (told others : List CallReply) : Type 0 where
  pub names : (name : Digest) → Contains told (reply.Refused (refusal.NameClash name)) → ⊥
  pub bodies : (body other : List ℕ) → GiveBody told body → GiveBody others other → AreLikeBodies body other → body ≡ other
