-- Replies that are one, but for contents that clash.
use Rattle.std.specs.Prelude.{◌≡◌, ℕ, List, length}
use Rattle.lake_base.specs.Digest.{sha256}
use Rattle.lake_calls.specs.NoClashes.{TellsClash}
use Rattle.lake_calls.specs.declared.reply.CallReply.{CallReply}
use Rattle.lake_calls.specs.declared.reply.CallReply.TheVariants as reply
use Rattle.lake_calls.specs.declared.reply.Done.TheVariants as done

-- two bodies that fit one entry: they are as long, and have one SHA-256
pub record AreLikeBodies (body other : List ℕ) : Type 0 where
  pub size : length body ≡ length other
  pub digest : sha256 body ≡ sha256 other

-- TWO REPLIES ARE ONE; or both tell that two contents share a name, and it may be another name; or both give an object's bytes, and these
-- fit one entry
pub data AreLikeReplies (told other : CallReply) : Type 0 where
  Same : told ≡ other → AreLikeReplies told other
  TellClashes : TellsClash told → TellsClash other → AreLikeReplies told other
  GiveBodies : (content_type body other_body : List ℕ) → told ≡ reply.Done (done.Object content_type body)
      → other ≡ reply.Done (done.Object content_type other_body) → AreLikeBodies body other_body → AreLikeReplies told other
