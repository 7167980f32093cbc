-- What a client is told where something outside of the lake failed.
use Rattle.std.specs.Prelude.{Bool, true, false}
use Rattle.lake_calls.specs.declared.reply.CallReply.{CallReply}
use Rattle.lake_calls.specs.declared.reply.CallReply.TheVariants as reply
use Rattle.lake_calls.specs.declared.reply.Refusal.{Refusal}
use Rattle.lake_calls.specs.declared.reply.Refusal.TheVariants as refusal

-- a refusal that no state of a lake gives: a store failed, an object's bytes weren't held or were others, or tries were too many
abbrev pub is_exception : Refusal → Bool
is_exception refusal.TooManyTries = true
is_exception (refusal.Lost path) = true
is_exception (refusal.Damaged path) = true
is_exception refusal.BlockFault = true
is_exception refusal.StoreFault = true
is_exception refused = false

-- A REPLY THAT TELLS OF A TROUBLE: such a refusal, or that no memory was left
abbrev pub is_trouble : CallReply → Bool
is_trouble (reply.Refused refused) = is_exception refused
is_trouble reply.NoMemory = true
is_trouble told = false

-- that an object's bytes weren't had: it was missed too often, they are lost, or they are others
abbrev pub is_unread : CallReply → Bool
is_unread (reply.Refused refusal.TooManyTries) = true
is_unread (reply.Refused (refusal.Lost path)) = true
is_unread (reply.Refused (refusal.Damaged path)) = true
is_unread told = false
