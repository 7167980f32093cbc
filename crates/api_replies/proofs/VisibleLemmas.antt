-- The content type of each printed reply is visible ASCII and blanks.
use Rattle.std.proofs.Common.{◌≡◌, ℕ, Bool, true, false, ◌&&◌, List, if◌then◌else◌, refl}
use Rattle.std.specs.List.{list_all}
use Rattle.lake_calls.specs.declared.reply.CallReply.{CallReply}
use Rattle.lake_calls.specs.declared.reply.CallReply.TheVariants as call
use Rattle.lake_calls.specs.declared.reply.Done.{Done}
use Rattle.lake_calls.specs.declared.reply.Done.TheVariants.{Repositories, RepositoryCreated, Branches, BranchCreated, Branch, BranchDeleted, BranchReset}
use Rattle.lake_calls.specs.declared.reply.Done.TheVariants.{Tags, TagCreated, Tag, TagDeleted, Uploaded, Linked, ObjectDeleted, Copied, Object}
use Rattle.lake_calls.specs.declared.reply.Done.TheVariants.{Statistics, Listing, Committed, Merged, Reverted, CherryPicked, Log, Commit}
use Rattle.lake_calls.specs.declared.reply.Done.TheVariants.{Protection, ProtectionSet, Hooks, HooksSet}
use Rattle.api_replies.specs.PrintedReplies.{is_visible, stands_in_head, object_type, done_reply, printed_reply}

and_right : (a b : Bool) → a && b ≡ true → b ≡ true
and_right true b both = both
and_right false b both = cc

one_of : (stands : Bool) (text other : List ℕ) → (stands ≡ true → list_all is_visible text ≡ true) → list_all is_visible other ≡ true
    → list_all is_visible (if stands then text else other) ≡ true
one_of true text other of_text of_other = of_text refl
one_of false text other of_text of_other = of_other

object_visible : (text : List ℕ) → list_all is_visible (object_type text) ≡ true
object_visible text = one_of (stands_in_head text) text _ (and_right _ (list_all is_visible text)) refl

done_visible : (told : Done) → list_all is_visible (done_reply told).content_type ≡ true
done_visible (Repositories repositories has_more) = refl
done_visible (RepositoryCreated repository) = refl
done_visible (Branches branches has_more) = refl
done_visible (BranchCreated id) = refl
done_visible (Branch branch) = refl
done_visible BranchDeleted = refl
done_visible BranchReset = refl
done_visible (Tags tags has_more) = refl
done_visible (TagCreated tag) = refl
done_visible (Tag tag) = refl
done_visible TagDeleted = refl
done_visible (Uploaded object) = refl
done_visible (Linked object) = refl
done_visible ObjectDeleted = refl
done_visible (Copied object) = refl
done_visible (Object content_type body) = object_visible content_type
done_visible (Statistics object) = refl
done_visible (Listing page) = refl
done_visible (Committed commit) = refl
done_visible (Merged id) = refl
done_visible (Reverted commit) = refl
done_visible (CherryPicked commit) = refl
done_visible (Log commits has_more) = refl
done_visible (Commit commit) = refl
done_visible (Protection patterns) = refl
done_visible ProtectionSet = refl
done_visible (Hooks rules) = refl
done_visible HooksSet = refl

pub printed_visible : (reply : CallReply) → list_all is_visible (printed_reply reply).content_type ≡ true
printed_visible (call.Done told) = done_visible told
printed_visible (call.Refused refusal) = refl
printed_visible (call.Malformed refusal) = refl
printed_visible call.NoMemory = refl
