-- WHAT IS SENT of what a client is told: the status, the content type and the body (this project's profile).
use Rattle.std.specs.Prelude.{ℕ, Bool, false, not, ◌&&◌, ◌==◌, nat_le, List, [], length, codes, if◌then◌else◌}
use Rattle.std.specs.List.{list_all}
use Rattle.serde_json.specs.Data.{Data}
use Rattle.serde_json.specs.Written.{compact_text}
use Rattle.hook_rules.specs.HookForms.{protection_data, hooks_data}
use Rattle.http_wire.specs.declared.message.Reply.{Reply}
use Rattle.lake_calls.specs.declared.reply.CallReply.{CallReply}
use Rattle.lake_calls.specs.declared.reply.CallReply.TheVariants as call
use Rattle.lake_calls.specs.declared.reply.Done.{Done}
use Rattle.lake_calls.specs.declared.reply.Done.TheVariants.{Repositories, RepositoryCreated, Branches, BranchCreated, Branch, BranchDeleted, BranchReset}
use Rattle.lake_calls.specs.declared.reply.Done.TheVariants.{Tags, TagCreated, Tag, TagDeleted, Uploaded, Linked, ObjectDeleted, Copied, Object}
use Rattle.lake_calls.specs.declared.reply.Done.TheVariants.{Statistics, Listing, Committed, Merged, Reverted, CherryPicked, Log, Commit}
use Rattle.lake_calls.specs.declared.reply.Done.TheVariants.{Protection, ProtectionSet, Hooks, HooksSet}
use Rattle.lake_pages.specs.Listing.{item_name}
use Rattle.api_replies.specs.RefusalTexts.{Told, refusal_told, malformed_told, no_memory_told}
use Rattle.api_replies.specs.ReplyForms.{id_text, statistics_form, item_form, commit_form, reference_form, repository_form, merged_form, list_form, fault_form}

-- a body under its content type; behind the reply the connection may stay
abbrev pub sent : (status : ℕ) (content_type body : List ℕ) → Reply
sent status content_type body = record { status = status; content_type = content_type; body = body; close = false }

-- JSON as its compact text
abbrev pub json_reply : (status : ℕ) → Data → Reply
json_reply status value = sent status (codes "application/json") (compact_text value)

-- no body, and no content type
abbrev pub empty_reply : Reply
empty_reply = sent 204 [] []

abbrev pub fault_reply : Told → Reply
fault_reply told = json_reply told.status (fault_form told.message)

-- visible ASCII, or a blank
abbrev pub is_visible : ℕ → Bool
is_visible byte = nat_le 32 byte && nat_le byte 126

-- whether a content type is one that a head can hold
abbrev pub stands_in_head : List ℕ → Bool
stands_in_head content_type = not (length content_type == 0) && list_all is_visible content_type

-- the content type of an object, where it has one that a head can hold, and else that of plain bytes
abbrev pub object_type : List ℕ → List ℕ
object_type content_type = if stands_in_head content_type then content_type else codes "application/octet-stream"

-- a call that was done
abbrev pub done_reply : Done → Reply
done_reply (Repositories repositories has_more) = json_reply 200 (list_form repository_form (λ repository. repository.name) has_more repositories)
done_reply (RepositoryCreated repository) = json_reply 201 (repository_form repository)
done_reply (Branches branches has_more) = json_reply 200 (list_form reference_form (λ branch. branch.name) has_more branches)
done_reply (BranchCreated id) = sent 201 (codes "text/plain") (id_text id)
done_reply (Branch branch) = json_reply 200 (reference_form branch)
done_reply BranchDeleted = empty_reply
done_reply BranchReset = empty_reply
done_reply (Tags tags has_more) = json_reply 200 (list_form reference_form (λ tag. tag.name) has_more tags)
done_reply (TagCreated tag) = json_reply 201 (reference_form tag)
done_reply (Tag tag) = json_reply 200 (reference_form tag)
done_reply TagDeleted = empty_reply
done_reply (Uploaded object) = json_reply 201 (statistics_form object.path object.entry)
done_reply (Linked object) = json_reply 201 (statistics_form object.path object.entry)
done_reply ObjectDeleted = empty_reply
done_reply (Copied object) = json_reply 201 (statistics_form object.path object.entry)
done_reply (Object content_type body) = sent 200 (object_type content_type) body
done_reply (Statistics object) = json_reply 200 (statistics_form object.path object.entry)
done_reply (Listing page) = json_reply 200 (list_form item_form item_name page.has_more page.items)
done_reply (Committed commit) = json_reply 201 (commit_form commit)
done_reply (Merged id) = json_reply 200 (merged_form id)
done_reply (Reverted commit) = json_reply 201 (commit_form commit)
done_reply (CherryPicked commit) = json_reply 201 (commit_form commit)
done_reply (Log commits has_more) = json_reply 200 (list_form commit_form (λ commit. id_text commit.id) has_more commits)
done_reply (Commit commit) = json_reply 200 (commit_form commit)
done_reply (Protection patterns) = json_reply 200 (protection_data patterns)
done_reply ProtectionSet = empty_reply
done_reply (Hooks rules) = json_reply 200 (hooks_data rules)
done_reply HooksSet = empty_reply

-- THE REPLY THAT IS PRINTED
abbrev pub printed_reply : CallReply → Reply
printed_reply (call.Done told) = done_reply told
printed_reply (call.Refused refusal) = fault_reply (refusal_told refusal)
printed_reply (call.Malformed refusal) = fault_reply (malformed_told refusal)
printed_reply call.NoMemory = fault_reply no_memory_told
