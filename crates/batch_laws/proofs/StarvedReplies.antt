-- A reply that tells that no memory was left is shown with the status 7.
use Rattle.std.proofs.Common.{◌≡◌, ◌==◌, ℕ, Bool, true, List, [], Option, Some, Ok, refl, ap, subst, ◌∙◌, append-nil}
use Rattle.std.specs.Str.{chars, is_utf8}
use Rattle.serde_json.proofs.OnLiterals.{serde_json_on_literals}
use Rattle.http_wire.proofs.ReadBackLemmas.{no_memory_back}
use Rattle.http_wire.specs.Messages.{ReadsReplyAt}
use Rattle.http_wire.specs.ReplyText.{no_memory_reply, reply_text}
use Rattle.http_wire.specs.declared.message.Reply.{Reply}
use Rattle.lakectl_commands.specs.SavedReplies.{reply_shown}
use Rattle.lakectl_commands.specs.SentCommands.{IsReplyRead}
use Rattle.lakectl_shown.specs.declared.layout.Layout.{Layout}
use Rattle.batch_laws.proofs.CommandPairs.{read_one}

starved_status : (layout : Layout) (close : Bool) → (reply_shown layout (Some (no_memory_reply close))).status ≡ 7
unfolding serde_json_on_literals is_utf8 chars
starved_status layout close = refl

reads_itself : (close : Bool) → IsReplyRead (reply_text (no_memory_reply close)) (Some (no_memory_reply close))
reads_itself close = (
  [],
  subst (λ (bytes : List ℕ). ReadsReplyAt bytes (Ok (no_memory_reply close, []))) (append-nil (reply_text (no_memory_reply close)))
      (no_memory_back close []),
)

pub shown_starved : (layout : Layout) (close : Bool) (written : List ℕ) (read : Option Reply) → written ≡ reply_text (no_memory_reply close)
    → IsReplyRead written read → ((reply_shown layout read).status == 7) ≡ true
shown_starved layout close written read is reads =
    let same : read ≡ Some (no_memory_reply close) = read_one (reply_text (no_memory_reply close)) read (Some (no_memory_reply close))
    (subst (λ (bytes : List ℕ). IsReplyRead bytes read) is reads) (reads_itself close) in
    ap (λ (r : Option Reply). (reply_shown layout r).status == 7) same ∙ ap (λ (n : ℕ). n == 7) (starved_status layout close)
