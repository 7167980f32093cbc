-- The bytes that a command sends, as a session reads them.
use Rattle.std.proofs.Common.{List, [], ℕ, codes, Option, refl, subst, append-nil}
use Rattle.http_wire.specs.Messages.{ReadsRequestAt}
use Rattle.http_wire.specs.declared.message.Request.{Request}
use Rattle.lakectl_words.specs.WireRequests.{request_text}
use Rattle.lakectl_requests.specs.SentReadings.{read_back}
use Rattle.lakectl_requests.proofs.TextLemmas.{reads_back}
use Rattle.lakectl_requests.proofs.ValueLemmas.{visible_plain}
use Rattle.lakectl_requests.proofs.WordsLemmas.{IsMadeFor, made_plain, made_sent}
use Rattle.lakectl_commands.specs.HeldFiles.{HeldFiles}
use Rattle.lakectl_commands.specs.SentCommands.{IsSent}
use Rattle.lakectl_session.specs.SessionsInMemory.{IsClosingText}

-- Its bytes read back as it, and the connection closes behind it.
pub closing_text : (words : List (List ℕ)) (held : Option HeldFiles) (request : Request) → IsSent (codes "localhost") words held request
    → IsClosingText request (request_text request)
closing_text words held request s =
    let made : IsMadeFor (codes "localhost") request = made_sent (codes "localhost") words s.contents request s.is in
    record {
      close = made.made.close;
      is = refl;
      reads = subst (λ (bytes : List ℕ). ReadsRequestAt bytes (read_back request [])) (append-nil (request_text request))
          (reads_back request
          (made_plain (codes "localhost") made.user made.kind request made.made (visible_plain (codes "localhost") refl) s.body) []);
    }
