-- WHAT A COMMAND COMES TO that is sent to a server.
use Rattle.std.specs.Prelude.{◌≡◌, ℕ, List, Option, Some, None, IfSome, IsSome, Result, Ok, Err}
use Rattle.std.specs.FinMap.{get}
use Rattle.lake_base.specs.Outside.{Rose}
use Rattle.lake_base.specs.declared.outside.Trouble.{Trouble}
use Rattle.lake_base.specs.declared.outside.Trouble.TheVariants.{Failed}
use Rattle.http_wire.specs.declared.message.Reply.{Reply}
use Rattle.http_wire.specs.declared.message.Request.{Request}
use Rattle.lakectl_shown.specs.declared.showing.Shown.{Shown}
use Rattle.lakectl_verbs.specs.declared.fault.UsageFault.{UsageFault}
use Rattle.lakectl_words.specs.WireRequests.{call_of, request_text}
use Rattle.lakectl_words.specs.declared.call.WireCall.{WireCall}
use Rattle.lakectl_commands.specs.HeldFiles.{HeldFiles}
use Rattle.lakectl_commands.specs.SentCommands.{IsSent}
use Rattle.lakectl_commands.specs.SavedReplies.{MayHaveSaved, Saves, reply_shown}
use Rattle.lakectl_commands.specs.Sendings.{NamesFile}
use Rattle.lakectl_commands.specs.ShownTexts.{no_file_shown, usage_shown}
use Rattle.lakectl_client.specs.Dialing.{DialView}
use Rattle.lakectl_client.specs.AskedServers.{HasAsked, HasFailed, IsNoCall}

-- what a command works on: files, and what gives connections
pub record ClientView : Type 0 where
  pub files : Option HeldFiles
  pub file_faults : ℕ
  pub dial : DialView

module _ (at : List ℕ) (words : List (List ℕ)) (old now : ClientView) where
  -- THE COMMAND SHOWED THIS
  pub data ClientShows (shown : Shown) : Type 0 where
    -- its words have this fault, and nothing was asked
    BadWords : (fault : UsageFault) → call_of words ≡ Err fault → IsNoCall old.dial now.dial → now.files ≡ old.files
        → shown ≡ usage_shown fault → ClientShows shown
    -- the file that they name isn't there, and nothing was asked
    MissingFile : (call : WireCall) (name : List ℕ) → call_of words ≡ Ok call → call.body_file ≡ Some name
        → IfSome old.files (λ files. get files name ≡ None) → IsNoCall old.dial now.dial → now.files ≡ old.files
        → shown ≡ no_file_shown name → ClientShows shown
    -- the server at the address was sent the text of what they send to it, and this is shown of what came back
    Asked : (call : WireCall) (request : Request) (reply : Option Reply) → call_of words ≡ Ok call → IsSent at words old.files request
        → HasAsked at (request_text request) old.dial now.dial reply → shown ≡ reply_shown call.layout reply
        → Saves call.save reply shown.status old.files now.files → ClientShows shown

  -- THE COMMAND STOPPED, for want of memory, or by a failure that was counted: before the server was asked, where the file that its words
  -- name couldn't be read; since no server answered; or behind an answer that is done, where its file couldn't be written
  pub data ClientStops (trouble : Trouble) : Type 0 where
    Unsent : IsNoCall old.dial now.dial → now.files ≡ old.files → (trouble ≡ Failed → NamesFile words × Rose old.file_faults now.file_faults)
        → ClientStops trouble
    Unanswered : (call : WireCall) (request : Request) → call_of words ≡ Ok call → IsSent at words old.files request
        → HasFailed at (request_text request) old.dial now.dial trouble → now.files ≡ old.files → ClientStops trouble
    Unshown : (call : WireCall) (request : Request) (reply : Option Reply) → call_of words ≡ Ok call → IsSent at words old.files request
        → HasAsked at (request_text request) old.dial now.dial reply → MayHaveSaved call.save old.files now.files
        → (trouble ≡ Failed → IsSome call.save × ((reply_shown call.layout reply).status ≡ 0) × Rose old.file_faults now.file_faults)
        → ClientStops trouble

  -- the one or the other
  abbrev pub ClientEnds : Result Shown Trouble → Type 0
  ClientEnds (Ok shown) = ClientShows shown
  ClientEnds (Err trouble) = ClientStops trouble
