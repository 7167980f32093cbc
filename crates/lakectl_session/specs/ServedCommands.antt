-- WHAT A COMMAND COMES TO, whose words are these.
use Rattle.std.specs.Prelude.{◌≡◌, ℕ, List, codes, Option, Some, None, IfSome, IsSome, Result, Ok, Err}
use Rattle.std.specs.FinMap.{get}
use Rattle.lake_base.specs.declared.outside.Trouble.{Trouble}
use Rattle.lake_base.specs.declared.outside.Trouble.TheVariants.{Failed, NoMemory}
use Rattle.http_wire.specs.declared.message.Reply.{Reply}
use Rattle.http_wire.specs.declared.message.Request.{Request}
use Rattle.lakectl_shown.specs.declared.showing.Shown.{Shown}
use Rattle.lakectl_verbs.specs.declared.fault.UsageFault.{UsageFault}
use Rattle.lakectl_verbs.specs.declared.line.LineWords.{LineWords}
use Rattle.lakectl_verbs.specs.declared.line.LineWords.TheVariants as line
use Rattle.lakectl_verbs.specs.LineForms.{line_of}
use Rattle.lakectl_words.specs.WireRequests.{call_of}
use Rattle.lakectl_words.specs.declared.call.WireCall.{WireCall}
use Rattle.lakectl_session.specs.Exchanges.{Exchanges, LakeView}
use Rattle.lakectl_commands.specs.HeldFiles.{HeldFiles}
use Rattle.lakectl_commands.specs.SentCommands.{IsReplyRead, IsSent}
use Rattle.lakectl_commands.specs.SavedReplies.{MayHaveSaved, Saves, reply_shown}
use Rattle.lakectl_commands.specs.Sendings.{NamesFile}
use Rattle.lakectl_commands.specs.ShownTexts.{bad_line_shown, no_file_shown, nothing_shown, usage_shown}

-- what a command works on: a lake, and files
pub record CommandView : Type 0 where
  pub lake : LakeView
  pub files : Option HeldFiles

-- ---- a command

-- what came back shows that the command is done
abbrev pub IsDone : WireCall → (written : Option (List ℕ)) → Type 0
IsDone call written = IfSome written (λ bytes. (reply : Option Reply) × IsReplyRead bytes reply × ((reply_shown call.layout reply).status ≡ 0))

module _ (host : List ℕ) (words : List (List ℕ)) (old now : CommandView) where
  -- THE COMMAND SHOWED THIS
  pub data CommandShows (shown : Shown) : Type 0 where
    -- its words have this fault
    Usage : (fault : UsageFault) → call_of words ≡ Err fault → now ≡ old → shown ≡ usage_shown fault → CommandShows shown
    -- the file that they name isn't there
    NoFile : (call : WireCall) (name : List ℕ) → call_of words ≡ Ok call → call.body_file ≡ Some name
        → IfSome old.files (λ files. get files name ≡ None) → now ≡ old → shown ≡ no_file_shown name → CommandShows shown
    -- what they send was served, and this is shown of what came back
    Sent : (call : WireCall) (request : Request) (written : List ℕ) (reply : Option Reply) → call_of words ≡ Ok call
        → IsSent host words old.files request → Exchanges request old.lake now.lake (Some written) → IsReplyRead written reply
        → shown ≡ reply_shown call.layout reply → Saves call.save reply shown.status old.files now.files → CommandShows shown

  -- THE COMMAND STOPPED for want of memory, or since a file couldn't be read or written that its words name: before anything was sent, or
  -- behind that, where what was sent is done
  pub data CommandStops (trouble : Trouble) : Type 0 where
    Unsent : now ≡ old → (trouble ≡ Failed → NamesFile words) → CommandStops trouble
    Behind : (call : WireCall) (request : Request) (written : Option (List ℕ)) → call_of words ≡ Ok call → IsSent host words old.files request
        → Exchanges request old.lake now.lake written → MayHaveSaved call.save old.files now.files
        → (trouble ≡ Failed → IsSome call.save × IsDone call written) → CommandStops trouble

  -- the one or the other
  abbrev pub CommandEnds : Result Shown Trouble → Type 0
  CommandEnds (Ok shown) = CommandShows shown
  CommandEnds (Err trouble) = CommandStops trouble

-- ---- a line of a batch

-- a line that is passed over shows nothing, one that can't be read says so, and one of words is a command
abbrev pub LineShows : LineWords → (old now : CommandView) → Shown → Type 0
LineShows line.Skipped old now shown = (now ≡ old) × (shown ≡ nothing_shown)
LineShows line.Bad old now shown = (now ≡ old) × (shown ≡ bad_line_shown)
LineShows (line.Words words) old now shown = CommandShows (codes "localhost") words old now shown

-- one that stopped found no memory and did nothing, or is a command that stopped
abbrev pub LineStops : LineWords → (old now : CommandView) → Trouble → Type 0
LineStops (line.Words words) old now trouble = CommandStops (codes "localhost") words old now trouble
LineStops other old now trouble = (now ≡ old) × (trouble ≡ NoMemory)

-- WHAT A LINE COMES TO
abbrev pub LineEnds : (line : List ℕ) → (old now : CommandView) → Result Shown Trouble → Type 0
LineEnds line old now (Ok shown) = LineShows (line_of line) old now shown
LineEnds line old now (Err trouble) = LineStops (line_of line) old now trouble
