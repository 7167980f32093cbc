-- What the lines of a batch were told: the reply to each that sent a request.
use Rattle.std.specs.Prelude.{ℕ, codes, List, [], ◌∷◌, ◌++◌, Option, Some, Ok, Err}
use Rattle.http_wire.specs.declared.message.Request.{Request}
use Rattle.lake_calls.specs.declared.reply.CallReply.{CallReply}
use Rattle.lake_calls.specs.declared.reply.CallReply.TheVariants as reply
use Rattle.lakectl_shown.specs.declared.showing.Shown.{Shown}
use Rattle.lakectl_verbs.specs.declared.line.LineWords.{LineWords}
use Rattle.lakectl_verbs.specs.declared.line.LineWords.TheVariants as line
use Rattle.lakectl_verbs.specs.LineForms.{line_of}
use Rattle.lake_batch.specs.CommandWords.{Answered, AnsweredUnwritten, Exchanges, LakeView, Starved, Unread, UnservedUnwritten}
use Rattle.lake_batch.specs.CommandWords.{CommandShows, CommandView, LineEnds, LineShows, NoFile, Sent, Usage}
use Rattle.batch_lines.specs.ServedLines.{AreServed, LineEffect, LineReply}

-- to a request: the reply, or that no memory was left; to one that isn't read there is none
abbrev pub told_to : (request : Request) (old now : LakeView) (written : Option (List ℕ)) → Exchanges request old now written → List CallReply
told_to request old now written (Answered item is read serves text) = item.told ∷ []
told_to request old now written (Unread fault sent is replies serves text) = []
told_to request old now written (Starved serves text) = reply.NoMemory ∷ []
told_to request old now written (AnsweredUnwritten item is read serves text) = reply.NoMemory ∷ []
told_to request old now written (UnservedUnwritten serves text) = reply.NoMemory ∷ []

-- to a command that showed something
abbrev pub told_to_command : (host : List ℕ) (words : List (List ℕ)) (old now : CommandView) (shown : Shown) → CommandShows host words old now shown
    → List CallReply
told_to_command host words old now shown (Usage fault is same shows) = []
told_to_command host words old now shown (NoFile call name is names missing same shows) = []
told_to_command host words old now shown (Sent call request written read is sent exchanged reads shows saved) =
    told_to request old.lake now.lake (Some written) exchanged

abbrev pub told_to_words : (words : LineWords) (old now : CommandView) (shown : Shown) → LineShows words old now shown → List CallReply
told_to_words line.Skipped old now shown is = []
told_to_words line.Bad old now shown is = []
told_to_words (line.Words words) old now shown is = told_to_command (codes "localhost") words old now shown is

-- to a line; one that stopped was told that no memory was left
abbrev pub told_to_line : (bytes : List ℕ) (old now : CommandView) (answer : LineReply) → LineEnds bytes old now answer → List CallReply
told_to_line bytes old now (Ok shown) ends = told_to_words (line_of bytes) old now shown ends
told_to_line bytes old now (Err trouble) ends = reply.NoMemory ∷ []

-- WHAT THE LINES OF A BATCH WERE TOLD, one after the other
abbrev pub told_in : (lines : List (List ℕ)) (first : CommandView) (effects : List LineEffect) (last : CommandView)
    → AreServed LineEnds lines first effects last → List CallReply
told_in [] first effects last run = []
told_in (bytes ∷ lines) first [] last run = []
told_in (bytes ∷ lines) first (effect ∷ effects) last (next, is, rest) =
    told_to_line bytes first next is.reply is.gives ++ told_in lines next effects last rest
