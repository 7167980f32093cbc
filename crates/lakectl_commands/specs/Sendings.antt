-- How the bytes that a command sends are made.
use Rattle.std.specs.Prelude.{◌≡◌, ◌⊎◌, List, ℕ, Option, Some, None, IfSome, IsSome, Result, Ok, Err}
use Rattle.std.specs.FinMap.{get}
use Rattle.http_wire.specs.declared.message.Request.{Request}
use Rattle.lakectl_shown.specs.declared.showing.Shown.{Shown}
use Rattle.lakectl_verbs.specs.declared.fault.UsageFault.{UsageFault}
use Rattle.lakectl_words.specs.WireRequests.{call_of, carrying, request_text}
use Rattle.lakectl_words.specs.declared.call.WireCall.{WireCall}
use Rattle.lakectl_commands.specs.declared.sending.Sending.{Sending}
use Rattle.lakectl_commands.specs.HeldFiles.{HeldFiles}
use Rattle.lakectl_commands.specs.SentCommands.{IsSent}
use Rattle.lakectl_commands.specs.ShownTexts.{no_file_shown, usage_shown}

-- the call of words, or what is shown of their fault
abbrev pub IsCommand : (words : List (List ℕ)) → Result WireCall Shown → Type 0
IsCommand words (Ok call) = call_of words ≡ Ok call
IsCommand words (Err shown) = (fault : UsageFault) × (call_of words ≡ Err fault) × (shown ≡ usage_shown fault)

-- a request with the bytes of the file that is named, or what is shown where that isn't there
abbrev pub IsFilled : (held : Option HeldFiles) → (file : Option (List ℕ)) → Request → Result Request Shown → Type 0
IsFilled held None request (Ok filled) = filled ≡ request
IsFilled held (Some name) request (Ok filled) =
    (bytes : List ℕ) × (filled ≡ carrying bytes request) × IfSome held (λ files. get files name ≡ Some bytes)
IsFilled held file request (Err shown) =
    (name : List ℕ) × (file ≡ Some name) × IfSome held (λ files. get files name ≡ None) × (shown ≡ no_file_shown name)

-- words of a command whose body is a file's bytes
abbrev pub NamesFile : (words : List (List ℕ)) → Type 0
NamesFile words = (call : WireCall) × (call_of words ≡ Ok call) × IsSome call.body_file

-- what words send, or what is shown where they send nothing
abbrev pub IsSending : (host : List ℕ) → (words : List (List ℕ)) → (held : Option HeldFiles) → Result Sending Shown → Type 0
IsSending host words held (Ok sending) =
    (call : WireCall) × (call_of words ≡ Ok call) × (request : Request) × IsSent host words held request
    × (sending ≡ record { text = request_text request; layout = call.layout; save = call.save })
IsSending host words held (Err shown) =
    ((fault : UsageFault) × (call_of words ≡ Err fault) × (shown ≡ usage_shown fault))
    ⊎ ((call : WireCall) × (call_of words ≡ Ok call) × (name : List ℕ) × (call.body_file ≡ Some name)
    × IfSome held (λ files. get files name ≡ None) × (shown ≡ no_file_shown name))
