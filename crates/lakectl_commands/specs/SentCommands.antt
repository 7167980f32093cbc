-- What a command sends to a session, and what is read of the bytes that come back.
use Rattle.std.specs.Prelude.{◌≡◌, ◌<◌, ◌^◌, ℕ, List, [], length, Option, Some, None, IfSome, Ok, Err}
use Rattle.std.specs.FinMap.{get}
use Rattle.http_wire.specs.Filling.{Gave}
use Rattle.http_wire.specs.Messages.{ReadsReplyAt}
use Rattle.http_wire.specs.declared.fault.WireFault.{WireFault}
use Rattle.http_wire.specs.declared.message.Reply.{Reply}
use Rattle.http_wire.specs.declared.message.Request.{Request}
use Rattle.lakectl_words.specs.WireRequests.{sent}
use Rattle.lakectl_commands.specs.HeldFiles.{HeldFiles}

-- the contents of files, by their names: where files are told these
abbrev pub TellsContents : Option HeldFiles → (List ℕ → Option (List ℕ)) → Type 0
TellsContents held contents = IfSome held (λ files. (name : List ℕ) → contents name ≡ get files name)

-- what words send to a host, where files are these
pub record IsSent (host : List ℕ) (words : List (List ℕ)) (held : Option HeldFiles) (request : Request) : Type 0 where
  pub contents : List ℕ → Option (List ℕ)
  pub told : TellsContents held contents
  pub is : sent host words contents ≡ Some request
  pub body : length request.body < 10 ^ 19

-- WHAT IS READ OF BYTES that came back: the reply at their front, or that none is there
abbrev pub IsReplyRead : (bytes : List ℕ) → Option Reply → Type 0
IsReplyRead bytes (Some reply) = (rest : List ℕ) × ReadsReplyAt bytes (Ok (reply, rest))
IsReplyRead bytes None = (fault : WireFault) × ReadsReplyAt bytes (Err fault)

-- WHAT IS READ of a source, which had some bytes and has the rest of them left: the reply at the front of what it gave, and so of all that
-- it had; or that none is there
abbrev pub ReadsReplyOf : (had left : Option (List ℕ)) → Option Reply → Type 0
ReadsReplyOf had left reply = IfSome had (λ bytes. Gave [] bytes left (λ came rest. IsReplyRead came reply × IsReplyRead bytes reply))
