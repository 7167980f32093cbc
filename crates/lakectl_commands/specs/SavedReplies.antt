-- What is shown of what came back, and the file that is saved.
use Rattle.std.specs.Prelude.{◌≡◌, ◌⊎◌, ℕ, zero, List, Option, Some, None, IfSome}
use Rattle.std.specs.FinMap.{insert}
use Rattle.http_wire.specs.declared.message.Reply.{Reply}
use Rattle.lakectl_shown.specs.ShownReplies.{no_reply, shown_of}
use Rattle.lakectl_shown.specs.declared.layout.Layout.{Layout}
use Rattle.lakectl_shown.specs.declared.showing.Shown.{Shown}
use Rattle.lakectl_commands.specs.HeldFiles.{HeldFiles, KeepsOthers}

-- what is shown of a reply: that none is there, or what its status and body show by the command's layout
abbrev pub reply_shown : Layout → Option Reply → Shown
reply_shown layout None = no_reply
reply_shown layout (Some reply) = shown_of layout reply.status reply.body

-- a file was written where one is to be saved and the status is 0: it has the reply's body, and else nothing changed
abbrev pub Saves : (save : Option (List ℕ)) → Option Reply → (status : ℕ) → (before now : Option HeldFiles) → Type 0
Saves (Some name) (Some reply) zero before now = IfSome before (λ files. now ≡ Some (insert files name reply.body))
Saves save reply status before now = now ≡ before

-- no file changed but the one that is to be saved; and they are told where they were
abbrev pub MayHaveSaved : (save : Option (List ℕ)) → (before now : Option HeldFiles) → Type 0
MayHaveSaved None before now = now ≡ before
MayHaveSaved (Some name) before now =
    (now ≡ before) ⊎ IfSome before (λ files. (left : HeldFiles) × (now ≡ Some left) × KeepsOthers name files left)
