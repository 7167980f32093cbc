-- What a command comes to that goes to a server, by what its parts do.
use Rattle.std.proofs.Common.{◌≡◌, ◌<◌, ◌≤◌, inl, inr, ℕ, List, Option, Result, Ok, Err, IfOk, IsSome, OnErr, sym, ap, subst, ◌∙◌, arith}
use Rattle.std.specs.Result.{IsErr, IsErrAnd}
use Rattle.lake_base.specs.Outside.{Rose}
use Rattle.lake_base.specs.declared.outside.Trouble.{Trouble}
use Rattle.lake_base.specs.declared.outside.Trouble.TheVariants.{Failed}
use Rattle.block_store.specs.Blocks.{FailsByFault}
use Rattle.http_wire.specs.declared.message.Reply.{Reply}
use Rattle.lakectl_shown.specs.declared.showing.Shown.{Shown}
use Rattle.lakectl_words.specs.WireRequests.{request_text}
use Rattle.lakectl_commands.specs.HeldFiles.{HeldFiles}
use Rattle.lakectl_commands.specs.SavedReplies.{MayHaveSaved, Saves, reply_shown}
use Rattle.lakectl_commands.specs.Sendings.{IsSending}
use Rattle.lakectl_commands.specs.declared.sending.Sending.{Sending}
use Rattle.lakectl_client.specs.AskedServers.{HasAsked, HasFailed, IsNoCall}
use Rattle.lakectl_client.specs.ClientCommands.{Asked, BadWords, ClientEnds, ClientShows, ClientStops, ClientView, MissingFile, Unanswered, Unshown}

-- a count that rose since a moment rose since an earlier one
rose_since : (early middle now : ℕ) → early ≤ middle → Rose middle now → Rose early now
rose_since early middle now first rose low = let risen : middle < now = rose low in omega (arith, first, risen)

module _ (at : List ℕ) (words : List (List ℕ)) (old now : ClientView) where
  -- nothing was asked
  pub unasked : (shown : Shown) → IsSending at words old.files (Err shown) → IsNoCall old.dial now.dial → now.files ≡ old.files
      → ClientShows at words old now shown
  unasked shown (inl (fault, is, shows)) none same = BadWords fault is none same shows
  unasked shown (inr (call, is, name, names, missing, shows)) none same = MissingFile call name is names missing none same shows

  module _ (sending : Sending) (sends : IsSending at words old.files (Ok sending)) where
    same_text : sending.text ≡ request_text sends.2
    same_text = ap (λ (s : Sending). s.text) sends.4

    same_save : sending.save ≡ sends.0.save
    same_save = ap (λ (s : Sending). s.save) sends.4

    -- no server answered
    unanswered : (trouble : Trouble) (text : List ℕ) → text ≡ sending.text → HasFailed at text old.dial now.dial trouble → now.files ≡ old.files
        → ClientStops at words old now trouble
    unanswered trouble text is failed same =
        Unanswered sends.0 sends.2 sends.1 sends.3 (subst (λ (t : List ℕ). HasFailed at t old.dial now.dial trouble) (is ∙ same_text) failed) same

    pub unanswered_so : (text : List ℕ) → text ≡ sending.text → (trouble : Trouble) → HasFailed at text old.dial now.dial trouble
        → now.files ≡ old.files → (result : Result Shown Trouble) → IsErr result × IsErrAnd result (λ other. other ≡ trouble)
        → ClientEnds at words old now result
    unanswered_so text is trouble failed same (Ok shown) told = let none = told.0 in absurd cc
    unanswered_so text is trouble failed same (Err other) told =
        subst (λ (t : Trouble). ClientStops at words old now t) (sym told.1) (unanswered trouble text is failed same)

    module _ (reply : Option Reply) (middle : Option HeldFiles) (middle_faults : ℕ) (text : List ℕ) (is_text : text ≡ sending.text)
        (asked : HasAsked at text old.dial now.dial reply) (same : middle ≡ old.files) (later : old.file_faults ≤ middle_faults) where
      was_asked : HasAsked at (request_text sends.2) old.dial now.dial reply
      was_asked = subst (λ (t : List ℕ). HasAsked at t old.dial now.dial reply) (is_text ∙ same_text) asked

      -- one did, and what it said was shown, or couldn't be
      pub ended : (result : Result Shown Trouble)
          → (result ≡ Err Failed → IsSome sending.save × ((reply_shown sending.layout reply).status ≡ 0)) → IfOk result
          (λ shown. shown ≡ reply_shown sending.layout reply)
          → IfOk result (λ shown. Saves sending.save reply shown.status middle now.files) → OnErr result (MayHaveSaved sending.save middle now.files)
          → FailsByFault middle_faults now.file_faults result → ClientEnds at words old now result
      ended (Ok shown) named shows saves stops cause =
          Asked sends.0 sends.2 reply sends.1 sends.3 was_asked (shows ∙ ap (λ (s : Sending). reply_shown s.layout reply) sends.4)
          (subst (λ (name : Option (List ℕ)). Saves name reply shown.status old.files now.files) same_save
          (subst (λ (files : Option HeldFiles). Saves sending.save reply shown.status files now.files) same saves))
      ended (Err trouble) named shows saves stops cause =
          Unshown sends.0 sends.2 reply sends.1 sends.3 was_asked
          (subst (λ (name : Option (List ℕ)). MayHaveSaved name old.files now.files) same_save
          (subst (λ (files : Option HeldFiles). MayHaveSaved sending.save files now.files) same stops))
          (λ failed. let names = named (ap Err failed) in (
            subst IsSome same_save names.0,
            ap (λ (s : Sending). (reply_shown s.layout reply).status) (sym sends.4) ∙ names.1,
            rose_since old.file_faults middle_faults now.file_faults later (cause.failed (ap Err failed)),
          ))
