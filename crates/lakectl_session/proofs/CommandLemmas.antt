-- What a command comes to, by what its parts do.
use Rattle.std.proofs.Common.{◌≡◌, inl, inr, ℕ, List, codes, Option, Some, None, Result, Ok, Err, IfOk, IsSome, OnErr, refl, sym, ap, subst, ◌∙◌}
use Rattle.lake_base.specs.declared.outside.NoMemory.{NoMemory}
use Rattle.lake_base.specs.declared.outside.Trouble.{Trouble}
use Rattle.lake_base.specs.declared.outside.Trouble.TheVariants as trouble
use Rattle.lake_base.specs.declared.outside.Trouble.TheVariants.{Failed}
use Rattle.http_wire.specs.declared.message.Reply.{Reply}
use Rattle.http_wire.specs.declared.message.Request.{Request}
use Rattle.lakectl_shown.specs.declared.showing.Shown.{Shown}
use Rattle.lakectl_verbs.specs.LineForms.{line_of}
use Rattle.lakectl_verbs.specs.declared.line.LineWords.{LineWords}
use Rattle.lakectl_verbs.specs.declared.line.LineWords.TheVariants as line
use Rattle.lakectl_words.specs.declared.call.WireCall.{WireCall}
use Rattle.lakectl_commands.specs.HeldFiles.{HeldFiles}
use Rattle.lakectl_commands.specs.SavedReplies.{MayHaveSaved, Saves, reply_shown}
use Rattle.lakectl_commands.specs.Sendings.{IsSending}
use Rattle.lakectl_commands.specs.ShownTexts.{bad_line_shown, nothing_shown}
use Rattle.lakectl_commands.specs.declared.sending.Sending.{Sending}
pub use Rattle.lake_session.proofs.ItemLemmas.{moments_long}
pub use Rattle.lake_session.proofs.SeatLemmas.{fits_at_first, fits_further, goes_twice, stays}
pub use Rattle.lake_session.proofs.TextLemmas.{starved_text}
use Rattle.lakectl_session.specs.Exchanges.{LakeView}
use Rattle.lakectl_session.specs.ServedCommands.{Behind, CommandEnds, CommandShows, CommandStops, CommandView, LineEnds, LineShows, LineStops, NoFile, Sent}
use Rattle.lakectl_session.specs.ServedCommands.{Unsent, Usage}
use Rattle.lakectl_session.specs.SessionsInMemory.{IsClosingText, IsExchanged}
use Rattle.lakectl_session.proofs.ClosingTexts.{closing_text}

-- a lake, and files that are what they were
pub same_view : (lake : LakeView) (before after : Option HeldFiles) → after ≡ before
    → ◌≡◌ {A = CommandView} (record { lake = lake; files = after }) (record { lake = lake; files = before })
same_view lake before after same = ap (λ (files : Option HeldFiles). record { lake = lake; files = files }) same

module _ (words : List (List ℕ)) (old now : CommandView) where
  abbrev host : List ℕ
  host = codes "localhost"

  -- nothing was sent
  pub unsent_shown : (shown : Shown) → IsSending host words old.files (Err shown) → now ≡ old → CommandShows host words old now shown
  unsent_shown shown (inl (fault, is, shows)) same = Usage fault is same shows
  unsent_shown shown (inr (call, is, name, names, missing, shows)) same = NoFile call name is names missing same shows

  -- what a session came to that served what was sent
  abbrev Exchanged : (text : List ℕ) → Result (Option Reply) NoMemory → Type 0
  Exchanged text result = (request : Request) → IsClosingText request text → IsExchanged request old.lake now.lake result

  module _ (sending : Sending) (sends : IsSending host words old.files (Ok sending)) where
    abbrev call : WireCall
    call = sends.0

    abbrev request : Request
    request = sends.2

    closing : IsClosingText request sending.text
    closing = subst (IsClosingText request) (sym (ap (λ (s : Sending). s.text) sends.4)) (closing_text words old.files request sends.3)

    same_save : sending.save ≡ call.save
    same_save = ap (λ (s : Sending). s.save) sends.4

    -- it was shown
    pub sent_shown : (reply : Option Reply) (shown : Shown) (middle : Option HeldFiles) → Exchanged sending.text (Ok reply) → middle ≡ old.files
        → shown ≡ reply_shown sending.layout reply → Saves sending.save reply shown.status middle now.files → CommandShows host words old now shown
    sent_shown reply shown middle exchanged same shows saves =
        let came = exchanged request closing in
        Sent call request came.0 reply sends.1 sends.3 came.1 came.2
        (shows ∙ ap (λ (s : Sending). reply_shown s.layout reply) sends.4)
        (subst (λ (name : Option (List ℕ)). Saves name reply shown.status old.files now.files) same_save
        (subst (λ (files : Option HeldFiles). Saves sending.save reply shown.status files now.files) same saves))

    -- it stopped behind that
    stopped_behind : (reply : Option Reply) (middle : Option HeldFiles) (trouble : Trouble) → Exchanged sending.text (Ok reply) → middle ≡ old.files
        → MayHaveSaved sending.save middle now.files
        → (trouble ≡ Failed → IsSome sending.save × ((reply_shown sending.layout reply).status ≡ 0)) → CommandStops host words old now trouble
    stopped_behind reply middle trouble exchanged same saves named =
        let came = exchanged request closing in
        Behind call request (Some came.0) sends.1 sends.3 came.1
        (subst (λ (name : Option (List ℕ)). MayHaveSaved name old.files now.files) same_save
        (subst (λ (files : Option HeldFiles). MayHaveSaved sending.save files now.files) same saves))
        (λ failed. let names = named failed in (
          subst IsSome same_save names.0,
          (reply, came.2, ap (λ (s : Sending). (reply_shown s.layout reply).status) (sym sends.4) ∙ names.1),
        ))

    -- the one or the other
    pub ended : (reply : Option Reply) (result : Result Shown Trouble) (middle : Option HeldFiles) → Exchanged sending.text (Ok reply)
        → middle ≡ old.files → (result ≡ Err Failed → IsSome sending.save × ((reply_shown sending.layout reply).status ≡ 0)) → IfOk result
        (λ shown. shown ≡ reply_shown sending.layout reply)
        → IfOk result (λ shown. Saves sending.save reply shown.status middle now.files) → OnErr result (MayHaveSaved sending.save middle now.files)
        → CommandEnds host words old now result
    ended reply (Ok shown) middle exchanged same named shows saves stops = sent_shown reply shown middle exchanged same shows saves
    ended reply (Err trouble) middle exchanged same named shows saves stops =
        stopped_behind reply middle trouble exchanged same stops (λ failed. named (ap Err failed))

    -- it stopped in that
    not_saved : (save : Option (List ℕ)) → now.files ≡ old.files → MayHaveSaved save old.files now.files
    not_saved None same = same
    not_saved (Some name) same = inl same

    pub stopped_there : (starved : NoMemory) → Exchanged sending.text (Err starved) → now.files ≡ old.files
        → CommandStops host words old now trouble.NoMemory
    stopped_there starved exchanged same =
        let came = exchanged request closing in
        Behind call request came.0 sends.1 sends.3 came.1 (not_saved call.save same) (λ failed. absurd cc)

-- ---- a line

-- a line of which nothing was made
pub line_untouched : (bytes : List ℕ) (old now : CommandView) → now ≡ old → LineStops (line_of bytes) old now trouble.NoMemory
line_untouched bytes old now same = stops (line_of bytes)
  where
    stops : (words : LineWords) → LineStops words old now trouble.NoMemory
    stops line.Skipped = (same, refl)
    stops line.Bad = (same, refl)
    stops (line.Words words) = Unsent same (λ failed. absurd cc)

-- a line of words is a command
pub line_of_words : (bytes : List ℕ) (words : List (List ℕ)) (old now : CommandView) (result : Result Shown Trouble)
    → line_of bytes ≡ line.Words words → CommandEnds (codes "localhost") words old now result → LineEnds bytes old now result
line_of_words bytes words old now (Ok shown) is ends = subst (λ (w : LineWords). LineShows w old now shown) (sym is) ends
line_of_words bytes words old now (Err trouble) is ends = subst (λ (w : LineWords). LineStops w old now trouble) (sym is) ends

pub line_skipped : (bytes : List ℕ) (old now : CommandView) (shown : Shown) → line_of bytes ≡ line.Skipped → now ≡ old → shown ≡ nothing_shown
    → LineEnds bytes old now (Ok shown)
line_skipped bytes old now shown is same shows = subst (λ (w : LineWords). LineShows w old now shown) (sym is) (same, shows)

pub line_bad : (bytes : List ℕ) (old now : CommandView) (shown : Shown) → line_of bytes ≡ line.Bad → now ≡ old → shown ≡ bad_line_shown
    → LineEnds bytes old now (Ok shown)
line_bad bytes old now shown is same shows = subst (λ (w : LineWords). LineShows w old now shown) (sym is) (same, shows)
