-- Two servings of one line.
use Rattle.std.proofs.Common.{◌≡◌, ℕ, zero, suc, List, [], Option, Some, None, IfSome, Result, Ok, Err, codes, refl, sym, ap}
use Rattle.std.proofs.Common.{subst, ◌∙◌, append-nil, option_map}
use Rattle.std.specs.FinMap.{get, insert}
use Rattle.http_wire.proofs.UniqueLemmas.{one_reply}
use Rattle.http_wire.specs.declared.message.Reply.{Reply}
use Rattle.http_wire.specs.declared.message.Request.{Request}
use Rattle.lake_model.specs.State.{State}
use Rattle.lakectl_commands.specs.HeldFiles.{HeldFiles}
use Rattle.lakectl_commands.specs.SavedReplies.{Saves, reply_shown}
use Rattle.lakectl_commands.specs.SentCommands.{IsReplyRead, IsSent}
use Rattle.lakectl_commands.specs.ShownTexts.{no_file_shown, usage_shown}
use Rattle.lakectl_shown.specs.declared.showing.Shown.{Shown}
use Rattle.lakectl_verbs.specs.declared.fault.UsageFault.{UsageFault}
use Rattle.lakectl_verbs.specs.declared.line.LineWords.{LineWords}
use Rattle.lakectl_verbs.specs.declared.line.LineWords.TheVariants as line
use Rattle.lakectl_verbs.specs.LineForms.{line_of}
use Rattle.lakectl_words.specs.WireRequests.{addressed, call_of, carrying, sent}
use Rattle.lakectl_words.specs.declared.call.WireCall.{WireCall}
use Rattle.lake_batch.specs.CommandWords.{CommandShows, CommandView, LineEnds, LineShows, NoFile, Sent, Usage}
use Rattle.seat_laws.specs.Clashes.{NoneClashes}
use Rattle.batch_laws.specs.ToldReplies.{told_to_command, told_to_line, told_to_words}
use Rattle.batch_laws.proofs.ExchangePairs.{AreCalm, AreLikeExchanges, OneMoment, TakesNext, like_requests}
use Rattle.batch_laws.proofs.LoneSeats.{IsLone}

-- ---- what is sent

module _ (host : List ℕ) (words : List (List ℕ)) (files : List ℕ → Option (List ℕ)) (request : Request) where
  abbrev with_file : Request → Option (List ℕ) → Option Request
  with_file r None = Some r
  with_file r (Some name) = option_map (λ bytes. carrying bytes r) (files name)

  abbrev of_call : Result WireCall UsageFault → Option Request
  of_call (Err fault) = None
  of_call (Ok call) = option_map (addressed host) (with_file call.request call.body_file)

  -- nothing is sent of words with a file that isn't there
  sends_none : (call : WireCall) (name : List ℕ) → call_of words ≡ Ok call → call.body_file ≡ Some name → files name ≡ None
      → sent host words files ≡ Some request → ⊥
  sends_none call name is named missing sends =
      let called : of_call (Ok call) ≡ Some request = subst (λ (r : Result WireCall UsageFault). of_call r ≡ Some request) is sends in
      let filed : option_map (addressed host) (with_file call.request (Some name)) ≡ Some request =
      subst (λ (f : Option (List ℕ)). option_map (addressed host) (with_file call.request f) ≡ Some request) named called in
      let none : None ≡ Some request =
      subst (λ (b : Option (List ℕ)). option_map (addressed host) (option_map (λ bytes. carrying bytes call.request) b) ≡ Some request) missing filed in
      absurd (cc (none))

-- what is told of files
told_files : (held : Option HeldFiles) (files : HeldFiles) (P : HeldFiles → Type 0) → held ≡ Some files → IfSome held P → P files
told_files held files P is told = subst (λ (h : Option HeldFiles). IfSome h P) is told

-- words send one request
one_request : (host : List ℕ) (words : List (List ℕ)) (held : Option HeldFiles) (files : HeldFiles) (request other : Request) → held ≡ Some files
    → IsSent host words held request → IsSent host words (Some files) other → request ≡ other
one_request host words held files request other told one two =
    let contents = told_files held files (λ (f : HeldFiles). (name : List ℕ) → one.contents name ≡ get f name) told one.told in
    let same : one.contents ≡ two.contents = λ i name. (contents name ∙ sym (two.told name)) i in
    let both : Some request ≡ Some other = sym one.is ∙ (ap (sent host words) same ∙ two.is) in
    cc (both)

never_sent : (host : List ℕ) (words : List (List ℕ)) (files : HeldFiles) (held : Option HeldFiles) (request : Request) (call : WireCall) (name : List ℕ)
    → held ≡ Some files → call_of words ≡ Ok call → call.body_file ≡ Some name → get files name ≡ None → IsSent host words held request → ⊥
never_sent host words files held request call name told is named missing one =
    sends_none host words one.contents request call name is named (told_files held files (λ (f : HeldFiles). (name : List ℕ) → one.contents name ≡ get f name) told one.told name ∙ missing) one.is

-- ---- what is read and shown

pub read_one : (bytes : List ℕ) (one other : Option Reply) → IsReplyRead bytes one → IsReplyRead bytes other → one ≡ other
read_one bytes (Some one) (Some other) (rest, is) (more, so) =
    let same = one_reply bytes (Ok (one, rest)) (Ok (other, more)) is so in
    let both : (one, rest) ≡ (other, more) = cc (same) in
    ap (λ (p : Reply × List ℕ). Some p.0) both
read_one bytes (Some one) None (rest, is) (fault, so) = let same = one_reply bytes (Ok (one, rest)) (Err fault) is so in absurd (cc (same))
read_one bytes None (Some other) (fault, is) (rest, so) = let same = one_reply bytes (Err fault) (Ok (other, rest)) is so in absurd (cc (same))
read_one bytes None None is so = refl

-- files that were told stay told, and what is saved is one
saved_one : (save : Option (List ℕ)) (reply : Option Reply) (status : ℕ) (old now other other_now : Option HeldFiles) (files : HeldFiles)
    → old ≡ Some files → other ≡ Some files → Saves save reply status old now → Saves save reply status other other_now
    → (left : HeldFiles) × (now ≡ Some left) × (other_now ≡ Some left)
saved_one None reply status old now other other_now files told tells is so = (files, is ∙ told, so ∙ tells)
saved_one (Some name) None status old now other other_now files told tells is so = (files, is ∙ told, so ∙ tells)
saved_one (Some name) (Some reply) (suc n) old now other other_now files told tells is so = (files, is ∙ told, so ∙ tells)
saved_one (Some name) (Some reply) zero old now other other_now files told tells is so = (
  insert files name reply.body,
  told_files old files (λ (f : HeldFiles). now ≡ Some (insert f name reply.body)) told is,
  told_files other files (λ (f : HeldFiles). other_now ≡ Some (insert f name reply.body)) tells so,
)

-- ---- a command

takes_none : (readings : Option (List ℕ)) → TakesNext [] readings readings
takes_none None = tt
takes_none (Some readings) = (readings, refl, sym (append-nil readings))

-- two servings of a line left the same: what was shown, the files, and what their seats have seen; and they took the same readings
pub record AreLikeServings (old now other other_now : CommandView) (shown other_shown : Shown) : Type 0 where
  pub files : HeldFiles
  pub told : now.files ≡ Some files
  pub tells : other_now.files ≡ Some files
  pub seen : now.lake.seat.seen ≡ other_now.lake.seat.seen
  pub taken : List ℕ
  pub takes : TakesNext taken old.lake.readings now.lake.readings
  pub other_takes : TakesNext taken other.lake.readings other_now.lake.readings
  pub showings : shown ≡ other_shown

module _ (opened : State) (old now other other_now : CommandView) (lone : IsLone opened old.lake.seat) (other_lone : IsLone opened other.lake.seat)
    (seen : old.lake.seat.seen ≡ other.lake.seat.seen) (files : HeldFiles) (told : old.files ≡ Some files) (tells : other.files ≡ Some files)
    (one_moment : OneMoment old.lake.readings now.lake.readings other.lake.readings other_now.lake.readings) (shown other_shown : Shown) where
  -- nothing changed
  unchanged : now ≡ old → other_now ≡ other → shown ≡ other_shown → AreLikeServings old now other other_now shown other_shown
  unchanged same other_same showings = record {
    files = files;
    told = ap (λ (v : CommandView). v.files) same ∙ told;
    tells = ap (λ (v : CommandView). v.files) other_same ∙ tells;
    seen = ap (λ (v : CommandView). v.lake.seat.seen) same ∙ (seen ∙ sym (ap (λ (v : CommandView). v.lake.seat.seen) other_same));
    taken = [];
    takes = subst (λ (v : CommandView). TakesNext [] old.lake.readings v.lake.readings) (sym same) (takes_none old.lake.readings);
    other_takes = subst (λ (v : CommandView). TakesNext [] other.lake.readings v.lake.readings) (sym other_same) (takes_none other.lake.readings);
    showings = showings;
  }

  -- what was sent came to the same
  sent_alike : (call called : WireCall) (written other_written : List ℕ) (read reads : Option Reply) → call ≡ called
      → AreLikeExchanges old.lake now.lake other.lake other_now.lake written other_written → IsReplyRead written read → IsReplyRead other_written reads
      → shown ≡ reply_shown call.layout read → other_shown ≡ reply_shown called.layout reads
      → Saves call.save read shown.status old.files now.files → Saves called.save reads other_shown.status other.files other_now.files
      → AreLikeServings old now other other_now shown other_shown
  sent_alike call called written other_written read reads calls like is so shows shows_other saves saves_other =
      let same : read ≡ reads = read_one written read reads is (subst (λ (b : List ℕ). IsReplyRead b reads) (sym like.text) so) in
      let showings : shown ≡ other_shown = shows ∙ ((λ i. reply_shown (calls i).layout (same i)) ∙ sym shows_other) in
      let again : Saves call.save read shown.status other.files other_now.files =
      subst (λ (w : WireCall). Saves w.save read shown.status other.files other_now.files) (sym calls)
      (subst (λ (r : Option Reply). Saves called.save r shown.status other.files other_now.files) (sym same)
      (subst (λ (s : Shown). Saves called.save reads s.status other.files other_now.files) (sym showings) saves_other)) in
      let left = saved_one call.save read shown.status old.files now.files other.files other_now.files files told tells saves again in
      record {
        files = left.0;
        told = left.1;
        tells = left.2;
        seen = like.seen;
        taken = like.taken;
        takes = like.takes;
        other_takes = like.other_takes;
        showings = showings;
      }

  module _ (host : List ℕ) (words : List (List ℕ)) where
    pub like_commands : (one : CommandShows host words old now shown) (two : CommandShows host words other other_now other_shown)
        → AreCalm (told_to_command host words old now shown one) → AreCalm (told_to_command host words other other_now other_shown two)
        → NoneClashes (told_to_command host words old now shown one) (told_to_command host words other other_now other_shown two)
        → AreLikeServings old now other other_now shown other_shown
    like_commands (Usage fault is same shows) (Usage again so other_same shows_other) calm still apart =
        let faults : fault ≡ again = cc (is, so) in unchanged same other_same (shows ∙ (ap usage_shown faults ∙ sym shows_other))
    like_commands (Usage fault is same shows) (NoFile call name so named missing other_same shows_other) calm still apart =
        let never = sym is ∙ so in absurd (cc (never))
    like_commands (Usage fault is same shows) (Sent call request written read so sends exchanged reads shows_other saves) calm still apart =
        let never = sym is ∙ so in absurd (cc (never))
    like_commands (NoFile call name is named missing same shows) (Usage again so other_same shows_other) calm still apart =
        let never = sym is ∙ so in absurd (cc (never))
    like_commands (NoFile call name is named missing same shows) (NoFile called again so names missing_too other_same shows_other) calm still apart =
        let calls : call ≡ called = cc (is, so) in
        let both : Some name ≡ Some again = sym named ∙ (ap (λ (w : WireCall). w.body_file) calls ∙ names) in
        let one : name ≡ again = cc (both) in
        unchanged same other_same (shows ∙ (ap no_file_shown one ∙ sym shows_other))
    like_commands (NoFile call name is named missing same shows) (Sent called request written read so sends exchanged reads shows_other saves) calm still
        apart =
        absurd (never_sent host words files other.files request call name tells is named
        (told_files old.files files (λ (f : HeldFiles). get f name ≡ None) told missing) sends)
    like_commands (Sent called request written read so sends exchanged reads shows saves) (Usage again is other_same shows_other) calm still apart =
        let never = sym is ∙ so in absurd (cc (never))
    like_commands (Sent called request written read so sends exchanged reads shows saves) (NoFile call name is named missing other_same shows_other) calm
        still apart =
        absurd (never_sent host words files old.files request call name told is named
        (told_files other.files files (λ (f : HeldFiles). get f name ≡ None) tells missing) sends)
    like_commands (Sent call request written read is sends exchanged reads shows saves)
        (Sent called again other_written other_read so sends_again exchanged_again reads_again shows_other saves_other) calm still apart =
        let requests = one_request host words old.files files request again told sends
        (subst (λ (f : Option HeldFiles). IsSent host words f again) tells sends_again) in
        let calls : call ≡ called = cc (is, so) in
        sent_alike call called written other_written read other_read calls
        (like_requests opened request old.lake now.lake other.lake other_now.lake lone other_lone seen one_moment written other_written again requests exchanged
        calm exchanged_again still apart) reads reads_again shows shows_other saves saves_other

  -- ---- a line

  like_words : (words : LineWords) (one : LineShows words old now shown) (two : LineShows words other other_now other_shown)
      → AreCalm (told_to_words words old now shown one) → AreCalm (told_to_words words other other_now other_shown two)
      → NoneClashes (told_to_words words old now shown one) (told_to_words words other other_now other_shown two)
      → AreLikeServings old now other other_now shown other_shown
  like_words line.Skipped one two calm still apart = unchanged one.0 two.0 (one.1 ∙ sym two.1)
  like_words line.Bad one two calm still apart = unchanged one.0 two.0 (one.1 ∙ sym two.1)
  like_words (line.Words words) one two calm still apart = like_commands (codes "localhost") words one two calm still apart

  pub like_lines : (bytes : List ℕ) (one : LineEnds bytes old now (Ok shown)) (two : LineEnds bytes other other_now (Ok other_shown))
      → AreCalm (told_to_line bytes old now (Ok shown) one) → AreCalm (told_to_line bytes other other_now (Ok other_shown) two)
      → NoneClashes (told_to_line bytes old now (Ok shown) one) (told_to_line bytes other other_now (Ok other_shown) two)
      → AreLikeServings old now other other_now shown other_shown
  like_lines bytes one two calm still apart = like_words (line_of bytes) one two calm still apart
