-- What a batch has done after one byte more, and after one line more.
use Rattle.std.proofs.Common.{◌≡◌, ◌≢◌, ◌<◌, ◌==◌, ◌&&◌, ◌||◌, ◌+◌, ℕ, false, List, [], ◌∷◌, ◌++◌}
use Rattle.std.proofs.Common.{length, get_or, take, drop, Result, Ok, Err, refl, sym, ◌∙◌, ap, subst}
use Rattle.std.proofs.Common.{arith, append_assoc, take-append-drop}
use Rattle.std.proofs.lemmas.Bool.Decides.{nat_tests}
use Rattle.std.proofs.lemmas.List.{append-nil, take_more}
use Rattle.std.proofs.Math.Seq.{take-nil}
use Rattle.std.specs.Str.Lines.{strip_carriage_return}
use Rattle.http_wire.specs.SinkFronts.{IsPrefix, Shows}
use Rattle.http_wire.proofs.FrontLemmas.{front_of_self, front_trans, front_after, wrote_none, front_as}
use Rattle.http_wire.proofs.FrontLemmas.{first_then, shows_then, shows_cut}
use Rattle.batch_lines.specs.declared.stop.Stop.{Stop}
use Rattle.batch_lines.specs.declared.stop.Stop.TheVariants.{SinkFailed, HostFailed}
use Rattle.batch_lines.specs.ServedLines.{LineReply, LineEffect, IsLineServed, AreToldByFronts, text_of, any_failed}
use Rattle.batch_lines.specs.Lines.{ended_lines, last_part}
use Rattle.batch_lines.specs.Outcome.{Trace}
use Rattle.batch_lines.specs.Progress.{Progress, start, BatchState}
use Rattle.batch_lines.specs.Serving.{ServesLine}
use Rattle.batch_lines.specs.Feeding.{line_room, HasShown, IsBrokenOff, HasFailed, ShowsLines, HasServed, Feeds}
use Rattle.batch_lines.proofs.EffectsLemmas.{served_more, text_of-more, all_done-more, any_starved-more, any_failed-more}
use Rattle.batch_lines.proofs.PrefixLemmas.{take-push}
use Rattle.batch_lines.proofs.LineBufferLemmas.{served_ended}
use Rattle.batch_lines.proofs.LinesLemmas.{ended_in_line, last_in_line, ended_by_feed, last_by_feed}

none_failed : (effects : List LineEffect) (effect : LineEffect) → any_failed effects ≡ false → effect.failed ≡ false
    → any_failed (effects ++ effect ∷ []) ≡ false
none_failed effects effect none is =
    any_failed-more effects effect ∙ ap (λ b. b || effect.failed) none ∙ is

module _ {L : Type 0} (serves : List ℕ → L → L → LineReply → Type 0) where
  -- nothing was given, and nothing done
  pub served_none : (server : L) (progress : Progress) (faults : ℕ) (kept : List ℕ) → progress ≡ start progress.written
      → kept ≡ [] → HasServed serves (record { server = server; written = progress.written; faults = faults }) [] []
      (record { server = server; progress = progress }) kept
  served_none server progress faults kept begun none = record {
    ended = record {
      effects = [];
      each = refl;
      sound = refl;
      shown = record { out = []; wrote = wrote_none progress.written; whole = ap (λ (p : Progress). p.pending) begun };
      done = ap (λ (p : Progress). p.done) begun;
      starved = ap (λ (p : Progress). p.starved) begun;
      later = [];
      begun = refl;
      early = ([], wrote_none progress.written);
    };
    under_way = none ∙ sym (take-nil line_room);
  }

  -- a byte that ends no line
  pub served_byte : (before : Trace L) (first : List LineEffect) (given : List ℕ) (now : BatchState L) (kept longer : List ℕ)
      (byte : ℕ) → byte ≢ 10 → longer ≡ take line_room (kept ++ byte ∷ [])
      → HasServed serves before first given now kept → HasServed serves before first (given ++ byte ∷ []) now longer
  served_byte before first given now kept longer byte other is served =
      let here : (byte == 10) ≡ false = grind (arith, nat_tests) in
      record {
        ended = subst (λ (l : List (List ℕ)). HasShown serves before first l [] now) (sym (ended_in_line given byte here))
            served.ended;
        under_way = is ∙ ap (λ (l : List ℕ). take line_room (l ++ byte ∷ [])) served.under_way
            ∙ take-push line_room (last_part given) byte ∙ ap (take line_room) (sym (last_in_line given byte here));
      }

  -- some lines were shown, and one more was served
  module _ (before : Trace L) (first : List LineEffect) (lines : List (List ℕ)) (old new : BatchState L)
      (line shown : List ℕ) (were : HasShown serves before first lines [] old) where
    abbrev all : LineEffect → List LineEffect
    all effect = were.effects ++ effect ∷ []

    text_more : (effect : LineEffect) → (text_of were.effects ++ []) ++ effect.text ≡ text_of (all effect) ++ []
    text_more effect =
        ap (λ (l : List ℕ). l ++ effect.text) (append-nil (text_of were.effects))
        ∙ sym (text_of-more were.effects effect) ∙ sym (append-nil (text_of (all effect)))

    later_more : (effect : LineEffect) → first ++ (were.later ++ effect ∷ []) ≡ all effect
    later_more effect =
        sym (append_assoc first were.later (effect ∷ []))
        ∙ ap (λ (l : List LineEffect). l ++ effect ∷ []) were.begun

    pub line_shown : (result : Result (Unit {0}) Stop) (one : ServesLine serves old new line result)
        → IsLineServed serves shown old.server one.effect new.server
        → ShowsLines serves before first (lines ++ shown ∷ []) [] new result
    line_shown (Ok done) one is = record {
      effects = all one.effect;
      each = served_more serves lines before.server were.effects old.server shown one.effect new.server were.each is;
      sound = none_failed were.effects one.effect were.sound one.tells.sound;
      shown = subst (λ (l : List ℕ). Shows before.written new.progress.written [] l new.progress.pending)
          (text_more one.effect)
          (shows_then before.written old.progress.written new.progress.written [] (text_of were.effects ++ [])
          old.progress.pending one.effect.text were.shown new.progress.pending one.tells.shown);
      done = one.tells.done ∙ ap (λ b. b && one.effect.done) were.done ∙ sym (all_done-more were.effects one.effect);
      starved = one.tells.starved ∙ ap (λ b. b || one.effect.starved) were.starved
          ∙ sym (any_starved-more were.effects one.effect);
      later = were.later ++ one.effect ∷ [];
      begun = later_more one.effect;
      early = first_then before.written old.progress.written new.progress.written (text_of first) one.tells.shown.out
          were.early one.tells.shown.wrote;
    }
    line_shown (Err SinkFailed) one is = record {
      effects = all one.effect;
      each = served_more serves lines before.server were.effects old.server shown one.effect new.server were.each is;
      sound = none_failed were.effects one.effect were.sound one.tells.sound;
      front = front_as before.written new.progress.written ((text_of were.effects ++ []) ++ one.effect.text)
          (text_of (all one.effect) ++ []) (text_more one.effect)
          (shows_cut before.written old.progress.written new.progress.written [] (text_of were.effects ++ [])
          old.progress.pending one.effect.text were.shown one.tells.front);
      later = were.later ++ one.effect ∷ [];
      begun = later_more one.effect;
      early = first_then before.written old.progress.written new.progress.written (text_of first) one.tells.front.out
          were.early one.tells.front.wrote;
    }
    line_shown (Err HostFailed) one is = record {
      effects = were.effects;
      last = one.effect;
      each = served_more serves lines before.server were.effects old.server shown one.effect new.server were.each is;
      sound = were.sound;
      failed = one.tells.failed;
      shown = subst (λ (l : List ℕ). Shows before.written new.progress.written [] l new.progress.pending)
          (text_more one.effect ∙ append-nil (text_of (all one.effect)))
          (shows_then before.written old.progress.written new.progress.written [] (text_of were.effects ++ [])
          old.progress.pending one.effect.text were.shown new.progress.pending one.tells.shown);
      later = were.later;
      begun = were.begun;
      early = first_then before.written old.progress.written new.progress.written (text_of first) one.tells.shown.out
          were.early one.tells.shown.wrote;
    }

  -- lines ended by a chunk were shown, or one of the two failed
  feeds_shown : (before : Trace L) (first : List LineEffect) (given chunk : List ℕ) (now : BatchState L) (kept : List ℕ)
      (result : Result (Unit {0}) Stop) → kept ≡ take line_room (last_part (given ++ chunk))
      → ShowsLines serves before first (ended_lines (given ++ chunk)) [] now result
      → Feeds serves before first given chunk now kept result
  feeds_shown before first given chunk now kept (Ok done) under_way shown = record { ended = shown; under_way = under_way }
  feeds_shown before first given chunk now kept (Err SinkFailed) under_way cut = (chunk, front_of_self chunk, cut)
  feeds_shown before first given chunk now kept (Err HostFailed) under_way lost = (chunk, front_of_self chunk, lost)

  module _ (told : AreToldByFronts serves) where
    -- a line feed, at which the line under way was served
    pub feeds_line : (before : Trace L) (first : List LineEffect) (given : List ℕ) (old new : BatchState L)
        (kept line cleared : List ℕ) (byte : ℕ) (result : Result (Unit {0}) Stop) → byte ≡ 10
        → line ≡ strip_carriage_return kept → cleared ≡ [] → HasServed serves before first given old kept
        → ServesLine serves old new line result → Feeds serves before first given (byte ∷ []) new cleared result
    feeds_line before first given old new kept line cleared byte result feed is none served one =
        let shown : List ℕ = strip_carriage_return (last_part given) in
        let ended : ended_lines (given ++ byte ∷ []) ≡ ended_lines given ++ shown ∷ [] =
        ap (λ b. ended_lines (given ++ b ∷ [])) feed ∙ ended_by_feed given in
        let begun : last_part (given ++ byte ∷ []) ≡ [] =
        ap (λ b. last_part (given ++ b ∷ [])) feed ∙ last_by_feed given in
        let whole : IsLineServed serves shown old.server one.effect new.server =
        served_ended serves told (last_part given) old.server one.effect new.server
        (subst (λ (l : List ℕ). IsLineServed serves l old.server one.effect new.server)
        (is ∙ ap strip_carriage_return served.under_way) one.served) in
        feeds_shown before first given (byte ∷ []) new cleared result
        (none ∙ sym (ap (take line_room) begun ∙ take-nil line_room))
        (subst (λ (l : List (List ℕ)). ShowsLines serves before first l [] new result) (sym ended)
        (line_shown before first (ended_lines given) old new line shown served.ended result one whole))

  -- one byte of a chunk after those before it
  pub fed_at : (before : Trace L) (first : List LineEffect) (given chunk : List ℕ) (i : ℕ) (now : BatchState L)
      (kept : List ℕ) → i < length chunk
      → HasServed serves before first ((given ++ take i chunk) ++ get_or chunk i 0 ∷ []) now kept
      → HasServed serves before first (given ++ take (i + 1) chunk) now kept
  fed_at before first given chunk i now kept inside served =
      subst (λ (l : List ℕ). HasServed serves before first l now kept)
      (append_assoc given (take i chunk) (get_or chunk i 0 ∷ [])
      ∙ ap (λ (l : List ℕ). given ++ l) (sym (take_more chunk i 0 inside))) served

  -- a part of the byte at i and all before it are a part of the chunk
  part_front : (chunk : List ℕ) (i : ℕ) (part : List ℕ) → i < length chunk → IsPrefix part (get_or chunk i 0 ∷ [])
      → IsPrefix (take i chunk ++ part) chunk
  part_front chunk i part inside front =
      front_trans (take i chunk ++ part) (take i chunk ++ get_or chunk i 0 ∷ []) chunk
      (front_after (take i chunk) part (get_or chunk i 0 ∷ []) front) (
        drop (i + 1) chunk,
        ap (λ (l : List ℕ). l ++ drop (i + 1) chunk) (sym (take_more chunk i 0 inside))
            ∙ take-append-drop (i + 1) chunk,
      )

  pub cut_at : (before : Trace L) (first : List LineEffect) (given chunk : List ℕ) (i : ℕ) (now : BatchState L)
      (kept : List ℕ) (stop : Stop) → i < length chunk
      → Feeds serves before first (given ++ take i chunk) (get_or chunk i 0 ∷ []) now kept (Err stop)
      → Feeds serves before first given chunk now kept (Err stop)
  cut_at before first given chunk i now kept SinkFailed inside cut = (
    take i chunk ++ cut.0,
    part_front chunk i cut.0 inside cut.1,
    subst (λ (l : List ℕ). IsBrokenOff serves before first (ended_lines l) [] now)
        (append_assoc given (take i chunk) cut.0) cut.2,
  )
  cut_at before first given chunk i now kept HostFailed inside lost = (
    take i chunk ++ lost.0,
    part_front chunk i lost.0 inside lost.1,
    subst (λ (l : List ℕ). HasFailed serves before first (ended_lines l) now)
        (append_assoc given (take i chunk) lost.0) lost.2,
  )
