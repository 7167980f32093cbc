-- What a batch has shown after a text more, and after what was pending was written.
use Rattle.std.proofs.Common.{◌≡◌, ℕ, List, [], ◌++◌, sym, ◌∙◌, ap, subst}
use Rattle.std.proofs.lemmas.List.{append-nil}
use Rattle.http_wire.specs.SinkFronts.{WroteFront, Shows}
use Rattle.http_wire.proofs.FrontLemmas.{wrote_none, first_then, front_as}
use Rattle.http_wire.proofs.FrontLemmas.{shows_all, shows_then, shows_cut, shows_written, shows_flushed}
use Rattle.batch_lines.specs.ServedLines.{LineReply, LineEffect, text_of}
use Rattle.batch_lines.specs.Outcome.{Trace}
use Rattle.batch_lines.specs.Progress.{Progress, BatchState}
use Rattle.batch_lines.specs.Feeding.{HasShown, IsBrokenOff}
use Rattle.batch_lines.specs.SourceReading.{IsFlushed}

module _ {L : Type 0} {serves : List ℕ → L → L → LineReply → Type 0} {before : Trace L} {first : List LineEffect}
    {lines : List (List ℕ)} {text : List ℕ} {server : L} {old : Progress}
    (were : HasShown serves before first lines text (record { server = server; progress = old })) (new : Progress) where
  -- what was pending was written
  pub shown_flushed : IsFlushed old new
      → HasShown serves before first lines text (record { server = server; progress = new })
  shown_flushed flushed = record {
    effects = were.effects;
    each = were.each;
    sound = were.sound;
    shown = shows_written before.written before.written new.written [] (text_of were.effects ++ text) new.pending
        flushed.none (wrote_none before.written)
        (shows_flushed before.written old.written new.written [] (text_of were.effects ++ text) old.pending were.shown
        flushed.wrote);
    done = flushed.done ∙ were.done;
    starved = flushed.starved ∙ were.starved;
    later = were.later;
    begun = were.begun;
    early = first_then before.written old.written new.written (text_of first) old.pending were.early flushed.wrote;
  }

  -- writing it failed
  pub cut_flush : WroteFront old.written new.written old.pending
      → IsBrokenOff serves before first lines text (record { server = server; progress = new })
  cut_flush part =
      let all : List ℕ = text_of were.effects ++ text in
      record {
        effects = were.effects;
        each = were.each;
        sound = were.sound;
        front = front_as before.written new.written (all ++ []) all (append-nil all)
            (shows_cut before.written old.written new.written [] all old.pending [] were.shown
            (front_as old.written new.written old.pending (old.pending ++ []) (sym (append-nil old.pending)) part));
        later = were.later;
        begun = were.begun;
        early = first_then before.written old.written new.written (text_of first) part.out were.early part.wrote;
      }

module _ {L : Type 0} {serves : List ℕ → L → L → LineReply → Type 0} {before : Trace L} {first : List LineEffect}
    {lines : List (List ℕ)} {server : L} {old : Progress}
    (were : HasShown serves before first lines [] (record { server = server; progress = old })) (text : List ℕ)
    (new : Progress) where
  -- a text was shown behind the lines
  pub text_shown : new.done ≡ old.done → new.starved ≡ old.starved
      → Shows old.written new.written old.pending text new.pending
      → HasShown serves before first lines text (record { server = server; progress = new })
  text_shown done starved shows = record {
    effects = were.effects;
    each = were.each;
    sound = were.sound;
    shown = subst (λ (l : List ℕ). Shows before.written new.written [] (l ++ text) new.pending)
        (append-nil (text_of were.effects))
        (shows_then before.written old.written new.written [] (text_of were.effects ++ []) old.pending text were.shown
        new.pending shows);
    done = done ∙ were.done;
    starved = starved ∙ were.starved;
    later = were.later;
    begun = were.begun;
    early = first_then before.written old.written new.written (text_of first) shows.out were.early shows.wrote;
  }

  -- or that failed
  pub text_cut : WroteFront old.written new.written (old.pending ++ text)
      → IsBrokenOff serves before first lines text (record { server = server; progress = new })
  text_cut part = record {
    effects = were.effects;
    each = were.each;
    sound = were.sound;
    front = front_as before.written new.written ((text_of were.effects ++ []) ++ text) (text_of were.effects ++ text)
        (ap (λ (l : List ℕ). l ++ text) (append-nil (text_of were.effects)))
        (shows_cut before.written old.written new.written [] (text_of were.effects ++ []) old.pending text were.shown
        part);
    later = were.later;
    begun = were.begun;
    early = first_then before.written old.written new.written (text_of first) part.out were.early part.wrote;
  }

-- where nothing is pending, the lines so far are the first of those to come
pub shown_first : {L : Type 0} {serves : List ℕ → L → L → LineReply → Type 0} {before : Trace L} {first : List LineEffect}
    {lines : List (List ℕ)} {now : BatchState L} → (were : HasShown serves before first lines [] now)
    → now.progress.pending ≡ [] → HasShown serves before were.effects lines [] now
shown_first {before = before} {now = now} were none = record {
  effects = were.effects;
  each = were.each;
  sound = were.sound;
  shown = were.shown;
  done = were.done;
  starved = were.starved;
  later = [];
  begun = append-nil were.effects;
  early = (
    [],
    shows_all before.written now.progress.written [] (text_of were.effects ++ []) now.progress.pending none were.shown,
  );
}
