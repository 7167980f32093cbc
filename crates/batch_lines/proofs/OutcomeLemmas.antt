-- How a batch ends.
use Rattle.std.proofs.Common.{◌≡◌, ◌≤◌, ◌⊎◌, inl, inr, ◌&&◌, ℕ, Bool, true, false, cond, nat_le, List, [], ◌∷◌, ◌++◌, length, take}
use Rattle.std.proofs.Common.{Option, refl, sym, ◌∙◌, ap, subst, arith}
use Rattle.std.proofs.lemmas.List.{append-nil, take_all}
use Rattle.std.specs.Str.Lines.{lines}
use Rattle.lake_base.specs.Outside.{Rose}
use Rattle.http_wire.specs.SinkFronts.{IsPrefix, Wrote, WroteFirst, WroteFront}
use Rattle.http_wire.proofs.FrontLemmas.{front_of_self, front_of_append, front_more, wrote_as, shows_all, first_then}
use Rattle.http_wire.proofs.FrontLemmas.{shows_flushed, shows_cut, front_as}
use Rattle.batch_lines.specs.declared.status.ExitStatus.{ExitStatus}
use Rattle.batch_lines.specs.declared.status.ExitStatus.TheVariants.{SourceFailed, SinkFailed, HostFailed}
use Rattle.batch_lines.specs.ServedLines.{LineReply, LineEffect, text_of, all_done, any_starved, any_failed}
use Rattle.batch_lines.specs.Lines.{ended_lines, batch_lines, end_text}
use Rattle.batch_lines.specs.Status.{status_of}
use Rattle.batch_lines.specs.Outcome.{Trace, Extent, batch_status, IsReadOut, IsReadTo, IsWhole, EndsWith, Outcome}
use Rattle.batch_lines.specs.Progress.{BatchState}
use Rattle.batch_lines.specs.Feeding.{HasShown, IsBrokenOff, HasFailed}
use Rattle.batch_lines.specs.SourceReading.{IsBroken, IsCutAt, IsLostAt}
use Rattle.batch_lines.proofs.PrefixLemmas.{front_within}
use Rattle.batch_lines.proofs.ClosingLemmas.{tested_within}
use Rattle.batch_lines.proofs.LinesLemmas.{lines_of_part, ended_of_part}

-- the lines that ended in a part are the first of the batch
first_lines : (limit : ℕ) (input part : List ℕ) → IsPrefix part (take limit input)
    → (rest : List (List ℕ)) × (ended_lines part ++ rest ≡ batch_lines limit input)
first_lines limit input part front =
    elim (nat_le (length input) limit) as (λ b. nat_le (length input) limit ≡ b
    → (rest : List (List ℕ)) × (ended_lines part ++ rest ≡ cond b (lines input) (ended_lines (take limit input)))) [
      | true ↦ λ is.
          let whole : part ++ front.0 ≡ input =
          front.1 ∙ take_all limit input (tested_within is) in
          let more = lines_of_part part front.0 in
          (more.0, more.1 ∙ ap lines whole)
      | false ↦ λ is.
          let more = ended_of_part part front.0 in
          (more.0, more.1 ∙ ap ended_lines front.1)
    ] refl

-- what is said of a batch by the status of its effects
whole_ends : {L : Type 0} (serves : List ℕ → L → L → LineReply → Type 0) (limit most : ℕ) (before after : Trace L)
    (input : List ℕ) (source : Option (List ℕ)) (extent : Extent) (starved done : Bool)
    → IsWhole limit most input source extent (status_of starved done)
    → EndsWith serves limit most before after input source extent (status_of starved done)
whole_ends serves limit most before after input source extent true done whole = whole
whole_ends serves limit most before after input source extent false true whole = whole
whole_ends serves limit most before after input source extent false false whole = whole

risen_since : (a b c : ℕ) → a ≤ b → Rose b c → Rose a c
risen_since a b c later rose = λ low. omega (arith, later, rose low)

-- what serves the lines and what the sink got then, which has failed so often
abbrev traced : {L : Type 0} → BatchState L → ℕ → Trace L
traced now faults = record { server = now.server; written = now.progress.written; faults = faults }

-- nothing is pending of what was shown
wrote_all : {L : Type 0} {serves : List ℕ → L → L → LineReply → Type 0} {before : Trace L} {first : List LineEffect}
    {all : List (List ℕ)} {text : List ℕ} {now : BatchState L} → (shown : HasShown serves before first all text now)
    → now.progress.pending ≡ [] → Wrote before.written now.progress.written (text_of shown.effects ++ text)
wrote_all {before = before} {text = text} {now = now} shown none =
    shows_all before.written now.progress.written [] (text_of shown.effects ++ text) now.progress.pending none shown.shown

module _ {L : Type 0} {serves : List ℕ → L → L → LineReply → Type 0} {limit most : ℕ} {before : Trace L}
    {input : List ℕ} {source : Option (List ℕ)} {now : BatchState L} (faults : ℕ) where
  -- the sink failed before all lines were served
  pub outcome_cut : IsCutAt serves before most input source limit now
      → Outcome serves limit most before (traced now faults) input source SinkFailed
  outcome_cut at =
      let cut = at.cut in
      let more = first_lines limit input at.part at.front in
      let out : IsPrefix cut.front.out (text_of cut.effects) =
      subst (λ (l : List ℕ). IsPrefix cut.front.out l) (append-nil (text_of cut.effects)) cut.front.front in
      record {
        extent = record {
          served = ended_lines at.part;
          unserved = more.0;
          effects = cut.effects;
          out = cut.front.out;
        };
        lines = more.1;
        each = cut.each;
        wrote = cut.front.wrote;
        front = front_more cut.front.out (text_of cut.effects) (end_text limit input more.0) out;
        ended = record {
          first = at.first;
          later = cut.later;
          begun = cut.begun;
          sound = cut.sound;
          read = at.read;
          early = cut.early;
        };
      }

  -- the source failed
  pub outcome_broken : IsBroken serves before most input source limit now
      → Outcome serves limit most before (traced now faults) input source SourceFailed
  outcome_broken broken =
      let part : IsPrefix broken.given (take limit input) =
      front_within limit broken.given broken.rest input broken.whole broken.within in
      let more = first_lines limit input broken.given part in
      let effects = broken.shown.effects in
      record {
        extent = record {
          served = ended_lines broken.given;
          unserved = more.0;
          effects = effects;
          out = text_of effects;
        };
        lines = more.1;
        each = broken.shown.each;
        wrote = wrote_as before.written now.progress.written (text_of effects ++ []) (text_of effects)
            (append-nil (text_of effects)) (wrote_all broken.shown broken.written);
        front = front_of_append (text_of effects) (end_text limit input more.0);
        ended = record {
          given = broken.given;
          rest = broken.rest;
          whole = broken.whole;
          left = broken.left;
          within = broken.within;
          lines = refl;
          sound = broken.shown.sound;
          text = refl;
        };
      }

  -- all lines were served, and all was written
  pub outcome_whole : {first : List LineEffect} {within : Bool} {status : ExitStatus}
      → nat_le (length input) limit ≡ within → IsReadOut limit most input source
      → status ≡ status_of now.progress.starved (now.progress.done && within) → now.progress.pending ≡ []
      → HasShown serves before first (batch_lines limit input) (end_text limit input []) now
      → Outcome serves limit most before (traced now faults) input source status
  outcome_whole {first = first} {within = within} {status = status} test read tells none shown =
      let effects = shown.effects in
      let text : List ℕ = text_of effects ++ end_text limit input [] in
      let extent : Extent =
      record { served = batch_lines limit input; unserved = []; effects = effects; out = text } in
      let stands : status ≡ batch_status limit input effects =
      tells ∙ ap (λ b. status_of b (now.progress.done && within)) shown.starved
      ∙ ap (λ b. status_of (any_starved effects) (b && within)) shown.done
      ∙ ap (λ b. status_of (any_starved effects) (all_done effects && b)) (sym test) in
      record {
        extent = extent;
        lines = append-nil (batch_lines limit input);
        each = shown.each;
        wrote = wrote_all shown none;
        front = front_of_self text;
        ended = subst (λ (s : ExitStatus). EndsWith serves limit most before (traced now faults) input source extent s) (sym stands)
            (whole_ends serves limit most before (traced now faults) input source extent (any_starved effects)
            (all_done effects && nat_le (length input) limit)
            (record { read = read; all = refl; sound = shown.sound; text = refl; tells = refl }));
      }

  -- all lines were served, and the sink failed at what was to be written last
  pub outcome_end_cut : {first : List LineEffect} → IsReadTo serves before.server most input source first
      → IsBrokenOff serves before first (batch_lines limit input) (end_text limit input []) now
      → Outcome serves limit most before (traced now faults) input source SinkFailed
  outcome_end_cut {first = first} read cut = record {
    extent = record {
      served = batch_lines limit input;
      unserved = [];
      effects = cut.effects;
      out = cut.front.out;
    };
    lines = append-nil (batch_lines limit input);
    each = cut.each;
    wrote = cut.front.wrote;
    front = cut.front.front;
    ended = record {
      first = first;
      later = cut.later;
      begun = cut.begun;
      sound = cut.sound;
      read = read;
      early = cut.early;
    };
  }

-- what the lines came to at whose last the server failed
abbrev effects_of : {L : Type 0} {serves : List ℕ → L → L → LineReply → Type 0} {before : Trace L} {first : List LineEffect}
    {lines : List (List ℕ)} {now : BatchState L} → HasFailed serves before first lines now → List LineEffect
effects_of lost = lost.effects ++ lost.last ∷ []

-- the server failed at the last of some lines
module _ {L : Type 0} {serves : List ℕ → L → L → LineReply → Type 0} {limit most : ℕ} {before : Trace L}
    {input : List ℕ} {source : Option (List ℕ)} {first : List LineEffect} {lines : List (List ℕ)} {now : BatchState L}
    (lost : HasFailed serves before first lines now) (written : Option (List ℕ)) (counted faults : ℕ) where
  -- what ends so, once this was written of what they show
  abandoned : (unserved : List (List ℕ)) → lines ++ unserved ≡ batch_lines limit input
      → IsReadTo serves before.server most input source first → (out : List ℕ) → IsPrefix out (text_of (effects_of lost))
      → Wrote before.written written out → WroteFirst before.written written (text_of first)
      → (out ≡ text_of (effects_of lost)) ⊎ Rose before.faults faults
      → Outcome serves limit most before (record { server = now.server; written = written; faults = faults }) input source
      HostFailed
  abandoned unserved all read out front wrote early text = record {
    extent = record { served = lines; unserved = unserved; effects = effects_of lost; out = out };
    lines = all;
    each = lost.each;
    wrote = wrote;
    front = front_more out (text_of (effects_of lost)) (end_text limit input unserved) front;
    ended = record {
      first = first;
      later = lost.later;
      last = lost.last;
      begun = ap (λ (l : List LineEffect). l ++ lost.last ∷ []) lost.begun;
      sound = subst (λ (l : List LineEffect). any_failed l ≡ false) (sym lost.begun) lost.sound;
      failed = lost.failed;
      read = read;
      early = early;
      text = text;
    };
  }

  -- what was pending was written, or a front of it
  outcome_given_up : (unserved : List (List ℕ)) → lines ++ unserved ≡ batch_lines limit input
      → IsReadTo serves before.server most input source first → before.faults ≤ counted
      → Wrote now.progress.written written now.progress.pending
      ⊎ (WroteFront now.progress.written written now.progress.pending × Rose counted faults)
      → Outcome serves limit most before (record { server = now.server; written = written; faults = faults }) input source
      HostFailed
  outcome_given_up unserved all read later (inl wrote) =
      abandoned unserved all read (text_of (effects_of lost)) (front_of_self (text_of (effects_of lost)))
      (shows_flushed before.written now.progress.written written [] (text_of (effects_of lost)) now.progress.pending lost.shown
      wrote)
      (first_then before.written now.progress.written written (text_of first) now.progress.pending lost.early wrote)
      (inl refl)
  outcome_given_up unserved all read later (inr cut) =
      let part : WroteFront before.written written (text_of (effects_of lost)) =
      front_as before.written written (text_of (effects_of lost) ++ []) (text_of (effects_of lost)) (append-nil (text_of (effects_of lost)))
      (shows_cut before.written now.progress.written written [] (text_of (effects_of lost)) now.progress.pending [] lost.shown
      (front_as now.progress.written written now.progress.pending (now.progress.pending ++ [])
      (sym (append-nil now.progress.pending)) cut.0)) in
      abandoned unserved all read part.out part.front part.wrote
      (first_then before.written now.progress.written written (text_of first) cut.0.out lost.early cut.0.wrote)
      (inr (risen_since before.faults counted faults later cut.1))

module _ {L : Type 0} {serves : List ℕ → L → L → LineReply → Type 0} {limit most : ℕ} {before : Trace L}
    {input : List ℕ} {source : Option (List ℕ)} {now : BatchState L} (written : Option (List ℕ)) (counted faults : ℕ)
    (later : before.faults ≤ counted)
    (gave_up : Wrote now.progress.written written now.progress.pending
    ⊎ (WroteFront now.progress.written written now.progress.pending × Rose counted faults)) where
  -- before all lines were served
  pub outcome_lost : IsLostAt serves before most input source limit now
      → Outcome serves limit most before (record { server = now.server; written = written; faults = faults }) input source
      HostFailed
  outcome_lost at =
      let more = first_lines limit input at.part at.front in
      outcome_given_up at.lost written counted faults more.0 more.1 at.read later gave_up

  -- at the last of all lines
  pub outcome_end_lost : {first : List LineEffect} → IsReadTo serves before.server most input source first
      → HasFailed serves before first (batch_lines limit input) now
      → Outcome serves limit most before (record { server = now.server; written = written; faults = faults }) input source
      HostFailed
  outcome_end_lost read lost =
      outcome_given_up lost written counted faults [] (append-nil (batch_lines limit input)) read later gave_up
