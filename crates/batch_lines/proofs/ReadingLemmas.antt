-- How the source of a batch is read, piece by piece.
use Rattle.std.proofs.Common.{◌≡◌, ◌<◌, ◌≤◌, ◌+◌, ℕ, List, [], ◌++◌, length, take, drop, Err}
use Rattle.std.proofs.Common.{inl, inr, Option, Some, None, IfSome, refl, sym, ◌∙◌, ap, subst, arith}
use Rattle.std.proofs.Common.{append_assoc, take-append-drop, length-append}
use Rattle.std.proofs.lemmas.List.{append-nil, length-take, nil_from_length}
use Rattle.std.proofs.Math.Seq.{take-append_seam}
use Rattle.lake_base.specs.Outside.{Reads}
use Rattle.http_wire.specs.SinkFronts.{IsPrefix, WroteFront}
use Rattle.http_wire.proofs.FrontLemmas.{front_after, front_trans}
use Rattle.batch_lines.specs.declared.stop.End.{End}
use Rattle.batch_lines.specs.declared.stop.End.TheVariants.{Source, TooLong, SourceFailed, SinkFailed, HostFailed}
use Rattle.batch_lines.specs.ServedLines.{LineReply}
use Rattle.batch_lines.specs.Lines.{ended_lines}
use Rattle.batch_lines.specs.Outcome.{Trace}
use Rattle.batch_lines.specs.Progress.{Progress, start, BatchState}
use Rattle.batch_lines.specs.Feeding.{HasShown, IsBrokenOff, HasFailed, HasServed}
use Rattle.batch_lines.specs.SourceReading.{IsFlushed, NextPiece, Reaches, IsCutAt, IsLostAt, Ends}
use Rattle.batch_lines.proofs.PrefixLemmas.{front_within}
use Rattle.batch_lines.proofs.FeedingLemmas.{served_none}
use Rattle.batch_lines.proofs.OutputLemmas.{shown_flushed, shown_first, cut_flush}

pub told_then : (told : Option (List ℕ)) (P Q : List ℕ → Type 0) → ((bytes : List ℕ) → P bytes → Q bytes)
    → IfSome told P → IfSome told Q
told_then None P Q f p = tt
told_then (Some bytes) P Q f p = f bytes p

-- nothing was read
pub reached_start : {L : Type 0} (serves : List ℕ → L → L → LineReply → Type 0) (source : Option (List ℕ)) (most : ℕ)
    (server : L) (progress : Progress) (faults : ℕ) (kept : List ℕ) → progress ≡ start progress.written → kept ≡ []
    → IfSome source (λ input. Reaches serves (record { server = server; written = progress.written; faults = faults })
    most input source 0 [] (record { server = server; progress = progress }) kept)
reached_start serves None most server progress faults kept begun none = tt
reached_start serves (Some input) most server progress faults kept begun none = record {
  first = [];
  read = record {
    earlier = [];
    piece = [];
    rest = input;
    whole = refl;
    left = refl;
    few = omega arith;
    reached = server;
    each = refl;
  };
  given = [];
  behind = refl;
  ahead = omega arith;
  count = refl;
  served = served_none serves server progress faults kept begun none;
}

-- what was given and what is left are all
reached_whole : {L : Type 0} {serves : List ℕ → L → L → LineReply → Type 0} {before : Trace L} {most : ℕ} {input : List ℕ}
    {source : Option (List ℕ)} {total : ℕ} {piece : List ℕ} {old : BatchState L} {kept : List ℕ}
    → (reached : Reaches serves before most input source total piece old kept)
    → reached.given ++ (piece ++ reached.read.rest) ≡ input
reached_whole {piece = piece} reached =
    sym (append_assoc reached.given piece reached.read.rest)
    ∙ ap (λ (l : List ℕ). l ++ reached.read.rest) (sym reached.behind) ∙ reached.read.whole

-- all that was read is fed, and what was pending is to be written
module _ {L : Type 0} {serves : List ℕ → L → L → LineReply → Type 0} {before : Trace L} {most : ℕ} {input : List ℕ}
    {source : Option (List ℕ)} {total : ℕ} {server : L} {old : Progress} {kept : List ℕ}
    (reached : Reaches serves before most input source total [] (record { server = server; progress = old }) kept)
    (new : Progress) where
  -- writing it failed
  flush_failed : (after : Option (List ℕ)) (limit : ℕ) → total ≤ limit → after ≡ source
      → WroteFront old.written new.written old.pending
      → IsCutAt serves before most input after limit (record { server = server; progress = new })
  flush_failed after limit within same part = record {
    part = reached.given;
    front = front_within limit reached.given reached.read.rest input (reached_whole reached)
        (omega (arith, reached.count));
    first = reached.first;
    read = record {
      earlier = reached.read.earlier;
      piece = reached.read.piece;
      rest = reached.read.rest;
      whole = reached.read.whole;
      left = same ∙ reached.read.left;
      few = reached.read.few;
      reached = reached.read.reached;
      each = reached.read.each;
    };
    cut = cut_flush reached.served.ended new part;
  }

  module _ (flushed : IsFlushed old new) where
    ready :
        HasShown serves before reached.first (ended_lines reached.given) [] (record { server = server; progress = new })
    ready = shown_flushed reached.served.ended new flushed

    -- from now on these lines are the first
    ready_first :
        HasServed serves before ready.effects reached.given (record { server = server; progress = new }) kept
    ready_first = record { ended = shown_first ready flushed.none; under_way = reached.served.under_way }

    -- the source failed
    source_failed : (after : Option (List ℕ)) (limit : ℕ) → total ≤ limit → after ≡ source
        → Ends serves before most input after limit (record { server = server; progress = new }) kept SourceFailed
    source_failed after limit within same = record {
      given = reached.given;
      rest = reached.read.rest;
      whole = reached_whole reached;
      left = same ∙ reached.read.left;
      within = omega (arith, reached.count);
      first = reached.first;
      shown = ready;
      written = flushed.none;
    }

    module _ (after : Option (List ℕ)) (room_before room : List ℕ) (n : ℕ)
        (reads : IfSome source (λ bytes. Reads bytes after room_before room n)) where
      read : Reads reached.read.rest after room_before room n
      read =
          subst (λ (o : Option (List ℕ)). IfSome o (λ bytes. Reads bytes after room_before room n)) reached.read.left
          reads

      -- the source ended
      source_ended : (limit : ℕ) → total ≤ limit → n ≡ 0 → 0 < length room_before
          → Ends serves before most input after limit (record { server = server; progress = new }) kept Source
      source_ended limit within zero some =
          let none_left : reached.read.rest ≡ [] = read.end zero some in
          let all : reached.given ≡ input =
          sym (append-nil reached.given) ∙ ap (λ (l : List ℕ). reached.given ++ l) (sym none_left)
          ∙ reached_whole reached in
          let ended : after ≡ Some [] =
          read.rest ∙ ap (λ k. Some (drop k reached.read.rest)) zero ∙ ap Some none_left in (
            omega (arith, reached.count, ap length all),
            record {
              out = record { given = input; rest = []; whole = append-nil input; left = ended; enough = inl refl };
              first = ready.effects;
              read = record {
                earlier = reached.given;
                piece = [];
                rest = [];
                whole = append-nil (reached.given ++ []) ∙ append-nil reached.given ∙ all;
                left = ended;
                few = omega arith;
                reached = server;
                each = ready.each;
              };
              served = subst
                  (λ (l : List ℕ). HasServed serves before ready.effects l (record { server = server; progress = new }) kept)
                  all ready_first;
            },
          )

      -- it gave a piece
      pub piece_read : n ≤ most → Reaches serves before most input after total (take n room)
          (record { server = server; progress = new }) kept
      piece_read fits = record {
        first = ready.effects;
        read = record {
          earlier = reached.given;
          piece = take n room;
          rest = drop n reached.read.rest;
          whole = append_assoc reached.given (take n room) (drop n reached.read.rest)
              ∙ ap (λ (l : List ℕ). reached.given ++ (l ++ drop n reached.read.rest)) read.front
              ∙ ap (λ (l : List ℕ). reached.given ++ l) (take-append-drop n reached.read.rest) ∙ reached_whole reached;
          left = read.rest;
          few = omega (arith, length-take n room);
          reached = server;
          each = ready.each;
        };
        given = reached.given;
        behind = refl;
        ahead = omega arith;
        count = reached.count;
        served = ready_first;
      }

  -- the reading ended
  piece_ends : (end : End) (after : Option (List ℕ)) (room_before room : List ℕ) (limit : ℕ) → total ≤ limit
      → 0 < length room_before → NextPiece old new source after room_before room (Err end)
      → Ends serves before most input after limit (record { server = server; progress = new }) kept end
  piece_ends Source after room_before room limit within some next =
      source_ended next.0 after room_before room 0 next.1 limit within refl some
  piece_ends TooLong after room_before room limit within some next = absurd next
  piece_ends SourceFailed after room_before room limit within some next =
      source_failed next.0 after limit within next.1
  piece_ends SinkFailed after room_before room limit within some next = flush_failed after limit within next.1 next.0
  piece_ends HostFailed after room_before room limit within some next = absurd next

-- the same where the source tells what is left of it
pub told_ends : {L : Type 0} (serves : List ℕ → L → L → LineReply → Type 0) (told : Option (List ℕ)) (before : Trace L)
    (most : ℕ) (source after : Option (List ℕ)) (total : ℕ) (server : L) (old new : Progress) (kept : List ℕ) (end : End)
    (room_before room : List ℕ) (limit : ℕ) → total ≤ limit → 0 < length room_before
    → NextPiece old new source after room_before room (Err end)
    → IfSome told (λ input. Reaches serves before most input source total [] (record { server = server; progress = old }) kept)
    → IfSome told (λ input. Ends serves before most input after limit (record { server = server; progress = new }) kept end)
told_ends serves None before most source after total server old new kept end room_before room limit within some next reached = tt
told_ends serves (Some input) before most source after total server old new kept end room_before room limit within some next reached =
    piece_ends reached new end after room_before room limit within some next

-- a front of the piece that was read was to be fed
module _ {L : Type 0} {serves : List ℕ → L → L → LineReply → Type 0} {before : Trace L} {most : ℕ} {input : List ℕ}
    {left : Option (List ℕ)} {total : ℕ} {old : BatchState L} {kept piece : List ℕ}
    (reached : Reaches serves before most input left total piece old kept) (k : ℕ) {fed : List ℕ}
    (front : fed ≡ take k piece) where
  abbrev beyond : List ℕ
  beyond = drop k piece

  parts : fed ++ beyond ≡ piece
  parts = ap (λ (l : List ℕ). l ++ beyond) front ∙ take-append-drop k piece

  long : length fed + length beyond ≡ length piece
  long = sym (length-append fed beyond) ∙ ap length parts

  whole : (reached.given ++ fed) ++ (beyond ++ reached.read.rest) ≡ input
  whole =
      append_assoc reached.given fed (beyond ++ reached.read.rest)
      ∙ ap (λ (l : List ℕ). reached.given ++ l) (sym (append_assoc fed beyond reached.read.rest))
      ∙ ap (λ (l : List ℕ). reached.given ++ (l ++ reached.read.rest)) parts ∙ reached_whole reached

  -- all of it was fed
  pub reached_more : {count : ℕ} {now : BatchState L} {last : List ℕ} → count ≡ total + length fed
      → length piece ≤ length fed → HasServed serves before reached.first (reached.given ++ fed) now last
      → Reaches serves before most input left count [] now last
  reached_more count all served =
      let none : beyond ≡ [] = nil_from_length beyond (omega (arith, long)) in
      let same : piece ≡ fed = sym parts ∙ ap (λ (l : List ℕ). fed ++ l) none ∙ append-nil fed in
      record {
        first = reached.first;
        read = reached.read;
        given = reached.given ++ fed;
        behind = reached.behind ∙ ap (λ (l : List ℕ). reached.given ++ l) same
            ∙ sym (append-nil (reached.given ++ fed));
        ahead = omega (arith, reached.ahead, length-append reached.given fed);
        count = omega (arith, reached.count, length-append reached.given fed);
        served = served;
      }

  -- as much was fed as the limit allows, and there is more
  pub too_long : {limit : ℕ} {now : BatchState L} {last : List ℕ} → total + length fed ≡ limit
      → length fed < length piece → HasServed serves before reached.first (reached.given ++ fed) now last
      → Ends serves before most input left limit now last TooLong
  too_long {limit = limit} {now = now} {last = last} full more served =
      let given : List ℕ = reached.given ++ fed in
      let behind : List ℕ = beyond ++ reached.read.rest in
      let count : length given ≡ limit = omega (arith, reached.count, length-append reached.given fed) in
      let all : given ≡ take limit input =
      sym (take-append_seam given behind) ∙ ap (λ n. take n (given ++ behind)) count ∙ ap (take limit) whole in
      let read = reached.read in
      let sum : length (read.earlier ++ read.piece) ≡ total + length piece =
      ap length reached.behind ∙ length-append reached.given piece
      ∙ ap (λ n. n + length piece) (sym reached.count) in (
        omega (arith, long, count, length-append given behind, length-append beyond reached.read.rest, ap length whole),
        record {
          out = record {
            given = read.earlier ++ read.piece;
            rest = read.rest;
            whole = read.whole;
            left = read.left;
            enough = inr (
              omega (arith, sum),
              omega (arith, reached.ahead, reached.count, read.few, length-append read.earlier read.piece),
            );
          };
          first = reached.first;
          read = reached.read;
          served = subst (λ (l : List ℕ). HasServed serves before reached.first l now last) all served;
        },
      )

  -- what ended in a part of it is within the limit
  part_within : (limit : ℕ) (part : List ℕ) → total + length fed ≤ limit → IsPrefix part fed
      → IsPrefix (reached.given ++ part) (take limit input)
  part_within limit part within is =
      front_trans (reached.given ++ part) (reached.given ++ fed) (take limit input)
      (front_after reached.given part fed is)
      (front_within limit (reached.given ++ fed) (beyond ++ reached.read.rest) input whole
      (omega (arith, reached.count, length-append reached.given fed)))

  -- the sink failed
  pub sink_failed : {limit : ℕ} {now : BatchState L} → total + length fed ≤ limit
      → (part : List ℕ) × IsPrefix part fed
      × IsBrokenOff serves before reached.first (ended_lines (reached.given ++ part)) [] now
      → IsCutAt serves before most input left limit now
  sink_failed {limit = limit} within cut = record {
    part = reached.given ++ cut.0;
    front = part_within limit cut.0 within cut.1;
    first = reached.first;
    read = reached.read;
    cut = cut.2;
  }

  -- the server failed
  pub server_failed : {limit : ℕ} {now : BatchState L} → total + length fed ≤ limit
      → (part : List ℕ) × IsPrefix part fed
      × HasFailed serves before reached.first (ended_lines (reached.given ++ part)) now
      → IsLostAt serves before most input left limit now
  server_failed {limit = limit} within lost = record {
    part = reached.given ++ lost.0;
    front = part_within limit lost.0 within lost.1;
    first = reached.first;
    read = reached.read;
    lost = lost.2;
  }
