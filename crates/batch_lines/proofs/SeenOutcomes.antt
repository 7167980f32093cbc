-- What became of a batch, by what is seen of what served its lines.
use Rattle.std.proofs.Common.{ℕ, List, [], ◌∷◌, Option, ap}
use Rattle.batch_lines.specs.Lines.{ended_lines}
use Rattle.batch_lines.specs.Outcome.{EndsWith, Extent, IsReadTo, Outcome, Trace}
use Rattle.batch_lines.specs.ServedLines.{AreServed, IsLineServed, LineEffect, LineReply}
use Rattle.batch_lines.specs.declared.status.ExitStatus.{ExitStatus}
use Rattle.batch_lines.specs.declared.status.ExitStatus.TheVariants as exit

module _ {L M : Type 0} (serves : List ℕ → L → L → LineReply → Type 0) (seen : List ℕ → M → M → LineReply → Type 0) (view : L → M)
    (agree : (line : List ℕ) (old now : L) (reply : LineReply) → serves line old now reply → seen line (view old) (view now) reply) where
  line_seen : (line : List ℕ) (old now : L) (effect : LineEffect) → IsLineServed serves line old effect now
      → IsLineServed seen line (view old) effect (view now)
  line_seen line old now effect is = record { reply = is.reply; gives = agree line old now is.reply is.gives; comes = is.comes }

  pub lines_seen : (lines : List (List ℕ)) (first last : L) (effects : List LineEffect) → AreServed serves lines first effects last
      → AreServed seen lines (view first) effects (view last)
  lines_seen [] first last [] are = ap view are
  lines_seen [] first last (effect ∷ effects) are = absurd are
  lines_seen (line ∷ lines) first last [] are = absurd are
  lines_seen (line ∷ lines) first last (effect ∷ effects) (next, is, rest) =
      (view next, line_seen line first next effect is, lines_seen lines next last effects rest)

  -- what a batch changes, as it is seen
  abbrev trace_seen : Trace L → Trace M
  trace_seen trace = record { server = view trace.server; written = trace.written; faults = trace.faults }

  read_seen : (server : L) (most : ℕ) (input : List ℕ) (source : Option (List ℕ)) (first : List LineEffect)
      → IsReadTo serves server most input source first → IsReadTo seen (view server) most input source first
  read_seen server most input source first is = record {
    earlier = is.earlier;
    piece = is.piece;
    rest = is.rest;
    whole = is.whole;
    left = is.left;
    few = is.few;
    reached = view is.reached;
    each = lines_seen (ended_lines is.earlier) server is.reached first is.each;
  }

  module _ (limit most : ℕ) (before after : Trace L) (input : List ℕ) (source : Option (List ℕ)) where
    ends_seen : (extent : Extent) (status : ExitStatus) → EndsWith serves limit most before after input source extent status
        → EndsWith seen limit most (trace_seen before) (trace_seen after) input source extent status
    ends_seen extent exit.Done is = is
    ends_seen extent exit.Refused is = is
    ends_seen extent exit.Usage is = is
    ends_seen extent exit.SourceFailed is = is
    ends_seen extent exit.SinkFailed is = record {
      first = is.first;
      later = is.later;
      begun = is.begun;
      sound = is.sound;
      read = read_seen before.server most input source is.first is.read;
      early = is.early;
    }
    ends_seen extent exit.HostFailed is = record {
      first = is.first;
      later = is.later;
      last = is.last;
      begun = is.begun;
      sound = is.sound;
      failed = is.failed;
      read = read_seen before.server most input source is.first is.read;
      early = is.early;
      text = is.text;
    }
    ends_seen extent exit.PairsRefused is = is
    ends_seen extent exit.OutOfMemory is = is

    -- what became of it, as that is seen
    pub outcome_seen : (status : ExitStatus) → Outcome serves limit most before after input source status
        → Outcome seen limit most (trace_seen before) (trace_seen after) input source status
    outcome_seen status is = record {
      extent = is.extent;
      lines = is.lines;
      each = lines_seen is.extent.served before.server after.server is.extent.effects is.each;
      wrote = is.wrote;
      front = is.front;
      ended = ends_seen is.extent status is.ended;
    }
