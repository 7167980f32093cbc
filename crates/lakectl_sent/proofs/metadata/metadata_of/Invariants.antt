-- The object so far, and the pieces that are left.
use Rattle.std.proofs.Common.{◌≡◌, ◌==◌, length}
use denote.Shadow.{shadow}
use denote.Text.{Utf8}
use Rattle.std.specs.List.{slice_split}
use Rattle.lakectl_sent.specs.OptionValues.{with_pieces, metadata_of}
use Rattle.lakectl_sent.specs.OptionViews.{map_seen}
use Rattle.lakectl_sent.proofs.metadata.metadata_of.Given as goal

abbrev pub invariant-loop-piece : goal.invariant-loop-piece
invariant-loop-piece l = record {
  text : shadow (Utf8 l.rest);
  pieces : with_pieces (map_seen l.object) (slice_split (λ byte. byte == 44) l.rest) ≡ metadata_of l.fn.text;
}

abbrev pub decreases-loop-piece : goal.decreases-loop-piece
decreases-loop-piece l = length l.rest
