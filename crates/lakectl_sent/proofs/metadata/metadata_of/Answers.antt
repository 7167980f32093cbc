use Rattle.std.proofs.Common.{ap, sym, ◌∙◌, rules}
use Rattle.std.specs.Option.{option_map}
use Rattle.lakectl_sent.specs.OptionViews.{map_seen}
use Rattle.lakectl_sent.proofs.MetadataLemmas.{split_some, piece_step, piece_bad, piece_last}
use Rattle.lakectl_sent.proofs.metadata.metadata_of.Goals as goal

pub loop-piece-preserved : goal.loop-piece-preserved
loop-piece-preserved c = record {
  text = search rules;
  pieces = piece_step (map_seen c.loop-piece.object) (map_seen c.in-Some-2.next) c.loop-piece.rest.now c.in-Some.piece.now c.in-Some.behind.now _
      (sym c.in-Some.ensures)
      (sym c.in_ok-next.ensures ∙ ap (option_map map_seen) c.in-Some-2.is) c.loop-piece.invariant.pieces;
}

pub returns-in_default-2 : goal.returns-in_default-2
returns-in_default-2 c =
    piece_bad (map_seen c.loop-piece.object) c.loop-piece.rest.now c.in-Some.piece.now c.in-Some.behind.now _ (sym c.in-Some.ensures)
    (sym c.in_ok-next.ensures ∙ ap (option_map map_seen) c.in_default-2.is) c.loop-piece.invariant.pieces

pub loop-piece-smaller : goal.loop-piece-smaller
loop-piece-smaller c = (split_some c.loop-piece.rest.now c.in-Some.piece.now c.in-Some.behind.now (sym c.in-Some.ensures)).1

pub returns : goal.returns
returns c = c.in_ok-last.ensures ∙ piece_last (map_seen c.loop-piece.object) c.loop-piece.rest.now _ (sym c.in_default.ensures) c.loop-piece.invariant.pieces
