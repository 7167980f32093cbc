use Rattle.plain_reference.proofs.SegmentsLemmas.{segments_whole, segments_ranges}
use Rattle.plain_reference.proofs.segments.law_of_segments.Goals as goal

pub returns-clause-whole : goal.returns-clause-whole
returns-clause-whole c = segments_whole

pub returns-clause-ranges : goal.returns-clause-ranges
returns-clause-ranges c = segments_ranges
