use Rattle.lake_format.proofs.ReadingLemmas.{entry_steady}
use Rattle.lake_format.proofs.encoding.law_of_reading.Goals as goal

pub returns : goal.returns
returns c = record {
  found = entry_steady.found;
  bad = entry_steady.bad;
  bad_place = entry_steady.bad_place;
  short_place = entry_steady.short_place;
  short = entry_steady.enough;
  most = entry_steady.takes;
}
