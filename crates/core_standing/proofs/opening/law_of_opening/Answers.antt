use Rattle.std.proofs.Common.{refl}
use Rattle.core_standing.proofs.opening.law_of_opening.Goals as goal

pub returns : goal.returns
returns c l sound fresh below tokens counted index modulus = record {
  sound = sound;
  fresh_start = fresh;
  versions_below = below;
  legal = tt;
  replayed = refl;
  versions = c.law_of_versions.ensures l;
  tokens = tokens;
  counted = counted;
  index = index;
  modulus = modulus;
}
