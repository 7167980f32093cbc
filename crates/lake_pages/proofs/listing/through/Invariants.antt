use Rattle.std.proofs.Common.{◌≡◌, ◌++◌, take, drop}
use Rattle.std.specs.Option.{option_map}
use Rattle.lake_pages.specs.Listing.{front_through}
use Rattle.lake_pages.proofs.listing.through.Given as goal

-- no delimiter stands before this place
abbrev pub invariant-loop-at : goal.invariant-loop-at
invariant-loop-at l = front_through l.delimiter l.bytes ≡ option_map (λ front. take l.at l.bytes ++ front) (front_through l.delimiter (drop l.at l.bytes))
