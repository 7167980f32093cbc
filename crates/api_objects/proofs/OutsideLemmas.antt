-- The limits of an object outside, from the tests of its parts.
use Rattle.std.proofs.Common.{◌≡◌, ◌≤◌, ℕ, true, eqb, ltb, List, length}
use Rattle.std.specs.Prelude.{codes, not, nat_eq}
use Rattle.std.specs.List.{starts_with}
use Rattle.std.proofs.lemmas.Bool.{ltb-false, not-true}
use Rattle.lake_values.specs.Entry.{IsOutside}
use Rattle.api_bodies.proofs.LimitLemmas.{parts, some_of}
use Rattle.api_objects.specs.ObjectForms.{is_address}

-- an address outside and a checksum are within the limits
pub is_outside : (address checksum : List ℕ) → is_address address ≡ true → length checksum ≤ 128 → IsOutside address checksum
is_outside address checksum test short_checksum =
    let p = parts (eqb (length address) 0) (ltb 2048 (length address)) (not (starts_with nat_eq address (codes "lake://"))) test in
    record {
      some = some_of (length address) p.0;
      short = ltb-false 2048 (length address) p.1;
      foreign = not-true (starts_with nat_eq address (codes "lake://")) p.2;
      short_checksum = short_checksum;
    }
