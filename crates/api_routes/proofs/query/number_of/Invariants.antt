use Rattle.std.proofs.Common.{◌≡◌, ◌≤◌, drop}
use Rattle.api_routes.specs.Queries.{number_in}
use Rattle.api_routes.proofs.query.number_of.Given as goal

-- the digits that are left go on with the number so far, which has no more digits than were read
abbrev pub invariant-loop-digit : goal.invariant-loop-digit
invariant-loop-digit l =
    (number_in l.number (drop l.digit-index l.digits) ≡ number_in 0 l.digits)
    × (l.digit-index ≤ 0 → l.number ≤ 0)
    × (l.digit-index ≤ 1 → l.number ≤ 9)
    × (l.digit-index ≤ 2 → l.number ≤ 99)
    × (l.digit-index ≤ 3 → l.number ≤ 999)
    × (l.digit-index ≤ 4 → l.number ≤ 9999)
