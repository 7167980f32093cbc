use Rattle.std.proofs.Common.{◌≡◌}
use Rattle.test_clients.proofs.patient.PatientNetworkConnect.connect.Given as goal

-- no failure was counted yet
abbrev pub invariant-loop : goal.invariant-loop
invariant-loop g l = l.self.faults ≡ l.initial.self.faults
