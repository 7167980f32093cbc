-- What was read of the bytes that a source gave.
use Rattle.std.proofs.Common.{◌≡◌, List, ◌++◌, ℕ, Option, Some, None, IfSome, Ok, Err, refl}
use Rattle.httparse.specs.Grammar.{RequestHead}
use Rattle.http_wire.specs.Filling.{Gave}
use Rattle.http_wire.specs.Messages.{IsReadOf, IsRequestHeadOf, fields_of, request_of}
use Rattle.http_wire.specs.declared.fault.WireFault.{WireFault}
use Rattle.http_wire.specs.declared.fault.WireFault.TheVariants.{NoMemory}
use Rattle.http_wire.specs.declared.message.Request.{Request}
use Rattle.lake_session.specs.SessionViews.{TakesRequest}

-- a request was read, and no memory is left to report it
pub taken_in_vain : (held held_now : List ℕ) (unread unread_now : Option (List ℕ)) (request : Request)
    → TakesRequest held held_now unread unread_now (Ok request) → TakesRequest held held_now unread unread_now (Err NoMemory)
unfolding IsReadOf
taken_in_vain held held_now None unread_now request takes = tt
taken_in_vain held held_now (Some had) unread_now request takes =
    record { more = takes.more; rest = takes.rest; gave = takes.gave; left_is = takes.left_is; read = tt }

-- so bytes read as a fault
abbrev pub ReadsFault : WireFault → (held_now : List ℕ) → (given left : List ℕ) → Type 0
ReadsFault fault held_now given left =
    IsReadOf IsRequestHeadOf (λ (head : RequestHead). fields_of head.fields) request_of (Some 67108864) given (Err fault) held_now left

module _ (held held_now : List ℕ) (unread_now : Option (List ℕ)) (fault : WireFault) where
  -- the bytes that stand behind the requests then
  abbrev pub behind : (unread : Option (List ℕ)) → TakesRequest held held_now unread unread_now (Err fault) → Option (List ℕ)
  behind None takes = None
  behind (Some had) takes = Some (held ++ takes.more)

  -- what their fault says of them and of what is left
  pub left_behind : (Q : (given left : List ℕ) → Type 0) → ((given left : List ℕ) → ReadsFault fault held_now given left → Q given left)
      → (unread : Option (List ℕ)) (takes : TakesRequest held held_now unread unread_now (Err fault))
      → IfSome unread (λ had. Gave held had unread_now (λ given left. (behind unread takes ≡ Some given) × Q given left))
  left_behind Q says None takes = tt
  left_behind Q says (Some had) takes = record {
    more = takes.more;
    rest = takes.rest;
    gave = takes.gave;
    left_is = takes.left_is;
    read = (refl, says (held ++ takes.more) takes.rest takes.read);
  }

  -- what it says of them alone
  pub given_behind : (Q : List ℕ → Type 0) → ((given left : List ℕ) → ReadsFault fault held_now given left → Q given)
      → (unread : Option (List ℕ)) (takes : TakesRequest held held_now unread unread_now (Err fault)) → IfSome (behind unread takes) Q
  given_behind Q says None takes = tt
  given_behind Q says (Some had) takes = says (held ++ takes.more) takes.rest takes.read
