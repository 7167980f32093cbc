-- The limits of calls, from the tests of their parts.
use Rattle.std.proofs.Common.{◌≡◌, ◌+◌, ℕ, Bool, true, false, List, ◌++◌, length, Ok, refl, arith, length-append}
use Rattle.std.specs.Prelude.{codes, is_none, not}
use Rattle.lake_base.specs.Names.{is_like_id, ref_fault}
use Rattle.lake_calls.specs.Calls.{merge_message}
use Rattle.api_routes.specs.FormNames.{checked, new_ref_name_of}
use Rattle.api_routes.specs.FormSteps.{in_turn}

-- how long the message of a merge without one is
pub merge_message_length : (source branch : List ℕ) → length (merge_message source branch) ≡ 16 + (length source + length branch)
merge_message_length source branch =
    let one = length-append ((source ++ codes "' into '") ++ branch) (codes "'") in
    let two = length-append (source ++ codes "' into '") branch in
    let three = length-append source (codes "' into '") in
    omega (arith, one, two, three)

-- a new name couldn't be taken for a commit's id
pub like_no_id : (name bytes found : List ℕ) → new_ref_name_of name bytes ≡ Ok found → is_like_id found ≡ false
like_no_id name bytes found e = named (is_none (ref_fault bytes)) e
  where
    told : (like : Bool) → is_like_id bytes ≡ like → checked (not like) name bytes ≡ Ok found → is_like_id found ≡ false
    told true same e = absurd cc
    told false same e = cc

    named : (valid : Bool) → in_turn (checked valid name bytes) (λ x. checked (not (is_like_id x)) name x) ≡ Ok found → is_like_id found ≡ false
    named true e = told (is_like_id bytes) refl e
    named false e = absurd cc
