use Rattle.std.proofs.Common.{◌≡◌, ℕ, List, Option, None, Result, Ok, ap, subst, ◌∙◌}
use Rattle.std.specs.Prelude.{is_none}
use Rattle.hex.specs.Hex.{encode_lower, decode_of}
use Rattle.hex.specs.declared.error.FromHexError.{FromHexError}
use Rattle.lake_base.specs.Names.{digest_fault}
use Rattle.lake_base.specs.declared.digest.Digest.{Digest}
use Rattle.lake_calls.specs.declared.reply.FormRefusal.{FormRefusal}
use Rattle.api_routes.specs.FormNames.{bytes_in, hex_bytes, checked, digest_of}
use Rattle.api_routes.proofs.names.as_digest.Goals as goal

abbrev made : List ℕ → Digest
made bytes = record { 0 = bytes }

abbrev id_of : List ℕ → Result Digest FormRefusal
id_of bytes = Ok (made bytes)

digest_is : (name text : List ℕ) (id : Digest) → digest_fault text ≡ None → text ≡ encode_lower id.0 → decode_of (encode_lower id.0) ≡ Ok id.0
    → digest_of name text ≡ Ok id
digest_is name text id none same digits =
    ap (λ (o : Option ℕ). checked (is_none o) name (made (hex_bytes text))) none
    ∙ ap (λ (t : List ℕ). id_of (hex_bytes t)) same
    ∙ ap (λ (r : Result (List ℕ) FromHexError). id_of (bytes_in r)) digits

pub returns-in-Ok : goal.returns-in-Ok
returns-in-Ok c =
    let digits = subst (λ (t : List ℕ). decode_of (encode_lower t) ≡ Ok t) c.as_slice.ensures c.law_of_digits.ensures in
    digest_is c.args.name.now c.args.text.now c.in-Ok.id c.in-Ok.ensures.0 c.in-Ok.ensures.1 digits
