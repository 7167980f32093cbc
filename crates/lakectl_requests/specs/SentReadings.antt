-- What the text of a request reads as that a line of words sends.
use Rattle.std.specs.Prelude.{◌≡◌, ℕ, nat_lt, if◌then◌else◌, List, ◌++◌, length, Option, Some, Result, Ok, Err, ⊤}
use Rattle.httparse.specs.Grammar.{AllPass, is_value_byte, trim_ows}
use Rattle.http_wire.specs.declared.message.Request.{Request}
use Rattle.http_wire.specs.declared.fault.WireFault.{WireFault}
use Rattle.http_wire.specs.declared.fault.WireFault.TheVariants.{Ended, Truncated, HeadTooLong, BadHead, Chunked, BadLength, BodyTooLong, ReadFault, NoMemory}
use Rattle.lakectl_words.specs.WireRequests.{head_text}

-- a field's value that reads as it is written: no control byte but the tab, and no space or tab at its front or its end
pub record IsFieldValue (value : List ℕ) : Type 0 where
  pub bytes : AllPass is_value_byte value
  pub ends : trim_ows value ≡ value

-- What the text of a request reads as, with these bytes behind it: as the request, and they are left; or its head has more than 16,384
-- bytes, or its body more than 67,108,864
abbrev pub read_back : Request → (rest : List ℕ) → Result (Request × List ℕ) WireFault
read_back request rest =
    if nat_lt 16384 (length (head_text request)) then Err HeadTooLong
    else if nat_lt 67108864 (length request.body) then Err (BodyTooLong (length request.body))
    else Ok (request, rest)

-- What a call answers that reads this text and the bytes behind it: the same, and the bytes behind it are held and left; or the source
-- failed, or there was no memory.
abbrev pub IsSentAnswer : Request → (rest : List ℕ) → Result Request WireFault → (held : List ℕ) → (left : Option (List ℕ)) → Type 0
IsSentAnswer request rest (Ok read) held left = (more : List ℕ) × (left ≡ Some more) × (read_back request rest ≡ Ok (read, held ++ more))
IsSentAnswer request rest (Err ReadFault) held left = ⊤
IsSentAnswer request rest (Err NoMemory) held left = ⊤
IsSentAnswer request rest (Err Ended) held left = ⊥
IsSentAnswer request rest (Err (Truncated n)) held left = ⊥
IsSentAnswer request rest (Err BadHead) held left = ⊥
IsSentAnswer request rest (Err Chunked) held left = ⊥
IsSentAnswer request rest (Err BadLength) held left = ⊥
IsSentAnswer request rest (Err HeadTooLong) held left = read_back request rest ≡ Err HeadTooLong
IsSentAnswer request rest (Err (BodyTooLong n)) held left = read_back request rest ≡ Err (BodyTooLong n)
