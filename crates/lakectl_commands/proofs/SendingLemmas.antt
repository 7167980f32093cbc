-- What a command sends.
use Rattle.std.proofs.Common.{◌≡◌, ◌<◌, ◌^◌, ℕ, List, [], length, Option, Some, None, IfSome, option_map, Result, Ok, Err}
use Rattle.std.proofs.Common.{refl, sym, ap, ◌∙◌}
use Rattle.std.specs.FinMap.{get}
use Rattle.http_wire.specs.declared.message.Request.{Request}
use Rattle.lakectl_verbs.specs.declared.fault.UsageFault.{UsageFault}
use Rattle.lakectl_words.specs.WireRequests.{addressed, call_of, carrying}
use Rattle.lakectl_words.specs.declared.call.WireCall.{WireCall}
use Rattle.lakectl_commands.specs.HeldFiles.{HeldFiles}
use Rattle.lakectl_commands.specs.SentCommands.{IsSent, TellsContents}
use Rattle.lakectl_commands.specs.Sendings.{IsFilled}

-- ---- what files hold

-- the contents that are told, or else these bytes under each name
abbrev contents_of : Option HeldFiles → (bytes name : List ℕ) → Option (List ℕ)
contents_of None bytes name = Some bytes
contents_of (Some files) bytes name = get files name

tells_contents : (held : Option HeldFiles) (bytes : List ℕ) → TellsContents held (contents_of held bytes)
tells_contents None bytes = tt
tells_contents (Some files) bytes = λ name. refl

holds_read : (held : Option HeldFiles) (name bytes : List ℕ) → IfSome held (λ files. get files name ≡ Some bytes)
    → contents_of held bytes name ≡ Some bytes
holds_read None name bytes read = refl
holds_read (Some files) name bytes read = read

-- ---- what is sent

abbrev with_file : (List ℕ → Option (List ℕ)) → Request → Option (List ℕ) → Option Request
with_file contents request None = Some request
with_file contents request (Some name) = option_map (λ bytes. carrying bytes request) (contents name)

abbrev of_call : (host : List ℕ) → (List ℕ → Option (List ℕ)) → Result WireCall UsageFault → Option Request
of_call host contents (Err fault) = None
of_call host contents (Ok call) = option_map (addressed host) (with_file contents call.request call.body_file)

module _ (host : List ℕ) (words : List (List ℕ)) (held : Option HeldFiles) (call : WireCall) (request : Request) (called : call_of words ≡ Ok call)
    (short : length request.body < 10 ^ 19) where
  by_file : (file : Option (List ℕ)) → call.body_file ≡ file → IsFilled held file call.request (Ok request) → IsSent host words held (addressed host request)
  by_file None none filled = record {
    contents = contents_of held [];
    told = tells_contents held [];
    is = ap (of_call host (contents_of held [])) called
        ∙ ap (λ (file : Option (List ℕ)). option_map (addressed host) (with_file (contents_of held []) call.request file)) none
        ∙ ap (λ (r : Request). Some (addressed host r)) (sym filled);
    body = short;
  }
  by_file (Some name) some (bytes, filled, read) = record {
    contents = contents_of held bytes;
    told = tells_contents held bytes;
    is = ap (of_call host (contents_of held bytes)) called
        ∙ ap (λ (file : Option (List ℕ)). option_map (addressed host) (with_file (contents_of held bytes) call.request file)) some
        ∙ ap (λ (b : Option (List ℕ)). option_map (addressed host) (option_map (λ (c : List ℕ). carrying c call.request) b))
        (holds_read held name bytes read) ∙ ap (λ (r : Request). Some (addressed host r)) (sym filled);
    body = short;
  }

  -- A request with its file's bytes, addressed to the host, is what the words send.
  pub is_sent : IsFilled held call.body_file call.request (Ok request) → IsSent host words held (addressed host request)
  is_sent filled = by_file call.body_file refl filled
