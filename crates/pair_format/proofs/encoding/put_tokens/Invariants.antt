use Rattle.std.proofs.Common.{◌≡◌, ◌++◌, ◌<◌, ◌^◌, length, take}
use Rattle.std.specs.Int.{w32, w64, to_be_bytes}
use Rattle.std.specs.List.{flat_map, AllByRecursion}
use Rattle.pair_format.proofs.encoding.put_tokens.Given as goal

-- the tokens so far are written, each of 64 bits
abbrev pub invariant-loop-token : goal.invariant-loop-token
invariant-loop-token l = record {
  written : l.out.items ≡ l.fn.out.items ++ (to_be_bytes w32 (length l.tokens) ++ flat_map (to_be_bytes w64) (take l.token-index l.tokens));
  limits : AllByRecursion (λ token. token < 2 ^ 64) (take l.token-index l.tokens);
}
