-- What was written of what was to be written.
use Rattle.std.specs.Prelude.{◌≡◌, List, ℕ, ◌++◌, Option, Some, IfSome, flat_map}
use Rattle.std.specs.Borrow.{Bor}

-- the one is the beginning of the other
abbrev pub IsPrefix : List ℕ → List ℕ → Type 0
IsPrefix front whole = (rest : List ℕ) × (front ++ rest ≡ whole)

-- these bytes were written behind what was written before, where the sink tells that
abbrev pub Wrote : Option (List ℕ) → Option (List ℕ) → List ℕ → Type 0
Wrote before after bytes = IfSome before (λ written. after ≡ Some (written ++ bytes))

-- these bytes were written, and perhaps more behind them
abbrev pub WroteFirst : Option (List ℕ) → Option (List ℕ) → List ℕ → Type 0
WroteFirst before after bytes = (more : List ℕ) × Wrote before after (bytes ++ more)

-- a front of these bytes was written
pub record WroteFront (before after : Option (List ℕ)) (bytes : List ℕ) : Type 0 where
  pub out : List ℕ
  pub front : IsPrefix out bytes
  pub wrote : Wrote before after out

-- A text was shown: what was written now and what is pending still are what was pending before, and the text.
pub record Shows (before after : Option (List ℕ)) (pending text still : List ℕ) : Type 0 where
  pub out : List ℕ
  pub wrote : Wrote before after out
  pub whole : out ++ still ≡ pending ++ text

-- the bytes of the parts, one behind the other
abbrev pub joined : List (Bor (List ℕ)) → List ℕ
joined parts = flat_map (λ part. part.now) parts
