-- What lines come to that are served one after the other.
use Rattle.std.specs.Prelude.{◌≡◌, ◌<◌, ◌==◌, ℕ, Bool, true, false, List, [], ◌∷◌, ◌++◌, length, codes, Result, Ok, Err}
use Rattle.std.specs.List.{flat_map, list_all, list_any}
use Rattle.lake_base.specs.declared.outside.Trouble.{Trouble}
use Rattle.lake_base.specs.declared.outside.Trouble.TheVariants.{Failed, NoMemory}
use Rattle.lakectl_shown.specs.declared.showing.Shown.{Shown}
use Rattle.http_wire.specs.SinkFronts.{IsPrefix}

-- what is answered to a line: what is shown of it, that the server failed, or that no memory was left
abbrev pub LineReply : Type 0
LineReply = Result Shown Trouble

-- no memory was left
abbrev pub out_of_memory_text : List ℕ
out_of_memory_text = codes "Error: out of memory [507]" ++ 10 ∷ []

-- what a line came to: what it showed, whether it was done, whether memory ran out at it, and whether the server failed
pub record LineEffect : Type 0 where
  pub text : List ℕ
  pub done : Bool
  pub starved : Bool
  pub failed : Bool

-- WHAT A LINE COMES TO, by what is answered to it. Of what is shown the output comes before the errors; the status is 0
-- where the line was done, and 7 where memory ran out at it.
abbrev pub effect_of : LineReply → LineEffect
effect_of (Ok shown) =
    record { text = shown.out ++ shown.err; done = shown.status == 0; starved = shown.status == 7; failed = false }
effect_of (Err NoMemory) = record { text = out_of_memory_text; done = false; starved = true; failed = false }
effect_of (Err Failed) = record { text = []; done = false; starved = false; failed = true }

-- what they showed
abbrev pub text_of : List LineEffect → List ℕ
text_of effects = flat_map (λ effect. effect.text) effects

-- whether each was done
abbrev pub all_done : List LineEffect → Bool
all_done effects = list_all (λ effect. effect.done) effects

-- whether memory ran out at one of them
abbrev pub any_starved : List LineEffect → Bool
any_starved effects = list_any (λ effect. effect.starved) effects

-- whether the server failed at one of them
abbrev pub any_failed : List LineEffect → Bool
any_failed effects = list_any (λ effect. effect.failed) effects

-- What may be answered to a line, between what the server was and what it is then.
module _ {L : Type 0} (serves : List ℕ → L → L → LineReply → Type 0) where
  -- a line was served, and came to this
  pub record IsLineServed (line : List ℕ) (old : L) (effect : LineEffect) (now : L) : Type 0 where
    pub reply : LineReply
    pub gives : serves line old now reply
    pub comes : effect ≡ effect_of reply

  -- lines were served, each by what the server was after the one before
  abbrev pub AreServed : List (List ℕ) → L → List LineEffect → L → Type 0
  AreServed [] first [] last = last ≡ first
  AreServed [] first (effect ∷ effects) last = ⊥
  AreServed (line ∷ lines) first [] last = ⊥
  AreServed (line ∷ lines) first (effect ∷ effects) last =
      (next : L) × IsLineServed line first effect next × AreServed lines next effects last

  -- A line of more than 65,536 bytes is served as any front of it is that has more than so many.
  abbrev pub AreToldByFronts : Type 0
  AreToldByFronts = (front line : List ℕ) (old now : L) (reply : LineReply) → 65536 < length front → IsPrefix front line
      → serves front old now reply → serves line old now reply
