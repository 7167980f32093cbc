-- A line that is too long is told by its front.
use Rattle.std.proofs.Common.{◌<◌, ◌≤◌, ◌==◌, ◌+◌, ◌-◌, ◌⊎◌, inl, inr, ℕ, Bool, true, false, cond, List, length}
use Rattle.std.proofs.Common.{get_or, take, drop, subst, arith, length-take, take-append-drop}
use Rattle.std.proofs.lemmas.Bool.{cases_lt}
use Rattle.std.proofs.lemmas.List.{take_all}
use Rattle.std.specs.Str.Lines.{strip_carriage_return}
use Rattle.http_wire.specs.SinkFronts.{IsPrefix}
use Rattle.http_wire.proofs.FrontLemmas.{front_of_self, front_trans}
use Rattle.batch_lines.specs.ServedLines.{LineReply, LineEffect, IsLineServed, AreToldByFronts}
use Rattle.batch_lines.specs.Feeding.{line_room}
use Rattle.batch_lines.proofs.PrefixLemmas.{taken_front, front_within}

choose : (P : List ℕ → Type 0) (b : Bool) (x y : List ℕ) → P x → P y → P (cond b x y)
choose P true x y p q = p
choose P false x y p q = q

stripped_front : (x : List ℕ) → IsPrefix (strip_carriage_return x) x
stripped_front x =
    choose (λ y. IsPrefix y x) (get_or x (length x - 1) 0 == 13) (take (length x - 1) x) x (taken_front (length x - 1) x)
    (front_of_self x)

stripped_long : (x : List ℕ) → 65536 + 1 < length x → 65536 < length (strip_carriage_return x)
stripped_long x long =
    choose (λ y. 65536 < length y) (get_or x (length x - 1) 0 == 13) (take (length x - 1) x) x
    (omega (arith, length-take (length x - 1) x)) (omega arith)

-- a front that leaves a byte out is one without the carriage return at the end too
front_stripped : (n : ℕ) (x : List ℕ) → n < length x → IsPrefix (take n x) (strip_carriage_return x)
front_stripped n x less =
    choose (λ y. IsPrefix (take n x) y) (get_or x (length x - 1) 0 == 13) (take (length x - 1) x) x
    (front_within (length x - 1) (take n x) (drop n x) x (take-append-drop n x) (omega (arith, length-take n x)))
    (taken_front n x)

short_or_long : (line : List ℕ) → (length line ≤ line_room) ⊎ (line_room < length line)
short_or_long line = elim (cases_lt line_room (length line)) [ inl long ↦ inr long | inr short ↦ inl short ]

module _ {L : Type 0} (serves : List ℕ → L → L → LineReply → Type 0) (told : AreToldByFronts serves) where
  served_front : (front line : List ℕ) (old : L) (effect : LineEffect) (now : L) → 65536 < length front
      → IsPrefix front line → IsLineServed serves front old effect now → IsLineServed serves line old effect now
  served_front front line old effect now long is served = record {
    reply = served.reply;
    gives = told front line old now served.reply long is served.gives;
    comes = served.comes;
  }

  -- a line comes to what is kept of it comes to, without the carriage return at their ends
  pub served_ended : (line : List ℕ) (old : L) (effect : LineEffect) (now : L)
      → IsLineServed serves (strip_carriage_return (take line_room line)) old effect now
      → IsLineServed serves (strip_carriage_return line) old effect now
  served_ended line old effect now served =
      elim (short_or_long line) [
        | inl short ↦
            subst (λ (l : List ℕ). IsLineServed serves (strip_carriage_return l) old effect now)
            (take_all line_room line short) served
        | inr long ↦
            let kept : List ℕ = take line_room line in
            served_front (strip_carriage_return kept) (strip_carriage_return line) old effect now
            (stripped_long kept (omega (arith, length-take line_room line)))
            (front_trans (strip_carriage_return kept) kept (strip_carriage_return line) (stripped_front kept)
            (front_stripped line_room line long))
            served
      ]

  -- and so does the last line
  pub served_last : (line : List ℕ) (old : L) (effect : LineEffect) (now : L)
      → IsLineServed serves (take line_room line) old effect now → IsLineServed serves line old effect now
  served_last line old effect now served =
      elim (short_or_long line) [
        | inl short ↦
            subst (λ (l : List ℕ). IsLineServed serves l old effect now) (take_all line_room line short) served
        | inr long ↦
            served_front (take line_room line) line old effect now (omega (arith, length-take line_room line))
            (taken_front line_room line) served
      ]
