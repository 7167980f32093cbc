-- How a body comes.
use Rattle.std.proofs.Common.{◌≡◌, ◌≤◌, ◌<◌, ◌+◌, ℕ, zero, suc, List, [], ◌∷◌, ◌++◌, length, take, drop, Option, Ok, Err, IfSome, refl, sym, ap}
use Rattle.std.proofs.Common.{subst, ◌∙◌, arith}
use Rattle.std.proofs.lemmas.List.{append-nil, length-drop, length-take-le, take-append-drop, take-append-le, take_all, take-take, drop_all}
use Rattle.std.specs.Prelude.{Vec}
use Rattle.std.specs.Global.{Global}
use Rattle.lake_base.specs.Outside.{Reads}
use Rattle.http_wire.specs.declared.fault.WireFault.TheVariants.{Truncated, ReadFault, NoMemory}
use Rattle.http_wire.specs.BodyReading.{IsBodyFault, IsBodyRead, IsBodyAnswer, IsRestRead, IsRestAnswer, Came}
use Rattle.http_wire.proofs.ReadingLemmas.{gave_on, gave_still, gave_as, gave_none}

-- what came stays while room is made
pub kept_longer : (xs more : List ℕ) (came n : ℕ) → came ≤ length xs → came ≤ n → take came (take n xs ++ more) ≡ take came xs
kept_longer xs more came n within room =
    take-append-le came (take n xs) more (took came n xs within room) ∙ take-take came n xs room
  where
    took : (came n : ℕ) (xs : List ℕ) → came ≤ length xs → came ≤ n → came ≤ length (take n xs)
    took zero n xs h k = omega arith
    took (suc c) zero xs h k = absurd (omega (arith, k))
    took (suc c) (suc n) [] h k = absurd (omega (arith, h))
    took (suc c) (suc n) (x ∷ xs) h k = omega (arith, took c n xs (omega (arith, h)) (omega (arith, k)))

take_nil : (n : ℕ) → take {A = ℕ} n [] ≡ []
take_nil zero = refl
take_nil (suc n) = refl

take_more_of : (a b : ℕ) (xs : List ℕ) → take (a + b) xs ≡ take a xs ++ take b (drop a xs)
take_more_of zero b xs = ap (λ (i : ℕ). take i xs) (let e : 0 + b ≡ b = omega arith in e)
take_more_of (suc a) b [] = take_nil (suc a + b) ∙ sym (take_nil b)
take_more_of (suc a) b (x ∷ xs) = let e : suc a + b ≡ suc (a + b) = omega arith in ap (λ (i : ℕ). take i (x ∷ xs)) e ∙ ap (λ (l : List ℕ). x ∷ l)
    (take_more_of a b xs)

pub came_start : (items : List ℕ) (came : ℕ) (o : Option (List ℕ)) → length items ≡ came → IfSome o (λ left. Came items left items came o)
came_start items came o is = gave_none items (λ given rest. take came items ≡ given) o (λ rest. take_all came items (omega (arith, is)))

module _ (before had room : List ℕ) (came : ℕ) (now : Option (List ℕ)) (was : Came before had room came now) where
  abbrev InRoom : (given rest : List ℕ) → Type 0
  InRoom given rest = take came room ≡ given

  -- all of it came
  pub came_all : (head size : ℕ) → length room ≡ size → size ≤ came → IsRestAnswer before had head size room now (Ok tt)
  came_all head size long all =
      gave_as before had InRoom (λ given rest. IsRestRead given rest head size room (Ok tt)) now was
      (λ given rest is. record { whole = append-nil room ∙ sym (take_all came room (omega (arith, long, all))) ∙ is; long = long })

  module _ (d : List ℕ) (same : take came d ≡ take came room) (within : came ≤ length d) where
    came_length : (given : List ℕ) → take came room ≡ given → length given ≡ came
    came_length given is = ap length (sym is) ∙ ap length (sym same) ∙ length-take-le came d within

    -- the source failed
    pub came_fault : (head size : ℕ) (after : Option (List ℕ)) → came < size → after ≡ now
        → IsRestAnswer before had head size d after (Err ReadFault)
    unfolding IsBodyFault
    came_fault head size after less failed =
        gave_still before had InRoom (λ given rest. IsBodyFault given rest head size ReadFault) now was after failed
        (λ given rest is. omega (arith, less, came_length given is))

    module _ (after room_after : List ℕ) (then : Option (List ℕ)) (n : ℕ) (reads : IfSome now (λ left. Reads left then (drop came d)
        (drop came after) n)) where
      read_at : Reads was.rest then (drop came d) (drop came after) n
      read_at = subst (λ (o : Option (List ℕ)). IfSome o (λ left. Reads left then (drop came d) (drop came after) n)) was.left_is reads

      -- more came
      pub came_more : take came after ≡ take came d → room_after ≡ after → Came before had room_after (came + n) then
      came_more front is =
          gave_on before had InRoom (λ given rest. take (came + n) room_after ≡ given) now was (take n was.rest) (drop n was.rest) then
          (take-append-drop n was.rest) read_at.rest
          (ap (take (came + n)) is ∙ take_more_of came n after
          ∙ ap (λ (l : List ℕ). l ++ take n (drop came after)) (front ∙ same ∙ was.read)
          ∙ ap (λ (l : List ℕ). (before ++ was.more) ++ l) read_at.front)

      -- nothing was left
      pub came_end : (head size : ℕ) (body : List ℕ) → came < size → came < length d → n ≡ 0
          → IsRestAnswer before had head size body then (Err (Truncated (head + came)))
      unfolding IsBodyFault
      came_end head size body less room_left none =
          let none_left : drop n was.rest ≡ was.rest = ap (λ (i : ℕ). drop i was.rest) none in
          let long : length ((before ++ was.more) ++ []) ≡ came = came_length ((before ++ was.more) ++ [])
          (was.read ∙ sym (append-nil (before ++ was.more))) in
          gave_on before had InRoom (λ given rest. IsBodyFault given rest head size (Truncated (head + came))) now was [] (drop n was.rest) then none_left
          read_at.rest (
            omega (arith, long, less),
            ap (λ (i : ℕ). head + i) (sym long),
            none_left ∙ read_at.end none (omega (arith, room_left, length-drop came d)),
          )

-- want of memory is free
pub no_memory : (given rest : List ℕ) (head size : ℕ) → IsBodyFault given rest head size NoMemory
unfolding IsBodyFault
no_memory given rest head size = tt

-- no memory was left for more room
pub came_no_memory : (before had room : List ℕ) (came : ℕ) (now : Option (List ℕ)) → Came before had room came now → (head size : ℕ) (body : List ℕ)
    → IsRestAnswer before had head size body now (Err NoMemory)
came_no_memory before had room came now was head size body =
    gave_as before had (λ given rest. take came room ≡ given) (λ given rest. IsBodyFault given rest head size NoMemory) now was
    (λ given rest is. no_memory given rest head size)

-- none was left for what is held
pub held_no_memory : (buffer held : List ℕ) (head size : ℕ) (o : Option (List ℕ)) → IfSome o (λ left. IsBodyAnswer buffer left head size held o (Err NoMemory))
held_no_memory buffer held head size o =
    gave_none buffer (λ given rest. IsBodyFault given rest head size NoMemory) o (λ rest. no_memory buffer rest head size)

-- what is held has the whole body
pub held_body : (buffer held : List ℕ) (body : Vec ℕ Global) (head size : ℕ) (o : Option (List ℕ)) → size ≤ length buffer → body.items ≡ take size buffer
    → held ≡ drop size buffer → IfSome o (λ left. IsBodyAnswer buffer left head size held o (Ok body))
held_body buffer held body head size o h is behind =
    gave_none buffer (λ given rest. IsBodyRead given rest head size held (Ok body)) o
    (λ rest. record {
      whole = ap (λ (l : List ℕ). l ++ held) is ∙ ap (λ (l : List ℕ). take size buffer ++ l) behind ∙ take-append-drop size buffer;
      long = ap length is ∙ length-take-le size buffer h;
    })

-- all that is held is a part of the body
pub all_taken : (buffer body : List ℕ) → body ≡ take (length buffer) buffer → body ≡ buffer
all_taken buffer body is = is ∙ take_all (length buffer) buffer (omega arith)

pub none_held : (buffer held : List ℕ) → held ≡ drop (length buffer) buffer → held ≡ []
none_held buffer held is = is ∙ drop_all (length buffer) buffer (omega arith)
