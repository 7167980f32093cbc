-- Parts are shown one behind the other.
use Rattle.std.proofs.Common.{◌≡◌, ◌<◌, ◌+◌, ℕ, List, Bor, [], ◌∷◌, ◌++◌, length, take, drop, get_or, Option, Result, Ok, Err, OnErr, sym, ap, subst, ◌∙◌}
use Rattle.std.proofs.lemmas.List.{append-nil, take_more, take-append-drop}
use Rattle.std.proofs.lemmas.List.Concat.{flat_map-append}
use Rattle.http_wire.specs.SinkFronts.{IsPrefix, Wrote, WroteFront, Shows, joined}
use Rattle.http_wire.proofs.FrontLemmas.{front_as, shows_cut, shows_then, front_trans}

abbrev bytes_of : Bor (List ℕ) → List ℕ
bytes_of part = part.now

-- whatever is said of a failure, where it holds
pub on_err_given : {T E : Type 0} {P : Type 0} (result : Result T E) → P → OnErr result P
on_err_given (Ok value) holds = tt
on_err_given (Err fault) holds = holds

-- nothing was shown yet
pub shows_none : (written : Option (List ℕ)) (pending : List ℕ) → Wrote written written [] → pending ≡ [] → Shows written written [] [] pending
shows_none written pending wrote none = record { out = []; wrote = wrote; whole = none }

module _ (parts : List (Bor (List ℕ))) (i : ℕ) where
  joined_front : IsPrefix (joined (take i parts)) (joined parts)
  joined_front = (joined (drop i parts), sym (flat_map-append bytes_of (take i parts) (drop i parts)) ∙ ap joined (take-append-drop i parts))

module _ (parts : List (Bor (List ℕ))) (i : ℕ) (d : Bor (List ℕ)) (inside : i < length parts) where
  -- one part more
  pub joined_more : joined (take (i + 1) parts) ≡ joined (take i parts) ++ (get_or parts i d).now
  joined_more =
      ap joined (take_more parts i d inside) ∙ flat_map-append bytes_of (take i parts) (get_or parts i d ∷ [])
      ∙ ap (λ (l : List ℕ). joined (take i parts) ++ l) (append-nil (get_or parts i d).now)

  module _ (a b c : Option (List ℕ)) (pending : List ℕ) (shown : Shows a b [] (joined (take i parts)) pending) where
    -- the next is shown
    pub part_shown : (last : List ℕ) → Shows b c pending (get_or parts i d).now last → Shows a c [] (joined (take (i + 1) parts)) last
    part_shown last next =
        subst (λ (l : List ℕ). Shows a c [] l last) (sym joined_more)
        (shows_then a b c [] (joined (take i parts)) pending (get_or parts i d).now shown last next)

    -- the next was written in part
    pub part_cut : WroteFront b c (pending ++ (get_or parts i d).now) → WroteFront a c (joined parts)
    part_cut part =
        let front = shows_cut a b c [] (joined (take i parts)) pending (get_or parts i d).now shown part in record {
          out = front.out;
          front = front_trans front.out (joined (take (i + 1) parts)) (joined parts)
              (subst (λ (l : List ℕ). IsPrefix front.out l) (sym joined_more) front.front) (joined_front parts (i + 1));
          wrote = front.wrote;
        }

-- all parts were shown, and what is pending was written in part
pub last_cut : (parts : List (Bor (List ℕ))) (i : ℕ) (a b c : Option (List ℕ)) (pending : List ℕ) → Shows a b [] (joined (take i parts)) pending
    → WroteFront b c pending → WroteFront a c (joined parts)
last_cut parts i a b c pending shown part =
    let front = shows_cut a b c [] (joined (take i parts)) pending [] shown (front_as b c pending (pending ++ []) (sym (append-nil pending)) part) in record {
      out = front.out;
      front = front_trans front.out (joined (take i parts)) (joined parts)
          (subst (λ (l : List ℕ). IsPrefix front.out l) (append-nil (joined (take i parts))) front.front) (joined_front parts i);
      wrote = front.wrote;
    }
