-- The tickets of rows, after a row was written, put or taken out.
use Rattle.std.proofs.Common.{◌≡◌, ℕ, Bool, true, false, cond, List, [], ◌∷◌, refl, sym, ap, ◌∙◌}
use Rattle.std.specs.Prelude.{Option, Some, None}
use Rattle.std.specs.Option.{option_and_then, is_some}
use Rattle.std.specs.Ordering.{nat_cmp, eq_by_cmp, is_eq}
use Rattle.std.specs.declared.cmp.Ordering.TheVariants.{Less}
use Rattle.std.specs.List.{AllByRecursion}
use Rattle.std.specs.List.Sorted.{IsStrictlySortedBy}
use Rattle.std.specs.Map.{keys_of, lookup}
use Rattle.std.specs.Cmp.{nat_cmp_total, nat_eq_equiv, unsigned_tied}
use Rattle.std.specs.FinMap.{FinMap, get, insert, remove, get-insert, get-remove, get-empty, same_map, nat_cmp-IsAntisymmetric}
use Rattle.std.proofs.lemmas.Bool.{eqb-true}
use Rattle.core_state.specs.LakeStates.{tickets_of}

abbrev pub TicketRows : Type 0
TicketRows = List (ℕ × Option ℕ)

-- what the rows have under a number
abbrev pub row_of : TicketRows → ℕ → Option (Option ℕ)
row_of rows q = lookup (eq_by_cmp nat_cmp q) rows

-- the seat of what was found
abbrev pub seat_of : Option (Option ℕ) → Option ℕ
seat_of o = option_and_then (λ seat. seat) o

-- no row has a number that is below all of them
none_below : (number : ℕ) (rows : TicketRows) → AllByRecursion (λ y. nat_cmp number y ≡ Less) (keys_of rows) → row_of rows number ≡ None
none_below number [] h = refl
none_below number (row ∷ rows) h =
    ap (λ o. cond (is_eq o) (Some row.1) (row_of rows number)) h.0 ∙ none_below number rows h.1

either : (b : Bool) (seat : Option ℕ) (o : Option (Option ℕ)) → seat_of (cond b (Some seat) o) ≡ cond b seat (seat_of o)
either true seat o = refl
either false seat o = refl

-- room counts for nothing, since no other row has its number
at_room : (q number : ℕ) (rows : TicketRows) → AllByRecursion (λ y. nat_cmp number y ≡ Less) (keys_of rows)
    → (b : Bool) → eq_by_cmp nat_cmp q number ≡ b → seat_of (row_of rows q) ≡ cond b None (seat_of (row_of rows q))
at_room q number rows below true e =
    ap (λ n. seat_of (row_of rows n)) (eqb-true q number (sym (unsigned_tied q number) ∙ e)) ∙ ap seat_of (none_below number rows below)
at_room q number rows below false e = refl

-- the seat of a number is what its row has, where the numbers ascend
pub get_tickets : (rows : TicketRows) → IsStrictlySortedBy nat_cmp (keys_of rows) → (q : ℕ) → get (tickets_of rows) q ≡ seat_of (row_of rows q)
unfolding IsStrictlySortedBy
get_tickets [] h q = get-empty nat_cmp q
get_tickets ((number, Some seat) ∷ rows) h q =
    get-insert nat_cmp_total (tickets_of rows) number seat q
    ∙ ap (cond (eq_by_cmp nat_cmp q number) (Some seat)) (get_tickets rows h.1 q)
    ∙ sym (either (eq_by_cmp nat_cmp q number) (Some seat) (row_of rows q))
get_tickets ((number, None) ∷ rows) h q =
    get_tickets rows h.1 q ∙ at_room q number rows h.0 (eq_by_cmp nat_cmp q number) refl
    ∙ sym (either (eq_by_cmp nat_cmp q number) None (row_of rows q))

same_tickets : (m n : FinMap nat_cmp ℕ) → ((q : ℕ) → get m q ≡ get n q) → m ≡ n
same_tickets m n = same_map nat_cmp_total nat_cmp-IsAntisymmetric m n

turned : (a b : ℕ) → eq_by_cmp nat_cmp a b ≡ eq_by_cmp nat_cmp b a
turned a b = unsigned_tied a b ∙ nat_eq_equiv.symm a b ∙ sym (unsigned_tied b a)

-- ---- rows in order, and others that differ from them at one number
module _ (rows others : TicketRows) (number : ℕ) (ascend : IsStrictlySortedBy nat_cmp (keys_of rows))
    (ascended : IsStrictlySortedBy nat_cmp (keys_of others)) where
  found : (w : Option (Option ℕ)) → ((q : ℕ) → row_of others q ≡ cond (eq_by_cmp nat_cmp number q) w (row_of rows q))
      → (q : ℕ) → get (tickets_of others) q ≡ cond (eq_by_cmp nat_cmp q number) (seat_of w) (get (tickets_of rows) q)
  found w h q =
      get_tickets others ascended q ∙ ap seat_of (h q) ∙ by (eq_by_cmp nat_cmp number q)
      ∙ (λ i. cond (turned number q i) (seat_of w) (sym (get_tickets rows ascend q) i))
    where
      by : (b : Bool) → seat_of (cond b w (row_of rows q)) ≡ cond b (seat_of w) (seat_of (row_of rows q))
      by true = refl
      by false = refl

  -- a seat stands there
  pub tickets_put : (seat : ℕ) → ((q : ℕ) → row_of others q ≡ cond (eq_by_cmp nat_cmp number q) (Some (Some seat)) (row_of rows q))
      → tickets_of others ≡ insert (tickets_of rows) number seat
  tickets_put seat h = same_tickets _ _ (λ q. found (Some (Some seat)) h q ∙ sym (get-insert nat_cmp_total (tickets_of rows) number seat q))

  -- nothing stands there
  pub tickets_removed : ((q : ℕ) → row_of others q ≡ cond (eq_by_cmp nat_cmp number q) None (row_of rows q))
      → tickets_of others ≡ remove (tickets_of rows) number
  tickets_removed h = same_tickets _ _ (λ q. found None h q ∙ sym (get-remove nat_cmp_total (tickets_of rows) number q))

  -- room is there, where nothing was
  pub tickets_same : ((q : ℕ) → row_of others q ≡ cond (eq_by_cmp nat_cmp number q) (Some None) (row_of rows q))
      → is_some (row_of rows number) ≡ false → tickets_of others ≡ tickets_of rows
  tickets_same h none = same_tickets _ _ (λ q. found (Some None) h q ∙ by q (eq_by_cmp nat_cmp q number) refl)
    where
      absent : (o : Option (Option ℕ)) → is_some o ≡ false → seat_of o ≡ None
      absent None e = refl
      absent (Some seat) e = cc

      by : (q : ℕ) (b : Bool) → eq_by_cmp nat_cmp q number ≡ b → cond b None (get (tickets_of rows) q) ≡ get (tickets_of rows) q
      by q true e =
          sym (get_tickets rows ascend q ∙ ap (λ n. seat_of (row_of rows n)) (eqb-true q number (sym (unsigned_tied q number) ∙ e))
          ∙ absent (row_of rows number) none)
      by q false e = refl
