-- Where an upload leads that is put and sealed, and a commit of it.
use Rattle.std.proofs.Common.{◌≡◌, ◌<◌, ◌∷◌, [], ℕ, Bool, false, cond, List, refl, ap, ◌∙◌, arith}
use Rattle.std.specs.Prelude.{Option, Some, None}
use Rattle.std.specs.Option.{option_or}
use Rattle.std.specs.FinMap.{get, insert, empty, get-insert, get-empty}
use Rattle.std.specs.Cmp.{nat_cmp_total, eq_by_cmp_equiv}
use Rattle.lake_base.specs.Maps.{byte_order}
use Rattle.lake_base.specs.declared.digest.Digest.{Digest}
use Rattle.lake_values.specs.KeyMap.{ChangesValue, over}
use Rattle.lake_values.specs.declared.entry.Change.{Change}
use Rattle.lake_values.specs.declared.entry.Change.TheVariants.{Put, Delete}
use Rattle.lake_values.proofs.KeyMapLemmas.{get_over, same}
use Rattle.lake_model.specs.declared.history.Operation.TheVariants.{Seal, Stage, TicketTake}
use Rattle.lake_model.specs.declared.history.SealFor.TheVariants as seal
use Rattle.lake_model.specs.State.{Branch, Repository, State}
use Rattle.lake_model.specs.Branches.{IsUnprotected}
use Rattle.lake_model.specs.Uncommitted.{after_ticket_drop, after_ticket_take}
use Rattle.law_examples.specs.HistoryWords.{quickstart, main, own, ticket_entry, put_entry, delete_entry, seal_entry}
use Rattle.law_examples.proofs.SceneLemmas.{scene, counted, on_main, Leads, leads_one, leads_on}
use Rattle.law_examples.proofs.EntriesLemmas.{may, after_put_own, after_deletion, after_sealing}

-- changes put over none are these
over_none : (new : ChangesValue) → over new empty ≡ new
over_none new = same _ _ (λ q. get_over new empty q ∙ ap (λ (o : Option Change). option_or (get new q) o) (get-empty byte_order q) ∙ either (get new q))
  where
    either : (o : Option Change) → option_or o None ≡ o
    either None = refl
    either (Some change) = refl

-- a branch with these changes sealed, and these staged
abbrev pub branch_with : Digest → ChangesValue → ChangesValue → Branch
branch_with head seal_entry staged = record { head = head; sealed = seal_entry; staged = staged }

-- a number is given out, used, and what it was put for is sealed
abbrev pub out : State → ℕ → State
out s number = counted (after_ticket_take 1 number s)

abbrev pub used : State → ℕ → State
used s number = counted (after_ticket_drop number (out s number))

abbrev pub uploaded : State → ℕ → State
uploaded s number = counted (used s number)

module _ (s : State) (r : Repository) (head : Digest) (running : s.stopped ≡ false) (room : s.entries < 1000) (unprotected : IsUnprotected r main) where
  -- a path is deleted
  pub deletion : (path : List ℕ)
      → Leads (scene s r (branch_with head empty empty)) (delete_entry path ∷ []) (scene (counted s) r (branch_with head empty (insert empty path Delete)))
  deletion path = leads_one
      (may s r (branch_with head empty empty) 1 (Stage quickstart main path Delete) running (omega arith)
      (on_main (λ r b. IsUnprotected r main) s r (branch_with head empty empty) unprotected, tt))
      (after_deletion s r (branch_with head empty empty) path)

  module _ (m : ChangesValue) (number : ℕ) (path : List ℕ) (digest : Digest) where
    pub taking : number ≡ s.next_number → (b : Branch) → Leads (scene s r b) (ticket_entry number ∷ []) (scene (out s number) r b)
    taking next b = leads_one
        (may s r b 1 (TicketTake quickstart main number) running (omega arith) (on_main (λ r b. IsUnprotected r main) s r b unprotected, next))
        refl

    abbrev changes : ChangesValue
    changes = insert m path (Put (own digest number))

    putting : Leads (scene (out s number) r (branch_with head empty m)) (put_entry path (own digest number) ∷ [])
        (scene (used s number) r (branch_with head empty changes))
    putting = leads_one
        (may (out s number) r (branch_with head empty m) 1 (Stage quickstart main path (Put (own digest number))) running (omega arith)
        (on_main (λ r b. IsUnprotected r main) (out s number) r (branch_with head empty m) unprotected, on_ticket))
        (after_put_own (out s number) r (branch_with head empty m) path digest number)
      where
        on_ticket : get (out s number).tickets number ≡ Some 1
        on_ticket = get-insert nat_cmp_total s.tickets number 1 number
            ∙ ap (λ (b : Bool). cond b (Some 1) (get s.tickets number)) ((eq_by_cmp_equiv nat_cmp_total).refl number)

    sealing : Leads (scene (used s number) r (branch_with head empty changes)) (seal_entry ∷ []) (scene (uploaded s number) r (branch_with head changes empty))
    sealing = leads_one
        (may (used s number) r (branch_with head empty changes) 1 (Seal quickstart main seal.Commit) running (omega arith)
        (on_main (λ r b. IsUnprotected r main) (used s number) r (branch_with head empty changes) unprotected))
        (after_sealing (used s number) r (branch_with head empty changes) 1 seal.Commit
        ∙ ap (λ (x : ChangesValue). scene (uploaded s number) r (branch_with head x empty)) (over_none changes))

    pub upload : number ≡ s.next_number → Leads (scene s r (branch_with head empty m))
        (ticket_entry number ∷ put_entry path (own digest number) ∷ seal_entry ∷ []) (scene (uploaded s number) r (branch_with head changes empty))
    upload next = leads_on (taking next (branch_with head empty m)) (leads_on putting sealing)
