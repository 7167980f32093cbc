-- Where an upload leads that is taken back.
use Rattle.std.proofs.Common.{◌≡◌, ◌∷◌, [], refl, sym, ap, subst, ◌∙◌, arith}
use Rattle.std.specs.Prelude.{Option, Some, None}
use Rattle.std.specs.FinMap.{get, insert, empty, get-insert, get-empty, get-remove}
use Rattle.std.specs.Cmp.{nat_cmp_total}
use Rattle.lake_base.specs.Maps.{byte_order}
use Rattle.lake_base.specs.declared.digest.Digest.{Digest}
use Rattle.lake_values.specs.KeyMap.{ChangesValue, KeyMapValue, apply, value_after}
use Rattle.lake_values.specs.declared.entry.Change.{Change}
use Rattle.lake_values.specs.declared.entry.Change.TheVariants.{Put, Delete}
use Rattle.lake_format.specs.declared.cut.Cut.{Cut}
use Rattle.lake_model.specs.declared.history.Operation.TheVariants.{Seal, Stage, TicketTake}
use Rattle.lake_model.specs.declared.history.SealFor.TheVariants as seal
use Rattle.lake_model.specs.State.{Branch, State, HasBranch, head_map, sealed_map}
use Rattle.lake_model.specs.Branches.{IsUnprotected}
use Rattle.lake_model.specs.Uncommitted.{after_ticket_drop, after_ticket_take, put_number, with_staged}
use Rattle.lake_model.specs.Naming.{IsNamed, IsGarbage, IsPut}
use Rattle.lake_model.specs.Soundness.{fresh}
use Rattle.law_examples.specs.HistoryWords.{quickstart, main, own, ticket_entry, put_entry, delete_entry, seal_entry, read_at, a}
use Rattle.law_examples.specs.TakenBack.{upload, upload_and_deletion, sealed_deletion, lake_of_upload, lake_of_deletion, lake_of_sealed_deletion}
use Rattle.law_examples.proofs.SceneLemmas.{scene, counted, on_main, put_again, get_one, Leads, leads_one, leads_on}
use Rattle.law_examples.proofs.EntriesLemmas.{first_repository, first_branch, may, after_put_own, after_deletion, after_seal_of_one}
use Rattle.law_examples.proofs.MapsLemmas.{first_map, read_scene, delete_nothing}
use Rattle.law_examples.proofs.NamingLemmas.{unnamed, named_staged, only_one, empty_puts_none}

module _ (cut : Cut) (digest : Digest) where
  -- the number is out, on a ticket; and then it isn't
  abbrev given_out : State
  given_out = counted (after_ticket_take 1 0 (fresh cut))

  abbrev used : State
  used = counted (after_ticket_drop 0 given_out)

  abbrev uploaded : Branch
  uploaded = with_staged a (Put (own digest 0)) (first_branch cut)

  abbrev dropped : Branch
  dropped = record (first_branch cut) { staged = insert empty a Delete }

  abbrev emptied : Branch
  emptied = record (first_branch cut) { sealed = insert empty a Delete }

  first_entry : Leads (fresh cut) (ticket_entry 0 ∷ []) (scene given_out (first_repository cut) (first_branch cut))
  first_entry = leads_one
      (may (fresh cut) (first_repository cut) (first_branch cut) 1 (TicketTake quickstart main 0) refl (omega arith)
      (on_main (λ r b. IsUnprotected r main) (fresh cut) (first_repository cut) (first_branch cut) refl, refl))
      refl

  second_entry :
      Leads (scene given_out (first_repository cut) (first_branch cut)) (put_entry a (own digest 0) ∷ []) (scene used (first_repository cut) uploaded)
  second_entry = leads_one
      (may given_out (first_repository cut) (first_branch cut) 1 (Stage quickstart main a (Put (own digest 0))) refl (omega arith)
      (on_main (λ r b. IsUnprotected r main) given_out (first_repository cut) (first_branch cut) refl, get-insert nat_cmp_total empty 0 1 0))
      (after_put_own given_out (first_repository cut) (first_branch cut) a digest 0)

  third_entry : Leads (scene used (first_repository cut) uploaded) (delete_entry a ∷ []) (scene (counted used) (first_repository cut) dropped)
  third_entry = leads_one
      (may used (first_repository cut) uploaded 1 (Stage quickstart main a Delete) refl (omega arith)
      (on_main (λ r b. IsUnprotected r main) used (first_repository cut) uploaded refl, tt))
      (after_deletion used (first_repository cut) uploaded a
      ∙ ap (λ (x : ChangesValue). scene (counted used) (first_repository cut) (record (first_branch cut) { staged = x }))
      (put_again empty a (Put (own digest 0)) Delete))

  fourth_entry : Leads (scene (counted used) (first_repository cut) dropped) (seal_entry ∷ []) (scene (counted (counted used)) (first_repository cut) emptied)
  fourth_entry = leads_one
      (may (counted used) (first_repository cut) dropped 1 (Seal quickstart main seal.Commit) refl (omega arith)
      (on_main (λ r b. IsUnprotected r main) (counted used) (first_repository cut) dropped refl))
      (after_seal_of_one (counted used) (first_repository cut) dropped 1 seal.Commit a Delete refl)

  to_upload : Leads (fresh cut) (upload digest) (scene used (first_repository cut) uploaded)
  to_upload = leads_on first_entry second_entry

  pub to_deletion : Leads (fresh cut) (upload_and_deletion digest) (scene (counted used) (first_repository cut) dropped)
  to_deletion = leads_on to_upload third_entry

  pub course : Leads (fresh cut) (sealed_deletion digest) (scene (counted (counted used)) (first_repository cut) emptied)
  course = leads_on to_deletion fourth_entry

  pub same : HasBranch (lake_of_sealed_deletion cut digest) quickstart main (λ r b. sealed_map r b ≡ head_map r b)
  same = subst (λ (x : State). HasBranch x quickstart main (λ r b. sealed_map r b ≡ head_map r b)) (sym course.comes)
      (on_main (λ r b. sealed_map r b ≡ head_map r b) (counted (counted used)) (first_repository cut) emptied
      (ap (apply (insert empty a Delete)) (first_map cut _) ∙ delete_nothing a ∙ sym (first_map cut _)))

  pub reads : read_at (lake_of_sealed_deletion cut digest) a ≡ None
  reads =
      ap (λ (x : State). read_at x a) course.comes
      ∙ read_scene (counted (counted used)) (first_repository cut) emptied a
      ∙ ap (λ (o : Option Change).
      value_after o (value_after (get {R = byte_order} (insert empty a Delete) a) (get (head_map (first_repository cut) emptied) a))) (get-empty byte_order a)
      ∙ ap (λ (o : Option Change). value_after o (get (head_map (first_repository cut) emptied) a)) (get_one a Delete a)

  pub named : IsNamed (lake_of_upload cut digest) 0
  named = subst (λ (x : State). IsNamed x 0) (sym to_upload.comes)
      (named_staged used (first_repository cut) uploaded 0
      (record { path = a; change = Put (own digest 0); stands = get_one a (Put (own digest 0)) a; names = refl }))

  pub garbage : IsGarbage (lake_of_deletion cut digest) 0
  garbage = subst (λ (x : State). IsGarbage x 0) (sym to_deletion.comes) (record {
    given_out = omega arith;
    unnamed = unnamed (counted used) (first_repository cut) dropped 0
        (λ id live has. let none : get (empty {R = byte_order}) has.path
        ≡ Some has.entry = subst (λ (m : KeyMapValue). get m has.path ≡ Some has.entry) (first_map cut id) has.stands in
        absurd (cc (sym (get-empty byte_order has.path) ∙ none)))
        (empty_puts_none empty 0 (get-empty byte_order))
        put_none
        (get-remove nat_cmp_total (insert empty 0 1) 0 0);
  })
    where
      put_none : IsPut (insert empty a Delete) 0 → ⊥
      put_none staged = by staged.change (only_one a Delete staged.path staged.change staged.stands) staged.names
        where
          by : (change : Change) → change ≡ Delete → put_number change ≡ Some 0 → ⊥
          by (Put entry) is names = absurd cc
          by Delete is names = absurd cc
