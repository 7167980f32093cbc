-- Why numbers are condemned, or not.
use Rattle.std.proofs.Common.{◌≡◌, ◌<◌, ◌∷◌, [], refl, sym, ap, subst, arith, inl, inr}
use Rattle.std.specs.List.{Contains}
use Rattle.std.proofs.lemmas.List.Elements.{Contains-push_cases}
use Rattle.lake_base.specs.declared.digest.Digest.{Digest}
use Rattle.lake_format.specs.declared.cut.Cut.{Cut}
use Rattle.lake_model.specs.declared.history.Operation.TheVariants.{Condemn}
use Rattle.lake_model.specs.State.{State}
use Rattle.lake_model.specs.Naming.{IsGarbage}
use Rattle.lake_model.specs.History.{Allows}
use Rattle.lake_model.specs.Soundness.{fresh}
use Rattle.law_examples.specs.HistoryWords.{entry_of}
use Rattle.law_examples.specs.TakenBack.{lake_of_deletion, lake_of_upload}
use Rattle.law_examples.proofs.TakenBackLemmas.{garbage, named, to_deletion}

-- a list of one has that one alone
pub only_element : {X : Type 0} (y x : X) → Contains (y ∷ []) x → y ≡ x
only_element y x has = elim (Contains-push_cases [] y x has) [ inl none ↦ absurd (omega (arith, none.1)) | inr is ↦ is ]

pub one_element : {X : Type 0} (x : X) → Contains (x ∷ []) x
one_element x = (0, omega arith, refl)

module _ (cut : Cut) (digest : Digest) where
  pub condemn_allowed : Allows (lake_of_deletion cut digest) (entry_of (Condemn (0 ∷ [])))
  condemn_allowed = record {
    running = ap (λ (x : State). x.stopped) (to_deletion cut digest).comes;
    room = subst (λ (x : State). x.entries < 4194304) (sym (to_deletion cut digest).comes) (omega arith);
    possible = record {
      distinct = (λ has. absurd (omega (arith, has.1)), tt);
      garbage = λ number has. subst (IsGarbage (lake_of_deletion cut digest)) (only_element 0 number has) (garbage cut digest);
    };
  }

  pub condemn_twice : Allows (lake_of_deletion cut digest) (entry_of (Condemn (0 ∷ 0 ∷ []))) → ⊥
  condemn_twice may = may.possible.distinct.0 (one_element 0)

  pub condemn_named : Allows (lake_of_upload cut digest) (entry_of (Condemn (0 ∷ []))) → ⊥
  condemn_named may = (may.possible.garbage 0 (one_element 0)).unnamed (named cut digest)

pub condemn_unknown : (cut : Cut) → Allows (fresh cut) (entry_of (Condemn (0 ∷ []))) → ⊥
condemn_unknown cut may = let out : 0 < 0 = (may.possible.garbage 0 (one_element 0)).given_out in absurd (omega arith)
