-- The files of a tree by their places, as the tests of a new commit go through them.
use Rattle.std.proofs.Common.{◌≡◌, ℕ, suc, ◌+◌, ◌<◌, ◌≤◌, List, [], ◌∷◌, ◌++◌, ◌⊎◌, inl, inr, length, get_or, take, drop, sym, ap, ◌∙◌, add-one, drop-cons}
use Rattle.std.proofs.Common.{arith}
use Rattle.std.proofs.lemmas.List.{drop_all, get_or-take, length-take, take_more}
use Rattle.std.proofs.lemmas.List.Quantifiers.{position-Some}
use Rattle.std.proofs.lemmas.Option.{slice_get-get_or, unwrap_or-slice_get}
use Rattle.std.specs.Prelude.{Some, None, slice_get}
use Rattle.std.specs.Option.{option_or, unwrap_or}
use Rattle.lake_base.specs.declared.digest.Digest.{Digest}
use Rattle.lake_values.specs.Ancestry.{same_id}
use Rattle.lake_format.specs.Spelling.{file_name}
use Rattle.meta_range.specs.Files.{file_at}
use Rattle.meta_range.specs.RangeNames.{PutsFirst, TellsFirst, place_in}
use Rattle.meta_range.proofs.NamesLemmas.{named_at, tells_more}
use Rattle.lake_model.specs.declared.fault.StepFault.{StepFault}
use Rattle.lake_model.specs.declared.fault.StepFault.TheVariants.{NoMemory}
use Rattle.lake_model.specs.Refusals.{clash_fault}
use Rattle.core_state.specs.LakeStates.{LakeStateValue}
use Rattle.core_causes.specs.Clashing.{clash_with, first_clash, first_twins, indexed_clash, twin_clash}
use Rattle.core_causes.proofs.FaultLemmas.{fault_none, fault_or, mapped_none}

module _ (files : List (List ℕ)) (place : ℕ) (lt : place < length files) where
  abbrev here : List ℕ
  here = file_at files place

  here_is : (d : List ℕ) → here ≡ get_or files place d
  here_is d = ap (λ o. unwrap_or o []) (slice_get-get_or files place d lt)

  rest : drop place files ≡ here ∷ drop (place + 1) files
  rest = rw add-one (drop-cons files place here lt ∙ ap (λ y. y ∷ drop (suc place) files) (sym (here_is here)))

  so_far : take (place + 1) files ≡ take place files ++ here ∷ []
  so_far = take_more files place here lt ∙ ap (λ y. take place files ++ y ∷ []) (sym (here_is here))

  -- the first clash of the files from this place on
  clash_parts : (l : LakeStateValue) → first_clash l (drop place files) ≡ option_or (indexed_clash l here) (first_clash l (drop (place + 1) files))
  clash_parts l = ap (first_clash l) rest

  module _ (l : LakeStateValue) (before : first_clash l files ≡ first_clash l (drop place files)) where
    -- the file here doesn't clash
    pub clash_on : clash_fault (indexed_clash l here) ≡ None → first_clash l files ≡ first_clash l (drop (place + 1) files)
    clash_on free = before ∙ clash_parts l ∙ fault_none (indexed_clash l here) (first_clash l (drop (place + 1) files)) free

    -- it does
    pub clash_told : (fault : StepFault) → (fault ≡ NoMemory) ⊎ (clash_fault (indexed_clash l here) ≡ Some fault)
        → (fault ≡ NoMemory) ⊎ (clash_fault (first_clash l files) ≡ Some fault)
    clash_told fault (inl memory) = inl memory
    clash_told fault (inr is) =
        inr (ap clash_fault (before ∙ clash_parts l) ∙ fault_or (indexed_clash l here) (first_clash l (drop (place + 1) files)) fault is)

  -- the first twins from this place on
  twin_parts : first_twins (take place files) (drop place files)
      ≡ option_or (twin_clash (take place files) here) (first_twins (take (place + 1) files) (drop (place + 1) files))
  twin_parts =
      ap (first_twins (take place files)) rest
      ∙ ap (λ seen. option_or (twin_clash (take place files) here) (first_twins seen (drop (place + 1) files))) (sym so_far)

  module _ (before : first_twins [] files ≡ first_twins (take place files) (drop place files)) where
    -- the file here has no twin
    twin_free : twin_clash (take place files) here ≡ None → first_twins [] files ≡ first_twins (take (place + 1) files) (drop (place + 1) files)
    twin_free none =
        before ∙ twin_parts ∙ ap (λ o. option_or o (first_twins (take (place + 1) files) (drop (place + 1) files))) none

    -- it has one
    twin_here : (fault : StepFault) → clash_fault (twin_clash (take place files) here) ≡ Some fault
        → clash_fault (first_twins [] files) ≡ Some fault
    twin_here fault is =
        ap clash_fault (before ∙ twin_parts)
        ∙ fault_or (twin_clash (take place files) here) (first_twins (take (place + 1) files) (drop (place + 1) files)) fault is

  module _ (old : List (Digest × ℕ)) (tells : TellsFirst file_name old (take place files)) where
    -- the table with one file more
    pub tells_on : (new : List (Digest × ℕ)) → PutsFirst old new (file_name here) place → TellsFirst file_name new (take (place + 1) files)
    tells_on new puts = tells_more file_name old new files place here lt (here_is here) tells puts

    -- it tells of no earlier file of the name
    no_twin : None ≡ place_in old (file_name here) → twin_clash (take place files) here ≡ None
    no_twin told = ap (clash_with here) (sym (named_at file_name old (take place files) (file_name here) None tells told))

    -- it tells of one
    module _ (first : ℕ) (told : Some first ≡ place_in old (file_name here)) where
      earlier : first < place
      earlier =
          let found = position-Some (λ file. same_id (file_name file) (file_name here)) (take place files) first [] (sym (tells (file_name here)) ∙ sym told) in
          let short : first < length (take place files) = found.0 in
          omega (arith, length-take place files)

      first_there : slice_get (take place files) first ≡ Some (file_at files first)
      first_there =
          let before = earlier in
          let long : first < length (take place files) = omega (arith, length-take place files) in
          slice_get-get_or (take place files) first [] long
          ∙ ap (λ y. Some y) (get_or-take place files first [] before ∙ sym (unwrap_or-slice_get files first []))

      twin_is : twin_clash (take place files) here ≡ clash_with here (Some (file_at files first))
      twin_is =
          ap (clash_with here) (sym (named_at file_name old (take place files) (file_name here) (Some first) tells told) ∙ first_there)

    module _ (before : first_twins [] files ≡ first_twins (take place files) (drop place files)) where
      pub twin_new : None ≡ place_in old (file_name here) → first_twins [] files ≡ first_twins (take (place + 1) files) (drop (place + 1) files)
      twin_new told = twin_free before (no_twin told)

      module _ (first : ℕ) (told : Some first ≡ place_in old (file_name here)) where
        -- it is the same
        pub twin_on : clash_fault (clash_with here (Some (file_at files first))) ≡ None
            → first_twins [] files ≡ first_twins (take (place + 1) files) (drop (place + 1) files)
        twin_on free = twin_free before (twin_is first told ∙ mapped_none _ (clash_with here (Some (file_at files first))) free)

        -- it differs
        pub twin_told : (fault : StepFault) → (fault ≡ NoMemory) ⊎ (clash_fault (clash_with here (Some (file_at files first))) ≡ Some fault)
            → (fault ≡ NoMemory) ⊎ (clash_fault (first_twins [] files) ≡ Some fault)
        twin_told fault (inl memory) = inl memory
        twin_told fault (inr is) = inr (twin_here before fault (ap clash_fault (twin_is first told) ∙ is))

-- past the last file
module _ (files : List (List ℕ)) (place : ℕ) (past : length files ≤ place) where
  pub no_clash : (l : LakeStateValue) → first_clash l files ≡ first_clash l (drop place files) → clash_fault (first_clash l files) ≡ None
  no_clash l before = ap clash_fault (before ∙ ap (first_clash l) (drop_all place files past))

  pub no_twins : first_twins [] files ≡ first_twins (take place files) (drop place files) → clash_fault (first_twins [] files) ≡ None
  no_twins before = ap clash_fault (before ∙ ap (first_twins (take place files)) (drop_all place files past))
