-- What is known of pairs that can be read: each thing is within its limits and tied, and stands where its key says.
use Rattle.std.proofs.Common.{zero, suc, ◌≡◌, ◌<◌, ◌≤◌, ◌⊎◌, inl, inr, ℕ, Bool, true, false, List, [], ◌∷◌, length, take, ltb, Option, Some, None, IsSomeAnd}
use Rattle.std.proofs.Common.{refl, sym, ap, subst, ◌∙◌, arith}
use Rattle.std.specs.List.{Contains, list_any, slice_get}
use Rattle.std.proofs.lemmas.Bool.{cases_Bool, ltb-true, ltb-false}
use Rattle.std.proofs.lemmas.Option.{slice_get_within}
use Rattle.lake_values.proofs.OrderLemmas.{any_to, Contains-first, Contains-later}
use Rattle.lake_base.specs.declared.digest.Digest.{Digest}
use Rattle.lake_values.specs.Commit.{CommitRecordValue}
use Rattle.lake_format.specs.declared.cut.Cut.{Cut}
use Rattle.branch_record.specs.Record.{is_among}
use Rattle.pair_format.specs.declared.key.OwnedKey.TheVariants as key
use Rattle.pair_format.specs.declared.stored.Stored.{Stored}
use Rattle.pair_format.specs.declared.stored.Stored.TheVariants as stored
use Rattle.pair_format.specs.PairSpelling.{IsSpelledStored, key_of}
use Rattle.pair_trees.specs.PairTrees.{AreTreesRead}
use Rattle.pair_trees.specs.Tables.{names}
use Rattle.pair_trees.specs.Things.{HasKey, IsThere, Spells, Things, thing_at, tokens_named}
use Rattle.pair_trees.proofs.ThingsLemmas.{spells_there, there_spells, thing_here}
use Rattle.pair_ties.specs.PairTies.{AreTied, IsTied, IsTiedCommit}
use Rattle.pair_ties.proofs.TokensLemmas.{named_any}
use Rattle.core_opening.proofs.ShowsLemmas.{HaveOnePlace}

-- things that can be read: they are tied, their trees are read, each is within its limits, and no two have one key
pub record AreReadable (cut : Cut) (things : Things) : Type 0 where
  pub tied : AreTied cut things
  pub read : AreTreesRead cut things
  pub limits : (s : Stored) → IsThere things s → IsSpelledStored s
  pub one : HaveOnePlace things

-- one that is there is tied, where it stands
pub record IsTiedThere (cut : Cut) (things : Things) (s : Stored) : Type 0 where
  pub n : ℕ
  pub here : Spells things n s
  pub tie : IsTied cut things n s

pub tie_of : (cut : Cut) (things : Things) → AreTied cut things → (s : Stored) → IsThere things s → IsTiedThere cut things s
tie_of cut things tied s has =
    let place = there_spells things s has in
    let within = slice_get_within things place.0 (Some s) (thing_here things place.0 s place.1) in
    record {
      n = place.0;
      here = place.1;
      tie = subst (λ o. IsSomeAnd o (IsTied cut things place.0)) place.1 (tied.each place.0 within);
    }

-- one of a front stands before
pub taken : (things : Things) (n k : ℕ) (x : Option Stored) → k < n → slice_get things k ≡ Some x → Contains (take n things) x
taken [] n k x lt here = absurd cc
taken (t ∷ things) zero k x lt here = absurd (omega (arith, lt))
taken (t ∷ things) (suc n) zero x lt here = let same : t ≡ x = cc in subst (Contains (t ∷ take n things)) same (Contains-first t (take n things))
taken (t ∷ things) (suc n) (suc k) x lt here = Contains-later t x (take n things) (taken things n k x (omega (arith, lt)) here)

module _ (cut : Cut) (things : Things) (are : AreReadable cut things) where
  -- things of one key are one
  pub same_thing : (s t : Stored) → IsThere things s → IsThere things t → key_of s ≡ key_of t → s ≡ t
  same_thing s t one other same =
      let a = there_spells things s one in
      let b = there_spells things t other in
      let place = are.one a.0 b.0 s t a.1 b.1 same in
      let is : Some s ≡ Some t = sym a.1 ∙ ap (thing_at things) place ∙ b.1 in
      cc

  -- a branch in an earlier pair doesn't name a token of this one
  earlier : (n k token : ℕ) (s t : Stored) → k < n → Spells things k t → names token (Some t) ≡ true
      → is_among (tokens_named (take n things)) token ≡ false → ⊥
  earlier n k token s t lt here named free =
      let has = taken things n k (Some t) lt (thing_here things k t here) in
      let some = named_any (take n things) token ∙ any_to (names token) (take n things) (Some t) has named in
      absurd cc

  -- two branches that name one token are the same
  pub one_holder : (token : ℕ) (repo branch : List ℕ) (version : ℕ) (head : Digest) (staging : ℕ) (sealed : List ℕ)
      (other_repo other : List ℕ) (v : ℕ) (h : Digest) (st : ℕ) (se : List ℕ)
      → IsThere things (stored.Branch repo branch version head staging sealed) → IsThere things (stored.Branch other_repo other v h st se)
      → is_among (staging ∷ sealed) token ≡ true → is_among (st ∷ se) token ≡ true → (repo ≡ other_repo) × (branch ≡ other)
  one_holder token repo branch version head staging sealed other_repo other v h st se one two names_it it_names =
      let s = stored.Branch repo branch version head staging sealed in
      let t = stored.Branch other_repo other v h st se in
      let a = tie_of cut things are.tied s one in
      let b = tie_of cut things are.tied t two in
      elim (cases_Bool (ltb a.n b.n)) [
        | inl lt ↦ absurd (earlier b.n a.n token t s (ltb-true a.n b.n lt) a.here names_it (b.tie.fresh token it_names))
        | inr ge ↦ elim (cases_Bool (ltb b.n a.n)) [
          | inl gt ↦ absurd (earlier a.n b.n token s t (ltb-true b.n a.n gt) b.here it_names (a.tie.fresh token names_it))
          | inr le ↦
              let place : a.n ≡ b.n = omega (arith, ltb-false a.n b.n ge, ltb-false b.n a.n le) in
              let is : Some s ≡ Some t = sym a.here ∙ ap (thing_at things) place ∙ b.here in
              (cc, cc)
        ]
      ]

  earlier_content : (n k : ℕ) (id : Digest) (repo home : List ℕ) (dead old : Bool) (x y : CommitRecordValue) → k < n
      → Spells things k (stored.Commit home id old y) → IsTiedCommit things n repo id x → y ≡ x
  earlier_content n k id repo home dead old x y lt here tie = tie.same k home old y lt here

  -- commits of one id have one content
  pub same_content : (id : Digest) (repo home : List ℕ) (dead old : Bool) (x y : CommitRecordValue) → IsThere things (stored.Commit repo id dead x)
      → IsThere things (stored.Commit home id old y) → x ≡ y
  same_content id repo home dead old x y one other =
      let a = tie_of cut things are.tied (stored.Commit repo id dead x) one in
      let b = tie_of cut things are.tied (stored.Commit home id old y) other in
      elim (cases_Bool (ltb a.n b.n)) [
        | inl lt ↦ earlier_content b.n a.n id home repo old dead y x (ltb-true a.n b.n lt) a.here b.tie
        | inr ge ↦ elim (cases_Bool (ltb b.n a.n)) [
          | inl gt ↦ sym (earlier_content a.n b.n id repo home dead old x y (ltb-true b.n a.n gt) b.here a.tie)
          | inr le ↦
              let place : a.n ≡ b.n = omega (arith, ltb-false a.n b.n ge, ltb-false b.n a.n le) in
              let is : Some (stored.Commit repo id dead x) ≡ Some (stored.Commit home id old y) = sym a.here ∙ ap (thing_at things) place ∙ b.here in
              cc
        ]
      ]
