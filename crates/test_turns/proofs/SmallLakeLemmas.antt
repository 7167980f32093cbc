-- What an entry more makes of a small lake.
use Rattle.std.proofs.Common.{◌≡◌, ⊎_elim, ℕ, ◌+◌, ◌<◌, ◌≤◌, Bool, true, false, cond, List, [], ◌∷◌, ◌++◌, map, Option, Some, None, Result, Ok, Err, refl, sym}
use Rattle.std.proofs.Common.{ap, ◌∙◌, subst, arith}
use Rattle.std.proofs.lemmas.List.Elements.{Contains-append_left, Contains-append_right, Contains-append_cases, Contains-push_cases}
use Rattle.std.specs.List.{Contains, filter}
use Rattle.std.specs.Prelude.{IfSome}
use Rattle.test_turns.specs.SmallLake.{SmallState, Stands, entry_of, faults_in, state_after}
use Rattle.test_turns.specs.declared.small_lake.By.{By}
use Rattle.test_turns.specs.declared.small_lake.PutFault.{PutFault}
use Rattle.test_turns.specs.declared.small_lake.PutFault.TheVariants.{Changed, Failed, Full, Low, NoMemory}

state_after-append : (s : SmallState) (ns : List (Option ℕ)) (n : Option ℕ) → state_after s (ns ++ n ∷ []) ≡ state_after (state_after s ns) (n ∷ [])
state_after-append s [] n = refl
state_after-append s (None ∷ ms) n = state_after-append s ms n
state_after-append s (Some m ∷ ms) n = state_after-append (record { number = m; version = s.version + 1 }) ms n

faults_in-put : (ns : List (Option ℕ)) (m : ℕ) → faults_in (ns ++ Some m ∷ []) ≡ faults_in ns
faults_in-put [] m = refl
faults_in-put (None ∷ ns) m = ap (λ n. n + 1) (faults_in-put ns m)
faults_in-put (Some n ∷ ns) m = faults_in-put ns m

faults_in-fault : (ns : List (Option ℕ)) → faults_in (ns ++ None ∷ []) ≡ faults_in ns + 1
faults_in-fault [] = refl
faults_in-fault (None ∷ ns) = ap (λ n. n + 1) (faults_in-fault ns)
faults_in-fault (Some n ∷ ns) = faults_in-fault ns

-- a fault of the keeper was noted, which it counted
pub noted_after : (k k' : ℕ) (s now : SmallState) (ns ns' : List (Option ℕ)) → (state_after s ns ≡ now) × Stands k s ns → k < k' → ns' ≡ ns ++ None ∷ []
    → (state_after s ns' ≡ now) × Stands k' s ns'
noted_after k k' s now ns ns' was more is =
    let same : state_after s (ns ++ None ∷ []) ≡ state_after s ns = state_after-append s ns None in
    let counted : faults_in ns ≤ k = was.1.noted in
    subst (λ l. (state_after s l ≡ now) × Stands k' s l) (sym is) (
      same ∙ was.0,
      record {
        noted = omega (arith, faults_in-fault ns);
        greatest = λ n has. subst (λ (t : SmallState). n ≤ t.number) (sym same)
            (⊎_elim (was.1.greatest n) (λ none. absurd (cc (none))) (Contains-push_cases ns None (Some n) has));
      },
    )

-- a number was put that isn't below the one before
pub put_after : (k k' m : ℕ) (s now : SmallState) (ns ns' : List (Option ℕ)) → (state_after s ns ≡ now) × Stands k s ns → k' ≡ k → now.number ≤ m
    → ns' ≡ ns ++ Some m ∷ []
    → (state_after s ns' ≡ record { number = m; version = now.version + 1 }) × Stands k' s ns'
put_after k k' m s now ns ns' was same low is =
    let next : state_after s (ns ++ Some m ∷ []) ≡ record { number = m; version = now.version + 1 } =
    state_after-append s ns (Some m) ∙ ap (λ (t : SmallState). record { number = m; version = t.version + 1 }) was.0 in
    let counted : faults_in ns ≤ k = was.1.noted in
    subst (λ l. (state_after s l ≡ record { number = m; version = now.version + 1 }) × Stands k' s l) (sym is) (
      next,
      record {
        noted = omega (arith, faults_in-put ns m);
        greatest = λ n has.
            subst (λ (t : SmallState). n ≤ t.number) (sym next)
            (⊎_elim
            (λ old. (let below : n ≤ (state_after s ns).number = was.1.greatest n old in
            let now_is : (state_after s ns).number ≡ now.number = ap (λ (t : SmallState). t.number) was.0 in omega arith))
            (λ new. (let e : m ≡ n = cc (new) in omega arith))
            (Contains-push_cases ns (Some m) (Some n) has));
      },
    )

-- what stands among the kept ones stands among all
pub contains_kept : {A B : Type 0} (p : A → Bool) (f : A → B) (xs : List A) (y : B) → Contains (map f (filter p xs)) y → Contains (map f xs) y
contains_kept p f [] y h = h
contains_kept p f (x ∷ xs) y h = pick (p x) (contains_kept p f xs y) h
  where
    pick : (b : Bool) → (Contains (map f (filter p xs)) y → Contains (map f xs) y) → Contains (map f (cond b (x ∷ filter p xs) (filter p xs))) y
        → Contains (f x ∷ map f xs) y
    pick true rest k =
        ⊎_elim (Contains-append_left (f x ∷ []) (map f xs) y) (λ t. Contains-append_right (f x ∷ []) (map f xs) y (rest t))
        (Contains-append_cases (f x ∷ []) (map f (filter p xs)) y k)
    pick false rest k = Contains-append_right (f x ∷ []) (map f xs) y (rest k)

-- what a step adds is of the seat that made it
pub entry_own : (by : By) (number : ℕ) (remark : List ℕ) (answer : Result ℕ PutFault) → IfSome (entry_of by number remark answer) (λ e. e.by.seat ≡ by.seat)
entry_own by number remark (Ok v) = refl
entry_own by number remark (Err Failed) = refl
entry_own by number remark (Err (Changed v)) = tt
entry_own by number remark (Err Full) = tt
entry_own by number remark (Err Low) = tt
entry_own by number remark (Err NoMemory) = tt
