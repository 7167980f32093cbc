-- Tables: what they tell after something is put.
use Rattle.std.proofs.Common.{◌≡◌, ℕ, zero, suc, ◌+◌, ◌<◌, Bool, true, false, cond, eqb, ◌||◌, List, [], ◌∷◌, ◌++◌, length, map, get_or, take, drop, Option}
use Rattle.std.proofs.Common.{Some, None}
use Rattle.std.proofs.Common.{is_some, refl, sym, ap, subst, ◌∙◌, arith, add-one}
use Rattle.std.specs.BTreeMap.{BTreeMap, get}
use Rattle.std.specs.Cmp.{both_ways}
use Rattle.std.specs.List.{list_any}
use Rattle.std.specs.Map.{lookup}
use Rattle.std.specs.Option.{option_or}
use Rattle.std.specs.Ordering.{MatchOrdering, is_eq, nat_cmp}
use Rattle.std.specs.declared.cmp.Ordering.{Ordering}
use Rattle.std.specs.declared.cmp.Ordering.TheVariants.{Less, Equal, Greater}
use Rattle.std.proofs.lemmas.Bool.{eqb-true, eq-eqb}
use Rattle.std.proofs.lemmas.Cmp.{ranked}
use Rattle.std.proofs.lemmas.List.{length-take, take_more, get_or-map}
use Rattle.std.proofs.lemmas.List.Folds.{list_any-append, list_any_more}
use Rattle.std.proofs.lemmas.Map.Text.{is_eq-slice_cmp}
use Rattle.std.proofs.lemmas.Option.{unwrap_or-slice_get}
use Rattle.std.proofs.lemmas.Slice.Eq.{bytes_eq-Decides}
use Rattle.lake_base.specs.declared.digest.Digest.{Digest}
use Rattle.lake_values.specs.Ancestry.{id_order, same_id}
use Rattle.lake_format.specs.Spelling.{file_name}
use Rattle.branch_record.specs.Record.{is_among}
use Rattle.meta_range.specs.Files.{file_at}
use Rattle.pair_format.specs.declared.stored.Stored.{Stored}
use Rattle.pair_trees.specs.Tables.{AddsNames, HasNames, PutsCommit, PutsId, PutsTokens, TellsCommits, TellsTokens, first_place, is_commit, names}
use Rattle.pair_trees.specs.Things.{Things, tokens_in}

-- ---- ties

tie_nat : (a b : ℕ) → is_eq (nat_cmp a b) ≡ eqb a b
tie_nat a b = both_ways (is_eq (nat_cmp a b)) (eqb a b) (λ e. eq-eqb a b (equal (nat_cmp a b) (ranked a b (nat_cmp a b) refl) e))
    (λ e. subst (λ c. is_eq (nat_cmp a c) ≡ true) (eqb-true a b e) (itself (nat_cmp a a) (ranked a a (nat_cmp a a) refl)))
  where
    equal : (o : Ordering) → MatchOrdering o (a < b) (a ≡ b) (b < a) → is_eq o ≡ true → a ≡ b
    equal Less h e = absurd cc
    equal Equal h e = h
    equal Greater h e = absurd cc

    itself : (o : Ordering) → MatchOrdering o (a < a) (a ≡ a) (a < a) → is_eq o ≡ true
    itself Less h = absurd (omega (arith, h))
    itself Equal h = refl
    itself Greater h = absurd (omega (arith, h))

pub tie_id : (id other : Digest) → is_eq (id_order id other) ≡ same_id id other
tie_id id other = is_eq-slice_cmp id.0 other.0

pub id_same : (id other : Digest) → same_id id other ≡ true → id ≡ other
id_same id other same = let bytes = (bytes_eq-Decides id.0 other.0).0 same in λ i. record { 0 = bytes i }

-- ---- options

pub or_none : {X : Type 0} (o : Option X) → option_or o None ≡ o
or_none None = refl
or_none (Some x) = refl

or_some : {X : Type 0} (o p : Option X) → is_some o ≡ true → option_or o p ≡ o
or_some None p some = absurd cc
or_some (Some x) p some = refl

none : {X : Type 0} (o : Option X) → is_some o ≡ false → o ≡ None
none None e = refl
none (Some x) e = absurd cc

-- what is put at a key where nothing was
put_key : {X : Type 0} (old : Option X) (b : Bool) (x : X) → (b ≡ true → is_some old ≡ false) → cond b (Some x) old ≡ option_or old (cond b (Some x) None)
put_key old true x absent = sym (ap (λ o. option_or o (Some x)) (none old (absent refl)))
put_key old false x absent = sym (or_none old)

-- and where something was
kept_key : {X : Type 0} (old : Option X) (b : Bool) (x : X) → (b ≡ true → is_some old ≡ true) → old ≡ option_or old (cond b (Some x) None)
kept_key old true x there = sym (or_some old (Some x) (there refl))
kept_key old false x there = sym (or_none old)

or_both : {X : Type 0} (o : Option X) (a b : Bool) (x : X)
    → option_or (option_or o (cond a (Some x) None)) (cond b (Some x) None) ≡ option_or o (cond (a || b) (Some x) None)
or_both (Some y) a b x = refl
or_both None true b x = refl
or_both None false b x = refl

alone : (b : Bool) → (b || false) ≡ b
alone true = refl
alone false = refl

-- ---- tokens

pub keeps_token : (table : BTreeMap ℕ ℕ) (token at : ℕ) → is_some (get nat_cmp table token) ≡ true → PutsTokens table table (token ∷ []) at
keeps_token table token at there other =
    kept_key (get nat_cmp table other) (is_among (token ∷ []) other) at
    (λ e. subst (λ t. is_some (get nat_cmp table t) ≡ true) (eqb-true token other (sym (alone (eqb token other)) ∙ e)) there)

pub puts_token : (old new : BTreeMap ℕ ℕ) (token at : ℕ) → is_some (get nat_cmp old token) ≡ false
    → ((other : ℕ) → get nat_cmp new other ≡ cond (is_eq (nat_cmp token other)) (Some at) (get nat_cmp old other)) → PutsTokens old new (token ∷ []) at
puts_token old new token at absent put other =
    put other ∙ ap (λ b. cond b (Some at) (get nat_cmp old other)) (tie_nat token other ∙ sym (alone (eqb token other)))
    ∙ put_key (get nat_cmp old other) (is_among (token ∷ []) other) at
    (λ e. subst (λ t. is_some (get nat_cmp old t) ≡ false) (eqb-true token other (sym (alone (eqb token other)) ∙ e)) absent)

pub puts_none : (table : BTreeMap ℕ ℕ) (at : ℕ) → PutsTokens table table [] at
puts_none table at other = sym (or_none (get nat_cmp table other))

pub puts_both : (a b c : BTreeMap ℕ ℕ) (xs ys : List ℕ) (at : ℕ) → PutsTokens a b xs at → PutsTokens b c ys at → PutsTokens a c (xs ++ ys) at
puts_both a b c xs ys at one two other =
    two other ∙ ap (λ o. option_or o (cond (is_among ys other) (Some at) None)) (one other)
    ∙ or_both (get nat_cmp a other) (is_among xs other) (is_among ys other) at
    ∙ sym (ap (λ t. option_or (get nat_cmp a other) (cond t (Some at) None)) (list_any-append (λ named. eqb named other) xs ys))

pub puts_more : (a b c : BTreeMap ℕ ℕ) (tokens : List ℕ) (i token at : ℕ) → i < length tokens → token ≡ get_or tokens i token
    → PutsTokens a b (take i tokens) at
    → PutsTokens b c (token ∷ []) at → PutsTokens a c (take (i + 1) tokens) at
puts_more a b c tokens i token at lt is one two =
    subst (λ l. PutsTokens a c l at) (sym (take_more tokens i token lt ∙ ap (λ t. take i tokens ++ t ∷ []) (sym is)))
    (puts_both a b c (take i tokens) (token ∷ []) at one two)

-- ---- places

first_more : (test : Option Stored → Bool) (i : ℕ) (things : Things) (thing : Option Stored) (n : ℕ) → i + length things ≡ n
    → first_place test i (things ++ thing ∷ []) ≡ option_or (first_place test i things) (cond (test thing) (Some n) None)
unfolding first_place
first_more test i [] thing n e =
    let same : i ≡ n = omega arith in
    ap (λ k. cond (test thing) (Some k) None) same
first_more test i (x ∷ things) thing n e = by (test x) (first_more test (suc i) things thing n (omega arith))
  where
    by : (b : Bool) → first_place test (suc i) (things ++ thing ∷ []) ≡ option_or (first_place test (suc i) things) (cond (test thing) (Some n) None)
        → cond b (Some i) (first_place test (suc i) (things ++ thing ∷ []))
        ≡ option_or (cond b (Some i) (first_place test (suc i) things)) (cond (test thing) (Some n) None)
    by true so = refl
    by false so = so

place_more : (test : Option Stored → Bool) (things : Things) (i : ℕ) (thing : Option Stored) → i < length things → thing ≡ get_or things i thing
    → first_place test 0 (take (i + 1) things) ≡ option_or (first_place test 0 (take i things)) (cond (test thing) (Some i) None)
place_more test things i thing lt is =
    let long : length (take i things) ≡ i = omega (arith, length-take i things) in
    let whole : take (i + 1) things ≡ take i things ++ thing ∷ [] = take_more things i thing lt ∙ ap (λ x. take i things ++ x ∷ []) (sym is) in
    ap (first_place test 0) whole ∙ first_more test 0 (take i things) thing i (omega arith)

no_place : (test : Option Stored → Bool) → first_place test 0 [] ≡ None
unfolding first_place
no_place test = refl

pub tells_no_tokens : (table : BTreeMap ℕ ℕ) → table.entries ≡ [] → TellsTokens table []
tells_no_tokens table empty token = ap (lookup (λ t. is_eq (nat_cmp token t))) empty ∙ sym (no_place (names token))

pub tells_no_commits : (table : BTreeMap Digest ℕ) → table.entries ≡ [] → TellsCommits table []
tells_no_commits table empty id = ap (lookup (λ t. is_eq (id_order id t))) empty ∙ sym (no_place (is_commit id))

pub tells_tokens : (old new : BTreeMap ℕ ℕ) (things : Things) (i : ℕ) (thing : Option Stored) → i < length things → thing ≡ get_or things i thing
    → TellsTokens old (take i things) → PutsTokens old new (tokens_in thing) i → TellsTokens new (take (i + 1) things)
tells_tokens old new things i thing lt is tells put token =
    put token ∙ ap (λ o. option_or o (cond (names token thing) (Some i) None)) (tells token) ∙ sym (place_more (names token) things i thing lt is)

pub tells_commits : (old new : BTreeMap Digest ℕ) (things : Things) (i : ℕ) (thing : Option Stored) → i < length things → thing ≡ get_or things i thing
    → TellsCommits old (take i things) → PutsCommit old new thing i → TellsCommits new (take (i + 1) things)
tells_commits old new things i thing lt is tells put id =
    put id ∙ ap (λ o. option_or o (cond (is_commit id thing) (Some i) None)) (tells id) ∙ sym (place_more (is_commit id) things i thing lt is)

-- ---- ids

pub keeps_id : (table : BTreeMap Digest ℕ) (id : Digest) (at : ℕ) → is_some (get id_order table id) ≡ true → PutsId table table id at
keeps_id table id at there other =
    kept_key (get id_order table other) (same_id id other) at (λ e. subst (λ t. is_some (get id_order table t) ≡ true) (id_same id other e) there)

pub puts_id : (old new : BTreeMap Digest ℕ) (id : Digest) (at : ℕ) → is_some (get id_order old id) ≡ false
    → ((other : Digest) → get id_order new other ≡ cond (is_eq (id_order id other)) (Some at) (get id_order old other)) → PutsId old new id at
puts_id old new id at absent put other =
    put other ∙ ap (λ b. cond b (Some at) (get id_order old other)) (tie_id id other)
    ∙ put_key (get id_order old other) (same_id id other) at (λ e. subst (λ t. is_some (get id_order old t) ≡ false) (id_same id other e) absent)

-- ---- names

pub no_names : {X : Type 0} (table : BTreeMap Digest (Unit {0})) (test : Digest → X → Bool) → table.entries ≡ []
    → HasNames table (λ name. list_any (test name) [])
no_names table test empty name = ap (λ es. is_some (lookup (λ t. is_eq (id_order name t)) es)) empty

pub adds_nothing : (table : BTreeMap Digest (Unit {0})) → AddsNames table table (λ name. false)
adds_nothing table name = sym (alone (is_some (get id_order table name)))

pub adds_name : (old new : BTreeMap Digest (Unit {0})) (id : Digest)
    → ((other : Digest) → get id_order new other ≡ cond (is_eq (id_order id other)) (Some tt) (get id_order old other)) → AddsNames old new (same_id id)
adds_name old new id put other =
    ap is_some (put other ∙ ap (λ b. cond b (Some tt) (get id_order old other)) (tie_id id other)) ∙ by (same_id id other) (get id_order old other)
  where
    by : (b : Bool) (o : Option (Unit {0})) → is_some (cond b (Some tt) o) ≡ (is_some o || b)
    by true None = refl
    by true (Some x) = refl
    by false o = sym (alone (is_some o))

-- the names of one item more
pub names_more : {X : Type 0} (test : Digest → X → Bool) (old new : BTreeMap Digest (Unit {0})) (items : List X) (i : ℕ) (item : X) → i < length items
    → item ≡ get_or items i item → HasNames old (λ name. list_any (test name) (take i items)) → AddsNames old new (λ name. test name item)
    → HasNames new (λ name. list_any (test name) (take (i + 1) items))
names_more test old new items i item lt is has adds name =
    adds name ∙ ap (λ b. b || test name item) (has name) ∙ ap (λ x. list_any (test name) (take i items) || test name x) is
    ∙ sym (list_any_more (test name) items i item lt)

-- so from a table that had some
pub adds_more : {X : Type 0} (test : Digest → X → Bool) (first old new : BTreeMap Digest (Unit {0})) (items : List X) (i : ℕ) (item : X) → i < length items
    → item ≡ get_or items i item → AddsNames first old (λ name. list_any (test name) (take i items)) → AddsNames old new (λ name. test name item)
    → AddsNames first new (λ name. list_any (test name) (take (i + 1) items))
adds_more test first old new items i item lt is has adds name =
    adds name ∙ ap (λ b. b || test name item) (has name)
    ∙ by (is_some (get id_order first name)) (list_any (test name) (take i items)) (test name item)
    ∙ ap (λ x. is_some (get id_order first name) || (list_any (test name) (take i items) || test name x)) is
    ∙ ap (λ b. is_some (get id_order first name) || b) (sym (list_any_more (test name) items i item lt))
  where
    by : (a b c : Bool) → ((a || b) || c) ≡ (a || (b || c))
    by true b c = refl
    by false b c = refl

-- one of these files has this name
abbrev pub is_named : Digest → List ℕ → Bool
is_named name bytes = same_id (file_name bytes) name

-- how many ranges there are among the files of a tree
pub rest_len : (files : List (List ℕ)) (n : ℕ) → length files ≡ n + 1 → length (drop 1 files) ≡ n
rest_len [] n e = absurd (omega (arith, e))
rest_len (file ∷ files) n e = omega (arith, e)

-- the range at a place among the files of a tree
pub range_at : (files : List (List ℕ)) (place : ℕ) → place < length (drop 1 files) → file_at files (place + 1)
    ≡ get_or (drop 1 files) place (file_at files (place + 1))
range_at [] place lt = absurd (omega (arith, lt))
range_at (file ∷ files) place lt =
    let here : file_at (file ∷ files) (place + 1) ≡ get_or files place [] = ap (file_at (file ∷ files)) (add-one place) ∙ unwrap_or-slice_get files place [] in
    here ∙ any files place [] (file_at (file ∷ files) (place + 1)) lt
  where
    any : (files : List (List ℕ)) (place : ℕ) (d e : List ℕ) → place < length files → get_or files place d ≡ get_or files place e
    any [] place d e lt = absurd (omega (arith, lt))
    any (f ∷ files) zero d e lt = refl
    any (f ∷ files) (suc place) d e lt = any files place d e (omega (arith, lt))

-- what is read at a place is of the thing there
pub tree_at : {X Y : Type 0} (f : X → Y) (xs : List X) (ys : List Y) (i : ℕ) (x : X) (y : Y) → i < length xs → ys ≡ map f xs → x ≡ get_or xs i x → y
    ≡ get_or ys i y
    → y ≡ f x
tree_at f xs ys i x y lt are one two = two ∙ ap (λ l. get_or l i y) are ∙ get_or-map f xs i x y lt ∙ ap f (sym one)
