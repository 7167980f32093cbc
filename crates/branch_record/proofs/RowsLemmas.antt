-- Tokens as they are kept: rows, and a change that waits.
use Rattle.std.proofs.Common.{◌≡◌, ℕ, Bool, true, false, cond, not, ◌&&◌, ◌||◌, List, [], ◌∷◌, Some, None, Option, refl, sym, ap, subst, ◌∙◌, ◌≤◌, arith}
use Rattle.std.specs.Bool.{nat_eq, ◌==◌}
use Rattle.std.specs.Option.{is_some, option_and_then, option_or}
use Rattle.std.specs.Ordering.{nat_cmp, eq_by_cmp, is_eq}
use Rattle.std.specs.Map.{lookup}
use Rattle.std.specs.Str.{bytes_eq}
use Rattle.std.specs.Cmp.{tied_itself, unsigned_tied}
use Rattle.std.specs.Cmp.Lexicographic.{texts_ties}
use Rattle.std.specs.FinMap.{get, len, insert, empty, entries, contains_key, put, get-insert, get-empty, entries-insert, empty_of_len, len-entries, len-empty}
use Rattle.std.proofs.lemmas.Bool.{eqb-true}
use Rattle.std.proofs.lemmas.List.{nil_from_length}
use Rattle.std.proofs.lemmas.Cmp.{nat_list_cmp_total}
use Rattle.lake_base.specs.Maps.{byte_order}
use Rattle.lake_values.specs.KeyMap.{ChangesValue}
use Rattle.lake_values.specs.Reset.{drops_path, changes_after_reset}
use Rattle.lake_values.specs.declared.commit.ResetWhat.{ResetWhat}
use Rattle.lake_values.specs.declared.entry.Change.{Change}
use Rattle.branch_record.specs.Tokens.{TokenMap, HasNoEmptyToken, changes_under, with_changes, with_change}
use Rattle.branch_record.specs.TokenRows.{Waiting, room, some_changes, tokens_of, with_waiting, waiting_after, waiting_under, waiting_said, put_row, rows_under}
use Rattle.branch_record.proofs.ChangesLemmas.{reset_dropped, reset_kept}
use Rattle.branch_record.proofs.PrefixLemmas.{reset_nothing}
use Rattle.branch_record.proofs.TokensLemmas.{kept, value, value_kept, kept_empty, same_tokens, turned, get_with, under_with, under_here, under_other}
use Rattle.branch_record.proofs.TokensLemmas.{with_with, with_other}

abbrev pub TokenRows : Type 0
TokenRows = List (ℕ × ChangesValue)

-- what the rows have under a token
abbrev pub row_of : TokenRows → ℕ → Option ChangesValue
row_of rows q = lookup (eq_by_cmp nat_cmp q) rows

kept_either : (b : Bool) (c : ChangesValue) (o : Option ChangesValue) → cond b (kept c) (option_and_then kept o) ≡ option_and_then kept (cond b (Some c) o)
kept_either true c o = refl
kept_either false c o = refl

pub get_rows : (rows : TokenRows) (q : ℕ) → get (tokens_of rows) q ≡ option_and_then kept (row_of rows q)
unfolding tokens_of
get_rows [] q = get-empty nat_cmp q
get_rows (row ∷ rows) q =
    get_with (tokens_of rows) row.0 row.1 q
    ∙ ap (λ b. cond b (kept row.1) (get (tokens_of rows) q)) (sym (unsigned_tied q row.0))
    ∙ ap (cond (eq_by_cmp nat_cmp q row.0) (kept row.1)) (get_rows rows q)
    ∙ kept_either (eq_by_cmp nat_cmp q row.0) row.1 (row_of rows q)

value_row : (o : Option ChangesValue) → value (option_and_then kept o) ≡ value o
value_row None = refl
value_row (Some c) = value_kept c

pub under_rows : (rows : TokenRows) (q : ℕ) → changes_under (tokens_of rows) q ≡ value (row_of rows q)
unfolding changes_under
under_rows rows q = ap value (get_rows rows q) ∙ value_row (row_of rows q)

kept_row : (o : Option ChangesValue) → option_and_then kept o ≡ kept (value o)
kept_row None = sym kept_empty
kept_row (Some c) = refl

either_row : (b : Bool) (w o : Option ChangesValue) → option_and_then kept (cond b w o) ≡ cond b (kept (value w)) (option_and_then kept o)
either_row true w o = kept_row w
either_row false w o = refl

-- rows that differ from others at one token are their tokens with other changes under it
pub rows_changed : (rows others : TokenRows) (token : ℕ) (w : Option ChangesValue)
    → ((q : ℕ) → row_of others q ≡ cond (eq_by_cmp nat_cmp token q) w (row_of rows q))
    → tokens_of others ≡ with_changes (tokens_of rows) token (value w)
rows_changed rows others token w h = same_tokens _ _ (λ q.
    get_rows others q ∙ ap (option_and_then kept) (h q) ∙ either_row (eq_by_cmp nat_cmp token q) w (row_of rows q)
    ∙ ap (λ b. cond b (kept (value w)) (option_and_then kept (row_of rows q))) (unsigned_tied token q ∙ turned token q)
    ∙ ap (cond (nat_eq q token) (kept (value w))) (sym (get_rows rows q))
    ∙ sym (get_with (tokens_of rows) token (value w) q))

no_row : (rows : TokenRows) (token q : ℕ) (w : Option ChangesValue) → option_and_then kept w ≡ None → option_and_then kept (row_of rows token) ≡ None
    → (b : Bool) → eq_by_cmp nat_cmp token q ≡ b → option_and_then kept (cond b w (row_of rows q)) ≡ option_and_then kept (row_of rows q)
no_row rows token q w none had true e =
    none ∙ sym (ap (λ n. option_and_then kept (row_of rows n)) (sym (eqb-true token q (sym (unsigned_tied token q) ∙ e))) ∙ had)
no_row rows token q w none had false e = refl

-- a row that has no changes counts for nothing
pub rows_same : (rows others : TokenRows) (token : ℕ) (w : Option ChangesValue)
    → ((q : ℕ) → row_of others q ≡ cond (eq_by_cmp nat_cmp token q) w (row_of rows q))
    → option_and_then kept w ≡ None → option_and_then kept (row_of rows token) ≡ None → tokens_of others ≡ tokens_of rows
rows_same rows others token w h none had = same_tokens _ _ (λ q.
    get_rows others q ∙ ap (option_and_then kept) (h q) ∙ no_row rows token q w none had _ refl ∙ sym (get_rows rows q))

-- ---- the change that waits
-- changes with one more aren't none
pub kept_insert : (c : ChangesValue) (path : List ℕ) (change : Change) → kept (insert c path change) ≡ Some (insert c path change)
kept_insert c path change = by (len (insert c path change) == 0) refl
  where
    found : get (insert c path change) path ≡ Some change
    found = get-insert nat_list_cmp_total c path change path ∙ ap (λ r. cond (is_eq r) (Some change) (get c path)) (tied_itself nat_list_cmp_total path)

    by : (b : Bool) → (len (insert c path change) == 0) ≡ b → cond b None (Some (insert c path change)) ≡ Some (insert c path change)
    by true e =
        let none : insert c path change ≡ empty = empty_of_len _ (eqb-true _ _ e) in
        let missed : Some change ≡ None = sym found ∙ ap (λ m. get m path) none ∙ get-empty byte_order path in
        cc
    by false e = refl

waits_either : (b : Bool) (x : Option ChangesValue) (c : ChangesValue) → is_some (cond b (Some c) x) ≡ (b || is_some x)
waits_either true x c = refl
waits_either false x c = refl

-- whether there are changes under a token
pub contains_waiting : (w : Waiting) (m : TokenMap) (token : ℕ)
    → contains_key (with_waiting w m) token ≡ (is_some (waiting_under w token) || contains_key m token)
unfolding with_waiting with_change
contains_waiting None m token = refl
contains_waiting (Some w) m token =
    let new = insert (changes_under m w.0) w.1 w.2 in
    ap is_some (get_with m w.0 new token) ∙ ap (λ o. is_some (cond (nat_eq token w.0) o (get m token))) (kept_insert (changes_under m w.0) w.1 w.2)
    ∙ waits_either (nat_eq token w.0) (get m token) new ∙ ap (λ b. b || contains_key m token) (tested (nat_eq token w.0))
  where
    tested : (b : Bool) → b ≡ is_some {T = List ℕ × Change} (cond b (Some (w.1, w.2)) None)
    tested true = refl
    tested false = refl

module _ (m : TokenMap) (path : List ℕ) where
  found_waiting : (w : ℕ × List ℕ × Change) (token : ℕ) (b : Bool) → nat_eq token w.0 ≡ b
      → get (cond b (insert (changes_under m w.0) w.1 w.2) (changes_under m token)) path
      ≡ option_or (cond (b && bytes_eq path w.1) (Some w.2) None) (get (changes_under m token) path)
  found_waiting w token true e =
      get-insert nat_list_cmp_total (changes_under m w.0) w.1 w.2 path
      ∙ ap (λ b. cond b (Some w.2) (get (changes_under m w.0) path)) (sym (texts_ties path w.1))
      ∙ ap (λ n. cond (bytes_eq path w.1) (Some w.2) (get (changes_under m n) path)) (sym (eqb-true token w.0 e))
      ∙ or_else (bytes_eq path w.1) w.2 (get (changes_under m token) path)
    where
      or_else : (b : Bool) (c : Change) (o : Option Change) → cond b (Some c) o ≡ option_or (cond b (Some c) None) o
      or_else true c o = refl
      or_else false c o = refl
  found_waiting w token false e = refl

  -- what is found under a token at a path
  pub get_waiting : (w : Waiting) (token : ℕ)
      → get (changes_under (with_waiting w m) token) path ≡ option_or (waiting_said w token path) (get (changes_under m token) path)
  unfolding with_waiting with_change
  get_waiting None token = refl
  get_waiting (Some w) token =
      ap (λ c. get c path) (under_with m w.0 (insert (changes_under m w.0) w.1 w.2) token)
      ∙ found_waiting w token (nat_eq token w.0) refl

module _ (m : TokenMap) where
  rows_waiting : (w : ℕ × List ℕ × Change) (token : ℕ) (b : Bool) → nat_eq token w.0 ≡ b
      → entries (cond b (insert (changes_under m w.0) w.1 w.2) (changes_under m token))
      ≡ put_row (cond b (Some (w.1, w.2)) None) (entries (changes_under m token))
  rows_waiting w token true e =
      entries-insert nat_list_cmp_total (changes_under m w.0) w.1 w.2
      ∙ ap (λ n. put byte_order w.1 w.2 (entries (changes_under m n))) (sym (eqb-true token w.0 e))
  rows_waiting w token false e = refl

  -- the rows under a token, in order
  pub entries_waiting : (w : Waiting) (token : ℕ)
      → entries (changes_under (with_waiting w m) token) ≡ put_row (waiting_under w token) (entries (changes_under m token))
  unfolding with_waiting with_change
  entries_waiting None token = refl
  entries_waiting (Some w) token =
      ap entries (under_with m w.0 (insert (changes_under m w.0) w.1 w.2) token) ∙ rows_waiting w token (nat_eq token w.0) refl

  -- ---- a reset under a token, where a change waits
  module _ (what : ResetWhat) (path : List ℕ) (change : Change) where
    abbrev left : ChangesValue → ChangesValue
    left = changes_after_reset what

    -- under another token
    elsewhere : (k token : ℕ) → nat_eq token k ≡ false
        → with_change (with_changes m token (left (changes_under m token))) k path change
        ≡ with_changes (with_change m k path change) token (left (changes_under (with_change m k path change) token))
    unfolding with_change
    elsewhere k token ne =
        let new = insert (changes_under m k) path change in
        ap (λ c. with_changes (with_changes m token (left (changes_under m token))) k (insert c path change))
        (under_other m token (left (changes_under m token)) k (turned k token ∙ ne))
        ∙ with_other m token k (left (changes_under m token)) new ne
        ∙ ap (λ c. with_changes (with_changes m k new) token (left c)) (sym (under_other m k new token ne))

    -- under the same, where the reset drops it
    dropped : (k : ℕ) → drops_path what path ≡ true
        → with_changes m k (left (changes_under m k)) ≡ with_changes (with_change m k path change) k (left (changes_under (with_change m k path change) k))
    unfolding with_change
    dropped k d =
        let new = insert (changes_under m k) path change in
        ap (with_changes m k) (sym (reset_dropped what (changes_under m k) path change d))
        ∙ sym (with_with m k new (left new))
        ∙ ap (λ c. with_changes (with_changes m k new) k (left c)) (sym (under_here m k new))

    -- under the same, where it leaves it
    stays : (k : ℕ) → drops_path what path ≡ false
        → with_change (with_changes m k (left (changes_under m k))) k path change
        ≡ with_changes (with_change m k path change) k (left (changes_under (with_change m k path change) k))
    unfolding with_change
    stays k d =
        let new = insert (changes_under m k) path change in
        let old = left (changes_under m k) in
        ap (λ c. with_changes (with_changes m k old) k (insert c path change)) (under_here m k old)
        ∙ with_with m k old (insert old path change)
        ∙ ap (with_changes m k) (sym (reset_kept what (changes_under m k) path change d))
        ∙ sym (with_with m k new (left new))
        ∙ ap (λ c. with_changes (with_changes m k new) k (left c)) (sym (under_here m k new))

    under_one : (k token : ℕ) (b d : Bool) → nat_eq token k ≡ b → drops_path what path ≡ d
        → with_waiting (cond (b && d) None (Some (k, path, change))) (with_changes m token (left (changes_under m token)))
        ≡ with_changes (with_change m k path change) token (left (changes_under (with_change m k path change) token))
    unfolding with_waiting
    under_one k token true true e g = subst (λ n. with_changes m n (left (changes_under m n))
        ≡ with_changes (with_change m k path change) n (left (changes_under (with_change m k path change) n))) (sym (eqb-true token k e)) (dropped k g)
    under_one k token true false e g = subst (λ n. with_change (with_changes m n (left (changes_under m n))) k path change
        ≡ with_changes (with_change m k path change) n (left (changes_under (with_change m k path change) n))) (sym (eqb-true token k e)) (stays k g)
    under_one k token false d e g = elsewhere k token e

  -- a reset of the rows and of the change that waits is one of both together
  pub reset_waiting : (w : Waiting) (token : ℕ) (what : ResetWhat)
      → with_waiting (waiting_after w token what) (with_changes m token (changes_after_reset what (changes_under m token)))
      ≡ with_changes (with_waiting w m) token (changes_after_reset what (changes_under (with_waiting w m) token))
  unfolding with_waiting
  reset_waiting None token what = refl
  reset_waiting (Some w) token what = under_one what w.1 w.2 w.0 token (nat_eq token w.0) (drops_path what w.1) refl refl

-- ---- what is looked at under a token
-- where there is room, no change waits
pub none_waits : (w : Waiting) (m : TokenMap) → 1 ≤ room w → with_waiting w m ≡ m
unfolding with_waiting
none_waits None m h = refl
none_waits (Some w) m h = absurd (omega (arith, h))

no_entries : entries (empty {X = Change} {R = byte_order}) ≡ []
no_entries = nil_from_length _ (sym (len-entries empty) ∙ len-empty byte_order Change)

rows_value : (o : Option ChangesValue) → rows_under o ≡ entries (value o)
rows_value None = sym no_entries
rows_value (Some c) = refl

-- the rows that are found under a token, and the change that waits, are its changes
pub entries_found : (rows : TokenRows) (w : Waiting) (token : ℕ) (found : Option ChangesValue) (waits : Option (List ℕ × Change))
    → found ≡ row_of rows token → waits ≡ waiting_under w token
    → put_row waits (rows_under found) ≡ entries (changes_under (with_waiting w (tokens_of rows)) token)
entries_found rows w token found waits is waited =
    (λ i. put_row (waited i) (rows_under (is i)))
    ∙ ap (put_row (waiting_under w token)) (rows_value (row_of rows token) ∙ ap entries (sym (under_rows rows token)))
    ∙ sym (entries_waiting (tokens_of rows) w token)

-- the change that is found, and that waits
pub get_found : (rows : TokenRows) (w : Waiting) (token : ℕ) (path : List ℕ) (waits : Option Change) (found : Option Change)
    → waits ≡ waiting_said w token path → found ≡ get (value (row_of rows token)) path
    → option_or waits found ≡ get (changes_under (with_waiting w (tokens_of rows)) token) path
get_found rows w token path waits found waited is =
    (λ i. option_or (waited i) (is i))
    ∙ ap (λ c. option_or (waiting_said w token path) (get c path)) (sym (under_rows rows token))
    ∙ sym (get_waiting (tokens_of rows) path w token)

is_kept : (o : Option ChangesValue) → is_some (option_and_then kept o) ≡ some_changes o
is_kept None = refl
is_kept (Some c) = by (len c == 0)
  where
    by : (b : Bool) → is_some (cond b None (Some c)) ≡ not b
    by true = refl
    by false = refl

pub contains_found : (rows : TokenRows) (w : Waiting) (token : ℕ) (waits : Bool) (found : Bool)
    → waits ≡ is_some (waiting_under w token) → found ≡ some_changes (row_of rows token)
    → (waits || found) ≡ contains_key (with_waiting w (tokens_of rows)) token
contains_found rows w token waits found waited is =
    (λ i. waited i || is i)
    ∙ ap (λ b. is_some (waiting_under w token) || b) (sym (ap is_some (get_rows rows token) ∙ is_kept (row_of rows token)))
    ∙ sym (contains_waiting w (tokens_of rows) token)

-- what is kept of changes that aren't found, or aren't there
pub none_kept : (o : Option ChangesValue) → some_changes o ≡ false → option_and_then kept o ≡ None
none_kept None e = refl
none_kept (Some c) e = by (len c == 0) e
  where
    by : (b : Bool) → not b ≡ false → cond b None (Some c) ≡ None
    by true e = refl
    by false e = cc

pub absent_kept : (o : Option ChangesValue) → is_some o ≡ false → option_and_then kept o ≡ None
absent_kept None e = refl
absent_kept (Some c) e = cc

pub none_waiting : (m : TokenMap) → with_waiting None m ≡ m
unfolding with_waiting
none_waiting m = refl

pub one_waiting : (w : ℕ × List ℕ × Change) (m : TokenMap) → with_waiting (Some w) m ≡ with_change m w.0 w.1 w.2
unfolding with_waiting
one_waiting w m = refl

-- ---- a row that is written
kept_under : (rows : TokenRows) (token : ℕ) → kept (changes_under (tokens_of rows) token) ≡ get (tokens_of rows) token
kept_under rows token = ap kept (under_rows rows token) ∙ sym (kept_row (row_of rows token)) ∙ sym (get_rows rows token)

-- the changes that are there, put under their token, change nothing
pub with_same : (rows : TokenRows) (token : ℕ) → with_changes (tokens_of rows) token (changes_under (tokens_of rows) token) ≡ tokens_of rows
with_same rows token = same_tokens _ _ (λ q. get_with (tokens_of rows) token (changes_under (tokens_of rows) token) q ∙ by q (nat_eq q token) refl)
  where
    by : (q : ℕ) (b : Bool) → nat_eq q token ≡ b → cond b (kept (changes_under (tokens_of rows) token)) (get (tokens_of rows) q) ≡ get (tokens_of rows) q
    by q true e = kept_under rows token ∙ ap (get (tokens_of rows)) (sym (eqb-true q token e))
    by q false e = refl

-- a row that was found, and that was written
pub rows_written : (rows others : TokenRows) (token : ℕ) (found w : ChangesValue)
    → Some found ≡ row_of rows token
    → ((q : ℕ) → row_of others q ≡ cond (eq_by_cmp nat_cmp token q) (Some w) (row_of rows q))
    → (found ≡ changes_under (tokens_of rows) token) × (tokens_of others ≡ with_changes (tokens_of rows) token w)
rows_written rows others token found w is h = (
  ap value is ∙ sym (under_rows rows token),
  rows_changed rows others token (Some w) h,
)

-- where no row is found, there is nothing to reset
pub reset_absent : (rows : TokenRows) (token : ℕ) (what : ResetWhat) → None ≡ row_of rows token
    → tokens_of rows ≡ with_changes (tokens_of rows) token (changes_after_reset what (changes_under (tokens_of rows) token))
reset_absent rows token what none =
    let bare : changes_under (tokens_of rows) token ≡ empty = under_rows rows token ∙ ap value (sym none) in
    let left : changes_after_reset what empty ≡ empty = reset_nothing what empty (λ q d. get-empty byte_order q) in
    sym (with_same rows token) ∙ ap (with_changes (tokens_of rows) token) (bare ∙ sym left ∙ ap (changes_after_reset what) (sym bare))

pub with_change_is : (m : TokenMap) (token : ℕ) (path : List ℕ) (change : Change)
    → with_change m token path change ≡ with_changes m token (insert (changes_under m token) path change)
unfolding with_change
with_change_is m token path change = refl

-- ---- no token is there without changes
kept_waiting : (rows : TokenRows) (w : Waiting) (q : ℕ) → get (with_waiting w (tokens_of rows)) q ≡ kept (changes_under (with_waiting w (tokens_of rows)) q)
unfolding with_waiting with_change
kept_waiting rows None q = sym (kept_under rows q)
kept_waiting rows (Some w) q =
    let t = tokens_of rows in
    let new = insert (changes_under t w.0) w.1 w.2 in
    get_with t w.0 new q ∙ ap (cond (nat_eq q w.0) (kept new)) (sym (kept_under rows q)) ∙ kept_cond (nat_eq q w.0) new (changes_under t q)
    ∙ ap kept (sym (under_with t w.0 new q))
  where
    kept_cond : (b : Bool) (x y : ChangesValue) → cond b (kept x) (kept y) ≡ kept (cond b x y)
    kept_cond true x y = refl
    kept_cond false x y = refl

pub no_empty_token : (rows : TokenRows) (w : Waiting) → HasNoEmptyToken (with_waiting w (tokens_of rows))
no_empty_token rows w token there bare =
    let wrong : true ≡ false = sym there ∙ ap is_some (kept_waiting rows w token ∙ ap kept bare ∙ kept_empty) in
    absurd cc
