-- The log of a commit: its ancestors from a date on, in the order of the log, page by page.
use Rattle.std.specs.Prelude.{◌≡◌, ◌≤◌, ◌++◌, ◌&&◌, true, ℕ, zero, suc, nat_le, nat_lt, Bool, List, [], ◌∷◌, length, take, Option, Some, None, if◌then◌else◌}
use Rattle.std.specs.List.{filter}
use Rattle.std.specs.Option.{IfSome}
use Rattle.lake_values.specs.Ancestry.{Graph, date, IsAncestor, comes_first, ancestors_in_order}
use Rattle.lake_base.specs.declared.digest.Digest.{Digest}

-- one page of a log: its ids, and whether one is left after them
pub record LogPageValue : Type 0 where
  pub ids : List Digest
  pub has_more : Bool

-- whether a commit comes after another in the order of the log; each does where there is no other
abbrev pub is_after : Graph → Option Digest → Digest → Bool
is_after graph None id = true
is_after graph (Some other) id = comes_first graph other id

-- whether a commit is dated at or after a moment; each is where there is no moment
abbrev pub is_since : Graph → Option ℕ → Digest → Bool
is_since graph None id = true
is_since graph (Some moment) id = nat_le moment (date graph id)

-- whether an ancestor is in a log: it comes after the other commit, and is dated at or after the moment
abbrev pub is_in_log : Graph → Option Digest → Option ℕ → Digest → Bool
is_in_log graph after since id = is_after graph after id && is_since graph since id

-- the ancestors of a commit that are in its log, in the order of the log
unfoldable pub log_after : Graph → Digest → Option Digest → Option ℕ → List Digest
log_after graph from after since = filter (is_in_log graph after since) (ancestors_in_order graph from)

-- a page is the first of them, so many
unfoldable pub log_page : Graph → Digest → Option Digest → Option ℕ → ℕ → LogPageValue
log_page graph from after since amount = record {
  ids = take amount (log_after graph from after since);
  has_more = nat_lt amount (length (log_after graph from after since));
}

-- what is in a log: an ancestor, dated at or after the moment, that comes after the other commit
pub record IsInLog (graph : Graph) (from : Digest) (after : Option Digest) (since : Option ℕ) (id : Digest) : Type 0 where
  pub ancestor : IsAncestor graph id from
  pub later : IfSome after (λ other. comes_first graph other id ≡ true)
  pub dated : IfSome since (λ moment. moment ≤ date graph id)

-- the last of these ids, or the one before where there is none
abbrev pub last_id : Option Digest → List Digest → Option Digest
last_id before [] = before
last_id before (id ∷ ids) = last_id (Some id) ids

-- the ids of at most so many pages, each taken after the last id of the one before
abbrev pub log_pages : ℕ → Graph → Digest → Option Digest → Option ℕ → ℕ → List Digest
log_pages zero graph from after since amount = []
log_pages (suc n) graph from after since amount =
    (log_page graph from after since amount).ids
    ++ (if (log_page graph from after since amount).has_more
    then log_pages n graph from (last_id after (log_page graph from after since amount).ids) since amount
    else [])
