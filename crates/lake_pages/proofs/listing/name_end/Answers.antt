use Rattle.std.proofs.Common.{◌≡◌, ◌<◌, ◌-◌, ◌+◌, ℕ, List, length, get_or, set, ap, subst, sym, ◌∙◌, arith}
use Rattle.std.proofs.lemmas.List.{get_or_default}
use Rattle.lake_pages.proofs.ListingNameLemmas.{low_end, end_is}
use Rattle.lake_pages.proofs.listing.name_end.Goals as goal

-- the last byte, as a read of the copy gives it
read_is : (name items : List ℕ) (read : ℕ) → 0 < length name → items ≡ name → read ≡ get_or items (length name - 1) read
    → read ≡ get_or name (length name - 1) 0
read_is name items read some same is =
    is ∙ ap (λ l. get_or l (length name - 1) read) same ∙ get_or_default name (length name - 1) read 0 (omega arith)

pub overflow_add-index_mut : goal.overflow_add-index_mut
overflow_add-index_mut c =
    let name : List ℕ = c.args.name.now in
    let read = read_is name c.in_ok-end.end.items c.index_mut.result.now c.requires.some c.in_ok-end.ensures.items c.index_mut.ensures.value in
    let low : c.index_mut.result.now < 255 = subst (λ n. n < 255) (sym read) (low_end name c.requires.utf8 c.requires.some) in
    omega arith

pub returns : goal.returns
returns c =
    let name : List ℕ = c.args.name.now in
    let place : ℕ = length name - 1 in
    let read = read_is name c.in_ok-end.end.items c.index_mut.result.now c.requires.some c.in_ok-end.ensures.items c.index_mut.ensures.value in
    ap (λ l. set l place (c.index_mut.result.now + 1)) c.in_ok-end.ensures.items ∙ ap (λ n. set name place (n + 1)) read ∙ end_is name
