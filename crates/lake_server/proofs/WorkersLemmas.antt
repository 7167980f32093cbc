-- What is so of the worker at each place is so of all.
use native.Mathlib.Omega.{arith}
use Rattle.std.proofs.Common.{◌≡◌, ◌<◌, suc, ℕ, List, [], ◌∷◌, length, map, slice_index_or, subst}
use Rattle.lake_server.specs.ServedConnections.{HasServed, PartViews, worker_view}
use Rattle.lake_server.specs.Workers.{HaveServed}
use Rattle.lake_server.specs.declared.worker.Worker.{Worker}

-- a worker that was lent, and given back, under other names
pub lent : {B C L : Type 0} (show : PartViews B C L) {old before now after : Worker B C L} → before ≡ old → after ≡ now
    → HasServed (worker_view show before) (worker_view show after) → HasServed (worker_view show old) (worker_view show now)
lent show {old = old} {after = after} one other served =
    subst (λ w. HasServed (worker_view show old) (worker_view show w)) other
    (subst (λ w. HasServed (worker_view show w) (worker_view show after)) one served)

pub each_served : {B C L : Type 0} (show : PartViews B C L) (old now : List (Worker B C L)) → length now ≡ length old
    → ((i : ℕ) (d : Worker B C L) → i < length old → HasServed (worker_view show (slice_index_or old i d)) (worker_view show (slice_index_or now i d)))
    → HaveServed (map (worker_view show) old) (map (worker_view show) now)
each_served show [] [] same each = tt
each_served show [] (n ∷ ns) same each = omega arith
each_served show (o ∷ os) [] same each = omega arith
each_served show (o ∷ os) (n ∷ ns) same each =
    (each 0 o (omega arith), each_served show os ns (omega arith) (λ i d within. each (suc i) d (omega arith)))
