-- The limits of a committer, from the tests of its parts.
use Rattle.std.proofs.Common.{◌≡◌, ◌≤◌, ℕ, Bool, true, false, cond, eqb, ltb, zero, suc, List, length, refl, arith}
use Rattle.std.specs.List.{list_all}
use Rattle.std.proofs.lemmas.Bool.{ltb-false}
use Rattle.api_bodies.specs.HeadFields.{is_visible, is_committer}

-- what passes two tests and a third
pub parts : (empty long test : Bool) → cond empty false (cond long false test) ≡ true → (empty ≡ false) × (long ≡ false) × (test ≡ true)
parts true long test e = absurd cc
parts false true test e = absurd cc
parts false false test e = (refl, refl, e)

pub some_of : (n : ℕ) → eqb n 0 ≡ false → 1 ≤ n
some_of zero e = absurd cc
some_of (suc n) e = omega arith

-- a committer has 1 to 128 bytes
pub committer_some : (bytes : List ℕ) → is_committer bytes ≡ true → 1 ≤ length bytes
committer_some bytes test =
    let p = parts (eqb (length bytes) 0) (ltb 128 (length bytes)) (list_all is_visible bytes) test in
    some_of (length bytes) p.0

pub committer_short : (bytes : List ℕ) → is_committer bytes ≡ true → length bytes ≤ 128
committer_short bytes test =
    let p = parts (eqb (length bytes) 0) (ltb 128 (length bytes)) (list_all is_visible bytes) test in
    ltb-false 128 (length bytes) p.1
