-- What one call after another appends.
use Rattle.std.proofs.Common.{◌≡◌, ℕ, List, [], ◌++◌, append_assoc}

pub four : (a b c d o0 o1 o2 o3 o4 : List ℕ) → o0 ≡ [] → o1 ≡ o0 ++ a → o2 ≡ o1 ++ b → o3 ≡ o2 ++ c → o4 ≡ o3 ++ d → o4 ≡ a ++ (b ++ (c ++ d))
four a b c d o0 o1 o2 o3 o4 e0 e1 e2 e3 e4 = rw (e4, e3, e2, e1, e0) (simp append_assoc)
