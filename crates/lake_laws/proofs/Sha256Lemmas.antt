-- A SHA-256 is 32 bytes.
use Rattle.std.proofs.Common.{ℕ, zero, suc, ◌<◌, List, [], ◌∷◌, ◌++◌, arith}
use Rattle.std.specs.Prelude.{slice_index}
use Rattle.std.specs.Int.{w32, to_be_bytes, byte_at, bytes_high_first}
use Rattle.sha2.specs.Sha256.{digest_bytes, sha256}
use Rattle.sha2.proofs.Facts256.{length-sha256}
use Rattle.lake_format.specs.Spelling.{AreBytes, IsDigest}

byte_below : (k n : ℕ) → byte_at k n < 256
byte_below zero n = omega arith
byte_below (suc k) n = omega arith

bytes_high : (k n i : ℕ) → slice_index (bytes_high_first k n) i < 256
bytes_high zero n i = omega arith
bytes_high (suc k) n zero = byte_below k n
bytes_high (suc k) n (suc i) = bytes_high k n i

bytes_append : (a b : List ℕ) → AreBytes a → AreBytes b → AreBytes (a ++ b)
bytes_append [] b left right i = right i
bytes_append (x ∷ a) b left right zero = left zero
bytes_append (x ∷ a) b left right (suc i) = bytes_append a b (λ k. left (suc k)) right i

words_are_bytes : (h : List ℕ) (n : ℕ) → AreBytes (digest_bytes h n)
unfolding digest_bytes
words_are_bytes h zero = λ i. omega arith
words_are_bytes h (suc n) = bytes_append (digest_bytes h n) (to_be_bytes w32 (slice_index h n)) (words_are_bytes h n) (bytes_high 4 (slice_index h n))

pub is_digest : (bytes : List ℕ) → IsDigest (sha256 bytes)
unfolding sha256
is_digest bytes = record { long = length-sha256 bytes; bytes = words_are_bytes _ 8 }
