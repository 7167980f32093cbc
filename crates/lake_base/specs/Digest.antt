-- The words of digests, passed on from the crates that define them.
-- the SHA-256 of some bytes (FIPS 180-4)
pub use Rattle.sha2.specs.Sha256.{sha256}
-- bytes as hex text, two lower-case digits for each
pub use Rattle.hex.specs.Hex.{encode_lower}
