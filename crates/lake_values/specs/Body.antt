-- Which bodies are an object's.
use Rattle.std.specs.Prelude.{◌≡◌, ℕ, List, length}
use Rattle.lake_base.specs.Digest.{sha256}
use Rattle.lake_values.specs.declared.entry.Place.{Place}
use Rattle.lake_values.specs.declared.entry.Place.TheVariants.{Own, External}
use Rattle.lake_values.specs.Entry.{EntryValue}

-- the bytes have the digest of an own place
abbrev pub HasDigest : Place → List ℕ → Type 0
HasDigest (Own number digest) body = sha256 body ≡ digest.0
HasDigest (External at checksum) body = ⊥

-- a body fits an own entry: its length is the entry's size, and its SHA-256 the entry's digest
pub record Fits (entry : EntryValue) (body : List ℕ) : Type 0 where
  pub size : length body ≡ entry.size
  pub digest : HasDigest entry.place body
