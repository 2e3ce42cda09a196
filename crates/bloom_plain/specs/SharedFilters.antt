-- What contracts see of a filter that threads share, of either kind. They don't see its words,
-- since any thread may change them at any time. This project's own.
use Rattle.std.specs.Prelude.{◌≡◌, ℕ, length}
use Rattle.bloom_parts.specs.Made.{SharedWords, BeganWith}
use Rattle.bloom_plain.specs.Filter.{Filter}

-- the vector of the words, the number of hashes, and the hasher
pub record SharedFilter (S : Type 0) : Type 0 where
  pub words : SharedWords
  pub hashes : ℕ
  pub hasher : S

-- two shared filters have equal numbers of words and of hashes
pub record HaveSameShape {S : Type 0} (f g : SharedFilter S) : Type 0 where
  pub words : f.words.count ≡ g.words.count
  pub hashes : f.hashes ≡ g.hashes

-- a shared filter began with the words of a plain one, and has its number of words, its number of
-- hashes and its hasher
pub record HasFormOf {S : Type 0} (f : SharedFilter S) (plain : Filter S) : Type 0 where
  pub began : BeganWith f.words plain.words
  pub words : f.words.count ≡ length plain.words
  pub hashes : f.hashes ≡ plain.hashes
  pub hasher : f.hasher ≡ plain.hasher
