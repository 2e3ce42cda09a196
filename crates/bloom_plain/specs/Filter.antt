-- What contracts see of a Bloom filter, and what a caller tests of it (B. H. Bloom, 1970).
use Rattle.std.specs.Prelude.{◌≡◌, ◌<◌, ◌≤◌, ℕ, ◌*◌, ◌^◌, Bool, false, ◌||◌, ◌&&◌, List, length, refl, nat_eq}
use Rattle.std.specs.Cmp.Lexicographic.{pointwise}
use Rattle.std.specs.Coded.{Coded, code_by, coded×, coded_ℕ, coded_list}
use Rattle.bloom_parts.specs.Content.{content}
use Rattle.bloom_parts.specs.Places.{positions, are_in}

-- a filter: its words, its number of hashes, and its hasher
pub record Filter (S : Type 0) : Type 0 where
  pub words : List ℕ
  pub hashes : ℕ
  pub hasher : S

-- a filter is stored as its fields
abbrev pub filter_code : {S : Type 0} → Coded S → Coded (Filter S)
filter_code {S} code =
    code_by (List ℕ × (ℕ × S)) (coded× (coded_list coded_ℕ) (coded× coded_ℕ code))
    (λ f. (f.words, (f.hashes, f.hasher)))
    (λ p. record { words = p.0; hashes = p.1.0; hasher = p.1.1 }) (λ _. refl)

-- the number of bits, which is 64 for each word
abbrev pub num_bits_of : {S : Type 0} → Filter S → ℕ
num_bits_of f = 64 * length f.words

-- the shape of a filter: from 1 to 2^58 - 1 words, so that the number of bits fits 64 bits, and
-- from 1 to 2^32 - 1 hashes
pub record IsShape (words hashes : ℕ) : Type 0 where
  pub some_words : 1 ≤ words
  pub few_words : words < 2 ^ 58
  pub some_hashes : 1 ≤ hashes
  pub few_hashes : hashes < 2 ^ 32

-- the filter has a shape, which each call that reads a filter promises
abbrev pub HasShape : {S : Type 0} → Filter S → Type 0
HasShape f = IsShape (length f.words) f.hashes

-- two filters have as many words and as many hashes
pub record SameShape {S : Type 0} (f g : Filter S) : Type 0 where
  pub words : length f.words ≡ length g.words
  pub hashes : f.hashes ≡ g.hashes

-- where a kind of filter has the positions of a hash, by its numbers of words and of hashes, and
-- whether all of them are in a set
pub record Placement : Type 0 where
  pub positions : ℕ → ℕ → ℕ → ℕ → Bool
  pub are_in : ℕ → ℕ → ℕ → (ℕ → Bool) → Bool

-- a Bloom filter has them anywhere among its bits
abbrev pub anywhere : Placement
anywhere = record {
  positions = λ words. positions (64 * words);
  are_in = λ words. are_in (64 * words);
}

-- the set of the positions of a hash
abbrev pub positions_of : {S : Type 0} → Placement → Filter S → ℕ → ℕ → Bool
positions_of place f hash = place.positions (length f.words) f.hashes hash

-- whether a filter contains a hash: all positions of the hash are set
abbrev pub contains : {S : Type 0} → Placement → Filter S → ℕ → Bool
contains place f hash = place.are_in (length f.words) f.hashes hash (content f.words)

-- an insert took the old filter to the new: the positions of a hash were set, and the reply is
-- whether all of them were set before
pub record Inserts {S : Type 0} (place : Placement) (old : Filter S) (hash : ℕ) (new : Filter S)
    (reply : Bool) : Type 0 where
  pub answers : reply ≡ contains place old hash
  pub bits : (p : ℕ) → content new.words p
      ≡ (content old.words p || positions_of place old hash p)
  pub shape : SameShape old new
  pub hasher : new.hasher ≡ old.hasher

-- a clear took the old filter to the new: every position was cleared
pub record Clears {S : Type 0} (old new : Filter S) : Type 0 where
  pub bits : (p : ℕ) → content new.words p ≡ false
  pub shape : SameShape old new
  pub hasher : new.hasher ≡ old.hasher

-- a union took the old filter to the new: the positions that are set in the other were set
pub record Unites {S : Type 0} (old other new : Filter S) : Type 0 where
  pub bits : (p : ℕ) → content new.words p ≡ (content old.words p || content other.words p)
  pub shape : SameShape old new
  pub hasher : new.hasher ≡ old.hasher

-- an intersection took the old filter to the new: the positions that are clear in the other were
-- cleared
pub record Intersects {S : Type 0} (old other new : Filter S) : Type 0 where
  pub bits : (p : ℕ) → content new.words p ≡ (content old.words p && content other.words p)
  pub shape : SameShape old new
  pub hasher : new.hasher ≡ old.hasher

-- whether filters are equal: their words are, and their numbers of hashes
abbrev pub same_filter : {S : Type 0} → Filter S → Filter S → Bool
same_filter f g = pointwise nat_eq f.words g.words && nat_eq f.hashes g.hashes
