-- What contracts see of a blocked filter, and what its calls do. It has the parts of a Bloom filter
-- (`bloom_plain` Filter): clear, union, intersection, equality and counts are the same of both
-- kinds. Only the positions of a hash are others. This project's own.
use Rattle.std.specs.Prelude.{◌≡◌, ℕ, ◌/◌, ◌%◌, ◌^◌, ◌<◌, ◌≤◌, ◌||◌, List, length, map}
use Rattle.bloom_parts.specs.Content.{content}
use Rattle.bloom_plain.specs.Filter.{Filter, SameShape, Placement}
use Rattle.bloom_blocked.specs.Lines.{line_positions, are_in_line}
use Rattle.bloom_blocked.specs.Many.{positions_in_lines}

-- the shape of a blocked filter: whole lines of eight words, from 8 to 2^58 - 8 words, and from 1
-- to 2^32 - 1 hashes
pub record IsBlockedShape (words hashes : ℕ) : Type 0 where
  pub some_words : 8 ≤ words
  pub few_words : words < 2 ^ 58
  pub whole_lines : words % 8 ≡ 0
  pub some_hashes : 1 ≤ hashes
  pub few_hashes : hashes < 2 ^ 32

-- the filter has the shape of a blocked one
abbrev pub HasBlockedShape : {S : Type 0} → Filter S → Type 0
HasBlockedShape f = IsBlockedShape (length f.words) f.hashes

-- the number of lines, which is one for each eight words
abbrev pub num_lines_of : {S : Type 0} → Filter S → ℕ
num_lines_of f = length f.words / 8

-- a blocked filter has the positions of a hash in one line
abbrev pub in_lines : Placement
in_lines = record {
  positions = λ words. line_positions (words / 8);
  are_in = λ words. are_in_line (words / 8);
}

-- from old to new the hashes of a list were inserted: the positions of all of them were set
pub record InsertsAllInLines {S : Type 0} (old : Filter S) (hashes : List ℕ) (new : Filter S)
    : Type 0 where
  pub bits : (p : ℕ) → content new.words p
      ≡ (content old.words p || positions_in_lines (num_lines_of old) old.hashes hashes p)
  pub shape : SameShape old new
  pub hasher : new.hasher ≡ old.hasher

-- from old to new the items of a list were inserted, each by its hash under the hasher
abbrev pub InsertsItemsInLines :
    {S T : Type 0} → (S → T → ℕ) → Filter S → List T → Filter S → Type 0
InsertsItemsInLines hash_of old items new =
    InsertsAllInLines old (map (hash_of old.hasher) items) new
