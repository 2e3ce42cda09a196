-- No words are no filter: no hash is contained.
use Rattle.std.proofs.Common.{◌≡◌, ℕ, ◌*◌, max, false, List, length, arith}
use Rattle.bloom_parts.specs.Content.{content}
use Rattle.bloom_parts.specs.Places.{place, are_in}
use Rattle.bloom_parts.proofs.PublishedLemmas.{are_in-off, content-past}

-- where there are no words no hash is contained, whatever the number of hashes
pub are_in-no_words : (words : List ℕ) (k hash : ℕ) → length words ≡ 0
    → are_in (64 * length words) (max 1 k) hash (content words) ≡ false
are_in-no_words words k hash none =
    let n = 64 * length words in
    are_in-off n (max 1 k) hash (content words) 0 (omega arith)
    (content-past words (place n hash 0) (omega (arith, none)))
