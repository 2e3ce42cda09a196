-- The lemmas on the definitions of this crate that crates above may cite. The other files of lemmas
-- are its own.

-- each position of a hash is a place that lies within the bits, and all are in a set exactly if
-- they are a part of it
pub use Rattle.bloom_parts.proofs.PlaceLemmas.{position-from, position-to, place-position}
pub use Rattle.bloom_parts.proofs.PlaceLemmas.{range_law}
pub use Rattle.bloom_parts.proofs.PlaceLemmas.{part-from, part-to}
-- one that isn't in a set decides
pub use Rattle.bloom_parts.proofs.PlaceLemmas.{are_in-off}
-- a power of a power
pub use Rattle.bloom_parts.proofs.PowerBounds.{pow-pow}
-- the one position of a mask
pub use Rattle.bloom_parts.proofs.ContentLemmas.{bit_is_on-mask}
-- bits of words that are or-ed or and-ed, and of the word 0
pub use Rattle.bloom_parts.proofs.ContentLemmas.{bit_is_on-or, bit_is_on-and, bit_is_on-zero}
-- a position that is set by its mask
pub use Rattle.bloom_parts.proofs.ContentLemmas.{content-set, get_or-itself}
-- the content at a bit of a word, and past the words, where no position is set
pub use Rattle.bloom_parts.proofs.WordLemmas.{content-at, content-past}
-- no position is set in zero words
pub use Rattle.bloom_parts.proofs.SetLemmas.{content-zeros}
-- two lists of deciders, one after the other, and the decisions that they come to
pub use Rattle.bloom_parts.proofs.DeciderLemmas.{last_decision-append, state-append}
pub use Rattle.bloom_parts.proofs.DeciderLemmas.{unwrap_or-option_or}
-- the positions of many hashes, in a filter of any kind, and bit sets that are filled bit by bit
pub use Rattle.bloom_parts.proofs.ManyLemmas.{adds-nothing, many-contained, many-join, many-next}
pub use Rattle.bloom_parts.proofs.ManyLemmas.{many-stretch}
pub use Rattle.bloom_parts.proofs.BitSetLemmas.{bits-next, content-where, no-bit}
-- bytes and more bytes are bytes
pub use Rattle.bloom_parts.proofs.BufferLemmas.{AreBytes-append}
-- a word behind others adds its own bits, and no more positions are set than there are
pub use Rattle.bloom_parts.proofs.CountLemmas.{count-push, count-most}
