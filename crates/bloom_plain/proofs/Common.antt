-- The names that most proofs of this crate cite, besides those of the standard library, passed on
-- from one place. Declares nothing.
pub use Rattle.bloom_parts.proofs.PublishedLemmas.{part-from, part-to}
unfoldable pub use Rattle.bloom_parts.specs.Chain.{chain}
unfoldable pub use Rattle.bloom_parts.specs.Content.{content}
pub use Rattle.bloom_parts.specs.Deciders.{last_decision, state}
pub use Rattle.bloom_parts.specs.Operations.{Contains, Insert, Intersect, Operation, Union, decides, state_after}
pub use Rattle.bloom_parts.specs.Places.{IsPart}
unfoldable pub use Rattle.bloom_parts.specs.Places.{are_in, positions}
pub use Rattle.bloom_plain.specs.Builders.{IsMadeFor, RateStart, Start, same_rate_start, same_start, sized_filter}
pub use Rattle.bloom_plain.specs.CommandOf.{operation_of}
pub use Rattle.bloom_plain.specs.Filter.{Filter, Inserts, Intersects, Placement, SameShape, Unites, anywhere, contains, num_bits_of, positions_of, same_filter}
pub use Rattle.bloom_plain.specs.Laws.{EqualRateStartsLaw, EqualStartsLaw, FoundAfterInsertsLaw, FoundAfterReplayLaw, FoundLaw, IsAssociative, IsCommutative, IsIdempotent, KeptByInsertsLaw, KeptByListLaw, Spares, UnitedInsertsLaw}
pub use Rattle.bloom_plain.specs.Replies.{CarriesOut, InsertsAll, InsertsItems, replies}
pub use Rattle.bloom_plain.specs.SourceHash.{lent_hash_of}
pub use Rattle.std.proofs.Math.Bool.{or_comm, or_self}
pub use Rattle.std.proofs.lemmas.Bool.{eq-eqb, eqb-true}
pub use Rattle.std.proofs.lemmas.List.{map-append}
