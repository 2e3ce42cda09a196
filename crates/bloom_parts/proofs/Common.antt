-- The names that most proofs of this crate cite, besides those of the standard library, passed on
-- from one place. Declares nothing.
pub use Rattle.bloom_parts.specs.Brackets.{Holds, HoldsDensity, density_high, density_low, high_of, low_of, width_of}
pub use Rattle.bloom_parts.specs.Buffers.{AreBytes, IsKept, held_in, padded}
pub use Rattle.bloom_parts.specs.Chain.{IsAt}
unfoldable pub use Rattle.bloom_parts.specs.Chain.{chain}
pub use Rattle.bloom_parts.specs.Content.{AreWords, BoundLaw, EqualWordsLaw, bit_is_on, index_of}
unfoldable pub use Rattle.bloom_parts.specs.Content.{content}
unfoldable pub use Rattle.bloom_parts.specs.Counts.{count_on}
pub use Rattle.bloom_parts.specs.Draws.{FormulaLaw, ListsLaw, MeanLaw, PositivesLaw, PowersLaw, UpperLaw, drawn_lists, false_positives, one_if, positives}
unfoldable pub use Rattle.bloom_parts.specs.Draws.{all_in, is_drawn, sum_below, sum_draws}
pub use Rattle.bloom_parts.specs.Estimates.{DensityLaw, EstimatesItems, IsEstimate, IsNear, IsTight, least_of, most_of}
pub use Rattle.bloom_parts.specs.Hashed.{Answers, Hashed, SipState, Takes}
unfoldable pub use Rattle.bloom_parts.specs.Hashed.{finish, write}
pub use Rattle.bloom_parts.specs.Many.{is_new, with_all}
pub use Rattle.bloom_parts.specs.Places.{IsPart, IsPosition, PositionsLaw, RangeLaw, SubsetLaw, place}
unfoldable pub use Rattle.bloom_parts.specs.Places.{are_in, positions}
pub use Rattle.bloom_parts.specs.Powers.{down_of, lower_power_of, next_power, up_of, upper_power_of}
unfoldable pub use Rattle.bloom_parts.specs.Powers.{rounded_power}
pub use Rattle.bloom_parts.specs.Roots.{IsRoot}
pub use Rattle.bloom_parts.specs.Sip.{Words, last_word}
unfoldable pub use Rattle.bloom_parts.specs.Sip.{absorb, answer, rest, sip, start, whole_words}
pub use Rattle.bloom_parts.specs.Sizing.{CoverLaw, HalfUpLaw, IsEnough, IsHalvings, MostLaw, NoneLaw, OneSizeLaw}
pub use Rattle.bloom_parts.specs.Stretches.{TellsNext}
unfoldable pub use Rattle.bloom_parts.specs.Stretches.{are_in_from, positions_from}
pub use Rattle.bloom_parts.specs.contracts.hasher.sip.RandomDefaultHasher.{the_view}
pub use Rattle.bloom_parts.specs.declared.math.bracket.Bracket.{Bracket}
pub use Rattle.std.proofs.Math.Bool.{and-false, and-true, or-false, or_assoc}
pub use Rattle.std.proofs.Math.Nat.{div-mul-le_self, le_of_mul-le-mul_right, le_refl, le_trans, lt_of_mul-lt-mul_right, mul-le-mul_left, mul-le-mul_right, one-le-pow, pow-le-pow_left, pow-le-pow_right, pow-suc, pow-zero, two-pow-succ}
pub use Rattle.std.proofs.Math.Seq.{take-add}
pub use Rattle.std.proofs.lemmas.Bool.{and_parts, both_ways, cases_eq, cases_lt, cond-false, cond-true, eq-eqb, eqb-true, ne_eqb, or_cases}
pub use Rattle.std.proofs.lemmas.Bool.Decides.{nat_tests}
pub use Rattle.std.proofs.lemmas.Grind.{div_ceil_times}
pub use Rattle.std.proofs.lemmas.List.{append-nil}
pub use Rattle.std.proofs.lemmas.Nat.{mod-pow-add, mul-le, mul-pow, ones_le_self, pow-add, pow_pos}
pub use Rattle.std.proofs.lemmas.Nat.Bits.{bit_at-lt}
pub use Rattle.std.specs.Int.{bit_at, div_ceil, from_le_bytes, to_le_bytes, w64}
pub use Rattle.std.specs.Int.Bits.{bit_or}
pub use Rattle.std.specs.List.{concat, list_all, list_any}
pub use Rattle.std.specs.Prelude.{map}
pub use Rattle.std.specs.Simd.Lanes.{zip2}
