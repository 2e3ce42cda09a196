-- What is reported about two filters: cases that hold, and the nearest that don't.
use Rattle.std.proofs.Common.{◌≡◌, ◌^◌, ℕ, inl, List, [], ◌∷◌, ◌++◌, codes, get_or, refl, sym, ap, ◌∙◌, lit≤, arith}
use Rattle.std.proofs.Math.Logic.{⊎_elim}
use Rattle.summaries_engine.proofs.Common.{char_count, digits, padded_integral, Error, content, count_on, key_of, Blocked, Memory, Output, parts_of}
use Rattle.bloom_parts.specs.Alike.{EstimatesEach, IsCommon, IsPartOf}
use Rattle.bloom_parts.specs.declared.math.bracket.Bracket.{Bracket}
use Rattle.summaries_engine.specs.Comparing.{ComparesNamed, StopsComparing, TellsBoth}
use Rattle.summaries_engine.proofs.Cases.{counted, filter, from, from_to, never}

-- a third lies between two units, and one is a unit
abbrev third : Bracket
third = record {
  low = 3074457345618258602;
  high = 3074457345618258603;
  ordered = lit≤ tt;
  in_range = lit≤ tt;
}

abbrev whole : Bracket
whole = record { low = 2 ^ 63; high = 2 ^ 63; ordered = lit≤ tt; in_range = lit≤ tt }

-- one bit of a filter is set, two of another, and three of either. The lines tell both, if these
-- are the estimates: a third is 33.33 to 33.34 percent, and one is a hundred. Lines in another
-- order don't
tells-both : (EstimatesEach 64 2 1 2 3 (from_to 1 2 (lit≤ tt)) (from_to 3 4 (lit≤ tt))
    (from_to 5 6 (lit≤ tt))
    → IsCommon (from_to 1 2 (lit≤ tt)) (from_to 3 4 (lit≤ tt)) (from_to 5 6 (lit≤ tt)) (from 7)
    → IsPartOf (from 7) (from_to 5 6 (lit≤ tt)) third → TellsBoth (filter 1) (filter 6)
    (codes "first: 1 to 2\nsecond: 3 to 4\nunion: 5 to 6\ncommon: 7 or more\n"
    ++ codes "likeness: 33.33 to 33.34 %\n"))
    × (EstimatesEach 64 2 1 1 1 (from 1) (from 1) (from 1) → IsCommon (from 1) (from 1) (from 1)
    (from 1) → IsPartOf (from 1) (from 1) whole → TellsBoth (filter 1) (filter 1)
    (codes "first: 1 or more\nsecond: 1 or more\nunion: 1 or more\ncommon: 1 or more\n"
    ++ codes "likeness: 100.00 to 100.00 %\n"))
    × ((later : List ℕ) → TellsBoth (filter 1) (filter 6) (codes "second: " ++ later) → ⊥)
unfolding padded_integral digits char_count content count_on
tells-both = (
  λ each is_common is_part. record {
    first = from_to 1 2 (lit≤ tt);
    second = from_to 3 4 (lit≤ tt);
    all = from_to 5 6 (lit≤ tt);
    common = from 7;
    part = third;
    each = each;
    is_common = is_common;
    is_part = is_part;
    is = refl;
  },
  λ each is_common is_part. record {
    first = from 1;
    second = from 1;
    all = from 1;
    common = from 1;
    part = whole;
    each = each;
    is_common = is_common;
    is_part = is_part;
    is = refl;
  },
  λ later told.
      let letter : ◌≡◌ {A = ℕ} 115 102 = ap (λ t. get_or t 0 0) told.is in
      absurd (omega (arith, letter)),
)

-- blocked filters that lie under their words are told by their bits. Filters aren't compared where
-- their keys or their numbers of hashes differ
compares : ComparesNamed (λ name f. f ≡ Blocked (filter (get_or name 0 0))) (3 ∷ []) (6 ∷ [])
    (codes "bits set in first: 2\nbits set in second: 2\n"
    ++ codes "bits set in union: 3\nbits set in both: 1\n")
    × ((text : List ℕ) → ComparesNamed (λ name f. name ≡ (key_of (parts_of f).hasher).0 ∷ [])
    (0 ∷ []) (1 ∷ []) text → ⊥)
    × ((text : List ℕ) → ComparesNamed counted (2 ∷ []) (3 ∷ []) text → ⊥)
unfolding content count_on digits
compares = (
  record {
    first = Blocked (filter 3);
    second = Blocked (filter 6);
    is_first = refl;
    is_second = refl;
    fits = record { kind = refl; shape = record { words = refl; hashes = refl }; key = refl };
    tells = refl;
  },
  λ text is.
      let wrong : ◌≡◌ {A = List ℕ} (0 ∷ []) (1 ∷ []) =
      is.is_first ∙ ap (λ pair. pair.0 ∷ []) is.fits.key ∙ sym is.is_second in cc,
  λ text is.
      let wrong : ◌≡◌ {A = List ℕ} (2 ∷ []) (3 ∷ []) =
      is.is_first ∙ ap (λ n. n ∷ []) is.fits.shape.hashes ∙ sym is.is_second in cc,
)

-- memory may be out, and no write fails
stops : (said : Error)
    → StopsComparing counted never (2 ∷ []) (3 ∷ []) Memory
    × (StopsComparing counted never (2 ∷ []) (3 ∷ []) (Output said) → ⊥)
stops said = (
  inl tt,
  ⊎_elim (λ memory. memory)
      (⊎_elim (λ none. none.1) (⊎_elim (λ unloaded. unloaded.failed) (λ misfit. misfit.says))),
)
