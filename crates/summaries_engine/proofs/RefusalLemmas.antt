-- Filters that aren't united, and keys that are too long.
use Rattle.std.proofs.Common.{◌≡◌, ℕ, ◌+◌, ◌-◌, ◌^◌, min, codes, decimal, arith, get_or, List, ◌∷◌, ◌++◌, Some, sym, subst, ◌∙◌}
use Rattle.std.proofs.lemmas.Fmt.{decimal-digits_of}
use Rattle.summaries_engine.proofs.Common.{All-head, All-tail, All, HasMessage, Error, AnyFilter, HaveSameKind, HaveOneShape, DiffersBy, IsUnitable, too_long_text, HaveSameKey, IsUnionOf}
use Rattle.summaries_engine.specs.declared.unions.Difference.{Difference}
use Rattle.summaries_engine.specs.declared.unions.Difference.TheVariants as difference

-- two filters of a third one's shape have one shape
shape-of : (whole first f : AnyFilter) → HaveOneShape whole first → HaveOneShape whole f
    → HaveOneShape first f
shape-of whole first f fits has = record {
  words = sym fits.words ∙ has.words;
  hashes = sym fits.hashes ∙ has.hashes;
}

-- the filters of a union fit the first of them
pub union-fits : (first whole : AnyFilter) (others : List AnyFilter)
    → IsUnionOf (first ∷ others) whole → All (IsUnitable first) others
union-fits first whole others union = λ i d within. record {
  kind = sym (All-head (HaveSameKind whole) first others union.kind)
      ∙ All-tail (HaveSameKind whole) first others union.kind i d within;
  shape = shape-of whole first (get_or others i d)
      (All-head (HaveOneShape whole) first others union.shape)
      (All-tail (HaveOneShape whole) first others union.shape i d within);
  key = sym (All-head (HaveSameKey whole) first others union.key)
      ∙ All-tail (HaveSameKey whole) first others union.key i d within;
}

-- what differs from a filter differs from one that fits it
differs-from : (first whole shard : AnyFilter) (how : Difference) → IsUnitable whole first
    → DiffersBy whole shard how → DiffersBy first shard how
differs-from first whole shard difference.Kind fits differs = λ has. differs (fits.kind ∙ has)
differs-from first whole shard difference.Shape fits differs = (
  sym fits.kind ∙ differs.0,
  λ has. differs.1 (record {
    words = fits.shape.words ∙ has.words;
    hashes = fits.shape.hashes ∙ has.hashes;
  }),
)
differs-from first whole shard difference.Key fits differs = (
  sym fits.kind ∙ differs.0,
  shape-of whole first shard fits.shape differs.1,
  λ has. differs.2 (fits.key ∙ has),
)

-- what differs from the union of the first and others differs from the first
pub misfit-differs : (first whole shard : AnyFilter) (others : List AnyFilter) (how : Difference)
    → DiffersBy whole shard how → IsUnionOf (first ∷ others) whole → DiffersBy first shard how
misfit-differs first whole shard others how differs union =
    differs-from first whole shard how (record {
      kind = All-head (HaveSameKind whole) first others union.kind;
      shape = All-head (HaveOneShape whole) first others union.shape;
      key = All-head (HaveSameKey whole) first others union.key;
    }) differs

-- ---- a key that is too long

-- its text, of the name of its input, a number and a limit
abbrev says : List ℕ → ℕ → List ℕ → List ℕ
says name number limit =
    name ++ (codes ": key " ++ (decimal number
    ++ (codes " has more than " ++ (limit ++ codes " bytes"))))

-- the text of a key that is too long has the number of the key
pub too_long-message : (name : List ℕ) (before number : ℕ) (error : Error)
    → number ≡ min (before + 1) (2 ^ 64 - 1)
    → HasMessage (Some (says name number (decimal 65536))) error
    → HasMessage (Some (too_long_text name before)) error
too_long-message name before number error next message =
    let limit : decimal 65536 ≡ codes "65536" =
    decimal-digits_of 65536 (omega arith) (omega arith) in
    subst (λ n. HasMessage (Some (says name n (codes "65536"))) error) next
    (subst (λ l. HasMessage (Some (says name number l)) error) limit message)
