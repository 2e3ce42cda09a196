-- The laws of filters.
use Rattle.std.proofs.Common.{◌≡◌, ◌↔◌, ◌≤◌, ℕ, ◌*◌, Bool, true, false, ◌&&◌, nat_eq, length, refl, sym, ◌∙◌, ap, arith, inl, inr}
use Rattle.std.specs.Cmp.{both_ways as same_tests}
use Rattle.std.specs.Cmp.Lexicographic.{pointwise, same_text, nat_list_eq_equiv}
use Rattle.std.proofs.lemmas.Bool.{or_cases, or_left, or_right, and_parts, and_from, eqb-true, eq-eqb, both_ways, false_from_ne_true}
use Rattle.bloom_parts.specs.Content.{content, EqualWordsLaw}
use Rattle.bloom_parts.specs.Places.{place, IsPart}
use Rattle.bloom_plain.specs.Filter.{Filter, SameShape, Placement, anywhere, contains, positions_of, Inserts}
use Rattle.bloom_plain.specs.Laws.{InsertLaw, KeptByInsertLaw, KeptByUnionLaw, IntersectionLaw, UnionLaw, ClearLaw, RebuiltLaw, EqualityLaw, EqualContentLaw}
use Rattle.bloom_parts.proofs.PublishedLemmas.{adds-nothing, part-from, part-to, place-position, position-to}

-- all positions of a hash are in a set exactly if they are a part of it, and there is one
pub record IsLawful (at : Placement) : Type 0 where
  pub subset : (words k hash : ℕ) (A : ℕ → Bool)
      → (at.are_in words k hash A ≡ true) ↔ IsPart (at.positions words k hash) A
  pub some : (words k hash : ℕ) → 1 ≤ k
      → (p : ℕ) × (at.positions words k hash p ≡ true)

pub anywhere-lawful : IsLawful anywhere
anywhere-lawful = record {
  subset = λ words k hash A. (part-from (64 * words) k hash A, part-to (64 * words) k hash A);
  some = λ words k hash some. (
    place (64 * words) hash 0,
    position-to (64 * words) k hash _ (place-position (64 * words) k hash 0 some),
  );
}

-- a look-up in a filter of the same shape is the look-up with the first filter's numbers
pub contains-shape : {S : Type 0} (at : Placement) (old new : Filter S) (hash : ℕ)
    → SameShape old new
    → contains at new hash ≡ at.are_in (length old.words) old.hashes hash (content new.words)
contains-shape at old new hash same =
    ap (λ w. at.are_in w new.hashes hash (content new.words)) (sym same.words)
    ∙ ap (λ k. at.are_in (length old.words) k hash (content new.words)) (sym same.hashes)

module _ (at : Placement) (lawful : IsLawful at) where
  -- what contains the positions of a hash contains the hash
  contains-part : {S : Type 0} (old new : Filter S) (hash : ℕ) → SameShape old new
      → IsPart (positions_of at old hash) (content new.words) → contains at new hash ≡ true
  contains-part old new hash same part =
      contains-shape at old new hash same
      ∙ (lawful.subset (length old.words) old.hashes hash (content new.words)).1 part

  -- and it has them where it does
  part-of : {S : Type 0} (f : Filter S) (hash : ℕ) → contains at f hash ≡ true
      → IsPart (positions_of at f hash) (content f.words)
  part-of f hash = (lawful.subset (length f.words) f.hashes hash (content f.words)).0

  -- the greater of two filters of one shape contains what the other does
  pub contains-greater : {S : Type 0} (old new : Filter S) (hash : ℕ) → SameShape old new
      → IsPart (content old.words) (content new.words)
      → contains at old hash ≡ true → contains at new hash ≡ true
  contains-greater old new hash same part found =
      contains-part old new hash same (λ p is. part p (part-of old hash found p is))

  -- an insert of a hash that is contained changes nothing
  pub contained-insert : {S : Type 0} (old : Filter S) (hash : ℕ)
      → contains at old hash ≡ true → Inserts at old hash old true
  contained-insert old hash is = record {
    answers = sym is;
    bits = λ p.
        adds-nothing (content old.words p) (positions_of at old hash p) (part-of old hash is p);
    shape = record { words = refl; hashes = refl };
    hasher = refl;
  }

  -- where no position is set, no hash is contained
  pub contains-none : {S : Type 0} (f : Filter S) (hash : ℕ) → 1 ≤ f.hashes
      → ((p : ℕ) → content f.words p ≡ false) → contains at f hash ≡ false
  contains-none f hash some none =
      let first = lawful.some (length f.words) f.hashes hash some in
      false_from_ne_true (contains at f hash)
      (λ all. both_ways (content f.words first.0) (none first.0)
      (part-of f hash all first.0 first.1))

  -- all are in both of two sets exactly if they are in each
  are_in-both : (words k hash : ℕ) (A B : ℕ → Bool)
      → at.are_in words k hash (λ p. A p && B p)
      ≡ (at.are_in words k hash A && at.are_in words k hash B)
  are_in-both words k hash A B =
      let tests = lawful.subset words k hash in
      same_tests _ _
      (λ all.
      and_from (at.are_in words k hash A) (at.are_in words k hash B)
      ((tests A).1 (λ p is. (and_parts (A p) (B p) ((tests (λ q. A q && B q)).0 all p is)).0))
      ((tests B).1 (λ p is. (and_parts (A p) (B p) ((tests (λ q. A q && B q)).0 all p is)).1)))
      (λ each.
      let parts = and_parts (at.are_in words k hash A) (at.are_in words k hash B) each in
      (tests (λ q. A q && B q)).1
      (λ p is. and_from (A p) (B p) ((tests A).0 parts.0 p is) ((tests B).0 parts.1 p is)))

  module _ (S : Type 0) where
    -- the positions of the hash are set after the insert
    pub insert_law : InsertLaw at S
    insert_law old new hash reply did = (
      did.answers,
      contains-part old new hash did.shape
          (λ p is. did.bits p ∙ or_right (content old.words p) _ is),
    )

    -- the content after an insert is greater
    pub kept_by_insert_law : KeptByInsertLaw at S
    kept_by_insert_law old new inserted hash reply did =
        contains-greater old new hash did.shape
        (λ p on. did.bits p ∙ or_left (content old.words p) _ on)

    -- the content after a union is greater
    pub kept_by_union_law : KeptByUnionLaw at S
    kept_by_union_law old other new hash did =
        contains-greater old new hash did.shape
        (λ p on. did.bits p ∙ or_left (content old.words p) _ on)

    -- the positions of the hash are in both contents exactly if they are in each
    pub intersection_law : IntersectionLaw at S
    intersection_law old other new hash same did =
        contains-shape at old new hash did.shape
        ∙ ap (at.are_in (length old.words) old.hashes hash) (λ i p. did.bits p i)
        ∙ are_in-both (length old.words) old.hashes hash (content old.words) (content other.words)
        ∙ ap (λ b. contains at old hash && b) (sym (contains-shape at old other hash same))

    -- the content after a union is greater than either
    pub union_law : UnionLaw at S
    union_law old other new hash same did either =
        elim (or_cases (contains at old hash) (contains at other hash) either) [
          | inl found ↦ kept_by_union_law old other new hash did found
          | inr found ↦
              contains-greater other new hash
              (record {
                words = sym same.words ∙ did.shape.words;
                hashes = sym same.hashes ∙ did.shape.hashes;
              })
              (λ p on. did.bits p ∙ or_right (content old.words p) (content other.words p) on)
              found
        ]

    -- no position is set after a clear
    pub clear_law : ClearLaw at S
    clear_law old new hash some did =
        contains-none new hash (omega (arith, some, did.shape.hashes)) did.bits

-- the parts of both filters are equal
pub rebuilt_law : (S : Type 0) → RebuiltLaw S
rebuilt_law S f made shape did =
    let same_hashes : made.hashes ≡ f.hashes = did.hashes ∙ omega arith in
    let same : made ≡ f =
    λ i. record { words = did.words i; hashes = same_hashes i; hasher = did.hasher i } in
    (same, (λ hash. ap (λ g. contains anywhere g hash) same))

-- words are compared one by one, and numbers of hashes as numbers
pub equality_law : (S : Type 0) → EqualityLaw S
equality_law S f g = (
  (λ same.
      let parts = and_parts (pointwise nat_eq f.words g.words) (nat_eq f.hashes g.hashes) same in
      (same_text f.words g.words (sym parts.0), eqb-true f.hashes g.hashes parts.1)),
  (λ same.
      and_from (pointwise nat_eq f.words g.words) (nat_eq f.hashes g.hashes)
      (ap (λ words. pointwise nat_eq f.words words) (sym same.0) ∙ nat_list_eq_equiv.refl f.words)
      (eq-eqb f.hashes g.hashes same.1)),
)

-- filters of as many words of 64 bits have equal words exactly if they have the same content
pub equal_content_law : (S : Type 0) → EqualWordsLaw → EqualContentLaw S
equal_content_law S words_law f g fit fit' same =
    let words = words_law f.words g.words fit fit' same.words in
    let equality = equality_law S f g in (
      (λ equal. words.0 (equality.0 equal).0),
      (λ content. equality.1 (words.1 content, same.hashes)),
    )
