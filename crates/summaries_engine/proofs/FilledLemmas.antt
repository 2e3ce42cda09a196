-- Filters of either kind that were filled with hashes.
use Rattle.std.proofs.Common.{◌≡◌, ℕ, ◌*◌, ◌/◌, Bool, true, false, ◌||◌, List, [], ◌++◌, refl, sym, ◌∙◌, ap}
use Rattle.std.proofs.lemmas.List.Folds.{Any-from_list_any, list_any-append, list_any_at}
use Rattle.summaries_engine.proofs.Common.{Contains, list_any, content, AreWords, Layout, Whole, Lines, DefaultFilter, EqualContentLaw, EqualityLaw, Shape, AnyFilter, Classic, Blocked, HaveSameKind, UnitesParts, has_hash, layout_of, parts_of, IsFilled, positions_in}
use Rattle.bloom_parts.specs.declared.hasher.CloneBuildHasher.{CloneBuildHasher}
use Rattle.bloom_parts.specs.declared.hasher.sip.RandomDefaultHasher.{RandomDefaultHasher}
use Rattle.fastbloom.specs.Fill.{AnyCuttingLaw, FilledContainsLaw, HaveSameHashes, IsFilledWith, hashes_of, words_of}
use Rattle.fastbloom.specs.Lines.{LineSubsetLaw, are_in_line, line_positions}
use Rattle.fastbloom.proofs.FillLemmas.{positions_of_all-append}

-- the hashers of default filters
abbrev pub Builder : Type 0
Builder = CloneBuildHasher RandomDefaultHasher

-- no hash has positions
pub positions-none : (layout : Layout) (shape : Shape) (p : ℕ)
    → positions_in layout shape [] p ≡ false
positions-none Whole shape p = refl
positions-none Lines shape p = refl

-- the positions of two lists of hashes, one after the other
pub positions-append : (layout : Layout) (shape : Shape) (xs ys : List ℕ) (p : ℕ)
    → positions_in layout shape (xs ++ ys) p
    ≡ (positions_in layout shape xs p || positions_in layout shape ys p)
positions-append Whole shape xs ys p =
    positions_of_all-append (64 * words_of shape) (hashes_of shape) xs ys p
positions-append Lines shape xs ys p =
    list_any-append (λ hash. line_positions (words_of shape / 8) (hashes_of shape) hash p) xs ys

-- the library's words for a Bloom filter that was filled say the same
pub filled-with : (shape : Shape) (hashes : List ℕ) (f : DefaultFilter)
    → IsFilled shape hashes (Classic f) → IsFilledWith shape hashes f
filled-with shape hashes f filled = record {
  words = filled.words;
  num_hashes = filled.num_hashes;
  bits = filled.bits;
}

pub with-filled : (shape : Shape) (hashes : List ℕ) (f : DefaultFilter)
    → IsFilledWith shape hashes f → IsFilled shape hashes (Classic f)
with-filled shape hashes f filled = record {
  words = filled.words;
  num_hashes = filled.num_hashes;
  bits = filled.bits;
}

-- a union adds the hashes of the other
pub filled-union : (shape : Shape) (old other new : AnyFilter) (hashes others : List ℕ)
    → IsFilled shape hashes old → IsFilled shape others other → HaveSameKind old other
    → UnitesParts old other new → IsFilled shape (hashes ++ others) new
filled-union shape old other new hashes others filled added kind united =
    let layout = layout_of old in record {
      words = sym united.parts.shape.words ∙ filled.words;
      num_hashes = sym united.parts.shape.hashes ∙ filled.num_hashes;
      bits = λ p. united.parts.bits p
          ∙ ap (λ b. b || content (parts_of other).words p) (filled.bits p)
          ∙ ap (λ b. positions_in layout shape hashes p || b)
          (added.bits p ∙ ap (λ l. positions_in l shape others p) (sym kind))
          ∙ sym (positions-append layout shape hashes others p)
          ∙ ap (λ l. positions_in l shape (hashes ++ others) p) united.kind;
    }

-- two truth values that imply each other are equal
both-ways : (a b : Bool) → (a ≡ true → b ≡ true) → (b ≡ true → a ≡ true) → a ≡ b
both-ways true b to from = sym (to refl)
both-ways false true to from = from refl
both-ways false false to from = refl

-- a test that one of these passes is passed by one of those among which these are
any-among : (test : ℕ → Bool) (xs ys : List ℕ) → ((h : ℕ) → Contains xs h → Contains ys h)
    → list_any test xs ≡ true → list_any test ys ≡ true
any-among test xs ys among on =
    let here = Any-from_list_any test xs on in
    let there = among here.1 (here.0, here.2, here.3) in
    list_any_at test ys there.0 here.1 there.1 (ap test there.2 ∙ here.4)

-- the same hashes pass a test, in whatever order and number they come
any-same : (test : ℕ → Bool) (hashes others : List ℕ) → HaveSameHashes hashes others
    → list_any test hashes ≡ list_any test others
any-same test hashes others same =
    both-ways (list_any test hashes) (list_any test others)
    (any-among test hashes others (λ h. (same h).0))
    (any-among test others hashes (λ h. (same h).1))

-- filters of one kind that were filled with the same hashes are equal
pub filled-alike : EqualityLaw Builder → EqualContentLaw Builder → AnyCuttingLaw Builder
    → (shape : Shape) (f g : AnyFilter) (hashes others : List ℕ)
    → AreWords (parts_of f).words → AreWords (parts_of g).words → HaveSameKind g f
    → IsFilled shape hashes f → IsFilled shape others g → HaveSameHashes hashes others
    → ((parts_of f).words ≡ (parts_of g).words) × ((parts_of f).hashes ≡ (parts_of g).hashes)
filled-alike equality contents cutting shape (Classic f) (Classic g) hashes others f_words g_words
    kind one other same =
    (equality f g).0
    (cutting shape f g hashes others f_words g_words (filled-with shape hashes f one)
    (filled-with shape others g other) same)
filled-alike equality contents cutting shape (Blocked f) (Blocked g) hashes others f_words g_words
    kind one other same =
    (equality f g).0
    ((contents f g f_words g_words (record {
      words = one.words ∙ sym other.words;
      hashes = one.num_hashes ∙ sym other.num_hashes;
    })).1
    (λ p. one.bits p
    ∙ any-same (λ hash. line_positions (words_of shape / 8) (hashes_of shape) hash p) hashes others
    same
    ∙ sym (other.bits p)))
filled-alike equality contents cutting shape f g hashes others f_words g_words kind one other
    same = cc

-- a filled filter contains each of its hashes
pub filled-contains : FilledContainsLaw Builder → LineSubsetLaw → (shape : Shape) (f : AnyFilter)
    (hashes : List ℕ) (hash : ℕ) → IsFilled shape hashes f → Contains hashes hash
    → has_hash f hash ≡ true
filled-contains contains_all subset shape (Classic f) hashes hash filled given =
    contains_all shape f hashes hash (filled-with shape hashes f filled) given
filled-contains contains_all subset shape (Blocked f) hashes hash filled given =
    let lines = words_of shape / 8 in
    let k = hashes_of shape in
    ap (λ w. are_in_line (w / 8) f.hashes hash (content f.words)) filled.words
    ∙ ap (λ h. are_in_line lines h hash (content f.words)) filled.num_hashes
    ∙ (subset lines k hash (content f.words)).1
    (λ p here. filled.bits p
    ∙ list_any_at (λ h. line_positions lines k h p) hashes given.0 hash given.1
    (ap (λ h. line_positions lines k h p) given.2 ∙ here))
