-- What fills a filter: no hash, one hash more, and the hashes of another filter.
use Rattle.std.proofs.Common.{◌≡◌, ℕ, ◌+◌, ◌*◌, ◌||◌, List, [], ◌∷◌, ◌++◌, length, map, replicate, refl, sym, subst, ◌∙◌, ap, arith, append_assoc}
use Rattle.fastbloom.proofs.Common.{or_assoc, map-append, length-replicate, concat, All, content, positions, words_of, hashes_of, positions_of_all, IsFilledWith}
use Rattle.std.proofs.lemmas.List.Elements.{All-head, All-push, All-rest, All-same}
use Rattle.bloom_parts.proofs.PublishedLemmas.{content-zeros}
use Rattle.bloom_plain.specs.Filter.{Filter, SameShape, Unites}
use Rattle.fastbloom.specs.declared.parallel.shape.Shape.{Shape}

-- the positions of two lists of hashes, one after the other
pub positions_of_all-append : (n k : ℕ) (xs ys : List ℕ) (p : ℕ) → positions_of_all n k (xs ++ ys) p
    ≡ (positions_of_all n k xs p || positions_of_all n k ys p)
positions_of_all-append n k [] ys p = refl
positions_of_all-append n k (x ∷ xs) ys p =
    ap (λ b. positions n k x p || b) (positions_of_all-append n k xs ys p)
    ∙ sym (or_assoc (positions n k x p) (positions_of_all n k xs p) (positions_of_all n k ys p))

module _ {S : Type 0} (shape : Shape) where
  -- zero words hold no hash
  pub filled-none : (f : Filter S) → f.words ≡ replicate (words_of shape) 0
      → f.hashes ≡ hashes_of shape → IsFilledWith shape [] f
  filled-none f zeros hashes = record {
    words = ap length zeros ∙ length-replicate (words_of shape) 0;
    num_hashes = hashes;
    bits = λ p. ap (λ words. content words p) zeros ∙ content-zeros (words_of shape) p;
  }

  -- filters that were filled have one shape
  pub filled-same : (f g : Filter S) (hashes others : List ℕ)
      → IsFilledWith shape hashes f → IsFilledWith shape others g → SameShape f g
  filled-same f g hashes others one other = record {
    words = one.words ∙ sym other.words;
    hashes = one.num_hashes ∙ sym other.num_hashes;
  }

  -- a union adds the hashes of the other
  pub filled-union : (old other new : Filter S) (hashes others : List ℕ)
      → IsFilledWith shape hashes old → IsFilledWith shape others other → Unites old other new
      → IsFilledWith shape (hashes ++ others) new
  filled-union old other new hashes others filled added united =
      let n = 64 * words_of shape in
      let k = hashes_of shape in record {
        words = sym united.shape.words ∙ filled.words;
        num_hashes = sym united.shape.hashes ∙ filled.num_hashes;
        bits = λ p. united.bits p
            ∙ ap (λ b. b || content other.words p) (filled.bits p)
            ∙ ap (λ b. positions_of_all n k hashes p || b) (added.bits p)
            ∙ sym (positions_of_all-append n k hashes others p);
      }

-- two lists that are mapped to the same, and one more of each
pub map-push-same : {X Y A : Type 0} (xs : List X) (ys : List Y) (f : X → A) (g : Y → A) (x : X)
    (y : Y) {more : List X} → more ≡ xs ++ x ∷ [] → map f xs ≡ map g ys → f x ≡ g y
    → map f more ≡ map g (ys ++ y ∷ [])
map-push-same xs ys f g x y is same next =
    ap (map f) is ∙ map-append f xs (x ∷ []) ∙ ap (λ l. l ++ f x ∷ []) same
    ∙ ap (λ a. map g ys ++ a ∷ []) next ∙ sym (map-append g ys (y ∷ []))

-- the whole is filled with some hashes, and these with the hashes of those that are left, which
-- have its shape, are all hashes
pub record IsGathered {X S : Type 0} (shape : Shape) (all : List ℕ) (rest : List X)
    (shape_of : X → Shape) (hashes_of : X → List ℕ) (hasher : S) (whole : Filter S) : Type 0 where
  pub came : List ℕ
  pub joined : came ++ concat (map hashes_of rest) ≡ all
  pub left : All (λ x. shape_of x ≡ shape) rest
  pub filled : IsFilledWith shape came whole
  pub hasher_stays : whole.hasher ≡ hasher

module _ {X : Type 0} {xs rest : List X} {x : X} (starts : xs ≡ x ∷ rest) where
  -- what holds of all of a list holds of its first
  pub All-first : (P : X → Type 0) → All P xs → P x
  All-first P all = All-head P x rest (All-same P _ _ (sym starts) all)

  -- a filter that was filled in the shape of the first has the shape of all
  pub filled-first : {S : Type 0} (shape : Shape) (shape_of : X → Shape) (hashes : List ℕ)
      (f : Filter S) → All (λ y. shape_of y ≡ shape) xs
      → IsFilledWith (shape_of x) hashes f → IsFilledWith shape hashes f
  filled-first shape shape_of hashes f all filled =
      subst (λ s. IsFilledWith s hashes f) (All-first (λ y. shape_of y ≡ shape) all) filled

  -- a list is one longer than what comes after its first
  pub length-first : length xs ≡ length rest + 1
  length-first = let size = ap length starts in omega (arith, size)

  -- one more that has the shape of the first, where all have one
  pub shaped-push : {Y : Type 0} (ys : List Y) (shape : Shape) (shape_of : Y → Shape)
      (first_of : X → Shape) (y : Y) {more : List Y} → more ≡ ys ++ y ∷ []
      → All (λ z. shape_of z ≡ shape) ys → All (λ z. first_of z ≡ shape) xs
      → shape_of y ≡ first_of x → All (λ z. shape_of z ≡ shape) more
  shaped-push ys shape shape_of first_of y is shaped left same =
      subst (All (λ z. shape_of z ≡ shape)) (sym is)
      (All-push (λ z. shape_of z ≡ shape) ys y shaped
      (same ∙ All-first (λ z. first_of z ≡ shape) left))

  module _ {S : Type 0} (all : List ℕ) (shape : Shape) (shape_of : X → Shape)
      (hashes_of : X → List ℕ) {hasher : S} {whole part : Filter S}
      (before : IsGathered shape all xs shape_of hashes_of hasher whole)
      (filled : IsFilledWith (shape_of x) (hashes_of x) part) where
    -- the part of the first is filled in the shape of the whole
    first_filled : IsFilledWith shape (hashes_of x) part
    first_filled = filled-first shape shape_of (hashes_of x) part before.left filled

    -- the part of the first has as many words and hashes as the whole
    pub gathered-same : SameShape whole part
    gathered-same =
        filled-same shape whole part before.came (hashes_of x) before.filled first_filled

    -- once it is united with the whole, the first is no longer left
    pub gathered-next : {new : Filter S} → Unites whole part new
        → IsGathered shape all rest shape_of hashes_of hasher new
    gathered-next {new} united = record {
      came = before.came ++ hashes_of x;
      joined = append_assoc before.came (hashes_of x) (concat (map hashes_of rest))
          ∙ ap (λ r. before.came ++ concat (map hashes_of r)) (sym starts) ∙ before.joined;
      left = All-rest (λ y. shape_of y ≡ shape) x rest xs starts before.left;
      filled = filled-union shape whole part new before.came (hashes_of x) before.filled
          first_filled united;
      hasher_stays = united.hasher ∙ before.hasher_stays;
    }
