-- A file that isn't refused is the file of a filter.
use Rattle.std.proofs.Common.{◌≡◌, ℕ, ◌^◌, ◌<◌, List, [], ◌∷◌, ◌++◌, length, Bool, true, false, cond, Option, Some, None, refl, sym, ap, subst, ◌∙◌, arith, inl, inr}
use Rattle.bloom_files.proofs.Common.{◌⊎◌, slice_index, le-leb, common_steps, option_or, sip, whole_words, FileError, Head, Layout, Whole, Lines, DefaultFilter, FitsWords, bytes_of, head_of, mark, AreWhole, IsFileIn, file_in, layout_number, layout_refusal, numbers_in, right_seal, sealed_bytes, sealed_file, has_number, head_in, head_refusal, number_at, wrong_seal, IsFileOf}
use Rattle.bloom_parts.specs.Buffers.{AreBytes}
use Rattle.bloom_plain.specs.Filter.{IsShape}
use Rattle.bloom_files.proofs.NumberLemmas.{bytes-again, length-whole_words}
use Rattle.bloom_files.proofs.SealLemmas.{sealed-head}

-- a list of eight numbers
eight : (numbers : List ℕ) → length numbers ≡ 8
    → numbers ≡ slice_index numbers 0 ∷ slice_index numbers 1 ∷ slice_index numbers 2
    ∷ slice_index numbers 3 ∷ slice_index numbers 4 ∷ slice_index numbers 5
    ∷ slice_index numbers 6 ∷ slice_index numbers 7 ∷ []
eight (a ∷ b ∷ c ∷ d ∷ e ∷ f ∷ g ∷ h ∷ []) size = refl
eight _ size = absurd (omega arith)

-- a head that is refused neither for its mark nor for its end is the bytes of what it says
pub head-is : (layout : Layout) (head : List ℕ) → AreBytes head → length head ≡ 64
    → number_at head 0 ≡ mark → number_at head 6 ≡ layout_number layout → number_at head 7 ≡ 0
    → head ≡ bytes_of (numbers_in layout (head_in head) (number_at head 5))
head-is layout head small size first sixth seventh =
    sym (bytes-again head small (omega (arith, size)))
    ∙ ap bytes_of (eight (whole_words head) (omega (arith, size, length-whole_words head)))
    ∙ (λ i. bytes_of (first i ∷ number_at head 1 ∷ number_at head 2 ∷ number_at head 3
    ∷ number_at head 4 ∷ number_at head 5 ∷ sixth i ∷ seventh i ∷ []))

-- of two reasons there is neither
pub neither : (first second : Option FileError) → option_or first second ≡ None
    → (first ≡ None) × (second ≡ None)
neither None second none = (refl, none)
neither (Some error) second none = cc

-- what no test refuses passed the first
passed : (test : Bool) (error : FileError) (others : Option FileError)
    → cond test (Some error) others ≡ None → (test ≡ false) × (others ≡ None)
passed true error others none = cc
passed false error others none = (refl, none)

-- what a head says that isn't refused
pub record IsGood (head : List ℕ) : Type 0 where
  pub first : number_at head 0 ≡ mark
  pub shape : IsShape (number_at head 2) (number_at head 1)

-- a head that isn't refused
pub good : (head : List ℕ) → length head ≡ 64 → head_refusal head ≡ None → IsGood head
good head size none =
    let second : has_number head 1 ≡ true = le-leb 16 (length head) (omega (arith, size)) in
    let third : has_number head 2 ≡ true = le-leb 24 (length head) (omega (arith, size)) in
    record {
      first = grind (arith, common_steps);
      shape = record {
        some_words = grind (arith, common_steps);
        few_words = grind (arith, common_steps);
        some_hashes = grind (arith, common_steps);
        few_hashes = grind (arith, common_steps);
      };
    }

-- the last numbers of a head whose end isn't refused
pub last-numbers : (layout : Layout) (head : List ℕ) → layout_refusal layout head ≡ None
    → (number_at head 6 ≡ layout_number layout) × (number_at head 7 ≡ 0)
last-numbers Whole head none = grind (arith, common_steps)
last-numbers Lines head none = grind (arith, common_steps)

-- the words of such a head are whole lines, if they are lines
pub whole-words : (layout : Layout) (head : List ℕ) → layout_refusal layout head ≡ None
    → AreWhole layout (number_at head 2)
whole-words Whole head none = tt
whole-words Lines head none = grind (arith, common_steps)

-- a seal that isn't refused
pub good-seal : (found wanted : ℕ)
    → wrong_seal found wanted ≡ None → (found ≡ 0) ⊎ (found ≡ wanted)
good-seal found wanted none = grind (arith, common_steps)

-- a head that isn't refused, with as many words as it tells of
module _ (layout : Layout) (head words : List ℕ) (size : length head ≡ 64)
    (is_good : head_refusal head ≡ None) (count : length words ≡ number_at head 2)
    (end_good : layout_refusal layout head ≡ None) (narrow : number_at head 5 < 2 ^ 64)
    (back : head ≡ bytes_of (numbers_in layout (head_in head) (number_at head 5))) where
  -- the seal of the file is that of what the head tells, and of the words
  seal-same : sip 0 0 (sealed_bytes layout head ++ bytes_of words)
      ≡ right_seal layout (head_in head) words
  seal-same =
      ap (λ l. sip 0 0 (l ++ bytes_of words))
      (sealed-head layout (head_in head) (number_at head 5) head back)

  -- the bytes are the file
  pub is-file : (number_at head 5 ≡ 0)
      ⊎ (number_at head 5 ≡ sip 0 0 (sealed_bytes layout head ++ bytes_of words))
      → IsFileIn layout (head ++ bytes_of words) (head_in head) words
  is-file sealed = record {
    seal = number_at head 5;
    narrow = narrow;
    sealed = elim sealed [ inl none ↦ inl none | inr right ↦ inr (right ∙ seal-same) ];
    is = λ i. back i ++ bytes_of words;
    count = count;
    shape = rw count (good head size is_good).shape;
    whole = subst (AreWhole layout) (sym count) (whole-words layout head end_good);
  }

-- the parts of a sealed file, one after the other
pub file-text : (layout : Layout) (head : Head) (seal : ℕ) (words bytes : List ℕ)
    → seal ≡ right_seal layout head words → bytes ≡ bytes_of (numbers_in layout head seal)
    → bytes ++ bytes_of words ≡ sealed_file layout head words
file-text layout head seal words bytes is_seal is =
    (λ i. is i ++ bytes_of words) ∙ (λ i. file_in layout head (is_seal i) words)

-- a file of a filter's layout, head and words is one of the filter
pub file-of : (layout read : Layout) (bytes words : List ℕ) (head : Head) (f : DefaultFilter)
    → read ≡ layout → head_of f ≡ head → f.words ≡ words → FitsWords f
    → IsFileIn read bytes head words → IsFileOf layout bytes f
file-of layout read bytes words head f is_layout is_head is_words fits is = record {
  parts =
      subst (λ l. IsFileIn l bytes (head_of f) f.words) is_layout
      (subst (λ h. IsFileIn read bytes h f.words) (sym is_head)
      (subst (IsFileIn read bytes head) (sym is_words) is));
  fits = fits;
}
