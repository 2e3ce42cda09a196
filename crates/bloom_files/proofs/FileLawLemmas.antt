-- Files of filters read back as these filters.
use Rattle.std.proofs.Common.{◌≡◌, ℕ, ◌*◌, ◌^◌, ◌<◌, ◌≤◌, List, ◌++◌, length, drop, Some, None, refl, sym, ap, subst, ◌∙◌, arith, inl, inr, lit<}
use Rattle.bloom_files.proofs.Common.{◌⊎◌, slice_index, option_or, common_steps, All-from_recursion, AreWords, sip, whole_words, FileError, Blocked, NotBlocked, Head, Layout, Whole, Lines, DefaultFilter, bytes_of, head_of, AreWhole, layout_number, layout_refusal, numbers_in, refusal_in, right_seal, sealed_bytes, head_refusal, number_at, wrong_seal}
use Rattle.bloom_parts.specs.Keys.{HasKey, key_of}
use Rattle.bloom_parts.specs.declared.hasher.CloneBuildHasher.{CloneBuildHasher}
use Rattle.bloom_parts.specs.declared.hasher.sip.RandomDefaultHasher.{RandomDefaultHasher}
use Rattle.bloom_files.specs.FilterFiles.{BlockedRefusedLaw, FileLaw, IsFileOf, NotBlockedRefusedLaw, ReadableLaw, SameFileItemsLaw, placement_in}
use Rattle.bloom_plain.proofs.DataLemmas.{alike-parts}
use Rattle.bloom_files.proofs.NumberLemmas.{length-bytes_of, whole_words-alone, whole_words-bytes}
use Rattle.bloom_files.proofs.RefusalLemmas.{refusal_in-head}
use Rattle.bloom_files.proofs.SealLemmas.{sealed-head}

-- the number of a layout has 64 bits
layout-fits : (layout : Layout) → layout_number layout < 2 ^ 64
layout-fits Whole = lit< tt
layout-fits Lines = lit< tt

-- the numbers of a head aren't refused where they have a filter's shape
head-kept : (layout : Layout) (head : List ℕ) (h : Head) (seal : ℕ)
    → whole_words head ≡ numbers_in layout h seal → 1 ≤ h.num_hashes → h.num_hashes < 2 ^ 32
    → 1 ≤ h.num_words → h.num_words < 2 ^ 58 → head_refusal head ≡ None
head-kept layout head h seal are some few one many = rw are (grind (arith, common_steps))

-- nor is the number of its layout, where its words are whole lines if they are lines
end-kept : (layout : Layout) (head : List ℕ) (h : Head) (seal : ℕ)
    → whole_words head ≡ numbers_in layout h seal → AreWhole layout h.num_words
    → layout_refusal layout head ≡ None
end-kept Whole head h seal are whole = rw are refl
end-kept Lines head h seal are whole = rw are (grind (arith, common_steps))

-- the right seal isn't refused, and neither is 0
seal-kept : (found right : ℕ) → (found ≡ 0) ⊎ (found ≡ right) → wrong_seal found right ≡ None
seal-kept found right (inl none) = rw none refl
seal-kept found right (inr same) = rw same (grind (arith, common_steps))

-- a file of a filter
module _ (layout : Layout) (bytes : List ℕ) (f : DefaultFilter) (of : IsFileOf layout bytes f)
  where
    abbrev parts : List ℕ
    parts = numbers_in layout (head_of f) of.parts.seal

    abbrev start : List ℕ
    start = bytes_of parts

    head-fits : AreWords parts
    head-fits =
        All-from_recursion (λ n. n < 2 ^ 64) parts (
          lit< tt,
          (
            omega (arith, of.parts.shape.few_hashes),
            (
              omega (arith, of.parts.shape.few_words, of.parts.count),
              (
                of.fits.low,
                (of.fits.high, (of.parts.narrow, (layout-fits layout, (lit< tt, tt)))),
              ),
            ),
          ),
        )

    -- the numbers of the file are those of its head, and the words
    numbers-of : whole_words bytes ≡ parts ++ f.words
    numbers-of =
        ap whole_words of.parts.is ∙ whole_words-bytes parts (bytes_of f.words) head-fits
        ∙ ap (λ l. parts ++ l) (whole_words-alone f.words of.fits.words)

    are : whole_words start ≡ parts
    are = whole_words-alone parts head-fits

    number : (place : ℕ) → number_at start place ≡ slice_index parts place
    number place = ap (λ l. slice_index l place) are

    size : length start ≡ 64
    size = length-bytes_of parts

    right : length (bytes_of f.words) ≡ 8 * number_at start 2
    right = omega (arith, length-bytes_of f.words, number 2, of.parts.count)

    good : head_refusal start ≡ None
    good =
        head-kept layout start (head_of f) of.parts.seal are of.parts.shape.some_hashes
        of.parts.shape.few_hashes (omega (arith, of.parts.shape.some_words, of.parts.count))
        (omega (arith, of.parts.shape.few_words, of.parts.count))

    none : layout_refusal layout start ≡ None
    none =
        end-kept layout start (head_of f) of.parts.seal are
        (subst (AreWhole layout) of.parts.count of.parts.whole)

    covered : right_seal layout (head_of f) f.words
        ≡ sip 0 0 (sealed_bytes layout start ++ bytes_of f.words)
    covered =
        ap (λ l. sip 0 0 (l ++ bytes_of f.words))
        (sym (sealed-head layout (head_of f) of.parts.seal start refl))

    sealed : wrong_seal (number_at start 5)
        (sip 0 0 (sealed_bytes layout start ++ bytes_of f.words)) ≡ None
    sealed =
        seal-kept _ _
        (elim of.parts.sealed [
          | inl unsealed ↦ inl (number 5 ∙ unsealed)
          | inr same ↦ inr (number 5 ∙ same ∙ covered)
        ])

    -- it isn't refused
    readable : refusal_in layout bytes ≡ None
    readable =
        ap (refusal_in layout) of.parts.is
        ∙ refusal_in-head start (bytes_of f.words) size layout right
        ∙ (λ i. option_or (good i) (option_or (none i) (sealed i)))

    -- what its end is refused for, where another layout is read, is reported
    refused-end : (other : Layout) (error : FileError) → layout_refusal other start ≡ Some error
        → refusal_in other bytes ≡ Some error
    refused-end other error told =
        ap (refusal_in other) of.parts.is
        ∙ refusal_in-head start (bytes_of f.words) size other right
        ∙ (λ i. option_or (good i) (option_or (told i)
        (wrong_seal (number_at start 5) (sip 0 0 (sealed_bytes other start ++ bytes_of f.words)))))

-- the end of a head of lines is refused where none are read, and the other way round
end-blocked : (head : List ℕ) (h : Head) (seal : ℕ) → whole_words head ≡ numbers_in Lines h seal
    → layout_refusal Whole head ≡ Some Blocked
end-blocked head h seal are = rw are refl

end-not_blocked : (head : List ℕ) (h : Head) (seal : ℕ)
    → whole_words head ≡ numbers_in Whole h seal → layout_refusal Lines head ≡ Some NotBlocked
end-not_blocked head h seal are = rw are refl

-- two filters of one file
module _ (layout : Layout) (bytes : List ℕ) (f g : DefaultFilter) (of : IsFileOf layout bytes f)
    (also : IsFileOf layout bytes g) where
  same : numbers_in layout (head_of g) also.parts.seal ++ g.words
      ≡ numbers_in layout (head_of f) of.parts.seal ++ f.words
  same = sym (numbers-of layout bytes g also) ∙ numbers-of layout bytes f of

  same-number : (place : ℕ)
      → slice_index (numbers_in layout (head_of g) also.parts.seal ++ g.words) place
      ≡ slice_index (numbers_in layout (head_of f) of.parts.seal ++ f.words) place
  same-number place = ap (λ l. slice_index l place) same

  -- they have equal words, numbers of hashes and keys
  pub same-words : g.words ≡ f.words
  same-words = ap (drop 8) same

  pub same-hashes : g.hashes ≡ f.hashes
  same-hashes = same-number 1

  pub same-key : key_of g.hasher ≡ key_of f.hasher
  same-key = λ i. (same-number 3 i, same-number 4 i)

-- so they contain the same hashes
pub file_law : FileLaw
file_law layout bytes f g of also =
    alike-parts (placement_in layout) f g (same-words layout bytes f g of also)
    (same-hashes layout bytes f g of also) (same-key layout bytes f g of also)

-- an item has one hash under the hashers of filters of one file
pub same_file_items_law : {T : Type 0} (hash_of : CloneBuildHasher RandomDefaultHasher → T → ℕ)
    (by_key : ℕ → ℕ → T → ℕ)
    → ((b : CloneBuildHasher RandomDefaultHasher) (k0 k1 : ℕ) (item : T) → HasKey b k0 k1
    → hash_of b item ≡ by_key k0 k1 item)
    → SameFileItemsLaw hash_of
same_file_items_law hash_of by_key keyed layout bytes f g of also key key' item =
    let same = same-key layout bytes f g of also in
    keyed g.hasher _ _ item key'
    ∙ (λ i. by_key (same i).0 (same i).1 item)
    ∙ sym (keyed f.hasher _ _ item key)

-- a file of a filter is never refused where its layout is read
pub readable_law : ReadableLaw
readable_law = readable

-- a file of lines is refused by name where none are read, and the other way round
pub blocked_refused_law : BlockedRefusedLaw
blocked_refused_law bytes f is =
    refused-end Lines bytes f is Whole Blocked
    (end-blocked _ (head_of f) is.parts.seal (are Lines bytes f is))

pub not_blocked_refused_law : NotBlockedRefusedLaw
not_blocked_refused_law bytes f is =
    refused-end Whole bytes f is Lines NotBlocked
    (end-not_blocked _ (head_of f) is.parts.seal (are Whole bytes f is))
