-- How the refusal of a file follows from its head and the bytes behind it.
use Rattle.std.proofs.Common.{◌≡◌, ℕ, ◌+◌, ◌*◌, ◌%◌, ◌^◌, ◌<◌, List, ◌++◌, length, length-drop, take, drop, Bool, not, ◌&&◌, cond, Option, Some, None, refl, sym, ap, ◌∙◌, arith, length-append}
use Rattle.std.specs.Prelude.{slice_index, nat_eq, nat_le, nat_lt}
use Rattle.bloom_files.proofs.Common.{option_or, sip, whole_words, FileError, NotAFilter, Version, HashCount, EmptyWords, TooManyWords, Cut, TooLong, Reserved, Blocked, NotBlocked, PartOfALine, Layout, Whole, Lines, mark}
use Rattle.std.proofs.lemmas.Bool.{le-leb, lt-ltb, le-ltb}
use Rattle.std.proofs.lemmas.List.{drop_at, drop-append-le, get_or_append_left, take-append-le}
use Rattle.bloom_files.specs.FileLayouts.{layout_refusal, refusal_in, right_seal_in, seal_refusal_in, sealed_bytes}
use Rattle.bloom_files.specs.FileRefusals.{has_number, head_refusal, is_hash_count, number_at, length_refusal, wrong_seal}
use Rattle.bloom_files.proofs.NumberLemmas.{length-whole_words, whole_words-append}

-- the refusal of a head, by its first numbers and by which of them are there
abbrev refusal_by : ℕ → ℕ → ℕ → Bool → Bool → Option FileError
refusal_by first hashes words second third =
    cond (not (nat_eq (first % 2 ^ 56) (mark % 2 ^ 56))) (Some NotAFilter)
    (cond (not (nat_eq first mark)) (Some Version)
    (cond (second && not (is_hash_count hashes)) (Some HashCount)
    (cond (third && nat_eq words 0) (Some EmptyWords)
    (cond (third && nat_le (2 ^ 58) words) (Some TooManyWords) None))))

-- the refusal of the end of a head, by the number of words and the last two numbers
abbrev end_by : Layout → ℕ → ℕ → ℕ → Option FileError
end_by Whole words sixth seventh =
    cond (not (nat_lt sixth 2 && nat_eq seventh 0)) (Some Reserved)
    (cond (nat_eq sixth 1) (Some Blocked) None)
end_by Lines words sixth seventh =
    cond (not (nat_lt sixth 2 && nat_eq seventh 0)) (Some Reserved)
    (cond (nat_eq sixth 0) (Some NotBlocked)
    (cond (nat_eq (words % 8) 0) None (Some PartOfALine)))

-- it is that of the numbers
end-is : (layout : Layout) (bytes : List ℕ) → layout_refusal layout bytes
    ≡ end_by layout (number_at bytes 2) (number_at bytes 6) (number_at bytes 7)
end-is Whole bytes = refl
end-is Lines bytes = refl

-- a seal covers nothing behind the head
sealed-front : (layout : Layout) (head body : List ℕ) → length head ≡ 64
    → sealed_bytes layout (head ++ body) ≡ sealed_bytes layout head
sealed-front Whole head body size = take-append-le 40 head body (omega (arith, size))
sealed-front Lines head body size =
    (λ i. take-append-le 40 head body (omega (arith, size)) i
    ++ take 8 (drop-append-le 48 head body (omega (arith, size)) i))
    ∙ ap (λ l. take 40 head ++ l)
    (take-append-le 8 (drop 48 head) body (omega (arith, size, length-drop 48 head)))

-- the refusal of a size, where another is right
abbrev size_by : ℕ → ℕ → Option FileError
size_by found right =
    cond (nat_lt found right) (Some Cut) (cond (nat_lt right found) (Some TooLong) None)

-- a smaller size is cut
size_by-cut : (found right : ℕ) → found < right → size_by found right ≡ Some Cut
size_by-cut found right less i =
    cond (lt-ltb found right less i) (Some Cut) (cond (nat_lt right found) (Some TooLong) None)

-- a larger size is too long
size_by-long : (found right : ℕ) → right < found → size_by found right ≡ Some TooLong
size_by-long found right more i =
    cond (le-ltb found right (omega (arith, more)) i) (Some Cut)
    (cond (lt-ltb right found more i) (Some TooLong) None)

-- an equal size is right
size_by-none : (found right : ℕ) → found ≡ right → size_by found right ≡ None
size_by-none found right same i =
    cond (le-ltb found right (omega (arith, same)) i) (Some Cut)
    (cond (le-ltb right found (omega (arith, same)) i) (Some TooLong) None)

-- a head of 64 bytes, with bytes behind it
module _ (head body : List ℕ) (size : length head ≡ 64) where
  -- the numbers of a head are those of the file
  pub number_at-head : (place : ℕ) → place < 8
      → number_at (head ++ body) place ≡ number_at head place
  number_at-head place below =
      ap (λ l. slice_index l place) (whole_words-append head body (omega (arith, size)))
      ∙ get_or_append_left (whole_words head) (whole_words body) 0 place
      (omega (arith, size, below, length-whole_words head))

  -- both have the numbers at these places
  has_number-head : (place : ℕ) → place < 8
      → has_number (head ++ body) place ≡ has_number head place
  has_number-head place below =
      le-leb (8 * place + 8) (length (head ++ body))
      (omega (arith, size, below, length-append head body))
      ∙ sym (le-leb (8 * place + 8) (length head) (omega (arith, size, below)))

  -- the head decides its refusal
  pub head_refusal-head : head_refusal (head ++ body) ≡ head_refusal head
  head_refusal-head i =
      refusal_by (number_at-head 0 (omega arith) i) (number_at-head 1 (omega arith) i)
      (number_at-head 2 (omega arith) i) (has_number-head 1 (omega arith) i)
      (has_number-head 2 (omega arith) i)

  -- the head decides the refusal of its end
  pub layout_refusal-head : (layout : Layout)
      → layout_refusal layout (head ++ body) ≡ layout_refusal layout head
  layout_refusal-head layout =
      end-is layout (head ++ body)
      ∙ (λ i. end_by layout (number_at-head 2 (omega arith) i) (number_at-head 6 (omega arith) i)
      (number_at-head 7 (omega arith) i))
      ∙ sym (end-is layout head)

  -- what a seal covers
  pub right_seal_in-head : (layout : Layout)
      → right_seal_in layout (head ++ body) ≡ sip 0 0 (sealed_bytes layout head ++ body)
  right_seal_in-head layout i =
      sip 0 0 (sealed-front layout head body size i ++ drop_at head body 64 size i)

  -- the refusal of the seal
  pub seal_refusal-head : (layout : Layout) → seal_refusal_in layout (head ++ body)
      ≡ wrong_seal (number_at head 5) (sip 0 0 (sealed_bytes layout head ++ body))
  seal_refusal-head layout i =
      wrong_seal (number_at-head 5 (omega arith) i) (right_seal_in-head layout i)

  -- how many bytes there are, and how many there must be
  length_refusal-head : length_refusal (head ++ body)
      ≡ size_by (length (head ++ body)) (64 + 8 * number_at head 2)
  length_refusal-head i =
      size_by (length (head ++ body)) (64 + 8 * number_at-head 2 (omega arith) i)

  -- fewer bytes than the words of the head are cut
  pub length_refusal-cut : length body < 8 * number_at head 2
      → length_refusal (head ++ body) ≡ Some Cut
  length_refusal-cut few =
      length_refusal-head
      ∙ size_by-cut (length (head ++ body)) (64 + 8 * number_at head 2)
      (omega (arith, size, few, length-append head body))

  -- more bytes than the words of the head are too many
  pub length_refusal-long : 8 * number_at head 2 < length body
      → length_refusal (head ++ body) ≡ Some TooLong
  length_refusal-long many =
      length_refusal-head
      ∙ size_by-long (length (head ++ body)) (64 + 8 * number_at head 2)
      (omega (arith, size, many, length-append head body))

  -- as many bytes as the words of the head are right
  pub length_refusal-none : length body ≡ 8 * number_at head 2
      → length_refusal (head ++ body) ≡ None
  length_refusal-none right =
      length_refusal-head
      ∙ size_by-none (length (head ++ body)) (64 + 8 * number_at head 2)
      (omega (arith, size, right, length-append head body))

  -- the refusal of a file whose head isn't refused, but whose size is
  pub refusal_in-size : (layout : Layout) (error : FileError) → head_refusal head ≡ None
      → length_refusal (head ++ body) ≡ Some error → refusal_in layout (head ++ body) ≡ Some error
  refusal_in-size layout error good is i =
      option_or ((head_refusal-head ∙ good) i)
      (option_or (is i)
      (option_or (layout_refusal layout (head ++ body)) (seal_refusal_in layout (head ++ body))))

  -- the refusal of a file of the right size
  pub refusal_in-head : (layout : Layout) → length body ≡ 8 * number_at head 2
      → refusal_in layout (head ++ body) ≡ option_or (head_refusal head)
      (option_or (layout_refusal layout head)
      (wrong_seal (number_at head 5) (sip 0 0 (sealed_bytes layout head ++ body))))
  refusal_in-head layout right i =
      option_or (head_refusal-head i)
      (option_or (length_refusal-none right i)
      (option_or (layout_refusal-head layout i) (seal_refusal-head layout i)))
