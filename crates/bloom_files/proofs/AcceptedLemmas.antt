-- What follows where a file isn't refused.
use Rattle.std.proofs.Common.{◌≡◌, ℕ, ◌*◌, ◌%◌, ◌^◌, ◌<◌, List, [], ◌++◌, length, length-take, length-drop, take, drop, take-append-drop, None, sym, ap, ◌∙◌, arith}
use Rattle.bloom_files.proofs.Common.{◌⊎◌, common_steps, sip, whole_words, Layout, bytes_of, IsFileIn, layout_refusal, numbers_in, refusal_in, seal_refusal_in, sealed_bytes}
use Rattle.bloom_files.specs.FileRefusals.{file_size, head_in, head_refusal, number_at, length_refusal}
use Rattle.bloom_files.proofs.FileLemmas.{good-seal, is-file, neither}
use Rattle.bloom_files.proofs.NumberLemmas.{length-whole_words}
use Rattle.bloom_files.proofs.RefusalLemmas.{head_refusal-head, layout_refusal-head, number_at-head, seal_refusal-head}

-- a file of the right size
right-size : (bytes : List ℕ) → length_refusal bytes ≡ None → length bytes ≡ file_size bytes
right-size bytes none = grind (arith, common_steps)

-- a file that isn't refused, cut behind its head
module _ (layout : Layout) (bytes head body : List ℕ) (is_head : head ≡ take 64 bytes)
    (is_body : body ≡ drop 64 bytes) (none : refusal_in layout bytes ≡ None) where
  size : length bytes ≡ file_size bytes
  size = right-size bytes (neither _ _ (neither _ _ none).1).0

  pub head-size : length head ≡ 64
  head-size = omega (arith, size, ap length is_head, length-take 64 bytes)

  pub whole : bytes ≡ head ++ body
  whole = sym (take-append-drop 64 bytes) ∙ (λ i. sym is_head i ++ sym is_body i)

  pub head-good : head_refusal head ≡ None
  head-good =
      sym (head_refusal-head head body head-size) ∙ ap head_refusal (sym whole)
      ∙ (neither _ _ none).0

  pub end-good : layout_refusal layout head ≡ None
  end-good =
      sym (layout_refusal-head head body head-size layout)
      ∙ ap (layout_refusal layout) (sym whole)
      ∙ (neither (layout_refusal layout bytes) (seal_refusal_in layout bytes)
      (neither (length_refusal bytes) _ (neither (head_refusal bytes) _ none).1).1).0

  -- as many bytes as the head tells
  pub body-size : length body ≡ 8 * number_at head 2
  body-size =
      let words = number_at-head head body head-size 2 (omega arith) in
      let told = ap (λ l. number_at l 2) whole in
      omega (arith, size, words, told, ap length is_body, length-drop 64 bytes)

  sealed : (number_at head 5 ≡ 0)
      ⊎ (number_at head 5 ≡ sip 0 0 (sealed_bytes layout head ++ body))
  sealed =
      good-seal _ _
      (sym (seal_refusal-head head body head-size layout)
      ∙ ap (seal_refusal_in layout) (sym whole)
      ∙ (neither (layout_refusal layout bytes) (seal_refusal_in layout bytes)
      (neither (length_refusal bytes) _ (neither (head_refusal bytes) _ none).1).1).1)

  -- the words of the bytes behind the head, which come behind none
  module _ (words before : List ℕ) (empty : before ≡ []) (are : words ≡ before ++ whole_words body)
    where
      words-are : words ≡ whole_words body
      words-are = are ∙ ap (λ l. l ++ whole_words body) empty

      -- they are as many as the head tells
      words-count : length words ≡ number_at head 2
      words-count = omega (arith, ap length words-are, length-whole_words body, body-size)

      -- it is the file of what its head says, and of them
      pub accepted : (length body % 8 ≡ 0 → bytes_of (whole_words body) ≡ body)
          → number_at head 5 < 2 ^ 64
          → head ≡ bytes_of (numbers_in layout (head_in head) (number_at head 5))
          → IsFileIn layout bytes (head_in head) words
      accepted again narrow back =
          let same : bytes_of words ≡ body =
          ap bytes_of words-are ∙ again (omega (arith, body-size)) in
          rw (whole, sym same)
          (is-file layout head words head-size head-good words-count end-good narrow back
          (rw (same) sealed))
