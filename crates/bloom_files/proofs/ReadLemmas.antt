-- What a file that is read part by part comes to.
use Rattle.std.proofs.Common.{◌≡◌, ℕ, ◌*◌, ◌^◌, ◌<◌, List, [], ◌++◌, length, length-append, Option, Some, None, refl, sym, ap, subst, ◌∙◌, arith, append_assoc, append-nil, inl, inr}
use Rattle.bloom_files.proofs.Common.{IfSome, option_or, Consumes, IsAtEnd, sip, FileError, Cut, TooLong, Memory, Input, Layout, bytes_of, head_in, head_refusal, number_at, wrong_seal}
use Rattle.std.proofs.KnownBytes.{Consumes-trans, Consumes-whole}
use Rattle.bloom_parts.specs.Hashed.{SipState, Hashed, Answers}
use Rattle.bloom_files.specs.FileLayouts.{IsReadIn, IsReportedIn, ReadsParts, layout_refusal, numbers_in, refusal_in, sealed_bytes}
use Rattle.bloom_files.specs.FileReads.{FailsEarly, FailsWithin, ReadsWords, StopsEnd, StopsWords}
use Rattle.bloom_files.proofs.FileLemmas.{good-seal, is-file}
use Rattle.bloom_files.proofs.NumberLemmas.{length-bytes_of}
use Rattle.bloom_files.proofs.RefusalLemmas.{head_refusal-head, number_at-head, refusal_in-head, refusal_in-size, length_refusal-cut, length_refusal-long}

-- what is reported about a head is reported of the file
pub reported-head : (layout : Layout) (known : Option (List ℕ)) (error : FileError)
    → IsReportedIn layout known error → IfSome known (λ bytes. IsReadIn layout bytes (Some error))
reported-head layout None error told = tt
reported-head layout (Some bytes) error (inl input) = inr (inr input)
reported-head layout (Some bytes) error (inr is) = inl (sym is)

-- a head was read that isn't refused
module _ (old mid : Option (List ℕ)) (start : List ℕ) (size : length start ≡ 64)
    (good : head_refusal start ≡ None) (first : Consumes old mid start) where
  -- why the words weren't read is the refusal of all bytes, memory or a failed read
  pub reported-words : (layout : Layout) (count : ℕ) → count ≡ number_at start 2
      → (error : FileError) → StopsWords (8 * count) mid error
      → IfSome old (λ bytes. IsReadIn layout bytes (Some error))
  reported-words layout count is error stops =
      told old mid first error (subst (λ n. StopsWords (8 * n) mid error) is stops)
    where
      told : (old mid : Option (List ℕ)) → Consumes old mid start → (error : FileError)
          → StopsWords (8 * number_at start 2) mid error
          → IfSome old (λ bytes. IsReadIn layout bytes (Some error))
      told None mid taken error stops = tt
      told (Some bytes) None taken error stops = absurd taken
      told (Some bytes) (Some body) taken Cut stops =
          rw taken (inl (sym (refusal_in-size start body size layout Cut good
          (length_refusal-cut start body size stops))))
      told (Some bytes) (Some body) taken Memory stops =
          rw taken (inr (inl (refl, head_refusal-head start body size ∙ good)))
      told (Some bytes) (Some body) taken (Input kind) stops = inr (inr (kind, refl))
      told (Some bytes) (Some body) taken _ stops = absurd stops

  -- a read that fails among the words decides no refusal yet
  pub words-early : (new : Option (List ℕ)) (count : ℕ) → count ≡ number_at start 2
      → (error : FileError) → FailsWithin (8 * count) mid new error → FailsEarly old new error
  words-early new count is error fails = λ kind same.
      let fewer = fails kind same in
      let more = fewer.given in
      record {
        given = start ++ more;
        taken = Consumes-trans old mid new start more first fewer.taken;
        undecided =
            inr (
              head_refusal-head start more size ∙ good,
              omega (
                arith,
                size,
                is,
                fewer.few,
                length-append start more,
                number_at-head start more size 2 (omega arith),
              ),
            );
      }

-- a head was read that isn't refused, and then all words that it tells of
module _ (old mid end : Option (List ℕ)) (start : List ℕ) (size : length start ≡ 64)
    (good : head_refusal start ≡ None) (first : Consumes old mid start) (words : List ℕ)
    (f h : SipState) (reads : ReadsWords mid end [] words f h)
    (count : length words ≡ number_at start 2) where
  both : Consumes old end (start ++ bytes_of words)
  both =
      subst (λ l. Consumes old end (start ++ bytes_of l)) (sym reads.behind)
      (Consumes-trans old mid end start (bytes_of reads.words) first reads.taken)

  right : length (bytes_of words) ≡ 8 * number_at start 2
  right = omega (arith, count, length-bytes_of words)

  -- why the reader isn't at its end is the refusal of all bytes, or a failed read
  pub reported-end : (layout : Layout) (error : FileError) → StopsEnd end error
      → IfSome old (λ bytes. IsReadIn layout bytes (Some error))
  reported-end layout error stops = told old end both error stops
    where
      told : (old end : Option (List ℕ)) → Consumes old end (start ++ bytes_of words)
          → (error : FileError) → StopsEnd end error
          → IfSome old (λ bytes. IsReadIn layout bytes (Some error))
      told None end taken error stops = tt
      told (Some bytes) None taken error stops = absurd taken
      told (Some bytes) (Some more) taken TooLong stops =
          rw (taken ∙ append_assoc start (bytes_of words) more)
          (inl (sym (refusal_in-size start (bytes_of words ++ more) size layout TooLong good
          (length_refusal-long start (bytes_of words ++ more) size
          (omega (arith, right, stops, length-append (bytes_of words) more))))))
      told (Some bytes) (Some more) taken (Input kind) stops = inr (inr (kind, refl))
      told (Some bytes) (Some more) taken _ stops = absurd stops

  -- a read that fails behind the words decides no refusal yet
  pub end-early : (new : Option (List ℕ)) (error : FileError) → FailsWithin 1 end new error
      → FailsEarly old new error
  end-early new error fails = λ kind same.
      let fewer = fails kind same in
      let more = bytes_of words ++ fewer.given in
      record {
        given = start ++ more;
        taken =
            subst (Consumes old new) (append_assoc start (bytes_of words) fewer.given)
            (Consumes-trans old end new (start ++ bytes_of words) fewer.given both fewer.taken);
        undecided =
            inr (
              head_refusal-head start more size ∙ good,
              omega (
                arith,
                size,
                right,
                fewer.few,
                length-append start more,
                length-append (bytes_of words) fewer.given,
                number_at-head start more size 2 (omega arith),
              ),
            );
      }

  -- the reader is at its end
  module _ (last : Option (List ℕ)) (nothing : Consumes end last []) (at_end : IsAtEnd last) where
    -- just the head and the words were read
    pub all-read : Consumes old last (start ++ bytes_of words)
    all-read =
        subst (Consumes old last) (append-nil (start ++ bytes_of words))
        (Consumes-trans old end last (start ++ bytes_of words) [] both nothing)

    module _ (layout : Layout) where
      -- what a seal covers
      abbrev hashed_bytes : List ℕ
      hashed_bytes = sealed_bytes layout start ++ bytes_of words

      -- what the head and the words are refused for is reported
      told : (error : Option FileError) → error ≡ refusal_in layout (start ++ bytes_of words)
          → IfSome old (λ bytes. IsReadIn layout bytes error)
      told error is =
          Consumes-whole old last (start ++ bytes_of words) (λ bytes. IsReadIn layout bytes error)
          all-read at_end (inl is)

      -- the refusal of the end of the head
      pub reported-layout : (error : FileError) → Some error ≡ layout_refusal layout start
          → IfSome old (λ bytes. IsReadIn layout bytes (Some error))
      reported-layout error is =
          told (Some error)
          (sym (refusal_in-head start (bytes_of words) size layout right
          ∙ (λ i. option_or (good i) (option_or (sym is i)
          (wrong_seal (number_at start 5) (sip 0 0 hashed_bytes))))))

      -- the hasher's answer is the right seal
      pub right-seal : (hash : ℕ) → Hashed f 0 0 (sealed_bytes layout start) → Answers h hash
          → hash ≡ sip 0 0 hashed_bytes
      right-seal hash begun answers =
          answers 0 0 _ (reads.hashed 0 0 (sealed_bytes layout start) begun)
          ∙ ap (λ l. sip 0 0 (sealed_bytes layout start ++ bytes_of l)) (sym reads.behind)

      -- the refusal of the seal, or none
      pub reported-seal : (error : Option FileError) (hash : ℕ)
          → Hashed f 0 0 (sealed_bytes layout start) → Answers h hash
          → layout_refusal layout start ≡ None → error ≡ wrong_seal (number_at start 5) hash
          → IfSome old (λ bytes. IsReadIn layout bytes error)
      reported-seal error hash begun answers none is =
          told error
          (is ∙ ap (wrong_seal (number_at start 5)) (right-seal hash begun answers)
          ∙ sym (refusal_in-head start (bytes_of words) size layout right
          ∙ (λ i. option_or (good i) (option_or (none i)
          (wrong_seal (number_at start 5) (sip 0 0 hashed_bytes))))))

      -- the head and these words are those of the bytes that were read
      pub reads-parts : (hash : ℕ) → Hashed f 0 0 (sealed_bytes layout start) → Answers h hash
          → layout_refusal layout start ≡ None → wrong_seal (number_at start 5) hash ≡ None
          → number_at start 5 < 2 ^ 64
          → start ≡ bytes_of (numbers_in layout (head_in start) (number_at start 5))
          → ReadsParts layout old last (head_in start) words
      reads-parts hash begun answers none sealed narrow back = record {
        bytes = start ++ bytes_of words;
        taken = all-read;
        is_file =
            is-file layout start words size good count none narrow back
            (good-seal (number_at start 5) (sip 0 0 hashed_bytes)
            (ap (wrong_seal (number_at start 5)) (sym (right-seal hash begun answers)) ∙ sealed));
        end = at_end;
      }
