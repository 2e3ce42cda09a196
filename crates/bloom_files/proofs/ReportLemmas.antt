-- What is said of a file that isn't read to its end.
use Rattle.std.proofs.Common.{◌≡◌, ℕ, ◌<◌, ◌≤◌, List, ◌++◌, length, length-take, take, Option, Some, None, ap, ◌∙◌, arith, append-nil, inl, inr}
use Rattle.bloom_files.proofs.Common.{◌⊎◌, IfSome, option_or, Consumes, IsAtEnd, FileError, Layout, layout_refusal, refusal_in, seal_refusal_in, head_refusal, length_refusal}
use Rattle.std.proofs.lemmas.Bool.{cases_lt}
use Rattle.bloom_files.proofs.RefusalLemmas.{head_refusal-head}

-- a head that is refused decides for the file
refusal_in-first : (layout : Layout) (bytes : List ℕ) (error : FileError)
    → head_refusal bytes ≡ Some error → refusal_in layout bytes ≡ Some error
refusal_in-first layout bytes error is =
    ap (λ first. option_or first (option_or (length_refusal bytes)
    (option_or (layout_refusal layout bytes) (seal_refusal_in layout bytes)))) is

-- the refusal of a beginning that is a whole head, or all that the reader had, is that of the file
reported-part : (layout : Layout) (old mid : Option (List ℕ)) (part : List ℕ) (error : FileError)
    → Consumes old mid part → head_refusal part ≡ Some error → (length part ≡ 64) ⊎ IsAtEnd mid
    → IfSome old (λ bytes. refusal_in layout bytes ≡ Some error)
reported-part layout None mid part error taken is much = tt
reported-part layout (Some bytes) None part error taken is much = absurd taken
reported-part layout (Some bytes) (Some rest) part error taken is (inl size) =
    refusal_in-first layout bytes error
    (ap head_refusal taken ∙ head_refusal-head part rest size ∙ is)
reported-part layout (Some bytes) (Some rest) part error taken is (inr end) =
    refusal_in-first layout bytes error
    (ap head_refusal (taken ∙ ap (λ l. part ++ l) end ∙ append-nil part) ∙ is)

-- the same, where a buffer of 64 bytes was filled as far as the reader had bytes
pub reported-start : (layout : Layout) (old mid : Option (List ℕ)) (buffer : List ℕ) (count : ℕ)
    (error : FileError) → length buffer ≡ 64 → count ≤ length buffer
    → Consumes old mid (take count buffer)
    → (count < length buffer → IsAtEnd mid) → head_refusal (take count buffer) ≡ Some error
    → IfSome old (λ bytes. refusal_in layout bytes ≡ Some error)
reported-start layout old mid buffer count error size within taken end is =
    reported-part layout old mid (take count buffer) error taken is (much (cases_lt count 64))
  where
    much : (count < 64) ⊎ (64 ≤ count) → (length (take count buffer) ≡ 64) ⊎ IsAtEnd mid
    much (inl less) = inr (end (omega (arith, less, size)))
    much (inr more) = inl (omega (arith, more, size, within, length-take count buffer))
