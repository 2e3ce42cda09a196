-- A file that was written into nothing, and is read to its end.
use Rattle.std.proofs.Common.{◌≡◌, ℕ, List, [], ◌++◌, Option, Some, None, Result, Ok, Err, IfErr, refl, sym, ap, subst, ◌∙◌, inl, inr}
use Rattle.std.specs.Prelude.{◌⊎◌}
use Rattle.std.specs.Result.{result_err}
use Rattle.std.proofs.KnownBytes.{Consumes-all}
use Rattle.std.proofs.lemmas.Option.{none-some, same_Some}
use Rattle.fastbloom.specs.Data.{AnswerAlike, DefaultFilter}
use Rattle.fastbloom.specs.FileLayouts.{IsReadIn, refusal_in}
use Rattle.fastbloom.specs.FileReads.{IsInput}
use Rattle.fastbloom.specs.Filter.{anywhere}
use Rattle.fastbloom.specs.FilterFiles.{FileLaw, IsFileOf, ReadableLaw, ReadsFile}
use Rattle.bloom_files.specs.declared.error.FileError.{FileError}
use Rattle.bloom_files.specs.declared.error.FileError.TheVariants.{Memory}
use Rattle.bloom_files.specs.declared.layout.Layout.TheVariants.{Whole}

-- a file of a filter was written behind nothing, and it is all that a reader has
module _ (f : DefaultFilter) (before file had : List ℕ) (is : IsFileOf Whole file f)
    (empty : before ≡ []) (whole : had ≡ before ++ file) where
  is-file : had ≡ file
  is-file = whole ∙ ap (λ l. l ++ file) empty

  -- what is read to the end answers as the filter does
  pub alike : FileLaw → (g : DefaultFilter) (left : Option (List ℕ))
      → ReadsFile Whole (Some had) left g → AnswerAlike anywhere f g
  alike law g left read =
      let all : read.bytes ≡ had =
      Consumes-all (Some had) left read.bytes [] read.bytes read.taken read.end refl in
      law Whole read.bytes f g (subst (λ l. IsFileOf Whole l f) (sym (all ∙ is-file)) is)
      read.is_file

  -- it isn't refused
  none : ReadableLaw → refusal_in Whole had ≡ None
  none law = ap (refusal_in Whole) is-file ∙ law Whole file f is

  -- so only memory or a read can fail
  fails : ReadableLaw → (error : FileError) → IsReadIn Whole had (Some error)
      → (error ≡ Memory) ⊎ IsInput (Some error)
  fails law error (inl refused) = absurd (none-some error (sym (refused ∙ none law)))
  fails law error (inr (inl memory)) = inl (same_Some error Memory memory.0)
  fails law error (inr (inr input)) = inr input

  pub refused : ReadableLaw → (read : Result DefaultFilter FileError)
      → IsReadIn Whole had (result_err read)
      → IfErr read (λ error. (error ≡ Memory) ⊎ IsInput (Some error))
  refused law (Ok g) is_read = tt
  refused law (Err error) is_read = fails law error is_read
