-- Files from which no filter is loaded: what is said of them is right.
use Rattle.std.proofs.Common.{◌≡◌, ◌⊎◌, inl, inr, ℕ, ◌<◌, false, List, ◌++◌, take, Option, Some, None, IfSome, sym, subst, ◌∙◌}
use Rattle.std.specs.declared.io.ErrorKind.{ErrorKind}
use Rattle.std.specs.Fmt.{option_append}
use Rattle.summaries_engine.proofs.Common.{starts_with, nat_eq, HasMessage, Error, Layout, Form, AnyFilter, Stop, Bad, parts_of}
use Rattle.bloom_files.specs.declared.error.FileError.{FileError}
use Rattle.bloom_files.specs.declared.error.FileError.TheVariants as file_error
use Rattle.bloom_files.specs.FileLayouts.{IsReadIn, refusal_in}
use Rattle.summaries_engine.specs.Loaded.{HasHashesOf, IsInForm, IsRightIn, IsRightOf, IsRightWith, IsReportedOf, IsUnread, hashes_text, head_layout, mark_bytes}
use Rattle.summaries_engine.specs.Stops.{IsBad, IsInputStop, IsMemory}
use Rattle.summaries_engine.proofs.LoadedLemmas.{HasRead, layout-first, no-mark}

-- memory and a failed read aren't said of what was read
pub elsewhere : (P : Error → Type 0) (stop : Stop) → IsMemory stop ⊎ IsInputStop P stop
    → IsBad (λ said. Unit {0}) stop → ⊥
elsewhere P (Bad said) (inl memory) bad = memory
elsewhere P (Bad said) (inr input) bad = input
elsewhere P stop told bad = bad

-- what is reported about a file's error is right
reported-right : (layout : Layout) (bytes name : List ℕ) (error : FileError) (stop : Stop)
    → IsReportedOf name error stop → IsReadIn layout bytes (Some error)
    → IsRightIn layout bytes name stop
reported-right layout bytes name error (Bad said) told read =
    inr ((error, refused read), told.other told.memory input)
  where
    input : (kind : ErrorKind) → error ≡ file_error.Input kind → ⊥
    input kind is = let unread = told.input kind is in unread.other unread.memory

    refused : IsReadIn layout bytes (Some error) → refusal_in layout bytes ≡ Some error
    refused (inl is) = sym is
    refused (inr (inl is)) = absurd (told.memory (cc (is.0)))
    refused (inr (inr is)) = absurd (input is.0 (cc (is.1)))
reported-right layout bytes name error stop told read = inl (λ bad. bad)

-- what is reported about a file's error is right, where its first bytes were read before
pub file-right : (layout : Layout) (start name : List ℕ) (rest known : Option (List ℕ))
    (error : FileError) (stop : Stop) (read : Option FileError)
    → known ≡ option_append (Some start) rest → read ≡ Some error
    → IfSome known (λ bytes. IsReadIn layout bytes read) → IsReportedOf name error stop
    → IfSome rest (λ rest. IsRightIn layout (start ++ rest) name stop)
file-right layout start name None known error stop read joined is refused told = tt
file-right layout start name (Some rest) known error stop read joined is refused told =
    reported-right layout (start ++ rest) name error stop told
    (subst (λ r. IsReadIn layout (start ++ rest) r) is
    (subst (λ k. IfSome k (λ bytes. IsReadIn layout bytes read)) joined refused))

-- what is reported about a file is right where it was read in the layout that it tells
pub layout-right : (old new : Option (List ℕ)) (buffer : List ℕ) (n : ℕ) (name : List ℕ)
    (stop : Stop) (layout : Layout) → HasRead old new buffer n → layout ≡ head_layout n buffer
    → IfSome new (λ rest. IsRightIn layout (take n buffer ++ rest) name stop)
    → IfSome old (λ bytes. IsRightOf bytes name stop)
layout-right None new buffer n name stop layout read is right = tt
layout-right (Some all) None buffer n name stop layout read is right = absurd read.taken
layout-right (Some all) (Some rest) buffer n name stop layout read is right =
    of (subst (λ bytes. IsRightIn layout bytes name stop) (sym read.taken) right)
  where
    of : IsRightIn layout all name stop → IsRightOf all name stop
    of (inl told) = inl told
    of (inr (refused, says)) = inr (
      (λ begins. subst (λ l. (error : FileError) × (refusal_in l all ≡ Some error))
          (is ∙ layout-first read) refused),
      says,
    )

-- what is reported about text is right
pub text-right : (old new : Option (List ℕ)) (buffer : List ℕ) (n : ℕ) (name : List ℕ)
    (stop : Stop) → HasRead old new buffer n
    → starts_with nat_eq (take n buffer) mark_bytes ≡ false → IsUnread name stop
    → IfSome old (λ bytes. IsRightOf bytes name stop)
text-right None new buffer n name stop read other told = tt
text-right (Some all) None buffer n name stop read other told = absurd read.taken
text-right (Some all) (Some rest) buffer n name stop read other (inl memory) =
    inl (elsewhere (λ said. Unit {0}) stop (inl memory))
text-right (Some all) (Some rest) buffer n name stop read other (inr (inl input)) =
    inl (elsewhere _ stop (inr input))
text-right (Some all) (Some rest) buffer n name stop read other (inr (inr none)) =
    inr ((λ begins. absurd (no-mark read other begins)), none)

-- a filter has more hashes than are allowed
pub many-right : (old : Option (List ℕ)) (name : List ℕ) (most : ℕ) (stop : Stop)
    (filter : AnyFilter) (form : Form) → IfSome old (IsInForm form filter)
    → most < (parts_of filter).hashes
    → IsBad (HasMessage (Some (hashes_text name (parts_of filter).hashes most))) stop
    → IfSome old (λ bytes. IsRightWith bytes name most stop)
many-right None name most stop filter form is many says = tt
many-right (Some bytes) name most stop filter form is many says = inr (of stop says)
  where
    of : (stop : Stop)
        → IsBad (HasMessage (Some (hashes_text name (parts_of filter).hashes most))) stop
        → IsBad (HasHashesOf bytes name most) stop
    of (Bad said) says = record {
      filter = filter;
      form = form;
      is = is;
      many = many;
      says = says;
    }
    of stop says = says
