-- Files of both kinds of filters, which have one form. The head tells how the words lie: all as one
-- set of positions, or each eight as a line of 512 bits that has all positions of a hash. Of one
-- set a head and its seal are those of `File`. The numbers of the layouts and the order of the
-- reasons are this project's choice.
use Rattle.std.specs.Prelude.{◌≡◌, ◌⊎◌, ℕ, ◌%◌, ◌^◌, ◌<◌, List, [], ◌∷◌, ◌++◌, length, take, drop, not, nat_eq, if◌then◌else◌, Option, Some, None, IfSome, ⊤}
use Rattle.std.specs.Io.KnownBytes.{Appends, Consumes, IsAtEnd}
use Rattle.std.specs.Option.{option_or}
use Rattle.bloom_parts.specs.Sip.{sip}
use Rattle.bloom_files.specs.declared.error.FileError.{FileError}
use Rattle.bloom_files.specs.declared.error.FileError.TheVariants.{Reserved, NotBlocked, PartOfALine, Memory}
use Rattle.bloom_files.specs.declared.head.Head.{Head}
use Rattle.bloom_files.specs.declared.layout.Layout.{Layout}
use Rattle.bloom_files.specs.declared.layout.Layout.TheVariants.{Whole, Lines}
use Rattle.bloom_files.specs.File.{bytes_of, opening}
use Rattle.bloom_files.specs.FileReads.{IsInput}
use Rattle.bloom_files.specs.FileRefusals.{has_layout, head_refusal, number_at, reserved_refusal, length_refusal, wrong_seal}
use Rattle.bloom_plain.specs.Filter.{IsShape}

-- the number of a layout, which stands behind the seal
abbrev pub layout_number : Layout → ℕ
layout_number Whole = 0
layout_number Lines = 1

-- the eight numbers of a head with this layout and seal
abbrev pub numbers_in : Layout → Head → ℕ → List ℕ
numbers_in layout head seal = opening head ++ seal ∷ layout_number layout ∷ 0 ∷ []

-- the numbers of a head that its seal covers: of lines also that of the layout
abbrev pub sealed_numbers : Layout → Head → List ℕ
sealed_numbers Whole head = opening head
sealed_numbers Lines head = opening head ++ 1 ∷ []

-- the right seal of a head and words
abbrev pub right_seal : Layout → Head → List ℕ → ℕ
right_seal layout head words = sip 0 0 (bytes_of (sealed_numbers layout head) ++ bytes_of words)

-- the file of a head, a seal and words
abbrev pub file_in : Layout → Head → ℕ → List ℕ → List ℕ
file_in layout head seal words = bytes_of (numbers_in layout head seal) ++ bytes_of words

-- the file of a head and words that has the right seal
abbrev pub sealed_file : Layout → Head → List ℕ → List ℕ
sealed_file layout head words = file_in layout head (right_seal layout head words) words

-- this many words may lie so: lines have eight each
abbrev pub AreWhole : Layout → ℕ → Type 0
AreWhole Whole words = ⊤
AreWhole Lines words = words % 8 ≡ 0

-- the bytes are a file of a head and words, with the right seal or none
pub record IsFileIn (layout : Layout) (bytes : List ℕ) (head : Head) (words : List ℕ) : Type 0
  where
    pub seal : ℕ
    pub narrow : seal < 2 ^ 64
    pub sealed : (seal ≡ 0) ⊎ (seal ≡ right_seal layout head words)
    pub is : bytes ≡ file_in layout head seal words
    pub count : length words ≡ head.num_words
    pub shape : IsShape (length words) head.num_hashes
    pub whole : AreWhole layout (length words)

-- why the end of a head is refused where lines are read: it has the numbers of no layout, or those
-- of a filter that isn't blocked, or the words are no whole lines
abbrev pub blocked_refusal : List ℕ → Option FileError
blocked_refusal bytes =
    if not (has_layout bytes) then Some Reserved
    else if nat_eq (number_at bytes 6) 0 then Some NotBlocked
    else if nat_eq (number_at bytes 2 % 8) 0 then None
    else Some PartOfALine

-- why the end of a head is refused where this layout is read
abbrev pub layout_refusal : Layout → List ℕ → Option FileError
layout_refusal Whole bytes = reserved_refusal bytes
layout_refusal Lines bytes = blocked_refusal bytes

-- why a head of 64 bytes is refused where this layout is read
abbrev pub head_refusal_in : Layout → List ℕ → Option FileError
head_refusal_in layout bytes = option_or (head_refusal bytes) (layout_refusal layout bytes)

-- the bytes of a head that its seal covers
abbrev pub sealed_bytes : Layout → List ℕ → List ℕ
sealed_bytes Whole bytes = take 40 bytes
sealed_bytes Lines bytes = take 40 bytes ++ take 8 (drop 48 bytes)

-- the right seal of a file
abbrev pub right_seal_in : Layout → List ℕ → ℕ
right_seal_in layout bytes = sip 0 0 (sealed_bytes layout bytes ++ drop 64 bytes)

-- why the seal of a file is refused
abbrev pub seal_refusal_in : Layout → List ℕ → Option FileError
seal_refusal_in layout bytes = wrong_seal (number_at bytes 5) (right_seal_in layout bytes)

-- why a file is refused where this layout is read; of several reasons the first counts
abbrev pub refusal_in : Layout → List ℕ → Option FileError
refusal_in layout bytes =
    option_or (head_refusal bytes) (option_or (length_refusal bytes)
    (option_or (layout_refusal layout bytes) (seal_refusal_in layout bytes)))

-- the error, if there is one, is the refusal of the bytes, or out of memory where they aren't
-- refused
abbrev pub IsRefusedIn : Layout → List ℕ → Option FileError → Type 0
IsRefusedIn layout bytes error =
    (error ≡ refusal_in layout bytes)
    ⊎ ((error ≡ Some Memory) × (refusal_in layout bytes ≡ None))

-- the error of a file that is read: as above, but that memory may run out before the words are
-- read, and that a read may fail
abbrev pub IsReadIn : Layout → List ℕ → Option FileError → Type 0
IsReadIn layout bytes error =
    (error ≡ refusal_in layout bytes) ⊎ ((error ≡ Some Memory) × (head_refusal bytes ≡ None))
    ⊎ IsInput error

-- the error is the refusal of all that a reader has, where it is known, or a failed read
abbrev pub IsReportedIn : Layout → Option (List ℕ) → FileError → Type 0
IsReportedIn layout known error =
    IsInput (Some error) ⊎ IfSome known (λ bytes. refusal_in layout bytes ≡ Some error)

-- from old to new a reader gave a file of a head and words, and is at its end
pub record ReadsParts (layout : Layout) (old new : Option (List ℕ)) (head : Head) (words : List ℕ)
    : Type 0 where
  pub bytes : List ℕ
  pub taken : Consumes old new bytes
  pub is_file : IsFileIn layout bytes head words
  pub end : IsAtEnd new

-- from old to new a writer took a file of a head and words
pub record WritesParts (layout : Layout) (old new : Option (List ℕ)) (head : Head)
    (words : List ℕ) : Type 0 where
  pub bytes : List ℕ
  pub added : Appends old new bytes
  pub is_file : IsFileIn layout bytes head words
