-- The file of a filter of either kind, and the laws of files. The form and the order of the reasons
-- are this project's choice.
use Rattle.std.specs.Prelude.{◌≡◌, ℕ, List, Option, Some, None}
use Rattle.std.specs.Io.KnownBytes.{Appends, Consumes, IsAtEnd}
use Rattle.bloom_parts.specs.declared.hasher.CloneBuildHasher.{CloneBuildHasher}
use Rattle.bloom_parts.specs.declared.hasher.sip.RandomDefaultHasher.{RandomDefaultHasher}
use Rattle.bloom_plain.specs.Data.{AnswerAlike, DefaultFilter}
use Rattle.bloom_plain.specs.Filter.{Placement, anywhere}
use Rattle.bloom_blocked.specs.Blocked.{in_lines}
use Rattle.bloom_files.specs.declared.error.FileError.TheVariants.{Blocked, NotBlocked}
use Rattle.bloom_files.specs.declared.layout.Layout.{Layout}
use Rattle.bloom_files.specs.declared.layout.Layout.TheVariants.{Whole, Lines}
use Rattle.bloom_files.specs.File.{FitsWords, HasOwnKey, head_of}
use Rattle.bloom_files.specs.FileLayouts.{IsFileIn, refusal_in, sealed_file}

-- the file of a filter, which is sealed
abbrev pub file_of : Layout → DefaultFilter → List ℕ
file_of layout f = sealed_file layout (head_of f) f.words

-- the bytes are a file of the filter, with the right seal or none
pub record IsFileOf (layout : Layout) (bytes : List ℕ) (f : DefaultFilter) : Type 0 where
  pub parts : IsFileIn layout bytes (head_of f) f.words
  pub fits : FitsWords f

-- from old to new a reader gave a file of the filter, and is at its end
pub record ReadsFile (layout : Layout) (old new : Option (List ℕ)) (f : DefaultFilter) : Type 0
  where
    pub bytes : List ℕ
    pub taken : Consumes old new bytes
    pub is_file : IsFileOf layout bytes f
    pub end : IsAtEnd new

-- from old to new a writer took a file of the filter
pub record WritesFile (layout : Layout) (old new : Option (List ℕ)) (f : DefaultFilter) : Type 0
  where
    pub bytes : List ℕ
    pub added : Appends old new bytes
    pub is_file : IsFileOf layout bytes f

-- where a filter of a layout has the positions of a hash
abbrev pub placement_in : Layout → Placement
placement_in Whole = anywhere
placement_in Lines = in_lines

-- two filters of one file contain the same hashes
abbrev pub FileLaw : Type 0
FileLaw = (layout : Layout) (bytes : List ℕ) (f g : DefaultFilter) → IsFileOf layout bytes f
    → IsFileOf layout bytes g → AnswerAlike (placement_in layout) f g

-- filters of one file whose hashers have taken in nothing give each item one source hash
abbrev pub SameFileItemsLaw :
    {T : Type 0} → (CloneBuildHasher RandomDefaultHasher → T → ℕ) → Type 0
SameFileItemsLaw {T} hash_of =
    (layout : Layout) (bytes : List ℕ) (f g : DefaultFilter) → IsFileOf layout bytes f
    → IsFileOf layout bytes g → HasOwnKey f → HasOwnKey g
    → (item : T) → hash_of g.hasher item ≡ hash_of f.hasher item

-- a file of a filter is never refused where its layout is read
abbrev pub ReadableLaw : Type 0
ReadableLaw = (layout : Layout) (bytes : List ℕ) (f : DefaultFilter) → IsFileOf layout bytes f
    → refusal_in layout bytes ≡ None

-- a file of a blocked filter is refused by name where a filter is read that isn't blocked
abbrev pub BlockedRefusedLaw : Type 0
BlockedRefusedLaw = (bytes : List ℕ) (f : DefaultFilter) → IsFileOf Lines bytes f
    → refusal_in Whole bytes ≡ Some Blocked

-- and so is a file of a filter that isn't blocked where lines are read
abbrev pub NotBlockedRefusedLaw : Type 0
NotBlockedRefusedLaw = (bytes : List ℕ) (f : DefaultFilter) → IsFileOf Whole bytes f
    → refusal_in Lines bytes ≡ Some NotBlocked
