-- Filters that are read from files, in either form, and what is said where one isn't. The forms and
-- the texts are this project's own.
use Rattle.std.specs.Prelude.{◌≡◌, ◌≢◌, ◌⊎◌, ℕ, ◌<◌, ◌&&◌, codes, decimal, length, List, [], ◌∷◌, ◌++◌, Some, nat_eq, nat_le, if◌then◌else◌}
use Rattle.std.specs.declared.io.ErrorKind.{ErrorKind}
use Rattle.std.specs.declared.io.ErrorKind.TheVariants.{InvalidData}
use Rattle.anyhow.specs.Error.{HasMessage}
use Rattle.anyhow.specs.declared.error.Error.{Error}
use Rattle.bloom_files.specs.declared.error.FileError.{FileError}
use Rattle.bloom_files.specs.declared.error.FileError.TheVariants as file_error
use Rattle.bloom_files.specs.declared.layout.Layout.{Layout}
use Rattle.bloom_files.specs.declared.layout.Layout.TheVariants.{Whole, Lines}
use Rattle.bloom_files.specs.FileLayouts.{refusal_in}
use Rattle.bloom_files.specs.FileRefusals.{number_at}
use Rattle.lines.specs.Writing.{Begins}
use Rattle.summaries_engine.specs.declared.form.Form.{Form}
use Rattle.summaries_engine.specs.declared.form.Form.TheVariants.{Sealed, Unsealed, Json}
use Rattle.summaries_engine.specs.declared.kinds.AnyFilter.{AnyFilter}
use Rattle.summaries_engine.specs.declared.stop.Stop.{Stop}
use Rattle.summaries_engine.specs.Kinds.{IsFileOfKind, parts_of}
use Rattle.summaries_engine.specs.Stops.{IsBad, IsInputStop, IsMemory, IsUnreadAs}

-- the bytes with which each file of the form begins, whatever its version: `fbloom` and 0
abbrev pub mark_bytes : List ℕ
mark_bytes = 102 ∷ 98 ∷ 108 ∷ 111 ∷ 111 ∷ 109 ∷ 0 ∷ []

-- the bytes are a file of the filter, with a seal
pub record IsSealedFile (bytes : List ℕ) (f : AnyFilter) : Type 0 where
  pub file : IsFileOfKind bytes f
  pub seal : number_at bytes 5 ≢ 0

-- the bytes are a file of the filter, with no seal
pub record IsUnsealedFile (bytes : List ℕ) (f : AnyFilter) : Type 0 where
  pub file : IsFileOfKind bytes f
  pub seal : number_at bytes 5 ≡ 0

-- the bytes are a filter in this form. Of text only this is said, that it isn't a file of the form
abbrev pub IsInForm : Form → AnyFilter → List ℕ → Type 0
IsInForm Sealed f bytes = IsSealedFile bytes f
IsInForm Unsealed f bytes = IsUnsealedFile bytes f
IsInForm Json f bytes = Begins bytes mark_bytes → ⊥

-- the form of a file with this seal
abbrev pub file_form : ℕ → Form
file_form seal = if nat_eq seal 0 then Unsealed else Sealed

-- it is said that what was read is no filter
abbrev pub SaysNone : List ℕ → Stop → Type 0
SaysNone name stop = IsBad (HasMessage (Some (name ++ codes ": it holds no filter"))) stop

-- no filter is read: memory was out, or a read failed, or what was read is none; and the name is
-- said
abbrev pub IsUnread : List ℕ → Stop → Type 0
IsUnread name stop = IsMemory stop
    ⊎ IsInputStop (HasMessage (Some (name ++ codes ": it can't be read"))) stop
    ⊎ SaysNone name stop

-- what is reported where a file isn't read for this error
pub record IsReportedOf (name : List ℕ) (error : FileError) (stop : Stop) : Type 0 where
  pub memory : error ≡ file_error.Memory → IsMemory stop
  pub input : (kind : ErrorKind) → error ≡ file_error.Input kind → IsUnreadAs kind name stop
  pub other : error ≢ file_error.Memory → ((kind : ErrorKind) → error ≢ file_error.Input kind)
      → SaysNone name stop

-- what is reported where no text is read for an error of this kind: bytes that aren't UTF-8 are no
-- filter
pub record IsReportedOfText (kind : ErrorKind) (name : List ℕ) (stop : Stop) : Type 0 where
  pub none : kind ≡ InvalidData → SaysNone name stop
  pub other : (kind ≡ InvalidData → ⊥) → IsUnreadAs kind name stop

-- the layout that a whole head tells. A file that ends within its head is refused, whatever it
-- tells
abbrev pub layout_given : List ℕ → Layout
layout_given bytes =
    if nat_le 64 (length bytes) && nat_eq (number_at bytes 6) 1 then Lines else Whole

-- bytes hold no filter: a file of the form is refused where the layout is read that it tells. Of
-- text nothing is said
abbrev pub HoldsNone : List ℕ → Type 0
HoldsNone bytes = Begins bytes mark_bytes
    → (error : FileError) × (refusal_in (layout_given bytes) bytes ≡ Some error)

-- the layout that the first bytes of a file tell, of which this many were read into 64
abbrev pub head_layout : ℕ → List ℕ → Layout
head_layout count head = if nat_eq count 64 && nat_eq (number_at head 6) 1 then Lines else Whole

-- that these bytes hold no filter is said only where they are refused as a file of this layout
abbrev pub IsRightIn : Layout → List ℕ → List ℕ → Stop → Type 0
IsRightIn layout bytes name stop =
    (IsBad (λ said. Unit {0}) stop → ⊥)
    ⊎ (((error : FileError) × (refusal_in layout bytes ≡ Some error)) × SaysNone name stop)

-- that these bytes hold no filter is said only where it is true
abbrev pub IsRightOf : List ℕ → List ℕ → Stop → Type 0
IsRightOf bytes name stop =
    (IsBad (λ said. Unit {0}) stop → ⊥) ⊎ (HoldsNone bytes × SaysNone name stop)

-- what is said of a filter with more hashes than are allowed
abbrev pub hashes_text : List ℕ → ℕ → ℕ → List ℕ
hashes_text name hashes most =
    name ++ (codes ": it has " ++ (decimal hashes
    ++ (codes " hashes, and --hashes-up-to allows " ++ decimal most)))

-- the error tells the name and the number of hashes, which is more than are allowed
pub record HasManyHashes (name : List ℕ) (most : ℕ) (said : Error) : Type 0 where
  pub hashes : ℕ
  pub many : most < hashes
  pub says : HasMessage (Some (hashes_text name hashes most)) said

-- no filter with few enough hashes is read, and why
abbrev pub IsUnloaded : List ℕ → ℕ → Stop → Type 0
IsUnloaded name most stop = IsUnread name stop ⊎ IsBad (HasManyHashes name most) stop

-- the error tells the name and how many hashes the filter of these bytes has: more than are allowed
pub record HasHashesOf (bytes name : List ℕ) (most : ℕ) (said : Error) : Type 0 where
  pub filter : AnyFilter
  pub form : Form
  pub is : IsInForm form filter bytes
  pub many : most < (parts_of filter).hashes
  pub says : HasMessage (Some (hashes_text name (parts_of filter).hashes most)) said

-- that these bytes hold no filter, or one with more hashes than are allowed, is said only where it
-- is true, and by the number of hashes of that filter
abbrev pub IsRightWith : List ℕ → List ℕ → ℕ → Stop → Type 0
IsRightWith bytes name most stop =
    IsRightOf bytes name stop ⊎ IsBad (HasHashesOf bytes name most) stop
