-- Files that are read from their first bytes on: what those tell of the whole.
use Rattle.std.proofs.Common.{◌≡◌, ◌≢◌, ◌⊎◌, ℕ, zero, suc, ◌+◌, ◌*◌, ◌/◌, ◌<◌, ◌≤◌, true, false, List, [], ◌∷◌, ◌++◌, get_or, length, length-append, take, drop, Option, Some, None, IfSome, refl, sym, subst, ap, ◌∙◌, inl, inr, arith, take_all}
use Rattle.std.proofs.Math.Logic.{⊎_elim}
use Rattle.std.proofs.lemmas.Bool.{cases_lt, eq-eqb, le-leb, lt-leb, ne_eqb}
use Rattle.std.proofs.lemmas.Bool.Decides.{Decides-eqb, eqb_tells}
use Rattle.std.proofs.lemmas.List.{length-take-le, take-append-drop, take-append-le}
use Rattle.std.proofs.lemmas.Slice.Eq.{starts_is}
use Rattle.std.specs.Int.{from_le_bytes, w64}
use Rattle.std.specs.Prelude.{map, nat_eq, nat_le, IfOk, Ok, Result}
use Rattle.std.specs.Simd.{first_chunks}
use Rattle.std.specs.Io.KnownBytes.{Consumes, IsAtEnd}
use Rattle.summaries_engine.proofs.Common.{get_or-map, starts_with, whole_words, number_at, Begins, Form, Json, AnyFilter, IsFileOfKind, layout_of, parts_of}
use Rattle.bloom_files.specs.FileLayouts.{numbers_in}
use Rattle.fastbloom.specs.File.{bytes_of, head_of}
use Rattle.summaries_engine.specs.Loaded.{IsInForm, file_form, head_layout, layout_given, mark_bytes}

-- a number of the first bytes is that of all bytes
number-first : (i : ℕ) (front more : List ℕ) → 8 * i + 8 ≤ length front
    → number_at (front ++ more) i ≡ number_at front i
unfolding whole_words
number-first zero (a ∷ b ∷ c ∷ d ∷ e ∷ f ∷ g ∷ h ∷ front) more room = refl
number-first (suc i) (a ∷ b ∷ c ∷ d ∷ e ∷ f ∷ g ∷ h ∷ front) more room =
    number-first i front more (omega (arith, room))
number-first i front more room = omega (arith, room)

-- a file of a filter has at least the 64 bytes of its head
file-long : (bytes : List ℕ) (f : AnyFilter) → IsFileOfKind bytes f → 64 ≤ length bytes
unfolding bytes_of
file-long bytes f file =
    let head : List ℕ =
    bytes_of (numbers_in (layout_of f) (head_of (parts_of f)) file.parts.seal) in
    let words : List ℕ = bytes_of (parts_of f).words in
    let size : length bytes ≡ 64 + length words =
    ap length file.parts.is ∙ length-append head words in
    omega (arith, size)

-- a file of a filter is in the form that its seal tells
seal-form : (seal : ℕ) (bytes : List ℕ) (f : AnyFilter) → IsFileOfKind bytes f
    → number_at bytes 5 ≡ seal → IsInForm (file_form seal) f bytes
seal-form seal bytes f file is = by (eqb_tells seal 0)
  where
    by : ((nat_eq seal 0 ≡ true) × (seal ≡ 0)) ⊎ ((nat_eq seal 0 ≡ false) × (seal ≢ 0))
        → IsInForm (file_form seal) f bytes
    by (inl it) = rw (it.0) (record { file = file; seal = is ∙ it.1 })
    by (inr it) = rw (it.0) (record { file = file; seal = λ none. it.1 (sym is ∙ none) })

-- what `read_full` came to: this many bytes of a buffer of 64 were read, fewer only at the end
pub record HasRead (old new : Option (List ℕ)) (buffer : List ℕ) (n : ℕ) : Type 0 where
  pub room : length buffer ≡ 64
  pub count : n ≤ length buffer
  pub taken : Consumes old new (take n buffer)
  pub end : n < length buffer → IsAtEnd new

-- what a call of `read_full` says where it is Ok
pub read-first : {E : Type 0} (read : Result ℕ E) (old new : Option (List ℕ)) (buffer : List ℕ)
    (n : ℕ) → read ≡ Ok n → length buffer ≡ 64 → IfOk read (λ n. n ≤ length buffer)
    → IfOk read (λ n. Consumes old new (take n buffer))
    → IfOk read (λ n. n < length buffer → IsAtEnd new) → HasRead old new buffer n
read-first read old new buffer n is room count taken end = record {
  room = room;
  count = subst (λ r. IfOk r (λ n. n ≤ length buffer)) is count;
  taken = subst (λ r. IfOk r (λ n. Consumes old new (take n buffer))) is taken;
  end = subst (λ r. IfOk r (λ n. n < length buffer → IsAtEnd new)) is end;
}

module _ {all rest buffer : List ℕ} {n : ℕ}
    (read : HasRead (Some all) (Some rest) buffer n) where
  -- all bytes are those that were read first and the rest
  size : length all ≡ n + length rest
  size =
      ap length read.taken ∙ length-append (take n buffer) rest
      ∙ ap (λ k. k + length rest) (length-take-le n buffer read.count)

  -- where fewer were read first, they are all
  size-fewer : n < 64 → length all ≡ n
  size-fewer fewer =
      let ended : length rest ≡ 0 = ap length (read.end (omega (arith, fewer, read.room))) in
      omega (arith, size, ended)

  -- else the numbers of the buffer are those of all bytes
  number-full : 64 ≤ n → (i : ℕ) → 8 * i + 8 ≤ 64 → number_at all i ≡ number_at buffer i
  number-full full i room =
      ap (λ bytes. number_at bytes i)
      (read.taken ∙ ap (λ l. l ++ rest) (take_all n buffer (omega (arith, full, read.room))))
      ∙ number-first i buffer rest (omega (arith, read.room, room))

  -- the layout that the first bytes tell is that of the whole
  pub layout-first : head_layout n buffer ≡ layout_given all
  layout-first = ⊎_elim short long (cases_lt n 64)
    where
      short : n < 64 → head_layout n buffer ≡ layout_given all
      short fewer =
          let part : nat_eq n 64 ≡ false = ne_eqb n 64 (λ is. omega (arith, fewer, is)) in
          let few : nat_le 64 (length all) ≡ false =
          lt-leb 64 (length all) (omega (arith, fewer, size-fewer fewer)) in
          rw (part, few) refl

      long : 64 ≤ n → head_layout n buffer ≡ layout_given all
      long full =
          let whole : nat_eq n 64 ≡ true =
          eq-eqb n 64 (omega (arith, full, read.count, read.room)) in
          let many : nat_le 64 (length all) ≡ true =
          le-leb 64 (length all) (omega (arith, size, full)) in
          rw (whole, many, number-full full 6 (omega arith)) refl

  -- bytes whose first don't begin as those of a file don't begin so
  pub no-mark : starts_with nat_eq (take n buffer) mark_bytes ≡ false → Begins all mark_bytes → ⊥
  no-mark other begins = ⊎_elim few enough (cases_lt n 7)
    where
      long : length all ≡ 7 + length begins.rest
      long = ap length begins.cut ∙ length-append mark_bytes begins.rest

      few : n < 7 → ⊥
      few fewer = omega (arith, long, size-fewer (omega (arith, fewer)), fewer)

      enough : 7 ≤ n → ⊥
      enough most =
          let short : length (take n buffer) ≡ n = length-take-le n buffer read.count in
          let first : take 7 (take n buffer) ≡ mark_bytes =
          sym (take-append-le 7 (take n buffer) rest (omega (arith, most, short)))
          ∙ ap (take 7) (sym read.taken ∙ begins.cut) in
          let is : take n buffer ≡ mark_bytes ++ drop 7 (take n buffer) =
          sym (take-append-drop 7 (take n buffer)) ∙ ap (λ l. l ++ drop 7 (take n buffer)) first in
          let holds = (starts_is Decides-eqb (take n buffer) mark_bytes
          (starts_with nat_eq (take n buffer) mark_bytes) refl).1 (drop 7 (take n buffer)) is in
          cc (sym other ∙ holds)

-- a file whose first bytes were read, and then it, is in the form that those bytes tell
pub in-file-form : (old new : Option (List ℕ)) (buffer : List ℕ) (n : ℕ) (f : AnyFilter)
    (form : Form) → HasRead old new buffer n
    → IfSome new (λ rest. IsFileOfKind (take n buffer ++ rest) f)
    → form ≡ file_form (number_at buffer 5) → IfSome old (IsInForm form f)
in-file-form None new buffer n f form read file is = tt
in-file-form (Some all) None buffer n f form read file is = absurd read.taken
in-file-form (Some all) (Some rest) buffer n f form read file is =
    subst (λ form. IsInForm form f all) (sym is)
    (seal-form (number_at buffer 5) all f whole (number-full read full 5 (omega arith)))
  where
    whole : IsFileOfKind all f
    whole = subst (λ bytes. IsFileOfKind bytes f) (sym read.taken) file

    full : 64 ≤ n
    full = ⊎_elim
        (λ fewer. absurd (omega (arith, size-fewer read fewer, fewer, file-long all f whole)))
        (λ full. full) (cases_lt n 64)

-- such bytes aren't a file of the form
pub in-no-file-form : (old new : Option (List ℕ)) (buffer : List ℕ) (n : ℕ) (f : AnyFilter)
    → HasRead old new buffer n → starts_with nat_eq (take n buffer) mark_bytes ≡ false
    → IfSome old (IsInForm Json f)
in-no-file-form None new buffer n f read other = tt
in-no-file-form (Some all) None buffer n f read other = absurd read.taken
in-no-file-form (Some all) (Some rest) buffer n f read other = no-mark read other

-- the numbers of bytes are those of their chunks of eight
numbers-chunks : (bytes : List ℕ)
    → whole_words bytes ≡ map (from_le_bytes w64) (first_chunks 8 (length bytes / 8) bytes)
unfolding whole_words
numbers-chunks (a ∷ b ∷ c ∷ d ∷ e ∷ f ∷ g ∷ h ∷ bytes) =
    let more : length (a ∷ b ∷ c ∷ d ∷ e ∷ f ∷ g ∷ h ∷ bytes) / 8 ≡ suc (length bytes / 8) =
    omega arith in
    ap (λ ws. from_le_bytes w64 (a ∷ b ∷ c ∷ d ∷ e ∷ f ∷ g ∷ h ∷ []) ∷ ws) (numbers-chunks bytes)
    ∙ ap (λ n. map (from_le_bytes w64)
    (first_chunks 8 n (a ∷ b ∷ c ∷ d ∷ e ∷ f ∷ g ∷ h ∷ bytes))) (sym more)
numbers-chunks bytes = refl

-- the number at a place is that of the chunk there
pub number-there : (bytes : List ℕ) (place : ℕ) (chunks : List (List ℕ))
    → chunks ≡ first_chunks 8 (length bytes / 8) bytes → place < length chunks
    → (chunk : List ℕ) → chunk ≡ get_or chunks place chunk → (number : ℕ)
    → number ≡ from_le_bytes w64 chunk → number ≡ number_at bytes place
number-there bytes place chunks are inside chunk is number of =
    of ∙ ap (from_le_bytes w64) is
    ∙ sym (get_or-map (from_le_bytes w64) chunks place chunk 0 inside)
    ∙ ap (λ l. get_or (map (from_le_bytes w64) l) place 0) are
    ∙ ap (λ l. get_or l place 0) (sym (numbers-chunks bytes))
