-- What is read of several inputs: of each relation cases that hold, and the nearest that don't.
use Rattle.std.proofs.Common.{◌≡◌, ℕ, ◌+◌, ◌-◌, ◌^◌, min, List, [], ◌∷◌, ◌++◌, length, length-append, get_or, Option, Some, None, refl, ap, arith}
use Rattle.duplicates_engine.proofs.Common.{codes, lines_by, TooLong, Memory, Full, Open, Input, Output, IsReadAt, IsWrittenAt}
use Rattle.std.specs.declared.io.ErrorKind.TheVariants as kind
use Rattle.duplicates_engine.specs.Inputs.{Opens, NoneComes, lines_in, AreAllRead, AreFirstIn}
use Rattle.duplicates_engine.proofs.Cases.{HoldsOfNone}

-- two inputs, of which the first lacks the end of its last line
abbrev inputs : List (List ℕ)
inputs = codes "a\nb" ∷ codes "c\n" ∷ []

-- how many are known
abbrev count : {A : Type 0} → Option (List A) → ℕ
count None = 0
count (Some known) = length known

-- the first input is opened, and the second comes: the first isn't passed over, nor does it come
-- again. Where none comes, none is opened
opens : Opens (Some inputs) (Some (codes "c\n" ∷ [])) (Some (codes "a\nb"))
    × (Opens (Some inputs) (Some (codes "c\n" ∷ [])) (Some (codes "c\n")) → ⊥)
    × (Opens (Some inputs) (Some inputs) (Some (codes "a\nb")) → ⊥)
    × (Opens (Some []) (Some []) (Some []) → ⊥)
opens = (
  (refl, refl),
  λ is. omega (arith, ap count is.1),
  λ is. omega (arith, ap count is.0),
  λ is. is,
)

-- none comes where none is left, and none comes later
none_comes : NoneComes (Some []) (Some [])
    × (NoneComes (Some inputs) (Some []) → ⊥)
    × (NoneComes (Some []) (Some inputs) → ⊥)
none_comes = (
  (refl, refl),
  λ is. omega (arith, ap length is.0),
  λ is. omega (arith, ap count is.1),
)

-- all lines of both inputs, where the last line of an input ends with it: no input is left out, and
-- none comes any more
all_read : AreAllRead 10 (Some inputs) (Some []) (codes "a" ∷ codes "b" ∷ codes "c" ∷ [])
    × (AreAllRead 10 (Some inputs) (Some []) (codes "a" ∷ codes "b" ∷ []) → ⊥)
    × (AreAllRead 10 (Some []) (Some inputs) [] → ⊥)
    × AreAllRead 0 (Some inputs) (Some []) inputs
unfolding lines_by
all_read = (
  record { are_lines = refl; none_left = refl },
  λ is. omega (arith, ap length is.are_lines),
  λ is. omega (arith, ap count is.none_left),
  record { are_lines = refl; none_left = refl },
)

-- the second line isn't the first
not-first : AreFirstIn 10 inputs (codes "b" ∷ []) → ⊥
unfolding lines_by
not-first is = omega (arith, ap (λ l. get_or (get_or l 0 []) 0 0) is.cut)

-- up to a fault the first lines were read, over the end of an input, and not the second alone
reached : IsReadAt 10 3 Memory (Some inputs) (codes "a" ∷ codes "b" ∷ [])
    × HoldsOfNone (λ fault. IsReadAt 10 3 fault (Some inputs) (codes "b" ∷ []))
    (Memory ∷ Full ∷ Open kind.NotFound ∷ Input kind.BrokenPipe ∷ Output kind.BrokenPipe ∷ [])
unfolding lines_by
reached = (
  record { later = codes "c" ∷ []; cut = refl },
  (not-first, (not-first, (not-first, (not-first, (not-first, tt))))),
)

-- where one input comes, its second line doesn't have number 1
not-number-one : (done rest earlier before : List (List ℕ)) (only input : List ℕ)
    → only ∷ [] ≡ done ++ input ∷ rest → lines_in 10 done ≡ earlier
    → codes "c" ∷ [] ≡ earlier ++ before → 1 ≡ min (length before + 1) (2 ^ 64 - 1) → ⊥
not-number-one [] rest earlier before only input cut are lines number =
    omega (arith, ap length lines, length-append earlier before, ap length are, number)
not-number-one (bytes ∷ done) rest earlier before only input cut are lines number =
    omega (arith, ap length cut, length-append done (input ∷ rest))

-- the second line of the second input is too long, and its number is 2: not 1, and it stays at
-- 2^64 - 1
reached-long : IsReadAt 10 1 (TooLong 2) (Some (codes "a\nb" ∷ codes "c\ndd\n" ∷ []))
    (codes "a" ∷ codes "b" ∷ codes "c" ∷ [])
    × (IsReadAt 10 1 (TooLong 1) (Some (codes "c\ndd\n" ∷ [])) (codes "c" ∷ []) → ⊥)
    × ((lines : List (List ℕ)) → IsReadAt 10 1 (TooLong (2 ^ 64)) None lines → ⊥)
unfolding lines_by
reached-long = (
  record {
    earlier = codes "a" ∷ codes "b" ∷ [];
    before = codes "c" ∷ [];
    cut = refl;
    is_number = refl;
    is_long = record {
      done = codes "a\nb" ∷ [];
      input = codes "c\ndd\n";
      rest = [];
      cut = refl;
      are_earlier = refl;
      is_long = record { long = codes "dd"; later = []; cut = refl; is_long = omega arith };
    };
  },
  λ is. not-number-one is.is_long.done is.is_long.rest is.earlier is.before (codes "c\ndd\n")
      is.is_long.input is.is_long.cut is.is_long.are_earlier is.cut is.is_number,
  λ lines is. omega (arith, is.is_number),
)

-- a beginning isn't all of a text
not-all : codes "a" ≡ codes "a\n" → ⊥
not-all is = omega (arith, ap length is)

-- at a fault of the writer a beginning of the text was written, and at any other all of it
written : IsWrittenAt (Output kind.BrokenPipe) (codes "a\n") (codes "a")
    × (IsWrittenAt (Output kind.BrokenPipe) (codes "a\n") (codes "b") → ⊥)
    × IsWrittenAt Memory (codes "a\n") (codes "a\n")
    × HoldsOfNone (λ fault. IsWrittenAt fault (codes "a\n") (codes "a"))
    (Memory ∷ Full ∷ Open kind.NotFound ∷ Input kind.BrokenPipe ∷ TooLong 2 ∷ [])
written = (
  record { rest = 10 ∷ []; cut = refl },
  λ is. omega (arith, ap (λ l. get_or l 0 0) is.cut),
  refl,
  (not-all, (not-all, (not-all, (not-all, (not-all, tt))))),
)
