-- What each step of a seated filter tells its seat. There are two kinds, a load and an `|`; a split
-- and a join of seats are loads of word 0.
use Rattle.std.specs.Prelude.{◌≡◌, ◌-◌, ◌/◌, ◌||◌, ◌≤◌, ℕ, true, Bool, List, [], ◌++◌, slice_index, slice_set, bit_or}
use Rattle.atomic_table.specs.Seated.{TableId}
use Rattle.atomic_table.specs.Table.{Me, Step}
use Rattle.atomic_table.specs.declared.shared.Seat.{Seat}
use Rattle.bloom_parts.specs.Content.{bit_is_on, content}
use Rattle.bloom_parts.specs.Places.{IsPart}
use Rattle.fastbloom.specs.Sets.{set_of, ones_in, fresh_in}
use Rattle.fastbloom.specs.declared.seated.rule.Sets.{Sets}
use Rattle.fastbloom.specs.declared.seated.rule.Size.{Size}
use Rattle.fastbloom.specs.declared.seated.rule.Role.TheVariants.{First, Pass, Note, Spent}

-- what a seat knows; it holds no slot
abbrev pub Sat : Type 0
Sat = Me (Unit {0}) Sets

-- a seat of a filter
abbrev pub FilterSeat : Type 0
FilterSeat = Seat (Unit {0}) Sets

-- the seat is at this table, whose rule has this number of words
pub record SitsAt (seat : FilterSeat) (table : TableId) (size : Size) : Type 0 where
  pub here : seat.table_id ≡ table
  pub words : table.words ≡ size.words

-- what a seat can be sure of: what the filter began with, and what it knows
abbrev pub sure_in : Sets → ℕ → Bool
sure_in v p = content v.start p || set_of v.known p

-- what the seat is sure of is set in the word found
abbrev pub Shows : Sets → ℕ → ℕ → Type 0
Shows v i found = (p : ℕ) → p / 64 ≡ i → sure_in v p ≡ true → bit_is_on found p ≡ true

-- after a load the seat knows what it found set
abbrev pub after_load : Sets → ℕ → ℕ → Sets
after_load v i found = record v { known = v.known ++ ones_in i found }

-- after an `|` the seat knows the positions of the mask, and gained those that were clear
abbrev pub after_or : Sets → ℕ → ℕ → ℕ → Sets
after_or v i mask found = record v {
  known = v.known ++ ones_in i mask;
  gained = v.gained ++ fresh_in i mask found;
}

-- a load by a pass
abbrev pub loaded : Step (Unit {0}) → Sat → ℕ → Sat → Type 0
loaded step me found new =
    (new.0 ≡ after_load me.0 step.word found) × Shows me.0 step.word found

-- an `|` by a pass
abbrev pub bits_set : Step (Unit {0}) → Sat → ℕ → Sat → Type 0
bits_set step me found new =
    (new.0 ≡ after_or me.0 step.word step.first found) × Shows me.0 step.word found
    × IsPart (set_of me.0.gained) (set_of me.0.known)

-- the words with the bits of a mask set in word i
abbrev pub with_bits : List ℕ → ℕ → ℕ → List ℕ
with_bits words i mask = slice_set words i (bit_or (slice_index words i) mask)

-- an `|` by the first seat, before its first split, adds to the start
abbrev pub put_in : Step (Unit {0}) → Sat → ℕ → Sat → Type 0
put_in step me found new =
    new.0 ≡ record me.0 { start = with_bits me.0.start step.word step.first }

-- the load with which the first seat becomes a pass
abbrev pub settled : Step (Unit {0}) → Sat → ℕ → Sat → Type 0
settled step me found new = new.0 ≡ record me.0 { role = Pass }

-- the first seat, while it puts the words in
pub record IsFirst (v : Sets) : Type 0 where
  pub role : v.role ≡ First
  pub known : v.known ≡ []
  pub gained : v.gained ≡ []
  pub some : 1 ≤ v.passes

-- from old to new the first seat made the start these words
pub record Puts (old new : FilterSeat) (words : List ℕ) : Type 0 where
  pub table : new.table_id ≡ old.table_id
  pub first : IsFirst new.me.0
  pub passes : new.me.0.passes ≡ old.me.0.passes
  pub start_is : new.me.0.start ≡ words

-- a pass that knows and gained nothing
pub record IsFresh (v : Sets) : Type 0 where
  pub role : v.role ≡ Pass
  pub known : v.known ≡ []
  pub gained : v.gained ≡ []

-- the seat that splits off a pass stands for one less
abbrev pub less_one : Sets → Sets
less_one v = record v { passes = v.passes - 1 }

-- the pass split off stands for itself
abbrev pub one_of : Sets → Sets
one_of v = record v { passes = 1 }

-- a note has what a pass knows, and is no pass
abbrev pub note_of : Sets → Sets
note_of v = record v { role = Note; gained = []; passes = 0 }

-- a seat that a note joins knows also what is in the note
abbrev pub informed : Sets → Sets → Sets
informed v w = record v { known = v.known ++ w.known }

-- what is left of a note that was joined
abbrev pub spent_view : Sets
spent_view = record { role = Spent; start = []; known = []; gained = []; passes = 0 }
