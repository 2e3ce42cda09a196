-- A seated filter and its passes as callers see them, and what calls do to a pass. A seated filter
-- is one whose words threads share at a table, where each thread has a seat. A pass is a thread's
-- seat as callers see it. It knows the positions that its steps found set or set themselves, and
-- those that it heard of. It gained those that its steps set. These words are this project's
-- own.
use Rattle.std.specs.Prelude.{◌≡◌, ◌+◌, ◌*◌, ◌/◌, ◌<◌, ◌≤◌, ◌⊎◌, ◌||◌, ℕ, Bool, true, false, List, []}
use Rattle.atomic_table.specs.Seated.{TableId}
use Rattle.atomic_table.specs.declared.shared.Seat.{Seat}
use Rattle.bloom_parts.specs.Content.{content}
use Rattle.bloom_parts.specs.Places.{IsPart, place, positions, are_in}
use Rattle.fastbloom.specs.Sets.{set_of}
use Rattle.fastbloom.specs.declared.seated.rule.Sets.{Sets}

-- a seated filter: its table, which has its number of words, how many hashes, and passes at most
pub record SeatedFilter : Type 0 where
  pub table : TableId
  pub hashes : ℕ
  pub passes : ℕ

-- a pass: the filter that it is of, the words that this began with, what it knows, what it gained
pub record Sight : Type 0 where
  pub filter : TableId
  pub start : List ℕ
  pub known : List ℕ
  pub gained : List ℕ

-- a seat at the table, as a pass
abbrev pub sight_of : Seat (Unit {0}) Sets → Sight
sight_of seat = record {
  filter = seat.table_id;
  start = seat.me.0.start;
  known = seat.me.0.known;
  gained = seat.me.0.gained;
}

-- the set of positions that a pass knows
abbrev pub known_of : Sight → ℕ → Bool
known_of pass = set_of pass.known

-- the set of positions that a pass gained
abbrev pub gained_of : Sight → ℕ → Bool
gained_of pass = set_of pass.gained

-- what a pass can be sure of: what the filter began with, and what it knows
abbrev pub sure_of : Sight → ℕ → Bool
sure_of pass p = content pass.start p || known_of pass p

-- the number of bits of a seated filter
abbrev pub seated_num_bits : SeatedFilter → ℕ
seated_num_bits f = 64 * f.table.words

-- the positions of a hash in a seated filter
abbrev pub seated_positions : SeatedFilter → ℕ → ℕ → Bool
seated_positions f hash = positions (seated_num_bits f) f.hashes hash

-- a pass knows all positions of a hash
abbrev pub Knows : SeatedFilter → Sight → ℕ → Type 0
Knows f pass hash = IsPart (seated_positions f hash) (known_of pass)

-- a pass can be sure of all positions of a hash
abbrev pub IsSure : SeatedFilter → Sight → ℕ → Type 0
IsSure f pass hash = IsPart (seated_positions f hash) (sure_of pass)

-- whether a pass knows all positions of a hash
abbrev pub contains_known : SeatedFilter → Sight → ℕ → Bool
contains_known f pass hash = are_in (seated_num_bits f) f.hashes hash (known_of pass)

-- the pass is of the same filter, which began with the same words
pub record IsSamePass (old new : Sight) : Type 0 where
  pub filter : new.filter ≡ old.filter
  pub start : new.start ≡ old.start

-- a pass of a filter that began with these words, which knows and gained nothing
pub record IsNewPass (filter : TableId) (start : List ℕ) (pass : Sight) : Type 0 where
  pub filter_is : pass.filter ≡ filter
  pub start_is : pass.start ≡ start
  pub known : pass.known ≡ []
  pub gained : pass.gained ≡ []

-- a position was gained
pub record HasGained (old new : Sight) : Type 0 where
  pub position : ℕ
  pub gained : gained_of new position ≡ true
  pub before : gained_of old position ≡ false

-- from old to new a pass set all positions of a set by its own steps
pub record InsertsAs (P : ℕ → Bool) (old new : Sight) (answer : Bool) : Type 0 where
  pub same : IsSamePass old new
  -- the pass knows exactly these more
  pub known : (p : ℕ) → known_of new p ≡ (known_of old p || P p)
  -- what the pass gained is of them, and it could not have been sure of it
  pub kept : IsPart (gained_of old) (gained_of new)
  pub gained : (p : ℕ) → gained_of new p ≡ true
      → (gained_of old p ≡ true) ⊎ ((P p ≡ true) × (sure_of old p ≡ false))
  -- the call returns false exactly if the pass gained
  pub grew : answer ≡ false → HasGained old new
  pub stayed : answer ≡ true → IsPart (gained_of new) (gained_of old)

-- a position lies in the word of one of the first positions of a hash
pub record IsBeside (n hash places p : ℕ) : Type 0 where
  pub index : ℕ
  pub below : index < places
  pub word : p / 64 ≡ place n hash index / 64

-- from old to new a pass found this many first positions of a hash set
pub record Looks (n hash places : ℕ) (old new : Sight) : Type 0 where
  pub same : IsSamePass old new
  pub gained : new.gained ≡ old.gained
  pub kept : IsPart (known_of old) (known_of new)
  pub found : (i : ℕ) → i < places → known_of new (place n hash i) ≡ true

-- what a pass comes to know lies in the words of this many first positions, which it loaded
abbrev pub GrowsBeside : ℕ → ℕ → ℕ → Sight → Sight → Type 0
GrowsBeside n hash loads old new =
    (p : ℕ) → known_of new p ≡ true → (known_of old p ≡ true) ⊎ IsBeside n hash loads p

-- from old to new a pass looked at the positions of a hash in order, up to the first that is clear
pub record Finds (n k hash : ℕ) (old new : Sight) (answer : Bool) : Type 0 where
  -- how many first positions were found set; none was looked at after the first that is clear
  pub on : ℕ
  pub most : on ≤ k
  pub looks : Looks n hash on old new
  pub all : answer ≡ true → (on ≡ k) × GrowsBeside n hash k old new
  pub off : answer ≡ false → (on < k) × (sure_of new (place n hash on) ≡ false)
      × GrowsBeside n hash (on + 1) old new

-- what either of two passes knows
abbrev pub either_of : Sight → Sight → ℕ → Bool
either_of a b p = known_of a p || known_of b p

-- from old to new two passes met: both know what either knew, and what the filter began with
pub record Meets (a b a_new b_new : Sight) : Type 0 where
  pub same_a : IsSamePass a a_new
  pub same_b : IsSamePass b b_new
  pub gained_a : a_new.gained ≡ a.gained
  pub gained_b : b_new.gained ≡ b.gained
  pub known_a : IsPart (either_of a b) (known_of a_new)
  pub known_b : IsPart (either_of a b) (known_of b_new)
  pub start_a : IsPart (content a.start) (known_of a_new)
  pub start_b : IsPart (content b.start) (known_of b_new)

-- the words in the end: all is set that the pass was sure of, and nothing that it gained was set at
-- the start
pub record Closes (pass : Sight) (words : List ℕ) : Type 0 where
  pub start : IsPart (content pass.start) (content words)
  pub known : IsPart (known_of pass) (content words)
  pub gained : (p : ℕ) → gained_of pass p ≡ true → content pass.start p ≡ false
