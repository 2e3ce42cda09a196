-- What is read of keys, and what is written of a filter's replies. A key is a line without its end,
-- which the byte `end` ends.
use Rattle.std.specs.Prelude.{ℕ, Bool, not, List, [], ◌∷◌, ◌++◌, if◌then◌else◌, filter, flat_map, Option}
use Rattle.std.specs.Io.KnownBytes.{Appends}
use Rattle.bloom_parts.specs.Keys.{HasKey, key_of}
use Rattle.lines.specs.Reading.{AreShort, IsReadFromBy, IsReadWholeBy}
use Rattle.summaries_engine.specs.declared.answers.Wanted.{Wanted}
use Rattle.summaries_engine.specs.declared.answers.Wanted.TheVariants.{Found, Absent}
use Rattle.summaries_engine.specs.declared.kinds.AnyFilter.{AnyFilter}
use Rattle.summaries_engine.specs.Kinds.{has_hash, parts_of}
use Rattle.summaries_engine.specs.Summaries.{hash_in}

-- the hashers of a filter have the filter's key, and have taken in nothing
abbrev pub IsKeyed : AnyFilter → Type 0
IsKeyed f =
    HasKey (parts_of f).hasher (key_of (parts_of f).hasher).0 (key_of (parts_of f).hasher).1

-- these are all keys that a reader had, none is too long, and this was done with them
pub record ReadsAll (end : ℕ) (read left : Option (List ℕ)) (Done : List (List ℕ) → Type 0)
    : Type 0 where
  pub keys : List (List ℕ)
  pub whole : IsReadWholeBy end read left keys
  pub short : AreShort 65536 keys
  pub done : Done keys

-- these are the first keys that a reader had, none is too long, and this was done with them
pub record ReadsFirst (end : ℕ) (read : Option (List ℕ)) (Done : List (List ℕ) → Type 0) : Type 0
  where
    pub keys : List (List ℕ)
    pub first : IsReadFromBy end read keys
    pub short : AreShort 65536 keys
    pub done : Done keys

-- whether a key is wanted: those that may be in, or those that are surely absent
abbrev pub is_wanted : Wanted → Bool → Bool
is_wanted Found contained = contained
is_wanted Absent contained = not contained

-- what is written of one key: the key with its end if it is wanted, and else nothing
abbrev pub reply_text : Wanted → Bool → ℕ → List ℕ → List ℕ
reply_text wanted contained end key =
    if is_wanted wanted contained then key ++ end ∷ [] else []

-- the keys that are wanted of a filter, in order, each with its end
abbrev pub wanted_text : AnyFilter → Wanted → ℕ → List (List ℕ) → List ℕ
wanted_text f wanted end keys =
    flat_map (λ key. key ++ end ∷ [])
    (filter (λ key. is_wanted wanted (has_hash f (hash_in f key))) keys)

-- those of these keys that are wanted were written
pub record WritesWanted (f : AnyFilter) (wanted : Wanted) (end : ℕ) (from to : Option (List ℕ))
    (keys : List (List ℕ)) : Type 0 where
  pub text : Appends from to (wanted_text f wanted end keys)
