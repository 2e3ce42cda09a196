-- Keys at the front of some bytes, each of which has its end there, which the byte `end` is. This
-- project's own.
use Rattle.std.specs.Prelude.{◌≡◌, ℕ, ◌≤◌, true, List, ◌∷◌, ◌++◌, length, map, Option}
use Rattle.bloom_parts.specs.Keys.{key_of}
use Rattle.bloom_parts.specs.Sip.{sip}
use Rattle.lines.specs.Lines.{IsEndedBy, has_no_end_by, lines_by}
use Rattle.lines.specs.Reading.{AreShort}
use Rattle.lines.specs.Writing.{AppendsPart}
use Rattle.summaries_engine.specs.declared.answers.Wanted.{Wanted}
use Rattle.summaries_engine.specs.declared.kinds.AnyFilter.{AnyFilter}
use Rattle.summaries_engine.specs.Answers.{WritesWanted, wanted_text}
use Rattle.summaries_engine.specs.Kinds.{parts_of}

-- bytes begin with a key that isn't too long and its end, and the rest follows
pub record CutsKey (end : ℕ) (bytes key rest : List ℕ) : Type 0 where
  pub cut : bytes ≡ key ++ end ∷ rest
  pub inside : has_no_end_by end key ≡ true
  pub short : length key ≤ 65536

-- bytes begin with these keys, each with its end and none too long, and the rest follows
pub record CutsKeys (end : ℕ) (bytes rest : List ℕ) (keys : List (List ℕ)) : Type 0 where
  pub taken : List ℕ
  pub cut : bytes ≡ taken ++ rest
  pub are_lines : lines_by end taken ≡ keys
  pub ended : IsEndedBy end taken
  pub short : AreShort 65536 keys

-- these are the hashes, under a key of the hash, of the keys with which bytes begin up to the rest
pub record HashesFirst (k0 k1 end : ℕ) (bytes rest hashes : List ℕ) : Type 0 where
  pub keys : List (List ℕ)
  pub cuts : CutsKeys end bytes rest keys
  pub hashed : hashes ≡ map (sip k0 k1) keys

-- these are the hashes, under the key of a filter, of the first keys of some bytes
abbrev pub HashesSome : AnyFilter → ℕ → List ℕ → List ℕ → Type 0
HashesSome f end bytes hashes = let key = key_of (parts_of f).hasher in
    (rest : List ℕ) × HashesFirst key.0 key.1 end bytes rest hashes

-- so many of the first keys of some bytes were asked for, up to the rest, and those that are wanted
-- were written
pub record AnswersFirst (f : AnyFilter) (wanted : Wanted) (end : ℕ) (bytes rest : List ℕ) (n : ℕ)
    (from to : Option (List ℕ)) : Type 0 where
  pub keys : List (List ℕ)
  pub cuts : CutsKeys end bytes rest keys
  pub counted : n ≡ length keys
  pub done : WritesWanted f wanted end from to keys

-- a write failed within the text of some of the first keys of some bytes
pub record AnswersPart (f : AnyFilter) (wanted : Wanted) (end : ℕ) (bytes : List ℕ)
    (from to : Option (List ℕ)) : Type 0 where
  pub keys : List (List ℕ)
  pub rest : List ℕ
  pub cuts : CutsKeys end bytes rest keys
  pub part : AppendsPart (wanted_text f wanted end keys) from to
