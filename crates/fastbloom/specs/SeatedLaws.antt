-- Laws of seated filters, over what the contracts of their calls state. They are this project's
-- own.
use Rattle.std.specs.Prelude.{◌≡◌, ◌<◌, ◌≤◌, ◌⊎◌, ◌/◌, ◌==◌, ◌&&◌, ℕ, Bool, true, false, List, [], ◌∷◌, length, count_by}
use Rattle.bloom_parts.specs.Content.{bit_is_on, content}
use Rattle.bloom_parts.specs.Deciders.{Decider, makes_on, state}
use Rattle.fastbloom.specs.Passes.{SeatedFilter, Sight, Knows, IsSure, seated_num_bits, seated_positions, InsertsAs, Finds, Meets}
use Rattle.fastbloom.specs.Plays.{with_bits}
use Rattle.fastbloom.specs.Rule.{Standing, IsSeated}
use Rattle.fastbloom.specs.declared.seated.rule.Role.{Role}
use Rattle.fastbloom.specs.declared.seated.rule.Role.TheVariants.{First, Pass, Note, Spent}
use Rattle.fastbloom.specs.declared.seated.rule.Sets.{Sets}

-- a look-up by a pass finds what the pass can be sure of
abbrev pub SureFoundLaw : Type 0
SureFoundLaw =
    (f : SeatedFilter) (old new : Sight) (hash : ℕ) (answer : Bool) → IsSure f old hash
    → Finds (seated_num_bits f) f.hashes hash old new answer → answer ≡ true

-- an insert by a pass returns true of what the pass can be sure of
abbrev pub InsertedLaw : Type 0
InsertedLaw =
    (f : SeatedFilter) (old new : Sight) (hash : ℕ) (answer : Bool) → IsSure f old hash
    → InsertsAs (seated_positions f hash) old new answer → answer ≡ true

-- a pass knows what it inserted
abbrev pub KnownLaw : Type 0
KnownLaw =
    (f : SeatedFilter) (old new : Sight) (hash : ℕ) (answer : Bool)
    → InsertsAs (seated_positions f hash) old new answer → Knows f new hash

-- what a pass knows it still knows after an insert, after a look-up, and after it met another
pub record StaysLaw : Type 0 where
  pub insert : (f : SeatedFilter) (P : ℕ → Bool) (old new : Sight) (hash : ℕ) (answer : Bool)
      → Knows f old hash → InsertsAs P old new answer → Knows f new hash
  pub look : (f : SeatedFilter) (n k other : ℕ) (old new : Sight) (hash : ℕ) (answer : Bool)
      → Knows f old hash → Finds n k other old new answer → Knows f new hash
  pub meeting : (f : SeatedFilter) (a b a_new b_new : Sight) (hash : ℕ)
      → Knows f a hash ⊎ Knows f b hash → Meets a b a_new b_new
      → Knows f a_new hash × Knows f b_new hash

-- what one pass knows, a look-up by another that met it finds, and an insert of it returns true
pub record MetLaw : Type 0 where
  pub found : (f : SeatedFilter) (a b a_new b_new later : Sight) (hash : ℕ) (answer : Bool)
      → Knows f a hash → Meets a b a_new b_new
      → Finds (seated_num_bits f) f.hashes hash b_new later answer → answer ≡ true
  pub inserted : (f : SeatedFilter) (a b a_new b_new later : Sight) (hash : ℕ) (answer : Bool)
      → Knows f a hash → Meets a b a_new b_new
      → InsertsAs (seated_positions f hash) b_new later answer → answer ≡ true

-- whether a seat of this role is a pass
abbrev pub is_pass_role : Role → Bool
is_pass_role First = false
is_pass_role Pass = true
is_pass_role Note = false
is_pass_role Spent = false

-- whether a seat is a pass
abbrev pub is_pass : Sets → Bool
is_pass v = is_pass_role v.role

-- there are at most as many passes as were asked for
abbrev pub FewLaw : Type 0
FewLaw =
    (words passes : ℕ) (s : Standing) → IsSeated words passes s → count_by is_pass s.views ≤ passes

-- what an `|` of a mask into word i decides
abbrev pub or_decides : ℕ → ℕ → Decider
or_decides i mask = makes_on (λ p. p / 64 == i && bit_is_on mask p)

-- the words after an `|` are what it decides of them
abbrev pub OrLaw : Type 0
OrLaw =
    (words : List ℕ) (i mask p : ℕ) → i < length words
    → content (with_bits words i mask) p ≡ state (content words) (or_decides i mask ∷ []) p
