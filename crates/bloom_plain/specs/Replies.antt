-- What lists of commands do, and their replies: the subset test just before each command.
use Rattle.std.specs.Prelude.{◌≡◌, ℕ, Bool, List, [], ◌∷◌, ◌++◌, map, option_to_list}
use Rattle.bloom_parts.specs.Content.{content}
use Rattle.bloom_parts.specs.Operations.{Operation, Insert, state_after, reply}
use Rattle.bloom_plain.specs.Filter.{Filter, SameShape, num_bits_of}

-- the replies to commands that come after these earlier ones
abbrev pub replies_after : ℕ → ℕ → (ℕ → Bool) → List Operation → List Operation → List Bool
replies_after n k A earlier [] = []
replies_after n k A earlier (operation ∷ later) =
    option_to_list (reply n k (state_after n k A earlier) operation)
    ++ replies_after n k A (earlier ++ operation ∷ []) later

-- the replies to a list of commands, in order
abbrev pub replies : ℕ → ℕ → (ℕ → Bool) → List Operation → List Bool
replies n k A operations = replies_after n k A [] operations

-- the list theorem: from old to new the commands were carried out in order, with these replies
pub record CarriesOut {S : Type 0} (old : Filter S) (operations : List Operation) (new : Filter S)
    (given : List Bool) : Type 0 where
  pub bits : (p : ℕ) → content new.words p
      ≡ state_after (num_bits_of old) old.hashes (content old.words) operations p
  pub answers : given ≡ replies (num_bits_of old) old.hashes (content old.words) operations
  pub shape : SameShape old new
  pub hasher : new.hasher ≡ old.hasher

-- from old to new the hashes of a list were inserted, in order
abbrev pub InsertsAll : {S : Type 0} → Filter S → List ℕ → Filter S → Type 0
InsertsAll old hashes new = (given : List Bool) × CarriesOut old (map Insert hashes) new given

-- from old to new the items of a list were inserted, in order, each by its hash under the hasher
abbrev pub InsertsItems : {S T : Type 0} → (S → T → ℕ) → Filter S → List T → Filter S → Type 0
InsertsItems hash_of old items new = InsertsAll old (map (hash_of old.hasher) items) new
