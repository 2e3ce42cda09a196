-- Laws of filters, over what the contracts of the calls state. A hash may be any number.
use Rattle.std.specs.Prelude.{◌≡◌, ◌↔◌, ◌≤◌, ℕ, ◌*◌, Bool, true, false, ◌||◌, ◌&&◌, max, IsTrue, List, ◌∷◌, ◌++◌, map, All, ⊤}
use Rattle.bloom_parts.specs.Content.{content, AreWords}
use Rattle.bloom_parts.specs.Places.{IsPart}
use Rattle.bloom_parts.specs.Rates.{num_of, den_of}
use Rattle.bloom_plain.specs.Builders.{Start, RateStart, same_start, same_rate_start}
use Rattle.bloom_plain.specs.CommandOf.{operation_of}
use Rattle.bloom_parts.specs.Operations.{Operation, Insert, Contains, Clear, Union, Intersect}
use Rattle.bloom_plain.specs.Filter.{Filter, HasShape, SameShape, Placement, positions_of, contains, Inserts, Clears, Unites, Intersects, same_filter, anywhere}
use Rattle.bloom_plain.specs.Replies.{CarriesOut, InsertsAll}
use Rattle.bloom_plain.specs.declared.bloom.command.Command.{Command}
use Rattle.bloom_plain.specs.declared.bloom.command.Command.TheVariants as command

-- an insert returns what a look-up just before it would have, and afterwards its hash is contained
abbrev pub InsertLaw : Placement → (S : Type 0) → Type 0
InsertLaw place S = (old new : Filter S) (hash : ℕ) (reply : Bool)
    → Inserts place old hash new reply
    → (reply ≡ contains place old hash) × (contains place new hash ≡ true)

-- a hash that is contained stays contained under an insert of any hash
abbrev pub KeptByInsertLaw : Placement → (S : Type 0) → Type 0
KeptByInsertLaw place S = (old new : Filter S) (inserted hash : ℕ) (reply : Bool)
    → Inserts place old inserted new reply
    → contains place old hash ≡ true → contains place new hash ≡ true

-- a hash that is contained stays contained under a union
abbrev pub KeptByUnionLaw : Placement → (S : Type 0) → Type 0
KeptByUnionLaw place S = (old other new : Filter S) (hash : ℕ) → Unites old other new
    → contains place old hash ≡ true → contains place new hash ≡ true

-- a command clears no position of a set: it is no clear, and no intersection with a set that lacks
-- one of them
abbrev pub Spares : (ℕ → Bool) → Operation → Type 0
Spares A (Insert hash) = ⊤
Spares A (Contains hash) = ⊤
Spares A Clear = ⊥
Spares A (Union other) = ⊤
Spares A (Intersect other) = IsPart A other

-- a hash that is contained stays contained under a list of commands that spare its positions
abbrev pub KeptByListLaw : (S : Type 0) → Type 0
KeptByListLaw S = (old new : Filter S) (operations : List Operation) (hash : ℕ)
    (replies : List Bool) → CarriesOut old operations new replies
    → All (Spares (positions_of anywhere old hash)) operations
    → contains anywhere old hash ≡ true → contains anywhere new hash ≡ true

-- a hash that is contained stays contained under a list of inserts
abbrev pub KeptByInsertsLaw : (S : Type 0) → Type 0
KeptByInsertsLaw S = (old new : Filter S) (hashes : List ℕ) (hash : ℕ) → InsertsAll old hashes new
    → contains anywhere old hash ≡ true → contains anywhere new hash ≡ true

-- after an intersection a hash is contained exactly if both filters contained it
abbrev pub IntersectionLaw : Placement → (S : Type 0) → Type 0
IntersectionLaw place S = (old other new : Filter S) (hash : ℕ)
    → SameShape old other → Intersects old other new
    → contains place new hash ≡ (contains place old hash && contains place other hash)

-- after a union a hash is contained if either filter contained it
abbrev pub UnionLaw : Placement → (S : Type 0) → Type 0
UnionLaw place S = (old other new : Filter S) (hash : ℕ)
    → SameShape old other → Unites old other new
    → (contains place old hash || contains place other hash) ≡ true
    → contains place new hash ≡ true

-- after a clear no hash is contained, since a filter has at least one hash
abbrev pub ClearLaw : Placement → (S : Type 0) → Type 0
ClearLaw place S = (old new : Filter S) (hash : ℕ) → 1 ≤ old.hashes → Clears old new
    → contains place new hash ≡ false

-- two filters have the same positions set
abbrev pub SameContent : {S : Type 0} → Filter S → Filter S → Type 0
SameContent f g = (p : ℕ) → content f.words p ≡ content g.words p

-- a way to combine two filters, as a relation of both to the filter that is made
abbrev pub Combination : Type 0 → Type 1
Combination S = Filter S → Filter S → Filter S → Type 0

-- a combination makes the same content, whichever of two filters comes first
abbrev pub IsCommutative : (S : Type 0) → Combination S → Type 0
IsCommutative S M = (f g fg gf : Filter S) → M f g fg → M g f gf → SameContent fg gf

-- a combination of three filters makes the same content, whichever two are combined first
abbrev pub IsAssociative : (S : Type 0) → Combination S → Type 0
IsAssociative S M = (f g h fg fg_h gh f_gh : Filter S)
    → M f g fg → M fg h fg_h → M g h gh → M f gh f_gh → SameContent fg_h f_gh

-- a combination of a filter with itself has that filter's content
abbrev pub IsIdempotent : (S : Type 0) → Combination S → Type 0
IsIdempotent S M = (f made : Filter S) → M f f made → SameContent made f

-- a filter was made of another's words, number of hashes (0 counts as 1) and hasher
pub record Rebuilds {S : Type 0} (f made : Filter S) : Type 0 where
  pub words : made.words ≡ f.words
  pub hashes : made.hashes ≡ max 1 f.hashes
  pub hasher : made.hasher ≡ f.hasher

-- a filter that was made of another's parts equals it, and contains the same hashes
abbrev pub RebuiltLaw : (S : Type 0) → Type 0
RebuiltLaw S = (f made : Filter S) → HasShape f → Rebuilds f made
    → (made ≡ f) × ((hash : ℕ) → contains anywhere made hash ≡ contains anywhere f hash)

-- filters are equal exactly if their words and numbers of hashes are, whatever their hashers
abbrev pub EqualityLaw : (S : Type 0) → Type 0
EqualityLaw S = (f g : Filter S)
    → IsTrue (same_filter f g) ↔ ((f.words ≡ g.words) × (f.hashes ≡ g.hashes))

-- filters of one shape, of words of 64 bits, are equal exactly if they have the same positions set
abbrev pub EqualContentLaw : (S : Type 0) → Type 0
EqualContentLaw S = (f g : Filter S) → AreWords f.words → AreWords g.words → SameShape f g
    → IsTrue (same_filter f g) ↔ SameContent f g

-- builders are equal exactly if their words are, whatever their hashers
abbrev pub EqualStartsLaw : (S : Type 0) → Type 0
EqualStartsLaw S = (a b : Start S) → IsTrue (same_start a b) ↔ (a.words ≡ b.words)

-- builders of a rate are equal exactly if the cross products of their rates are
abbrev pub EqualRateStartsLaw : (S : Type 0) → Type 0
EqualRateStartsLaw S = (a b : RateStart S) → IsTrue (same_rate_start a b)
    ↔ (num_of a.rate * den_of b.rate ≡ num_of b.rate * den_of a.rate)

-- two lists of commands, carried out one after the other, do what one list of both does
abbrev pub JoinedListsLaw : (S : Type 0) → Type 0
JoinedListsLaw S = (old mid new : Filter S) (first second : List Operation)
    (replies more : List Bool) → CarriesOut old first mid replies → CarriesOut mid second new more
    → CarriesOut old (first ++ second) new (replies ++ more)

-- a hash is found after commands that insert it and later spare its positions
abbrev pub FoundLaw : (S : Type 0) → Type 0
FoundLaw S = (old new : Filter S) (earlier later : List Operation) (hash : ℕ)
    (replies : List Bool) → CarriesOut old (earlier ++ Insert hash ∷ later) new replies
    → All (Spares (positions_of anywhere old hash)) later
    → contains anywhere new hash ≡ true

-- each hash of a list of inserts is contained after them
abbrev pub FoundAfterInsertsLaw : (S : Type 0) → Type 0
FoundAfterInsertsLaw S = (old new : Filter S) (earlier later : List ℕ) (hash : ℕ)
    → InsertsAll old (earlier ++ hash ∷ later) new → contains anywhere new hash ≡ true

-- a hash is found after `replay` of a list of commands that insert it and later spare its positions
abbrev pub FoundAfterReplayLaw : (S : Type 0) → Type 0
FoundAfterReplayLaw S = (old new : Filter S) (earlier later : List (Command S))
    (hash : ℕ) (replies : List Bool)
    → CarriesOut old (map operation_of (earlier ++ command.Insert hash ∷ later)) new replies
    → All (λ c. Spares (positions_of anywhere old hash) (operation_of c)) later
    → contains anywhere new hash ≡ true

-- the union of two filters, each made of one filter by a list of inserts, is what the inserts of
-- both lists make of that filter
abbrev pub UnitedInsertsLaw : (S : Type 0) → Type 0
UnitedInsertsLaw S = (old one other new : Filter S) (hashes others : List ℕ)
    → InsertsAll old hashes one → InsertsAll old others other → Unites one other new
    → InsertsAll old (hashes ++ others) new
